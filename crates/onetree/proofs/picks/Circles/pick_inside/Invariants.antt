-- The edges of the tree that the loop has met have their best.
use Rattle.std.proofs.Common.{List, ℕ, length, true}
use Rattle.onetree.specs.Picks.{PicksTo}
use Rattle.onetree.specs.Masks.{BestsTo}
use Rattle.onetree.proofs.picks.Circles.pick_inside.Given as goal

abbrev pub invariant-loop-j : goal.invariant-loop-j
invariant-loop-j l = (outs : List ℕ) → BestsTo l.self.swapping l.self.ins.now outs l.bests (length outs)
    → PicksTo l.self.swapping true l.self.ins.now outs l.initial.picks l.picks l.lows l.j
