-- The edges outside that the loop has met have their best, and those of the tree the best of these.
use Rattle.std.proofs.Common.{false}
use Rattle.onetree.specs.Picks.{PicksTo}
use Rattle.onetree.specs.Masks.{BestsTo}
use Rattle.onetree.proofs.picks.Circles.pick_outside.Given as goal

abbrev pub invariant-loop-e : goal.invariant-loop-e
invariant-loop-e l = PicksTo l.self.swapping false l.outs l.self.ins.now l.initial.picks l.picks l.lows l.e-index
    × BestsTo l.self.swapping l.self.ins.now l.outs l.bests l.e-index
