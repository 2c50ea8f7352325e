-- Label by label.
use Rattle.std.proofs.Common.{length}
use Rattle.onetree.specs.Masks.{Overs, Sided}
use Rattle.onetree.proofs.sides.Sides.fill.Given as goal

abbrev pub invariant-loop-x : goal.invariant-loop-x
invariant-loop-x l = Sided l.swapping l.ins l.self.near l.self.below l.x × Overs l.swapping l.ins l.self.near l.self.over (length l.ins)
