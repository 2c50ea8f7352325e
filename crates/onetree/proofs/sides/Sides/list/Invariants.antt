-- The edges that the loop has met have their bits.
use Rattle.std.proofs.Common.{◌≡◌, replicate}
use Rattle.onetree.specs.Masks.{Overs}
use Rattle.onetree.proofs.sides.Sides.list.Given as goal

abbrev pub invariant-loop-j : goal.invariant-loop-j
invariant-loop-j l = Overs l.swapping l.ins l.self.near l.self.over l.j × (l.self.below ≡ replicate 21 0)
