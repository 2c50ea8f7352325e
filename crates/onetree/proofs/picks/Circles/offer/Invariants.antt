-- How far the bits are taken off, and the best up to there.
use Rattle.std.proofs.Common.{ℕ, length, get_or}
use Rattle.onetree.specs.Picks.{meets_by}
use Rattle.onetree.specs.Masks.{BitsTo, WalkTo, Offering}
use Rattle.onetree.proofs.picks.Circles.offer.Given as goal

abbrev pub invariant-loop-bits : goal.invariant-loop-bits
invariant-loop-bits l =
    (word : ℕ) × BitsTo word (length l.self.ins.now) (λ j. meets_by l.self.swapping (get_or l.self.ins.now j 0) l.k)
    × WalkTo (Offering l.self.swapping l.self.ins.now l.k l.initial.bests l.bests l.best) (length l.self.ins.now) word l.bits

abbrev pub decreases-loop-bits : goal.decreases-loop-bits
decreases-loop-bits l = l.bits
