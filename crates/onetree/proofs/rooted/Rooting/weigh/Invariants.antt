-- The loop keeps `Weighed`, of the labels that the queue has had so far.
use Rattle.std.proofs.Common.{◌≡◌, length}
use Rattle.onetree.specs.Candidates.{BelowRoot, Weighed}
use Rattle.onetree.specs.HungTree.{queue_of}
use Rattle.onetree.proofs.rooted.Rooting.weigh.Given as goal

abbrev pub invariant-loop-i : goal.invariant-loop-i
invariant-loop-i l = (length l.self.weight ≡ 21) × Weighed (BelowRoot (queue_of l.initial.self) l.i) l.charges l.initial.self.edge l.self.weight
    × (l.self ≡ record l.initial.self { weight = l.self.weight })
