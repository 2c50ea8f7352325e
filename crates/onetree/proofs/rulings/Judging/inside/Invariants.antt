-- The loop keeps `Forcing`, of the labels that the queue has had so far.
use Rattle.std.proofs.Common.{◌+◌}
use Rattle.onetree.specs.Candidates.{BelowRoot}
use Rattle.onetree.specs.HungTree.{queue_of}
use Rattle.onetree.specs.Forcing.{Forcing}
use Rattle.onetree.specs.Answers.{ruling_bytes}
use Rattle.onetree.proofs.rulings.Judging.inside.Given as goal

abbrev pub invariant-loop-v : goal.invariant-loop-v
invariant-loop-v l = Forcing (BelowRoot (queue_of l.self.hung.now) (l.v-index + 1)) l.self.tree.lists.now.charges l.self.hung.now.edge l.cheapest l.self.slack (ruling_bytes l.initial.res) (ruling_bytes l.res)
