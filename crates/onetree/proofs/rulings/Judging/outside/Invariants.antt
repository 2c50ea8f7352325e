-- The loop keeps `RuledOutside`.
use Rattle.onetree.specs.HungTree.{rooting_of}
use Rattle.onetree.specs.Outside.{RuledOutside}
use Rattle.onetree.specs.Answers.{ruling_bytes}
use Rattle.onetree.proofs.rulings.Judging.outside.Given as goal

abbrev pub invariant-loop-k : goal.invariant-loop-k
invariant-loop-k l =
    RuledOutside l.self.tree.graph.now l.self.tree.lists.now.tree l.self.tree.lists.now.charges l.self.tree.lists.now.labels (rooting_of l.self.hung.now)
    l.self.near.cheapest l.self.slack (ruling_bytes l.res) l.cheapest l.k
