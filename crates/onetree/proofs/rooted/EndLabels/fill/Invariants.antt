-- The loop fills both arrays.
use Rattle.std.proofs.Common.{get_or}
use Rattle.lists.specs.FilledFrom.{Updated}
use Rattle.swaps.specs.RootedTree.{label_of}
use Rattle.onetree.proofs.rooted.EndLabels.fill.Given as goal

abbrev pub invariant-loop-k : goal.invariant-loop-k
invariant-loop-k l =
    Updated (λ k. label_of l.tree.lists.now.labels (get_or l.tree.graph.now.a k 0)) l.initial.self.from l.self.from l.k
    × Updated (λ k. label_of l.tree.lists.now.labels (get_or l.tree.graph.now.b k 0)) l.initial.self.to l.self.to l.k
