-- The loop gives place after place its last byte, from the one that stood there.
use Rattle.lists.specs.FilledFrom.{Updated}
use Rattle.onetree.specs.Ruled.{final_at}
use Rattle.onetree.specs.Answers.{ruling_bytes}
use Rattle.onetree.proofs.rulings.Judging.finish.Given as goal

abbrev pub invariant-loop-k : goal.invariant-loop-k
invariant-loop-k l = Updated (final_at l.self.tree.graph.now.mark (ruling_bytes l.initial.res)) (ruling_bytes l.initial.res) (ruling_bytes l.res) l.k
