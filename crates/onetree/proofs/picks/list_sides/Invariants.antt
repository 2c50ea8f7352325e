-- The places below k are listed.
use Rattle.onetree.specs.Masks.{ListedTo}
use Rattle.onetree.proofs.picks.list_sides.Given as goal

abbrev pub invariant-loop-k : goal.invariant-loop-k
invariant-loop-k l = ListedTo l.tree.graph.now.mark l.tree.lists.now.tree l.ins.items l.outs.items l.k
