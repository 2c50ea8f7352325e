-- What the tree call refuses comes first; where it refuses nothing, the graph has no more edges than there are places.
use Rattle.std.proofs.Common.{sym}
use Rattle.std.proofs.lemmas.Result.{err_from_is_err_and}
use Rattle.graph.specs.Refusals.{positive}
use Rattle.reduction.specs.Accepting.{tree_accepted}
use Rattle.preview.specs.Faults.{of_tree, of_edge}
use Rattle.preview.proofs.asked.Goals as goal

pub returns-in_err-tree_fault-clause-fault : goal.returns-in_err-tree_fault-clause-fault
returns-in_err-tree_fault-clause-fault c =
    let p = err_from_is_err_and c.from_residual.result c.from_residual.ensures.1 in
    rw (p.1, p.2) (of_tree _ _ _ _ _ _ _ _ c.in_err-tree_fault.ensures (positive c.in_err-tree_fault.field-0.0))

pub free_edge-requires : goal.free_edge-requires
free_edge-requires c =
    let a = c.args in
    (tree_accepted a.g.now a.multipliers.now a.ashore.now a.lent a.denominator (sym c.in_ok-tree_fault.ensures)).0.valid.few

pub returns-clause-fault : goal.returns-clause-fault
returns-clause-fault c = of_edge _ _ _ _ _ _ _ _ c.in_ok-tree_fault.ensures c.free_edge.ensures.fault
