-- The marks of the graph of the active vertices are those that count.
use Rattle.std.proofs.Common.{ap, ◌∙◌}
use Rattle.mark_rows.specs.MarkRows.{rows_of}
use Rattle.search.specs.Vertices.{marks_moved}
use Rattle.afloat.specs.Over.{ashore}
use Rattle.search.proofs.vertices.struck_rows.Goals as goal

pub returns : goal.returns
returns c =
    let a = c.args.afloat.now in
    c.rows_of.ensures ∙ ap rows_of (marks_moved (ashore a.ashore.now) a.graph.now _ c.reduced-moved.ensures.network)
