-- A number that is no byte is past its limit, and past it the graph is refused.
use Rattle.std.proofs.Common.{arith}
use Rattle.graph.specs.Valid.{graph_of}
use Rattle.mark_rows.specs.MarkRows.{marks_in_rows}
use Rattle.node.specs.Marks.{bytes_of}
use Rattle.node.specs.Opened.{taken}
use Rattle.node.specs.Opens.{opens_15}
use Rattle.node.proofs.open_parts.Goals as goal

pub returns-in_default : goal.returns-in_default
returns-in_default c = let a = c.args in
    opens_15 (taken (graph_of a.p.n a.p.m a.a.now a.b.now a.cost.now (bytes_of (marks_in_rows a.p.m a.node.now.rows))) a.p.multipliers a.p.settings) _
    (λ few v. omega (arith, v.high, c.in_default.ensures))

pub returns-in_default-try_from : goal.returns-in_default-try_from
returns-in_default-try_from c = let a = c.args in
    opens_15 (taken (graph_of a.p.n a.p.m a.a.now a.b.now a.cost.now (bytes_of (marks_in_rows a.p.m a.node.now.rows))) a.p.multipliers a.p.settings) _
    (λ few v. omega (arith, few, c.in_default-try_from.ensures))
