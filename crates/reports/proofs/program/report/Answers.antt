-- As `whole_input` says.
use Rattle.std.proofs.Common.{arith}
use Rattle.reports.proofs.Whole.{whole_input}
use Rattle.reports.proofs.program.report.Goals as goal

pub returns : goal.returns
returns g c =
    let read = c.in_ok-n.ensures in
    λ room. rw c.printed.ensures (whole_input g.P.Program.says (g.R.Read.remaining c.args.from.now) _ c.read_full.new.buf c.in_ok-n.n read.bound.0 (omega arith) read.bytes read.end)
