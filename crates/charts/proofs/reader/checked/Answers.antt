-- The faults of the record are those of its bytes.
use Rattle.std.specs.Prelude.{◌+◌, ◌-◌, ◌*◌}
use Rattle.std.proofs.Common.{arith}
use Rattle.std.proofs.lemmas.Bool.Decides.{nat_tests}
use Rattle.graph.specs.Refusals.{positive}
use Rattle.charts.specs.Chart.{start_of, record_fault}
use Rattle.charts.specs.Records.{body_is}
use Rattle.charts.proofs.reader.checked.Goals as goal

pub returns-in_err-fault-clause-fault : goal.returns-in_err-fault-clause-fault
unfolding record_fault start_of
returns-in_err-fault-clause-fault c =
    let body = body_is c.args.s.now c.args.g.now.n (8 + 12 * (c.args.k - 1)) c.at-record.result c.at-record.ensures in
    grind (arith, nat_tests, positive)
