-- Its five pieces.
use Rattle.std.proofs.Common.{arith, append_assoc}
use Rattle.reports.proofs.Pieces.{refused_pieces}
use Rattle.reports.proofs.lines.refused.Goals as goal

pub returns : goal.returns
returns c =
    let line = refused_pieces c.from.result c.unwrap_or.result (omega arith) (omega arith) in
    rw (← c.from.ensures, ← c.unwrap_or.ensures, line) (simp (append_assoc, c.labelled_two.ensures))
