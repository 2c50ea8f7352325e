-- Its eight pieces.
use Rattle.std.proofs.Common.{arith, append_assoc}
use Rattle.reports.proofs.Pieces.{edge_pieces}
use Rattle.onetree.specs.Answers.{byte_of}
use Rattle.reports.proofs.lines.edge.Goals as goal

pub returns : goal.returns
returns c =
    rw (edge_pieces c.args.k c.args.a c.args.b (byte_of c.args.ruling) (omega arith) (omega arith) (omega arith), ← c.word_of.ensures.word)
    (simp (append_assoc, c.new-line.ensures, c.push_str-5.ensures.bytes, c.push_str-4.ensures.bytes, c.push_str-3.ensures.bytes, c.push_number-3.ensures.text, c.push_str-2.ensures.bytes, c.push_number-2.ensures.text, c.push_str.ensures.bytes, c.push_number.ensures.text))
