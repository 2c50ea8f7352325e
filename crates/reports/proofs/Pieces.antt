-- Each line as its pieces, the last one innermost, with its numbers as std prints them: as it is written.
use Rattle.std.proofs.Common.{◌≡◌, ℕ, ◌++◌, append_assoc, arith, ◌^◌, ◌<◌}
use Rattle.std.specs.Prelude.{ℤ}
use Rattle.std.specs.Fmt as std
use Rattle.std.specs.Int.Signed.{mag}
use Rattle.machine.specs.Calls.{best}
use Rattle.reports.specs.Text.{ascii, refused_line, edge_line, ruling_word, verdict_line, nodes_line}
use Rattle.reports.specs.Numbers.{decimal_is, signed_decimal_is}

pub refused_pieces : (n p : ℕ) → n < 2 ^ 64 → p < 2 ^ 64
    → refused_line n p ≡ ascii "refused " ++ (std.decimal n ++ (ascii " at " ++ (std.decimal p ++ ascii "\n")))
unfolding refused_line
refused_pieces n p h k = rw (decimal_is n h, decimal_is p k) (simp append_assoc)

pub edge_pieces : (k a b ruling : ℕ) → k < 256 → a < 256 → b < 256
    → edge_line k a b ruling
    ≡ std.decimal k ++ (ascii " " ++ (std.decimal a ++ (ascii "-" ++ (std.decimal b ++ (ascii " " ++ (ruling_word ruling ++ ascii "\n"))))))
unfolding edge_line
edge_pieces k a b ruling hk ha hb =
    rw (decimal_is k (omega arith), decimal_is a (omega arith), decimal_is b (omega arith)) (simp append_assoc)

pub nodes_pieces : (count : ℕ) → count < 2 ^ 64 → nodes_line count ≡ ascii "nodes " ++ (std.decimal count ++ ascii "\n")
unfolding nodes_line
nodes_pieces count h = rw (decimal_is count h) (simp append_assoc)

pub cost_pieces : (c : ℤ) → mag c < 2 ^ 63 → verdict_line (best c) ≡ ascii "cost " ++ (std.signed_decimal c ++ ascii "\n")
cost_pieces c h = rw (signed_decimal_is c h) (simp append_assoc)
