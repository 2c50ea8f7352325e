-- After k records the list starts with the header and these.
use Rattle.std.specs.Prelude.{◌≡◌, ◌++◌, take}
use Rattle.charts.specs.Chart.{size_of, header_bytes, records_bytes}
use Rattle.charts.proofs.writer.put_all.Given as goal

abbrev pub invariant-loop-k : goal.invariant-loop-k
invariant-loop-k l = take (size_of l.k) l.out ≡ header_bytes l.g.n l.g.m ++ records_bytes l.g l.k
