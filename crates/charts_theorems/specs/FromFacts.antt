-- Where the plain facts hold, there is no fault: the other way round from NoFault.antt of crate charts. Needed to show that a file is read.
-- Assumes nothing.
use Rattle.std.specs.Prelude.{ℕ, ◌+◌, ◌≡◌, Bool, List, length, get_or}
use Rattle.std.proofs.Common.{le-ltb, le-leb, eq-eqb}
use Rattle.graph.specs.declared.Graph.{Graph}
use Rattle.graph.specs.Limits.{min_vertices, max_vertices, max_mark, max_records}
use Rattle.charts.specs.Chart.{
  header_size,
  vertices,
  record_count,
  size_of,
  start_of,
  cost_at,
  header_fault,
  body_fault,
  record_fault,
}
use Rattle.graph.specs.Meaning.{ends_of}
use Rattle.charts.specs.NoFault.{HeaderOk, BodyOk, RecordOk}

pub header_none : (s : List ℕ) → HeaderOk s → header_fault s ≡ 0
unfolding header_fault
header_none s o =
    rw (
      le-ltb (length s) header_size o.long,
      le-leb min_vertices (vertices s) o.low,
      le-leb (vertices s) max_vertices o.high,
      eq-eqb (get_or s 1 0) 0 o.zero1,
      eq-eqb (get_or s 6 0) 0 o.zero6,
      eq-eqb (get_or s 7 0) 0 o.zero7,
      le-leb (record_count s) max_records o.few,
      eq-eqb (length s) (size_of (record_count s)) o.size,
    )

pub body_none : (s : List ℕ) (n p : ℕ) → BodyOk s n p → body_fault s n p ≡ 0
unfolding body_fault
body_none s n p o =
    rw (
      ends_of n (get_or s p 0) (get_or s (p + 1) 0) (cost_at s p) (get_or s (p + 2) 0) o.edge,
      le-leb (get_or s (p + 2) 0) max_mark o.edge.known,
      eq-eqb (get_or s (p + 3) 0) 0 o.zero3,
      eq-eqb (get_or s (p + 10) 0) 0 o.zero10,
      eq-eqb (get_or s (p + 11) 0) 0 o.zero11,
      o.edge.range,
    )

pub record_none : (s : List ℕ) (met : List Bool) (g : Graph) (k : ℕ) → RecordOk s met g k → record_fault s met g k ≡ 0
unfolding record_fault
record_none s met g k o =
    rw (le-ltb (record_count s) k o.under, o.unmet, body_none s g.n (start_of k) o.body, o.new)
