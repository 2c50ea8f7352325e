-- What the tests of Chart.antt rule out: where a fault is 0, the plain facts of the header, of a record, of its place in the chain, and
-- of a graph to write. Assumes nothing.
use Rattle.std.specs.Prelude.{ℕ, ◌+◌, ◌-◌, ◌≤◌, ◌≡◌, Bool, false, not, cond, ◌&&◌, List, length, get_or, ltb, leb, eqb}
use Rattle.std.proofs.Common.{arith, ltb-false, leb-true, eqb-true}
use Rattle.std.proofs.lemmas.Bool.{eqb-false, not-false}
use Rattle.lists.specs.Bools.{by_cases, and_both, cond_zero}
use Rattle.integers.specs.Range.{within}
use Rattle.graph.specs.declared.Graph.{Graph}
use Rattle.graph.specs.Limits.{min_vertices, max_vertices, max_cost, max_mark, max_records}
use Rattle.graph.specs.Valid.{EdgeValid, Valid, ends_ok, pair_met, valid}
use Rattle.charts.specs.Chart.{
  header_size,
  vertices,
  record_count,
  size_of,
  start_of,
  cost_at,
  header_fault,
  body_fault,
  record_fault,
  write_fault,
}
use Rattle.graph.specs.Meaning.{edge_of, valid_true}

pub record HeaderOk (s : List ℕ) : Type 0 where
  pub long : header_size ≤ length s
  pub low : min_vertices ≤ vertices s
  pub high : vertices s ≤ max_vertices
  pub zero1 : get_or s 1 0 ≡ 0
  pub zero6 : get_or s 6 0 ≡ 0
  pub zero7 : get_or s 7 0 ≡ 0
  pub few : record_count s ≤ max_records
  pub size : length s ≡ size_of (record_count s)

pub header_ok : (s : List ℕ) → header_fault s ≡ 0 → HeaderOk s
unfolding header_fault
header_ok s h =
    let p = cond_zero (ltb (length s) header_size) 1 _ (omega arith) h in
    let q = cond_zero (not (leb min_vertices (vertices s) && leb (vertices s) max_vertices)) 2 _ (omega arith) p.1 in
    let r = cond_zero (not (eqb (get_or s 1 0) 0 && (eqb (get_or s 6 0) 0 && eqb (get_or s 7 0) 0))) 3 _ (omega arith) q.1 in
    let t = cond_zero (not (leb (record_count s) max_records && eqb (length s) (size_of (record_count s)))) 4 0 (omega arith) r.1 in
    let n = and_both (leb min_vertices (vertices s)) (leb (vertices s) max_vertices) (not-false _ q.0) in
    let z = and_both (eqb (get_or s 1 0) 0) (eqb (get_or s 6 0) 0 && eqb (get_or s 7 0) 0) (not-false _ r.0) in
    let y = and_both (eqb (get_or s 6 0) 0) (eqb (get_or s 7 0) 0) z.1 in
    let l = and_both (leb (record_count s) max_records) (eqb (length s) (size_of (record_count s))) (not-false _ t.0) in
    record {
      long = ltb-false (length s) header_size p.0;
      low = leb-true min_vertices (vertices s) n.0;
      high = leb-true (vertices s) max_vertices n.1;
      zero1 = eqb-true (get_or s 1 0) 0 z.0;
      zero6 = eqb-true (get_or s 6 0) 0 y.0;
      zero7 = eqb-true (get_or s 7 0) 0 y.1;
      few = leb-true (record_count s) max_records l.0;
      size = eqb-true (length s) (size_of (record_count s)) l.1;
    }

-- of the record that starts at p
pub record BodyOk (s : List ℕ) (n p : ℕ) : Type 0 where
  pub edge : EdgeValid n (get_or s p 0) (get_or s (p + 1) 0) (cost_at s p) (get_or s (p + 2) 0)
  pub zero3 : get_or s (p + 3) 0 ≡ 0
  pub zero10 : get_or s (p + 10) 0 ≡ 0
  pub zero11 : get_or s (p + 11) 0 ≡ 0

pub body_ok : (s : List ℕ) (n p : ℕ) → body_fault s n p ≡ 0 → BodyOk s n p
unfolding body_fault
body_ok s n p h =
    let q = cond_zero (not (ends_ok n (get_or s p 0) (get_or s (p + 1) 0))) 7 _ (omega arith) h in
    let z = eqb (get_or s (p + 3) 0) 0 && (eqb (get_or s (p + 10) 0) 0 && eqb (get_or s (p + 11) 0) 0) in
    let r = cond_zero (not (leb (get_or s (p + 2) 0) max_mark && z)) 8 _ (omega arith) q.1 in
    let t = cond_zero (not (within max_cost (cost_at s p))) 9 0 (omega arith) r.1 in
    let m = and_both (leb (get_or s (p + 2) 0) max_mark) z (not-false _ r.0) in
    let y = and_both (eqb (get_or s (p + 3) 0) 0) (eqb (get_or s (p + 10) 0) 0 && eqb (get_or s (p + 11) 0) 0) m.1 in
    let x = and_both (eqb (get_or s (p + 10) 0) 0) (eqb (get_or s (p + 11) 0) 0) y.1 in
    record {
      edge =
          edge_of n (get_or s p 0) (get_or s (p + 1) 0) (cost_at s p) (get_or s (p + 2) 0) (not-false _ q.0) (not-false _ t.0)
          (leb-true (get_or s (p + 2) 0) max_mark m.0);
      zero3 = eqb-true (get_or s (p + 3) 0) 0 y.0;
      zero10 = eqb-true (get_or s (p + 10) 0) 0 x.0;
      zero11 = eqb-true (get_or s (p + 11) 0) 0 x.1;
    }

-- of record k, where the records met are `met` and the edges so far g's
pub record RecordOk (s : List ℕ) (met : List Bool) (g : Graph) (k : ℕ) : Type 0 where
  pub under : k ≤ record_count s
  pub unmet : get_or met (k - 1) false ≡ false
  pub body : BodyOk s g.n (start_of k)
  pub new : pair_met g.a g.b g.m (get_or s (start_of k) 0) (get_or s (start_of k + 1) 0) ≡ false

-- a fault that goes before another
fault_zero : (e x : ℕ) → cond (not (eqb e 0)) e x ≡ 0 → (e ≡ 0) × (x ≡ 0)
fault_zero e x h =
    by_cases (eqb e 0) (λ t. (eqb-true e 0 t, (rw t at h)))
    (λ t. let q : e ≡ 0 = (rw t at h) in absurd (eqb-false e 0 t q))

pub record_ok : (s : List ℕ) (met : List Bool) (g : Graph) (k : ℕ) → record_fault s met g k ≡ 0 → RecordOk s met g k
unfolding record_fault
record_ok s met g k h =
    let p = cond_zero (ltb (record_count s) k) 5 _ (omega arith) h in
    let q = cond_zero (get_or met (k - 1) false) 6 _ (omega arith) p.1 in
    let r = fault_zero (body_fault s g.n (start_of k)) _ q.1 in
    let t = cond_zero (pair_met g.a g.b g.m (get_or s (start_of k) 0) (get_or s (start_of k + 1) 0)) 10 0 (omega arith) r.1 in
    record {
      under = ltb-false (record_count s) k p.0;
      unmet = q.0;
      body = body_ok s g.n (start_of k) r.0;
      new = t.0;
    }

pub write_ok : (g : Graph) (len : ℕ) → write_fault g len ≡ 0 → Valid g × (len ≡ size_of g.m)
unfolding write_fault
write_ok g len h =
    let p = cond_zero (not (valid g)) 15 _ (omega arith) h in
    let q = cond_zero (not (eqb len (size_of g.m))) 11 0 (omega arith) p.1 in
    (valid_true g (not-false (valid g) p.0), eqb-true len (size_of g.m) (not-false (eqb len (size_of g.m)) q.0))
