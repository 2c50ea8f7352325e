-- What stands at each place of the bytes that the writer writes, read as the reader reads it. Assumes nothing.
use Rattle.std.specs.Prelude.{ℕ, zero, suc, ◌+◌, ◌-◌, ◌*◌, ◌/◌, ◌%◌, ◌<◌, ◌≤◌, ◌≡◌, refl, length, ltb, pos}
use Rattle.std.proofs.Common.{◌∙◌, add-one, length-append, get_or-append-add, ltb-true, ltb-false, lt-ltb, le-ltb}
use native.Mathlib.Omega.{arith}
use Rattle.std.proofs.Math.ListN.{get_or, get_or-append}
use Rattle.lists.specs.Bools.{by_cases}
use Rattle.integers.specs.Range.{within_range}
use Rattle.graph.specs.declared.Graph.{Graph}
use Rattle.graph.specs.Limits.{max_cost}
use Rattle.graph.specs.Valid.{Valid}
use Rattle.charts.specs.Chart.{
  u16_at,
  u32_at,
  bits_of,
  size_of,
  start_of,
  cost_at,
  next_of,
  after,
  header_bytes,
  record_bytes,
  records_bytes,
  file_bytes,
}
use Rattle.charts.specs.NoFault.{HeaderOk, BodyOk}
use Rattle.charts_theorems.specs.Digits.{join2, join4, signed_bits}

-- ---- what follows k of m

pub after_low : (k m : ℕ) → k < m → after k m ≡ suc k
unfolding after
after_low k m h = rw (lt-ltb k m h) (add-one k)

pub after-top : (k m : ℕ) → m ≤ k → after k m ≡ 0
unfolding after
after-top k m h = rw (le-ltb k m h)

after-le : (k m : ℕ) → after k m ≤ m
after-le k m =
    by_cases (ltb k m) (λ t. omega (arith, after_low k m (ltb-true k m t), ltb-true k m t))
    (λ t. omega (arith, after-top k m (ltb-false k m t)))

pub start_suc : (k : ℕ) → start_of (suc k) ≡ size_of k
unfolding start_of
start_suc k = let e : suc k - 1 ≡ k = omega arith in rw e

-- ---- places

long_records : (g : Graph) (k : ℕ) → length (records_bytes g k) ≡ 12 * k
unfolding records_bytes record_bytes
long_records g zero = refl
long_records g (suc k) = length-append (records_bytes g k) (record_bytes g k) ∙ (omega (arith, long_records g k))

pub long_file : (g : Graph) → length (file_bytes g) ≡ size_of g.m
unfolding file_bytes header_bytes
long_file g = omega (arith, length-append (header_bytes g.n g.m) (records_bytes g g.m), long_records g g.m)

at_records : (g : Graph) (m k i : ℕ) → k < m → i < 12 → get_or (records_bytes g m) (12 * k + i) 0 ≡ get_or (record_bytes g k) i 0
unfolding records_bytes
at_records g zero k i h j = absurd (omega arith)
at_records g (suc m) k i h j =
    by_cases (ltb k m)
    (λ t. let q : k < m = ltb-true k m t in
    get_or-append (records_bytes g m) (record_bytes g m) 0 (12 * k + i) (omega (arith, long_records g m)) ∙ at_records g m k i q j)
    (λ t. let q : k ≡ m = omega (arith, ltb-false k m t) in
    let e : 12 * k + i ≡ length (records_bytes g m) + i = omega (arith, long_records g m) in
    rw (e, q) (get_or-append-add (records_bytes g m) (record_bytes g m) i 0))

at_record : (g : Graph) (k i : ℕ) → k < g.m → i < 12 → get_or (file_bytes g) (size_of k + i) 0 ≡ get_or (record_bytes g k) i 0
unfolding file_bytes header_bytes
at_record g k i h j =
    let e : size_of k + i ≡ 8 + (12 * k + i) = omega arith in
    rw e (get_or-append-add (header_bytes g.n g.m) (records_bytes g g.m) (12 * k + i) 0 ∙ at_records g g.m k i h j)

at_header : (g : Graph) (i : ℕ) → i < 8 → get_or (file_bytes g) i 0 ≡ get_or (header_bytes g.n g.m) i 0
unfolding file_bytes header_bytes
at_header g i h = get_or-append (header_bytes g.n g.m) (records_bytes g g.m) 0 i h

-- ---- of a valid graph

module _ (g : Graph) (v : Valid g) where
  two_written : (i x : ℕ) → x < 65536 → get_or (file_bytes g) i 0 ≡ x % 256 → get_or (file_bytes g) (i + 1) 0 ≡ x / 256 % 256
      → u16_at (file_bytes g) i ≡ x
  unfolding u16_at
  two_written i x h p q = rw (p, q) (join2 x h)

  pub head_written : u16_at (file_bytes g) 2 ≡ after 0 g.m
  unfolding header_bytes
  head_written =
      two_written 2 (after 0 g.m) (omega (arith, after-le 0 g.m, v.few)) (at_header g 2 (omega arith)) (at_header g 3 (omega arith))

  pub count_written : u16_at (file_bytes g) 4 ≡ g.m
  unfolding header_bytes
  count_written = two_written 4 g.m (omega (arith, v.few)) (at_header g 4 (omega arith)) (at_header g 5 (omega arith))

  pub n_written : get_or (file_bytes g) 0 0 ≡ g.n
  unfolding header_bytes
  n_written = at_header g 0 (omega arith)

  pub header_written : HeaderOk (file_bytes g)
  unfolding header_bytes
  header_written =
      record {
        long = omega (arith, long_file g);
        low = omega (arith, n_written, v.low);
        high = omega (arith, n_written, v.high);
        zero1 = at_header g 1 (omega arith);
        zero6 = at_header g 6 (omega arith);
        zero7 = at_header g 7 (omega arith);
        few = omega (arith, count_written, v.few);
        size = omega (arith, long_file g, count_written);
      }

  module _ (k : ℕ) (h : k < g.m) where
    place : (i : ℕ) → i < 12 → get_or (file_bytes g) (start_of (suc k) + i) 0 ≡ get_or (record_bytes g k) i 0
    place i j = rw (start_suc k) (at_record g k i h j)

    pub next_written : next_of (file_bytes g) (suc k) ≡ after (suc k) g.m
    unfolding next_of record_bytes
    next_written =
        let e : start_of (suc k) + 8 + 1 ≡ start_of (suc k) + 9 = omega arith in
        two_written (start_of (suc k) + 8) (after (suc k) g.m) (omega (arith, after-le (suc k) g.m, v.few))
        (rw (add-one k) at (place 8 (omega arith))) (rw e (rw (add-one k) at (place 9 (omega arith))))

    pub cost_written : cost_at (file_bytes g) (start_of (suc k)) ≡ get_or g.cost k (pos 0)
    unfolding cost_at u32_at record_bytes
    cost_written =
        let p = start_of (suc k) in
        let z = get_or g.cost k (pos 0) in
        let t = signed_bits z (within_range max_cost z (v.each k h).range) in
        let e1 : p + 4 + 1 ≡ p + 5 = omega arith in
        let e2 : p + 4 + 2 ≡ p + 6 = omega arith in
        let e3 : p + 4 + 3 ≡ p + 7 = omega arith in
        rw (
          e1,
          e2,
          e3,
          place 4 (omega arith),
          place 5 (omega arith),
          place 6 (omega arith),
          place 7 (omega arith),
          join4 (bits_of z) t.1,
        ) t.0

    pub a_written : get_or (file_bytes g) (start_of (suc k)) 0 ≡ get_or g.a k 0
    unfolding record_bytes
    a_written = let e : start_of (suc k) + 0 ≡ start_of (suc k) = omega arith in rw e at (place 0 (omega arith))

    pub b_written : get_or (file_bytes g) (start_of (suc k) + 1) 0 ≡ get_or g.b k 0
    unfolding record_bytes
    b_written = place 1 (omega arith)

    pub mark_written : get_or (file_bytes g) (start_of (suc k) + 2) 0 ≡ get_or g.mark k 0
    unfolding record_bytes
    mark_written = place 2 (omega arith)

    pub body_written : BodyOk (file_bytes g) g.n (start_of (suc k))
    unfolding record_bytes
    body_written =
        record {
          edge = rw (a_written, b_written, mark_written, cost_written) (v.each k h);
          zero3 = place 3 (omega arith);
          zero10 = place 10 (omega arith);
          zero11 = place 11 (omega arith);
        }
