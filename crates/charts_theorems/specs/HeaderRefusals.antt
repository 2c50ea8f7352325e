-- The header's refusals, 1 to 4: the fault that the definition computes is the first that applies, and the other way round. Assumes
-- nothing.
use Rattle.std.specs.Prelude.{ℕ, ◌≡◌, true, false, ◌&&◌, List, length, get_or, ltb, leb, eqb}
use Rattle.std.proofs.Common.{true≢false, ltb-true, ltb-false, leb-true, eqb-true, lt-ltb, le-ltb, le-leb, eq-eqb}
use Rattle.lists.specs.Bools.{by_cases, and_both}
use Rattle.graph.specs.Limits.{min_vertices, max_vertices, max_records}
use Rattle.charts.specs.Chart.{header_size, vertices, record_count, size_of, header_fault}
use Rattle.charts.specs.NoFault.{HeaderOk}
use Rattle.charts_theorems.specs.FirstFault.{
  VerticesOk,
  HeaderZeros,
  LengthOk,
  HeaderFine,
  HeaderRefusal,
  one,
  two,
  three,
  four,
}

pub header_fine : (s : List ℕ) → HeaderOk s → HeaderFine s
header_fine s o =
    record {
      long = o.long;
      size = record { low = o.low; high = o.high };
      zeros = record { byte1 = o.zero1; byte6 = o.zero6; byte7 = o.zero7 };
      whole = record { few = o.few; size = o.size };
    }

vertices_yes : (s : List ℕ) → leb min_vertices (vertices s) && leb (vertices s) max_vertices ≡ true → VerticesOk s
vertices_yes s t =
    let p = and_both (leb min_vertices (vertices s)) (leb (vertices s) max_vertices) t in
    record { low = leb-true min_vertices (vertices s) p.0; high = leb-true (vertices s) max_vertices p.1 }

vertices_no : (s : List ℕ) → leb min_vertices (vertices s) && leb (vertices s) max_vertices ≡ false → VerticesOk s → ⊥
vertices_no s t o =
    true≢false (rw (le-leb min_vertices (vertices s) o.low, le-leb (vertices s) max_vertices o.high) at t)

zeros_yes : (s : List ℕ) → eqb (get_or s 1 0) 0 && (eqb (get_or s 6 0) 0 && eqb (get_or s 7 0) 0) ≡ true → HeaderZeros s
zeros_yes s t =
    let p = and_both (eqb (get_or s 1 0) 0) (eqb (get_or s 6 0) 0 && eqb (get_or s 7 0) 0) t in
    let q = and_both (eqb (get_or s 6 0) 0) (eqb (get_or s 7 0) 0) p.1 in
    record { byte1 = eqb-true (get_or s 1 0) 0 p.0; byte6 = eqb-true (get_or s 6 0) 0 q.0; byte7 = eqb-true (get_or s 7 0) 0 q.1 }

zeros_no : (s : List ℕ) → eqb (get_or s 1 0) 0 && (eqb (get_or s 6 0) 0 && eqb (get_or s 7 0) 0) ≡ false → HeaderZeros s → ⊥
zeros_no s t o =
    true≢false (rw (eq-eqb (get_or s 1 0) 0 o.byte1, eq-eqb (get_or s 6 0) 0 o.byte6, eq-eqb (get_or s 7 0) 0 o.byte7) at t)

length_yes : (s : List ℕ) → leb (record_count s) max_records && eqb (length s) (size_of (record_count s)) ≡ true → LengthOk s
length_yes s t =
    let p = and_both (leb (record_count s) max_records) (eqb (length s) (size_of (record_count s))) t in
    record { few = leb-true (record_count s) max_records p.0; size = eqb-true (length s) (size_of (record_count s)) p.1 }

length_no : (s : List ℕ) → leb (record_count s) max_records && eqb (length s) (size_of (record_count s)) ≡ false → LengthOk s → ⊥
length_no s t o = true≢false (rw (le-leb (record_count s) max_records o.few, eq-eqb (length s) (size_of (record_count s)) o.size) at t)

pub header_refusal : (s : List ℕ) → (header_fault s ≡ 0 → ⊥) → HeaderRefusal s (header_fault s)
unfolding header_fault
header_refusal s h =
    let tv = leb min_vertices (vertices s) && leb (vertices s) max_vertices in
    let tz = eqb (get_or s 1 0) 0 && (eqb (get_or s 6 0) 0 && eqb (get_or s 7 0) 0) in
    let tl = leb (record_count s) max_records && eqb (length s) (size_of (record_count s)) in
    by_cases (ltb (length s) header_size) (λ t. rw t (one (ltb-true (length s) header_size t)))
    (λ t. let long = ltb-false (length s) header_size t in
    by_cases tv
    (λ u. by_cases tz
    (λ v. by_cases tl
    (λ w. absurd (h (rw (t, u, v, w))))
    (λ w. rw (t, u, v, w) (four long (vertices_yes s u) (zeros_yes s v) (length_no s w))))
    (λ v. rw (t, u, v) (three long (vertices_yes s u) (zeros_no s v))))
    (λ u. rw (t, u) (two long (vertices_no s u))))

-- ---- and the other way round

pub fine_header : (s : List ℕ) → HeaderFine s → HeaderOk s
fine_header s f =
    record {
      long = f.long;
      low = f.size.low;
      high = f.size.high;
      zero1 = f.zeros.byte1;
      zero6 = f.zeros.byte6;
      zero7 = f.zeros.byte7;
      few = f.whole.few;
      size = f.whole.size;
    }

module _ (s : List ℕ) where
  vertices_test : VerticesOk s → leb min_vertices (vertices s) && leb (vertices s) max_vertices ≡ true
  vertices_test o = by_cases _ (λ t. t) (λ t. absurd (vertices_no s t o))

  no_vertices_test : (VerticesOk s → ⊥) → leb min_vertices (vertices s) && leb (vertices s) max_vertices ≡ false
  no_vertices_test n = by_cases _ (λ t. absurd (n (vertices_yes s t))) (λ t. t)

  zeros_test : HeaderZeros s → eqb (get_or s 1 0) 0 && (eqb (get_or s 6 0) 0 && eqb (get_or s 7 0) 0) ≡ true
  zeros_test o = by_cases _ (λ t. t) (λ t. absurd (zeros_no s t o))

  no_zeros_test : (HeaderZeros s → ⊥) → eqb (get_or s 1 0) 0 && (eqb (get_or s 6 0) 0 && eqb (get_or s 7 0) 0) ≡ false
  no_zeros_test n = by_cases _ (λ t. absurd (n (zeros_yes s t))) (λ t. t)

  no_length_test : (LengthOk s → ⊥) → leb (record_count s) max_records && eqb (length s) (size_of (record_count s)) ≡ false
  no_length_test n = by_cases _ (λ t. absurd (n (length_yes s t))) (λ t. t)

  pub header_given : (e : ℕ) → HeaderRefusal s e → header_fault s ≡ e
  unfolding header_fault
  header_given e (one l) = rw (lt-ltb (length s) header_size l)
  header_given e (two l n) = rw (le-ltb (length s) header_size l, no_vertices_test n)
  header_given e (three l v n) = rw (le-ltb (length s) header_size l, vertices_test v, no_zeros_test n)
  header_given e (four l v z n) = rw (le-ltb (length s) header_size l, vertices_test v, zeros_test z, no_length_test n)
