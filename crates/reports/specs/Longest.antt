-- An input longer than any chart file can be is refused as its first bytes are: one byte more than the longest file tells a program all.
-- A program reads so many bytes and no more. Assumes nothing.
use Rattle.std.specs.Prelude.{ℕ, ◌+◌, ◌<◌, ◌≤◌, ◌≡◌, refl, Bool, true, false, not, cond, ◌&&◌, List, ltb, leb, eqb, ℤ, length, get_or, take}
use Rattle.std.proofs.Math.Path.{sym}
use Rattle.std.proofs.Common.{◌∙◌, ap, arith, take_all, get_or-take, le-ltb, ltb-true, ltb-false, leb-true, ne_eqb}
use Rattle.std.proofs.Math.ListN.{length-take, length-drop}
use Rattle.std.proofs.Math.Seq.{get_or-drop}
use Rattle.lists.specs.Bools.{by_cases}
use Rattle.graph.specs.declared.Graph.{Graph}
use Rattle.graph.specs.Limits.{min_vertices, max_vertices, max_records}
use Rattle.charts.specs.Chart.{u32_at, vertices, record_count, size_of, header_fault, reading}
use Rattle.reports.specs.Input.{ceiling_size, u64_at, ceiling_of, chart_of, printed}

-- the longest file: "record count r (u16, at most 1,000)"
abbrev pub longest_chart : ℕ
longest_chart = size_of max_records

-- one byte more than the longest input: what a program reads
abbrev pub enough : ℕ
enough = ceiling_size + longest_chart + 1

-- of a file that is too long: 2, 3 or 4
long_fault : List ℕ → ℕ
long_fault s =
    cond (not (leb min_vertices (vertices s) && leb (vertices s) max_vertices)) 2
    (cond (not (eqb (get_or s 1 0) 0 && (eqb (get_or s 6 0) 0 && eqb (get_or s 7 0) 0))) 3 4)

one_of : (a b : Bool) → eqb (cond a 2 (cond b 3 4)) 0 ≡ false
one_of true b = refl
one_of false true = refl
one_of false false = refl

no_size : (s : List ℕ) → longest_chart < length s → leb (record_count s) max_records && eqb (length s) (size_of (record_count s)) ≡ false
no_size s h =
    by_cases (leb (record_count s) max_records)
    (λ t. rw (t, ne_eqb (length s) (size_of (record_count s)) (λ e. omega (arith, leb-true (record_count s) max_records t))))
    (λ t. rw t)

long_fault_lem : (s : List ℕ) → longest_chart < length s → header_fault s ≡ long_fault s
unfolding header_fault long_fault
long_fault_lem s h = rw (le-ltb (length s) 8 (omega arith), no_size s h)

-- two such files with the same header are refused the same
same-refusal : (s t : List ℕ) → longest_chart < length s → longest_chart < length t → ((i : ℕ) → i < 8 → get_or s i 0 ≡ get_or t i 0)
    → reading s ≡ reading t
unfolding reading long_fault
same-refusal s t h k e =
    let f : long_fault s ≡ long_fault t = rw (e 0 (omega arith), e 1 (omega arith), e 6 (omega arith), e 7 (omega arith)) in
    rw (long_fault_lem s h, long_fault_lem t k, f, one_of _ _)

-- the first bytes of an input have its ceiling and its header
module _ (s : List ℕ) where
  first : (i : ℕ) → i < enough → get_or (take enough s) i 0 ≡ get_or s i 0
  first i h = get_or-take enough s i 0 h

  same-four : (i : ℕ) → i + 3 < enough → u32_at (take enough s) i ≡ u32_at s i
  unfolding u32_at
  same-four i h = rw (first i (omega arith), first (i + 1) (omega arith), first (i + 2) (omega arith), first (i + 3) (omega arith))

  same_ceiling : ceiling_of (take enough s) ≡ ceiling_of s
  unfolding ceiling_of u64_at
  same_ceiling = rw (same-four 0 (omega arith), same-four 4 (omega arith))

  same_header : (i : ℕ) → i < 8 → get_or (chart_of (take enough s)) i 0 ≡ get_or (chart_of s) i 0
  unfolding chart_of
  same_header i h =
      get_or-drop ceiling_size (take enough s) i 0 ∙ first (ceiling_size + i) (omega arith) ∙ sym (get_or-drop ceiling_size s i 0)

  long_same : enough ≤ length s → reading (chart_of (take enough s)) ≡ reading (chart_of s)
  unfolding chart_of
  long_same h =
      same-refusal (chart_of (take enough s)) (chart_of s)
      (omega (arith, length-drop ceiling_size (take enough s), length-take enough s)) (omega (arith, length-drop ceiling_size s)) same_header

-- what is printed of an input is what is printed of its first bytes
pub first-bytes : (text : ℤ → Graph → List ℕ) (s : List ℕ) → printed text (take enough s) ≡ printed text s
unfolding printed
first-bytes text s =
    by_cases (ltb (length s) enough)
    (λ t. ap (λ (l : List ℕ). printed text l) (take_all enough s (omega (arith, ltb-true (length s) enough t))))
    (λ t. rw (
      same_ceiling s,
      long_same s (ltb-false (length s) enough t),
      le-ltb (length (take enough s)) ceiling_size (omega (arith, ltb-false (length s) enough t, length-take enough s)),
      le-ltb (length s) ceiling_size (omega (arith, ltb-false (length s) enough t)),
    ))
