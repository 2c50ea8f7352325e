-- The two rows of a node's marks, and the marks in two rows, once for any number of edges m and of words W with m ≤ 64 · W: edge by edge,
-- and the required edges. (There and back, the excluded and the free edges: proofs/TwoRows.)
use Rattle.std.specs.Prelude.{◌≡◌, refl, Bool, true, ◌&&◌, List, length}
use Rattle.std.proofs.Math.Path.{sym, ap, ap₂}
use Rattle.std.proofs.Common.{◌∙◌}
use Rattle.std.proofs.Math.Bool.{false}
use Prim.Native.Nat.{ℕ, zero, suc, ◌*◌, ◌≤◌, ◌<◌}
use native.Mathlib.Omega.{arith}
use Rattle.std.proofs.Math.Decide.{dec_le}
use Rattle.std.proofs.Math.ListN.{get_or-eq_default}
use Rattle.lists.specs.Bools.{and_no_left}
use Rattle.lists.specs.Select.{select}
use Rattle.lists.specs.Numbers.{up_to}
use Rattle.lists.specs.Rows.{row, row-size, row_at}
use Rattle.bits.specs.Counting.{count, count_low, count_same}
use Rattle.bits.specs.Rows.{digit, digit_past, row_of-row, digit-row_of, row_ones}
use Rattle.bits.proofs.Rows.{row_of_clear, row_ext, ones_clear}
use Rattle.bits.specs.Pairs.{Apart, apart_from_one, Pair}
use Rattle.graph.specs.Network.{Network, Mark, free, required, excluded}
use Rattle.tree_theory.specs.Valid.{is_required, is_excluded}
use Rattle.machine.specs.Machine.{Marks, marks_of, with_marks}
use Rattle.machine.specs.Requireds.{requireds}
use Rattle.mark_rows.specs.MarkRows.{mark_at, required_row, excluded_row, mark_bits, marks_in_pair}

bits_apart : (y : Mark) → is_required y && is_excluded y ≡ false
bits_apart free = refl
bits_apart required = refl
bits_apart excluded = refl

mark_required : (b e : Bool) → b && e ≡ false → is_required (mark_bits b e) ≡ b
mark_required true true h = sym h
mark_required true false h = refl
mark_required false true h = refl
mark_required false false h = refl

pub past_marks : (x : Marks) (k : ℕ) → length x < k → mark_at x k ≡ free
past_marks x zero h = refl
past_marks x (suc k) h = get_or-eq_default x free {n = k} (omega arith)

-- ---- edge by edge

module _ (m : ℕ) (r s : List ℕ) where
  pub marks-size : length (marks_in_pair m r s) ≡ m
  unfolding marks_in_pair
  marks-size = row-size m (λ k. mark_bits (digit r k) (digit s k))

  -- EACH EDGE'S MARK IS THAT OF ITS TWO DIGITS
  pub marks-at : (k : ℕ) → 1 ≤ k → k ≤ m → mark_at (marks_in_pair m r s) k ≡ mark_bits (digit r k) (digit s k)
  unfolding marks_in_pair
  marks-at zero l u = absurd (let z : suc 0 ≤ 0 = omega arith in omega arith)
  marks-at (suc k) l u = row_at m (λ i. mark_bits (digit r i) (digit s i)) k free (omega arith)

  -- so the digits tell each mark
  pub required_at : Apart r s → (k : ℕ) → 1 ≤ k → k ≤ m → is_required (mark_at (marks_in_pair m r s) k) ≡ digit r k
  required_at c k l u = ap is_required (marks-at k l u) ∙ mark_required (digit r k) (digit s k) (c k)

-- ---- from marks to rows and back

module _ (W : ℕ) (x : Marks) where
  pub required_row-at : (k : ℕ) → 1 ≤ k → k ≤ 64 * W → digit (required_row W x) k ≡ is_required (mark_at x k)
  unfolding required_row
  required_row-at k l u = digit-row_of W (λ i. is_required (mark_at x i)) k l u

  pub excluded_row-at : (k : ℕ) → 1 ≤ k → k ≤ 64 * W → digit (excluded_row W x) k ≡ is_excluded (mark_at x k)
  unfolding excluded_row
  excluded_row-at k l u = digit-row_of W (λ i. is_excluded (mark_at x i)) k l u

  -- the rows of marks are as document 02 wants them
  pub rows_pair : length x ≤ 64 * W → Pair W (length x) (required_row W x) (excluded_row W x)
  unfolding required_row excluded_row
  rows_pair h = record {
    within = h;
    first = row_of-row W (λ i. is_required (mark_at x i));
    second = row_of-row W (λ i. is_excluded (mark_at x i));
    apart = apart_from_one (required_row W x) (excluded_row W x) (λ k l. go k l (dec_le k (64 * W)));
    clear₁ = λ k l. row_of_clear W (λ i. is_required (mark_at x i)) k (omega arith) (ap is_required (past_marks x k l));
    clear₂ = λ k l. row_of_clear W (λ i. is_excluded (mark_at x i)) k (omega arith) (ap is_excluded (past_marks x k l));
  }
    where
      go : (k : ℕ) → 1 ≤ k → Dec (k ≤ 64 * W) → digit (required_row W x) k && digit (excluded_row W x) k ≡ false
      go k l (yes u) =
          ap₂ (λ (a b : Bool). a && b) (required_row-at k l u) (excluded_row-at k l u) ∙ bits_apart (mark_at x k)
      go k l (no u) =
          and_no_left (digit (required_row W x) k) (digit (excluded_row W x) k)
          (digit_past (required_row W x) k (omega (arith, (row_of-row W (λ i. is_required (mark_at x i))).size)))

module _ (W m : ℕ) (r s : List ℕ) (p : Pair W m r s) where
  -- ROWS, TO MARKS AND BACK
  pub required_again : required_row W (marks_in_pair m r s) ≡ r
  unfolding required_row
  required_again =
      row_ext W (required_row W (marks_in_pair m r s)) r (row_of-row W (λ i. is_required (mark_at (marks_in_pair m r s) i))) p.first
      (λ k l u. required_row-at W (marks_in_pair m r s) k l u ∙ go k l (dec_le k m))
    where
      go : (k : ℕ) → 1 ≤ k → Dec (k ≤ m) → is_required (mark_at (marks_in_pair m r s) k) ≡ digit r k
      go k l (yes u) = required_at m r s p.apart k l u
      go k l (no u) =
          ap is_required (past_marks (marks_in_pair m r s) k (omega (arith, marks-size m r s))) ∙ sym (p.clear₁ k (omega arith))

-- ---- the free edges

pub count_zero : (h : ℕ → Bool) → count 0 h ≡ 0
unfolding select up_to
count_zero h = refl

-- ---- the required edges

requireds-row : (m : ℕ) (f : ℕ → Mark) → requireds (row m f) ≡ count m (λ k. is_required (f k))
unfolding requireds row
requireds-row zero f = sym (count_zero (λ k. is_required (f k)))
requireds-row (suc m) f = omega (arith, count_low m (λ k. is_required (f k)), requireds-row m (λ k. f (suc k)))

-- as many as the set bits of their row
pub requireds_pair : (W m : ℕ) (r s : List ℕ) → Pair W m r s → requireds (marks_in_pair m r s) ≡ row_ones r
unfolding marks_in_pair
requireds_pair W m r s p =
    requireds-row m (λ k. mark_bits (digit r k) (digit s k))
    ∙ count_same m (λ k. is_required (mark_bits (digit r k) (digit s k))) (digit r)
    (λ k l u. mark_required (digit r k) (digit s k) (p.apart k))
    ∙ sym (ones_clear W m r p.first p.within p.clear₁)

-- ---- the network of a node and the first node

pub node_mark : (g : Network) (r s : List ℕ) (k : ℕ) → 1 ≤ k → k ≤ g.m
    → (with_marks g (marks_in_pair g.m r s)).mark k ≡ mark_bits (digit r k) (digit s k)
unfolding with_marks
node_mark g r s k l u = marks-at g.m r s k l u

first_mark : (g : Network) (k : ℕ) → 1 ≤ k → k ≤ g.m → mark_at (marks_of g) k ≡ g.mark k
unfolding marks_of
first_mark g zero l u = absurd (let z : suc 0 ≤ 0 = omega arith in omega arith)
first_mark g (suc k) l u = row_at g.m g.mark k free (omega arith)

pub first_required : (W : ℕ) (g : Network) → g.m ≤ 64 * W → (k : ℕ) → 1 ≤ k → k ≤ g.m
    → digit (required_row W (marks_of g)) k ≡ is_required (g.mark k)
first_required W g h k l u = required_row-at W (marks_of g) k l (omega arith) ∙ ap is_required (first_mark g k l u)

pub first_excluded : (W : ℕ) (g : Network) → g.m ≤ 64 * W → (k : ℕ) → 1 ≤ k → k ≤ g.m
    → digit (excluded_row W (marks_of g)) k ≡ is_excluded (g.mark k)
first_excluded W g h k l u = excluded_row-at W (marks_of g) k l (omega arith) ∙ ap is_excluded (first_mark g k l u)
