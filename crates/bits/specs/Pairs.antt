-- Two rows for the numbers 1 to m, "with no leg in both and every bit past leg m clear". (What the two say word by word, so that code can
-- test it, and how many numbers are in neither: proofs/Pairs.) Assumes nothing.
use Rattle.std.specs.Prelude.{◌≡◌, refl, Bool, true, false, not, ◌&&◌, List, ℕ, zero, suc, ◌+◌, ◌*◌, ◌≤◌, ◌<◌}
use Rattle.std.proofs.Common.{◌∙◌, true≢false, arith}
use Rattle.std.proofs.Math.Bool.{and_comm}
use Rattle.lists.specs.Bools.{bit}
use Rattle.lists.specs.Select.{select}
use Rattle.lists.specs.Numbers.{up_to}
use Rattle.bits.specs.Counting.{count, count-top}
use Rattle.bits.specs.Rows.{digit, Row}

-- "every bit past leg m clear"
abbrev pub Clear : ℕ → List ℕ → Type 0
Clear m r = (k : ℕ) → m < k → digit r k ≡ false

-- "no leg in both"
abbrev pub Apart : List ℕ → List ℕ → Type 0
Apart r s = (k : ℕ) → digit r k && digit s k ≡ false

-- it is enough to look at the numbers from 1
pub apart_from_one : (r s : List ℕ) → ((k : ℕ) → 1 ≤ k → digit r k && digit s k ≡ false) → Apart r s
unfolding digit
apart_from_one r s h zero = h 1 (omega arith)
apart_from_one r s h (suc k) = h (suc k) (omega arith)

-- ---- those in neither

-- of 1 to m, each is in the one, in the other or in neither
pub three_parts : (m : ℕ) (f h : ℕ → Bool) → ((k : ℕ) → f k && h k ≡ false)
    → count m (λ k. not (f k) && not (h k)) + count m f + count m h ≡ m
unfolding select up_to
three_parts zero f h c = refl
three_parts (suc m) f h c = go (f (suc m)) (h (suc m)) (c (suc m)) (three_parts m f h c)
    (count-top m (λ k. not (f k) && not (h k))) (count-top m f) (count-top m h)
  where
    go : (x y : Bool) → x && y ≡ false
        → count m (λ k. not (f k) && not (h k)) + count m f + count m h ≡ m
        → count (suc m) (λ k. not (f k) && not (h k)) ≡ bit (not x && not y) + count m (λ k. not (f k) && not (h k))
        → count (suc m) f ≡ bit x + count m f
        → count (suc m) h ≡ bit y + count m h
        → count (suc m) (λ k. not (f k) && not (h k)) + count (suc m) f + count (suc m) h ≡ suc m
    go true true d i p q s = absurd (true≢false d)
    go true false d i p q s = omega arith
    go false true d i p q s = omega arith
    go false false d i p q s = omega arith

-- two rows for 1 to m
pub record Pair (W m : ℕ) (r s : List ℕ) : Type 0 where
  pub within : m ≤ 64 * W
  pub first : Row W r
  pub second : Row W s
  pub apart : Apart r s
  pub clear₁ : Clear m r
  pub clear₂ : Clear m s

pub swapped : (W m : ℕ) (r s : List ℕ) → Pair W m r s → Pair W m s r
swapped W m r s p = record {
  within = p.within;
  first = p.second;
  second = p.first;
  apart = λ k. and_comm (digit s k) (digit r k) ∙ p.apart k;
  clear₁ = p.clear₂;
  clear₂ = p.clear₁;
}
