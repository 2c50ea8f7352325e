-- Two rows with no number in both and clear past m: what they say word by word; a number set or cleared in the one; how many are in neither. Assumes nothing.
use Rattle.std.specs.Prelude.{◌≡◌, ◌↔◌, Bool, true, false, not, ◌&&◌, List, ℕ, suc, ◌+◌, ◌-◌, ◌*◌, ◌^◌, ◌≤◌, ◌<◌, get_or}
use Rattle.std.proofs.Common.{sym, ap, ap₂, ◌∙◌, arith}
use Rattle.std.proofs.Math.Decide.{dec_le, ℕ_discrete}
use Rattle.std.proofs.Math.ListN.{get_or-eq_default}
use Rattle.std.specs.Int.Bits.{bit_and, and_lt}
use Rattle.lists.specs.Bools.{and_no_left, and_no_right}
use Rattle.bits.specs.Digits.{bit_of, bit_past, zero_bit, bit_ext, low_lt}
use Rattle.bits.specs.Words.{and-bit}
use Rattle.bits.specs.Counting.{count}
use Rattle.bits.specs.Rows.{word_no, bit_no, digit, digit_at, Row, row_ones}
use Rattle.bits.proofs.Rows.{ones_clear}
use Rattle.bits.specs.Marking.{with_bit, without_bit}
use Rattle.bits.proofs.Marking.{with_row, with_there, without-row, without_here, without_there}
use Rattle.bits.specs.Pairs.{Clear, Apart, apart_from_one, three_parts, Pair}

-- a row is clear past m exactly where each word i is below 2 ^ (m − 64 · i): 1, so that it is 0, for the words past m's
pub clear_words : (W m : ℕ) (r : List ℕ) → Row W r → Clear m r ↔ ((i : ℕ) → i < W → get_or r i 0 < 2 ^ (m - 64 * i))
unfolding digit
clear_words W m r h = (
  λ c i l. low_lt 64 (m - 64 * i) (get_or r i 0) (h.fits i) (λ j b. go c i j b (dec_le (suc j) 64)),
  λ w k l. back w k l (dec_le (suc (word_no k)) W),
)
  where
    go : Clear m r → (i j : ℕ) → m - 64 * i ≤ j → Dec (j < 64) → bit_of (get_or r i 0) j ≡ false
    go c i j b (yes s) = sym (digit_at r i j s) ∙ c (suc (64 * i + j)) (omega arith)
    go c i j b (no s) = bit_past 64 (get_or r i 0) j (h.fits i) (omega arith)

    back : ((i : ℕ) → i < W → get_or r i 0 < 2 ^ (m - 64 * i)) → (k : ℕ) → m < k → Dec (word_no k < W) → digit r k ≡ false
    back w k l (yes s) = bit_past (m - 64 * word_no k) (get_or r (word_no k) 0) (bit_no k) (w (word_no k) s) (omega arith)
    back w k l (no s) =
        ap (λ (x : ℕ). bit_of x (bit_no k)) (get_or-eq_default r 0 {n = word_no k} (omega (arith, h.size))) ∙ zero_bit (bit_no k)

-- ---- no digit in common

-- two rows have none in common exactly where the words at each place have none
pub apart_words : (W : ℕ) (r s : List ℕ) → Row W r → Row W s
    → Apart r s ↔ ((i : ℕ) → i < W → bit_and (get_or r i 0) (get_or s i 0) ≡ 0)
unfolding digit
apart_words W r s hr hs = (
  λ c i l.
      bit_ext 64 (bit_and (get_or r i 0) (get_or s i 0)) 0 (and_lt 64 (get_or r i 0) (get_or s i 0) (hr.fits i) (hs.fits i)) (omega arith)
      (λ j b.
      and-bit (get_or r i 0) (get_or s i 0) j
      ∙ ap₂ (λ (x y : Bool). x && y) (sym (digit_at r i j b)) (sym (digit_at s i j b))
      ∙ c (suc (64 * i + j))
      ∙ sym (zero_bit j)),
  λ w k. back w k (dec_le (suc (word_no k)) W),
)
  where
    back : ((i : ℕ) → i < W → bit_and (get_or r i 0) (get_or s i 0) ≡ 0) → (k : ℕ) → Dec (word_no k < W) → digit r k && digit s k ≡ false
    back w k (yes b) =
        sym (and-bit (get_or r (word_no k) 0) (get_or s (word_no k) 0) (bit_no k))
        ∙ ap (λ (x : ℕ). bit_of x (bit_no k)) (w (word_no k) b)
        ∙ zero_bit (bit_no k)
    back w k (no b) =
        and_no_left _ _
        (ap (λ (x : ℕ). bit_of x (bit_no k)) (get_or-eq_default r 0 {n = word_no k} (omega (arith, hr.size))) ∙ zero_bit (bit_no k))

-- a number of 1 to m that is in neither may go into the one; and one may come out
module _ (W m : ℕ) (r s : List ℕ) (p : Pair W m r s) (k : ℕ) (l : 1 ≤ k) (u : k ≤ m) where
  in_words : k ≤ 64 * W
  in_words = omega (arith, p.within)

  pub pair_with : digit r k ≡ false → digit s k ≡ false → Pair W m (with_bit r k) s
  pair_with c e = record {
    within = p.within;
    first = with_row W r p.first k l in_words c;
    second = p.second;
    apart = apart_from_one (with_bit r k) s (λ i b. alone i b (ℕ_discrete i k));
    clear₁ = λ i b. with_there W r p.first k l in_words c i (omega arith) (omega arith) ∙ p.clear₁ i b;
    clear₂ = p.clear₂;
  }
    where
      alone : (i : ℕ) → 1 ≤ i → Dec (i ≡ k) → digit (with_bit r k) i && digit s i ≡ false
      alone i b (yes f) = and_no_right (digit (with_bit r k) i) (digit s i) (ap (digit s) f ∙ e)
      alone i b (no f) =
          ap (λ (x : Bool). x && digit s i) (with_there W r p.first k l in_words c i b f) ∙ p.apart i

  pub pair_without : digit r k ≡ true → Pair W m (without_bit r k) s
  pair_without c = record {
    within = p.within;
    first = without-row W r p.first k l in_words c;
    second = p.second;
    apart = apart_from_one (without_bit r k) s (λ i b. alone i b (ℕ_discrete i k));
    clear₁ = λ i b. without_there W r p.first k l in_words c i (omega arith) (omega arith) ∙ p.clear₁ i b;
    clear₂ = p.clear₂;
  }
    where
      alone : (i : ℕ) → 1 ≤ i → Dec (i ≡ k) → digit (without_bit r k) i && digit s i ≡ false
      alone i b (yes f) =
          and_no_left (digit (without_bit r k) i) (digit s i)
          (ap (digit (without_bit r k)) f ∙ without_here W r p.first k l in_words c)
      alone i b (no f) =
          ap (λ (x : Bool). x && digit s i) (without_there W r p.first k l in_words c i b f) ∙ p.apart i

-- THE NUMBER IN NEITHER: "m less the set bits of both rows"
pub neither : (W m : ℕ) (r s : List ℕ) → Pair W m r s → count m (λ k. not (digit r k) && not (digit s k)) ≡ m - row_ones r - row_ones s
neither W m r s p =
    omega (
      arith,
      three_parts m (digit r) (digit s) p.apart,
      ones_clear W m r p.first p.within p.clear₁,
      ones_clear W m s p.second p.within p.clear₂,
    )

-- and there are never more set bits than m
pub ones_most : (W m : ℕ) (r s : List ℕ) → Pair W m r s → row_ones r + row_ones s ≤ m
ones_most W m r s p =
    omega (
      arith,
      three_parts m (digit r) (digit s) p.apart,
      ones_clear W m r p.first p.within p.clear₁,
      ones_clear W m s p.second p.within p.clear₂,
    )
