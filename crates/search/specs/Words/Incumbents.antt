-- Laws of the incumbent's bytes: an incumbent is read back from its bytes, and bytes from their incumbent. Assumes nothing.
use Rattle.std.specs.Prelude.{◌≡◌, refl, Bool, true, false, cond, List, ℕ, zero, suc, ◌≤◌, ◌<◌, eqb, length, get_or}
use Rattle.std.proofs.Common.{sym, ap, ◌∙◌, arith}
use Rattle.std.proofs.Math.Decide.{dec_le}
use Rattle.std.proofs.Math.ListN.{get_or-eq_default}
use Rattle.lists.specs.Bools.{bit, bit_most, bit_back}
use Rattle.lists.specs.Fill.{fill, fill-size, fill-at, fill_past, fill_is, replicate-at, replicate_is}
use Rattle.graph.specs.Limits.{max_edges}
use Rattle.machine.specs.Outcomes.{Incumbent, no_tour, a_tour}
use Rattle.machine.specs.Kept.{Sized}
use Rattle.search.specs.Record.{bits, best_of, has_incumbent, best_bytes}
use Rattle.search.specs.Canonical.{Zeros, Bits}

pub byte_back : (k : ℕ) → k ≤ 1 → bit (eqb k 1) ≡ k
byte_back zero h = refl
byte_back (suc zero) h = refl
byte_back (suc (suc k)) h = absurd (omega arith)

-- a flag that is not 1 is 0
pub flag_off : (k : ℕ) → k ≤ 1 → eqb k 1 ≡ false → k ≡ 0
flag_off k h e = sym (byte_back k h) ∙ ap bit e

pub bits-size : (m : ℕ) (w : List ℕ) → length (bits m w) ≡ m
unfolding bits
bits-size m w = fill-size m (λ i. eqb (get_or w i 0) 1)

pub bits_at : (m : ℕ) (w : List ℕ) (i : ℕ) → i < m → get_or (bits m w) i false ≡ eqb (get_or w i 0) 1
unfolding bits
bits_at m w i h = fill-at m (λ j. eqb (get_or w j 0) 1) i false h

bits_past : (m : ℕ) (w : List ℕ) (i : ℕ) → m ≤ i → get_or (bits m w) i false ≡ false
unfolding bits
bits_past m w i h = fill_past m (λ j. eqb (get_or w j 0) 1) i false h

-- ---- from an incumbent

pub best_back : (m : ℕ) (i : Incumbent (List Bool)) → m ≤ max_edges → Sized m i → best_of m (has_incumbent i) (best_bytes i) ≡ i
unfolding best_of has_incumbent best_bytes bits
best_back m no_tour h z = refl
best_back m (a_tour r) h z =
    ap a_tour
    (fill_is m (λ i. eqb (get_or (fill max_edges (λ j. bit (get_or r j false))) i 0) 1) r false z
    (λ i b. ap (λ (k : ℕ). eqb k 1) (fill-at max_edges (λ j. bit (get_or r j false)) i 0 (omega arith)) ∙ bit_back (get_or r i false)))

pub best-bits : (i : Incumbent (List Bool)) → Bits (best_bytes i)
unfolding best_bytes
best-bits no_tour k h = omega (arith, replicate-at {A = ℕ} max_edges 0 k)
best-bits (a_tour r) k h = rw (fill-at max_edges (λ j. bit (get_or r j false)) k 0 h) (bit_most (get_or r k false))

pub best_zeros : (m : ℕ) (i : Incumbent (List Bool)) → Sized m i → Zeros 0 max_edges (cond (has_incumbent i) m 0) (best_bytes i)
unfolding best_bytes has_incumbent
best_zeros m no_tour z k h b = replicate-at {A = ℕ} max_edges 0 k
best_zeros m (a_tour r) z k h b =
    fill-at max_edges (λ j. bit (get_or r j false)) k 0 h ∙ ap bit (get_or-eq_default r false (omega (arith, z)))

-- ---- from bytes

pub best_sized : (m : ℕ) (b : Bool) (w : List ℕ) → Sized m (best_of m b w)
unfolding best_of
best_sized m true w = bits-size m w
best_sized m false w = tt

pub has_back : (m : ℕ) (b : Bool) (w : List ℕ) → has_incumbent (best_of m b w) ≡ b
unfolding best_of has_incumbent
has_back m true w = refl
has_back m false w = refl

pub bytes_back : (m : ℕ) (b : Bool) (w : List ℕ) → length w ≡ max_edges → Bits w → Zeros 0 max_edges (cond b m 0) w
    → best_bytes (best_of m b w) ≡ w
unfolding best_of best_bytes
bytes_back m false w e one out = replicate_is max_edges 0 w e (λ i h. out i h (omega arith))
bytes_back m true w e one out = fill_is max_edges (λ i. bit (get_or (bits m w) i false)) w 0 e (λ i h. go i h (dec_le (suc i) m))
  where
    go : (i : ℕ) → i < max_edges → Dec (i < m) → bit (get_or (bits m w) i false) ≡ get_or w i 0
    go i h (yes b) = ap bit (bits_at m w i b) ∙ byte_back (get_or w i 0) (one i h)
    go i h (no b) = ap bit (bits_past m w i (omega arith)) ∙ sym (out i h (omega arith))
