-- Laws of the form of a graph's bytes that no proof cites today: a number's 32 bits by its sign, and records stored one after the other. Assumes nothing.
use Rattle.std.specs.Prelude.{ℕ, suc, ◌+◌, ◌-◌, ◌<◌, ◌≤◌, ◌≡◌, refl, true, false, T, List, ◌++◌, length, take, drop, ℤ, pos, negsuc, ◌-ℤ◌, neg_ℤ, nat_abs}
use Rattle.std.proofs.Common.{sym, ◌∙◌, ap, true≢false, arith, ltb-true, append_assoc, append-nil, add-one, length-append, take_at, take_all, length-take-le}
use Rattle.std.specs.Int.Signed.{lt_z, mag, non_neg}
use Rattle.std.proofs.lemmas.List.Edits.{sets, sets-eq}
use Rattle.integers.specs.Parts.{dn, eq_of_parts, add_parts, neg-up, neg-dn}
use Rattle.graph.specs.declared.Graph.{Graph}
use Rattle.charts.specs.Chart.{bits_of, size_of, header_bytes, record_bytes, records_bytes}

-- ---- a number's bits

-- −1 − d
pub down : (d : ℕ) → negsuc 0 -ℤ pos d ≡ negsuc d
down d =
    eq_of_parts (negsuc 0 -ℤ pos d) (negsuc d) (omega (arith, add_parts (negsuc 0) (neg_ℤ (pos d)), neg-up (pos d), neg-dn (pos d)))

-- −1 − z, of a negative z
pub flip : (z : ℤ) → lt_z z (pos 0) ≡ true → negsuc 0 -ℤ z ≡ pos (dn z - 1)
flip (pos n) h = absurd (let q : n < 0 = ltb-true n 0 h in omega arith)
flip (negsuc n) h =
    eq_of_parts (negsuc 0 -ℤ negsuc n) (pos n) (omega (arith, add_parts (negsuc 0) (pos (suc n)))) ∙ ap pos (omega arith)

pub bits_negative : (z : ℤ) → lt_z z (pos 0) ≡ true → mag z < 2147483648 → (4294967295 - (dn z - 1) ≡ bits_of z) × (dn z - 1 < 2147483648)
unfolding bits_of
bits_negative (pos n) h m = absurd (let q : n < 0 = ltb-true n 0 h in omega arith)
bits_negative (negsuc n) h m = (omega arith, omega arith)

pub bits_natural : (z : ℤ) → lt_z z (pos 0) ≡ false → mag z < 2147483648 → (nat_abs z ≡ bits_of z) × (nat_abs z < 2147483648)
unfolding bits_of
bits_natural (pos n) h m = (refl, m)
bits_natural (negsuc n) h m = absurd (true≢false h)

pub natural : (z : ℤ) → lt_z z (pos 0) ≡ false → T (non_neg z)
natural (pos n) h = tt
natural (negsuc n) h = absurd (true≢false h)

-- ---- records stored in a list, each behind the one before it

grown : (l xs : List ℕ) (i : ℕ) → i + length xs ≤ length l → take (i + length xs) (sets l i xs) ≡ take i l ++ xs
grown l xs i h =
    rw (sets-eq xs l i h)
    (take_at (take i l ++ xs) (drop (i + length xs) l) (i + length xs)
    (length-append (take i l) xs ∙ ap (λ (k : ℕ). k + length xs) (length-take-le i l (omega arith))))

pub write_start : (n m : ℕ) (g : Graph) (out : List ℕ) → 8 ≤ length out
    → take (size_of 0) (sets out 0 (header_bytes n m)) ≡ header_bytes n m ++ records_bytes g 0
unfolding header_bytes records_bytes
write_start n m g out h = grown out (header_bytes n m) 0 h ∙ sym (append-nil (header_bytes n m))

pub write_step : (h : List ℕ) (g : Graph) (out : List ℕ) (k : ℕ) → 12 + size_of k ≤ length out
    → take (size_of k) out ≡ h ++ records_bytes g k
    → take (size_of (k + 1)) (sets out (size_of k) (record_bytes g k)) ≡ h ++ records_bytes g (k + 1)
unfolding record_bytes records_bytes
write_step h g out k b e =
    let q : size_of (k + 1) ≡ size_of k + 12 = omega arith in
    rw q (grown out (record_bytes g k) (size_of k) (omega arith) ∙ ap (λ (l : List ℕ). l ++ record_bytes g k) e
    ∙ append_assoc h (records_bytes g k) (record_bytes g k) ∙ ap (λ (i : ℕ). h ++ records_bytes g i) (sym (add-one k)))

pub write_end : (out t : List ℕ) (n : ℕ) → length out ≡ n → take n out ≡ t → out ≡ t
write_end out t n h e = sym (take_all n out (omega arith)) ∙ e
