-- A list at the front of an array, and one value behind it: what `padded` makes, of any length. Assumes nothing.
use Rattle.std.proofs.Common.{◌≡◌, ℕ, suc, ◌+◌, ◌-◌, ◌<◌, List, ◌++◌, length, get_or, take, drop, replicate, min, sym, ◌∙◌, arith}
use Rattle.std.proofs.Math.Decide.{dec_le}
use Rattle.std.proofs.Math.ListN.{get_or-append, get_or-eq_default}
use Rattle.std.proofs.lemmas.List.{length-append, length-drop, length-take, length-replicate, get_or-append_right, get_or-drop, get_or-take}
use Rattle.lists.specs.Fill.{fit, fill_is, replicate-at}

pub behind : {A : Type 0} (z : A) (n k : ℕ) (d : List A) → k ≡ min (length d) n → take k d ++ drop k (replicate n z) ≡ fit n z d
unfolding fit
behind {A} z n k d few = sym (fill_is n (λ i. get_or d i z) whole z size (λ i h. sym (at i h (dec_le (suc i) k))))
  where
    whole : List A
    whole = take k d ++ drop k (replicate n z)

    front : length (take k d) ≡ k
    front = length-take k d ∙ omega (arith, few)

    size : length whole ≡ n
    size = omega (arith, few, front, length-append (take k d) (drop k (replicate n z)), length-drop k (replicate n z), length-replicate n z)

    at : (i : ℕ) → i < n → Dec (i < k) → get_or whole i z ≡ get_or d i z
    at i l (yes h) = get_or-append (take k d) _ z i (omega (arith, front)) ∙ get_or-take k d i z h
    at i l (no h) =
        get_or-append_right (take k d) (drop k (replicate n z)) k i z front (omega arith)
        ∙ get_or-drop k (replicate n z) (i - k) z
        ∙ replicate-at n z (k + (i - k))
        ∙ sym (get_or-eq_default d z (omega (arith, few)))
