-- Membership by places, which are counted from 0. Assumes nothing.
use Rattle.std.specs.Prelude.{◌≡◌, refl, List, [], ◌∷◌, ℕ, zero, suc, ◌<◌, length, get_or}
use Rattle.std.proofs.Common.{inl, inr, arith}
use Rattle.lists.specs.Members.{◌∈◌}

module _ {A : Type 0} where
  pub at_in : (l : List A) (i : ℕ) (z : A) → i < length l → get_or l i z ∈ l
  at_in [] i z h = absurd (omega arith)
  at_in (x ∷ l) zero z h = inl refl
  at_in (x ∷ l) (suc i) z h = inr (at_in l i z (omega arith))

  pub in_at : (l : List A) (z x : A) → x ∈ l → (i : ℕ) × (i < length l) × (x ≡ get_or l i z)
  in_at [] z x m = absurd m
  in_at (y ∷ l) z x (inl e) = (0, omega arith, e)
  in_at (y ∷ l) z x (inr m) = let r = in_at l z x m in (suc r.0, omega (arith, r.1), r.2)
