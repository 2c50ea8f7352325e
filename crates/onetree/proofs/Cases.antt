-- The greater and the lesser of two numbers are one of them.
use Rattle.std.proofs.Common.{◌≡◌, refl, ℕ, ◌⊎◌, inl, inr, min, max}
use Rattle.spanning.specs.Roots.{of_max, of_min}

pub max_is : (a b : ℕ) → (max a b ≡ a) ⊎ (max a b ≡ b)
max_is a b = of_max (λ x. (x ≡ a) ⊎ (x ≡ b)) a b (inl refl) (inr refl)

pub min_is : (a b : ℕ) → (min a b ≡ a) ⊎ (min a b ≡ b)
min_is a b = of_min (λ x. (x ≡ a) ⊎ (x ≡ b)) a b (inl refl) (inr refl)
