-- What holds of every member of a list (std's `AllByRecursion`), and so of what stands under a name. Assumes nothing.
use Rattle.std.specs.Prelude.{◌≡◌, Bool, true, get_or, set, replicate}
use Rattle.std.specs.List.{AllByRecursion, list_all}
use Rattle.std.proofs.Math.Path.{refl}
use mathlib.Core.List.{List, [], ◌∷◌, map}
use Prim.Native.Nat.{ℕ, zero, suc}
use Rattle.lent_records.specs.Places.{under, put}

module _ {A : Type 0} (P : A → Type 0) where
  pub every_replicate : (n : ℕ) (z : A) → P z → AllByRecursion P (replicate n z)
  every_replicate zero z h = tt
  every_replicate (suc n) z h = (h, every_replicate n z h)

  every_set : (l : List A) (k : ℕ) (v : A) → AllByRecursion P l → P v → AllByRecursion P (set l k v)
  every_set [] k v h g = tt
  every_set (x ∷ l) zero v h g = (g, h.1)
  every_set (x ∷ l) (suc k) v h g = (h.0, every_set l k v h.1 g)

  pub every_put : (l : List A) (k : ℕ) (v : A) → AllByRecursion P l → P v → AllByRecursion P (put l k v)
  unfolding put
  every_put l zero v h g = h
  every_put l (suc k) v h g = every_set l k v h g

  every_at : (l : List A) (k : ℕ) (z : A) → AllByRecursion P l → P z → P (get_or l k z)
  every_at [] k z h g = g
  every_at (x ∷ l) zero z h g = h.0
  every_at (x ∷ l) (suc k) z h g = every_at l k z h.1 g

  pub every_under : (z : A) (l : List A) (k : ℕ) → AllByRecursion P l → P z → P (under z l k)
  unfolding under
  every_under z l k h g = every_at (z ∷ l) k z (g, h) g

  module _ {B : Type 0} (f : A → B) where
    -- every member comes back
    pub every_back : (g : B → A) → ((x : A) → P x → g (f x) ≡ x) → (l : List A) → AllByRecursion P l → map g (map f l) ≡ l
    every_back g e [] h = refl
    every_back g e (x ∷ l) h = λ i. e x h.0 i ∷ every_back g e l h.1 i

    -- every member's image passes a test
    pub every_passes : (t : B → Bool) → ((x : A) → P x → t (f x) ≡ true) → (l : List A) → AllByRecursion P l → list_all t (map f l) ≡ true
    every_passes t e [] h = refl
    every_passes t e (x ∷ l) h = rw (e x h.0) (every_passes t e l h.1)
