-- Membership in a list, and in the lists that appending and mapping make. Assumes nothing.
use Rattle.std.specs.Prelude.{◌≡◌, refl, ◌⊎◌, List, [], ◌∷◌, ◌++◌, ℕ, zero, suc, take, map}
use Rattle.std.proofs.Common.{ap, inl, inr}

-- by recursion on the list, so that a proof goes by its cases
infix 4 ◌∈◌
abbrev pub ◌∈◌ : {A : Type 0} → A → List A → Type 0
x ∈ [] = ⊥
x ∈ (y ∷ ys) = (x ≡ y) ⊎ (x ∈ ys)

module _ {A : Type 0} where
  pub in_left : (x : A) (xs ys : List A) → x ∈ xs → x ∈ (xs ++ ys)
  in_left x [] ys m = absurd m
  in_left x (y ∷ xs) ys (inl h) = inl h
  in_left x (y ∷ xs) ys (inr m) = inr (in_left x xs ys m)

  pub in_right : (x : A) (xs ys : List A) → x ∈ ys → x ∈ (xs ++ ys)
  in_right x [] ys m = m
  in_right x (y ∷ xs) ys m = inr (in_right x xs ys m)

  pub in_either : (x : A) (xs ys : List A) → x ∈ (xs ++ ys) → (x ∈ xs) ⊎ (x ∈ ys)
  in_either x [] ys m = inr m
  in_either x (y ∷ xs) ys (inl h) = inl (inl h)
  in_either x (y ∷ xs) ys (inr m) = go (in_either x xs ys m)
    where
      go : (x ∈ xs) ⊎ (x ∈ ys) → ((x ≡ y) ⊎ (x ∈ xs)) ⊎ (x ∈ ys)
      go (inl h) = inl (inr h)
      go (inr h) = inr h

  pub take_in : (n : ℕ) (l : List A) (x : A) → x ∈ take n l → x ∈ l
  take_in zero l x m = absurd m
  take_in (suc n) [] x m = absurd m
  take_in (suc n) (y ∷ l) x (inl e) = inl e
  take_in (suc n) (y ∷ l) x (inr m) = inr (take_in n l x m)

module _ {A B : Type 0} where
  pub in_map : (f : A → B) (x : A) (xs : List A) → x ∈ xs → f x ∈ map f xs
  in_map f x [] m = absurd m
  in_map f x (y ∷ xs) (inl k) = inl (ap f k)
  in_map f x (y ∷ xs) (inr k) = inr (in_map f x xs k)

  pub of_map : (f : A → B) (y : B) (xs : List A) → y ∈ map f xs → (x : A) × (x ∈ xs) × (y ≡ f x)
  of_map f y [] m = absurd m
  of_map f y (x ∷ xs) (inl e) = (x, inl refl, e)
  of_map f y (x ∷ xs) (inr m) = go (of_map f y xs m)
    where
      go : (z : A) × (z ∈ xs) × (y ≡ f z) → (z : A) × (z ∈ (x ∷ xs)) × (y ≡ f z)
      go r = (r.0, inr r.1, r.2)
