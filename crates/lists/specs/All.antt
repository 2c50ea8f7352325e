-- A test of every member of a list, and of some member. Assumes nothing.
use Rattle.std.specs.Prelude.{◌≡◌, Bool, ◌&&◌, ℕ, zero, suc, ◌<◌, length, get_or}
use Rattle.std.specs.List.{list_all}
use Rattle.std.proofs.Math.Path.{refl, ap}
use Rattle.std.proofs.Common.{sym, ◌∙◌, true≢false, arith}
use Rattle.std.proofs.Math.Logic.{inl, inr}
use Rattle.std.proofs.Math.Bool.{true, false}
use Rattle.std.proofs.lemmas.Bool.{false≢true}
use mathlib.Core.List.{List, [], ◌∷◌}
use Rattle.lists.specs.Bools.{and_both, and_no_right}
use Rattle.lists.specs.Members.{◌∈◌}

module _ {A : Type 0} where
  unfoldable pub every_of : (A → Bool) → List A → Bool
  every_of f [] = true
  every_of f (x ∷ xs) = f x && every_of f xs

  -- the list is not looked at past the first that passes
  unfoldable pub some_of : (A → Bool) → List A → Bool
  some_of f [] = false
  some_of f (x ∷ xs) = elim (f x) [ true ↦ true | false ↦ some_of f xs ]

  pub every_of_in : (f : A → Bool) (xs : List A) → every_of f xs ≡ true → (x : A) → x ∈ xs → f x ≡ true
  unfolding every_of
  every_of_in f [] h x m = absurd m
  every_of_in f (y ∷ xs) h x (inl e) = ap f e ∙ (and_both (f y) (every_of f xs) h).0
  every_of_in f (y ∷ xs) h x (inr m) = every_of_in f xs (and_both (f y) (every_of f xs) h).1 x m

  pub in_every_of : (f : A → Bool) (xs : List A) → ((x : A) → x ∈ xs → f x ≡ true) → every_of f xs ≡ true
  unfolding every_of
  in_every_of f [] h = refl
  in_every_of f (y ∷ xs) h = rw (h y (inl refl)) (in_every_of f xs (λ x m. h x (inr m)))

  -- where not every member passes, one fails
  pub not-every_of : (f : A → Bool) (xs : List A) → every_of f xs ≡ false → (x : A) × (x ∈ xs) × (f x ≡ false)
  unfolding every_of
  not-every_of f [] h = absurd (true≢false h)
  not-every_of f (y ∷ xs) h = go (f y) refl h (λ i. not-every_of f xs i)
    where
      go : (b : Bool) → f y ≡ b → b && every_of f xs ≡ false → (every_of f xs ≡ false → (x : A) × (x ∈ xs) × (f x ≡ false))
          → (x : A) × (x ∈ (y ∷ xs)) × (f x ≡ false)
      go true e i below = let r = below i in (r.0, inr r.1, r.2)
      go false e i below = (y, inl refl, e)

  pub some_of_in : (f : A → Bool) (xs : List A) → some_of f xs ≡ true → (x : A) × (x ∈ xs) × (f x ≡ true)
  unfolding some_of
  some_of_in f [] h = absurd (false≢true h)
  some_of_in f (y ∷ xs) h = go (f y) refl h (λ i. some_of_in f xs i)
    where
      go : (b : Bool) → f y ≡ b → (elim b as (λ z. Bool) [ true ↦ true | false ↦ some_of f xs ]) ≡ true
          → (some_of f xs ≡ true → (x : A) × (x ∈ xs) × (f x ≡ true)) → (x : A) × (x ∈ (y ∷ xs)) × (f x ≡ true)
      go true e i below = (y, inl refl, e)
      go false e i below = let r = below i in (r.0, inr r.1, r.2)

  pub in_some_of : (f : A → Bool) (xs : List A) (x : A) → x ∈ xs → f x ≡ true → some_of f xs ≡ true
  unfolding some_of
  in_some_of f [] x m h = absurd m
  in_some_of f (y ∷ xs) x (inl e) h = let i : f y ≡ true = ap f (sym e) ∙ h in rw (i, some_of)
  in_some_of f (y ∷ xs) x (inr m) h = go (f y) (in_some_of f xs x m h)
    where
      go : (b : Bool) → some_of f xs ≡ true → (elim b as (λ z. Bool) [ true ↦ true | false ↦ some_of f xs ]) ≡ true
      go true i = refl
      go false i = i

  -- std's word for a test of every member
  pub every_is : (f : A → Bool) (xs : List A) → every_of f xs ≡ list_all f xs
  unfolding every_of
  every_is f [] = refl
  every_is f (x ∷ xs) = ap (λ (b : Bool). f x && b) (every_is f xs)

  -- ---- by places, z past the end

  module _ (f : A → Bool) (z : A) where
    pub each-passes : (l : List A) → ((k : ℕ) → k < length l → f (get_or l k z) ≡ true) → every_of f l ≡ true
    unfolding every_of
    each-passes [] h = refl
    each-passes (x ∷ l) h = rw (h 0 (omega arith)) (each-passes l (λ k b. h (suc k) (omega arith)))

    pub at-passes : (l : List A) (k : ℕ) → k < length l → every_of f l ≡ true → f (get_or l k z) ≡ true
    unfolding every_of
    at-passes [] k b h = absurd (omega arith)
    at-passes (x ∷ l) zero b h = (and_both (f x) (every_of f l) h).0
    at-passes (x ∷ l) (suc k) b h = at-passes l k (omega arith) (and_both (f x) (every_of f l) h).1

    pub one_fails : (l : List A) (k : ℕ) → k < length l → f (get_or l k z) ≡ false → every_of f l ≡ false
    unfolding every_of
    one_fails [] k b h = absurd (omega arith)
    one_fails (x ∷ l) zero b h = rw h
    one_fails (x ∷ l) (suc k) b h = and_no_right (f x) (every_of f l) (one_fails l k (omega arith) h)
