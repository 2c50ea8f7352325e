-- A list in another order. Lists without repetition that have the same members are such, so that their lengths, weights and sums agree;
-- and a list without repetition whose members another list has is that list but for the rest. Assumes nothing.
use Rattle.std.specs.Prelude.{◌≡◌, ◌⊎◌, List, [], ◌∷◌, ◌++◌, ℕ, suc, ◌+◌, ◌≤◌, length}
use Rattle.std.proofs.Math.Path.{refl, ap}
use Rattle.std.proofs.Common.{sym, ◌∙◌, inl, inr, length-append}
use native.Mathlib.Omega.{arith}
use Rattle.lists.specs.Members.{◌∈◌}
use Rattle.lists.specs.Distinct.{Distinct}
use Rattle.lists.specs.Weights.{weight}

module _ {A : Type 0} where
  -- ys is xs in another order
  pub data Shuffle : List A → List A → Type 0 where
    none : Shuffle [] []
    under : {xs ys : List A} (x : A) → Shuffle xs ys → Shuffle (x ∷ xs) (x ∷ ys)
    turn : {xs : List A} (x y : A) → Shuffle (x ∷ y ∷ xs) (y ∷ x ∷ xs)
    chain : {xs ys zs : List A} → Shuffle xs ys → Shuffle ys zs → Shuffle xs zs

  pub shuffle_self : (xs : List A) → Shuffle xs xs
  shuffle_self [] = none
  shuffle_self (x ∷ xs) = under x (shuffle_self xs)

  pub shuffle_back : {xs ys : List A} → Shuffle xs ys → Shuffle ys xs
  shuffle_back none = none
  shuffle_back (under x s) = under x (shuffle_back s)
  shuffle_back (turn x y) = turn y x
  shuffle_back (chain s t) = chain (shuffle_back t) (shuffle_back s)

  pub shuffle_in : {xs ys : List A} → Shuffle xs ys → (k : A) → k ∈ xs → k ∈ ys
  shuffle_in none k m = m
  shuffle_in (under x s) k (inl e) = inl e
  shuffle_in (under x s) k (inr m) = inr (shuffle_in s k m)
  shuffle_in (turn x y) k (inl e) = inr (inl e)
  shuffle_in (turn x y) k (inr (inl e)) = inl e
  shuffle_in (turn x y) k (inr (inr m)) = inr (inr m)
  shuffle_in (chain s t) k m = shuffle_in t k (shuffle_in s k m)

  pub shuffle_length : {xs ys : List A} → Shuffle xs ys → length xs ≡ length ys
  shuffle_length none = refl
  shuffle_length (under x s) = ap suc (shuffle_length s)
  shuffle_length (turn x y) = refl
  shuffle_length (chain s t) = shuffle_length s ∙ shuffle_length t

  pub shuffle_weight : (w : A → ℕ) {xs ys : List A} → Shuffle xs ys → weight w xs ≡ weight w ys
  unfolding weight
  shuffle_weight w none = refl
  shuffle_weight w (under x s) = ap (λ (z : ℕ). w x + z) (shuffle_weight w s)
  shuffle_weight w (turn x y) = omega arith
  shuffle_weight w (chain s t) = shuffle_weight w s ∙ shuffle_weight w t

  -- a member in front
  shuffle_out : (x : A) (ys : List A) → x ∈ ys → (rest : List A) × Shuffle ys (x ∷ rest)
  shuffle_out x [] m = absurd m
  shuffle_out x (y ∷ ys) (inl e) = (ys, rw e (under y (shuffle_self ys)))
  shuffle_out x (y ∷ ys) (inr m) = let r = shuffle_out x ys m in (y ∷ r.0, chain (under y r.1) (turn y x))

  -- ys is xs, and some more
  pub shuffle_more : (xs ys : List A) → Distinct xs → ((k : A) → k ∈ xs → k ∈ ys) → (rest : List A) × Shuffle ys (xs ++ rest)
  shuffle_more [] ys d h = (ys, shuffle_self ys)
  shuffle_more (x ∷ xs) ys d h = go (shuffle_out x ys (h x (inl refl))) (λ zs. shuffle_more xs zs d.1)
    where
      go : (rest : List A) × Shuffle ys (x ∷ rest)
          → ((zs : List A) → ((k : A) → k ∈ xs → k ∈ zs) → (rest : List A) × Shuffle zs (xs ++ rest))
          → (rest : List A) × Shuffle ys (x ∷ (xs ++ rest))
      go out below = let r = below out.0 there in (r.0, chain out.1 (under x r.1))
        where
          there : (k : A) → k ∈ xs → k ∈ out.0
          there k m = pick (shuffle_in out.1 k (h k (inr m)))
            where
              pick : (k ≡ x) ⊎ (k ∈ out.0) → k ∈ out.0
              pick (inl e) = absurd (d.0 (rw (← e) m))
              pick (inr i) = i

  append_none : (xs : List A) → xs ++ [] ≡ xs
  append_none [] = refl
  append_none (x ∷ xs) = ap (λ (l : List A). x ∷ l) (append_none xs)

  -- as many members as ys has: all of them
  pub shuffle_fills : (xs ys : List A) → Distinct xs → ((k : A) → k ∈ xs → k ∈ ys) → length ys ≤ length xs → Shuffle ys xs
  shuffle_fills xs ys d h l = go r.0 r.1
    where
      r : (rest : List A) × Shuffle ys (xs ++ rest)
      r = shuffle_more xs ys d h

      go : (rest : List A) → Shuffle ys (xs ++ rest) → Shuffle ys xs
      go [] s = rw append_none at s
      go (z ∷ zs) s =
          absurd (let w : suc (length xs) ≤ length xs = omega (arith, simp length-append at (shuffle_length s)) in omega arith)

  pub shuffle_same : (xs ys : List A) → Distinct xs → Distinct ys → ((k : A) → k ∈ xs → k ∈ ys) → ((k : A) → k ∈ ys → k ∈ xs)
      → Shuffle ys xs
  shuffle_same xs ys dx dy h k =
      shuffle_fills xs ys dx h (omega (arith, simp length-append at (shuffle_length (shuffle_more ys xs dy k).1)))

  pub same-weight : (w : A → ℕ) (xs ys : List A) → Distinct xs → Distinct ys
      → ((k : A) → k ∈ xs → k ∈ ys) → ((k : A) → k ∈ ys → k ∈ xs) → (weight w xs ≡ weight w ys) × (length xs ≡ length ys)
  same-weight w xs ys dx dy h k =
      let s : Shuffle ys xs = shuffle_same xs ys dx dy h k in (sym (shuffle_weight w s), sym (shuffle_length s))
