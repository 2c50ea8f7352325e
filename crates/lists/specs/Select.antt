-- The members of a list that pass a test, in the list's order. A set of edges is such a test. Assumes nothing.
use Rattle.std.specs.Prelude.{◌≡◌, ◌⊎◌, Bool, not, ◌&&◌}
use Rattle.std.proofs.Math.Path.{refl, ap}
use Rattle.std.proofs.Common.{sym, ◌∙◌, inl, true≢false}
use Rattle.std.proofs.Math.Logic.{inr}
use Rattle.std.proofs.Math.Bool.{true, false}
use mathlib.Core.List.{List, [], ◌∷◌, ◌++◌}
use Prim.Native.Nat.{suc, ◌+◌, ◌≤◌}
use native.Mathlib.Omega.{arith}
use Rattle.std.proofs.Math.ListN.{length, length-append}
use Rattle.lists.specs.Members.{◌∈◌}

module _ {A : Type 0} where
  -- r with x in front where the test says so
  abbrev pub keep : Bool → A → List A → List A
  keep true x r = x ∷ r
  keep false x r = r

  unfoldable pub select : (A → Bool) → List A → List A
  select t [] = []
  select t (x ∷ xs) = keep (t x) x (select t xs)

  pub select_in : (t : A → Bool) (xs : List A) (x : A) → x ∈ select t xs → (x ∈ xs) × (t x ≡ true)
  unfolding select
  select_in t [] x m = absurd m
  select_in t (y ∷ xs) x m = go (t y) refl m (λ h. select_in t xs x h)
    where
      go : (b : Bool) → t y ≡ b → x ∈ keep b y (select t xs) → (x ∈ select t xs → (x ∈ xs) × (t x ≡ true))
          → ((x ≡ y) ⊎ (x ∈ xs)) × (t x ≡ true)
      go true h (inl k) below = (inl k, rw k h)
      go true h (inr k) below = (inr (below k).0, (below k).1)
      go false h k below = (inr (below k).0, (below k).1)

  pub in_select : (t : A → Bool) (xs : List A) (x : A) → x ∈ xs → t x ≡ true → x ∈ select t xs
  unfolding select
  in_select t [] x m h = absurd m
  in_select t (y ∷ xs) x (inl k) h = let f : t y ≡ true = rw (← k) h in rw f (inl k)
  in_select t (y ∷ xs) x (inr m) h = go (t y) (in_select t xs x m h)
    where
      go : (b : Bool) → x ∈ select t xs → x ∈ keep b y (select t xs)
      go true k = inr k
      go false k = k

  -- tests that agree on the members select the same
  pub select_cong : (s t : A → Bool) (xs : List A) → ((x : A) → x ∈ xs → s x ≡ t x) → select s xs ≡ select t xs
  unfolding select
  select_cong s t [] h = refl
  select_cong s t (x ∷ xs) h = rw (h x (inl refl), select_cong s t xs (λ y m. h y (inr m)))

  -- all of them
  pub select_full : (t : A → Bool) (xs : List A) → ((x : A) → x ∈ xs → t x ≡ true) → select t xs ≡ xs
  unfolding select
  select_full t [] h = refl
  select_full t (x ∷ xs) h = rw (h x (inl refl), select_full t xs (λ y m. h y (inr m)))

  pub select-append : (t : A → Bool) (xs ys : List A) → select t (xs ++ ys) ≡ select t xs ++ select t ys
  unfolding select
  select-append t [] ys = refl
  select-append t (x ∷ xs) ys = go (t x) (select-append t xs ys)
    where
      go : (b : Bool) → select t (xs ++ ys) ≡ select t xs ++ select t ys
          → keep b x (select t (xs ++ ys)) ≡ keep b x (select t xs) ++ select t ys
      go true h = ap (λ (l : List A). x ∷ l) h
      go false h = h

  pub select-length : (t : A → Bool) (xs : List A) → length (select t xs) ≤ length xs
  unfolding select
  select-length t [] = omega arith
  select-length t (x ∷ xs) = go (t x) (select-length t xs)
    where
      go : (b : Bool) → length (select t xs) ≤ length xs → length (keep b x (select t xs)) ≤ suc (length xs)
      go true h = omega arith
      go false h = omega arith

  -- the more a test passes, the longer the selection
  pub select_mono : (s t : A → Bool) (xs : List A) → ((x : A) → x ∈ xs → s x ≡ true → t x ≡ true)
      → length (select s xs) ≤ length (select t xs)
  unfolding select
  select_mono s t [] h = omega arith
  select_mono s t (x ∷ xs) h = go (s x) (t x) (h x (inl refl)) (select_mono s t xs (λ y m. h y (inr m)))
    where
      go : (b c : Bool) → (b ≡ true → c ≡ true) → length (select s xs) ≤ length (select t xs)
          → length (keep b x (select s xs)) ≤ length (keep c x (select t xs))
      go true true i l = omega arith
      go true false i l = absurd (true≢false (sym (i refl)))
      go false true i l = omega arith
      go false false i l = l

  -- a selection of a selection
  pub select-select : (t c : A → Bool) (xs : List A) → select t (select c xs) ≡ select (λ x. t x && c x) xs
  unfolding select
  select-select t c [] = refl
  select-select t c (x ∷ xs) = go (t x) refl (c x) (select-select t c xs)
    where
      go : (a : Bool) → t x ≡ a → (b : Bool) → select t (select c xs) ≡ select (λ y. t y && c y) xs
          → select t (keep b x (select c xs)) ≡ keep (a && b) x (select (λ y. t y && c y) xs)
      go true h true below = rw (h, below)
      go true h false below = below
      go false h true below = rw (h, below)
      go false h false below = below

  -- a selection in two parts, by another test c
  pub split_length : (t c : A → Bool) (xs : List A)
      → length (select (λ x. t x && c x) xs ++ select (λ x. t x && not (c x)) xs) ≡ length (select t xs)
  unfolding select
  split_length t c [] = refl
  split_length t c (x ∷ xs) = simp length-append (go (t x) (c x) (simp length-append at (split_length t c xs)))
    where
      pass : List A
      pass = select (λ y. t y && c y) xs

      fail : List A
      fail = select (λ y. t y && not (c y)) xs

      go : (a b : Bool) → length pass + length fail ≡ length (select t xs)
          → length (keep (a && b) x pass) + length (keep (a && not b) x fail) ≡ length (keep a x (select t xs))
      go true true h = omega arith
      go true false h = omega arith
      go false b h = h

  -- a list in two parts
  pub parts_length : (c : A → Bool) (xs : List A) → length (select c xs) + length (select (λ x. not (c x)) xs) ≡ length xs
  parts_length c xs =
      simp length-append at (split_length (λ x. true) c xs ∙ ap length (select_full (λ x. true) xs (λ x m. refl)))
