-- Lists of a given length by their places, which are counted from 0, and lists cut or filled up to a length. Assumes nothing.
use Rattle.std.specs.Prelude.{◌≡◌, List, ℕ, zero, suc, ◌≤◌, ◌<◌, length, replicate}
use Rattle.std.proofs.Math.Path.{sym}
use Rattle.std.proofs.Common.{◌∙◌, arith, ext_get_or}
use Rattle.std.proofs.Math.Decide.{dec_le}
use Rattle.std.proofs.Math.ListN.{get_or, get_or-eq_default}
use Rattle.std.proofs.lemmas.List.{length-replicate, get_or-replicate}
use Rattle.lists.specs.Rows.{row, row-size, row_at, row_same}

-- k − 1
abbrev pub before : ℕ → ℕ
before zero = zero
before (suc k) = k

-- f 0, .. , f (n − 1)
unfoldable pub fill : {A : Type 0} → ℕ → (ℕ → A) → List A
unfolding row
fill n f = row n (λ k. f (before k))

-- the first n of a list, z for each that it lacks
unfoldable pub fit : {A : Type 0} → ℕ → A → List A → List A
unfolding fill
fit n z l = fill n (λ i. get_or l i z)

module _ {A : Type 0} where
  pub fill-size : (n : ℕ) (f : ℕ → A) → length (fill n f) ≡ n
  unfolding fill
  fill-size n f = row-size n (λ k. f (before k))

  pub fill-at : (n : ℕ) (f : ℕ → A) (i : ℕ) (z : A) → i < n → get_or (fill n f) i z ≡ f i
  unfolding fill
  fill-at n f i z h = row_at n (λ k. f (before k)) i z h

  pub fill_past : (n : ℕ) (f : ℕ → A) (i : ℕ) (z : A) → n ≤ i → get_or (fill n f) i z ≡ z
  fill_past n f i z h = get_or-eq_default (fill n f) z (omega (arith, fill-size n f))

  pub fill-same : (n : ℕ) (f g : ℕ → A) → ((i : ℕ) → i < n → f i ≡ g i) → fill n f ≡ fill n g
  unfolding fill
  fill-same n f g e = row_same n (λ k. f (before k)) (λ k. g (before k)) e

  -- a list is its places
  pub fill_is : (n : ℕ) (f : ℕ → A) (l : List A) (z : A) → length l ≡ n → ((i : ℕ) → i < n → f i ≡ get_or l i z) → fill n f ≡ l
  fill_is n f l z e h =
      ext_get_or z (fill n f) l (fill-size n f ∙ sym e)
      (λ i b. let c : i < n = omega (arith, fill-size n f) in fill-at n f i z c ∙ h i c)

  pub fit-size : (n : ℕ) (z : A) (l : List A) → length (fit n z l) ≡ n
  unfolding fit
  fit-size n z l = fill-size n (λ i. get_or l i z)

  pub fit_at : (n : ℕ) (z : A) (l : List A) (i : ℕ) → i < n → get_or (fit n z l) i z ≡ get_or l i z
  unfolding fit
  fit_at n z l i h = fill-at n (λ j. get_or l j z) i z h

  -- a list that is zero past m, cut to m and filled up again
  pub fit-fill : (n m : ℕ) (z : A) (l : List A) → length l ≡ n → ((i : ℕ) → m ≤ i → get_or l i z ≡ z) → fit n z (fit m z l) ≡ l
  unfolding fit
  fit-fill n m z l e h = fill_is n (λ i. get_or (fill m (λ j. get_or l j z)) i z) l z e (λ i b. go i b (dec_le (suc i) m))
    where
      go : (i : ℕ) → i < n → Dec (i < m) → get_or (fill m (λ j. get_or l j z)) i z ≡ get_or l i z
      go i b (yes c) = fill-at m (λ j. get_or l j z) i z c
      go i b (no c) = fill_past m (λ j. get_or l j z) i z (omega arith) ∙ sym (h i (omega arith))

  -- a list of m, filled up to n and cut again
  pub fit_cut : (n m : ℕ) (z : A) (l : List A) → m ≤ n → length l ≡ m → fit m z (fit n z l) ≡ l
  unfolding fit
  fit_cut n m z l b e =
      fill_is m (λ i. get_or (fill n (λ j. get_or l j z)) i z) l z e (λ i c. fill-at n (λ j. get_or l j z) i z (omega arith))

  -- a list of n zeros
  pub replicate-at : (n : ℕ) (z : A) (i : ℕ) → get_or (replicate n z) i z ≡ z
  replicate-at n z i = go (dec_le (suc i) n)
    where
      go : Dec (i < n) → get_or (replicate n z) i z ≡ z
      go (yes h) = get_or-replicate n i z z h
      go (no h) = get_or-eq_default (replicate n z) z (omega (arith, length-replicate n z))

  pub replicate_is : (n : ℕ) (z : A) (l : List A) → length l ≡ n → ((i : ℕ) → i < n → get_or l i z ≡ z) → replicate n z ≡ l
  replicate_is n z l e h =
      ext_get_or z (replicate n z) l (length-replicate n z ∙ sym e)
      (λ i b. replicate-at n z i ∙ sym (h i (omega (arith, length-replicate n z))))
