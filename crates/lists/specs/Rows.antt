-- Lists that hold a value for each of the numbers 1 to m, as a mark or an answer for each edge. Assumes nothing.
use Rattle.std.specs.Prelude.{◌≡◌, length}
use Rattle.std.proofs.Math.Path.{refl, ap}
use Rattle.std.proofs.Common.{sym, ◌∙◌}
use mathlib.Core.List.{List, [], ◌∷◌, map}
use Prim.Native.Nat.{ℕ, zero, suc, ◌<◌, ◌≤◌}
use native.Mathlib.Omega.{arith}
use Rattle.std.proofs.Math.ListN.{get_or}
use Rattle.std.proofs.lemmas.List.{length-map}

module _ {A : Type 0} where
  -- f 1, .. , f m
  unfoldable pub row : ℕ → (ℕ → A) → List A
  row zero f = []
  row (suc m) f = f 1 ∷ row m (λ k. f (suc k))

  pub row-size : (m : ℕ) (f : ℕ → A) → length (row m f) ≡ m
  unfolding row
  row-size zero f = refl
  row-size (suc m) f = ap suc (row-size m (λ k. f (suc k)))

  pub row_at : (m : ℕ) (f : ℕ → A) (j : ℕ) (z : A) → j < m → get_or (row m f) j z ≡ f (suc j)
  unfolding row
  row_at zero f j z h = absurd (let w : suc 0 ≤ 0 = omega arith in omega arith)
  row_at (suc m) f zero z h = refl
  row_at (suc m) f (suc j) z h = row_at m (λ k. f (suc k)) j z (omega arith)

  pub row_same : (m : ℕ) (f h : ℕ → A) → ((j : ℕ) → j < m → f (suc j) ≡ h (suc j)) → row m f ≡ row m h
  unfolding row
  row_same zero f h e = refl
  row_same (suc m) f h e =
      rw (e 0 (omega arith), row_same m (λ k. f (suc k)) (λ k. h (suc k)) (λ j l. e (suc j) (omega arith)))

  -- a list is the row of its own places
  pub row_of : (x : List A) (z : A) → row (length x) (λ k. get_or (z ∷ x) k z) ≡ x
  unfolding row
  row_of [] z = refl
  row_of (a ∷ x) z =
      ap (λ (l : List A). a ∷ l)
      (row_same (length x) (λ k. get_or (a ∷ x) k z) (λ k. get_or (z ∷ x) k z) (λ j h. refl) ∙ row_of x z)

  -- a list that has f (j + 1) at each place j is a row of f
  pub row_is : (x : List A) (z : A) (f : ℕ → A) → ((j : ℕ) → j < length x → get_or x j z ≡ f (suc j)) → x ≡ row (length x) f
  row_is x z f h = sym (row_of x z) ∙ row_same (length x) (λ k. get_or (z ∷ x) k z) f h

pub row-map : {A B : Type 0} (f : A → B) (m : ℕ) (h : ℕ → A) → map f (row m h) ≡ row m (λ k. f (h k))
unfolding row
row-map f zero h = refl
row-map {B = B} f (suc m) h = ap (λ (l : List B). f (h 1) ∷ l) (row-map f m (λ k. h (suc k)))

-- a list is as long as what it is mapped to
pub long_of : (X Y : Type 0) (f : X → Y) (l : List X) (n : ℕ) → length (map f l) ≡ n → length l ≡ n
long_of X Y f l n e = sym (length-map l f) ∙ e
