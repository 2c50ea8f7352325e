-- The lowest-numbered free edge of a node, and what becomes of the number of free edges when it is taken. Assumes nothing.
use Rattle.std.specs.Prelude.{◌≡◌, true, [], ◌∷◌, length, get_or, set}
use Rattle.std.proofs.Math.Path.{refl}
use Rattle.std.proofs.Common.{ap, ◌∙◌, subst, true≢false, arith}
use Rattle.std.proofs.Math.Bool.{false}
use Rattle.std.proofs.lemmas.Bool.{false≢true}
use Prim.Native.Nat.{ℕ, zero, suc, ◌+◌, ◌≤◌, ◌<◌}
use Rattle.lists.specs.Bools.{bit}
use Rattle.lists.specs.Rows.{row, row_of}
use Rattle.graph.specs.Network.{Mark, free, required, excluded}
use Rattle.tree_theory.specs.Valid.{is_free}
use Rattle.machine.specs.Machine.{Marks, frees, first_free}

pub free_is : (x : Mark) → is_free x ≡ true → x ≡ free
free_is free h = refl
free_is required h = absurd (false≢true h)
free_is excluded h = absurd (false≢true h)

-- a node's marks are the row of its own places
pub row-marks : (m : ℕ) (x : Marks) → length x ≡ m → row m (λ k. get_or (free ∷ x) k free) ≡ x
row-marks m x e = subst (λ (n : ℕ). row n (λ k. get_or (free ∷ x) k free) ≡ x) e (row_of x free)

-- ---- the first free edge

module _ (x : Mark) (xs : Marks) (h : is_free x ≡ false) where
  first-later : first_free (x ∷ xs) ≡ suc (first_free xs)
  unfolding first_free
  first-later = go x h
    where
      go : (y : Mark) → is_free y ≡ false → first_free (y ∷ xs) ≡ suc (first_free xs)
      go free e = absurd (true≢false e)
      go required e = refl
      go excluded e = refl

-- it is free
pub first_free_lem : (x : Marks) → first_free x < length x → get_or x (first_free x) free ≡ free
unfolding first_free
first_free_lem [] h = refl
first_free_lem (free ∷ xs) h = refl
first_free_lem (required ∷ xs) h = first_free_lem xs (omega arith)
first_free_lem (excluded ∷ xs) h = first_free_lem xs (omega arith)

-- and none before it is; so none is, where it is past the last
pub first-before : (x : Marks) (j : ℕ) → j < first_free x → is_free (get_or x j free) ≡ false
unfolding first_free
first-before [] j h = absurd (let z : suc j ≤ 0 = h in omega arith)
first-before (free ∷ xs) j h = absurd (let z : suc j ≤ 0 = h in omega arith)
first-before (required ∷ xs) zero h = refl
first-before (required ∷ xs) (suc j) h = first-before xs j (omega arith)
first-before (excluded ∷ xs) zero h = refl
first-before (excluded ∷ xs) (suc j) h = first-before xs j (omega arith)

-- a place of which both hold is the first free edge's
pub first_is : (x : Marks) (k : ℕ) → k ≤ length x → ((j : ℕ) → j < k → is_free (get_or x j free) ≡ false)
    → (k < length x → get_or x k free ≡ free) → first_free x ≡ k
unfolding first_free
first_is [] k l before here = omega (arith, l)
first_is (x ∷ xs) zero l before here = rw (here (omega arith))
first_is (x ∷ xs) (suc k) l before here =
    first-later x xs (before 0 (omega arith))
    ∙ ap suc (first_is xs k (omega arith) (λ j i. before (suc j) (omega arith)) (λ i. here (omega arith)))

-- ---- the number of free edges

-- a free edge that is marked otherwise is one less
pub frees-set : (x : Marks) (k : ℕ) (y : Mark) → k < length x → get_or x k free ≡ free → is_free y ≡ false → suc (frees (set x k y)) ≡ frees x
unfolding frees
frees-set [] k y l e h = absurd (let z : suc k ≤ 0 = l in omega arith)
frees-set (x ∷ xs) zero y l e h = rw (e, h) (omega arith)
frees-set (x ∷ xs) (suc k) y l e h = omega (arith, frees-set xs k y (omega arith) e h)

-- marks of which no more are free
pub frees-fewer : (m : ℕ) (f h : ℕ → Mark) → ((j : ℕ) → j < m → f (suc j) ≡ free → h (suc j) ≡ free) → frees (row m f) ≤ frees (row m h)
unfolding row frees
frees-fewer zero f h e = omega arith
frees-fewer (suc m) f h e =
    go (f 1) (h 1) (e 0 (omega arith)) (frees-fewer m (λ k. f (suc k)) (λ k. h (suc k)) (λ j l. e (suc j) (omega arith)))
  where
    rest : (ℕ → Mark) → ℕ
    rest q = frees (row m (λ k. q (suc k)))

    go : (x y : Mark) → (x ≡ free → y ≡ free) → rest f ≤ rest h → bit (is_free x) + rest f ≤ bit (is_free y) + rest h
    go free y i b = rw (i refl) (omega arith)
    go required y i b = omega arith
    go excluded y i b = omega arith
