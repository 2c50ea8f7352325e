-- The number of a node's required edges: what a mark does to it, and that a set of edges that has every required one is no smaller.
-- Assumes nothing.
use Rattle.std.specs.Prelude.{◌≡◌, refl, Bool, true, false, [], ◌∷◌, ℕ, zero, suc, ◌+◌, ◌≤◌, ◌<◌, length, get_or, set}
use Rattle.std.proofs.Common.{sym, subst, true≢false, arith}
use Rattle.lists.specs.Bools.{bit}
use Rattle.lists.specs.Select.{select, keep}
use Rattle.lists.specs.Numbers.{up_to}
use Rattle.lists.specs.Rows.{row}
use Rattle.graph.specs.Network.{Network, Mark, free, required, excluded}
use Rattle.tree_theory.specs.OneTree.{Edges}
use Rattle.tree_theory.specs.Valid.{is_required, required_is}
use Rattle.tree_theory.specs.Arrays.{of_edge}
use Rattle.tours.specs.Tours.{Allowed}
use Rattle.machine.specs.Machine.{Marks, with_marks}
use Rattle.machine.specs.Laws.Branching.{row-marks}

unfoldable pub requireds : Marks → ℕ
requireds [] = 0
requireds (x ∷ xs) = bit (is_required x) + requireds xs

-- ---- a free edge that is marked otherwise

pub requireds-set : (x : Marks) (k : ℕ) (y : Mark) → k < length x → get_or x k free ≡ free
    → requireds (set x k y) ≡ requireds x + bit (is_required y)
unfolding requireds
requireds-set [] k y l e = absurd (let z : suc k ≤ 0 = l in omega arith)
requireds-set (x ∷ xs) zero y l e = rw e (omega arith)
requireds-set (x ∷ xs) (suc k) y l e = omega (arith, requireds-set xs k y (omega arith) e)

-- ---- rows

-- marks of which no fewer are required
pub requireds-more : (m : ℕ) (f h : ℕ → Mark) → ((j : ℕ) → j < m → f (suc j) ≡ required → h (suc j) ≡ required)
    → requireds (row m f) ≤ requireds (row m h)
unfolding row requireds
requireds-more zero f h e = omega arith
requireds-more (suc m) f h e =
    go (f 1) (h 1) (e 0 (omega arith)) (requireds-more m (λ k. f (suc k)) (λ k. h (suc k)) (λ j l. e (suc j) (omega arith)))
  where
    rest : (ℕ → Mark) → ℕ
    rest q = requireds (row m (λ k. q (suc k)))

    go : (x y : Mark) → (x ≡ required → y ≡ required) → rest f ≤ rest h
        → bit (is_required x) + rest f ≤ bit (is_required y) + rest h
    go required y i b = rw (i refl) (omega arith)
    go free y i b = omega arith
    go excluded y i b = omega arith

-- a row's last place
pub requireds_last : (n : ℕ) (f : ℕ → Mark) → requireds (row (suc n) f) ≡ requireds (row n f) + bit (is_required (f (suc n)))
unfolding row requireds
requireds_last zero f = omega arith
requireds_last (suc n) f = omega (arith, requireds_last n (λ i. f (suc i)))

-- ---- a set that has every required edge

requireds-select : (m : ℕ) (f : ℕ → Mark) (t : Edges) → ((j : ℕ) → j < m → f (suc j) ≡ required → t (suc j) ≡ true)
    → requireds (row m f) ≤ length (select t (up_to m))
unfolding row requireds select up_to
requireds-select zero f t h = omega arith
requireds-select (suc m) f t h =
    go (is_required (f (suc m))) (t (suc m)) (λ e. h m (omega arith) (required_is (f (suc m)) e)) (requireds_last m f)
    (requireds-select m f t (λ j l. h j (omega arith)))
  where
    go : (b c : Bool) → (b ≡ true → c ≡ true) → requireds (row (suc m) f) ≡ requireds (row m f) + bit b
        → requireds (row m f) ≤ length (select t (up_to m)) → requireds (row (suc m) f) ≤ length (keep c (suc m) (select t (up_to m)))
    go true true i e l = omega arith
    go true false i e l = absurd (true≢false (sym (i refl)))
    go false true i e l = omega arith
    go false false i e l = omega arith

-- so a set that the marks allow has as many edges as they require, or more
pub requireds_most : (g : Network) (x : Marks) → length x ≡ g.m → (t : Edges) → Allowed (with_marks g x) t
    → requireds x ≤ length (select t (up_to g.m))
unfolding with_marks
requireds_most g x e t al =
    subst (λ (z : Marks). requireds z ≤ length (select t (up_to g.m))) (row-marks g.m x e)
    (requireds-select g.m (λ k. get_or (free ∷ x) k free) t (λ j h i. al.keeps (suc j) (of_edge g.m j h) i))
