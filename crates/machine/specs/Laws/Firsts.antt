-- WHICH OF TWO SETS COMES FIRST ("the one that lacks the highest-numbered leg in which they differ") is an order: not both do, and what comes
-- before a set comes before every set that does not. That two of which neither does agree is tree_theory's (Agree: `neither`). Assumes nothing.
use Rattle.std.specs.Prelude.{◌≡◌, refl, Bool, true, false, ℕ, zero, suc}
use Rattle.std.proofs.Common.{true≢false}
use Rattle.std.proofs.lemmas.Bool.{false≢true}
use Rattle.tree_theory.specs.OneTree.{Edges, lacks_first, unless}

-- not both of two come first
pub lacks_once : (m : ℕ) (s t : Edges) → lacks_first m s t ≡ true → lacks_first m t s ≡ false
unfolding lacks_first
lacks_once zero s t h = refl
lacks_once (suc m) s t h = go (s (suc m)) (t (suc m)) h (lacks_once m s t)
  where
    go : (x y : Bool) → unless x y (lacks_first m s t) ≡ true → (lacks_first m s t ≡ true → lacks_first m t s ≡ false)
        → unless y x (lacks_first m t s) ≡ false
    go true true i below = below i
    go true false i below = absurd (false≢true i)
    go false true i below = refl
    go false false i below = below i

-- where t comes before b and f does not, t comes before f
pub lacks_past : (m : ℕ) (t b f : Edges) → lacks_first m t b ≡ true → lacks_first m f b ≡ false → lacks_first m t f ≡ true
unfolding lacks_first
lacks_past zero t b f h k = absurd (false≢true h)
lacks_past (suc m) t b f h k = go (t (suc m)) (b (suc m)) (f (suc m)) h k (lacks_past m t b f)
  where
    go : (x y z : Bool) → unless x y (lacks_first m t b) ≡ true → unless z y (lacks_first m f b) ≡ false
        → (lacks_first m t b ≡ true → lacks_first m f b ≡ false → lacks_first m t f ≡ true)
        → unless x z (lacks_first m t f) ≡ true
    go true true true i j below = below i j
    go true true false i j below = absurd (true≢false j)
    go true false z i j below = absurd (false≢true i)
    go false true true i j below = refl
    go false true false i j below = absurd (true≢false j)
    go false false true i j below = refl
    go false false false i j below = below i j
