-- EVERY LIST OF THE SEVEN CALLS HAS A PATH: the plain calls, and at an accepted back the path saved with the state. (That it leaves the state which
-- the list leaves, and so under every name: proofs/Paths.) Assumes nothing.
use Rattle.std.specs.Prelude.{◌≡◌, Bool, ℕ}
use Rattle.std.proofs.Math.Path.{refl, sym}
use Rattle.std.proofs.Math.Bool.{true, false}
use mathlib.Core.List.{List, [], ◌∷◌, ◌++◌, map}
use Rattle.lent_records.specs.Machine.{Machine, Searches, noted}
use Rattle.lent_records.specs.Places.{under-map, map-put}
use Rattle.shelf_theory.specs.Shelves.{Shelved, ShelfCall, cleared, saves, brings}
use Rattle.shelf_theory.specs.Shelves.{each, besides}

-- ---- every state is the image of another's

module _ {A B : Type 0} (f : A → B) where
  pub each-cleared : (z : A) → cleared (f z) ≡ each f (cleared z)
  unfolding each cleared
  each-cleared z = refl

  pub each-saves : (d : Shelved A) (k : ℕ) (b : Bool) → saves (each f d) k b ≡ each f (saves d k b)
  unfolding each
  each-saves d k true = λ i. record { current = f d.current; saved = sym (map-put f d.saved k d.current) i }
  each-saves d k false = refl

  pub each-brings : (z : A) (d : Shelved A) (k : ℕ) (b : Bool) → brings (f z) (each f d) k b ≡ each f (brings z d k b)
  unfolding each
  each-brings z d k true = λ i. record { current = under-map f z d.saved k i; saved = map f d.saved }
  each-brings z d k false = refl

module _ (m : Machine) (o : Searches m) where
  -- ---- the path

  -- every plain call is one more call of the path
  abbrev pub onward : m.State → m.Call → List m.Call → List m.Call
  onward s c p = p ++ (c ∷ [])

  -- the path to the state that a list of the seven calls leaves, and the paths saved under each name
  unfoldable pub paths : List (ShelfCall m.Call) → Shelved (List m.Call)
  unfolding besides
  paths xs = besides m o onward [] xs

  unfoldable pub path : List (ShelfCall m.Call) → List m.Call
  unfolding paths
  path xs = (paths xs).current

  -- ---- what is kept beside the states

  module _ {X : Type 0} (note : m.State → m.Call → X → X) (x₀ : X) where
    -- of a plain list
    unfoldable pub history : List m.Call → X
    unfolding noted
    history cs = noted m note m.begin x₀ cs
