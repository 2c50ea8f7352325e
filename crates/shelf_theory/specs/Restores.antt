-- What it is that an accepted back restores the latest accepted save under its name. (It does: proofs/Restores.) Assumes nothing.
use Rattle.std.specs.Prelude.{◌≡◌}
use Rattle.std.proofs.Math.Path.{refl}
use Rattle.std.proofs.Math.Bool.{true, false}
use mathlib.Core.List.{List, [], ◌∷◌, ◌++◌}
use Prim.Native.Nat.{ℕ}
use Rattle.lent_records.specs.Machine.{Machine, Searches, after, leaves}
use Rattle.shelf_theory.specs.Shelves.{Shelved, ShelfCall, plain, save, back, cleared, is_none, save_fault}
use Rattle.shelf_theory.specs.Shelves.{shelf_next, shelf_answer, shelved, beside_next, beside, besides}
use Rattle.shelf_theory.specs.Paths.{path}

-- ---- lists that save nothing under a name

module _ (m : Machine) (o : Searches m) where
  -- the call is no accepted save under k
  abbrev pub Spares : Shelved m.State → ℕ → ShelfCall m.Call → Type 0
  Spares d k (plain c) = Unit {0}
  Spares d k (save j) = (j ≡ k → is_none (save_fault m o d j) ≡ false)
  Spares d k (back j) = Unit {0}

  abbrev pub Spare : Shelved m.State → ℕ → List (ShelfCall m.Call) → Type 0
  Spare d k [] = Unit {0}
  Spare d k (x ∷ xs) = Spares d k x × Spare (shelf_next m o d x) k xs

module _ (m : Machine) (o : Searches m) where
  -- ---- what is kept beside the states, under the name

  module _ {X : Type 0} (note : m.State → m.Call → X → X) (x₀ : X) where
    pub beside-append : (xs ys : List (ShelfCall m.Call)) (d : Shelved m.State) (e : Shelved X)
        → beside m o note x₀ d e (xs ++ ys) ≡ beside m o note x₀ (after (shelved m o) d xs) (beside m o note x₀ d e xs) ys
    unfolding beside after
    beside-append [] ys d e = refl
    beside-append (x ∷ xs) ys d e = beside-append xs ys (shelf_next m o d x) (beside_next m o note x₀ d e x)

    -- one more call at the end of a list
    pub besides_last : (xs : List (ShelfCall m.Call)) (x : ShelfCall m.Call)
        → besides m o note x₀ (xs ++ (x ∷ [])) ≡ beside_next m o note x₀ (leaves (shelved m o) xs) (besides m o note x₀ xs) x
    unfolding besides beside leaves
    besides_last xs x = beside-append xs (x ∷ []) (cleared m.begin) (cleared x₀)

-- ---- what an accepted back restores

-- the list before the back k: the save under k that it goes back to, and what the back leaves
pub record RestoredState (m : Machine) (o : Searches m) (xs : List (ShelfCall m.Call)) (k : ℕ) : Type 0 where
  pub before : List (ShelfCall m.Call)
  pub since : List (ShelfCall m.Call)
  pub split : xs ≡ before ++ (save k ∷ since)
  -- that save is accepted, and none under k since
  pub accepted : m.is_accepted (shelf_answer m o (leaves (shelved m o) before) (save k)) ≡ true
  pub latest : (ys zs : List (ShelfCall m.Call)) → since ≡ ys ++ (save k ∷ zs)
      → m.is_accepted (shelf_answer m o (leaves (shelved m o) (before ++ (save k ∷ ys))) (save k)) ≡ false
  -- the path, and with it every history, and the state are again those before the save; what is saved stays
  pub path : path m o (xs ++ (back k ∷ [])) ≡ path m o before
  pub state : (leaves (shelved m o) (xs ++ (back k ∷ []))).current ≡ (leaves (shelved m o) before).current
  pub saved : (leaves (shelved m o) (xs ++ (back k ∷ []))).saved ≡ (leaves (shelved m o) xs).saved
