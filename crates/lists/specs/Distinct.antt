-- Lists without repetition. Assumes nothing.
use Rattle.std.specs.Prelude.{Bool}
use Rattle.std.proofs.Math.Bool.{true, false}
use mathlib.Core.List.{List, [], ◌∷◌}
use Rattle.lists.specs.Members.{◌∈◌}
use Rattle.lists.specs.Select.{keep, select, select_in}

module _ {A : Type 0} where
  -- no member stands twice
  abbrev pub Distinct : List A → Type 0
  Distinct [] = Unit {0}
  Distinct (x ∷ xs) = (¬ (x ∈ xs)) × Distinct xs

  pub distinct-select : (t : A → Bool) (xs : List A) → Distinct xs → Distinct (select t xs)
  unfolding select
  distinct-select t [] d = tt
  distinct-select t (x ∷ xs) d = go (t x) (distinct-select t xs d.1)
    where
      go : (b : Bool) → Distinct (select t xs) → Distinct (keep b x (select t xs))
      go true h = ((λ m. d.0 (select_in t xs x m).0), h)
      go false h = h
