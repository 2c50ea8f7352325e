-- Document 02's C-12: at how many free edges the loop looks that joins the vertices other than vertex 1. Definitions only. (Document 02's
-- words: buoy, leg, dues.)
use Rattle.std.specs.Prelude.{◌≡◌, ◌⊎◌, List, [], ◌∷◌, ◌++◌, ℕ, ◌<◌, ◌≤◌, length, take, ℤ, ◌<ℤ◌}
use Rattle.lists.specs.Members.{◌∈◌}
use Rattle.graph.specs.Network.{Network}
use Rattle.spanning.specs.Walks.{Walk}
use Rattle.tree_theory.specs.OneTree.{others, away, charge}
use Rattle.tree_theory.specs.Valid.{is_free, is_required}

-- "the tree's buoys beside buoy 1 are connected": these edges connect them
abbrev pub Connected : Network → List ℕ → Type 0
Connected g es = (u v : ℕ) → u ∈ others g → v ∈ others g → Walk g.a g.b es u v

-- "the required legs among them"
abbrev pub required_among : Network → List ℕ
required_among g = away g (λ k. is_required (g.mark k))

-- "the free legs among these buoys"
abbrev pub free_among : Network → List ℕ
free_among g = away g (λ k. is_free (g.mark k))

-- "by charged cost, of equals the lower number first": j comes before k
abbrev pub Before : Network → (ℕ → ℤ) → ℕ → ℕ → Type 0
Before g d j k = (charge g d j <ℤ charge g d k) ⊎ ((charge g d j ≡ charge g d k) × (j < k))

-- each comes before all that follow
abbrev pub Sorted : Network → (ℕ → ℤ) → List ℕ → Type 0
Sorted g d [] = Unit {0}
Sorted g d (e ∷ es) = ((k : ℕ) → k ∈ es → Before g d e k) × Sorted g d es

-- "the free legs among these buoys by charged cost, of equals the lower number first"
pub record InOrder (g : Network) (d : ℕ → ℤ) (es : List ℕ) : Type 0 where
  pub all : (k : ℕ) → k ∈ free_among g → k ∈ es
  pub only : (k : ℕ) → k ∈ es → k ∈ free_among g
  pub sorted : Sorted g d es

-- "it looked at the shortest beginning of this order that, with the required legs, connects them, or at all where none does": at its first p
pub record Looked (g : Network) (d : ℕ → ℤ) (p : ℕ) : Type 0 where
  pub order : List ℕ
  pub ordered : InOrder g d order
  pub within : p ≤ length order
  pub shortest : (q : ℕ) → q < p → ¬ Connected g (take q order ++ required_among g)
  pub enough : p < length order → Connected g (take p order ++ required_among g)
