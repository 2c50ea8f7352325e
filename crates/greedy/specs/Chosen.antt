-- What the choice among all edges starts from and what it comes to, as code has it. Assumes nothing.
use Rattle.std.specs.Prelude.{◌≡◌, List, ℕ, ◌<◌, ◌≤◌, ◌*◌, length, get_or, ℤ, Option, None, Some}
use Rattle.lists.specs.Sorting.{Ascending}
use Rattle.graph.specs.declared.Graph.{Graph}
use Rattle.graph.specs.Limits.{max_edges}
use Rattle.graph.specs.Network.{network}
use Rattle.graph.specs.Valid.{Valid}
use Rattle.tree_theory.specs.Inputs.{multiplier}
use Rattle.tree_theory.specs.Scaled.{scaled_by}
use Rattle.tree_theory.specs.Looked.{Looked}
use Rattle.tree_theory.specs.Merges.{Merges}
use Rattle.greedy.specs.declared.kruskal.Chosen.{Chosen}
use Rattle.greedy.specs.Charged.{max_charge, Charged, Cheap}
use Rattle.greedy.specs.Keys.{AllKeyed}
use Rattle.greedy.specs.Kruskal.{Choice, Whole}

-- ks are the keys of a graph's edges that are not excluded, in order; c are their charges
pub record KeysOf (g : Graph) (c ks : List ℕ) : Type 0 where
  pub valid : Valid g
  pub low : (k : ℕ) → k < g.m → 1 ≤ get_or c k 0
  pub cheap : Cheap g c
  pub keyed : AllKeyed g c ks (length ks)
  pub ascending : Ascending (length ks) ks

-- the sum of a choice that is a 1-tree, and none where it is not
abbrev pub SumOf : (g : Graph) → Choice g → Option ℕ → Type 0
SumOf g made None = ¬ Whole g made
SumOf g made (Some sum) = Whole g made × (made.sum ≡ sum) × (sum ≤ max_charge * max_edges)

-- the choice is that of Kruskal.antt
pub record ChosenIs (g : Graph) (c tree labels : List ℕ) (r : Chosen) : Type 0 where
  pub made : Choice g
  pub charges_are : made.charges ≡ c
  pub tree_is : made.tree ≡ tree
  pub sum : SumOf g made r.sum
  pub long : length tree ≡ max_edges
  pub merges : Merges g labels
  pub looked : (den : ℕ) (d : List ℤ) → Charged den g d c → Looked (scaled_by den (network g)) (multiplier d) r.looked
