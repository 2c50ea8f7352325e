-- Vertices that required edges away from vertex 1 join stand for one: each has a label, the least vertex that such edges lead to.
-- Definitions only.
use Rattle.std.specs.Prelude.{◌≡◌, ◌≢◌, List, ℕ, ◌<◌, ◌≤◌, length, get_or}
use Rattle.lists.specs.Select.{select}
use Rattle.graph.specs.declared.Graph.{Graph}
use Rattle.graph.specs.Network.{network}
use Rattle.spanning.specs.Walks.{Walk}
use Rattle.tree_theory.specs.Valid.{needed, far}

-- rep has the label of each vertex
pub record Merges (g : Graph) (rep : List ℕ) : Type 0 where
  pub long : length rep ≡ 21
  -- the ends of a required edge have one label
  pub joined : (k : ℕ) → k < g.m → get_or g.a k 0 ≢ 1 → get_or g.mark k 0 ≡ 1
      → get_or rep (get_or g.a k 0) 0 ≡ get_or rep (get_or g.b k 0) 0
  -- required edges lead from a vertex to its label
  pub linked : (v : ℕ) → v < 21 → Walk (network g).a (network g).b (select (needed (network g)) (far (network g))) v (get_or rep v 0)
  pub below : (v : ℕ) → v < 21 → get_or rep v 0 ≤ v
  pub inside : (v : ℕ) → 2 ≤ v → v < 21 → 2 ≤ get_or rep v 0
  pub again : (v : ℕ) → v < 21 → get_or rep (get_or rep v 0) 0 ≡ get_or rep v 0
