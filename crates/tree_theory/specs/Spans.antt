-- A 1-tree in an array of bytes. Definitions only.
use Rattle.std.specs.Prelude.{List, ℕ, ◌≤◌, get_or}
use Rattle.graph.specs.declared.Graph.{Graph}
use Rattle.graph.specs.Network.{network}
use Rattle.graph.specs.Valid.{Valid}
use Rattle.tree_theory.specs.OneTree.{OneTree}
use Rattle.tree_theory.specs.Arrays.{bytes}

-- w has the bytes of a 1-tree of the graph
pub record Spans (g : Graph) (w : List ℕ) : Type 0 where
  pub valid : Valid g
  pub tree : OneTree (network g) (bytes w)
  pub bits : (k : ℕ) → get_or w k 0 ≤ 1
