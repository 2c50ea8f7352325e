-- Edges by their numbers, 1 to m: whether there is such an edge, and its place. Definitions only.
use Rattle.std.specs.Prelude.{Bool, cond, ◌&&◌, ℕ, ◌-◌, leb, Option, Some, None}

-- "m legs, .. numbered 1 to m"
abbrev pub is_edge : ℕ → ℕ → Bool
is_edge m k = leb 1 k && leb k m

-- "leg k" stands at place k − 1; none where there is no such edge
unfoldable pub edge_place : ℕ → ℕ → Option ℕ
edge_place m k = cond (is_edge m k) (Some (k - 1)) None
