-- One network under two numberings of its edges. Definitions only; Renumbering shows that it has the same tours.
use Rattle.std.specs.Prelude.{◌≡◌, ℕ}
use Rattle.lists.specs.Members.{◌∈◌}
use Rattle.lists.specs.Numbers.{up_to}
use Rattle.graph.specs.Network.{Network}

-- "Two hunts are of one sea when their charts have the same n and m, and each leg of one stands in the other under some number, with the
-- same buoys, cost and mark."
pub record SameEdge (g h : Network) (k j : ℕ) : Type 0 where
  pub a : h.a j ≡ g.a k
  pub b : h.b j ≡ g.b k
  pub cost : h.cost j ≡ g.cost k
  pub mark : h.mark j ≡ g.mark k

pub record OneNetwork (g h : Network) : Type 0 where
  pub n : h.n ≡ g.n
  pub m : h.m ≡ g.m
  pub there : (k : ℕ) → k ∈ up_to g.m → (j : ℕ) × (j ∈ up_to h.m) × SameEdge g h k j
