-- The degrees counted in one loop (crate tours, Counted) are those of any graph with the same ends. Assumes nothing.
use Rattle.std.specs.Prelude.{List, [], ℕ}
use Rattle.graph.specs.declared.Graph.{Graph}
use Rattle.graph.specs.Network.{network}
use Rattle.tours.specs.Counted.{degree_to, DegreesTo}

-- the degrees depend on the edges' ends alone: a graph that has these
abbrev pub edged : ℕ → List ℕ → List ℕ → Graph
edged m a b = record { n = 0; m = m; a = a; b = b; cost = []; mark = [] }

pub degrees_edged : (g : Graph) (w r : List ℕ) → DegreesTo g.m (edged g.m g.a g.b) w r → DegreesTo g.m g w r
unfolding degree_to network
degrees_edged g w r c = record { size = c.size; at = c.at; most = c.most }
