-- The parts of a graph make that graph again: for code that takes n and m out of it as numbers and lends its arrays. Assumes nothing.
use Rattle.std.specs.Prelude.{ℕ, ◌≡◌}
use Rattle.graph.specs.declared.Graph.{Graph}
use Rattle.graph.specs.Valid.{graph_of}

pub own_parts : (g : Graph) (n m : ℕ) → n ≡ g.n → m ≡ g.m → graph_of n m g.a g.b g.cost g.mark ≡ g
own_parts g n m p q = λ i. graph_of (p i) (q i) g.a g.b g.cost g.mark
