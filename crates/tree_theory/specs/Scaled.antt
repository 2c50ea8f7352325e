-- Document 02's C-17, "dues and step count in q-ths": the network that every definition is taken at, with q times the ceiling. Definitions only.
use Rattle.std.specs.Prelude.{ℕ}
use Rattle.integers.specs.Multiples.{◌times◌}
use Rattle.graph.specs.Network.{Network}

-- "The charged cost becomes q × cost plus the two dues, the bound is scaled likewise": the costs q times what they are, and nothing else moved
abbrev pub scaled_by : ℕ → Network → Network
scaled_by q g = record { n = g.n; m = g.m; a = g.a; b = g.b; cost = λ k. q times g.cost k; mark = g.mark }
