-- The loop keeps `Passed`; specs/CheckLoop.antt says what a turn does to it.
use Rattle.graph.specs.CheckLoop.{Passed}
use Rattle.graph.proofs.Graph.pairs_fit.Given as goal

abbrev pub invariant-loop-k : goal.invariant-loop-k
invariant-loop-k l = Passed (λ t. t) l.self.a l.self.b l.self.m l.met l.again l.k
