-- Document 02's C-22: the costs that a log of times makes. They are worked out afresh from the log; nothing here says how a loop keeps them.
-- (Its words: leg for edge, chart for graph, the season's log, sailings for entries.) Definitions only.
use Rattle.std.specs.Prelude.{cond, List, [], ◌∷◌, ℕ, suc, ◌-◌, eqb, length, get_or, drop, ℤ, pos}
use Rattle.std.specs.Int.Signed.{lt_z}
use Rattle.lists.specs.Select.{keep}
use Rattle.lists.specs.Fill.{fill}
use Rattle.graph.specs.declared.Graph.{Graph}

-- "leg and time pairs"
pub record Entry : Type 0 where
  pub edge : ℕ
  pub time : ℤ

-- the log of two lists that are equally long
unfoldable pub log_of : List ℕ → List ℤ → List Entry
log_of [] ts = []
log_of (k ∷ ks) [] = []
log_of (k ∷ ks) (t ∷ ts) = record { edge = k; time = t } ∷ log_of ks ts

-- edge k's times, in the log's order
unfoldable pub times_of : ℕ → List Entry → List ℤ
times_of k [] = []
times_of k (e ∷ log) = keep (eqb e.edge k) e.time (times_of k log)

-- "its last w times"; "A leg with fewer sailings uses those it has"
unfoldable pub latest : ℕ → List ℤ → List ℤ
latest w ts = drop (length ts - w) ts

-- "the greatest of" them; `Greatest` in specs/Greatest says it in plain words
unfoldable pub larger : ℤ → ℤ → ℤ
larger x y = cond (lt_z x y) y x

unfoldable pub greatest : ℤ → List ℤ → ℤ
unfolding larger
greatest x [] = x
greatest x (y ∷ ts) = greatest (larger x y) ts

-- "and one with none keeps the chart's cost", c
unfoldable pub greatest_or : ℤ → List ℤ → ℤ
unfolding greatest
greatest_or c [] = c
greatest_or c (x ∷ ts) = greatest x ts

-- "A leg's cost should be the greatest of its last w times": edge k's, whose cost is c in the chart
unfoldable pub recent_cost : ℕ → ℤ → List Entry → ℕ → ℤ
unfolding greatest_or latest times_of
recent_cost w c log k = greatest_or c (latest w (times_of k log))

-- of every edge; edge k's cost stands at place k − 1
unfoldable pub recent_costs : ℕ → List ℤ → List Entry → List ℤ
unfolding fill recent_cost
recent_costs w cost log = fill (length cost) (λ i. recent_cost w (get_or cost i (pos 0)) log (suc i))

-- "the chart so made": these costs, and nothing else changed
unfoldable pub recent_graph : ℕ → List Entry → Graph → Graph
unfolding recent_costs
recent_graph w log g =
    record { n = g.n; m = g.m; a = g.a; b = g.b; cost = recent_costs w g.cost log; mark = g.mark }
