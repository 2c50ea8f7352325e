-- THE PASSES OF A NODE ON THE SMALL GRAPH come to what they come to over the active vertices, for every denominator q: r is the graph of the kept
-- edges over the active vertices, made from the graph g; y are the marks of the kept edges, d the multipliers of all vertices. (Of the tree and the
-- rulings: Computed.)
use Rattle.std.specs.Prelude.{◌≡◌, Bool, true, List, ℕ, length, ℤ}
use Rattle.std.proofs.Common.{sym, ◌∙◌}
use Rattle.graph.specs.declared.Graph.{Graph}
use Rattle.graph.specs.Network.{network}
use Rattle.graph.specs.Valid as value
use Rattle.tree_theory.specs.OneTree.{Edges}
use Rattle.tree_theory.specs.Scaled.{scaled_by}
use Rattle.machine.specs.Machine.{Marks, passes}
use Rattle.thinning.specs.Ranks.{rank}
use Rattle.compaction.specs.Spread.{spread_marks, spread_opened}
use Rattle.afloat.specs.Over.{ashore, ashore_fits}
use Rattle.afloat.specs.Compact.{Keeping}
use Rattle.afloat.specs.Graphs.{Renumbered}
use Rattle.afloat.specs.Scaling.{fit_scaled}
use Rattle.afloat.specs.Inputs.{fit_of, inner_of}
use Rattle.afloat.specs.Lists.{reduced_list, Grounded}
use Rattle.afloat.specs.Computed.{small-network}
use Rattle.afloat_passes.specs.Passing.{passes_over}
use Rattle.afloat_passes.specs.Passes.{widened_opened}
use Rattle.afloat_passes.proofs.Passes.{passes-compact}

pub small-passes : (lifting : Bool) (l : List ℕ) (c : Edges) (g r : Graph) → value.Valid g → ashore_fits l g.n ≡ true → Keeping (ashore l) (network g) c
    → Renumbered (ashore l) c g r → (q : ℕ) (step : ℕ) (upper : ℤ) (left : ℕ) (d : List ℤ) (y : Marks)
    → length y ≡ rank c (network g).m → Grounded (ashore l) (network g).n d
    → passes_over lifting (ashore l) (scaled_by q (network g)) step upper left d (spread_marks c (network g).m y)
    ≡ widened_opened (ashore l) (network g).n
    (spread_opened c (network g).m (passes lifting (scaled_by q (network r)) step upper left (reduced_list (ashore l) (network g).n d) y))
small-passes lifting l c g r v fits keeping h q step upper left d y long z =
    passes-compact lifting (ashore l) (scaled_by q (network g)) (fit_scaled q (ashore l) (network g) (fit_of g v l fits)) (inner_of g l) c keeping.free
    step upper left d y long z
    ∙ sym (λ i.
    widened_opened (ashore l) (network g).n
    (spread_opened c (network g).m
    (passes lifting (small-network l c g r v fits keeping h q i) step upper left (reduced_list (ashore l) (network g).n d) y)))
