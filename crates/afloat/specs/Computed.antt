-- The small graph that code computes on, for every denominator q: r is the graph of the kept edges over the active vertices (`Renumbered`), made
-- from the graph g; c are the kept edges. r is valid, so the functions that are proved of valid graphs serve it as they are. (Its tree and
-- rulings: proofs/Computed.)
use Rattle.std.specs.Prelude.{◌≡◌, true, List, ℕ}
use Rattle.std.proofs.Common.{ap}
use Rattle.graph.specs.declared.Graph.{Graph}
use Rattle.graph.specs.Network.{Network, network}
use Rattle.graph.specs.Valid as value
use Rattle.tree_theory.specs.OneTree.{Edges}
use Rattle.tree_theory.specs.Scaled.{scaled_by}
use Rattle.afloat.specs.Over.{Ashore, ashore, ashore_fits}
use Rattle.afloat.specs.Reduced.{Fit}
use Rattle.afloat.specs.Compact.{Keeping, compact}
use Rattle.afloat.specs.Graphs.{Renumbered, renumbered_network, renumbered_valid}
use Rattle.afloat.specs.Inputs.{ashore_zero, fit_of}

module _ (l : List ℕ) (c : Edges) (g r : Graph) (v : value.Valid g) (fits : ashore_fits l g.n ≡ true) (keeping : Keeping (ashore l) (network g) c)
    (h : Renumbered (ashore l) c g r) (q : ℕ) where
  abbrev s : Ashore
  s = ashore l

  abbrev scaled_all : Network
  scaled_all = scaled_by q (network g)

  fit : Fit s (network g)
  fit = fit_of g v l fits

  -- A VALID GRAPH
  pub small-valid : value.Valid r
  small-valid = renumbered_valid s (ashore_zero l) c g r v fit keeping h

  -- WHOSE NETWORK IS THE COMPACT ONE
  pub small-network : scaled_by q (network r) ≡ compact s c scaled_all
  small-network = ap (scaled_by q) (renumbered_network s (ashore_zero l) c g r v fit keeping h)
