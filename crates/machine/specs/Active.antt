-- Of an accepted opening, the network of the active vertices is valid, whatever the denominator, its multipliers are such as an opening accepts, and
-- both are those of the opening that the state holds. Assumes nothing.
use Rattle.std.specs.Prelude.{◌≡◌, ◌≤◌}
use Rattle.std.proofs.Common.{ap, arith}
use Rattle.graph.specs.Limits.{max_edges}
use Rattle.graph.specs.Network.{network}
use Rattle.tree_theory.specs.Valid.{Valid}
use Rattle.thinning.specs.Ranks.{rank_most}
use Rattle.afloat.specs.Over.{active, ashore}
use Rattle.afloat.specs.Reduced.{reduced, Fit, count_is, reduced-valid}
use Rattle.afloat.specs.Inputs.{fit_of}
use Rattle.afloat.specs.Lists.{reduced-size}
use Rattle.afloat.specs.ListsFit.{reduced_fits}
use Rattle.machine.specs.Machine.{Opening, active_network, active_multipliers, held}
use Rattle.machine.specs.Kept.{active_size, Accepted, FitFor}
use Rattle.machine.specs.Trimmed.{network-trimmed}

module _ (o : Opening) where
  -- as many vertices are active as there are at most
  pub active_most : active_size o ≤ o.graph.n
  active_most = rank_most (active (ashore o.ashore)) o.graph.n

  module _ (a : Accepted o) where
    pub active_fit : Fit (ashore o.ashore) (network o.graph)
    active_fit = fit_of o.graph a.valid o.ashore a.ashore_fit

    -- A VALID NETWORK
    pub active_valid : Valid (active_network o)
    active_valid = reduced-valid (ashore o.ashore) (network o.graph) active_fit

    pub active_some : 3 ≤ active_size o
    active_some = unfold network in omega (arith, active_fit.three, count_is (ashore o.ashore) o.graph.n)

    -- MULTIPLIERS THAT FIT
    pub active_multipliers_fit : FitFor (active_size o) (active_multipliers o)
    active_multipliers_fit = record {
      long = reduced-size (ashore o.ashore) o.graph.n o.multipliers;
      fits = unfold network in reduced_fits (ashore o.ashore) (network o.graph) active_fit o.multipliers a.long a.multipliers;
    }

  -- AS THE STATE HOLDS THEM
  pub active_held : o.graph.m ≤ max_edges → active_network (held o) ≡ active_network o
  unfolding held
  active_held few = ap (reduced (ashore o.ashore)) (network-trimmed o.graph few)
