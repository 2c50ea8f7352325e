-- DOCUMENT 02, C-17: "State the sum and range facts for any q and not for chosen ones", of what the calls accept: of a valid graph value and multipliers
-- that fit each charge and each 1-tree's bound is within the limits of tree_theory's Ranges, for every q; and for every q in its range these limits are
-- within those that code's words are sized by (greedy/specs/Charged). Assumes nothing.
use Rattle.std.specs.Prelude.{◌≡◌, true, List, ℕ, zero, suc, ◌+◌, ◌*◌, ◌<◌, ◌≤◌, length, get_or, ℤ, pos}
use Rattle.std.proofs.Common.{sym, subst, arith}
use Rattle.std.proofs.Math.Decide.{dec_le}
use Rattle.std.proofs.Math.ListN.{get_or-eq_default}
use Rattle.lists.specs.Members.{◌∈◌}
use Rattle.lists.specs.Numbers.{up_to}
use Rattle.integers.specs.Range.{InRange, within_range}
use Rattle.graph.specs.declared.Graph.{Graph}
use Rattle.graph.specs.Limits.{max_cost, max_multiplier, max_denominator}
use Rattle.graph.specs.Network.{network}
use Rattle.graph.specs.Places.{network-cost}
use Rattle.graph.specs.Valid.{Valid}
use Rattle.tree_theory.specs.OneTree.{Edges, OneTree, charge, bound}
use Rattle.tree_theory.specs.Inputs.{multiplier, multipliers_fit}
use Rattle.tree_theory.specs.Multipliers.{fit_ranged}
use Rattle.tree_theory.specs.Arrays.{edge_in}
use Rattle.tree_theory.specs.Scaled.{scaled_by}
use Rattle.tree_theory.specs.Ranges.{charge_limit, bound_limit, slack_limit, charge-limit, tree-limit, limits_grow}
use Rattle.greedy.specs.Charged.{max_charge, max_slack}

multipliers_range : (d : List ℤ) → multipliers_fit d ≡ true → (v : ℕ) → InRange max_multiplier (multiplier d v)
unfolding multiplier
multipliers_range d h zero = record { high = omega arith; low = omega arith }
multipliers_range d h (suc v) = go (dec_le (suc v) (length d))
  where
    go : Dec (v < length d) → InRange max_multiplier (get_or d v (pos 0))
    go (yes l) = fit_ranged d h v l
    go (no l) = rw (get_or-eq_default d (pos 0) {n = v} (omega arith)) (record { high = omega arith; low = omega arith })

costs_range : (g : Graph) → Valid g → (k : ℕ) → k ∈ up_to (network g).m → InRange max_cost ((network g).cost k)
costs_range g v k m =
    let r = edge_in g k m in
    subst (λ (e : ℕ). InRange max_cost ((network g).cost e)) (sym r.2)
    (rw (network-cost g r.0 r.1) (within_range max_cost _ (v.each r.0 r.1).range))

-- FOR EVERY q
module _ (q : ℕ) (g : Graph) (v : Valid g) (d : List ℤ) (fit : multipliers_fit d ≡ true) where
  pub accepted_charge : (k : ℕ) → k ∈ up_to (network g).m → InRange (charge_limit q) (charge (scaled_by q (network g)) (multiplier d) k)
  accepted_charge k m = charge-limit q (network g) (multiplier d) (costs_range g v) (multipliers_range d fit) k m

  pub accepted_bound : (t : Edges) → OneTree (network g) t → InRange (bound_limit q) (bound (scaled_by q (network g)) (multiplier d) t)
  unfolding network
  accepted_bound t o = tree-limit q (network g) (multiplier d) (costs_range g v) (multipliers_range d fit) v.high t o

-- and for every q in its range code has room: for a charge moved up by its limit and 1, and for a slack
module _ (q : ℕ) (few : q ≤ max_denominator) where
  pub charge-room : 2 * charge_limit q + 1 ≤ max_charge
  charge-room = omega (arith, (limits_grow q max_denominator few).0)

  pub slack_room : slack_limit q ≤ max_slack
  slack_room = omega (arith, (limits_grow q max_denominator few).2)
