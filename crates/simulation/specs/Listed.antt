-- The edges of a list that is in sailing order: each is one of the graph's, and its cost stands in the array. Assumes nothing.
use Rattle.std.specs.Prelude.{◌≡◌, List, [], ◌∷◌, ◌++◌, ℕ, ◌-◌, ◌≤◌, ◌<◌, length, get_or}
use Rattle.std.proofs.Common.{subst, arith}
use Rattle.lists.specs.MembersAt.{at_in}
use Rattle.lists.specs.Numbers.{in_up_to}
use Rattle.integers.specs.Range.{InRange, within_range}
use Rattle.graph.specs.Limits.{max_vertices, max_edges, max_cost}
use Rattle.graph.specs.declared.Graph.{Graph}
use Rattle.graph.specs.Network.{network}
use Rattle.graph.specs.Places.{network-cost}
use Rattle.tree_theory.specs.Arrays.{network-valid}
use Rattle.sailing.specs.OrderTest.{test_order, leads_listed}
use Rattle.sailing.specs.Draws.{max_spread, modulus, after}
use Rattle.sailing.specs.Apart.{after_small}
use Rattle.sailing.specs.Simulation.{simulation_fault}
use Rattle.sailing.specs.Refusals.{Faultless, no_fault}
use Rattle.simulation.specs.Steps.{cost_in}

module _ (g : Graph) (ks : List ℕ) (student e len : ℕ) (f : Faultless g ks student e len) where
  -- each is one of the graph's
  pub edge_inside : (i : ℕ) → i < length ks → (1 ≤ get_or ks i 0) × (get_or ks i 0 ≤ g.m)
  unfolding network
  edge_inside i h =
      let order = test_order (network g) (network-valid g f.is_valid) ks f.in_order in
      in_up_to g.m (get_or ks i 0) (leads_listed (network g) 1 ks (order.order ++ 1 ∷ []) order.leads (get_or ks i 0) (at_in ks i 0 h))

  -- its cost, as the array has it
  pub cost-at : (i : ℕ) → i < length ks → (network g).cost (get_or ks i 0) ≡ cost_in g.cost (get_or ks i 0)
  cost-at i h =
      let k = get_or ks i 0 in
      let inside = edge_inside i h in
      subst (λ (x : ℕ). (network g).cost x ≡ cost_in g.cost k) (omega (arith, inside.0)) (network-cost g (k - 1) (omega (arith, inside.0, inside.1)))

  pub cost-small : (i : ℕ) → i < length ks → InRange max_cost (cost_in g.cost (get_or ks i 0))
  cost-small i h =
      let inside = edge_inside i h in
      within_range max_cost _ (f.is_valid.each (get_or ks i 0 - 1) (omega (arith, inside.0, inside.1))).range

-- what the loop knows at place i of a list that has no fault
pub record Listed (g : Graph) (ks : List ℕ) (student e len i : ℕ) : Type 0 where
  pub low : 1 ≤ get_or ks i 0
  pub high : get_or ks i 0 ≤ max_edges
  pub cost : InRange max_cost (cost_in g.cost (get_or ks i 0))
  pub room : i < len
  pub few : i < max_vertices
  pub state : after i student < modulus
  pub spread : e ≤ max_spread

pub listed_at : (g : Graph) (ks : List ℕ) (student e len : ℕ) → simulation_fault g ks student e len ≡ 0
    → (i : ℕ) → i < length ks → Listed g ks student e len i
listed_at g ks student e len none i h =
    let f = no_fault g ks student e len none in
    let inside = edge_inside g ks student e len f i h in
    record {
      low = inside.0;
      high = omega (arith, inside.1, f.is_valid.few);
      cost = cost-small g ks student e len f i h;
      room = omega (arith, f.edges_size, f.times-size);
      few = omega (arith, f.edges_size, f.is_valid.high);
      state = after_small i student (omega (arith, f.student_fits));
      spread = f.spread_fits;
    }
