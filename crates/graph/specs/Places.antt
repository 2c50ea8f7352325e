-- Laws of the network of a graph value: edge k + 1 of the network stands at place k of the arrays, and outside 1 .. m there is nothing.
-- What code finds in the arrays is so carried over to the network, one lemma for all four arrays. Assumes nothing.
use Rattle.std.specs.Prelude.{◌≡◌, List, ℕ, suc, ◌<◌, ◌≤◌, get_or, take, pos}
use Rattle.std.proofs.Math.Path.{refl, ap}
use Rattle.std.proofs.Common.{arith}
use Rattle.std.proofs.Math.ListN.{length-take, get_or-eq_default}
use Rattle.std.proofs.Math.Seq.{get_or-take}
use Rattle.graph.specs.declared.Graph.{Graph}
use Rattle.graph.specs.Network.{place, mark_of, network}

module _ {A : Type 0} (z : A) (m : ℕ) (l : List A) where
  pub place_at : (k : ℕ) → k < m → place z m l (suc k) ≡ get_or l k z
  unfolding place
  place_at k h = get_or-take m l k z h

  pub place_zero : place z m l 0 ≡ z
  unfolding place
  place_zero = refl

  pub place_past : (k : ℕ) → m ≤ k → place z m l (suc k) ≡ z
  unfolding place
  place_past k h = get_or-eq_default (take m l) z (omega (arith, length-take m l))

module _ (g : Graph) (k : ℕ) (h : k < g.m) where
  pub network_a : (network g).a (suc k) ≡ get_or g.a k 0
  unfolding network
  network_a = place_at 0 g.m g.a k h

  pub network_b : (network g).b (suc k) ≡ get_or g.b k 0
  unfolding network
  network_b = place_at 0 g.m g.b k h

  pub network-cost : (network g).cost (suc k) ≡ get_or g.cost k (pos 0)
  unfolding network
  network-cost = place_at (pos 0) g.m g.cost k h

  pub network_mark : (network g).mark (suc k) ≡ mark_of (get_or g.mark k 0)
  unfolding network
  network_mark = ap mark_of (place_at 0 g.m g.mark k h)
