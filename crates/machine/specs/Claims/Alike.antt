-- Two graphs of one network whose edges are numbered alike have the very same network: a network says nothing of places past m. For Claim.
use Rattle.std.specs.Prelude.{◌≡◌, List, ℕ, zero, suc, ◌≤◌, ◌<◌, pos}
use Rattle.std.proofs.Common.{sym, ◌∙◌, arith}
use Rattle.std.proofs.Math.Decide.{dec_le}
use Rattle.graph.specs.declared.Graph.{Graph}
use Rattle.graph.specs.Network.{free, mark_of, place, network}
use Rattle.graph.specs.Places.{place_zero, place_past}
use Rattle.tree_theory.specs.Arrays.{of_edge}
use Rattle.tours.specs.OneNetwork.{SameEdge, OneNetwork}
use Rattle.machine.specs.Demand3.{NumberedAlike}

-- what is z at 0 and past m, and alike between, is alike
everywhere : {A : Type 0} (z : A) (m : ℕ) (f h : ℕ → A) → f 0 ≡ z → h 0 ≡ z
    → ((k : ℕ) → m ≤ k → f (suc k) ≡ z) → ((k : ℕ) → m ≤ k → h (suc k) ≡ z)
    → ((k : ℕ) → k < m → f (suc k) ≡ h (suc k)) → (k : ℕ) → f k ≡ h k
everywhere z m f h f0 h0 fp hp at zero = f0 ∙ sym h0
everywhere z m f h f0 h0 fp hp at (suc k) = go (dec_le (suc k) m)
  where
    go : Dec (k < m) → f (suc k) ≡ h (suc k)
    go (yes i) = at k i
    go (no i) = fp k (omega arith) ∙ sym (hp k (omega arith))

pub network-alike : (g h : Graph) → OneNetwork (network g) (network h) → NumberedAlike (network g) (network h) → network h ≡ network g
unfolding network
network-alike g h one alike = λ i. record {
  n = one.n i;
  m = one.m i;
  a = λ k. numbers h.a g.a (λ j l. (at j l).a) k i;
  b = λ k. numbers h.b g.b (λ j l. (at j l).b) k i;
  cost = λ k.
      everywhere (pos 0) g.m (place (pos 0) h.m h.cost) (place (pos 0) g.m g.cost)
      (place_zero (pos 0) h.m h.cost) (place_zero (pos 0) g.m g.cost)
      (λ j l. place_past (pos 0) h.m h.cost j (omega (arith, same))) (place_past (pos 0) g.m g.cost)
      (λ j l. (at j l).cost) k i;
  mark = λ k.
      everywhere free g.m (λ j. mark_of (place 0 h.m h.mark j)) (λ j. mark_of (place 0 g.m g.mark j))
      (unmarked _ (place_zero 0 h.m h.mark)) (unmarked _ (place_zero 0 g.m g.mark))
      (λ j l. unmarked _ (place_past 0 h.m h.mark j (omega (arith, same))))
      (λ j l. unmarked _ (place_past 0 g.m g.mark j l))
      (λ j l. (at j l).mark) k i;
}
  where
    same : h.m ≡ g.m
    same = one.m

    at : (j : ℕ) → j < g.m → SameEdge (network g) (network h) (suc j) (suc j)
    at j l = alike (suc j) (of_edge g.m j l)

    unmarked : (x : ℕ) → x ≡ 0 → mark_of x ≡ free
    unmarked x e = unfold mark_of in (rw e)

    numbers : (x y : List ℕ) → ((j : ℕ) → j < g.m → place 0 h.m x (suc j) ≡ place 0 g.m y (suc j))
        → (k : ℕ) → place 0 h.m x k ≡ place 0 g.m y k
    numbers x y e =
        everywhere 0 g.m (place 0 h.m x) (place 0 g.m y) (place_zero 0 h.m x) (place_zero 0 g.m y)
        (λ j l. place_past 0 h.m x j (omega (arith, same))) (place_past 0 g.m y) e
