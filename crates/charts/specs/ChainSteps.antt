-- The turns of the chain as the code takes them: with m edges taken, one more than the places left is what the definition's count has
-- left. Assumes nothing.
use Rattle.std.specs.Prelude.{ℕ, suc, ◌+◌, ◌-◌, ◌≤◌, ◌≡◌, Bool, true, List, set}
use Rattle.std.proofs.Common.{arith}
use borrow.Author.Tests.{eq-eqb, ne_eqb}
use Rattle.graph.specs.declared.Graph.{Graph}
use Rattle.graph.specs.Limits.{max_edges}
use Rattle.charts.specs.Chart.{start_of, next_of, record_fault, with_record, accept, refuse, chain_from}

module _ (s : List ℕ) (met : List Bool) (g : Graph) (k : ℕ) where
  pub chain_end : (f : ℕ) → k ≡ 0 → chain_from (suc f) s met g k ≡ accept g
  unfolding chain_from
  chain_end f e = rw (eq-eqb k 0 e)

  pub chain-fault : (f : ℕ) → (k ≡ 0 → ⊥) → (record_fault s met g k ≡ 0 → ⊥)
      → chain_from (suc f) s met g k ≡ refuse (record_fault s met g k) k
  unfolding chain_from
  chain-fault f n e = rw (ne_eqb k 0 n, ne_eqb (record_fault s met g k) 0 e)

  pub chain-step : (f : ℕ) → (k ≡ 0 → ⊥) → record_fault s met g k ≡ 0
      → chain_from (suc f) s met g k ≡ chain_from f s (set met (k - 1) true) (with_record s g (start_of k)) (next_of s k)
  unfolding chain_from
  chain-step f n e = rw (ne_eqb k 0 n, eq-eqb (record_fault s met g k) 0 e)

  module _ (h : g.m ≤ max_edges) where
    left : suc max_edges - g.m ≡ suc (max_edges - g.m)
    left = omega arith

    pub at_end : k ≡ 0 → chain_from (suc max_edges - g.m) s met g k ≡ accept g
    at_end e = rw left (chain_end (max_edges - g.m) e)

    pub at-fault : (k ≡ 0 → ⊥) → (record_fault s met g k ≡ 0 → ⊥)
        → chain_from (suc max_edges - g.m) s met g k ≡ refuse (record_fault s met g k) k
    at-fault n e = rw left (chain-fault (max_edges - g.m) n e)

    pub at-step : (k ≡ 0 → ⊥) → record_fault s met g k ≡ 0
        → chain_from (suc max_edges - g.m) s met g k
        ≡ chain_from (suc max_edges - (g.m + 1)) s (set met (k - 1) true) (with_record s g (start_of k)) (next_of s k)
    at-step n e =
        let q : suc max_edges - (g.m + 1) ≡ max_edges - g.m = omega arith in
        rw (left, q) (chain-step (max_edges - g.m) n e)
