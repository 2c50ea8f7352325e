-- "Records off the chain hold anything": two files of one length and one header that agree on each record of the chain are read alike, with
-- the same answer and the same graph. Assumes nothing.
use Prim.Native.Nat.{ℕ, zero, suc, ◌+◌, ◌-◌, ◌<◌, ◌≤◌}
use Rattle.std.specs.Prelude.{◌≡◌, Bool, true, List, length, get_or, set, ltb, eqb}
use Rattle.std.proofs.Math.Path.{refl, ap}
use Rattle.std.proofs.Common.{◌∙◌}
use Rattle.std.proofs.Math.Bool.{false}
use native.Mathlib.Omega.{arith}
use Rattle.std.proofs.Math.ListN.{replicate}
use borrow.Author.Tests.{ltb-false, eqb-true, eqb-false}
use Rattle.lists.specs.Bools.{by_cases}
use Rattle.graph.specs.declared.Graph.{Graph}
use Rattle.graph.specs.Limits.{max_edges, max_records}
use Rattle.charts.specs.Chart.{u16_at, u32_at, vertices, chain_head, record_count, start_of, cost_at, next_of, header_fault, body_fault, record_fault, with_record, chain_from, chain, reading}
use Rattle.graph.specs.Edgeless.{edgeless}
use Rattle.charts.specs.NoFault.{record_ok}
use Rattle.charts_theorems.specs.Along.{above, link, link-first, link-next}

-- s and t agree on record k
unfoldable pub Alike : List ℕ → List ℕ → ℕ → Type 0
Alike s t k = (i : ℕ) → i < 12 → get_or s (start_of k + i) 0 ≡ get_or t (start_of k + i) 0

pub record SameChain (s t : List ℕ) : Type 0 where
  pub long : length s ≡ length t
  pub header : (i : ℕ) → i < 8 → get_or s i 0 ≡ get_or t i 0
  pub chain : (j : ℕ) → 0 < link s j → link s j ≤ record_count s → Alike s t (link s j)

module _ (s t : List ℕ) (w : SameChain s t) where
  same_count : record_count s ≡ record_count t
  unfolding u16_at
  same_count = rw (w.header 4 (omega arith), w.header 5 (omega arith))

  same_head : chain_head s ≡ chain_head t
  unfolding u16_at
  same_head = rw (w.header 2 (omega arith), w.header 3 (omega arith))

  same_header : header_fault s ≡ header_fault t
  unfolding header_fault
  same_header =
      rw (
        same_count,
        w.long,
        w.header 0 (omega arith),
        w.header 1 (omega arith),
        w.header 6 (omega arith),
        w.header 7 (omega arith),
      )

  module _ (k : ℕ) (a : Alike s t k) where
    same_first : get_or s (start_of k) 0 ≡ get_or t (start_of k) 0
    unfolding Alike
    same_first = let e : start_of k + 0 ≡ start_of k = omega arith in rw e at (a 0 (omega arith))

    same-cost : cost_at s (start_of k) ≡ cost_at t (start_of k)
    unfolding cost_at u32_at Alike
    same-cost =
        let p = start_of k in
        let e1 : p + 4 + 1 ≡ p + 5 = omega arith in
        let e2 : p + 4 + 2 ≡ p + 6 = omega arith in
        let e3 : p + 4 + 3 ≡ p + 7 = omega arith in
        rw (e1, e2, e3, a 4 (omega arith), a 5 (omega arith), a 6 (omega arith), a 7 (omega arith))

    same_next : next_of s k ≡ next_of t k
    unfolding next_of u16_at Alike
    same_next =
        let e : start_of k + 8 + 1 ≡ start_of k + 9 = omega arith in
        rw (e, a 8 (omega arith), a 9 (omega arith))

    same_edge : (g : Graph) → with_record s g (start_of k) ≡ with_record t g (start_of k)
    unfolding with_record Alike
    same_edge g = rw (same_first, a 1 (omega arith), a 2 (omega arith), same-cost)

    same_body : (n : ℕ) → body_fault s n (start_of k) ≡ body_fault t n (start_of k)
    unfolding body_fault Alike
    same_body n =
        rw (
          same_first,
          a 1 (omega arith),
          a 2 (omega arith),
          a 3 (omega arith),
          a 10 (omega arith),
          a 11 (omega arith),
          same-cost,
        )

  same-fault : (met : List Bool) (g : Graph) (k : ℕ) → (k ≤ record_count s → Alike s t k) → record_fault s met g k ≡ record_fault t met g k
  unfolding record_fault Alike
  same-fault met g k a =
      by_cases (ltb (record_count s) k) (λ e. rw (← same_count, e))
      (λ e. let b = a (ltb-false (record_count s) k e) in
      rw (← same_count, e, same_body k b g.n, same_first k b, b 1 (omega arith)))

  same_from : (f j : ℕ) (met : List Bool) (g : Graph) → chain_from f s met g (link s j) ≡ chain_from f t met g (link s j)
  unfolding chain_from
  same_from zero j met g = refl
  same_from (suc f) j met g =
      let k = link s j in
      by_cases (eqb k 0) (λ e. rw e)
      (λ e. let n = eqb-false k 0 e in
      let a : k ≤ record_count s → Alike s t k = λ u. w.chain j (above k n) u in
      let q = same-fault met g k a in
      by_cases (eqb (record_fault s met g k) 0)
      (λ u. let b = a (record_ok s met g k (eqb-true (record_fault s met g k) 0 u)).under in
      rw (e, ← q, u, ← same_edge k b g, ← same_next k b, ← link-next s j n)
      (same_from f (suc j) (set met (k - 1) true) (with_record s g (start_of k))))
      (λ u. rw (e, ← q, u)))

  same-chain : chain s ≡ chain t
  unfolding chain
  same-chain =
      let v = replicate max_records false in
      let g = edgeless (vertices s) in
      let start : chain_from (suc max_edges) s v g (chain_head s) ≡ chain_from (suc max_edges) t v g (chain_head s)
      = rw (link-first s) at (same_from (suc max_edges) 0 v g) in
      start ∙ ap (λ (n : ℕ). chain_from (suc max_edges) t v (edgeless n) (chain_head s)) (w.header 0 (omega arith))
      ∙ ap (λ (k : ℕ). chain_from (suc max_edges) t v (edgeless (vertices t)) k) same_head

-- Records off the chain do not matter.
pub off_chain : (s t : List ℕ) → SameChain s t → reading s ≡ reading t
unfolding reading
off_chain s t w = rw (same_header s t w, same-chain s t w)
