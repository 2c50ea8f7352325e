-- The bytes that the rule call gives to free edges are their rulings: outside the tree by the dearest edge that may give way, inside it
-- by the cheapest that may come in. Assumes nothing.
use Rattle.std.specs.Prelude.{◌≡◌, ◌≢◌, ◌↔◌, ◌⊎◌, true, cond, ◌||◌, List, eqb, ltb, ℤ}
use Rattle.std.proofs.Common.{◌∙◌, sym, ap, subst, inl, inr}
use Rattle.std.proofs.Math.Bool.{false}
use Prim.Native.Nat.{ℕ, suc, ◌+◌, ◌<◌, ◌≤◌}
use native.Mathlib.Omega.{arith}
use Rattle.std.proofs.Math.Decide.{ℕ_discrete, dec_le}
use Rattle.std.proofs.Math.ListN.{get_or}
use borrow.Author.Tests.{eqb-true, eqb-false, eq-eqb, ne_eqb, lt-ltb, le-ltb}
use Rattle.lists.specs.Members.{◌∈◌}
use Rattle.lists.specs.Numbers.{up_to}
use Rattle.graph.specs.declared.Graph.{Graph}
use Rattle.graph.specs.Network.{network}
use Rattle.graph.specs.Valid as value
use Rattle.tree_theory.specs.OneTree as one
use Rattle.tree_theory.specs.OneTree.{OneTree, bound, Barred, Forced}
use Rattle.tree_theory.specs.Enumeration.{ruling}
use Rattle.tree_theory.specs.Rulings.{rules_out, rules_in, rules_nothing}
use Rattle.tree_theory.specs.Optimal.Criteria.{MaySwap}
use Rattle.tree_theory.specs.Optimal.Exchange.{least_minimal}
use Rattle.tree_theory.specs.Scaled.{scaled_by}
use Rattle.tree_theory.specs.Scaling.{valid_scaled, tree_scaled, swap_scaled}
use Rattle.tree_theory.specs.Inputs.{multiplier}
use Rattle.onetree.specs.Answers.{ruling_byte}
use Rattle.tree_theory.specs.Arrays.{entry, bytes, edge_of, of_edge, mark_free, network-valid}
use Rattle.greedy.specs.Charged.{Charged, offset, max_slack, no_charge, offs}
use Rattle.greedy.specs.Fits.{none_exceeds}
use Rattle.swaps.specs.Extremes.{Largest, Least, Taken}
use Rattle.swaps.specs.Slack.{SlackIs, barred_slack, forced_slack, not_barred_in, not_forced_out}
use Rattle.swaps.specs.Visiting.{Rooting}
use Rattle.swaps.specs.RootedTree.{RootedIn}
use Rattle.swaps.specs.Swaps.{Swaps, mark_at, swaps_may, may_swaps}

abbrev pub charge_at : List ℕ → ℕ → ℕ
charge_at c k = get_or c k 0

-- the edge at place i may give way to the one at place k, outside the tree
abbrev pub Gives : Graph → List ℕ → List ℕ → Rooting → ℕ → ℕ → Type 0
Gives g w rep r k i = (get_or w i 0 ≡ 1) × Swaps g rep r i k

-- the edge at place i may come in for the one at place k, in the tree
abbrev pub Comes : Graph → List ℕ → List ℕ → Rooting → ℕ → ℕ → Type 0
Comes g w rep r k i = (get_or w i 0 ≢ 1) × Swaps g rep r k i

-- an edge at charge c is barred if nothing may give way, or if even the dearest leaves it above the slack
unfoldable pub bar_byte : ℕ → ℕ → ℕ → ℕ
bar_byte top c slack = cond (eqb top 0 || ltb (top + slack) c) 2 0

-- and one in the tree is forced if even the cheapest adds more than the slack
unfoldable pub force_byte : ℕ → ℕ → ℕ → ℕ
force_byte low c slack = cond (ltb (c + slack) low) 1 0

bar_cases : (top c slack : ℕ)
    → ((bar_byte top c slack ≡ 2) × ((top ≡ 0) ⊎ (top + slack < c))) ⊎ ((bar_byte top c slack ≡ 0) × (1 ≤ top) × (c ≤ top + slack))
unfolding bar_byte
bar_cases top c slack = go (ℕ_discrete top 0) (dec_le (suc (top + slack)) c)
  where
    go : Dec (top ≡ 0) → Dec (top + slack < c) → ((bar_byte top c slack ≡ 2) × ((top ≡ 0) ⊎ (top + slack < c)))
        ⊎ ((bar_byte top c slack ≡ 0) × (1 ≤ top) × (c ≤ top + slack))
    go (yes e) l = inl (rw (eq-eqb top 0 e), inl e)
    go (no e) (yes l) = inl (rw (ne_eqb top 0 e, lt-ltb (top + slack) c l), inr l)
    go (no e) (no l) = inr (rw (ne_eqb top 0 e, le-ltb (top + slack) c (omega arith)), omega arith, omega arith)

force_cases : (low c slack : ℕ)
    → ((force_byte low c slack ≡ 1) × (c + slack < low)) ⊎ ((force_byte low c slack ≡ 0) × (low ≤ c + slack))
unfolding force_byte
force_cases low c slack = go (dec_le (suc (c + slack)) low)
  where
    go : Dec (c + slack < low) → ((force_byte low c slack ≡ 1) × (c + slack < low)) ⊎ ((force_byte low c slack ≡ 0) × (low ≤ c + slack))
    go (yes l) = inl (rw (lt-ltb (c + slack) low l), l)
    go (no l) = inr (rw (le-ltb (c + slack) low (omega arith)), omega arith)

-- what the least 1-tree, its charges and the ceiling are; multipliers, bounds and this ceiling count in parts of a minute by the denominator
pub record Judgement (den : ℕ) (g : Graph) (w c : List ℕ) (slack : ℕ) (d : List ℤ) (z : ℤ) : Type 0 where
  pub charged : Charged den g d c
  pub least : one.Least (scaled_by den (network g)) (multiplier d) (bytes w)
  pub within : SlackIs z (bound (scaled_by den (network g)) (multiplier d) (bytes w)) slack
  pub small : slack ≤ max_slack

module _ (den : ℕ) (g : Graph) (v : value.Valid g) (w c rep : List ℕ) (r : Rooting) (t : RootedIn g w rep r) (slack : ℕ) (d : List ℤ) (z : ℤ)
    (j : Judgement den g w c slack d z) (k : ℕ) (hk : k < g.m) (free : mark_at g k ≡ 0) where
  mk : suc k ∈ up_to g.m
  mk = of_edge g.m k hk

  is_tree : OneTree (network g) (bytes w)
  is_tree = (tree_scaled den (network g) (bytes w)).0 j.least.tree

  out : get_or w k 0 ≢ 1 → bytes w (suc k) ≡ false
  out e = ne_eqb (get_or w k 0) 1 e

  module _ (wk : get_or w k 0 ≢ 1) where
    barred : Barred (scaled_by den (network g)) (multiplier d) z (suc k) ↔ ((e : ℕ) → e ∈ up_to g.m → bytes w e ≡ true
        → MaySwap (scaled_by den (network g)) (bytes w) e (suc k) → slack + entry c e < entry c (suc k))
    unfolding network
    barred = barred_slack (scaled_by den (network g)) (valid_scaled den (network g) (network-valid g v)) (multiplier d) offset (entry c) (offs den g d c j.charged) (bytes w)
        (least_minimal j.least)
        z slack j.within (suc k) mk (out wk)

    not_forced : ¬ Forced (scaled_by den (network g)) (multiplier d) z (suc k)
    unfolding network
    not_forced = not_forced_out (scaled_by den (network g)) (valid_scaled den (network g) (network-valid g v)) (multiplier d) offset (entry c) (offs den g d c j.charged) (bytes w)
        (least_minimal j.least)
        z slack j.within (suc k) mk (out wk)

    -- OUTSIDE THE TREE
    pub out_byte : (top : ℕ) → Largest (Gives g w rep r k) (charge_at c) g.m top
        → ruling_byte (ruling (scaled_by den (network g)) (multiplier d) z (suc k)) ≡ bar_byte top (charge_at c k) slack
    unfolding network
    out_byte top l = go (bar_cases top (charge_at c k) slack)
      where
        bar : (top ≡ 0) ⊎ (top + slack < charge_at c k) → Barred (scaled_by den (network g)) (multiplier d) z (suc k)
        bar q = barred.1 (λ e m i s. below e (edge_of g.m e m) i s)
          where
            side : (i : ℕ) → i < g.m → charge_at c i ≤ top → (top ≡ 0) ⊎ (top + slack < charge_at c k)
                → slack + charge_at c i < charge_at c k
            side i h a (inl e) = absurd (omega (arith, (j.charged i h).low))
            side i h a (inr e) = omega arith

            below : (e : ℕ) → (i : ℕ) × (i < g.m) × (e ≡ suc i) → bytes w e ≡ true → MaySwap (scaled_by den (network g)) (bytes w) e (suc k)
                → slack + entry c e < charge_at c k
            below e n i s = rw n.2 (side n.0 n.1 (l.all n.0 n.1 (wi, may)) q)
              where
                wi : get_or w n.0 0 ≡ 1
                wi = eqb-true (get_or w n.0 0) 1 (subst (λ (x : ℕ). bytes w x ≡ true) n.2 i)

                may : Swaps g rep r n.0 k
                may = may_swaps g v w is_tree rep r t n.0 k n.1 hk wi wk
                    ((swap_scaled den (network g) (bytes w) (suc n.0) (suc k)).0
                    (subst (λ (x : ℕ). MaySwap (scaled_by den (network g)) (bytes w) x (suc k)) n.2 s))

        open' : 1 ≤ top → charge_at c k ≤ top + slack → ¬ Barred (scaled_by den (network g)) (multiplier d) z (suc k)
        open' some near b = no_way l.best
          where
            no_way : Taken (Gives g w rep r k) (charge_at c) 0 g.m top → ⊥
            no_way (inl e) = omega arith
            no_way (inr q) = omega (
              arith,
              q.3,
              barred.0 b (suc q.0) (of_edge g.m q.0 q.1) (eq-eqb (get_or w q.0 0) 1 q.2.0)
                  ((swap_scaled den (network g) (bytes w) (suc q.0) (suc k)).1
                  (swaps_may g v w is_tree rep r t q.0 k q.1 hk q.2.0 wk q.2.1)),
            )

        go : ((bar_byte top (charge_at c k) slack ≡ 2) × ((top ≡ 0) ⊎ (top + slack < charge_at c k)))
            ⊎ ((bar_byte top (charge_at c k) slack ≡ 0) × (1 ≤ top) × (charge_at c k ≤ top + slack))
            → ruling_byte (ruling (scaled_by den (network g)) (multiplier d) z (suc k)) ≡ bar_byte top (charge_at c k) slack
        go (inl q) = ap ruling_byte (rules_out (scaled_by den (network g)) (multiplier d) z (suc k) mk (mark_free g k hk free) (bar q.1)) ∙ sym q.0
        go (inr q) =
            ap ruling_byte (rules_nothing (scaled_by den (network g)) (multiplier d) z (suc k) mk (mark_free g k hk free) (open' q.1 q.2) not_forced)
            ∙ sym q.0

  module _ (wk : get_or w k 0 ≡ 1) where
    in_tree : bytes w (suc k) ≡ true
    in_tree = eq-eqb (get_or w k 0) 1 wk

    forced : Forced (scaled_by den (network g)) (multiplier d) z (suc k) ↔ ((e : ℕ) → e ∈ up_to g.m → bytes w e ≡ false
        → MaySwap (scaled_by den (network g)) (bytes w) (suc k) e → slack + entry c (suc k) < entry c e)
    unfolding network
    forced = forced_slack (scaled_by den (network g)) (valid_scaled den (network g) (network-valid g v)) (multiplier d) offset (entry c) (offs den g d c j.charged) (bytes w)
        (least_minimal j.least)
        z slack j.within (suc k) mk in_tree

    not_barred : ¬ Barred (scaled_by den (network g)) (multiplier d) z (suc k)
    unfolding network
    not_barred = not_barred_in (scaled_by den (network g)) (valid_scaled den (network g) (network-valid g v)) (multiplier d) offset (entry c) (offs den g d c j.charged) (bytes w)
        (least_minimal j.least)
        z slack j.within (suc k) mk in_tree

    -- IN THE TREE
    pub in_byte : (low : ℕ) → Least (Comes g w rep r k) (charge_at c) no_charge g.m low
        → ruling_byte (ruling (scaled_by den (network g)) (multiplier d) z (suc k)) ≡ force_byte low (charge_at c k) slack
    unfolding network
    in_byte low l = go (force_cases low (charge_at c k) slack)
      where
        force : charge_at c k + slack < low → Forced (scaled_by den (network g)) (multiplier d) z (suc k)
        force q = forced.1 (λ e m i s. over e (edge_of g.m e m) i s)
          where
            over : (e : ℕ) → (i : ℕ) × (i < g.m) × (e ≡ suc i) → bytes w e ≡ false → MaySwap (scaled_by den (network g)) (bytes w) (suc k) e
                → slack + charge_at c k < entry c e
            over e n i s = rw n.2 (omega (arith, l.all n.0 n.1 (wi, may)))
              where
                wi : get_or w n.0 0 ≢ 1
                wi = eqb-false (get_or w n.0 0) 1 (subst (λ (x : ℕ). bytes w x ≡ false) n.2 i)

                may : Swaps g rep r k n.0
                may = may_swaps g v w is_tree rep r t k n.0 hk n.1 wk wi
                    ((swap_scaled den (network g) (bytes w) (suc k) (suc n.0)).0
                    (subst (λ (x : ℕ). MaySwap (scaled_by den (network g)) (bytes w) (suc k) x) n.2 s))

        loose : low ≤ charge_at c k + slack → ¬ Forced (scaled_by den (network g)) (multiplier d) z (suc k)
        loose near f = no_way l.best
          where
            no_way : Taken (Comes g w rep r k) (charge_at c) no_charge g.m low → ⊥
            no_way (inl e) = omega (arith, none_exceeds (charge_at c k) slack (j.charged k hk).high j.small)
            no_way (inr q) = omega (
              arith,
              q.3,
              forced.0 f (suc q.0) (of_edge g.m q.0 q.1) (ne_eqb (get_or w q.0 0) 1 q.2.0)
                  ((swap_scaled den (network g) (bytes w) (suc k) (suc q.0)).1
                  (swaps_may g v w is_tree rep r t k q.0 hk q.1 wk q.2.0 q.2.1)),
            )

        go : ((force_byte low (charge_at c k) slack ≡ 1) × (charge_at c k + slack < low))
            ⊎ ((force_byte low (charge_at c k) slack ≡ 0) × (low ≤ charge_at c k + slack))
            → ruling_byte (ruling (scaled_by den (network g)) (multiplier d) z (suc k)) ≡ force_byte low (charge_at c k) slack
        go (inl q) =
            ap ruling_byte (rules_in (scaled_by den (network g)) (multiplier d) z (suc k) mk (mark_free g k hk free) not_barred (force q.1)) ∙ sym
            q.0
        go (inr q) =
            ap ruling_byte (rules_nothing (scaled_by den (network g)) (multiplier d) z (suc k) mk (mark_free g k hk free) not_barred (loose q.1))
            ∙ sym q.0
