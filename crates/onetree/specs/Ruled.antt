-- The loops over the edges, over the labels and again over the edges give every edge its byte, and the bytes are the rulings: for whatever
-- multipliers and ceiling the charges and the slack stand for. Assumes nothing.
use Rattle.std.specs.Prelude.{◌≡◌, refl, ◌≢◌, ◌⊎◌, Bool, false, cond, List, length, eqb, ℤ}
use Rattle.std.proofs.Common.{◌∙◌, ap, subst, inl, inr, arith}
use Rattle.std.proofs.Math.Path.{sym}
use Prim.Native.Nat.{ℕ, zero, suc, ◌<◌, ◌≤◌}
use Rattle.std.proofs.Math.Decide.{ℕ_discrete}
use Rattle.std.proofs.Math.ListN.{get_or}
use Rattle.lists.specs.Numbers.{up_to}
use Rattle.lists.specs.Members.{◌∈◌}
use Rattle.graph.specs.declared.Graph.{Graph}
use Rattle.graph.specs.Network.{network}
use Rattle.graph.specs.Valid.{Valid}
use Rattle.tree_theory.specs.OneTree.{OneTree}
use Rattle.tree_theory.specs.Enumeration.{ruling}
use Rattle.tree_theory.specs.Rulings.{rules_required, rules_excluded}
use Rattle.tree_theory.specs.Scaled.{scaled_by}
use Rattle.tree_theory.specs.Inputs.{multiplier}
use Rattle.tree_theory.specs.Merges.{Merges}
use Rattle.tree_theory.specs.Multipliers.{Ranged}
use Rattle.onetree.specs.Answers.{ruling_byte, ruling_bytes, all_keep}
use Rattle.tree_theory.specs.Arrays.{blank, bytes, of_edge, mark_required, mark_excluded}
use Rattle.swaps.specs.Extremes.{Least}
use Rattle.lists.specs.FilledFrom.{Updated}
use Rattle.swaps.specs.Visiting.{Rooting, edge_at}
use Rattle.swaps.specs.RootedTree.{RootedIn}
use Rattle.swaps.specs.Swaps.{a_at, mark_at, Below, over_in, over_once, over_all}
use Rattle.greedy.specs.Charged.{no_charge, max_slack, Cheap}
use Rattle.greedy.specs.declared.Lists.{Lists}
use Rattle.lifting.specs.Lifted.{ruling_with}
use Rattle.onetree.specs.Verdicts.{charge_at, Comes, force_byte, Judgement, out_byte, in_byte}
use Rattle.onetree.specs.Candidates.{near_comes, far_comes}
use Rattle.onetree.specs.Outside.{Ready, RuledOutside, Barring}
use Rattle.onetree.specs.Forcing.{OneEach, Forcing}

-- 'keep' is 0
pub keep_bytes : ruling_bytes all_keep ≡ blank
keep_bytes = refl

-- "3 already required, 4 already struck"; else what stands there
unfoldable pub ruling_of : ℕ → ℕ → ℕ
ruling_of mark old = cond (eqb mark 1) 3 (cond (eqb mark 2) 4 old)

abbrev pub final_at : List ℕ → List ℕ → ℕ → ℕ
final_at mark out k = ruling_of (get_or mark k 0) (get_or out k 0)

-- every edge's byte is its ruling's, with lifting or without, and past the edges there is 0
pub record RuledBy (lifting : Bool) (g : Graph) (d : List ℤ) (w c : List ℕ) (slack : ℕ) (res : List ℕ) : Type 0 where
  pub each : (den : ℕ) (z : ℤ) → Judgement den g w c slack d z → (k : ℕ) → k < g.m
      → get_or res k 0 ≡ ruling_byte (ruling_with lifting (scaled_by den (network g)) (multiplier d) z (suc k))
  pub past : (k : ℕ) → g.m ≤ k → get_or res k 0 ≡ 0

-- what lifting adds to numbers stays in its words: labels have places, charges have their keys, multipliers their range
pub record ListsFit (g : Graph) (l : Lists) (d : List ℤ) (slack : ℕ) : Type 0 where
  pub merges : Merges g l.labels
  pub cheap : Cheap g l.charges
  pub ranged : Ranged d
  pub size : length d ≡ g.n
  pub near : slack ≤ max_slack

mark_cases : (x : ℕ) → x ≤ 2 → (x ≡ 0) ⊎ ((x ≡ 1) ⊎ (x ≡ 2))
mark_cases zero h = inl refl
mark_cases (suc zero) h = inr (inl refl)
mark_cases (suc (suc zero)) h = inr (inr refl)
mark_cases (suc (suc (suc x))) h = absurd (omega arith)

-- the edges above the labels have places, each another
pub one_each : (g : Graph) → Valid g → (w : List ℕ) → OneTree (network g) (bytes w) → (rep : List ℕ) (r : Rooting) → RootedIn g w rep r
    → OneEach (Below r) r.edge
unfolding network
one_each g v w o rep r t = record {
  small = λ u i. omega (arith, t.only u i.1, v.high);
  room = λ u i. omega (arith, (over_in g v w o rep r t u i).0, v.few);
  once = over_once g v w o rep r t;
}

module _ (g : Graph) (w c rep : List ℕ) (r : Rooting) (weight : List ℕ) (dearest near : ℕ) (ready : Ready g w c rep r weight dearest near)
    (slack : ℕ) (out lows : List ℕ) (h : RuledOutside g w c rep r near slack out lows g.m) where
  -- the edge above a label
  over : (v : ℕ) → Below r v → (edge_at r v < g.m) × (get_or w (edge_at r v) 0 ≡ 1) × (a_at g (edge_at r v) ≢ 1) × (mark_at g (edge_at r v) ≡ 0)
  over = over_in g ready.valid w ready.tree rep r ready.rooted

  module _ (mid : List ℕ) (f : Forcing (Below r) c r.edge lows slack out mid) where
    -- an edge that is above no label keeps its byte
    kept : (k : ℕ) → ((v : ℕ) → Below r v → edge_at r v ≢ k) → get_or mid k 0 ≡ get_or out k 0
    kept k none = f.rest k none

    module _ (den : ℕ) (d : List ℤ) (z : ℤ) (j : Judgement den g w c slack d z) (k : ℕ) (hk : k < g.m) where
      -- a free edge has its byte before the last loop
      free_byte : mark_at g k ≡ 0 → get_or mid k 0 ≡ ruling_byte (ruling (scaled_by den (network g)) (multiplier d) z (suc k))
      unfolding network
      free_byte free = go (ℕ_discrete (get_or w k 0) 1) (ℕ_discrete (a_at g k) 1)
        where
          inside : (low : ℕ) → get_or w k 0 ≡ 1 → Least (Comes g w rep r k) (charge_at c) no_charge g.m low
              → force_byte low (charge_at c k) slack ≡ ruling_byte (ruling (scaled_by den (network g)) (multiplier d) z (suc k))
          inside low e l = sym (in_byte den g ready.valid w c rep r ready.rooted slack d z j k hk free e low l)

          go : Dec (get_or w k 0 ≡ 1) → Dec (a_at g k ≡ 1) → get_or mid k 0 ≡ ruling_byte (ruling (scaled_by den (network g)) (multiplier d) z (suc k))
          go (no e) o = kept k (λ v i q. e (subst (λ (x : ℕ). get_or w x 0 ≡ 1) q (over v i).1))
              ∙ q.2 ∙ sym (out_byte den g ready.valid w c rep r ready.rooted slack d z j k hk free e q.0 q.1)
            where
              q : Barring g w c rep r slack k (get_or out k 0)
              q = h.bars k hk e free
          go (yes e) (yes one) = kept k (λ v i q. (over v i).2 (subst (λ (x : ℕ). a_at g x ≡ 1) (sym q) one))
              ∙ h.forces k hk one e free ∙ inside near e (near_comes g w c rep r k one free near ready.one.cheap)
          go (yes e) (no away) = rw u.2 at (f.done u.0 u.1)
              ∙ inside (get_or lows u.0 0) e (far_comes g ready.valid w c ready.tree rep r ready.rooted k away free u.0
              (get_or lows u.0 0) u.1 u.2 (h.least u.0 u.1))
            where
              u : (x : ℕ) × Below r x × (edge_at r x ≡ k)
              u = over_all g ready.valid w ready.tree rep r ready.rooted k hk e away free

      final : final_at g.mark mid k ≡ ruling_byte (ruling (scaled_by den (network g)) (multiplier d) z (suc k))
      unfolding ruling_of network
      final = go (mark_cases (mark_at g k) (ready.valid.each k hk).known)
        where
          mk : suc k ∈ up_to g.m
          mk = of_edge g.m k hk

          go : (mark_at g k ≡ 0) ⊎ ((mark_at g k ≡ 1) ⊎ (mark_at g k ≡ 2))
              → final_at g.mark mid k ≡ ruling_byte (ruling (scaled_by den (network g)) (multiplier d) z (suc k))
          go (inl e) = rw e (free_byte e)
          go (inr (inl e)) = rw e (sym (ap ruling_byte (rules_required (scaled_by den (network g)) (multiplier d) z (suc k) mk (mark_required g k hk e))))
          go (inr (inr e)) = rw e (sym (ap ruling_byte (rules_excluded (scaled_by den (network g)) (multiplier d) z (suc k) mk (mark_excluded g k hk e))))

    -- THE RULINGS of the ordinary pass, whatever the multipliers
    pub ruled_by_lem : (d : List ℤ) (res : List ℕ) → Updated (final_at g.mark mid) mid res g.m → RuledBy false g d w c slack res
    unfolding ruling_with
    ruled_by_lem d res u = record {
      each = λ den z j k hk. u.done k hk ∙ final den d z j k hk;
      past = λ k l. u.rest k l ∙ kept k (λ v i q. omega (arith, (over v i).0)) ∙ h.rest k l;
    }
