-- The fault of an opening, test by test, as its code goes; what no fault means; and what is left to test once the tree part refuses nothing.
-- Assumes nothing.
use Rattle.std.specs.Prelude.{◌≡◌, refl, Bool, true, false, not, cond, ◌&&◌, ℕ, ◌≤◌, ◌<◌, length, eqb, leb}
use Rattle.std.proofs.Common.{◌∙◌, arith}
use borrow.Author.Tests.{eq-eqb, ne_eqb, le-leb, lt-leb, eqb-true, leb-true}
use Rattle.lists.specs.Bools.{and_both}
use Rattle.graph.specs.Limits.{max_vertices, max_sweeps, max_step}
use Rattle.graph.specs.Valid.{Valid, valid}
use Rattle.graph.specs.Meaning.{valid_true, true_valid, not_valid}
use Rattle.tree_theory.specs.Inputs.{or_else, input_fault, multipliers_fit, ceiling_fits, denominator_fits, denominator_fault}
use Rattle.onetree.specs.Answers.{rule_fault}
use Rattle.tree_theory.specs.Accepted.{passed}
use Rattle.node.specs.Given.{Given, fault}

module _ (o : Given) where
  pub fault_15 : valid o.graph ≡ false → fault o ≡ 15
  unfolding fault
  fault_15 h = rw h

  pub too_many : max_vertices < o.graph.n → fault o ≡ 15
  too_many h = fault_15 (not_valid o.graph (λ v. omega (arith, v.high)))

  module _ (graph : valid o.graph ≡ true) where
    pub fault_11 : (length o.multipliers ≡ o.graph.n → ⊥) → fault o ≡ 11
    unfolding fault
    fault_11 h = rw (graph, ne_eqb (length o.multipliers) o.graph.n h)

    module _ (long : length o.multipliers ≡ o.graph.n) where
      pub fault_12 : multipliers_fit o.multipliers ≡ false → fault o ≡ 12
      unfolding fault
      fault_12 h = rw (graph, eq-eqb (length o.multipliers) o.graph.n long, h)

      module _ (fit : multipliers_fit o.multipliers ≡ true) where
        pub fault_13 : ceiling_fits o.settings.ceiling ≡ false → fault o ≡ 13
        unfolding fault
        fault_13 h = rw (graph, eq-eqb (length o.multipliers) o.graph.n long, fit, h)

        module _ (ceiling : ceiling_fits o.settings.ceiling ≡ true) where
          pub fault_sweeps : max_sweeps < o.settings.sweeps → fault o ≡ 14
          unfolding fault
          fault_sweeps h =
              rw (graph, eq-eqb (length o.multipliers) o.graph.n long, fit, ceiling, lt-leb o.settings.sweeps max_sweeps h)

          pub fault-step : o.settings.sweeps ≤ max_sweeps → max_step < o.settings.step → fault o ≡ 14
          unfolding fault
          fault-step k h =
              rw (
                graph,
                eq-eqb (length o.multipliers) o.graph.n long,
                fit,
                ceiling,
                le-leb o.settings.sweeps max_sweeps k,
                lt-leb o.settings.step max_step h,
              )

          -- what is left once these fit
          pub fault-left : o.settings.sweeps ≤ max_sweeps → o.settings.step ≤ max_step → fault o ≡ denominator_fault o.settings.denominator
          unfolding fault
          fault-left k h =
              rw (
                graph,
                eq-eqb (length o.multipliers) o.graph.n long,
                fit,
                ceiling,
                le-leb o.settings.sweeps max_sweeps k,
                le-leb o.settings.step max_step h,
              )

-- ---- no fault

pub record Fit (o : Given) : Type 0 where
  pub valid : Valid o.graph
  pub long : length o.multipliers ≡ o.graph.n
  pub multipliers : multipliers_fit o.multipliers ≡ true
  pub ceiling : ceiling_fits o.settings.ceiling ≡ true
  pub sweeps : o.settings.sweeps ≤ max_sweeps
  pub step : o.settings.step ≤ max_step
  pub denominator : denominator_fault o.settings.denominator ≡ 0

pub fault-fit : (o : Given) → fault o ≡ 0 → Fit o
unfolding fault
fault-fit o h =
    let p = passed (valid o.graph) 15 _ (omega arith) h in
    let q = passed (eqb (length o.multipliers) o.graph.n) 11 _ (omega arith) p.1 in
    let r = passed (multipliers_fit o.multipliers) 12 _ (omega arith) q.1 in
    let s = passed (ceiling_fits o.settings.ceiling) 13 _ (omega arith) r.1 in
    let t = passed (leb o.settings.sweeps max_sweeps && leb o.settings.step max_step) 14 _ (omega arith) s.1 in
    let u = and_both (leb o.settings.sweeps max_sweeps) (leb o.settings.step max_step) t.0 in
    record {
      valid = valid_true o.graph p.0;
      long = eqb-true (length o.multipliers) o.graph.n q.0;
      multipliers = r.0;
      ceiling = s.0;
      sweeps = leb-true o.settings.sweeps max_sweeps u.0;
      step = leb-true o.settings.step max_step u.1;
      denominator = t.1;
    }

pub fit-fault : (o : Given) → Fit o → fault o ≡ 0
fit-fault o f =
    fault-left o (true_valid o.graph f.valid) f.long f.multipliers f.ceiling f.sweeps f.step ∙ f.denominator

-- ---- after the tree part's own refusals

abbrev pub settings_fault : ℕ → ℕ → ℕ
settings_fault sweeps step = cond (not (leb sweeps max_sweeps && leb step max_step)) 14 0

-- what the tree part refuses comes first, but 32 after 14
abbrev pub lastly : ℕ → ℕ → ℕ → ℕ
lastly number sweeps step = cond (eqb number 32) (or_else (settings_fault sweeps step) 32) (or_else number (settings_fault sweeps step))

pub fault_rule : (o : Given) → fault o
    ≡ lastly (rule_fault o.graph o.multipliers o.settings.ceiling o.settings.denominator o.graph.m) o.settings.sweeps
    o.settings.step
unfolding fault rule_fault input_fault denominator_fault
fault_rule o =
    rw (eq-eqb o.graph.m o.graph.m refl)
    (go (valid o.graph) (eqb (length o.multipliers) o.graph.n) (multipliers_fit o.multipliers) (ceiling_fits o.settings.ceiling)
    (denominator_fits o.settings.denominator) (leb o.settings.sweeps max_sweeps && leb o.settings.step max_step))
  where
    -- by the six tests: the graph, the lengths, the multipliers, the ceiling, the denominator, and sweeps with step
    told : ℕ → Bool → ℕ
    told number s = cond (eqb number 32) (or_else (cond (not s) 14 0) 32) (or_else number (cond (not s) 14 0))

    go : (v l f c d s : Bool)
        → cond (not v) 15 (cond (not l) 11 (cond (not f) 12 (cond (not c) 13 (cond (not s) 14 (cond (not d) 32 0)))))
        ≡ told (cond (not v) 15 (cond (not (l && true)) 11 (cond (not f) 12 (cond (not c) 13 (cond (not d) 32 0))))) s
    go false l f c d s = refl
    go true false f c d s = refl
    go true true false c d s = refl
    go true true true false d s = refl
    go true true true true true true = refl
    go true true true true true false = refl
    go true true true true false true = refl
    go true true true true false false = refl
