-- DOCUMENT 02, C-20, C-17 AND C-13, OF A COMPARISON: with none ashore its answer and its report are what they were; where its denominator is 1 too its
-- answer is what it was before C-17, and without lifting its report too, against the definitions of before. Assumes nothing.
use Rattle.std.specs.Prelude.{◌≡◌, refl, not, cond, ◌&&◌, ℕ, eqb, length, replicate, ℤ}
use Rattle.std.proofs.Math.Path.{ap, ap₂}
use Rattle.std.proofs.Common.{◌∙◌}
use mathlib.Core.List.{List}
use Rattle.lists.specs.Bools.{by_cases}
use Rattle.lists.specs.Fill.{fill, fill-same}
use Rattle.graph.specs.declared.Graph.{Graph}
use Rattle.graph.specs.Valid.{valid}
use Rattle.tree_theory.specs.Inputs.{multipliers_fit, ceiling_fits, denominator_fits, denominator_fault}
use Rattle.machine.specs.Machine.{Opening, State, no_search}
use Rattle.machine.specs.Calls.{Call, Answer, Reply, opens, run, step}
use Rattle.compare.specs.declared.Terms.{Terms}
use Rattle.compare.specs.Comparison.{count_of, finishes, pair_opening, counts, pairs_fit, settings_fit, compare_fault, answer_by, compare_reply, left_by, compare_leaves}
use Rattle.onetree_theorems.specs.Former as former
use Rattle.onetree_theorems.specs.Former.{Ways}
use Rattle.onetree_theorems.specs.FormerSearch.{SameWays, call_same, call_keeps}
use Rattle.onetree_theorems.specs.AtOne.{AllAfloat, afloat_ways, Whole, whole_ways, zeros_long, zeros_left}

-- ---- the definitions of before: without a list, and without a denominator too

unfoldable pub unlisted_fault : Graph → List ℤ → Terms → List ℕ → List ℕ → ℕ → ℕ
unlisted_fault g d terms sweeps steps report =
    cond (not (valid g)) 15
    (cond (not (eqb (length d) g.n && pairs_fit (length sweeps) (length steps) report)) 11
    (cond (not (multipliers_fit d)) 12
    (cond (not (ceiling_fits terms.ceiling)) 13
    (cond (not (settings_fit sweeps steps)) 14
    (denominator_fault terms.denominator)))))

unfoldable pub former_fault : Graph → List ℤ → Terms → List ℕ → List ℕ → ℕ → ℕ
former_fault g d terms sweeps steps report =
    cond (not (valid g)) 15
    (cond (not (eqb (length d) g.n && pairs_fit (length sweeps) (length steps) report)) 11
    (cond (not (multipliers_fit d)) 12
    (cond (not (ceiling_fits terms.ceiling)) 13
    (cond (not (settings_fit sweeps steps)) 14
    0))))

-- a search of then
unfoldable pub former_finishes : Ways → Opening → ℕ → ℕ
former_finishes w o budget =
    let step : State → Call → Reply = former.step w in
    count_of (step (step no_search (opens o)).state (run budget)).answer

-- "the programs have none ashore": an opening's list, which nothing then read
abbrev pub none_listed : Graph → List ℕ
none_listed g = replicate g.n 0

unfoldable pub former_counts : Ways → Graph → List ℤ → Terms → List ℕ → List ℕ → List ℕ
unfolding former_finishes
former_counts w g d terms sweeps steps =
    fill (length sweeps) (λ i. former_finishes w (pair_opening g d (none_listed g) terms sweeps steps i) terms.budget)

unfoldable pub unlisted_reply : Graph → List ℤ → Terms → List ℕ → List ℕ → ℕ → Answer
unfolding unlisted_fault
unlisted_reply g d terms sweeps steps report = answer_by (unlisted_fault g d terms sweeps steps report)

unfoldable pub unlisted_leaves : Graph → List ℤ → Terms → List ℕ → List ℕ → List ℕ → List ℕ
unfolding unlisted_fault former_counts
unlisted_leaves g d terms sweeps steps report =
    left_by (unlisted_fault g d terms sweeps steps (length report)) (former_counts former.before_ashore g d terms sweeps steps) report

unfoldable pub former_reply : Graph → List ℤ → Terms → List ℕ → List ℕ → ℕ → Answer
unfolding former_fault
former_reply g d terms sweeps steps report = answer_by (former_fault g d terms sweeps steps report)

unfoldable pub former_leaves : Graph → List ℤ → Terms → List ℕ → List ℕ → List ℕ → List ℕ
unfolding former_fault former_counts
former_leaves g d terms sweeps steps report =
    left_by (former_fault g d terms sweeps steps (length report)) (former_counts former.before_denominators g d terms sweeps steps) report

-- ---- a search finishes as in the ways of then

module _ (w : Ways) (P : Opening → Type 0) (same : SameWays w P) where
  finishes-same : (o : Opening) → P o → (budget : ℕ) → finishes o budget ≡ former_finishes w o budget
  unfolding finishes former_finishes
  finishes-same o p budget =
      ap (λ (r : Reply). count_of (step r.state (run budget)).answer) (call_same w P same no_search tt (opens o) p)
      ∙ ap (λ (r : Reply). count_of r.answer)
      (call_same w P same (former.step w no_search (opens o)).state (call_keeps w P same no_search tt (opens o) p) (run budget) tt)

  counts_same : (g : Graph) (d : List ℤ) (terms : Terms) (sweeps steps : List ℕ)
      → ((i : ℕ) → P (pair_opening g d (none_listed g) terms sweeps steps i))
      → counts g d (none_listed g) terms sweeps steps ≡ former_counts w g d terms sweeps steps
  unfolding counts former_counts
  counts_same g d terms sweeps steps p =
      fill-same (length sweeps) _ _ (λ i h. finishes-same (pair_opening g d (none_listed g) terms sweeps steps i) (p i) terms.budget)

module _ (g : Graph) (d : List ℤ) (terms : Terms) (sweeps steps : List ℕ) where
  -- ---- "with none ashore they read as before"

  unlisted_same : (report : ℕ) → compare_fault g d (none_listed g) terms sweeps steps report ≡ unlisted_fault g d terms sweeps steps report
  unfolding compare_fault unlisted_fault
  unlisted_same report =
      by_cases (valid g)
      (λ v i.
      cond (not (valid g)) 15
      (cond (not (eqb (length d) g.n && (zeros_long g.n i && pairs_fit (length sweeps) (length steps) report))) 11
      (cond (not (multipliers_fit d)) 12
      (cond (not (ceiling_fits terms.ceiling)) 13
      (cond (not (settings_fit sweeps steps)) 14
      (zeros_left g v (denominator_fault terms.denominator) i))))))
      (λ v. rw v)

  pub compare_afloat : (report : ℕ) → compare_reply g d (none_listed g) terms sweeps steps report ≡ unlisted_reply g d terms sweeps steps report
  unfolding compare_reply unlisted_reply
  compare_afloat report = ap answer_by (unlisted_same report)

  pub compare_list_afloat : (report : List ℕ)
      → compare_leaves g d (none_listed g) terms sweeps steps report ≡ unlisted_leaves g d terms sweeps steps report
  unfolding compare_leaves unlisted_leaves
  compare_list_afloat report =
      ap₂ (λ (f : ℕ) (made : List ℕ). left_by f made report) (unlisted_same (length report))
      (counts_same former.before_ashore AllAfloat afloat_ways g d terms sweeps steps (λ i. refl))

  -- ---- with q = 1 too, and without lifting

  module _ (one : terms.denominator ≡ 1) where
    fault-same : (report : ℕ) → compare_fault g d (none_listed g) terms sweeps steps report ≡ former_fault g d terms sweeps steps report
    unfolding unlisted_fault former_fault denominator_fault denominator_fits
    fault-same report = unlisted_same report ∙ rw one

    pub compare_at_one : (report : ℕ) → compare_reply g d (none_listed g) terms sweeps steps report ≡ former_reply g d terms sweeps steps report
    unfolding compare_reply former_reply
    compare_at_one report = ap answer_by (fault-same report)

    pub compare_list_at_one : terms.lifting ≡ 0 → (report : List ℕ)
        → compare_leaves g d (none_listed g) terms sweeps steps report ≡ former_leaves g d terms sweeps steps report
    unfolding compare_leaves former_leaves
    compare_list_at_one none report =
        ap₂ (λ (f : ℕ) (made : List ℕ). left_by f made report) (fault-same (length report))
        (counts_same former.before_denominators Whole whole_ways g d terms sweeps steps (λ i. ((refl, none), one)))
