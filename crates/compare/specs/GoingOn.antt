-- 0 IS 'GOING ON' AND NOTHING ELSE: a search that finishes has opened a node, so that no count of a finished one is 0. Assumes nothing.
use Rattle.std.specs.Prelude.{◌≡◌, ◌↔◌, true, false, List, ◌∷◌, ℕ, ◌≤◌, ◌<◌}
use Rattle.std.proofs.Common.{sym, ◌∙◌, true≢false, arith}
use Rattle.lists.specs.Bools.{by_cases}
use Rattle.graph.specs.Limits.{max_count}
use Rattle.machine.specs.Machine.{Node, Opening, Progress, held, begin, settled, open_top, finished, ran}
use Rattle.machine.specs.Calls.{runs, fault, opened_by, run_by, step}
use Rattle.machine.specs.Runs.{ran_keeps}
use Rattle.compare.specs.Comparison.{count_of, finishes}

-- the search after the run
abbrev pub after_run : Opening → ℕ → Progress
after_run o budget = ran budget (begin (held o))

opened-counts : (s : Progress) (x : Node) (rest : List Node) → s.stack ≡ x ∷ rest → s.count < max_count
    → (finished s ≡ true → 1 ≤ s.count) → finished (open_top s (x ∷ rest)) ≡ true → 1 ≤ (open_top s (x ∷ rest)).count
unfolding open_top settled
opened-counts s x rest e l h f = omega arith

finished-counts : (o : Opening) (budget : ℕ) → finished (after_run o budget) ≡ true → 1 ≤ (after_run o budget).count
unfolding begin
finished-counts o budget =
    ran_keeps (λ (s : Progress). finished s ≡ true → 1 ≤ s.count) opened-counts budget (begin (held o)) (λ f. absurd (true≢false (sym f)))

finishes_is : (o : Opening) (budget : ℕ) → fault o ≡ 0
    → finishes o budget ≡ count_of (runs (finished (after_run o budget)) (after_run o budget).count)
unfolding finishes step opened_by run_by
finishes_is o budget none = rw none

pub zero_going_on : (o : Opening) (budget : ℕ) → fault o ≡ 0 → (finishes o budget ≡ 0) ↔ (finished (after_run o budget) ≡ false)
zero_going_on o budget none = (zero, going)
  where
    zero : finishes o budget ≡ 0 → finished (after_run o budget) ≡ false
    zero e = by_cases (finished (after_run o budget)) (λ f. absurd (clash f)) (λ f. f)
      where
        clash : finished (after_run o budget) ≡ true → ⊥
        clash f =
            let counted : count_of (runs (finished (after_run o budget)) (after_run o budget).count) ≡ 0 = sym (finishes_is o budget none) ∙ e in
            let count : (after_run o budget).count ≡ 0 = (rw f at counted) in
            omega (arith, finished-counts o budget f, count)

    going : finished (after_run o budget) ≡ false → finishes o budget ≡ 0
    going f = finishes_is o budget none ∙ rw f
