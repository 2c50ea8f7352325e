-- WHAT A COMPARISON ANSWERS, and what it leaves in the lent report, for every input: document 02's C-21, by the machine's answers to an opening
-- and one run. Definitions only. (Its words: hunt for search, dues for multipliers, allowance for budget.)
use Rattle.std.specs.Prelude.{Bool, true, false, not, cond, ◌&&◌, List, ℕ, zero, suc, eqb, leb, length, get_or, ℤ, Option, Some, None}
use Rattle.std.specs.List.{list_all}
use Rattle.std.specs.Option.{unwrap_or}
use Rattle.lists.specs.Fill.{fill}
use Rattle.graph.specs.declared.Graph.{Graph}
use Rattle.graph.specs.Limits.{max_sweeps, max_step}
use Rattle.graph.specs.Valid.{valid}
use Rattle.tree_theory.specs.Inputs.{multipliers_fit, ceiling_fits, denominator_fault, or_else}
use Rattle.afloat.specs.Over.{ashore_fault}
use Rattle.machine.specs.declared.Settings.{Settings}
use Rattle.machine.specs.Machine.{Opening, no_search, opening_of}
use Rattle.machine.specs.Calls.{opens, run, refused, accepted, runs, tells, step}
use Rattle.machine.specs.Calls as machine
use Rattle.compare.specs.declared.Terms.{Terms}

-- "up to 16 pairs of sweeps and step"
abbrev pub max_pairs : ℕ
max_pairs = 16

-- ---- one pair

-- "the count with which each pair's hunt finishes": what an answer to a run says
abbrev pub finished_in : machine.Answer → Option ℕ
finished_in (refused number place) = None
finished_in accepted = None
finished_in (runs false count) = None
finished_in (runs true count) = Some count
finished_in (tells verdict count) = None

-- "or 0 if still going on"
abbrev pub count_of : machine.Answer → ℕ
count_of answer = unwrap_or (finished_in answer) 0

-- "after the whole allowance": from 'no hunt', the opening and then one run
unfoldable pub finishes : Opening → ℕ → ℕ
unfolding step
finishes o budget = count_of (step (step no_search (opens o)).state (run budget)).answer

-- the count alone, where there is one
unfoldable pub finishes_with : Opening → ℕ → Option ℕ
unfolding step
finishes_with o budget = finished_in (step (step no_search (opens o)).state (run budget)).answer

-- ---- all pairs

-- a pair's settings; with lifting or without as all pairs have it (document 02, C-13)
abbrev pub settings_of : Terms → ℕ → ℕ → Settings
settings_of terms sweeps step =
    record { ceiling = terms.ceiling; sweeps = sweeps; step = step; denominator = terms.denominator; lifting = terms.lifting }

-- "the arguments of opening .., with up to 16 pairs of sweeps and step instead of one": the opening of the pair at place i, counted from 0
abbrev pub pair_opening : Graph → List ℤ → List ℕ → Terms → List ℕ → List ℕ → ℕ → Opening
pair_opening g d l terms sweeps steps i = opening_of g d l (settings_of terms (get_or sweeps i 0) (get_or steps i 0))

-- "an allowance that each pair has in full"; one entry a pair
unfoldable pub counts : Graph → List ℤ → List ℕ → Terms → List ℕ → List ℕ → List ℕ
unfolding finishes
counts g d l terms sweeps steps =
    fill (length sweeps) (λ i. finishes (pair_opening g d l terms sweeps steps i) terms.budget)

-- ---- refusals

-- "No pairs, or more than 16, come under 11, as do .. a report list without one entry a pair": how many sweeps, steps and entries there are
abbrev pub pairs_fit : ℕ → ℕ → ℕ → Bool
pairs_fit sweeps steps report = (leb 1 sweeps && leb sweeps max_pairs) && (eqb steps sweeps && eqb report sweeps)

-- "14 sweeps or step", of any pair
unfoldable pub settings_fit : List ℕ → List ℕ → Bool
settings_fit sweeps steps = list_all (λ x. leb x max_sweeps) sweeps && list_all (λ x. leb x max_step) steps

-- the numbers of an opening, in its order, 32 too (C-17), and 35 (C-20): "The list's length comes under 11"
unfoldable pub compare_fault : Graph → List ℤ → List ℕ → Terms → List ℕ → List ℕ → ℕ → ℕ
unfolding valid multipliers_fit ceiling_fits settings_fit denominator_fault ashore_fault
compare_fault g d l terms sweeps steps report =
    cond (not (valid g)) 15
    (cond (not (eqb (length d) g.n && (eqb (length l) g.n && pairs_fit (length sweeps) (length steps) report))) 11
    (cond (not (multipliers_fit d)) 12
    (cond (not (ceiling_fits terms.ceiling)) 13
    (cond (not (settings_fit sweeps steps)) 14
    (or_else (denominator_fault terms.denominator) (ashore_fault l g.n))))))

-- ---- the answer, and the report as it is left

abbrev pub answer_by : ℕ → machine.Answer
answer_by zero = accepted
answer_by (suc f) = refused (suc f) 0

unfoldable pub compare_reply : Graph → List ℤ → List ℕ → Terms → List ℕ → List ℕ → ℕ → machine.Answer
unfolding compare_fault
compare_reply g d l terms sweeps steps report = answer_by (compare_fault g d l terms sweeps steps report)

abbrev pub left_by : ℕ → List ℕ → List ℕ → List ℕ
left_by zero made report = made
left_by (suc f) made report = report

unfoldable pub compare_leaves : Graph → List ℤ → List ℕ → Terms → List ℕ → List ℕ → List ℕ → List ℕ
unfolding compare_fault counts
compare_leaves g d l terms sweeps steps report =
    left_by (compare_fault g d l terms sweeps steps (length report)) (counts g d l terms sweeps steps) report
