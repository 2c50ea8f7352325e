-- WHAT THE CALLS ANSWERED BEFORE DOCUMENT 02'S C-20, by the definitions of then: over all vertices (`before_ashore`); before its C-13 too: a pass with its
-- own rulings alone (`before_lifting`); and before its C-17 too: no denominator, and the network's own costs (`before_denominators`). Kept for three
-- claims: "With q = 1, which the programs use, every answer is the old one", that so it is without lifting, which "the programs open without", and
-- that so it is "with none ashore" (AtOne.antt). Definitions only.
use Rattle.std.specs.Prelude.{true, false, not, cond, ◌&&◌, List, [], ◌∷◌, ℕ, zero, suc, eqb, leb, ltb, length, ℤ}
use Rattle.std.specs.Int.Signed.{lt_z}
use Rattle.lists.specs.Rows.{row}
use Rattle.integers.specs.Multiples.{◌times◌}
use Rattle.graph.specs.declared.Graph.{Graph}
use Rattle.graph.specs.Limits.{max_sweeps, max_step, max_count}
use Rattle.graph.specs.Network.{Network, network}
use Rattle.graph.specs.Valid.{valid}
use Rattle.tree_theory.specs.Inputs.{multiplier, multipliers_fit, ceiling_fits, denominator_fits, denominator_fault, input_fault}
use Rattle.tree_theory.specs.Enumeration.{Tree, no_tree, a_tree, least_tree, ruling}
use Rattle.tree_theory.specs.Scaled.{scaled_by}
use Rattle.onetree.specs.Answers as tree
use Rattle.preview.specs.Preview.{remarked, can_be_marked, is_free_edge}
use Rattle.tours.specs.Tours.{is_tour}
use Rattle.machine.specs.Outcomes.{no_tour, next_stack, next_incumbent, next_upper}
use Rattle.machine.specs.Machine.{Marks, with_marks, marks_of, mark_by, Pass, shut, found, unclosed, gained, branch, concluded}
use Rattle.machine.specs.Machine.{Node, node_of, Opened, Opening, Progress, State, no_search, searching, held, lowered, better, opened_on, finished}
use Rattle.machine.specs.Calls.{Call, opens, run, tell, show, close, accepted, runs, tells, Verdict, going_on, verdict_of, Reply, refuses, accepts, shown_by}

-- ---- the tree call, the rule call and the preview

unfoldable pub tree_reply : Graph → List ℤ → ℕ → tree.Reply
tree_reply g d len = tree.unless_fault (input_fault g d len 0) (tree.tree_says (least_tree (network g) (multiplier d)))

unfoldable pub tree_leaves : Graph → List ℤ → List ℕ → List ℕ
tree_leaves g d out = tree.leaves (input_fault g d (length out) 0) out (tree.tree_writes g.m out (least_tree (network g) (multiplier d)))

unfoldable pub rule_fault : Graph → List ℤ → ℤ → ℕ → ℕ
rule_fault g d ceiling len = input_fault g d len (cond (not (ceiling_fits ceiling)) 13 0)

unfoldable pub rule_reply : Graph → List ℤ → ℤ → ℕ → tree.Reply
unfolding rule_fault
rule_reply g d ceiling len = tree.unless_fault (rule_fault g d ceiling len) (tree.rule_says ceiling (least_tree (network g) (multiplier d)))

unfoldable pub rule_leaves : Graph → List ℤ → ℤ → List ℕ → List ℕ
unfolding rule_fault
rule_leaves g d ceiling out =
    tree.leaves (rule_fault g d ceiling (length out)) out
    (tree.rule_writes g.m ceiling out (ruling (network g) (multiplier d) ceiling) (least_tree (network g) (multiplier d)))

unfoldable pub preview_fault : Graph → List ℤ → ℕ → ℕ → ℕ → ℕ
preview_fault g d k mark len = input_fault g d len (cond (not (can_be_marked g k mark)) 30 (cond (not (is_free_edge g k)) 31 0))

unfoldable pub preview_reply : Graph → List ℤ → ℕ → ℕ → ℕ → tree.Reply
unfolding preview_fault tree_reply
preview_reply g d k mark len = tree.unless_fault (preview_fault g d k mark len) (tree_reply (remarked g k mark) d len)

unfoldable pub preview_leaves : Graph → List ℤ → ℕ → ℕ → List ℕ → List ℕ
unfolding preview_fault tree_leaves
preview_leaves g d k mark out = tree.leaves (preview_fault g d k mark (length out)) out (tree_leaves (remarked g k mark) d out)

-- and of a preview before C-20, with a denominator. (The tree call and the rule call of then are onetree's.)
unfoldable pub unlisted_preview_fault : Graph → List ℤ → ℕ → ℕ → ℕ → ℕ → ℕ
unlisted_preview_fault g d q k mark len =
    input_fault g d len (cond (not (denominator_fits q)) 32 (cond (not (can_be_marked g k mark)) 30 (cond (not (is_free_edge g k)) 31 0)))

unfoldable pub unlisted_preview_reply : Graph → List ℤ → ℕ → ℕ → ℕ → ℕ → tree.Reply
unfolding unlisted_preview_fault
unlisted_preview_reply g d q k mark len =
    tree.unless_fault (unlisted_preview_fault g d q k mark len) (tree.tree_reply (remarked g k mark) d q len)

unfoldable pub unlisted_preview_leaves : Graph → List ℤ → ℕ → ℕ → ℕ → List ℕ → List ℕ
unfolding unlisted_preview_fault
unlisted_preview_leaves g d q k mark out =
    tree.leaves (unlisted_preview_fault g d q k mark (length out)) out (tree.tree_leaves (remarked g k mark) d q out)

-- ---- the search: when an opening is refused and what the opening of a node comes to, which is all that changed of it until C-20

pub record Ways : Type 0 where
  pub fault : Opening → ℕ
  pub open_node : Opening → ℤ → Node → Opened

-- before C-20: every vertex was active. An opening's list is held, and nothing else reads it
unfoldable pub unlisted_fault : Opening → ℕ
unlisted_fault o =
    cond (not (valid o.graph)) 15
    (cond (not (eqb (length o.multipliers) o.graph.n)) 11
    (cond (not (multipliers_fit o.multipliers)) 12
    (cond (not (ceiling_fits o.settings.ceiling)) 13
    (cond (not (leb o.settings.sweeps max_sweeps && leb o.settings.step max_step)) 14
    (denominator_fault o.settings.denominator)))))

abbrev pub before_ashore : Ways
before_ashore =
    record {
      fault = unlisted_fault;
      open_node = λ o upper x. opened_on (network o.graph) o.settings upper x;
    }

-- a pass, its rulings applied, and the passes of a node
unfoldable pub applied : Network → (ℕ → ℤ) → ℤ → Marks
applied g d upper = row g.m (λ k. mark_by (ruling g d upper k))

unfoldable pub pass_by : Network → (ℕ → ℤ) → ℤ → Tree → Pass
unfolding applied
pass_by g d upper no_tree = shut
pass_by g d upper (a_tree bound t) =
    cond (lt_z upper bound) shut
    (cond (is_tour g t) (found t)
    (unclosed t (applied g d upper)))

unfoldable pub pass : Network → (ℕ → ℤ) → ℤ → Pass
unfolding pass_by
pass g d upper = pass_by g d upper (least_tree g d)

unfoldable pub passes : Network → ℕ → ℤ → ℕ → List ℤ → Marks → Opened
unfolding pass
passes g step upper zero d x =
    concluded g.m (pass (with_marks g x) (multiplier d) upper) (λ t y. branch d y)
passes g step upper (suc left) d x =
    concluded g.m (pass (with_marks g x) (multiplier d) upper)
    (λ t y. passes g step upper left (gained g step t d) y)

abbrev pub before_lifting : Ways
before_lifting =
    record {
      fault = unlisted_fault;
      open_node = λ o upper x.
          let q = o.settings.denominator in
          passes (scaled_by q (network o.graph)) o.settings.step (q times upper) o.settings.sweeps x.multipliers x.marks;
    }

unfoldable pub fault : Opening → ℕ
fault o =
    cond (not (valid o.graph)) 15
    (cond (not (eqb (length o.multipliers) o.graph.n)) 11
    (cond (not (multipliers_fit o.multipliers)) 12
    (cond (not (ceiling_fits o.settings.ceiling)) 13
    (cond (not (leb o.settings.sweeps max_sweeps && leb o.settings.step max_step)) 14
    0))))

abbrev pub before_denominators : Ways
before_denominators =
    record {
      fault = fault;
      open_node = λ o upper x. passes (network o.graph) o.settings.step upper o.settings.sweeps x.multipliers x.marks;
    }

-- ---- and what rests on them, as the machine had it: over all vertices

unfoldable pub begin : Opening → Progress
begin o =
    record {
      opening = o;
      upper = o.settings.ceiling;
      stack = node_of o.multipliers (marks_of (network o.graph)) ∷ [];
      incumbent = no_tour;
      count = 0;
    }

unfoldable pub settled : Progress → List Node → Opened → Progress
settled s rest out =
    record {
      opening = s.opening;
      upper = next_upper (lowered (network s.opening.graph)) s.upper out;
      stack = next_stack rest out;
      incumbent = next_incumbent (better (network s.opening.graph)) s.incumbent out;
      count = suc s.count;
    }

unfoldable pub verdict : Progress → Verdict
verdict s = cond (finished s) (verdict_of (network s.opening.graph) s.incumbent) going_on

unfoldable pub open_top : Ways → Progress → List Node → Progress
unfolding settled
open_top w s [] = s
open_top w s (x ∷ rest) = settled s rest (w.open_node s.opening s.upper x)

unfoldable pub ran : Ways → ℕ → Progress → Progress
unfolding open_top
ran w zero s = s
ran w (suc budget) s =
    elim (not (finished s) && ltb s.count max_count) [ true ↦ ran w budget (open_top w s s.stack) | false ↦ s ]

unfoldable pub opened_by : Opening → ℕ → Reply
unfolding begin
opened_by o zero = accepts (searching (begin (held o))) accepted
opened_by o (suc k) = refuses no_search (opens o) (suc k)

unfoldable pub run_by : Ways → ℕ → Progress → Reply
unfolding ran
run_by w budget s = let r : Progress = ran w budget s in accepts (searching r) (runs (finished r) r.count)

unfoldable pub step : Ways → State → Call → Reply
unfolding opened_by run_by verdict
step w no_search (opens o) = opened_by o (w.fault o)
step w no_search (run budget) = refuses no_search (run budget) 20
step w no_search tell = refuses no_search tell 20
step w no_search (show l) = refuses no_search (show l) 20
step w no_search close = refuses no_search close 20
step w (searching s) (opens o) = refuses (searching s) (opens o) 21
step w (searching s) (run budget) = run_by w budget s
step w (searching s) tell = accepts (searching s) (tells (verdict s) s.count)
step w (searching s) (show l) = shown_by s l (finished s) s.incumbent
step w (searching s) close = accepts no_search accepted

unfoldable pub state_after : Ways → State → List Call → State
unfolding step
state_after w s [] = s
state_after w s (c ∷ cs) = state_after w (step w s c).state cs

-- from 'no search'
unfoldable pub leaves : Ways → List Call → State
unfolding state_after
leaves w cs = state_after w no_search cs
