-- The whole of what program 'hunt' prints, as a function of the whole of what it reads: what document 01's machine answers to three calls,
-- from the state with no search open. Definitions only.
use Rattle.std.specs.Prelude.{ℕ, cond, List, [], ◌++◌, ℤ}
use Rattle.graph.specs.declared.Graph.{Graph}
use Rattle.machine.specs.declared.Settings.{Settings}
use Rattle.machine.specs.Machine.{Opening, State, no_search}
use Rattle.machine.specs.Calls.{Answer, refused, accepted, runs, tells, opens, run, tell, step, is_accepted}
use Rattle.reports.specs.Text.{refused_line, verdict_line, nodes_line}
use Rattle.reports.specs.Input.{printed}
use Rattle.reports.specs.Rulings.{zero_multipliers, all_afloat, plain_denominator}

-- "one run with .. allowance 1,000,000"
abbrev pub budget : ℕ
budget = 1000000

-- "with zero dues, no sweeps, step 0"; document 02, C-13: "A yes or no at opening turns lifting on; the programs open without it"
abbrev pub plain_settings : ℤ → Settings
plain_settings ceiling = record { ceiling = ceiling; sweeps = 0; step = 0; denominator = plain_denominator; lifting = 0 }

abbrev pub plain_opening : ℤ → Graph → Opening
plain_opening ceiling g = record { graph = g; multipliers = zero_multipliers g; ashore = all_afloat g; settings = plain_settings ceiling }

-- the answer to print: a refused opening's own; else what tell gives after the run
unfoldable pub last_answer : Opening → Answer
last_answer o =
    let opened : State = (step no_search (opens o)).state in
    let ran : State = (step opened (run budget)).state in
    cond (is_accepted (step no_search (opens o)).answer) (step ran tell).answer (step no_search (opens o)).answer

-- "'refused N at P'"; or the verdict, "then on a second line 'nodes K'". Nothing is printed of another answer
abbrev pub answer_text : Answer → List ℕ
answer_text (refused number place) = refused_line number place
answer_text accepted = []
answer_text (runs done count) = []
answer_text (tells verdict count) = verdict_line verdict ++ nodes_line count

abbrev pub search_text : ℤ → Graph → List ℕ
search_text ceiling g = answer_text (last_answer (plain_opening ceiling g))

abbrev pub search_program_text : List ℕ → List ℕ
search_program_text input = printed search_text input
