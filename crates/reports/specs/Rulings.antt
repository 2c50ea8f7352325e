-- The whole of what program 'rulings' prints, as a function of the whole of what it reads. Definitions only.
use Rattle.std.specs.Prelude.{ℕ, zero, suc, List, [], ◌++◌, ℤ, pos, get_or, replicate}
use Rattle.graph.specs.declared.Graph.{Graph}
use Rattle.onetree.specs.Answers.{Reply, refused, none, bounded}
use Rattle.reduction.specs.Answers.{rule_reply_over, rule_leaves_over}
use Rattle.reports.specs.Text.{refused_line, dead_line, bound_line, edge_line}
use Rattle.reports.specs.Input.{printed}

-- "then one line a leg, in leg order": the lines of the first k, edge k + 1 standing at place k
unfoldable pub edge_lines : Graph → List ℕ → ℕ → List ℕ
edge_lines g rulings zero = []
edge_lines g rulings (suc k) =
    edge_lines g rulings k ++ edge_line (suc k) (get_or g.a k 0) (get_or g.b k 0) (get_or rulings k 0)

-- "The first line has the bound and the ceiling; then one line a leg … Otherwise one line: 'dead', or 'refused N at P'"
unfoldable pub reply_text : Graph → ℤ → Reply → List ℕ → List ℕ
reply_text g ceiling (refused number place) rulings = refused_line number place
reply_text g ceiling none rulings = dead_line
reply_text g ceiling (bounded bound) rulings = bound_line bound ceiling ++ edge_lines g rulings g.m

-- "with zero dues"
abbrev pub zero_multipliers : Graph → List ℤ
zero_multipliers g = replicate g.n (pos 0)

-- document 02, C-20: "the programs have none ashore"
abbrev pub all_afloat : Graph → List ℕ
all_afloat g = replicate g.n 0

-- document 02, C-17: "With q = 1, which the programs use"
abbrev pub plain_denominator : ℕ
plain_denominator = 1

-- what the rule call answers, and the rulings that it leaves in a list of m bytes
unfoldable pub rules_text : ℤ → Graph → List ℕ
rules_text ceiling g =
    reply_text g ceiling (rule_reply_over g (zero_multipliers g) (all_afloat g) ceiling plain_denominator g.m)
    (rule_leaves_over g (zero_multipliers g) (all_afloat g) ceiling plain_denominator (replicate g.m 0))

abbrev pub rulings_text : List ℕ → List ℕ
rulings_text input = printed rules_text input
