-- What the rule call answers, and the lines of it.
use Rattle.std.proofs.Common.{ap, ◌∙◌, ◌++◌, sym, arith, rules}
use Rattle.std.proofs.lemmas.Result.{err_from_is_err_and}
use Rattle.integers.specs.Words.{back64}
use Rattle.reports.specs.Text.{dead_line}
use Rattle.reports.specs.Rulings.{reply_text, edge_lines}
use Rattle.reports.proofs.Zeros.{rules_are}
use Rattle.reports.proofs.rulings.RulingsProgram.text.Goals as goal
use Rattle.reports.proofs.rulings.RulingsProgram.text.Goals.{in-Some, in-None}

pub returns-in_err-bound : goal.returns-in_err-bound
unfolding reply_text
returns-in_err-bound c =
    let input = c.args.input.now in
    let ceiling = back64 input.ceiling (search (rules, c.well_formed)) in
    let p = err_from_is_err_and c.from_residual.result c.from_residual.ensures.1 in
    let said = rw (ceiling, c.multipliers.ensures, c.ashore.ensures, c.from.ensures) at c.in_err-bound.ensures.reply in
    let left = rw (ceiling, c.multipliers.ensures, c.ashore.ensures, c.from.ensures) at c.rule.ensures.left in
    rw (p.1, p.2) (sym (rules_are input.graph input.valid input.ceiling _ _ said left))

pub returns : goal.returns
unfolding reply_text dead_line
returns c =
    let input = c.args.input.now in
    let ceiling = back64 input.ceiling (search (rules, c.well_formed)) in
    let left = rw (ceiling, c.multipliers.ensures, c.ashore.ensures, c.from.ensures) at c.rule.ensures.left in
    elim c.match-branch-2.branch [
      | in-Some w ↦
          let said = rw (ceiling, c.multipliers.ensures, c.ashore.ensures, c.from.ensures) at (rw w.in-Some.is at c.in_ok-bound.ensures.reply) in
          let first = rw (c.new-text.ensures, w.as_str.ensures.value, w.bound.ensures, back64 w.in-Some.bound (omega arith), ceiling) at w.push_str.ensures.bytes in
          rw (w.text-is, rules_are input.graph input.valid input.ceiling _ _ said left)
          (w.push_edges.ensures ∙ ap (λ l. l ++ edge_lines input.graph c.rule.new.out input.graph.m) first)
      | in-None w ↦
          let said = rw (ceiling, c.multipliers.ensures, c.ashore.ensures, c.from.ensures) at (rw w.in-None.is at c.in_ok-bound.ensures.reply) in
          rw (w.text-is, rules_are input.graph input.valid input.ceiling _ _ said left) (rw c.new-text.ensures at w.push_str-in-None.ensures.bytes)
    ]
