-- The three cases of `printed`.
use Rattle.std.proofs.Common.{◌≡◌, ℤ, arith, sym, ap, ◌∙◌}
use Rattle.std.specs.Option.{unwrap_or}
use Rattle.std.proofs.lemmas.Result.{err_from_is_err_and}
use Rattle.integers.specs.Words.{back64}
use Rattle.graph.specs.declared.refusals.Refusal.TheVariants.{TooShort}
use Rattle.graph.specs.Refusals.{number}
use Rattle.charts.specs.Chart.{ReadResult, read_meaning, reading, accept, refuse}
use Rattle.charts_theorems.specs.WhatIsRead.{read_valid}
use Rattle.search.specs.Unless.{lacks_value}
use Rattle.reports.specs.Input.{ceiling_of, chart_of}
use Rattle.reports.specs.Printing.{short_input, refused-chart, read_chart}
use Rattle.reports.proofs.Ceiling.{ceiling_is}
use Rattle.reports.proofs.input.Input.read.Goals as goal

pub returns-in_err-ceiling : goal.returns-in_err-ceiling
returns-in_err-ceiling c =
    let p = err_from_is_err_and c.from_residual.result c.from_residual.ensures.1 in
    let t = lacks_value c.split_first_chunk.result TooShort c.in_err-ceiling.field-0.0 c.in_err-ceiling.ensures.value in
    λ text. rw (p.1, p.2, t.1) (sym (short_input text c.args.bytes.now (rw t.0 at c.split_first_chunk.ensures.cases)))

pub returns-in_err-graph : goal.returns-in_err-graph
unfolding read_meaning chart_of refuse
returns-in_err-graph c =
    let p = err_from_is_err_and c.from_residual-in_err-graph.result c.from_residual-in_err-graph.ensures.1 in
    let e = c.in_err-graph.field-0.0 in
    let read = (rw c.in_ok-ceiling.ensures.ok_part at c.split_first_chunk.ensures.cases) in
    let chart : reading (chart_of c.args.bytes.now) ≡ refuse (number e.refusal) (unwrap_or e.place 0) =
    ap reading (sym read.1) ∙ sym c.in_err-graph.ensures in
    λ text. rw (p.1, p.2) (sym (refused-chart text c.args.bytes.now (omega (arith, read.2)) _ _ (ap (λ (r : ReadResult). r.outcome) chart)))

pub returns : goal.returns
unfolding read_meaning chart_of accept
returns c =
    let g = c.in_ok-graph.graph in
    let read = (rw c.in_ok-ceiling.ensures.ok_part at c.split_first_chunk.ensures.cases) in
    let chart : reading (chart_of c.args.bytes.now) ≡ accept g =
    ap reading (sym read.1) ∙ sym c.in_ok-graph.ensures in
    let ceiling = back64 c.from_le_bytes.result c.from_le_bytes.type_inv ∙ rw read.0 at c.from_le_bytes.ensures
    ∙ ceiling_is c.args.bytes.now (λ i. (c.type_inv.bytes i).fits) in
    λ text. ap (λ (z : ℤ). text z g) ceiling ∙ ap (λ (r : ReadResult). text (ceiling_of c.args.bytes.now) r.graph) (sym chart)
    ∙ sym (read_chart text c.args.bytes.now (omega (arith, read.2)) (ap (λ (r : ReadResult). r.outcome) chart))

pub invariant_of-result : goal.invariant_of-result
unfolding read_meaning accept
invariant_of-result c =
    let e = c.in_ok-graph.ensures in
    record { valid = rw (ap (λ (r : ReadResult). r.graph) e) (read_valid c.in_ok-ceiling.chart.now (sym (ap (λ (r : ReadResult). r.outcome) e))) }
