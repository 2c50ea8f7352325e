-- Turn by turn, by the verdict of its pass.
use Rattle.std.proofs.Common.{rules, ◌≡◌, ◌≤◌, refl, sym, ap, ◌∙◌, inl, ⊎_elim, length, pos, arith}
use Rattle.std.proofs.lemmas.Result.{err_from_is_err_and}
use Rattle.lists.specs.Filling.{take-fit}
use Rattle.graph.specs.declared.Graph.{Graph}
use Rattle.graph.specs.Refusals.{not-zero}
use Rattle.node.specs.Marks.{with_bytes}
use Rattle.node.proofs.Turns.{at_padded, at_refused, at_shut, at_found, at_ruled, Turned}
use Rattle.node.proofs.passes.open_left.Goals as goal
use Rattle.node.proofs.passes.open_left.Goals.{In-Ruled, then-left-gt0, else-left-gt0, else-loop-left-test, then-loop-left-test+in_ok-judge+in-Ruled+else-left-gt0}

pub judge-requires : goal.judge-requires
judge-requires c = let i = c.loop-left.invariant in
    at_padded c.args.g.now _ _ c.requires _ c.loop-left.g _ i.marks_alone i.turn

pub returns-in_err-judge-clause-ending : goal.returns-in_err-judge-clause-ending
returns-in_err-judge-clause-ending c = let i = c.loop-left.invariant in
    let p = err_from_is_err_and c.from_residual.result c.from_residual.ensures.1 in
    rw (p.1, p.2)
    (at_refused c.args.g.now _ _ c.requires _ c.loop-left.g _ i.marks_alone i.turn _ _ c.in_err-judge.ensures.verdict, refl)

pub returns-in_err-judge-clause-lists : goal.returns-in_err-judge-clause-lists
returns-in_err-judge-clause-lists c = let i = c.loop-left.invariant in
    let p = err_from_is_err_and c.from_residual.result c.from_residual.ensures.1 in
    let refused =
    at_refused c.args.g.now _ _ c.requires _ c.loop-left.g _ i.marks_alone i.turn _ _ c.in_err-judge.ensures.verdict in
    rw p.1
    (c.in_err-judge.ensures.lists ∙ ⊎_elim (λ none. absurd (not-zero c.in_err-judge.field-0.0 (sym refused ∙ none))) (λ same. same) i.lists)

pub returns-in-Shut-clause-ending : goal.returns-in-Shut-clause-ending
returns-in-Shut-clause-ending c = let i = c.loop-left.invariant in
    at_shut c.args.g.now _ _ c.requires _ c.loop-left.g _ i.marks_alone i.turn c.judge.new.g.mark
    (rw c.in-Shut.is at c.in_ok-judge.ensures.verdict)

pub returns-in-Found-clause-ending : goal.returns-in-Found-clause-ending
returns-in-Found-clause-ending c = let i = c.loop-left.invariant in
    at_found c.args.g.now _ _ c.requires _ c.loop-left.g _ i.marks_alone i.turn _
    (rw c.in-Found.is at c.in_ok-judge.ensures.verdict)

-- what a turn knows whose pass rules edges
ruled : (c : In-Ruled)
    → Turned c.args.g.now c.args.multipliers.now c.args.settings c.loop-left.left c.loop-left.d c.judge.new.g.mark c.in-Ruled.degrees c.in-Ruled.next
ruled c = let i = c.loop-left.invariant in
    at_ruled c.args.g.now _ _ c.requires _ c.loop-left.g _ i.marks_alone i.turn _ _ _ (rw c.in-Ruled.is at c.in_ok-judge.ensures.verdict)

pub gains-requires-clause-some : goal.gains-requires-clause-some
gains-requires-clause-some c = let i = c.loop-left.invariant in
    let t = ruled (goal.at.gains-requires-clause-some c).In-Ruled in
    omega (arith, c.min-n.ensures, c.from.ensures, t.some)

pub gains-requires-clause-step : goal.gains-requires-clause-step
gains-requires-clause-step c = let i = c.loop-left.invariant in
    let t = ruled (goal.at.gains-requires-clause-step c).In-Ruled in
    t.step

pub gains-requires-clause-ranged : goal.gains-requires-clause-ranged
gains-requires-clause-ranged c = let i = c.loop-left.invariant in
    let t = ruled (goal.at.gains-requires-clause-ranged c).In-Ruled in
    let n : c.min-n.result ≡ c.args.g.now.n = omega (arith, c.min-n.ensures, c.from.ensures, t.high) in
    rw n t.ranged

pub loop-left-preserved : goal.loop-left-preserved
loop-left-preserved c = let i = c.loop-left.invariant in
    let t = ruled (goal.at.loop-left-preserved c).In-Ruled in
    let n : c.min-n.result ≡ c.args.g.now.n = omega (arith, c.min-n.ensures, c.from.ensures, t.high) in
    let same = c.judge.ensures.marks_alone ∙ ap (λ (h : Graph). with_bytes h c.judge.new.g.mark) i.marks_alone in
    elim c.if-left-gt0.branch [
      | then-left-gt0 w ↦
          rw (w.d-is, w.live-is) (record {
            turn = t.next (omega arith) _ (rw n at w.gains.ensures);
            marks_alone = same;
            hint = t.few;
            lists = inl t.fine;
          })
      | else-left-gt0 w ↦ absurd (omega arith)
    ]

pub returns-clause-ending : goal.returns-clause-ending
returns-clause-ending c = let i = c.loop-left.invariant in
    elim c.loop-left-test.branch [
      | else-loop-left-test w ↦ absurd (omega arith)
      | then-loop-left-test+in_ok-judge+in-Ruled+else-left-gt0 w ↦
          let t =
          at_ruled c.args.g.now _ _ c.requires _ c.loop-left.g _ i.marks_alone i.turn _ _ _
          (rw w.in-Ruled.is at w.in_ok-judge.ensures.verdict)
          in
          elim w.if-left-gt0.branch [
            | then-left-gt0 v ↦ absurd (omega arith)
            | else-left-gt0 v ↦
                let n : c.min-n.result ≡ c.args.g.now.n = omega (arith, c.min-n.ensures, c.from.ensures, t.high) in
                let long : length c.loop-left.d ≡ 20 = search rules in
                let enough : c.args.g.now.n ≤ length c.loop-left.d = omega (arith, long, t.high) in
                let told = rw (n, w.d-is, v.d-is, take-fit c.args.g.now.n (pos 0) c.loop-left.d enough) at c.padded.ensures in
                rw (w.g-is, told) (t.fine, t.last (omega arith))
          ]
    ]
