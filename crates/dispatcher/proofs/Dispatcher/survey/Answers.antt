-- 24 where the last place served is none, or a place is broken (specs/Cases).
use Rattle.std.proofs.Common.{◌≡◌, Err, sym, ◌∙◌, true≢false, arith, rules}
use Rattle.std.proofs.lemmas.Bool.{not-true, not-false, lt-leb}
use Rattle.graph.specs.declared.refusals.Refusal.TheVariants.{Record}
use Rattle.search.specs.Unless.{unless_refused}
use Rattle.dispatcher.specs.Cases.{last-high, one_broken, none_broken}
use Rattle.dispatcher.proofs.Dispatcher.survey.Goals as goal
use Rattle.dispatcher.proofs.Dispatcher.survey.Goals.{then-self-le-PLACES, else-self-le-PLACES}

pub returns-in_err-unless-clause-seen : goal.returns-in_err-unless-clause-seen
returns-in_err-unless-clause-seen c =
    let d = c.args.self.now in
    let refusal = c.in_err-unless.field-0.0 in
    let is : c.from_residual.result ≡ Err refusal = search rules in
    let t = unless_refused c.if-self-le-PLACES.unless Record refusal c.in_err-unless.ensures.fault in
    rw is (elim c.if-self-le-PLACES.branch [
      | then-self-le-PLACES w ↦
          (one_broken d c.states-seen.result c.states-seen.ensures.seen (sym w.any_broken.ensures ∙ not-false _ (sym w.unless-is ∙ t.0)), t.1)
      | else-self-le-PLACES w ↦ (last-high d (omega (arith, w.if-self-le-PLACES.false)), t.1)
    ])

pub returns-clause-seen : goal.returns-clause-seen
returns-clause-seen c =
    let d = c.args.self.now in
    let s = c.states-seen.ensures.seen in
    elim c.if-self-le-PLACES.branch [
      | then-self-le-PLACES w ↦
          (none_broken d c.states-seen.result s (omega (arith, w.if-self-le-PLACES.true)) (sym w.any_broken.ensures ∙ not-true _ (sym w.unless-is ∙ c.in_ok-unless.ensures.fits)), s)
      | else-self-le-PLACES w ↦ absurd (true≢false (sym c.in_ok-unless.ensures.fits ∙ w.unless-is ∙ lt-leb d.last 8 (omega (arith, w.if-self-le-PLACES.false))))
    ]
