-- The cases of `reply` at turn, one for each return (specs/Cases).
use Rattle.std.proofs.Common.{◌≡◌, ◌+◌, refl, Err, set, sym, ap, ◌∙◌, eqb-true, rules}
use Rattle.std.proofs.lemmas.Bool.{not-true, not-false, eqb-false}
use Rattle.graph.specs.declared.refusals.Refusal.TheVariants.{NoNodes}
use Rattle.lent_records.specs.Places.{place_some}
use Rattle.search.specs.Unless.{unless_refused}
use Rattle.search.specs.declared.Search.{Search}
use Rattle.dispatch_theory.specs.Dispatcher.{turn}
use Rattle.dispatcher.specs.Cases.{last_low, not_found, next_is, reply_24, turn_40, turn_idle, turn_served}
use Rattle.dispatcher.proofs.Parts.{parts}
use Rattle.dispatcher.proofs.Dispatcher.turn.Goals as goal

pub returns-in_err-seen : goal.returns-in_err-seen
returns-in_err-seen c =
    let d = c.args.self.now in
    let is : c.from_residual.result ≡ Err c.in_err-seen.field-0.0 = search rules in
    let broken = c.in_err-seen.ensures.seen in
    rw (is, broken.1) (parts d _ _ _ refl refl (reply_24 d broken.0 (turn c.args.p)))

pub returns-in_err-unless : goal.returns-in_err-unless
returns-in_err-unless c =
    let e = c.in_ok-seen.ensures in
    let d = c.args.self.now in
    let is : c.from_residual-in_err-unless.result ≡ Err c.in_err-unless.field-0.0 = search rules in
    let t = unless_refused _ NoNodes c.in_err-unless.field-0.0 c.in_err-unless.ensures.fault in
    rw (is, t.1) (parts d _ _ _ refl refl (turn_40 d e.laid e.seen.0 c.args.p (eqb-true _ _ (not-false _ t.0))))

pub first_after-requires : goal.first_after-requires
first_after-requires c = let e = c.in_ok-seen.ensures in last_low c.args.self.now e.laid e.seen.0

pub returns-in_default : goal.returns-in_default
returns-in_default c =
    let e = c.in_ok-seen.ensures in
    let d = c.args.self.now in
    let some = eqb-false _ _ (not-true _ c.in_ok-unless.ensures.fits) in
    let none = next_is d e.laid e.seen.0 _ e.seen.1 ∙ not_found _ _ (sym c.in_default.is ∙ c.first_after.ensures.found) in
    parts d _ _ _ refl refl (turn_idle d e.laid e.seen.0 c.args.p some none)

pub returns : goal.returns
returns c =
    let e = c.in_ok-seen.ensures in
    let d = c.args.self.now in
    let at = c.in-Some.at in
    let some = eqb-false _ _ (not-true _ c.in_ok-unless.ensures.fits) in
    let found = place_some _ at (sym c.in-Some.is ∙ c.first_after.ensures.found) in
    let next = next_is d e.laid e.seen.0 _ e.seen.1 ∙ found.1 in
    parts _ _ _ _ refl (ap (λ (s : Search). record { last = at + 1; places = set d.places at s }) c.run-ran.ensures.left)
    (turn_served d e.laid e.seen.0 c.args.p at _ found.2 some next)
