-- The cases of `reply` at an opening, one for each return.
use Rattle.std.proofs.Common.{rules, ◌≡◌, refl, sym, ◌∙◌, Err}
use Rattle.std.proofs.lemmas.Bool.{not-true, not-false}
use Rattle.graph.specs.declared.refusals.Refusal.TheVariants.{Record, AlreadyOpen}
use Rattle.graph.specs.Refusals.{number, not-zero}
use Rattle.machine.specs.Machine.{Opening, opening_of}
use Rattle.machine.specs.Calls.{opens}
use Rattle.search.specs.ReplyCases.{reply_24, open_21, open_fault, open_done}
use Rattle.search.specs.Unless.{unless_refused}
use Rattle.search.proofs.Closed.{parts}
use Rattle.search.proofs.Search.open.Goals as goal

pub returns-in_err-unless : goal.returns-in_err-unless
returns-in_err-unless c =
    let s = c.args.self.now in
    let a : Opening = opening_of c.args.g.now c.args.multipliers.now c.args.ashore.now c.args.settings in
    let is : c.from_residual.result ≡ Err c.in_err-unless.field-0.0 = search rules in
    let t = unless_refused _ Record c.in_err-unless.field-0.0 c.in_err-unless.ensures.fault in
    rw (is, t.1) (parts s s (opens a) _ (reply_24 s (opens a) (sym c.is_sound.ensures.checked ∙ t.0)) refl)

pub returns-in_err-unless-2 : goal.returns-in_err-unless-2
returns-in_err-unless-2 c =
    let s = c.args.self.now in
    let a : Opening = opening_of c.args.g.now c.args.multipliers.now c.args.ashore.now c.args.settings in
    let passed = sym c.is_sound.ensures.checked ∙ c.in_ok-unless.ensures.fits in
    let is : c.from_residual-in_err-unless-2.result ≡ Err c.in_err-unless-2.field-0.0 = search rules in
    let t = unless_refused _ AlreadyOpen c.in_err-unless-2.field-0.0 c.in_err-unless-2.ensures.fault in
    rw (is, t.1) (parts s s (opens a) _ (open_21 s (c.is_sound.ensures.typed passed) passed (not-false _ t.0) a) refl)

pub returns-in_err-fault : goal.returns-in_err-fault
returns-in_err-fault c =
    let s = c.args.self.now in
    let passed = sym c.is_sound.ensures.checked ∙ c.in_ok-unless.ensures.fits in
    let r = c.in_err-fault.field-0.0 in
    let is : c.from_residual-in_err-fault.result ≡ Err r = search rules in
    let a : Opening = opening_of c.args.g.now c.args.multipliers.now c.args.ashore.now c.args.settings in
    rw is (parts s s (opens a) _
    (open_fault s (c.is_sound.ensures.typed passed) passed (not-true _ c.in_ok-unless-2.ensures.fits) a (number r) (sym c.in_err-fault.ensures) (not-zero r)) refl)

pub returns : goal.returns
returns c =
    let s = c.args.self.now in
    let passed = sym c.is_sound.ensures.checked ∙ c.in_ok-unless.ensures.fits in
    let a : Opening = opening_of c.args.g.now c.args.multipliers.now c.args.ashore.now c.args.settings in
    parts s _ (opens a) _
    (open_done s (c.is_sound.ensures.typed passed) passed (not-true _ c.in_ok-unless-2.ensures.fits) a (sym c.in_ok-fault.ensures)) c.begin.ensures
