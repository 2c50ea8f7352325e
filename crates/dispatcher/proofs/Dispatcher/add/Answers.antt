-- The cases of `reply` at add, one for each return (specs/Cases).
use Rattle.std.proofs.Common.{◌≡◌, ◌<◌, suc, refl, Err, set, sym, ap, ◌∙◌, rules}
use Rattle.graph.specs.declared.refusals.Refusal.TheVariants.{Full}
use Rattle.graph.specs.Refusals.{number}
use Rattle.machine.specs.Calls.{is_accepted}
use Rattle.lent_records.specs.Places.{place_some}
use Rattle.machine.specs.Machine.{opening_of}
use Rattle.search.specs.Unless.{lacks_value}
use Rattle.search.specs.declared.Search.{Search}
use Rattle.dispatch_theory.specs.Dispatcher.{free_place}
use Rattle.dispatcher.specs.Searches.{machine, held, made}
use Rattle.dispatcher.specs.Seen.{state}
use Rattle.dispatcher.specs.Cases.{not_found, free_is, reply_24, add_41, add_turned, add_placed}
use Rattle.dispatcher.specs.declared.Dispatcher.{Dispatcher}
use Rattle.dispatcher.proofs.Parts.{parts}
use Rattle.dispatcher.proofs.Dispatcher.add.Goals as goal
use Rattle.dispatcher.proofs.Dispatcher.add.Goals.{In_ok-at}

pub returns-in_err-seen : goal.returns-in_err-seen
returns-in_err-seen c =
    let d = c.args.self.now in
    let is : c.from_residual.result ≡ Err c.in_err-seen.field-0.0 = search rules in
    let broken = c.in_err-seen.ensures.seen in
    rw (is, broken.1) (parts d _ _ _ refl refl (reply_24 d broken.0 _))

pub returns-in_err-at : goal.returns-in_err-at
returns-in_err-at c =
    let e = c.in_ok-seen.ensures in
    let d = c.args.self.now in
    let is : c.from_residual-in_err-at.result ≡ Err c.in_err-at.field-0.0 = search rules in
    let t = lacks_value c.first_after.result Full c.in_err-at.field-0.0 c.in_err-at.ensures.value in
    let none = free_is d e.laid e.seen.0 _ e.seen.1 ∙ not_found _ _ (sym t.0 ∙ c.first_after.ensures.found) in
    rw (is, t.1) (parts d _ _ _ refl refl (add_41 d e.laid e.seen.0 _ none))

-- the place that is found is the first free one
first_free : (c : In_ok-at) → (c.in_ok-at.at < 8) × (free_place machine held made (state c.args.self.now) ≡ suc c.in_ok-at.at)
first_free c =
    let e = c.in_ok-seen.ensures in
    let found = place_some _ c.in_ok-at.at (sym c.in_ok-at.ensures.ok_part ∙ c.first_after.ensures.found) in
    (found.2, free_is c.args.self.now e.laid e.seen.0 _ e.seen.1 ∙ found.1)

pub returns-in_err-open : goal.returns-in_err-open
returns-in_err-open c =
    let e = c.in_ok-seen.ensures in
    let d = c.args.self.now in
    let at = c.in_ok-at.at in
    let o = opening_of c.args.g.now c.args.multipliers.now c.args.ashore.now c.args.settings in
    let found = first_free (goal.at.returns-in_err-open c).In_ok-at in
    let refusal = c.in_err-open.field-0.0 in
    let is : c.from_residual-in_err-open.result ≡ Err refusal = search rules in
    let left : Dispatcher = record { last = d.last; places = set d.places at c.open.new.self } in
    rw is (parts left _ _ _ refl (ap (λ (s : Search). record { last = d.last; places = set d.places at s }) c.open.ensures.left)
    (add_turned d e.laid e.seen.0 o at _ found.0 found.1 (number refusal) 0 c.in_err-open.ensures.answer))

pub returns : goal.returns
returns c =
    let e = c.in_ok-seen.ensures in
    let d = c.args.self.now in
    let at = c.in_ok-at.at in
    let o = opening_of c.args.g.now c.args.multipliers.now c.args.ashore.now c.args.settings in
    let found = first_free (goal.at.returns c).In_ok-at in
    let taken = ap is_accepted (sym c.in_ok-open.ensures.answer) in
    parts _ _ _ _ refl (ap (λ (s : Search). record { last = d.last; places = set d.places at s }) c.open.ensures.left)
    (add_placed d e.laid e.seen.0 o at _ found.0 found.1 taken)
