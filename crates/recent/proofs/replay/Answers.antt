-- The turn's item is the log's entry at the number of turns so far (proofs/Turn); there the entry is refused, or entered.
use Rattle.std.specs.Prelude.{◌≡◌, length}
use Rattle.std.specs.Int.{w32}
use Rattle.std.proofs.Common.{◌∙◌, sym, SFits, to_z-of_z, rules}
use Rattle.std.proofs.lemmas.List.{length_push}
use Rattle.recent.specs.Costs.{log_of}
use Rattle.recent.specs.Answers.{meaning}
use Rattle.recent.specs.Windows.{window_of, entry_of, entry_place}
use Rattle.recent.specs.Replay.{replaying_none, replayed_bad, replayed_all, can_enter, place_ok, place_refused}
use Rattle.recent.proofs.Turn.{LogTurn, log_turn, log_end, replaying_next}
use Rattle.recent.proofs.replay.Goals.{After-entry_place}
use Rattle.recent.proofs.replay.Goals as goal

turn : (c : After-entry_place) → LogTurn c.args.edges.now c.args.times.now (length c.loop-i.yielded) c.in-Some.i c.in-Some.field-0-1-0.now c.in-Some.field-0-1-1.now
turn c =
    let l = c.loop-i in
    log_turn c.args.edges.now c.args.times.now c.requires.0 c.into_iter-i-iterator.result (cc) (cc) (cc) l.yielded l.i-iterator c.next.new.self l.yielded_by
    _ _ c.in-Some.is c.next.ensures.steps

-- the place that the test finds, of the time as it is
tested : (c : After-entry_place) → c.entry_place.result ≡ entry_place c.args.g.now.graph.now.m (entry_of c.in-Some.field-0-1-0.now c.in-Some.field-0-1-1.now)
tested c =
    let fits : SFits w32 c.in-Some.field-0-1-1.now = search rules in
    rw (to_z-of_z fits) at c.entry_place.ensures

pub loop-i-init : goal.loop-i-init
loop-i-init c =
    let a = c.args in
    let r = c.requires in
    replaying_none a.w.places a.g.now.graph.now.m a.costs.now (log_of a.edges.now a.times.now) a.w.fits.0 a.w.fits.1 a.g.now.valid.few (search (rules, c.well_formed)) (window_of a.rings.now a.costs.now) r.1

pub returns-in_default : goal.returns-in_default
unfolding meaning
returns-in_default c =
    let at = (goal.at.returns-in_default c).After-entry_place in
    let here = turn at in
    rw (c.at.ensures, here.number) (replayed_bad _ _ _ _ _ _ c.loop-i.invariant _ here.inside here.entry (place_refused _ _ (sym (tested at) ∙ c.in_default.is)))

pub enter-requires : goal.enter-requires
enter-requires c =
    let named = place_ok _ _ _ (sym (tested (goal.at.enter-requires c).After-entry_place) ∙ c.in-Some-entry_place.is) in
    rw named.1 (can_enter _ _ _ _ _ _ c.loop-i.invariant _ named.0)

pub loop-i-preserved : goal.loop-i-preserved
loop-i-preserved c =
    let at = (goal.at.loop-i-preserved c).After-entry_place in
    let here = turn at in
    let fits : SFits w32 c.in-Some.field-0-1-1.now = search rules in
    let named = place_ok _ _ _ (sym (tested at) ∙ c.in-Some-entry_place.is) in
    let entered = rw (to_z-of_z fits, named.1) at c.enter.ensures in
    rw (length_push, entered) (replaying_next _ _ _ _ _ _ c.loop-i.invariant _ here.inside here.entry named.0)

pub returns : goal.returns
unfolding meaning
returns c =
    let a = c.args in
    let l = c.loop-i in
    let end =
    log_end a.edges.now a.times.now c.requires.0 c.into_iter-i-iterator.result (cc) (cc) (cc) l.yielded l.i-iterator c.next.new.self l.yielded_by _
    c.in-None.is c.next.ensures.steps in
    replayed_all _ _ _ _ _ _ l.invariant end
