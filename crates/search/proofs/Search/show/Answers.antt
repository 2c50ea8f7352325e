-- The cases of `reply` and `lent` at show, one for each return; the record is left as it is in each.
use Rattle.std.proofs.Common.{rules, ◌≡◌, refl, sym, ap, ◌∙◌, Err, List, ℕ, take, length, arith, eqb-true}
use Rattle.std.proofs.lemmas.Bool.{eqb-false}
use Rattle.graph.specs.declared.refusals.Refusal.TheVariants.{NodesWait, NoTour, Length}
use Rattle.lists.specs.Fill.{fit}
use Rattle.lists.specs.Filling.{take-fit}
use Rattle.machine.specs.Calls.{show}
use Rattle.search.specs.Replies.{Outcome, reply, lent}
use Rattle.search.specs.ReplyCases.{IsOpen, show_22, show_23, show_11, show_done, graph-valid}
use Rattle.search.specs.Unless.{unless_refused, lacks_value}
use Rattle.search.proofs.Closed.{closed-refused}
use Rattle.search.specs.declared.Search.{Search}
use Rattle.search.proofs.Search.show.Goals as goal

parts : (s : Search) (l x : List ℕ) (o : Outcome) → (reply s (show l) ≡ o) × (lent s (show l) ≡ x) → o.search ≡ s
    → record { answer : o.answer ≡ (reply s (show l)).answer; left : s ≡ (reply s (show l)).search; list : x ≡ lent s (show l) }
parts s l x o h e = record {
  answer = ap (λ (x : Outcome). x.answer) (sym h.0);
  left = sym (ap (λ (x : Outcome). x.search) h.0 ∙ e);
  list = sym h.1;
}

pub returns-in_err-opened : goal.returns-in_err-opened
returns-in_err-opened c =
    let s = c.args.self.now in
    let e : c.from_residual.result ≡ Err c.in_err-opened.field-0.0 = search rules in
    rw e (parts s _ _ _ (closed-refused s c.opened.ensures.typed (show c.args.out.now) tt _ c.in_err-opened.ensures.fault) refl)

pub returns-in_err-unless : goal.returns-in_err-unless
returns-in_err-unless c =
    let s = c.args.self.now in
    let o : IsOpen s = c.in_ok-opened.ensures.passed in
    let is : c.from_residual-in_err-unless.result ≡ Err c.in_err-unless.field-0.0 = search rules in
    let t = unless_refused _ NodesWait c.in_err-unless.field-0.0 c.in_err-unless.ensures.fault in
    rw (is, t.1) (parts s c.args.out.now c.args.out.now _ (show_22 s o.typed o.passes o.opened c.args.out.now (eqb-false _ _ t.0)) refl)

pub returns-in_err-best : goal.returns-in_err-best
returns-in_err-best c =
    let s = c.args.self.now in
    let o : IsOpen s = c.in_ok-opened.ensures.passed in
    let is : c.from_residual-in_err-best.result ≡ Err c.in_err-best.field-0.0 = search rules in
    let t = lacks_value _ NoTour c.in_err-best.field-0.0 c.in_err-best.ensures.value in
    rw (is, t.1) (parts s c.args.out.now c.args.out.now _
    (show_23 s o.typed o.passes o.opened c.args.out.now (eqb-true _ _ c.in_ok-unless.ensures.fits) (rw t.0 at c.incumbent.ensures)) refl)

pub returns-in_err-unless-2 : goal.returns-in_err-unless-2
returns-in_err-unless-2 c =
    let s = c.args.self.now in
    let o : IsOpen s = c.in_ok-opened.ensures.passed in
    let best = (rw c.in_ok-best.ensures.ok_part at c.incumbent.ensures) in
    let is : c.from_residual-in_err-unless-2.result ≡ Err c.in_err-unless-2.field-0.0 = search rules in
    let t = unless_refused _ Length c.in_err-unless-2.field-0.0 c.in_err-unless-2.ensures.fault in
    rw (is, t.1) (parts s c.args.out.now c.args.out.now _
    (show_11 s o.typed o.passes o.opened c.args.out.now (eqb-true _ _ c.in_ok-unless.ensures.fits) best.0 (λ e. eqb-false _ _ t.0 (e ∙ sym c.from.ensures))) refl)

pub shared_ref_as_front-copy_from_slice : goal.shared_ref_as_front-copy_from_slice
shared_ref_as_front-copy_from_slice c =
    let s = c.args.self.now in
    let o : IsOpen s = c.in_ok-opened.ensures.passed in
    omega (arith, eqb-true _ _ c.in_ok-unless-2.ensures.fits, c.from.ensures, (graph-valid s o.typed o.passes o.opened).few)

pub returns : goal.returns
returns c =
    let s = c.args.self.now in
    let o : IsOpen s = c.in_ok-opened.ensures.passed in
    let best = (rw c.in_ok-best.ensures.ok_part at c.incumbent.ensures) in
    let long = eqb-true _ _ c.in_ok-unless-2.ensures.fits ∙ c.from.ensures in
    let h = show_done s o.typed o.passes o.opened c.args.out.now (eqb-true _ _ c.in_ok-unless.ensures.fits) best.0 long in
    parts s c.args.out.now _ _ (
      h.0,
      h.1 ∙ ap (λ (n : ℕ). fit n 0 s.best) (sym long) ∙ sym (c.copy_from_slice.ensures.after ∙ ap (λ (l : List ℕ). take (length c.args.out.now) l) best.1
          ∙ take-fit (length c.args.out.now) 0 s.best (omega (arith, long, o.typed.best, (graph-valid s o.typed o.passes o.opened).few))),
    ) refl
