-- None is broken, where 24 is passed (specs/Cases).
use Rattle.std.proofs.Common.{◌≡◌, sym, ◌∙◌, true≢false, rules, tests}
use Rattle.std.proofs.lemmas.Bool.{not-true}
use Rattle.search.specs.declared.State.TheVariants.{Broken}
use Rattle.shelf.specs.Cases.{sound}
use Rattle.shelf.proofs.Shelf.tested.Goals as goal
use Rattle.shelf.proofs.Shelf.tested.Goals.{then-ne, else-ne}

pub returns : goal.returns
returns c = elim c.if-ne.branch [
  | then-ne w ↦
      let whole : ¬ (c.state-state.result ≡ Broken) = search (rules, tests) in
      let s = sound c.args.s.now c.args.self.now (λ e. whole (c.state-state.ensures.state ∙ e))
      (sym w.any_broken.ensures ∙ not-true _ (sym w.unless-is ∙ c.in_ok-unless.ensures.fits)) in
      (s.0, c.state-state.ensures.state ∙ s.1)
  | else-ne w ↦ absurd (true≢false (sym c.in_ok-unless.ensures.fits ∙ w.unless-is ∙ w.if-ne.false))
]
