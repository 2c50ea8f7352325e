-- `all` asks of each node whether it fits.
use Rattle.std.proofs.Common.{refl, arith, rules, tests}
use Rattle.std.proofs.lemmas.Iterator.{YieldsList-from_range, cases_from_all}
use Rattle.search.specs.Canonical.{NodeFits}
use Rattle.search.specs.Checks.Loops.{says_below}
use Rattle.search.proofs.record.stack_fits.Goals as goal

pub returns-clause-fits : goal.returns-clause-fits
returns-clause-fits c =
    let a = c.args in
    says_below a.depth (λ p. NodeFits a.m a.stack.now p) _
    (cases_from_all _ _ _ (λ p. NodeFits a.m a.stack.now p) (λ p. NodeFits a.m a.stack.now p → ⊥) c.all.ensures.ran
    (YieldsList-from_range 0 a.depth a.depth refl (omega arith)) (λ p q k. search (rules, tests)) (λ p q k. search (rules, tests)))
