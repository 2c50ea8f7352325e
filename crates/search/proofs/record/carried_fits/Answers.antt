-- `all` asks of each node whether what it carries fits.
use Rattle.std.proofs.Common.{◌≡◌, true, refl, arith, rules, tests}
use Rattle.std.proofs.lemmas.Iterator.{YieldsList-from_range, cases_from_all}
use Rattle.tree_theory.specs.Inputs.{multipliers_fit}
use Rattle.search.specs.Record.{multipliers_at}
use Rattle.search.specs.Checks.Loops.{says_below}
use Rattle.search.proofs.record.carried_fits.Goals as goal

pub returns : goal.returns
returns c =
    let a = c.args in
    says_below a.depth (λ p. multipliers_fit (multipliers_at a.n a.carried.now p) ≡ true) _
    (cases_from_all _ _ _ (λ p. multipliers_fit (multipliers_at a.n a.carried.now p) ≡ true) (λ p. multipliers_fit (multipliers_at a.n a.carried.now p) ≡ true → ⊥) c.all.ensures.ran
    (YieldsList-from_range 0 a.depth a.depth refl (omega arith)) (λ p q k. search (rules, tests)) (λ p q k. search (rules, tests)))
