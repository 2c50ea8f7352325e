-- The nodes in use, then all that is past them.
use Rattle.std.proofs.Common.{ℕ, ◌<◌, List, ℤ, pos, refl, arith, rules, tests}
use Rattle.std.proofs.lemmas.Iterator.{YieldsList-from_range, cases_from_all}
use Rattle.lists.specs.Bools.{Says, says_yes, says_both}
use Rattle.search.specs.Canonical.{Zeros}
use Rattle.search.specs.Record.{multipliers_at}
use Rattle.search.specs.Checks.Parts.{carried_past, carried_whole}
use Rattle.search.specs.Checks.Loops.{says_below}
use Rattle.search.proofs.record.carried_tidy.Goals as goal

-- what node p carries is zero past n
abbrev Tidied : ℕ → List ℤ → ℕ → Type 0
Tidied n e p = Zeros (pos 0) 20 n (multipliers_at 20 e p)

pub returns-then-all : goal.returns-then-all
returns-then-all c =
    let a = c.args in
    let u = c.min-used.ensures in
    let nodes : Says c.all.result ((p : ℕ) → p < c.min-used.result → Tidied a.n a.carried.now p) =
    says_below _ (Tidied a.n a.carried.now) _
    (cases_from_all _ _ _ (Tidied a.n a.carried.now) (λ p. Tidied a.n a.carried.now p → ⊥) c.all.ensures.ran
    (YieldsList-from_range 0 c.min-used.result c.min-used.result refl (omega arith)) (λ p q k. search (rules, tests)) (λ p q k. search (rules, tests))) in
    says_both c.zero_from.result
    (λ z. carried_whole _ _ _ a.carried.now u z (says_yes c.all.result nodes c.if-all.true))
    (carried_past _ _ _ a.carried.now u) c.zero_from.ensures
