-- `all` asks of each word of the excluded row.
use Rattle.std.proofs.Common.{◌≡◌, ℕ, ◌+◌, List, get_or, bit_and, refl, arith, rules, tests}
use Rattle.std.proofs.lemmas.Iterator.{YieldsList-from_range, cases_from_all}
use Rattle.search.specs.Checks.Loops.{says_below}
use Rattle.search.proofs.record.excludes.Goals as goal

-- word i of the excluded row
abbrev Covered : List ℕ → List ℕ → ℕ → Type 0
Covered l t i = (bit_and (get_or l (3 + i) 0) (get_or t (3 + i) 0) ≡ get_or t (3 + i) 0)

pub returns : goal.returns
returns c =
    let a = c.args in
    says_below 3 (Covered a.rows.now a.struck.now) _
    (cases_from_all _ _ _ (Covered a.rows.now a.struck.now) (λ i. Covered a.rows.now a.struck.now i → ⊥) c.all.ensures.ran
    (YieldsList-from_range 0 3 3 refl (omega arith)) (λ p q k. search (rules, tests)) (λ p q k. search (rules, tests)))
