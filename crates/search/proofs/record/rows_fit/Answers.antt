-- `all` asks of each word of both rows.
use Rattle.std.proofs.Common.{◌≡◌, ℕ, ◌+◌, ◌-◌, ◌*◌, ◌^◌, ◌<◌, List, get_or, bit_and, refl, arith, rules, tests}
use Rattle.std.proofs.lemmas.Iterator.{YieldsList-from_range, cases_from_all}
use Rattle.search.specs.Checks.Loops.{says_below}
use Rattle.search.proofs.record.rows_fit.Goals as goal

-- word k of both rows
abbrev Fit : ℕ → List ℕ → ℕ → Type 0
Fit m l k = (bit_and (get_or l k 0) (get_or l (3 + k) 0) ≡ 0) × (get_or l k 0 < 2 ^ (m - 64 * k)) × (get_or l (3 + k) 0 < 2 ^ (m - 64 * k))

pub returns : goal.returns
returns c =
    let a = c.args in
    says_below 3 (Fit a.m a.rows.now) _
    (cases_from_all _ _ _ (Fit a.m a.rows.now) (λ k. Fit a.m a.rows.now k → ⊥) c.all.ensures.ran
    (YieldsList-from_range 0 3 3 refl (omega arith)) (λ p q k. search (rules, tests)) (λ p q k. search (rules, tests)))
