-- `all` asks of each node.
use Rattle.std.proofs.Common.{refl, arith, rules, tests}
use Rattle.std.proofs.lemmas.Iterator.{YieldsList-from_range, cases_from_all}
use Rattle.search.specs.Checks.Loops.{says_below}
use Rattle.search.specs.Checks.Struck.{Covers}
use Rattle.search.specs.Record.{rows_at}
use Rattle.search.proofs.record.nodes_exclude.Goals as goal

pub returns-clause-covers : goal.returns-clause-covers
returns-clause-covers c =
    let a = c.args in
    says_below a.depth (λ p. Covers (rows_at a.stack.now p) a.struck.now) _
    (cases_from_all _ _ _ (λ p. Covers (rows_at a.stack.now p) a.struck.now) (λ p. Covers (rows_at a.stack.now p) a.struck.now → ⊥) c.all.ensures.ran
    (YieldsList-from_range 0 a.depth a.depth refl (omega arith)) (λ p q k. search (rules, tests)) (λ p q k. search (rules, tests)))
