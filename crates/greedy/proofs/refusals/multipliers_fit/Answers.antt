-- The chain asks `every_of`; then the first multiplier is looked at as bits.
use Rattle.std.proofs.Common.{◌≡◌, ◌∙◌, refl, sym, ap, List, [], ◌∷◌, Bool, eqb, ℤ, pos, get_or, w32, to_z, of_z, eqb-true, arith}
use Rattle.std.proofs.lemmas.Bool.{eqb-false}
use Rattle.lists.specs.Bools.{by_cases}
use Rattle.integers.specs.Range.{within}
use Rattle.integers.specs.Words.{back32}
use Rattle.graph.specs.Limits.{max_multiplier}
use Rattle.tree_theory.specs.Inputs.{multiplier, multipliers_fit}
use Rattle.tree_theory.specs.Multipliers.{empty_fit, first_wrong}
use Rattle.greedy.specs.AllWithin.{all_every}
use Rattle.greedy.proofs.refusals.multipliers_fit.Goals as goal

pub returns-then-is_empty : goal.returns-then-is_empty
returns-then-is_empty c =
    c.if-is_empty.true ∙ sym (empty_fit c.args.multipliers.now (eqb-true _ 0 (sym c.is_empty.ensures ∙ c.if-is_empty.true)))

pub returns-else-is_empty : goal.returns-else-is_empty
unfolding multiplier multipliers_fit within
returns-else-is_empty c =
    let d = c.args.multipliers.now in
    let all = sym (all_every max_multiplier d) ∙ sym c.all_fit.ensures ∙ c.if-all_fit.true in
    let back = back32 (get_or d 0 (pos 0)) (omega arith) in
    by_cases (eqb (of_z w32 (get_or d 0 (pos 0))) 0)
    (λ t. t ∙ rw (all, sym back ∙ ap (to_z w32) (eqb-true _ 0 t)))
    (λ t. t ∙ sym (first_wrong d (λ e. eqb-false _ 0 t (rw e))))

pub returns-else-all_fit : goal.returns-else-all_fit
unfolding multipliers_fit
returns-else-all_fit c =
    c.if-all_fit.false ∙ rw (sym (all_every max_multiplier c.args.multipliers.now) ∙ sym c.all_fit.ensures ∙ c.if-all_fit.false)
