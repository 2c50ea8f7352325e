-- The tree call on the copy, behind the fault.
use Rattle.std.proofs.Common.{◌≡◌, ℕ, List, refl, sym, ap, ◌∙◌, ◌-◌, length, set, arith}
use Rattle.std.proofs.lemmas.Result.{err_from_is_err_and}
use Rattle.graph.specs.Refusals.{not-zero}
use Rattle.reduction.specs.Answers.{tree_reply_over, tree_leaves_over}
use Rattle.preview.specs.Preview.{remarked, preview_fault}
use Rattle.preview.specs.Faults.{preview_refused, refused-leaves, preview_tree, tree-leaves}
use Rattle.preview.proofs.preview.Goals as goal

pub returns-in_err-place : goal.returns-in_err-place
returns-in_err-place c =
    let p = err_from_is_err_and c.from_residual.result c.from_residual.ensures.1 in
    let f = c.in_err-place.ensures.fault in
    let some = not-zero c.in_err-place.field-0.0 in
    rw (p.1, p.2) (record { reply = preview_refused _ _ _ _ _ _ _ _ f some; left = refused-leaves _ _ _ _ _ _ _ _ f some })

pub returns : goal.returns
unfolding remarked
returns c =
    let a = c.args in
    let p = c.in_ok-place.ensures.place in
    let none : preview_fault a.g.now a.multipliers.now a.ashore.now a.denominator a.edge a.mark (length a.out.now) ≡ 0 = sym c.in_ok-place.ensures.fault in
    let at : c.in_ok-place.place ≡ a.edge - 1 = omega (arith, p.0) in
    let put : set a.g.now.mark c.in_ok-place.place c.in_ok-place.mark ≡ set a.g.now.mark (a.edge - 1) a.mark = rw (at, p.2) refl in
    record {
      reply = c.tree.ensures.reply
          ∙ ap (λ (l : List ℕ). tree_reply_over (record a.g.now { mark = l }) a.multipliers.now a.ashore.now a.denominator (length a.out.now)) put
          ∙ sym (preview_tree a.g.now a.multipliers.now a.ashore.now a.denominator a.edge a.mark _ none);
      left = c.tree.ensures.left
          ∙ ap (λ (l : List ℕ). tree_leaves_over (record a.g.now { mark = l }) a.multipliers.now a.ashore.now a.denominator a.out.now) put
          ∙ sym (tree-leaves a.g.now a.multipliers.now a.ashore.now a.denominator a.edge a.mark a.out.now none);
    }
