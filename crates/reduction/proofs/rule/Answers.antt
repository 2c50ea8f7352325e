-- Where the list has none ashore, the former call; otherwise a refusal, or the call on the small graph.
use Rattle.std.proofs.Common.{◌≡◌, ◌∙◌, ℕ, List, ℤ, length, replicate, sym, ap, subst, arith}
use Rattle.std.proofs.lemmas.Result.{err_from_is_err_and}
use Rattle.std.proofs.Math.Facts.{to_z-of_z}
use Rattle.integers.specs.Multiples.{◌times◌}
use Rattle.tree_theory.specs.Accepted.{passed}
use Rattle.tree_theory.specs.Inputs.{ceiling_fits}
use Rattle.graph.specs.declared.Graph.{Graph}
use Rattle.graph.specs.Refusals.{positive, not-zero}
use Rattle.onetree.specs.Answers.{Reply, rule_reply, rule_leaves, rule_says, rule_writes, unless_fault, leaves}
use Rattle.reduction.specs.Answers.{tree_of, rulings_of, rule_fault_over, rule_reply_over, rule_leaves_over}
use Rattle.reduction.specs.Accepting.{RuleCallOver, accepted_over, rule_refused, rule_first, rule_second, rule_third, rule_fourth}
use Rattle.reduction.specs.Listed.{none_listed}
use Rattle.reduction.specs.NoneListed.{none_is, rule_fault_none, tree_of_none, rulings_none}
use Rattle.afloat.specs.Inputs.{fault_fits}
use Rattle.afloat.specs.Over.{ashore_fault}
use Rattle.reduction.proofs.rule.Goals as goal

-- the former call, where none is ashore
former : (g : Graph) (d : List ℤ) (l : List ℕ) (ceiling : ℤ) (q : ℕ) (out : List ℕ) → replicate g.n 0 ≡ l
    → RuleCallOver g d l ceiling q out (rule_reply g d ceiling q (length out)) (rule_leaves g d ceiling q out)
former g d l ceiling q out e =
    subst (λ (l : List ℕ). RuleCallOver g d l ceiling q out (rule_reply g d ceiling q (length out)) (rule_leaves g d ceiling q out)) e none
  where
    none : RuleCallOver g d (replicate g.n 0) ceiling q out (rule_reply g d ceiling q (length out)) (rule_leaves g d ceiling q out)
    none = record {
      reply = unfold rule_reply rule_reply_over in sym (λ i.
          unless_fault (rule_fault_none g d ceiling q (length out) i) (rule_says (q times ceiling) (tree_of_none g d q i)));
      left = unfold rule_leaves rule_leaves_over in sym (λ i.
          leaves (rule_fault_none g d ceiling q (length out) i) out
          (rule_writes g.m (q times ceiling) out (rulings_none g d ceiling q i) (tree_of_none g d q i)));
    }

-- without a fault
accepted : (g : Graph) (d : List ℤ) (l : List ℕ) (ceiling : ℤ) (q : ℕ) (out after : List ℕ) (r : Reply)
    → rule_fault_over g d l ceiling q (length out) ≡ 0 → r ≡ rule_says (q times ceiling) (tree_of g d l q)
    → after ≡ rule_writes g.m (q times ceiling) out (rulings_of g d l ceiling q) (tree_of g d l q) → RuleCallOver g d l ceiling q out r after
unfolding rule_reply_over rule_leaves_over
accepted g d l ceiling q out after r e h w = record { reply = rw e h; left = rw e w }

pub returns-then-none_listed : goal.returns-then-none_listed
returns-then-none_listed c =
    let a = c.args in
    let r = former a.g.now a.multipliers.now a.ashore.now a.ceiling a.denominator a.out.now
    (none_is a.ashore.now a.g.now.n (sym (c.none_listed.ensures ∙ ap (none_listed a.ashore.now) c.from.ensures) ∙ c.if-none_listed.true)) in
    let back = to_z-of_z c.ranges.ceiling in
    record { reply = (rw back at c.rule.ensures.reply) ∙ r.reply; left = (rw back at c.rule.ensures.left) ∙ r.left }

pub returns-in_err-input_fault : goal.returns-in_err-input_fault
returns-in_err-input_fault c =
    let a = c.args in
    let e = c.in_err-input_fault.field-0.0 in
    let p = err_from_is_err_and c.from_residual.result c.from_residual.ensures.1 in
    let fault = rule_first a.g.now a.multipliers.now a.ashore.now (length a.out.now) a.denominator _ a.ceiling c.in_err-input_fault.ensures (positive e) in
    let r = rule_refused a.g.now a.multipliers.now a.ashore.now a.denominator a.out.now _ (not-zero e) a.ceiling fault in
    rw (p.1, p.2) (record { reply = r.reply; left = r.left })

pub returns-in_err-ceiling_fault : goal.returns-in_err-ceiling_fault
returns-in_err-ceiling_fault c =
    let a = c.args in
    let e = c.in_err-ceiling_fault.field-0.0 in
    let p = err_from_is_err_and c.from_residual-in_err-ceiling_fault.result c.from_residual-in_err-ceiling_fault.ensures.1 in
    let own = rw (to_z-of_z c.ranges.ceiling) at c.in_err-ceiling_fault.ensures in
    let fault = rule_second a.g.now a.multipliers.now a.ashore.now (length a.out.now) a.denominator _ a.ceiling own (positive e)
    c.in_ok-input_fault.ensures in
    let r = rule_refused a.g.now a.multipliers.now a.ashore.now a.denominator a.out.now _ (not-zero e) a.ceiling fault in
    rw (p.1, p.2) (record { reply = r.reply; left = r.left })

pub returns-in_err-denominator_fault : goal.returns-in_err-denominator_fault
returns-in_err-denominator_fault c =
    let a = c.args in
    let e = c.in_err-denominator_fault.field-0.0 in
    let p = err_from_is_err_and c.from_residual-in_err-denominator_fault.result c.from_residual-in_err-denominator_fault.ensures.1 in
    let fault = rule_third a.g.now a.multipliers.now a.ashore.now (length a.out.now) a.denominator _ a.ceiling
    (rw (to_z-of_z c.ranges.ceiling) at c.in_ok-ceiling_fault.ensures) c.in_err-denominator_fault.ensures (positive e) c.in_ok-input_fault.ensures in
    let r = rule_refused a.g.now a.multipliers.now a.ashore.now a.denominator a.out.now _ (not-zero e) a.ceiling fault in
    rw (p.1, p.2) (record { reply = r.reply; left = r.left })

pub returns-in_err-ashore_fault : goal.returns-in_err-ashore_fault
returns-in_err-ashore_fault c =
    let a = c.args in
    let e = c.in_err-ashore_fault.field-0.0 in
    let p = err_from_is_err_and c.from_residual-in_err-ashore_fault.result c.from_residual-in_err-ashore_fault.ensures.1 in
    let own = c.in_err-ashore_fault.ensures ∙ ap (ashore_fault a.ashore.now) c.from-2.ensures in
    let fault = rule_fourth a.g.now a.multipliers.now a.ashore.now (length a.out.now) a.denominator _ a.ceiling
    (rw (to_z-of_z c.ranges.ceiling) at c.in_ok-ceiling_fault.ensures) own
    c.in_ok-denominator_fault.ensures c.in_ok-input_fault.ensures in
    let r = rule_refused a.g.now a.multipliers.now a.ashore.now a.denominator a.out.now _ (not-zero e) a.ceiling fault in
    rw (p.1, p.2) (record { reply = r.reply; left = r.left })

pub invariant_of-rule_over : goal.invariant_of-rule_over
invariant_of-rule_over c =
    let a = c.args in
    let known = accepted_over a.g.now a.multipliers.now a.ashore.now (length a.out.now) (sym c.in_ok-input_fault.ensures) in
    let fault = c.in_ok-ashore_fault.ensures ∙ ap (ashore_fault a.ashore.now) c.from-2.ensures in
    record { valid = known.valid; fits = fault_fits a.ashore.now a.g.now.n (sym fault); long = known.listed }

pub rule_over-requires-clause-fits : goal.rule_over-requires-clause-fits
rule_over-requires-clause-fits c =
    let a = c.args in
    (accepted_over a.g.now a.multipliers.now a.ashore.now (length a.out.now) (sym c.in_ok-input_fault.ensures)).multipliers

pub rule_over-requires-clause-lent : goal.rule_over-requires-clause-lent
rule_over-requires-clause-lent c =
    let a = c.args in
    (accepted_over a.g.now a.multipliers.now a.ashore.now (length a.out.now) (sym c.in_ok-input_fault.ensures)).lent

pub returns : goal.returns
returns c =
    let a = c.args in
    let back = to_z-of_z c.ranges.ceiling in
    let back_ceiling = rw back at c.in_ok-ceiling_fault.ensures in
    let fault = rule_fourth a.g.now a.multipliers.now a.ashore.now (length a.out.now) a.denominator 0 a.ceiling back_ceiling
    (c.in_ok-ashore_fault.ensures ∙ ap (ashore_fault a.ashore.now) c.from-2.ensures) c.in_ok-denominator_fault.ensures c.in_ok-input_fault.ensures in
    let r = accepted a.g.now a.multipliers.now a.ashore.now a.ceiling a.denominator a.out.now _ _ (sym fault)
    (rw back at c.rule_over.ensures.reply) (rw back at c.rule_over.ensures.left) in
    record { reply = r.reply; left = r.left }

pub rule_over-requires-clause-ceiling : goal.rule_over-requires-clause-ceiling
rule_over-requires-clause-ceiling c =
    let fine = rw (to_z-of_z c.ranges.ceiling) at c.in_ok-ceiling_fault.ensures in
    rw (to_z-of_z c.ranges.ceiling) (passed (ceiling_fits c.args.ceiling) 13 0 (omega arith) (sym fine)).0
