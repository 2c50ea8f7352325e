-- What the code knows is what the pass says, case by case.
use Rattle.std.proofs.Common.{◌≡◌, Bool, ℕ, ℤ, List, Option, None, Some, sym, refl, Ok}
use Rattle.std.proofs.lemmas.Result.{err_from_is_err_and}
use Rattle.std.proofs.Math.Facts.{to_z-of_z}
use Rattle.graph.specs.declared.Graph.{Graph}
use Rattle.graph.specs.Refusals.{not-zero}
use Rattle.greedy.specs.declared.Found.{Found}
use Rattle.onetree.specs.declared.PassLists.{PassLists}
use Rattle.onetree.specs.Answers.{ruling_bytes, rule_fault, pass_meaning, HintAfter, WeighedAfter}
use Rattle.onetree.specs.Ruled.{keep_bytes}
use Rattle.onetree.specs.Ceiling.{AgainstCeiling}
use Rattle.onetree.specs.RuleCall.{PassIs, pass-refused, pass_none, pass_some}
use Rattle.integers.specs.Multiples.{◌times◌}
use Rattle.onetree.proofs.pass.Goals as goal

-- by the answer, from what its code knows
module _ (lifting : Bool) (g : Graph) (d : List ℤ) (ceiling : ℤ) (den : ℕ) (before : PassLists) where
  pass_is : (r : Option Found) (after : PassLists) → rule_fault g d ceiling den g.m ≡ 0 → AgainstCeiling lifting den g d (den times ceiling) r after
      → PassIs g d ceiling den lifting before.least.tree (ruling_bytes before.rulings) (pass_meaning (Ok r)) after.least.tree (ruling_bytes after.rulings)
  pass_is None after f h = rw (h.0.tree, h.0.rulings, keep_bytes)
      (pass_none g d ceiling den lifting before.least.tree (ruling_bytes before.rulings) f h.0.over)
  pass_is (Some r) after f h =
      pass_some g d ceiling den lifting before.least.tree (ruling_bytes before.rulings) f r.bound after.least.tree (ruling_bytes after.rulings) h.0

  pass_hints : (r : Option Found) (after : PassLists) → AgainstCeiling lifting den g d (den times ceiling) r after
      → HintAfter (Ok r) g.mark g.m before.least.order after.least.order
  pass_hints None after h = h.0.order
  pass_hints (Some r) after h = h.1

  pass_weighs : (r : Option Found) (after : PassLists) → AgainstCeiling lifting den g d (den times ceiling) r after
      → WeighedAfter den g d before.least (Ok r) after.least
  pass_weighs None after h = h.1
  pass_weighs (Some r) after h = h.2

pub returns-in_err-capped : goal.returns-in_err-capped
returns-in_err-capped c =
    let a = c.args in
    let e = c.in_err-capped.field-0.0 in
    let q = err_from_is_err_and c.from_residual.result c.from_residual.ensures.1 in
    let fault = rw (c.from.ensures, to_z-of_z c.ranges.ceiling) at c.in_err-capped.ensures.fault in
    let p = pass-refused a.g.now a.multipliers.now a.ceiling a.denominator a.lifting a.lists.now.least.tree (ruling_bytes a.lists.now.rulings) _ fault (not-zero e) in
    rw (q.1, q.2) (record { reply = p.reply; tree = p.chosen; rulings = p.ruled; hint = refl; weighed = (refl, refl) })

pub returns : goal.returns
returns c =
    let a = c.args in
    let new = rw (c.from.ensures, to_z-of_z c.ranges.ceiling) at c.in_ok-capped.ensures in
    let h = rw (new.same.0, new.same.1, new.same.2, new.same.3) at c.judge.ensures in
    let p = pass_is a.lifting a.g.now a.multipliers.now a.ceiling a.denominator a.lists.now c.judge.result c.judge.new.lists (sym new.fault) h in
    record {
      reply = p.reply;
      tree = p.chosen;
      rulings = p.ruled;
      hint = pass_hints a.lifting _ _ a.ceiling _ a.lists.now _ c.judge.new.lists h;
      weighed = pass_weighs a.lifting _ _ a.ceiling _ a.lists.now _ c.judge.new.lists h;
    }
