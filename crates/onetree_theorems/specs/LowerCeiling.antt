-- What is infeasible, barred or forced under a ceiling is so under every lower one. (And so a tighter ceiling undoes no ruling, which is what
-- TwoCeilings says of the rule call: proofs/LowerCeiling.) Assumes nothing.
use Rattle.std.proofs.Math.Path.{◌≡◌, refl}
use Rattle.std.proofs.Common.{sym, ◌∙◌}
use Rattle.std.specs.Prelude.{List, ℤ, ◌≤ℤ◌}
use Prim.Native.Nat.{ℕ, zero, suc}
use Rattle.integers.specs.Multiples.{◌times◌}
use Rattle.integers.specs.Order.{le_lt_trans}
use Rattle.graph.specs.declared.Graph.{Graph}
use Rattle.graph.specs.Network.{Network}
use Rattle.afloat.specs.Over.{Ashore, bound_over, InfeasibleOver, BarredOver, ForcedOver}
use Rattle.onetree.specs.Answers.{Reply, unless_fault, rule_says}
use Rattle.reduction.specs.Answers.{tree_of, rule_fault_over, rule_reply_over}
use Rattle.onetree_theorems.specs.Calls.{Fine, rule_asks}
use Rattle.onetree_theorems.specs.Refusing.{fault_none, rule_tests, rule_fault_lem}
use Rattle.onetree_theorems.specs.TwoCeilings.{GaveRulings}

-- ---- what holds of a ceiling holds of every lower one

module _ (s : Ashore) (g : Network) (d : ℕ → ℤ) (low high : ℤ) (lower : low ≤ℤ high) where
  pub infeasible_lower : InfeasibleOver s g d high → InfeasibleOver s g d low
  unfolding InfeasibleOver
  infeasible_lower i t o = le_lt_trans low high (bound_over s g d t) lower (i t o)

  pub barred_lower : (k : ℕ) → BarredOver s g d high k → BarredOver s g d low k
  unfolding BarredOver
  barred_lower k b t o e = le_lt_trans low high (bound_over s g d t) lower (b t o e)

  pub forced_lower : (k : ℕ) → ForcedOver s g d high k → ForcedOver s g d low k
  unfolding ForcedOver
  forced_lower k f t o e = le_lt_trans low high (bound_over s g d t) lower (f t o e)

-- ---- a call that is not refused found nothing wrong

module _ (g : Graph) (d : List ℤ) (l : List ℕ) (ceiling : ℤ) (den len : ℕ) where
  -- the reply where nothing is wrong
  abbrev pub says : Reply
  says = rule_says (den times ceiling) (tree_of g d l den)

  pub fine : rule_fault_over g d l ceiling den len ≡ 0 → Fine (rule_asks g d l ceiling den len)
  fine e = (fault_none _ (rule_tests g d l den len ceiling)).0 (sym (rule_fault_lem g d l den len ceiling) ∙ e)

  pub gave_fine : GaveRulings (rule_reply_over g d l ceiling den len) → Fine (rule_asks g d l ceiling den len)
  unfolding rule_reply_over
  gave_fine h = fine (go (rule_fault_over g d l ceiling den len) says h)
    where
      go : (f : ℕ) (r : Reply) → GaveRulings (unless_fault f r) → f ≡ 0
      go zero r h = refl
      go (suc f) r h = absurd h
