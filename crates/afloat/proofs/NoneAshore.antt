-- "with none ashore they read as before": where no vertex is inactive, what is least, infeasible, barred and forced is so as without. Assumes nothing
-- else.
use Rattle.std.specs.Prelude.{◌≡◌, ◌↔◌, false, ℤ}
use Rattle.std.proofs.Common.{sym, ◌∙◌}
use Prim.Native.Nat.{ℕ}
use Rattle.graph.specs.Network.{Network}
use Rattle.tree_theory.specs.OneTree.{Edges, Least, Infeasible, Barred, Forced}
use Rattle.afloat.specs.Over.{Ashore}
use Rattle.afloat.specs.Over.{LeastOver, InfeasibleOver, BarredOver, ForcedOver}
use Rattle.afloat.specs.NoneAshore.{tree_none, bound_none}

module _ (s : Ashore) (none : (v : ℕ) → s v ≡ false) where
  module _ (g : Network) where
    -- THE LEAST, AND WHAT RULINGS SPEAK OF
    pub least_none : (d : ℕ → ℤ) (t : Edges) → LeastOver s g d t ↔ Least g d t
    least_none d t = (
      λ l. record {
        tree = (tree_none s none g t).0 l.tree;
        least = λ r o. rw (← (bound_none s none g) d t, ← (bound_none s none g) d r) (l.least r ((tree_none s none g r).1 o));
        first = λ r o e. l.first r ((tree_none s none g r).1 o) (bound_none s none g d r ∙ e ∙ sym (bound_none s none g d t));
      },
      λ l. record {
        tree = (tree_none s none g t).1 l.tree;
        least = λ r o. rw (bound_none s none g d t, bound_none s none g d r) (l.least r ((tree_none s none g r).0 o));
        first = λ r o e. l.first r ((tree_none s none g r).0 o) (sym (bound_none s none g d r) ∙ e ∙ bound_none s none g d t);
      },
    )

    module _ (d : ℕ → ℤ) (ceiling : ℤ) where
      pub infeasible_none : InfeasibleOver s g d ceiling ↔ Infeasible g d ceiling
      unfolding InfeasibleOver Infeasible
      infeasible_none = (
        λ h t o. rw (← (bound_none s none g) d t) (h t ((tree_none s none g t).1 o)),
        λ h t o. rw (bound_none s none g d t) (h t ((tree_none s none g t).0 o)),
      )

      pub barred_none : (e : ℕ) → BarredOver s g d ceiling e ↔ Barred g d ceiling e
      unfolding BarredOver Barred
      barred_none e = (
        λ h t o i. rw (← (bound_none s none g) d t) (h t ((tree_none s none g t).1 o) i),
        λ h t o i. rw (bound_none s none g d t) (h t ((tree_none s none g t).0 o) i),
      )

      pub forced_none : (e : ℕ) → ForcedOver s g d ceiling e ↔ Forced g d ceiling e
      unfolding ForcedOver Forced
      forced_none e = (
        λ h t o i. rw (← (bound_none s none g) d t) (h t ((tree_none s none g t).1 o) i),
        λ h t o i. rw (bound_none s none g d t) (h t ((tree_none s none g t).0 o) i),
      )
