-- A SET OF EDGES IS A 1-TREE OVER THE ACTIVE VERTICES EXACTLY WHERE IT IS ONE OF THE REDUCED NETWORK, and its bound is the same; hence the least
-- 1-tree, what is infeasible, barred and forced are the same.
use Rattle.std.specs.Prelude.{◌≡◌, ◌↔◌, ℕ, ℤ, ◌<ℤ◌}
use Rattle.std.proofs.Common.{sym, ◌∙◌}
use Rattle.std.proofs.Math.Bool.{true, false}
use Rattle.graph.specs.Network.{Network}
use Rattle.tree_theory.specs.OneTree.{Edges, OneTree, Least, Infeasible, Barred, Forced, bound}
use Rattle.afloat.specs.Over.{Ashore, OneTreeOver, bound_over}
use Rattle.afloat.specs.Over.{LeastOver, InfeasibleOver, BarredOver, ForcedOver}
use Rattle.afloat.specs.Reduced.{reduced, Fit, reduced_multiplier}
use Rattle.afloat.specs.Reduced.{touched_excluded}
use Rattle.afloat.specs.Trees.{Untouched, tree_there, tree_back, bound-reduced, over_free, tree-bound}

-- ---- all sets of edges

module _ (s : Ashore) (g : Network) (f : Fit s g) where
  tree_free : (t : Edges) → OneTree (reduced s g) t → Untouched s g t
  tree_free t o k i e = o.avoids k i (touched_excluded s g f k i e)

  -- THE 1-TREES
  pub tree_iff : (t : Edges) → OneTreeOver s g t ↔ OneTree (reduced s g) t
  tree_iff t = ((λ o. tree_there s g f t (over_free s g f t o) o), λ o. tree_back s g f t (tree_free t o) o)

  module _ (d : ℕ → ℤ) where
    abbrev δ : ℕ → ℤ
    δ = reduced_multiplier s g.n d

    bound-tree : (t : Edges) → OneTree (reduced s g) t → bound_over s g d t ≡ bound (reduced s g) δ t
    bound-tree t o = bound-reduced s g f t (tree_free t o) d

    -- THE LEAST
    pub least_iff : (t : Edges) → LeastOver s g d t ↔ Least (reduced s g) δ t
    least_iff t = (there, return)
      where
        there : LeastOver s g d t → Least (reduced s g) δ t
        there l = record {
          tree = (tree_iff t).0 l.tree;
          least = λ r o. rw (← (tree-bound s g f d) t l.tree, ← bound-tree r o) (l.least r ((tree_iff r).1 o));
          first = λ r o e. l.first r ((tree_iff r).1 o) (bound-tree r o ∙ e ∙ sym (tree-bound s g f d t l.tree));
        }

        return : Least (reduced s g) δ t → LeastOver s g d t
        return l = record {
          tree = (tree_iff t).1 l.tree;
          least = λ r o. rw (bound-tree t l.tree, tree-bound s g f d r o) (l.least r ((tree_iff r).0 o));
          first = λ r o e. l.first r ((tree_iff r).0 o) (sym (tree-bound s g f d r o) ∙ e ∙ bound-tree t l.tree);
        }

    module _ (ceiling : ℤ) where
      -- what is claimed of the 1-trees of some kind
      module _ (Kind : Edges → Type 0) where
        all_there : ((t : Edges) → OneTreeOver s g t → Kind t → ceiling <ℤ bound_over s g d t)
            → (t : Edges) → OneTree (reduced s g) t → Kind t → ceiling <ℤ bound (reduced s g) δ t
        all_there h t o q = rw (← bound-tree t o) (h t ((tree_iff t).1 o) q)

        all_back : ((t : Edges) → OneTree (reduced s g) t → Kind t → ceiling <ℤ bound (reduced s g) δ t)
            → (t : Edges) → OneTreeOver s g t → Kind t → ceiling <ℤ bound_over s g d t
        all_back h t o q = rw (tree-bound s g f d t o) (h t ((tree_iff t).0 o) q)

      pub infeasible_iff : InfeasibleOver s g d ceiling ↔ Infeasible (reduced s g) δ ceiling
      unfolding InfeasibleOver Infeasible
      infeasible_iff = (
        λ h t o. all_there (λ t. Unit {0}) (λ r p u. h r p) t o tt,
        λ h t o. all_back (λ t. Unit {0}) (λ r p u. h r p) t o tt,
      )

      pub barred_iff : (e : ℕ) → BarredOver s g d ceiling e ↔ Barred (reduced s g) δ ceiling e
      unfolding BarredOver Barred
      barred_iff e = (all_there (λ t. t e ≡ true), all_back (λ t. t e ≡ true))

      pub forced_iff : (e : ℕ) → ForcedOver s g d ceiling e ↔ Forced (reduced s g) δ ceiling e
      unfolding ForcedOver Forced
      forced_iff e = (all_there (λ t. t e ≡ false), all_back (λ t. t e ≡ false))
