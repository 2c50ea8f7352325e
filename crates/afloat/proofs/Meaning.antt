-- What the values over the active vertices say, in Over's words and in no others: the tree is the least 1-tree or there is none, the rulings are
-- exact, a touched edge is ruled 'already struck' whatever its mark, and an allowed tour is a 1-tree whose bound is its cost. The renumbering is in
-- no statement here.
use Rattle.std.specs.Prelude.{◌≡◌, ◌↔◌, true, ℕ, ℤ}
use Rattle.std.proofs.Common.{sym, ◌∙◌, subst}
use Rattle.lists.specs.Members.{◌∈◌}
use Rattle.lists.specs.Numbers.{up_to}
use Rattle.graph.specs.Network.{Network, free, required, excluded}
use Rattle.tree_theory.specs.OneTree.{Edges}
use Rattle.tree_theory.specs.Enumeration.{Tree, no_tree, a_tree, least_tree, keeps, forces, bars, was_required, was_excluded}
use Rattle.tree_theory.specs.LeastTree.{Right, tree_right, Above, infeasible_tree}
use Rattle.tree_theory.specs.Rulings.{rules_exactly, rules_out, rules_in, rules_nothing, rules_excluded, rules_required}
use Rattle.tours.specs.TourTree.{tour_tree}
use Rattle.afloat.specs.Over.{Ashore, touched, mark_over, OneTreeOver, InfeasibleOver, BarredOver, ForcedOver, TourOver}
use Rattle.afloat.specs.Over.{AllowedOver}
use Rattle.afloat.specs.Values.{tree_over, ruling_over}
use Rattle.afloat.specs.Reduced.{reduced, reduced_multiplier, Fit, reduced-valid, touched_excluded}
use Rattle.afloat.specs.Trees.{tree-bound}
use Rattle.afloat.proofs.Trees.{tree_iff, least_iff, infeasible_iff, barred_iff, forced_iff}
use Rattle.afloat.specs.Tours.{tour_reduced, allowed_iff}
use Rattle.afloat.proofs.Decided.{tree-reduced, ruling-reduced}
use Rattle.afloat.specs.Meaning.{RightOver}

module _ (s : Ashore) (g : Network) (f : Fit s g) (d : ℕ → ℤ) where
  -- THE TREE
  pub tree_over_right : RightOver s g d (tree_over s g d)
  tree_over_right =
      subst (RightOver s g d) (sym (tree-reduced s g f d))
      (go (least_tree (reduced s g) (reduced_multiplier s g.n d)) (tree_right (reduced s g) (reduced_multiplier s g.n d)))
    where
      go : (x : Tree) → Right (reduced s g) (reduced_multiplier s g.n d) x → RightOver s g d x
      go no_tree h = λ t o. h t ((tree_iff s g f t).0 o)
      go (a_tree b t) h =
          let l = (least_iff s g f d t).1 h.1 in
          (h.0 ∙ sym (tree-bound s g f d t l.tree), l)

  -- "A sea is called dead exactly when that tree is missing or its bound is above the ceiling."
  pub infeasible_over_tree : (ceiling : ℤ) → InfeasibleOver s g d ceiling ↔ Above g d ceiling (tree_over s g d)
  infeasible_over_tree ceiling =
      let i = infeasible_iff s g f d ceiling in
      let a = infeasible_tree (reduced s g) (reduced_multiplier s g.n d) ceiling in (
        λ h. subst (Above g d ceiling) (sym (tree-reduced s g f d)) (a.0 (i.0 h)),
        λ h. i.1 (a.1 (subst (Above g d ceiling) (tree-reduced s g f d) h)),
      )

  -- THE RULINGS
  module _ (ceiling : ℤ) (k : ℕ) (m : k ∈ up_to g.m) where
    -- "a free leg is barred exactly when no 1-tree with it has a bound within the ceiling, and forced exactly when none without it has"
    pub rules_exactly_over : ¬ InfeasibleOver s g d ceiling → mark_over s g k ≡ free
        → ((ruling_over s g d ceiling k ≡ bars) ↔ BarredOver s g d ceiling k) × ((ruling_over s g d ceiling k ≡ forces) ↔ ForcedOver s g d ceiling k)
    rules_exactly_over feasible e =
        let r = rules_exactly (reduced s g) (reduced_multiplier s g.n d) ceiling k m (λ h. feasible ((infeasible_iff s g f d ceiling).1 h)) e in
        let same = ruling-reduced s g f d ceiling k in
        let b = barred_iff s g f d ceiling k in
        let c = forced_iff s g f d ceiling k in (
          ((λ h. b.1 (r.0.0 (sym same ∙ h))), λ h. same ∙ r.0.1 (b.0 h)),
          ((λ h. c.1 (r.1.0 (sym same ∙ h))), λ h. same ∙ r.1.1 (c.0 h)),
        )

    -- of every edge, by the mark that counts
    pub rules_out_over : mark_over s g k ≡ free → BarredOver s g d ceiling k → ruling_over s g d ceiling k ≡ bars
    rules_out_over e b =
        ruling-reduced s g f d ceiling k
        ∙ rules_out (reduced s g) (reduced_multiplier s g.n d) ceiling k m e ((barred_iff s g f d ceiling k).0 b)

    pub rules_in_over : mark_over s g k ≡ free → ¬ BarredOver s g d ceiling k → ForcedOver s g d ceiling k → ruling_over s g d ceiling k ≡ forces
    rules_in_over e nb b =
        ruling-reduced s g f d ceiling k
        ∙ rules_in (reduced s g) (reduced_multiplier s g.n d) ceiling k m e (λ h. nb ((barred_iff s g f d ceiling k).1 h))
        ((forced_iff s g f d ceiling k).0 b)

    pub rules_nothing_over : mark_over s g k ≡ free → ¬ BarredOver s g d ceiling k → ¬ ForcedOver s g d ceiling k
        → ruling_over s g d ceiling k ≡ keeps
    rules_nothing_over e nb nf =
        ruling-reduced s g f d ceiling k
        ∙ rules_nothing (reduced s g) (reduced_multiplier s g.n d) ceiling k m e (λ h. nb ((barred_iff s g f d ceiling k).1 h))
        (λ h. nf ((forced_iff s g f d ceiling k).1 h))

    pub rules_excluded_over : mark_over s g k ≡ excluded → ruling_over s g d ceiling k ≡ was_excluded
    rules_excluded_over e =
        ruling-reduced s g f d ceiling k ∙ rules_excluded (reduced s g) (reduced_multiplier s g.n d) ceiling k m e

    -- "A leg touching such a buoy counts as struck, whatever its mark"
    pub rules_touched : touched s g k ≡ true → ruling_over s g d ceiling k ≡ was_excluded
    rules_touched e = rules_excluded_over (touched_excluded s g f k m e)

    pub rules_required_over : mark_over s g k ≡ required → ruling_over s g d ceiling k ≡ was_required
    rules_required_over e =
        ruling-reduced s g f d ceiling k ∙ rules_required (reduced s g) (reduced_multiplier s g.n d) ceiling k m e

  -- AN ALLOWED TOUR IS A 1-TREE, AND A TOUR'S BOUND IS ITS COST
  module _ (t : Edges) (o : TourOver s g t) where
    pub tour_over_tree : AllowedOver s g t → OneTreeOver s g t
    tour_over_tree a =
        (tree_iff s g f t).1 (tour_tree (reduced s g) (reduced-valid s g f) t (tour_reduced s g f t o) ((allowed_iff s g f t).0 a))
