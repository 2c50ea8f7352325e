-- WHAT CODE COMPUTES ON THE SMALL GRAPH is what is said over the active vertices, for every denominator q: its tree and rulings are those over the
-- active vertices of g, in new numbers. (Of the passes of a node: PassesComputed.)
use Rattle.std.specs.Prelude.{◌≡◌, true, false, List, ℕ, ℤ}
use Rattle.std.proofs.Common.{sym, ◌∙◌, subst}
use Rattle.lists.specs.Members.{◌∈◌}
use Rattle.lists.specs.Numbers.{up_to}
use Rattle.graph.specs.declared.Graph.{Graph}
use Rattle.graph.specs.Network.{Network, network}
use Rattle.graph.specs.Valid as value
use Rattle.tree_theory.specs.OneTree.{Edges}
use Rattle.tree_theory.specs.Inputs.{multiplier}
use Rattle.tree_theory.specs.Enumeration.{Tree, least_tree, was_excluded, ruling}
use Rattle.tree_theory.specs.Scaled.{scaled_by}
use Rattle.thinning.specs.Ranks.{rank, nth}
use Rattle.afloat.specs.Over.{Ashore, ashore, ashore_fits}
use Rattle.afloat.specs.Values.{tree_over, ruling_over}
use Rattle.afloat.specs.Reduced.{reduced_multiplier, Fit}
use Rattle.thinning.specs.Thinned.{Spread}
use Rattle.afloat.specs.Compact.{Keeping}
use Rattle.afloat.proofs.Compact.{compact-tree, compact-ruling, compact_rest}
use Rattle.afloat.specs.Graphs.{Renumbered}
use Rattle.afloat.specs.Scaling.{fit_scaled, keeping_scaled}
use Rattle.afloat.specs.Inputs.{fit_of}
use Rattle.afloat.specs.Lists.{reduced_list, list_multipliers}
use Rattle.afloat.specs.Computed.{small-network}

module _ (l : List ℕ) (c : Edges) (g r : Graph) (v : value.Valid g) (fits : ashore_fits l g.n ≡ true) (keeping : Keeping (ashore l) (network g) c)
    (h : Renumbered (ashore l) c g r) (q : ℕ) where
  abbrev s : Ashore
  s = ashore l

  abbrev scaled_all : Network
  scaled_all = scaled_by q (network g)

  fit : Fit s (network g)
  fit = fit_of g v l fits

  module _ (d : List ℤ) where
    -- the multipliers of the active vertices
    abbrev pub small : List ℤ
    small = reduced_list s (network g).n d

    small_multipliers : multiplier small ≡ reduced_multiplier s scaled_all.n (multiplier d)
    small_multipliers = list_multipliers s (network g).n d

    -- THE TREE
    pub small-tree : Spread c (network g).m (least_tree (scaled_by q (network r)) (multiplier small)) (tree_over s scaled_all (multiplier d))
    small-tree =
        subst (λ (x : Tree). Spread c (network g).m x (tree_over s scaled_all (multiplier d)))
        (sym (λ i. least_tree (small-network l c g r v fits keeping h q i) (small_multipliers i)))
        (compact-tree s scaled_all (fit_scaled q s (network g) fit) c (keeping_scaled q s (network g) c keeping) (multiplier d))

    -- THE RULING of a kept edge, and of any other
    pub small-ruling : (ceiling : ℤ) (j : ℕ) → j ∈ up_to (rank c (network g).m)
        → ruling_over s scaled_all (multiplier d) ceiling (nth c (network g).m j) ≡ ruling (scaled_by q (network r)) (multiplier small) ceiling j
    small-ruling ceiling j i =
        compact-ruling s scaled_all (fit_scaled q s (network g) fit) c (keeping_scaled q s (network g) c keeping) j i (multiplier d) ceiling
        ∙ sym (λ i. ruling (small-network l c g r v fits keeping h q i) (small_multipliers i) ceiling j)

    pub small_rest : (ceiling : ℤ) (k : ℕ) → k ∈ up_to (network g).m → c k ≡ false → ruling_over s scaled_all (multiplier d) ceiling k ≡ was_excluded
    small_rest ceiling k i e =
        compact_rest s scaled_all (fit_scaled q s (network g) fit) c (keeping_scaled q s (network g) c keeping) k i e (multiplier d) ceiling
