-- A kept edge has the ruling in the network that it has in the thin one, where every edge that is not kept is excluded.
use Rattle.std.specs.Prelude.{◌≡◌, Bool, ℕ, ℤ, ◌<ℤ◌}
use Rattle.std.proofs.Common.{◌∙◌}
use Rattle.std.proofs.Math.Bool.{true, false}
-- tests that pass alike are one
pub use Rattle.std.specs.Cmp.{both_ways as same_test}
use Rattle.lists.specs.Members.{◌∈◌}
use Rattle.lists.specs.Numbers.{up_to}
use Rattle.graph.specs.Network.{Network}
use Rattle.tree_theory.specs.OneTree.{Edges, OneTree, bound, Barred, Forced}
use Rattle.tree_theory.specs.Enumeration.{barred_b, forced_b, ruling}
use Rattle.tree_theory.specs.Decide.{barred_test, forced_test}
use Rattle.thinning.specs.Ranks.{rank, nth, nth_in, down}
use Rattle.thinning.specs.Thinned.{thin, spread, RestExcluded, tree_only, tree-down, bound-thin, spread-down, spread-tree, spread-bound}

module _ (c : Edges) (g : Network) (rest : RestExcluded c g) (d : ℕ → ℤ) (ceiling : ℤ) (j : ℕ) (i : j ∈ up_to (rank c g.m)) where
  -- a claim of all 1-trees that have the edge, or of all that lack it
  through : (b : Bool) → ((t : Edges) → OneTree g t → t (nth c g.m j) ≡ b → ceiling <ℤ bound g d t)
      → (r : Edges) → OneTree (thin c g) r → r j ≡ b → ceiling <ℤ bound (thin c g) d r
  through b h r o e =
      rw (← spread-bound c g rest r d) (h (spread c r) (spread-tree c g rest r o) (spread-down c g r j i ∙ e))

  back : (b : Bool) → ((r : Edges) → OneTree (thin c g) r → r j ≡ b → ceiling <ℤ bound (thin c g) d r)
      → (t : Edges) → OneTree g t → t (nth c g.m j) ≡ b → ceiling <ℤ bound g d t
  back b h t o e =
      let only = tree_only c g rest t o in
      rw (bound-thin c g t only d) (h (down c g.m t) (tree-down c g t only o) e)

  pub barred_thin : barred_b g d ceiling (nth c g.m j) ≡ barred_b (thin c g) d ceiling j
  unfolding Barred
  barred_thin =
      let old = barred_test g d ceiling (nth c g.m j) (nth_in c g.m j i) in
      let new = barred_test (thin c g) d ceiling j i in
      same_test _ _ (λ e. new.1 (through true (old.0 e))) (λ e. old.1 (back true (new.0 e)))

  pub forced_thin : forced_b g d ceiling (nth c g.m j) ≡ forced_b (thin c g) d ceiling j
  unfolding Forced
  forced_thin =
      let old = forced_test g d ceiling (nth c g.m j) (nth_in c g.m j i) in
      let new = forced_test (thin c g) d ceiling j i in
      same_test _ _ (λ e. new.1 (through false (old.0 e))) (λ e. old.1 (back false (new.0 e)))

  -- THE RULING OF A KEPT EDGE
  pub ruling-thin : ruling g d ceiling (nth c g.m j) ≡ ruling (thin c g) d ceiling j
  unfolding ruling
  ruling-thin = rw (barred_thin, forced_thin)
