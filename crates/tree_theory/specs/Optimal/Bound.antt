-- Bounds compare as sums of natural numbers do. The charged costs are shifted: c k − K is the charge of edge k. All 1-trees have n
-- edges, so the shift is the same for each, and `omega` compares bounds by weights.
use Rattle.std.specs.Prelude.{◌≡◌, ◌↔◌, ℤ, pos, ◌-ℤ◌, ◌*ℤ◌, neg_ℤ, ◌≤ℤ◌, ◌<ℤ◌}
use Rattle.std.proofs.Math.Path.{subst}
use mathlib.Core.List.{List}
use Prim.Native.Nat.{ℕ, ◌+◌, ◌*◌, ◌≤◌, ◌<◌}
use Rattle.std.proofs.Common.{arith}
use Rattle.std.proofs.Math.ListN.{length}
use Rattle.lists.specs.Members.{◌∈◌}
use Rattle.lists.specs.Select.{select, select_in}
use Rattle.lists.specs.Numbers.{up_to}
use Rattle.lists.specs.Weights.{weight}
use Rattle.integers.specs.Parts.{IsDiff, diff_add, diff_neg, diff_self, diff_le, diff_lt, diff_eq, up, dn}
use Rattle.integers.specs.Sums.{sum_z, sum_diff}
use Rattle.graph.specs.Network.{Network}
use Rattle.tree_theory.specs.OneTree.{Edges, charge, bound}
use Rattle.tree_theory.specs.Optimal.Link.{Parts, number}

-- c k − K is the charge of each edge k
abbrev pub Shifted : Network → (ℕ → ℤ) → ℕ → (ℕ → ℕ) → Type 0
Shifted g d K c = (k : ℕ) → k ∈ up_to g.m → IsDiff (charge g d k) (c k) K

-- "twice the sum of all dues"
abbrev pub twice_all : Network → (ℕ → ℤ) → ℤ
twice_all g d = pos 2 *ℤ sum_z d (up_to g.n)

module _ (g : Network) (d : ℕ → ℤ) (K : ℕ) (c : ℕ → ℕ) (off : Shifted g d K c) where
  pub bound_diff : (t : Edges) → Parts g t
      → IsDiff (bound g d t) (weight c (select t (up_to g.m)) + dn (twice_all g d)) (K * g.n + up (twice_all g d))
  unfolding bound
  bound_diff t o =
      subst (λ (z : ℕ). IsDiff (sum_z (charge g d) es -ℤ two) (weight c es + dn two) (K * z + up two)) size
      (diff_add (sum_z (charge g d) es) (neg_ℤ two) (weight c es) (K * length es) (dn two) (up two)
      (sum_diff (charge g d) c K es (λ k m. off k (select_in t (up_to g.m) k m).0))
      (diff_neg two (up two) (dn two) (diff_self two)))
    where
      es : List ℕ
      es = select t (up_to g.m)

      two : ℤ
      two = pos 2 *ℤ sum_z d (up_to g.n)

      size : length es ≡ g.n
      size = omega (arith, number g t o.avoids, o.two, o.tree.size, o.span)

  module _ (t s : Edges) (ot : Parts g t) (os : Parts g s) where
    pub bound-le : weight c (select t (up_to g.m)) ≤ weight c (select s (up_to g.m)) → bound g d t ≤ℤ bound g d s
    bound-le h = (diff_le (bound g d t) (bound g d s) _ _ _ _ (bound_diff t ot) (bound_diff s os)).1 (omega arith)

    pub le-bound : bound g d t ≤ℤ bound g d s → weight c (select t (up_to g.m)) ≤ weight c (select s (up_to g.m))
    le-bound h = omega (arith, (diff_le (bound g d t) (bound g d s) _ _ _ _ (bound_diff t ot) (bound_diff s os)).0 h)

    pub bound_eq : bound g d s ≡ bound g d t → weight c (select s (up_to g.m)) ≡ weight c (select t (up_to g.m))
    bound_eq h = omega (arith, diff_eq (bound g d s) (bound g d t) _ _ _ _ (bound_diff s os) (bound_diff t ot) h)

  -- against a ceiling u − v
  pub bound-above : (t : Edges) → Parts g t → (z : ℤ) (u v : ℕ) → IsDiff z u v
      → (z <ℤ bound g d t)
      ↔ (u + (K * g.n + up (twice_all g d)) < weight c (select t (up_to g.m)) + dn (twice_all g d) + v)
  bound-above t ot z u v h = diff_lt z (bound g d t) u v _ _ h (bound_diff t ot)
