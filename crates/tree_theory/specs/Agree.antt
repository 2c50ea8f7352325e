-- A set counts only as far as the edges go: sets that agree on the edges 1 to m are one set to every definition. And the least 1-tree
-- is one set of edges in this sense.
use Rattle.std.specs.Prelude.{◌≡◌, refl, ◌⊎◌, Bool, true, false, ◌&&◌, ℕ, zero, suc, ◌+◌, length, ℤ, pos, ◌-ℤ◌, ◌*ℤ◌}
use Rattle.std.proofs.Common.{sym, ◌∙◌, subst, inl, inr, true≢false}
use Rattle.std.proofs.Math.Path.{ap}
use Rattle.std.proofs.Math.Bool.{not}
use mathlib.Core.List.{List}
use Rattle.std.proofs.Math.Dec.{eqb}
use Rattle.lists.specs.Members.{◌∈◌}
use Rattle.lists.specs.Select.{select_cong}
use Rattle.lists.specs.Numbers.{up_to}
use Rattle.integers.specs.Order.{le_antisym}
use Rattle.integers.specs.Sums.{sum_z}
use Rattle.graph.specs.Network.{Network}
use Rattle.spanning.specs.Walks.{Walk}
use Rattle.tree_theory.specs.OneTree.{Edges, OneTree, Least, away, at_one, charge, bound, lacks_first, unless}

abbrev pub Agree : ℕ → Edges → Edges → Type 0
Agree m s t = (k : ℕ) → k ∈ up_to m → s k ≡ t k

module _ (g : Network) (s t : Edges) (h : Agree g.m s t) where
  away_agree : away g s ≡ away g t
  unfolding away
  away_agree = select_cong _ _ (up_to g.m) (λ k m. ap (λ (b : Bool). b && not (eqb (g.a k) 1)) (h k m))

  at_one_agree : at_one g s ≡ at_one g t
  unfolding at_one
  at_one_agree = select_cong _ _ (up_to g.m) (λ k m. ap (λ (b : Bool). b && eqb (g.a k) 1) (h k m))

  pub tree_agree : OneTree g t → OneTree g s
  tree_agree o = record {
    two = ap length at_one_agree ∙ o.two;
    rest = ap (λ (l : List ℕ). 2 + length l) away_agree ∙ o.rest;
    joined = λ u v i j. subst (λ (es : List ℕ). Walk g.a g.b es u v) (sym away_agree) (o.joined u v i j);
    keeps = λ k m r. h k m ∙ o.keeps k m r;
    avoids = λ k m r. h k m ∙ o.avoids k m r;
  }

  pub bound_agree : (d : ℕ → ℤ) → bound g d s ≡ bound g d t
  unfolding bound
  bound_agree d =
      ap (λ (l : List ℕ). sum_z (charge g d) l -ℤ (pos 2 *ℤ sum_z d (up_to g.n))) (select_cong s t (up_to g.m) h)

pub lacks_agree : (m : ℕ) (s r t : Edges) → Agree m s r → lacks_first m s t ≡ lacks_first m r t
unfolding lacks_first up_to
lacks_agree zero s r t h = refl
lacks_agree (suc m) s r t h = rw (h (suc m) (inl refl), lacks_agree m s r t (λ k i. h k (inr i)))

pub lacks_second : (m : ℕ) (s r t : Edges) → Agree m r t → lacks_first m s r ≡ lacks_first m s t
unfolding lacks_first up_to
lacks_second zero s r t h = refl
lacks_second (suc m) s r t h = rw (h (suc m) (inl refl), lacks_second m s r t (λ k i. h k (inr i)))

-- ---- where neither of two comes first, they agree

pub neither : (m : ℕ) (s t : Edges) → lacks_first m s t ≡ false → lacks_first m t s ≡ false → Agree m s t
unfolding lacks_first up_to
neither zero s t h i k j = absurd j
neither (suc m) s t h i k j = go (s (suc m)) (t (suc m)) refl refl h i (λ h' i' j'. neither m s t h' i' k j') j
  where
    go : (x y : Bool) → s (suc m) ≡ x → t (suc m) ≡ y
        → unless x y (lacks_first m s t) ≡ false → unless y x (lacks_first m t s) ≡ false
        → (lacks_first m s t ≡ false → lacks_first m t s ≡ false → k ∈ up_to m → s k ≡ t k)
        → (k ≡ suc m) ⊎ (k ∈ up_to m) → s k ≡ t k
    go true true e f u v below (inl z) = rw z (e ∙ sym f)
    go false false e f u v below (inl z) = rw z (e ∙ sym f)
    go true true e f u v below (inr z) = below u v z
    go false false e f u v below (inr z) = below u v z
    go true false e f u v below z = absurd (true≢false v)
    go false true e f u v below z = absurd (true≢false u)

-- THE LEAST 1-TREE IS ONE
pub least_unique : (g : Network) (d : ℕ → ℤ) (s t : Edges) → Least g d s → Least g d t → Agree g.m s t
least_unique g d s t ls lt = neither g.m s t (lt.first s ls.tree same) (ls.first t lt.tree (sym same))
  where
    same : bound g d s ≡ bound g d t
    same = le_antisym (bound g d s) (bound g d t) (ls.least t lt.tree) (lt.least s ls.tree)
