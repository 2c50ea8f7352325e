-- Forests: every edge joins two components of those behind it. No forest has more of the edges looked at than the greedy choice of
-- those that join; and that choice connects all that the edges connect. Assumes nothing.
use Rattle.std.specs.Prelude.{◌≡◌, ◌≢◌, Bool}
use Rattle.std.proofs.Math.Path.{refl, sym}
use Rattle.std.proofs.Common.{◌∙◌, inl, inr}
use Rattle.std.proofs.Math.Bool.{true, false}
use mathlib.Core.List.{List, [], ◌∷◌, ◌++◌}
use Prim.Native.Nat.{ℕ, suc, ◌+◌, ◌≤◌}
use native.Mathlib.Omega.{arith}
use Rattle.std.proofs.Math.ListN.{length}
use Rattle.lists.specs.Bools.{bit}
use Rattle.lists.specs.Members.{in_right}
use Rattle.lists.specs.Select.{keep, select, select_in, select-append}
use Rattle.lists.specs.Weights.{keep-length}
use Rattle.lists.specs.Sets.{NumberSet}
use Rattle.spanning.specs.Walks.{label, label_edge, label_idle}
use Rattle.spanning.specs.Components.{joins, joins_is, Joining, rank, rank-le, Inside, sub-inside, inside-label, inside-rank}
use Rattle.spanning.specs.Choice.{choose, choose_in, choose_full, Dominates}

module _ (p q : ℕ → ℕ) where
  unfoldable pub Forest : List ℕ → Type 0
  Forest es = rank p q es ≡ length es

  pub forest_tail : (e : ℕ) (es : List ℕ) → Forest (e ∷ es) → Forest es
  unfolding Forest rank
  forest_tail e es h = go (joins p q es e) h
    where
      go : (b : Bool) → bit b + rank p q es ≡ suc (length es) → rank p q es ≡ length es
      go true k = omega arith
      go false k = omega (arith, rank-le p q es)

  pub forest_joins : (e : ℕ) (es : List ℕ) → Forest (e ∷ es) → label p q es (p e) ≢ label p q es (q e)
  unfolding Forest rank
  forest_joins e es h = go (joins_is p q es e)
    where
      go : Joining p q es e (joins p q es e) → label p q es (p e) ≢ label p q es (q e)
      go (inl k) = k.1
      go (inr k) = absurd (let z : suc (length es) ≤ length es = omega (arith, rank-le p q es, rw k.0 at h) in omega arith)

  pub joins_forest : (e : ℕ) (es : List ℕ) → label p q es (p e) ≢ label p q es (q e) → Forest es → Forest (e ∷ es)
  unfolding Forest rank
  joins_forest e es h f = go (joins_is p q es e)
    where
      go : Joining p q es e (joins p q es e) → bit (joins p q es e) + rank p q es ≡ suc (length es)
      go (inl k) = rw k.0 (omega arith)
      go (inr k) = absurd (h k.1)

  -- a forest's edges further back are one
  pub forest_behind : (xs base : List ℕ) → Forest (xs ++ base) → Forest base
  forest_behind [] base h = h
  forest_behind (e ∷ xs) base h = forest_behind xs base (forest_tail e (xs ++ base) h)

  pub forest_base : (t : NumberSet) (xs base : List ℕ) → Forest (select t (xs ++ base)) → Forest (select t base)
  forest_base t xs base h = forest_behind (select t xs) (select t base) (rw select-append at h)

  -- some of a forest's edges are one
  pub forest_select : (c : NumberSet) (es : List ℕ) → Forest es → Forest (select c es)
  unfolding select
  forest_select c [] h = h
  forest_select c (e ∷ es) h = go (c e) (forest_select c es (forest_tail e es h))
    where
      some : Inside p q (select c es) es
      some = sub-inside p q (select c es) es (λ k m. (select_in c es k m).0)

      go : (b : Bool) → Forest (select c es) → Forest (keep b e (select c es))
      go true f = joins_forest e (select c es) (λ i. forest_joins e es h (inside-label p q (select c es) es some (p e) (q e) i)) f
      go false f = f

  -- ---- the greedy choice

  -- keep an edge where it joins two components of the edges behind it
  unfoldable pub greedy : List ℕ → List ℕ
  greedy = choose (joins p q)

  pub greedy-label : (es : List ℕ) (v : ℕ) → label p q (greedy es) v ≡ label p q es v
  unfolding greedy choose label
  greedy-label [] v = refl
  greedy-label (e ∷ es) v = go (joins_is p q es e) (λ u. greedy-label es u)
    where
      go : Joining p q es e (joins p q es e) → ((u : ℕ) → label p q (greedy es) u ≡ label p q es u)
          → label p q (keep (joins p q es e) e (greedy es)) v ≡ label p q (e ∷ es) v
      go (inl h) below = rw (h.0, below v, below (p e), below (q e))
      go (inr h) below = rw (h.0, below v) (sym (label_idle p q es e h.1 v))

  pub greedy-length : (es : List ℕ) → length (greedy es) ≡ rank p q es
  unfolding greedy choose rank
  greedy-length [] = refl
  greedy-length (e ∷ es) = omega (arith, keep-length (joins p q es e) e (greedy es), greedy-length es)

  -- it connects what all the edges connect
  pub greedy-rank : (es : List ℕ) → rank p q (greedy es) ≡ rank p q es
  unfolding greedy Inside
  greedy-rank es =
      omega (
        arith,
        inside-rank p q es (greedy es) (λ k m. greedy-label es (p k) ∙ label_edge p q es k m ∙ sym (greedy-label es (q k))),
        inside-rank p q (greedy es) es (sub-inside p q (greedy es) es (choose_in (joins p q) es)),
      )

  -- of a forest it keeps every edge
  pub greedy_all : (es : List ℕ) → Forest es → greedy es ≡ es
  unfolding greedy Forest
  greedy_all es h = choose_full (joins p q) es (greedy-length es ∙ h)

  -- of edges within the components of those behind it takes none
  pub greedy_idle : (xs es : List ℕ) → Inside p q xs es → greedy (xs ++ es) ≡ greedy es
  unfolding greedy choose Inside
  greedy_idle [] es h = refl
  greedy_idle (x ∷ xs) es h = go (joins_is p q (xs ++ es) x) (greedy_idle xs es (λ e m. h e (inr m)))
    where
      same : label p q (xs ++ es) (p x) ≡ label p q (xs ++ es) (q x)
      same = inside-label p q es (xs ++ es) (sub-inside p q es (xs ++ es) (λ k m. in_right k xs es m)) (p x) (q x) (h x (inl refl))

      go : Joining p q (xs ++ es) x (joins p q (xs ++ es) x) → greedy (xs ++ es) ≡ greedy es
          → keep (joins p q (xs ++ es) x) x (greedy (xs ++ es)) ≡ greedy es
      go (inl k) below = absurd (k.1 same)
      go (inr k) below = rw k.0 below

  -- no forest has more edges among those looked at
  pub greedy_dominates : (t : NumberSet) (base es : List ℕ) → Forest (select t (es ++ base)) → Dominates (joins p q) t base es
  unfolding select Forest greedy
  greedy_dominates t base [] f = tt
  greedy_dominates t base (e ∷ es) f = (more, greedy_dominates t base es (forest_base t (e ∷ []) (es ++ base) f))
    where
      xs : List ℕ
      xs = e ∷ (es ++ base)

      sub : Inside p q (select t xs) xs
      sub = sub-inside p q (select t xs) xs (λ k m. (select_in t xs k m).0)

      more : length (select t xs) ≤ length (choose (joins p q) xs)
      more = omega (arith, greedy-length xs, inside-rank p q (select t xs) xs sub)
