-- The number of components, and the rank of a list of edges: how many of them join two components of those behind. Among any
-- vertices that have all the ends, components and rank add up to the number of vertices; so the rank depends on which vertices the
-- edges connect, and on nothing else: not on their order, nor on the vertices. Assumes nothing.
use Rattle.std.specs.Prelude.{◌≡◌, refl, ◌≢◌, ◌⊎◌, Bool, eqb}
use Rattle.std.proofs.Common.{sym, ap, ◌∙◌}
use Rattle.std.proofs.Math.Logic.{inl, inr}
use Rattle.std.proofs.Math.Bool.{true, false, not}
use mathlib.Core.List.{List, [], ◌∷◌}
use Prim.Native.Nat.{ℕ, suc, ◌+◌, ◌≤◌, max}
use native.Mathlib.Omega.{arith}
use Rattle.std.proofs.Math.Decide.{ℕ_discrete}
use Rattle.std.proofs.Math.ListN.{length}
use borrow.Author.Tests.{eqb-true, eqb-false}
use Rattle.lists.specs.Bools.{bit, by_cases}
use Rattle.lists.specs.Members.{◌∈◌}
use Rattle.lists.specs.Distinct.{Distinct}
use Rattle.lists.specs.Numbers.{up_to, up_to_in, in_up_to, distinct-up_to}
use Rattle.spanning.specs.Walks.{label, label-le, label_edge, label_idle, label_idem, label-walk, walk_respects}
use Rattle.spanning.specs.Roots.{roots, roots_mono, roots_all, relabel_in, join_drop}

module _ (p q : ℕ → ℕ) where
  -- ---- rank

  -- e joins two components of the listed edges
  unfoldable pub joins : List ℕ → ℕ → Bool
  joins es e = not (eqb (label p q es (p e)) (label p q es (q e)))

  -- its two cases
  abbrev pub Joining : List ℕ → ℕ → Bool → Type 0
  Joining es e b =
      ((b ≡ true) × (label p q es (p e) ≢ label p q es (q e))) ⊎ ((b ≡ false) × (label p q es (p e) ≡ label p q es (q e)))

  pub joins_is : (es : List ℕ) (e : ℕ) → Joining es e (joins es e)
  unfolding joins
  joins_is es e =
      by_cases (eqb (label p q es (p e)) (label p q es (q e)))
      (λ h. inr (ap not h, eqb-true _ _ h))
      (λ h. inl (ap not h, eqb-false _ _ h))

  -- how many of the listed edges join two components of those behind them
  unfoldable pub rank : List ℕ → ℕ
  rank [] = 0
  rank (e ∷ es) = bit (joins es e) + rank es

  pub rank-le : (es : List ℕ) → rank es ≤ length es
  unfolding rank
  rank-le [] = omega arith
  rank-le (e ∷ es) = go (joins es e) (rank-le es)
    where
      go : (t : Bool) → rank es ≤ length es → bit t + rank es ≤ suc (length es)
      go true h = omega arith
      go false h = omega arith

  -- ---- rank and components, among vertices that have both ends of each edge

  abbrev pub Within : List ℕ → List ℕ → Type 0
  Within vs es = (e : ℕ) → e ∈ es → (p e ∈ vs) × (q e ∈ vs)

  pub label_in : (vs es : List ℕ) → Within vs es → (v : ℕ) → v ∈ vs → label p q es v ∈ vs
  unfolding label
  label_in vs [] w v m = m
  label_in vs (e ∷ es) w v m =
      let below : (u : ℕ) → u ∈ vs → label p q es u ∈ vs = λ u i. label_in vs es (λ d j. w d (inr j)) u i in
      relabel_in vs _ _ _ (below (p e) (w e (inl refl)).0) (below (q e) (w e (inl refl)).1) (below v m)

  -- each joining edge leaves one component fewer, the others change nothing
  pub rank-roots : (vs es : List ℕ) → Distinct vs → Within vs es → roots vs (label p q es) + rank es ≡ length vs
  unfolding rank label
  rank-roots vs [] d w = omega (arith, roots_all vs)
  rank-roots vs (e ∷ es) d w = go (joins_is es e) (rank-roots vs es d behind)
    where
      behind : Within vs es
      behind k m = w k (inr m)

      fewer : label p q es (p e) ≢ label p q es (q e) → roots vs (label p q es) ≡ suc (roots vs (label p q (e ∷ es)))
      fewer ne =
          join_drop vs (label p q es) (label p q es (p e)) (label p q es (q e)) d
          (label_in vs es behind (p e) (w e (inl refl)).0) (label_in vs es behind (q e) (w e (inl refl)).1)
          (label_idem p q es (p e)) (label_idem p q es (q e)) ne

      go : Joining es e (joins es e) → roots vs (label p q es) + rank es ≡ length vs
          → roots vs (label p q (e ∷ es)) + (bit (joins es e) + rank es) ≡ length vs
      go (inl h) below = rw h.0 (omega (arith, fewer h.1))
      go (inr h) below =
          rw h.0 (omega (
            arith,
            roots_mono vs (label p q (e ∷ es)) (label p q es) (λ v m i. sym (label_idle p q es e h.1 v) ∙ i),
            roots_mono vs (label p q es) (label p q (e ∷ es)) (λ v m i. label_idle p q es e h.1 v ∙ i),
          ))

  -- ---- rank depends on what is connected

  -- the edges xs lie within the components of ys
  unfoldable pub Inside : List ℕ → List ℕ → Type 0
  Inside xs ys = (e : ℕ) → e ∈ xs → label p q ys (p e) ≡ label p q ys (q e)

  pub sub-inside : (xs ys : List ℕ) → ((k : ℕ) → k ∈ xs → k ∈ ys) → Inside xs ys
  unfolding Inside
  sub-inside xs ys s k m = label_edge p q ys k (s k m)

  pub inside-label : (xs ys : List ℕ) → Inside xs ys → (u v : ℕ) → label p q xs u ≡ label p q xs v → label p q ys u ≡ label p q ys v
  unfolding Inside
  inside-label xs ys s u v h = walk_respects p q (label p q ys) s ((label-walk p q xs u v).0 h)

  inside_root : (xs ys : List ℕ) → Inside xs ys → (r : ℕ) → label p q ys r ≡ r → label p q xs r ≡ r
  inside_root xs ys s r h =
      omega (arith, label-le p q xs r, label-le p q ys (label p q xs r), inside-label xs ys s (label p q xs r) r (label_idem p q xs r))

  -- the numbers up to the highest end are vertices that have all the ends
  highest : List ℕ → ℕ
  highest [] = 0
  highest (e ∷ es) = max (max (p e) (q e)) (highest es)

  highest_is : (es : List ℕ) (e : ℕ) → e ∈ es → (p e ≤ highest es) × (q e ≤ highest es)
  unfolding highest
  highest_is [] e m = absurd m
  highest_is (x ∷ es) e (inl h) = rw h (omega arith, omega arith)
  highest_is (x ∷ es) e (inr m) = (omega (arith, (highest_is es e m).0), omega (arith, (highest_is es e m).1))

  upward : (n v : ℕ) → v ≤ n → v ∈ (0 ∷ up_to n)
  upward n v h = go (ℕ_discrete v 0)
    where
      go : Dec (v ≡ 0) → v ∈ (0 ∷ up_to n)
      go (yes e) = inl e
      go (no e) = inr (up_to_in n v (omega arith) h)

  within_upward : (n : ℕ) (es : List ℕ) → highest es ≤ n → Within (0 ∷ up_to n) es
  within_upward n es h e m =
      (upward n (p e) (omega (arith, (highest_is es e m).0)), upward n (q e) (omega (arith, (highest_is es e m).1)))

  -- RANK IS MONOTONE
  pub inside-rank : (xs ys : List ℕ) → Inside xs ys → rank xs ≤ rank ys
  inside-rank xs ys s =
      omega (
        arith,
        rank-roots vs xs distinct (within_upward n xs (omega arith)),
        rank-roots vs ys distinct (within_upward n ys (omega arith)),
        roots_mono vs (label p q ys) (label p q xs) (λ v m. inside_root xs ys s v),
      )
    where
      n : ℕ
      n = max (highest xs) (highest ys)

      vs : List ℕ
      vs = 0 ∷ up_to n

      distinct : Distinct (0 ∷ up_to (max (highest xs) (highest ys)))
      distinct = ((λ m. let z : 1 ≤ 0 = (in_up_to n 0 m).0 in omega arith), distinct-up_to n)

  -- lists of the same edges have the same rank
  pub same_rank : (xs ys : List ℕ) → ((k : ℕ) → k ∈ xs → k ∈ ys) → ((k : ℕ) → k ∈ ys → k ∈ xs) → rank xs ≡ rank ys
  same_rank xs ys s t = omega (arith, inside-rank xs ys (sub-inside xs ys s), inside-rank ys xs (sub-inside ys xs t))
