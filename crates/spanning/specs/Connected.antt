-- Edges connect all of some vertices exactly when their rank is one less than the number of those vertices: this is how a tree is
-- told by counting. The vertices are any list without repetition that has both ends of each edge. Assumes nothing.
use Rattle.std.specs.Prelude.{◌≡◌, ◌≢◌, List, ℕ, ◌+◌, ◌≤◌, length}
use Rattle.std.proofs.Common.{arith}
use Rattle.std.proofs.Math.Decide.{ℕ_discrete}
use Rattle.lists.specs.Members.{◌∈◌}
use Rattle.lists.specs.Distinct.{Distinct}
use Rattle.spanning.specs.Walks.{Walk, label, label_idem, label-walk}
use Rattle.spanning.specs.Components.{rank, Within, Inside, label_in, rank-roots}
use Rattle.spanning.specs.Roots.{roots, some_root, two-roots, one_root}

module _ (p q : ℕ → ℕ) (vs es : List ℕ) (d : Distinct vs) (w : Within p q vs es) (r : ℕ) (m : r ∈ vs) where
  at_least_one : 1 ≤ roots vs (label p q es)
  at_least_one = some_root vs (label p q es) (label p q es r) (label_in p q vs es w r m) (label_idem p q es r)

  pub rank_most : rank p q es + 1 ≤ length vs
  rank_most = omega (arith, rank-roots p q vs es d w, at_least_one)

  pub joined_rank : ((u v : ℕ) → u ∈ vs → v ∈ vs → Walk p q es u v) → rank p q es + 1 ≡ length vs
  joined_rank h =
      omega (
        arith,
        rank-roots p q vs es d w,
        at_least_one,
        one_root vs (label p q es) d (λ u v i j. (label-walk p q es u v).1 (h u v i j)),
      )

  pub rank_joined : rank p q es + 1 ≡ length vs → (u v : ℕ) → u ∈ vs → v ∈ vs → Walk p q es u v
  rank_joined h u v i j = (label-walk p q es u v).0 (go (ℕ_discrete (label p q es u) (label p q es v)))
    where
      go : Dec (label p q es u ≡ label p q es v) → label p q es u ≡ label p q es v
      go (yes e) = e
      go (no e) = absurd (omega (arith, two e, rank-roots p q vs es d w))
        where
          two : label p q es u ≢ label p q es v → 2 ≤ roots vs (label p q es)
          two =
              two-roots vs (label p q es) (label p q es u) (label p q es v)
              (label_in p q vs es w u i) (label_in p q vs es w v j) (label_idem p q es u) (label_idem p q es v)

  -- and then no edge among these vertices joins two components
  pub rank-inside : rank p q es + 1 ≡ length vs → (xs : List ℕ) → Within p q vs xs → Inside p q xs es
  unfolding Inside
  rank-inside h xs i e k = (label-walk p q es (p e) (q e)).1 (rank_joined h (p e) (q e) (i e k).0 (i e k).1)
