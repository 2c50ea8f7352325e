-- Bytes for the kept edges, expanded to bytes for all edges, edge by edge, and what a tour's bytes, and a node's marks, come to by that.
use Rattle.std.specs.Prelude.{◌≡◌, refl, Bool, List, ℕ, suc, ◌≤◌, ◌<◌, get_or, set}
use Rattle.std.proofs.Common.{sym, ◌∙◌, arith, add-one}
use Rattle.std.proofs.Math.Path.{ap}
use Rattle.std.proofs.Math.Bool.{true, false, cond}
use Rattle.std.proofs.Math.Decide.{ℕ_discrete}
use Rattle.std.proofs.Math.ListN.{get_or-eq_default}
use Rattle.lists.specs.Bools.{bit}
use Rattle.lists.specs.Fill.{fill-at}
use Rattle.lists.specs.Filling.{Filling, filling_more, filling_is}
use Rattle.graph.specs.Limits.{max_edges}
use Rattle.graph.specs.Network.{free, excluded}
use Rattle.machine.specs.Machine.{Marks}
use Rattle.thinning.specs.Ranks.{rank, rank_most}
use Rattle.compaction.specs.Spread.{spread_marks, spread_tour, spread-size, spread-kept, spread_rest}
use Rattle.node.specs.Marks.{byte_of, bytes_of_tour, bytes_of, bytes-at}
use Rattle.node.specs.Opened.{kept}

-- ---- the bytes of all edges

-- the byte at the place of each edge
abbrev pub expanded_at : List ℕ → List ℕ → ℕ → ℕ → ℕ
expanded_at marks row other k = cond (kept marks (suc k)) (get_or row (rank (kept marks) k) 0) other

module _ (marks : List ℕ) (m : ℕ) (few : m ≤ max_edges) where
  -- of a node's marks
  pub expanded_mark : (y : Marks) (i : ℕ) → i < m → expanded_at marks (bytes_of y) 2 i ≡ byte_of (get_or (spread_marks (kept marks) m y) i free)
  expanded_mark y i l = at (kept marks (suc i)) refl
    where
      at : (b : Bool) → kept marks (suc i) ≡ b
          → cond b (get_or (bytes_of y) (rank (kept marks) i) 0) 2 ≡ byte_of (get_or (spread_marks (kept marks) m y) i free)
      at true e =
          bytes-at y (rank (kept marks) i) (omega (arith, rank_most (kept marks) i))
          ∙ ap byte_of (sym (spread-kept (kept marks) m excluded free y i l e))
      at false e = ap byte_of (sym (spread_rest (kept marks) m excluded free y i l e))

  -- of a tour
  pub expanded_tour : (r : List Bool) (w : List ℕ) → Filling 0 max_edges m (expanded_at marks (bytes_of_tour r) 0) w
      → w ≡ bytes_of_tour (spread_tour (kept marks) m r)
  unfolding bytes_of_tour
  expanded_tour r w h =
      filling_is 0 max_edges (expanded_at marks (bytes_of_tour r) 0) m w (λ j. bit (get_or (spread_tour (kept marks) m r) j false)) h
      (λ i l. at i l (kept marks (suc i)) refl)
      (λ i l. ap bit (get_or-eq_default (spread_tour (kept marks) m r) false (omega (arith, spread-size (kept marks) m false false r))))
    where
      at : (i : ℕ) → i < m → (b : Bool) → kept marks (suc i) ≡ b
          → cond b (get_or (bytes_of_tour r) (rank (kept marks) i) 0) 0 ≡ bit (get_or (spread_tour (kept marks) m r) i false)
      at i l true e =
          fill-at max_edges (λ j. bit (get_or r j false)) (rank (kept marks) i) 0 (omega (arith, rank_most (kept marks) i))
          ∙ ap bit (sym (spread-kept (kept marks) m false false r i l e))
      at i l false e = ap bit (sym (spread_rest (kept marks) m false false r i l e))

-- ---- of the first k edges, by a loop

abbrev pub ExpandedTo : List ℕ → List ℕ → ℕ → List ℕ → Type 0
ExpandedTo marks row k w = Filling 0 max_edges k (expanded_at marks row 0) w

module _ (marks row w : List ℕ) (k : ℕ) (h : ExpandedTo marks row k w) where
  -- an edge that is excluded
  pub expanded_skip : kept marks (suc k) ≡ false → ExpandedTo marks row (suc k) w
  expanded_skip e = record {
    size = h.size;
    new = λ j b. go j b (ℕ_discrete j k);
    past = λ j b. h.past j (omega arith);
  }
    where
      go : (j : ℕ) → j < suc k → Dec (j ≡ k) → get_or w j 0 ≡ expanded_at marks row 0 j
      go j b (yes q) = rw (q, e) (h.past k (omega arith))
      go j b (no q) = h.new j (omega arith)

  -- one that is not
  pub expanded_more : (f : ℕ) → k < max_edges → kept marks (suc k) ≡ true → f ≡ rank (kept marks) k
      → ExpandedTo marks row (suc k) (set w k (get_or row f 0))
  expanded_more f b y e =
      rw (← add-one k) (filling_more 0 max_edges (expanded_at marks row 0) k w (get_or row f 0) b (rw (y, e) refl) h)
