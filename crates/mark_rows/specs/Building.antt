-- A node's words made edge by edge, from the first to the last: at k the first k edges have their marks and the others are still free
-- (`partly`). (The edge at place k sets one bit at most, and no marks have no bits: proofs/Building.) Assumes nothing.
use Rattle.std.specs.Prelude.{◌≡◌, refl, List, ◌++◌, ℕ, zero, suc, ltb, length}
use Rattle.std.proofs.Common.{ap, ap₂, lt-ltb}
use Rattle.std.proofs.Math.Bool.{cond}
use Rattle.std.proofs.Math.ListN.{get_or}
use Rattle.lists.specs.Fill.{fill, fill-size, fill-same}
use Rattle.bits.proofs.Rows.{row_of-same}
use Rattle.graph.specs.Network.{Mark, free}
use Rattle.tree_theory.specs.Valid.{is_required, is_excluded}
use Rattle.machine.specs.Machine.{Marks}
use Rattle.mark_rows.specs.MarkRows.{mark_at, required_row, excluded_row, row_words, rows_of}

-- marks that are alike edge by edge, free past their ends, have the same words
pub rows_alike : (x y : Marks) → ((k : ℕ) → get_or x k free ≡ get_or y k free) → rows_of x ≡ rows_of y
unfolding rows_of required_row excluded_row
rows_alike x y h =
    ap₂ (λ (a b : List ℕ). a ++ b)
    (row_of-same row_words (λ k. is_required (mark_at x k)) (λ k. is_required (mark_at y k)) (λ k l u. ap is_required (at k)))
    (row_of-same row_words (λ k. is_excluded (mark_at x k)) (λ k. is_excluded (mark_at y k)) (λ k l u. ap is_excluded (at k)))
  where
    at : (k : ℕ) → mark_at x k ≡ mark_at y k
    at zero = refl
    at (suc k) = h k

-- ---- the marks f of m edges, of which the first k are there

unfoldable pub partly : ℕ → (ℕ → Mark) → ℕ → Marks
partly m f k = fill m (λ j. cond (ltb j k) (f j) free)

module _ (m : ℕ) (f : ℕ → Mark) where
  pub partly-size : (k : ℕ) → length (partly m f k) ≡ m
  unfolding partly
  partly-size k = fill-size m (λ j. cond (ltb j k) (f j) free)

  pub partly_all : partly m f m ≡ fill m f
  unfolding partly
  partly_all = fill-same m (λ j. cond (ltb j m) (f j) free) f (λ j h. rw (lt-ltb j m h))
