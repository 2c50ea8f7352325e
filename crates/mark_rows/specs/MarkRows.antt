-- Document 02, C-19: "store a node's required legs in one row of 64-bit words and its struck legs in another, with no leg in both and every
-- bit past leg m clear". Edge k is bit (k − 1) % 64 of word (k − 1) / 64 of its row (`digit`, of crate bits). Definitions only.
--   required_row, excluded_row   the two rows of a node's marks, of any number of words
--   marks_in_pair                the marks of m edges in two rows
--   rows_of, marks_in_rows        the same with six words: three of the one row, then three of the other
--   SixWords, RowsFit          what six words are; what 24 asks of them
use Rattle.std.specs.Prelude.{◌≡◌, Bool, true, false, List, ◌∷◌, ◌++◌, ℕ, ◌+◌, ◌^◌, ◌<◌, length, get_or}
use Rattle.lists.specs.Rows.{row}
use Rattle.lists.specs.Fill.{fill, fit}
use Rattle.bits.specs.Rows.{digit, row_of}
use Rattle.bits.specs.Pairs.{Clear, Apart}
use Rattle.graph.specs.Network.{Mark, free, required, excluded}
use Rattle.tree_theory.specs.Valid.{is_required, is_excluded}
use Rattle.machine.specs.Machine.{Marks}

-- ---- rows of any number of words

-- edge k's mark, as the machine reads it
abbrev pub mark_at : Marks → ℕ → Mark
mark_at x k = get_or (free ∷ x) k free

-- "a node's required legs in one row"
unfoldable pub required_row : ℕ → Marks → List ℕ
unfolding row_of
required_row W x = row_of W (λ k. is_required (mark_at x k))

-- "and its struck legs in another"
unfoldable pub excluded_row : ℕ → Marks → List ℕ
unfolding row_of
excluded_row W x = row_of W (λ k. is_excluded (mark_at x k))

-- the mark of an edge by its bits in the two rows; both are set in no node, and count as excluded
abbrev pub mark_bits : Bool → Bool → Mark
mark_bits r true = excluded
mark_bits true false = required
mark_bits false false = free

-- the marks of m edges in two rows, whatever they hold; bits past m count for nothing
unfoldable pub marks_in_pair : ℕ → List ℕ → List ℕ → Marks
unfolding row digit
marks_in_pair m r s = row m (λ k. mark_bits (digit r k) (digit s k))

-- ---- the six words of a node

-- three words hold a bit for each of 190 edges
abbrev pub row_words : ℕ
row_words = 3

abbrev pub node_words : ℕ
node_words = 6

unfoldable pub rows_of : Marks → List ℕ
unfolding required_row excluded_row
rows_of x = required_row row_words x ++ excluded_row row_words x

-- the two rows in a node's words
unfoldable pub required_in : List ℕ → List ℕ
unfolding fit
required_in l = fit row_words 0 l

unfoldable pub excluded_in : List ℕ → List ℕ
unfolding fill
excluded_in l = fill row_words (λ i. get_or l (row_words + i) 0)

-- the marks of m edges in a node's words, for any six words
unfoldable pub marks_in_rows : ℕ → List ℕ → Marks
unfolding marks_in_pair required_in excluded_in
marks_in_rows m l = marks_in_pair m (required_in l) (excluded_in l)

-- six 64-bit words
pub record SixWords (l : List ℕ) : Type 0 where
  pub size : length l ≡ node_words
  pub small : (i : ℕ) → i < node_words → get_or l i 0 < 2 ^ 64

-- "with no leg in both and every bit past leg m clear; 24 tests both"
pub record RowsFit (m : ℕ) (l : List ℕ) : Type 0 where
  pub apart : Apart (required_in l) (excluded_in l)
  pub clear_required : Clear m (required_in l)
  pub clear_excluded : Clear m (excluded_in l)
