-- The check that each node excludes what touches a vertex ashore, as its code goes: word by word, against the words of marks that exclude just that.
-- Assumes nothing.
use Rattle.std.specs.Prelude.{◌≡◌, refl, Bool, true, false, ◌&&◌, List, ℕ, suc, ◌+◌, ◌*◌, ◌/◌, ◌%◌, ◌≤◌, ◌<◌, length, get_or}
use Rattle.std.proofs.Common.{sym, ap, ap₂, ◌∙◌, subst, true≢false, arith}
use Rattle.std.proofs.Math.Decide.{dec_le}
use Rattle.std.proofs.Math.ListN.{get_or-eq_default}
use Rattle.std.specs.Int.Bits.{bit_and, and_lt}
use Rattle.lists.specs.Bools.{Says, says_both}
use Rattle.bits.specs.Digits.{bit_of, bit_ext}
use Rattle.bits.specs.Words.{and-bit}
use Rattle.bits.specs.Rows.{digit}
use Rattle.graph.specs.Limits.{max_edges}
use Rattle.graph.specs.Network.{free, required, excluded}
use Rattle.tree_theory.specs.OneTree.{Edges}
use Rattle.tree_theory.specs.Valid.{is_excluded}
use Rattle.machine.specs.Machine.{Marks}
use Rattle.machine.specs.Kept.{Off}
use Rattle.mark_rows.specs.MarkRows.{row_words, node_words, mark_bits, rows_of, marks_in_rows, SixWords}
use Rattle.mark_rows.specs.TwoRows.{excluded_row-at}
use Rattle.mark_rows.specs.SixWords.{excluded_bit, excluded_of, rows_small, mark_bits_lem}
use Rattle.search.specs.Record.{rows_at, marks_at}
use Rattle.search.specs.Words.Cells.{rows_at-size, rows_at_lem}
use Rattle.search.specs.Canonical.{StackStruck}
use Rattle.search.specs.Inverse.{Words}

-- the excluded row of l has every bit of that of t
abbrev pub Covers : List ℕ → List ℕ → Type 0
Covers l t = (i : ℕ) → i < row_words → bit_and (get_or l (row_words + i) 0) (get_or t (row_words + i) 0) ≡ get_or t (row_words + i) 0

and_left : (a b : Bool) → a && b ≡ b → b ≡ true → a ≡ true
and_left true b e h = refl
and_left false b e h = e ∙ h

and_same : (a b : Bool) → (b ≡ true → a ≡ true) → a && b ≡ b
and_same true b h = refl
and_same false true h = h refl
and_same false false h = refl

bits_excluded : (a b : Bool) → mark_bits a b ≡ excluded → b ≡ true
bits_excluded a true e = refl
bits_excluded true false e = absurd (let z : required ≡ excluded = e in cc)
bits_excluded false false e = absurd (let z : free ≡ excluded = e in cc)

-- against the words of the marks y, which exclude what is in c and nothing else
module _ (m : ℕ) (few : m ≤ max_edges) (y : Marks) (long : length y ≡ m) (c : Edges)
    (same : (k : ℕ) → k < m → is_excluded (get_or y k free) ≡ c (suc k)) where
  bit_there : (k : ℕ) → k < 64 * row_words → bit_of (get_or (rows_of y) (row_words + k / 64) 0) (k % 64) ≡ is_excluded (get_or y k free)
  bit_there k h =
      sym (excluded_bit (rows_of y) k h)
      ∙ ap (λ (r : List ℕ). digit r (suc k)) (excluded_of y)
      ∙ excluded_row-at row_words y (suc k) (omega arith) (omega arith)

  module _ (l : List ℕ) (six : SixWords l) where
    covers_off : Covers l (rows_of y) → Off m c (marks_in_rows m l)
    covers_off h k b e = mark_bits_lem m l k few b ∙ ap (mark_bits (bit_of (get_or l (k / 64) 0) (k % 64))) here
      where
        x : ℕ
        x = get_or l (row_words + k / 64) 0

        t : ℕ
        t = get_or (rows_of y) (row_words + k / 64) 0

        here : bit_of x (k % 64) ≡ true
        here =
            and_left (bit_of x (k % 64)) (bit_of t (k % 64))
            (sym (and-bit x t (k % 64)) ∙ ap (λ (z : ℕ). bit_of z (k % 64)) (h (k / 64) (omega arith)))
            (bit_there k (omega arith) ∙ same k b ∙ e)

    off_covers : Off m c (marks_in_rows m l) → Covers l (rows_of y)
    off_covers h i b =
        bit_ext 64 (bit_and x t) t (and_lt 64 x t (six.small (row_words + i) (omega arith)) (rows_small y (row_words + i) (omega arith)))
        (rows_small y (row_words + i) (omega arith))
        (λ j d. and-bit x t j ∙ and_same (bit_of x j) (bit_of t j) (λ e. at j d e))
      where
        x : ℕ
        x = get_or l (row_words + i) 0

        t : ℕ
        t = get_or (rows_of y) (row_words + i) 0

        at : (j : ℕ) → j < 64 → bit_of t j ≡ true → bit_of x j ≡ true
        at j d e = go (dec_le (suc k) m)
          where
            k : ℕ
            k = 64 * i + j

            word : k / 64 ≡ i
            word = omega arith

            digit_no : k % 64 ≡ j
            digit_no = omega arith

            struck : is_excluded (get_or y k free) ≡ true
            struck =
                sym (bit_there k (omega arith))
                ∙ ap₂ (λ (u v : ℕ). bit_of (get_or (rows_of y) (row_words + u) 0) v) word digit_no ∙ e

            go : Dec (k < m) → bit_of x j ≡ true
            go (yes q) =
                ap₂ (λ (u v : ℕ). bit_of (get_or l (row_words + u) 0) v) (sym word) (sym digit_no)
                ∙ bits_excluded _ _ (sym (mark_bits_lem m l k few q) ∙ h k q (sym (same k q) ∙ struck))
            go (no q) =
                absurd (true≢false (sym struck ∙ ap is_excluded (get_or-eq_default y free (omega (arith, long)))))

  -- of each node of the stack
  pub says_struck : (depth : ℕ) (l t : List ℕ) → Words l → t ≡ rows_of y → (b : Bool)
      → Says b ((p : ℕ) → p < depth → Covers (rows_at l p) t) → Says b (StackStruck m c depth l)
  unfolding marks_at
  says_struck depth l t small e b h =
      says_both b {P = (p : ℕ) → p < depth → Covers (rows_at l p) t} {Q = StackStruck m c depth l}
      (λ f p d. covers_off (rows_at l p) (six p) (subst (Covers (rows_at l p)) e (f p d)))
      (λ f p d. subst (Covers (rows_at l p)) (sym e) (off_covers (rows_at l p) (six p) (f p d))) h
    where
      six : (p : ℕ) → SixWords (rows_at l p)
      six p = record {
        size = rows_at-size l p;
        small = λ j d. rw (rows_at_lem l p j d) (small (node_words * p + j)).fits;
      }
