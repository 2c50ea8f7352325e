-- The check of a node's rows, as its code goes: word by word, and the set bits of the required row. Assumes nothing.
use Rattle.std.specs.Prelude.{◌≡◌, ℕ, ◌+◌, ◌*◌, ◌/◌, ◌%◌, ◌^◌, ◌≤◌, ◌<◌, eqb, leb, length, get_or, take}
use Rattle.std.proofs.Common.{sym, ◌∙◌, subst, lt_of_lt_of_le, mod-lt, arith, pow_mono, pow_pos}
use Rattle.std.proofs.Math.Path.{ap}
use mathlib.Core.List.{List, [], ◌∷◌, map}
use lib.Count.{ones-le}
use Rattle.std.specs.List.{sum}
use Rattle.std.proofs.Math.Nat.{div-add-mod, div-eq_of_lt}
use Rattle.std.specs.Int.Count.{ones}
use Rattle.lists.specs.Bools.{Says}
use Rattle.lists.specs.Fill.{fill, fit}
use Rattle.lists.specs.Rows.{row}
use Rattle.lists.specs.Weights.{weight}
use Rattle.graph.specs.Limits.{max_edges}
use Rattle.machine.specs.Requireds.{requireds}
use Rattle.bits.specs.Rows.{row_ones}
use Rattle.mark_rows.specs.MarkRows.{row_words, node_words, required_in, marks_in_rows, SixWords, RowsFit}
use Rattle.mark_rows.specs.SixWords.{WordsFit, words-fit, requireds_rows}
use Rattle.search.specs.Record.{rows_at, marks_at}
use Rattle.search.specs.Words.Cells.{rows_at-size}
use Rattle.search.specs.Canonical.{NodeFits}
use Rattle.search.specs.Checks.Loops.{says-le, says_eq}

-- ---- a word whose bits from bit n on are clear

pub low_word : (x n : ℕ) → x < 2 ^ 64 → 64 ≤ n → x < 2 ^ n
low_word x n h b = lt_of_lt_of_le h (pow_mono {i = 64} {j = n} b)

pub says_low : (x n : ℕ) → Says (eqb (x / 2 ^ n) 0) (x < 2 ^ n)
says_low x n = says_eq (x / 2 ^ n) 0 (x < 2 ^ n) low (λ h. div-eq_of_lt h)
  where
    low : x / 2 ^ n ≡ 0 → x < 2 ^ n
    low e =
        let d : 2 ^ n * 0 + x % 2 ^ n ≡ x = (rw e at (div-add-mod x (2 ^ n))) in
        omega (arith, d, mod-lt x {m = 2 ^ n} (pow_pos n))

-- ---- the set bits of the required row: the sum over its words, each of at most 64

pub ones_summed : (l : List ℕ) → row_words ≤ length l → sum (map ones (take row_words l)) ≡ row_ones (required_in l)
unfolding required_in fit fill row weight
ones_summed [] h = absurd (omega arith)
ones_summed (x ∷ []) h = absurd (omega arith)
ones_summed (x ∷ y ∷ []) h = absurd (omega arith)
ones_summed (x ∷ y ∷ z ∷ rest) h = omega arith

pub ones_few : (l : List ℕ) → row_words ≤ length l → ((i : ℕ) → get_or l i 0 < 2 ^ 64) → sum (map ones (take row_words l)) < 2 ^ 32
ones_few [] h small = absurd (omega arith)
ones_few (x ∷ []) h small = absurd (omega arith)
ones_few (x ∷ y ∷ []) h small = absurd (omega arith)
ones_few (x ∷ y ∷ z ∷ rest) h small = omega (arith, ones-le 64 x (small 0), ones-le 64 y (small 1), ones-le 64 z (small 2))

-- ---- node p, whose words are x

module _ (m p : ℕ) (l x : List ℕ) (few : m ≤ max_edges) (e : x ≡ rows_at l p) (small : (i : ℕ) → i < node_words → get_or x i 0 < 2 ^ 64) where
  six : SixWords x
  six = record { size = ap length e ∙ rows_at-size l p; small = small }

  pub node_words_lem : NodeFits m l p → WordsFit m x
  node_words_lem h = (words-fit m x six).0 (subst (RowsFit m) (sym e) h.0)

  -- the last test
  pub says_node : (k : ℕ) → k ≡ row_ones (required_in x) → WordsFit m x → Says (leb p k) (NodeFits m l p)
  says_node k q w = says-le p k (NodeFits m l p) (λ h. (fits, omega (arith, q, counted))) (λ h. omega (arith, q, counted, h.1))
    where
      fits : RowsFit m (rows_at l p)
      fits = subst (RowsFit m) e ((words-fit m x six).1 w)

      counted : requireds (marks_at m l p) ≡ row_ones (required_in x)
      counted =
          unfold marks_at in
          ap (λ (y : List ℕ). requireds (marks_in_rows m y)) (sym e) ∙ requireds_rows m x few six ((words-fit m x six).1 w)
