-- The words and what is left of the list behind them are the list.
use Rattle.std.proofs.Common.{◌≡◌, ◌∙◌, ◌*◌, ◌/◌, ◌≤◌, ◌&&◌, true, false, true≢false, Bool, ℕ, List, length, drop, sym, ap, arith}
use Rattle.std.specs.List.{list_all}
use Rattle.std.specs.Simd.{first_chunks}
use Rattle.reduction.specs.Listed.{all_zero}
use Rattle.reduction.specs.Chunks.{zero_word, zeros_in}
use Rattle.reduction.proofs.vertices.all_afloat.Goals as goal

whole : (l : List ℕ) → list_all zero_word (first_chunks 8 (length l / 8) l) && all_zero (drop (length l / 8 * 8) l) ≡ all_zero l
whole l = zeros_in (length l / 8) (length l / 8 * 8) l (omega arith) (omega arith)

behind : (a b z : Bool) → a ≡ true → a && b ≡ z → b ≡ z
behind true b z h e = e
behind false b z h e = absurd (true≢false (sym h))

before : (a b z : Bool) → a ≡ false → a && b ≡ z → false ≡ z
before true b z h e = absurd (true≢false h)
before false b z h e = e

pub returns-then-words_zero : goal.returns-then-words_zero
returns-then-words_zero c =
    let l = c.args.bytes.now in
    let words = sym (c.words_zero.ensures ∙ ap (list_all zero_word) c.as_chunks.ensures.front) ∙ c.if-words_zero.true in
    c.bytes_zero.ensures ∙ ap all_zero c.as_chunks.ensures.back ∙ behind _ _ _ words (whole l)

pub returns-else-words_zero : goal.returns-else-words_zero
returns-else-words_zero c =
    let l = c.args.bytes.now in
    let words = sym (c.words_zero.ensures ∙ ap (list_all zero_word) c.as_chunks.ensures.front) ∙ c.if-words_zero.false in
    c.if-words_zero.false ∙ before _ _ _ words (whole l)
