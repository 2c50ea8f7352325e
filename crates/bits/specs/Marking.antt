-- One digit of a row set, where it is clear, or cleared, where it is set: the word's power of two is added or taken off. (What that does
-- to the row is proved in proofs/Marking.) Assumes nothing.
use Rattle.std.specs.Prelude.{List, ℕ, ◌+◌, ◌-◌, ◌^◌, get_or, set}
use Rattle.bits.specs.Rows.{word_no, bit_no}

-- ---- set

unfoldable pub with_bit : List ℕ → ℕ → List ℕ
with_bit r k = set r (word_no k) (get_or r (word_no k) 0 + 2 ^ bit_no k)

unfoldable pub without_bit : List ℕ → ℕ → List ℕ
without_bit r k = set r (word_no k) (get_or r (word_no k) 0 - 2 ^ bit_no k)
