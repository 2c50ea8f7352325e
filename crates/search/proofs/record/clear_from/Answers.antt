-- A word has 64 bits; and below that the bits from bit `from` on are what the shift leaves.
use Rattle.std.proofs.Common.{rules}
use Rattle.search.specs.Checks.Loops.{says-le}
use Rattle.search.specs.Checks.Rows.{low_word, says_low}
use Rattle.search.proofs.record.clear_from.Goals as goal

pub returns-then-from-ge-WORD_BITS : goal.returns-then-from-ge-WORD_BITS
returns-then-from-ge-WORD_BITS c =
    let b = c.if-from-ge-WORD_BITS.true in says-le 64 c.args.from _ (λ h. low_word c.args.x c.args.from (search rules) h) (λ h. b)

pub returns-else-from-ge-WORD_BITS : goal.returns-else-from-ge-WORD_BITS
returns-else-from-ge-WORD_BITS c = says_low c.args.x c.args.from
