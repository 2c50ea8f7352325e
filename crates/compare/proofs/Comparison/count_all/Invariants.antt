-- The loop keeps: the first entries are the counts of the first pairs.
use Rattle.std.proofs.Common.{◌≡◌, ℕ, ◌<◌, length, get_or}
use Rattle.compare.specs.Comparison.{finishes, pair_opening}
use Rattle.compare.proofs.Comparison.count_all.Given as goal

abbrev pub invariant-loop-i : goal.invariant-loop-i
invariant-loop-i l =
    (length l.report ≡ length l.initial.report)
    × ((j : ℕ) → j < length l.yielded
    → get_or l.report j 0 ≡ finishes (pair_opening l.self.g.now l.self.multipliers.now l.self.ashore.now l.self.terms l.self.sweeps.now l.self.steps.now j)
    l.self.terms.budget)
