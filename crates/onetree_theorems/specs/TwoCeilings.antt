-- DOCUMENT 02, C-15: "For one chart and one set of dues and any two ceilings, every leg barred or forced under the higher is ruled the same
-- under the lower, unless the lower is dead." Stated of the replies and bytes that the contract of `rule` cites (reduction/specs/Answers), for
-- every graph value, multipliers, list of vertices ashore, ceilings, denominator and lent lists. Statement only: LowerCeiling proves it where
-- low ≤ high (`nothing_comes_back`).
use Rattle.std.specs.Prelude.{◌≡◌, ◌⊎◌, List, ℕ, ◌-◌, ◌≤◌, length, get_or, ℤ}
use Rattle.integers.specs.Range.{InRange}
use Rattle.graph.specs.declared.Graph.{Graph}
use Rattle.graph.specs.Limits.{max_ceiling}
use Rattle.onetree.specs.Answers.{Reply, refused, none, bounded}
use Rattle.reduction.specs.Answers.{rule_reply_over, rule_leaves_over}

-- the call gave rulings: it neither refused nor said 'dead'
abbrev pub GaveRulings : Reply → Type 0
GaveRulings (refused number place) = ⊥
GaveRulings none = ⊥
GaveRulings (bounded b) = Unit {0}

-- "barred or forced": 1 force, 2 bar
abbrev pub IsRuled : ℕ → Type 0
IsRuled byte = (byte ≡ 1) ⊎ (byte ≡ 2)

-- two calls on one chart g with the multipliers d in q-ths of a minute and one list l of the vertices ashore: one at the ceiling `low`, which is lent
-- `out`, and one at `high`, which is lent `other`
pub record NothingComesBack (g : Graph) (d : List ℤ) (l : List ℕ) (low high : ℤ) (q : ℕ) (out other : List ℕ) : Type 0 where
  -- "every leg barred or forced under the higher is ruled the same under the lower, unless the lower is dead": edge k's byte stands at
  -- place k − 1
  pub ruled_the_same : GaveRulings (rule_reply_over g d l low q (length out)) → GaveRulings (rule_reply_over g d l high q (length other)) → (k : ℕ) → 1 ≤ k
      → k ≤ g.m → IsRuled (get_or (rule_leaves_over g d l high q other) (k - 1) 0)
      → get_or (rule_leaves_over g d l low q out) (k - 1) 0 ≡ get_or (rule_leaves_over g d l high q other) (k - 1) 0
  -- where the lower gives rulings, so does any higher that is a ceiling, with the same bound
  pub same_bound : GaveRulings (rule_reply_over g d l low q (length out)) → length other ≡ length out → InRange max_ceiling high
      → rule_reply_over g d l high q (length other) ≡ rule_reply_over g d l low q (length out)
  -- and where the higher is dead, so is any lower that is a ceiling
  pub stays_dead : rule_reply_over g d l high q (length other) ≡ none → length out ≡ length other → InRange max_ceiling low
      → rule_reply_over g d l low q (length out) ≡ none
