-- The list that the rule call is lent for its rulings is the first places of a longer list of zeros.
use Rattle.std.proofs.Common.{◌≡◌, ℕ, ℤ, List, length, take}
use Rattle.std.specs.Prelude.{replicate}
use Rattle.std.proofs.lemmas.List.{take-replicate}
use Rattle.graph.specs.declared.Graph.{Graph}
use Rattle.graph.specs.Limits.{max_edges}
use Rattle.graph.specs.Valid.{Valid}
use Rattle.onetree.specs.Answers.{Reply}
use Rattle.reduction.specs.Answers.{rule_reply_over, rule_leaves_over}
use Rattle.reports.specs.Zeros.{part_length}
use Rattle.reports.specs.Rulings.{zero_multipliers, all_afloat, plain_denominator, reply_text, rules_text}

pub rules_are : (g : Graph) → Valid g → (ceiling : ℤ) (reply : Reply) (left : List ℕ)
    → reply ≡ rule_reply_over g (zero_multipliers g) (all_afloat g) ceiling plain_denominator (length {A = ℕ} (take g.m (replicate max_edges 0)))
    → left ≡ rule_leaves_over g (zero_multipliers g) (all_afloat g) ceiling plain_denominator (take g.m (replicate max_edges 0))
    → rules_text ceiling g ≡ reply_text g ceiling reply left
unfolding rules_text
rules_are g v ceiling reply left p q =
    rw (p, q, part_length {A = ℕ} max_edges g.m 0 v.few, take-replicate {X = ℕ} g.m max_edges 0 v.few)
