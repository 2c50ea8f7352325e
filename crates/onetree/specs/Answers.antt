-- What the tree call and the rule call answer, and what they leave in the lent list, for every input: refusals first, in document 01's
-- order, then by the least 1-tree. Multipliers and bounds count in q-ths of a minute, ceilings in minutes (document 02, C-17). The contracts cite
-- these. Definitions only.
use Rattle.std.specs.Prelude.{◌≡◌, ◌≤◌, Bool, map, not, cond, List, ℕ, zero, suc, leb, length, replicate, ℤ, Option, None, Some, Result, Ok, Err}
use Rattle.std.specs.Int.Signed.{lt_z}
use Rattle.lists.specs.Bools.{bit}
use Rattle.lists.specs.Rows.{row}
use Rattle.integers.specs.Multiples.{◌times◌}
use Rattle.graph.specs.declared.Graph.{Graph}
use Rattle.graph.specs.declared.refusals.Refusal.{Refusal}
use Rattle.graph.specs.Refusals.{number}
use Rattle.graph.specs.Limits.{max_edges}
use Rattle.graph.specs.Network.{network}
use Rattle.tree_theory.specs.OneTree.{Edges}
use Rattle.tree_theory.specs.Scaled.{scaled_by}
use Rattle.tree_theory.specs.Inputs.{multiplier, ceiling_fits, denominator_fault, input_fault}
use Rattle.tree_theory.specs.Arrays.{blank}
use Rattle.tree_theory.specs.Enumeration.{Tree, no_tree, a_tree, least_tree, Ruling, keeps, forces, bars, was_required, was_excluded, ruling}
use Rattle.greedy.specs.declared.Found.{Found}
use Rattle.greedy.specs.declared.Lists.{Lists}
use Rattle.greedy.specs.Hint.{Hinted}
use Rattle.greedy.specs.Least.{Weighed}
use Rattle.lifting.specs.Lifted.{ruling_with}
use Rattle.onetree.specs.declared.rulings.NoRuling.{NoRuling}
use Rattle.onetree.specs.declared.rulings.Ruling as code
use Rattle.onetree.specs.declared.rulings.Ruling.TheVariants as variant

-- ---- the answers' meaning

-- "the number and a place" of a refusal, "no tree" or "dead", or "the bound"
pub data Reply : Type 0 where
  refused : ℕ → ℕ → Reply
  none : Reply
  bounded : ℤ → Reply

-- of the tree call, the rule call and the preview: a place is told by other calls alone
abbrev pub meaning : Result (Option ℤ) Refusal → Reply
meaning (Ok None) = none
meaning (Ok (Some b)) = bounded b
meaning (Err r) = refused (number r) 0

-- of a pass
abbrev pub pass_meaning : Result (Option Found) Refusal → Reply
pass_meaning (Ok None) = none
pass_meaning (Ok (Some found)) = bounded found.bound
pass_meaning (Err r) = refused (number r) 0

-- ---- refusals

-- C-17: "32 when q is out of range", the last
unfoldable pub tree_fault : Graph → List ℤ → ℕ → ℕ → ℕ
unfolding input_fault
tree_fault g d q len = input_fault g d len (denominator_fault q)

-- "13 ceiling"
unfoldable pub rule_fault : Graph → List ℤ → ℤ → ℕ → ℕ → ℕ
unfolding input_fault
rule_fault g d ceiling q len = input_fault g d len (cond (not (ceiling_fits ceiling)) 13 (denominator_fault q))

-- a fault is refused, with place 0 ("otherwise 0"); without one the reply is r
abbrev pub unless_fault : ℕ → Reply → Reply
unless_fault zero r = r
unless_fault (suc fault) r = refused (suc fault) 0

-- a fault leaves the lent list as it was
abbrev pub leaves : ℕ → List ℕ → List ℕ → List ℕ
leaves zero out after = after
leaves (suc fault) out after = out

-- ---- the tree call

abbrev pub tree_says : Tree → Reply
tree_says no_tree = none
tree_says (a_tree b t) = bounded b

-- "in a lent list one byte a leg, 1 in, 0 out; with 'no tree' the list is unchanged"
abbrev pub tree_writes : ℕ → List ℕ → Tree → List ℕ
tree_writes m out no_tree = out
tree_writes m out (a_tree b t) = row m (λ k. bit (t k))

-- "The tree call gives the 1-tree of least bound"; "'No tree' is given exactly when none exists."
unfoldable pub tree_reply : Graph → List ℤ → ℕ → ℕ → Reply
unfolding tree_fault
tree_reply g d q len = unless_fault (tree_fault g d q len) (tree_says (least_tree (scaled_by q (network g)) (multiplier d)))

unfoldable pub tree_leaves : Graph → List ℤ → ℕ → List ℕ → List ℕ
unfolding tree_fault
tree_leaves g d q out = leaves (tree_fault g d q (length out)) out (tree_writes g.m out (least_tree (scaled_by q (network g)) (multiplier d)))

-- ---- the rule call

-- "'Dead' means no 1-tree has a bound at or below the ceiling"
abbrev pub rule_says : ℤ → Tree → Reply
rule_says ceiling no_tree = none
rule_says ceiling (a_tree b t) = cond (lt_z ceiling b) none (bounded b)

-- "0 keep, 1 force, 2 bar, 3 already required, 4 already struck"
abbrev pub ruling_byte : Ruling → ℕ
ruling_byte keeps = 0
ruling_byte forces = 1
ruling_byte bars = 2
ruling_byte was_required = 3
ruling_byte was_excluded = 4

-- the same of the code's rulings, of a list of them, and back
abbrev pub byte_of : code.Ruling → ℕ
byte_of variant.Keep = 0
byte_of variant.Force = 1
byte_of variant.Bar = 2
byte_of variant.WasRequired = 3
byte_of variant.WasExcluded = 4

abbrev pub ruling_bytes : List code.Ruling → List ℕ
ruling_bytes l = map byte_of l

abbrev pub RulingOf : ℕ → Result code.Ruling NoRuling → Type 0
RulingOf byte (Ok r) = (byte_of r ≡ byte)
RulingOf byte (Err n) = (5 ≤ byte) × (n.0 ≡ byte)

-- 'keep' at every place
abbrev pub all_keep : List code.Ruling
all_keep = replicate max_edges variant.Keep

-- "the lent list is then unchanged. Otherwise it gives the bound, and one ruling per leg in a lent list"
abbrev pub rule_writes : ℕ → ℤ → List ℕ → (ℕ → Ruling) → Tree → List ℕ
rule_writes m ceiling out rulings no_tree = out
rule_writes m ceiling out rulings (a_tree b t) = cond (lt_z ceiling b) out (row m (λ k. ruling_byte (rulings k)))

-- C-17: "the bound is scaled likewise, and it is compared with q × ceiling"
unfoldable pub rule_reply : Graph → List ℤ → ℤ → ℕ → ℕ → Reply
unfolding rule_fault
rule_reply g d ceiling q len =
    unless_fault (rule_fault g d ceiling q len) (rule_says (q times ceiling) (least_tree (scaled_by q (network g)) (multiplier d)))

unfoldable pub rule_leaves : Graph → List ℤ → ℤ → ℕ → List ℕ → List ℕ
unfolding rule_fault
rule_leaves g d ceiling q out =
    leaves (rule_fault g d ceiling q (length out)) out
    (rule_writes g.m (q times ceiling) out (ruling (scaled_by q (network g)) (multiplier d) (q times ceiling))
    (least_tree (scaled_by q (network g)) (multiplier d)))

-- ---- the combined pass of a search: the tree and the rulings from one 1-tree, in lent arrays

-- the values of the edges 1 to m, and 0 past them
unfoldable pub padded : ℕ → (ℕ → ℕ) → List ℕ
padded m f = row max_edges (λ k. cond (leb k m) (f k) 0)

-- 'no tree' and 'dead' leave it blank
abbrev pub pass_writes : ℕ → ℤ → (Edges → ℕ → ℕ) → Tree → List ℕ
pass_writes m ceiling f no_tree = blank
pass_writes m ceiling f (a_tree b t) = cond (lt_z ceiling b) blank (padded m (f t))

-- the bytes of the tree call; "a refusal leaves each lent list .. unchanged"
unfoldable pub pass_tree : Graph → List ℤ → ℤ → ℕ → List ℕ → List ℕ
unfolding rule_fault
pass_tree g d ceiling q out =
    leaves (rule_fault g d ceiling q g.m) out
    (pass_writes g.m (q times ceiling) (λ t k. bit (t k)) (least_tree (scaled_by q (network g)) (multiplier d)))

-- the bytes of the rule call, with lifting or without. C-13: "Lifted rulings are applied with the pass's own"
unfoldable pub pass_rulings : Graph → List ℤ → ℤ → ℕ → Bool → List ℕ → List ℕ
unfolding rule_fault ruling_with
pass_rulings g d ceiling q lifting out =
    leaves (rule_fault g d ceiling q g.m) out
    (pass_writes g.m (q times ceiling) (λ t k. ruling_byte (ruling_with lifting (scaled_by q (network g)) (multiplier d) (q times ceiling) k))
    (least_tree (scaled_by q (network g)) (multiplier d)))

-- what a pass leaves in the list that it is lent for a hint: a refusal leaves it as it was
abbrev pub HintAfter : Result (Option Found) Refusal → List ℕ → ℕ → List ℕ → List ℕ → Type 0
HintAfter (Err r) marks m out order = (order ≡ out)
HintAfter (Ok None) marks m out order = (order ≡ blank)
HintAfter (Ok (Some found)) marks m out order = Hinted marks m order found.live

-- and in the charges and the labels: each edge's charge and each vertex's label, by whatever tree
abbrev pub WeighedAfter : ℕ → Graph → List ℤ → Lists → Result (Option Found) Refusal → Lists → Type 0
WeighedAfter q g d before (Err r) after = (after.charges ≡ before.charges) × (after.labels ≡ before.labels)
WeighedAfter q g d before (Ok found) after = Weighed q g d after
