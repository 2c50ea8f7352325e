-- The small graph is refused nothing; what the call says of it is said over the vertices that are afloat.
use Rattle.std.proofs.Common.{◌≡◌, ◌∙◌, ◌≤◌, ◌++◌, ℕ, List, [], false, ℤ, Option, None, Some, Ok, true, length, take, replicate, sym, true≢false}
use Rattle.std.specs.Option.{is_some}
use Rattle.std.proofs.lemmas.Bool.{false≢true}
use Rattle.std.proofs.lemmas.List.{length-take-le}
use Rattle.std.proofs.Math.Facts.{to_z-of_z}
use Rattle.lists.specs.Rows.{row}
use Rattle.integers.specs.Multiples.{◌times◌}
use Rattle.graph.specs.declared.Graph.{Graph}
use Rattle.onetree.specs.Answers.{meaning, rule_reply, rule_leaves, rule_says, rule_writes}
use Rattle.reduction.specs.Answers.{tree_of, rulings_of}
use Rattle.reduction.specs.Left.{expanded}
use Rattle.reduction.specs.declared.left.Small.{Small}
use Rattle.reduction.specs.Made.{Made}
use Rattle.reduction.specs.Answered.{least, left_valid, few_vertices, few_multipliers, few_bytes, rule_asked, rule_lent, same_over, ours, rule_written, never_refused_over, none_writes_over}
use Rattle.reduction.proofs.rule_over.Goals as goal

-- the answer where a bound is told, and where none is
module _ (l : List ℕ) (g : Graph) (d : List ℤ) (q : ℕ) (t : Small) (ask : Made l g d t) (before after rest out : List ℕ) (ceiling : ℤ) where
  told : (o : Option ℤ) → is_some o ≡ true → meaning (Ok o) ≡ rule_says (q times ceiling) (least l g d q t ask)
      → after ≡ rule_writes t.left.m (q times ceiling) before (ours l g d q t ask before after rest ceiling) (least l g d q t ask)
      → row t.all.m (expanded t.all (after ++ rest) 4) ≡ rule_writes g.m (q times ceiling) out (rulings_of g d l ceiling q) (tree_of g d l q)
  told (Some b) e h w = rule_written l g d q t ask before after rest ceiling b h w out
  told None e h w = absurd (false≢true e)

  untold : (o : Option ℤ) → is_some o ≡ false → meaning (Ok o) ≡ rule_says (q times ceiling) (tree_of g d l q)
      → out ≡ rule_writes g.m (q times ceiling) out (rulings_of g d l ceiling q) (tree_of g d l q)
  untold (Some b) e h = absurd (true≢false e)
  untold None e h = none_writes_over g.m (q times ceiling) out (rulings_of g d l ceiling q) (tree_of g d l q) h

pub shared_ref_as_front-rule : goal.shared_ref_as_front-rule
shared_ref_as_front-rule c = few_vertices _ _ _ c.args.denominator _ c.new-small.ensures c.from-n.result c.from-n.ensures

pub slice_bounds-rule-end : goal.slice_bounds-rule-end
slice_bounds-rule-end c = sym (length-take-le _ _ (few_multipliers _ _ _ c.args.denominator _ c.new-small.ensures c.from-n.result c.from-n.ensures))

pub slice_bounds-bytes-end : goal.slice_bounds-bytes-end
slice_bounds-bytes-end c = few_bytes _ _ _ c.args.denominator _ c.new-small.ensures c.from-m.result c.from-m.ensures

pub slice_bounds-rule-end-2 : goal.slice_bounds-rule-end-2
slice_bounds-rule-end-2 c = sym
    (length-take-le c.from-m.result (replicate 190 0) (few_bytes _ _ _ c.args.denominator _ c.new-small.ensures c.from-m.result c.from-m.ensures))

pub returns-in_err-bound : goal.returns-in_err-bound
returns-in_err-bound c =
    let left = c.new-small.result.left in
    let d = take c.from-n.result c.new-small.result.multipliers in
    let lent : List ℕ = take c.from-m.result (replicate 190 0) in
    let back = to_z-of_z c.ranges.ceiling in
    let room : left.m ≤ 190 = (left_valid _ _ _ c.args.denominator _ c.new-small.ensures).few in
    let said : (meaning c.rule.result ≡ rule_reply left d c.args.ceiling c.args.denominator (length lent)) = rw back at c.rule.ensures.reply in
    let asked = said ∙ rule_asked _ _ _ c.args.denominator _ c.new-small.ensures c.from-n.result c.from-m.result (replicate 190 0) c.from-n.ensures
    c.from-m.ensures room c.requires.denominator c.args.ceiling c.requires.ceiling in
    absurd (never_refused_over _ _ (c.args.denominator times c.args.ceiling) (least _ _ _ c.args.denominator _ c.new-small.ensures)
    (rw c.in_err-bound.was at asked))

pub returns-then-is_some : goal.returns-then-is_some
returns-then-is_some c =
    let left = c.new-small.result.left in
    let d = take c.from-n.result c.new-small.result.multipliers in
    let lent : List ℕ = take c.from-m.result (replicate 190 0) in
    let back = to_z-of_z c.ranges.ceiling in
    let room : left.m ≤ 190 = (left_valid _ _ _ c.args.denominator _ c.new-small.ensures).few in
    let said : (meaning c.rule.result ≡ rule_reply left d c.args.ceiling c.args.denominator (length lent)) = rw back at c.rule.ensures.reply in
    let asked = said ∙ rule_asked _ _ _ c.args.denominator _ c.new-small.ensures c.from-n.result c.from-m.result (replicate 190 0) c.from-n.ensures
    c.from-m.ensures room c.requires.denominator c.args.ceiling c.requires.ceiling in
    let wrote : (c.rule.new.out ≡ rule_leaves left d c.args.ceiling c.args.denominator lent) = rw back at c.rule.ensures.left in
    let written = wrote ∙ rule_lent _ _ _ c.args.denominator _ c.new-small.ensures c.from-n.result c.from-m.result (replicate 190 0) c.from-n.ensures
    c.from-m.ensures room c.requires.denominator c.args.ceiling c.requires.ceiling in
    let answer = rw c.in_ok-bound.was at asked in
    record {
      reply = answer ∙ sym (same_over _ _ _ c.args.denominator _ c.new-small.ensures _);
      left = (rw c.from.ensures at c.expand.ensures)
          ∙ told _ _ _ c.args.denominator _ c.new-small.ensures lent c.rule.new.out _ c.args.out.now c.args.ceiling c.in_ok-bound.bound
          (sym c.is_some.ensures ∙ c.if-is_some.true) answer written;
    }

pub returns-else-is_some : goal.returns-else-is_some
returns-else-is_some c =
    let left = c.new-small.result.left in
    let d = take c.from-n.result c.new-small.result.multipliers in
    let lent : List ℕ = take c.from-m.result (replicate 190 0) in
    let back = to_z-of_z c.ranges.ceiling in
    let room : left.m ≤ 190 = (left_valid _ _ _ c.args.denominator _ c.new-small.ensures).few in
    let said : (meaning c.rule.result ≡ rule_reply left d c.args.ceiling c.args.denominator (length lent)) = rw back at c.rule.ensures.reply in
    let asked = said ∙ rule_asked _ _ _ c.args.denominator _ c.new-small.ensures c.from-n.result c.from-m.result (replicate 190 0) c.from-n.ensures
    c.from-m.ensures room c.requires.denominator c.args.ceiling c.requires.ceiling in
    let reply = (rw c.in_ok-bound.was at asked) ∙ sym (same_over _ _ _ c.args.denominator _ c.new-small.ensures _) in
    record {
      reply = reply;
      left = untold _ _ _ c.args.denominator _ c.new-small.ensures [] [] [] c.args.out.now c.args.ceiling c.in_ok-bound.bound
          (sym c.is_some.ensures ∙ c.if-is_some.false) reply;
    }
