-- The small graph is refused nothing; what the call says of it is said over the vertices that are afloat.
use Rattle.std.proofs.Common.{◌≡◌, ◌∙◌, ◌≤◌, ◌++◌, ℕ, List, [], false, ℤ, Option, None, Some, Ok, true, length, take, replicate, sym, true≢false}
use Rattle.std.specs.Option.{is_some}
use Rattle.std.proofs.lemmas.Bool.{false≢true}
use Rattle.std.proofs.lemmas.List.{length-take-le}
use Rattle.lists.specs.Rows.{row}
use Rattle.graph.specs.declared.Graph.{Graph}
use Rattle.onetree.specs.Answers.{meaning, tree_reply, tree_leaves, tree_says, tree_writes}
use Rattle.reduction.specs.Answers.{tree_of}
use Rattle.reduction.specs.Left.{expanded}
use Rattle.reduction.specs.declared.left.Small.{Small}
use Rattle.reduction.specs.Made.{Made}
use Rattle.reduction.specs.Answered.{least, left_valid, few_vertices, few_multipliers, few_bytes, tree_asked, tree_lent, same_says, tree_written, never_refused, none_writes}
use Rattle.reduction.proofs.tree_over.Goals as goal

-- the answer where a bound is told, and where none is
module _ (l : List ℕ) (g : Graph) (d : List ℤ) (q : ℕ) (t : Small) (ask : Made l g d t) (before after rest out : List ℕ) where
  told : (o : Option ℤ) → is_some o ≡ true → meaning (Ok o) ≡ tree_says (least l g d q t ask) → after ≡ tree_writes t.left.m before (least l g d q t ask)
      → row t.all.m (expanded t.all (after ++ rest) 0) ≡ tree_writes g.m out (tree_of g d l q)
  told (Some b) e h w = tree_written l g d q t ask before after rest b h w out
  told None e h w = absurd (false≢true e)

  untold : (o : Option ℤ) → is_some o ≡ false → meaning (Ok o) ≡ tree_says (tree_of g d l q) → out ≡ tree_writes g.m out (tree_of g d l q)
  untold (Some b) e h = absurd (true≢false e)
  untold None e h = none_writes g.m out (tree_of g d l q) h

pub shared_ref_as_front-tree : goal.shared_ref_as_front-tree
shared_ref_as_front-tree c = few_vertices _ _ _ c.args.denominator _ c.new-small.ensures c.from-n.result c.from-n.ensures

pub slice_bounds-tree-end : goal.slice_bounds-tree-end
slice_bounds-tree-end c = sym (length-take-le _ _ (few_multipliers _ _ _ c.args.denominator _ c.new-small.ensures c.from-n.result c.from-n.ensures))

pub slice_bounds-bytes-end : goal.slice_bounds-bytes-end
slice_bounds-bytes-end c = few_bytes _ _ _ c.args.denominator _ c.new-small.ensures c.from-m.result c.from-m.ensures

pub slice_bounds-tree-end-2 : goal.slice_bounds-tree-end-2
slice_bounds-tree-end-2 c = sym
    (length-take-le c.from-m.result (replicate 190 0) (few_bytes _ _ _ c.args.denominator _ c.new-small.ensures c.from-m.result c.from-m.ensures))

pub returns-in_err-bound : goal.returns-in_err-bound
returns-in_err-bound c =
    let left = c.new-small.result.left in
    let d = take c.from-n.result c.new-small.result.multipliers in
    let lent : List ℕ = take c.from-m.result (replicate 190 0) in
    let room : left.m ≤ 190 = (left_valid _ _ _ c.args.denominator _ c.new-small.ensures).few in
    let said : (meaning c.tree.result ≡ tree_reply left d c.args.denominator (length lent)) = c.tree.ensures.reply in
    let asked = said ∙ tree_asked _ _ _ c.args.denominator _ c.new-small.ensures c.from-n.result c.from-m.result (replicate 190 0) c.from-n.ensures
    c.from-m.ensures room c.requires.denominator in
    absurd (never_refused _ _ _ (rw c.in_err-bound.was at asked))

pub returns-then-is_some : goal.returns-then-is_some
returns-then-is_some c =
    let left = c.new-small.result.left in
    let d = take c.from-n.result c.new-small.result.multipliers in
    let lent : List ℕ = take c.from-m.result (replicate 190 0) in
    let room : left.m ≤ 190 = (left_valid _ _ _ c.args.denominator _ c.new-small.ensures).few in
    let said : (meaning c.tree.result ≡ tree_reply left d c.args.denominator (length lent)) = c.tree.ensures.reply in
    let asked = said ∙ tree_asked _ _ _ c.args.denominator _ c.new-small.ensures c.from-n.result c.from-m.result (replicate 190 0) c.from-n.ensures
    c.from-m.ensures room c.requires.denominator in
    let wrote : (c.tree.new.out ≡ tree_leaves left d c.args.denominator lent) = c.tree.ensures.left in
    let written = wrote ∙ tree_lent _ _ _ c.args.denominator _ c.new-small.ensures c.from-n.result c.from-m.result (replicate 190 0) c.from-n.ensures
    c.from-m.ensures room c.requires.denominator in
    let answer = rw c.in_ok-bound.was at asked in
    record {
      reply = answer ∙ sym (same_says _ _ _ c.args.denominator _ c.new-small.ensures);
      left = c.expand.ensures
          ∙ told _ _ _ c.args.denominator _ c.new-small.ensures lent c.tree.new.out _ c.args.out.now c.in_ok-bound.bound
          (sym c.is_some.ensures ∙ c.if-is_some.true) answer written;
    }

pub returns-else-is_some : goal.returns-else-is_some
returns-else-is_some c =
    let left = c.new-small.result.left in
    let d = take c.from-n.result c.new-small.result.multipliers in
    let lent : List ℕ = take c.from-m.result (replicate 190 0) in
    let room : left.m ≤ 190 = (left_valid _ _ _ c.args.denominator _ c.new-small.ensures).few in
    let said : (meaning c.tree.result ≡ tree_reply left d c.args.denominator (length lent)) = c.tree.ensures.reply in
    let asked = said ∙ tree_asked _ _ _ c.args.denominator _ c.new-small.ensures c.from-n.result c.from-m.result (replicate 190 0) c.from-n.ensures
    c.from-m.ensures room c.requires.denominator in
    let reply = (rw c.in_ok-bound.was at asked) ∙ sym (same_says _ _ _ c.args.denominator _ c.new-small.ensures) in
    record {
      reply = reply;
      left = untold _ _ _ c.args.denominator _ c.new-small.ensures [] [] [] c.args.out.now c.in_ok-bound.bound
          (sym c.is_some.ensures ∙ c.if-is_some.false) reply;
    }
