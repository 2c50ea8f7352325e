-- Each way out is one case of specs/Ceiling.antt: no 1-tree, the least one above the ceiling, and within it.
use Rattle.std.proofs.Common.{◌≡◌, refl, ◌∙◌, Bool, true, false, ⊎_elim, arith, to_z, of_z, w64}
use Rattle.std.proofs.lemmas.List.{length-map}
use Rattle.std.specs.Int.Signed.{lt_z}
use Rattle.integers.specs.Words.{back64}
use Rattle.integers.specs.Multiples.{◌times◌}
use Rattle.tree_theory.specs.Scaling.{tree_scaled}
use Rattle.tree_theory.specs.Spans.{Spans}
use Rattle.onetree.specs.Answers.{byte_of}
use Rattle.onetree.specs.Ceiling.{ceiling_missing, weighed_blank, ceiling_over, ceiling_within}
use Rattle.onetree.proofs.judge.Capped.judge.Goals.{After-top-top}
use Rattle.onetree.proofs.judge.Capped.judge.Goals as goal

-- the test against the bound, of the numbers as they are
compared : (c : After-top-top) (v : Bool) → lt_z (to_z w64 (of_z w64 c.top-top.result)) (to_z w64 (of_z w64 c.in_ok-found.found.bound)) ≡ v
    → lt_z (c.args.self.now.q.q times c.args.self.now.ceiling) c.in_ok-found.found.bound ≡ v
compared c v is =
    rw (back64 c.top-top.result c.top-top.type_inv, c.top-top.ensures, back64 c.in_ok-found.found.bound c.in_ok-found.ensures.fits) at is

pub returns-in_err-found : goal.returns-in_err-found
returns-in_err-found c =
    let me = c.args.self.now in
    let h = c.in_err-found.ensures in
    rw c.from_residual.ensures
    (ceiling_missing me.q.q me.checked.graph.now me.checked.multipliers.now (me.q.q times me.ceiling) c.least.new.lists h, h.weighed)

pub returns-then-top-found : goal.returns-then-top-found
returns-then-top-found c =
    let me = c.args.self.now in
    let h = c.in_ok-found.ensures in
    let over = compared (goal.at.returns-then-top-found c).After-top-top true c.if-top-found.true in
    rw c.forget_tree.ensures
    (ceiling_over me.q.q _ _ (me.q.q times me.ceiling) c.in_ok-found.found c.least.new.lists h over, weighed_blank me.q.q _ _ c.least.new.lists h.weighed)

pub rulings-requires : goal.rulings-requires
rulings-requires c =
    let t = c.in_ok-found.ensures in
    let spans : Spans c.args.self.now.checked.graph.now c.least.new.lists.tree = record {
      valid = c.args.self.now.checked.valid;
      tree = (tree_scaled c.args.self.now.q.q _ _).0 t.least.tree;
      bits = λ k. ⊎_elim (λ e. omega arith) (λ e. omega arith) (t.bits k);
    } in
    let checked = c.args.self.now.checked in
    record {
      spans = (spans, t.weighed.merges, refl);
      lists = record {
        merges = t.weighed.merges;
        cheap = λ k h. (t.weighed.charged k h).high;
        ranged = checked.ranged;
        size = checked.size;
        near = c.slack_of-slack.ensures.1;
      };
    }

pub returns : goal.returns
returns c =
    let me = c.args.self.now in
    let found = c.in_ok-found.found in
    let h = c.in_ok-found.ensures in
    let under = compared (goal.at.returns c).After-top-top false c.if-top-found.false in
    let slack = rw (back64 c.top-top.result c.top-top.type_inv, c.top-top.ensures, back64 found.bound h.fits) at c.slack_of-slack.ensures in (
      ceiling_within me.q.q _ _ (me.q.q times me.ceiling) found c.least.new.lists h c.args.lifting under
          _ slack.0 slack.1 _ c.rulings.ensures.0 (length-map _ byte_of ∙ c.rulings.ensures.1),
      h.hinted,
      h.weighed,
    )
