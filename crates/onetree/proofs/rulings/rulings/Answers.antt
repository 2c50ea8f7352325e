-- The tree is hung, so the loops are ready; specs/Ruled.antt says what they come to.
use Rattle.std.proofs.Common.{false}
use Rattle.swaps.specs.Swaps.{Below}
use Rattle.onetree.specs.Candidates.{BelowRoot}
use Rattle.onetree.specs.Outside.{Ready}
use Rattle.onetree.specs.Forcing.{forcing_as}
use Rattle.onetree.specs.HungTree.{rooting_of, queue_of, count_of}
use Rattle.onetree.specs.Answers.{ruling_bytes}
use Rattle.onetree.specs.Ruled.{RuledBy, ruled_by_lem}
use Rattle.onetree.proofs.rulings.rulings.Goals.{After-finish}
use Rattle.onetree.proofs.rulings.rulings.Goals as goal

-- the ordinary rulings
ordinary : (c : After-finish) → RuledBy false c.args.g.now c.args.multipliers.now c.args.lists.now.tree c.args.lists.now.charges c.args.slack
    (ruling_bytes c.finish.new.res)
ordinary c =
    let p = c.requires.spans in
    let l = c.args.lists.now in
    let h = c.hang.new.self in
    let t = c.hang.ensures.0 in
    let ready : Ready c.args.g.now l.tree l.charges l.labels (rooting_of h) h.weight c.of-near.result.dearest c.of-near.result.cheapest = record {
      valid = p.0.valid;
      tree = p.0.tree;
      rooted = t.rooted;
      weights = c.hang.ensures.1;
      one = c.of-near.ensures;
    } in
    ruled_by_lem _ _ _ _ (rooting_of h) _ _ _ ready _ _ _ c.outside.ensures _
    (forcing_as (BelowRoot (queue_of h) (count_of h)) (Below (rooting_of h)) _ _ _ _ _ _ t.below t.queued c.inside.ensures) c.args.multipliers.now _
    c.finish.ensures

pub lift-requires-clause-ruled : goal.lift-requires-clause-ruled
lift-requires-clause-ruled c = ordinary (goal.at.lift-requires-clause-ruled c).After-finish

pub returns-else-lifting : goal.returns-else-lifting
returns-else-lifting c = rw c.if-lifting.false (ordinary (goal.at.returns-else-lifting c).After-finish, c.finish.array_long)
