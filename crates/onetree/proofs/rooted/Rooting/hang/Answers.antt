-- The edges' two labels differ, so the lists can be walked, and what is hung from them is the tree.
use Rattle.std.proofs.Common.{◌≤◌, arith}
use Rattle.onetree.specs.HungTree.{HungTree, rooting_of, queue_of, count_of, ends_in, rows_in, hung_tree}
use Rattle.onetree.proofs.rooted.Rooting.hang.Goals.{After-walk}
use Rattle.onetree.proofs.rooted.Rooting.hang.Goals as goal

hung : (c : After-walk)
    → HungTree c.args.tree.now.graph.now c.args.tree.now.lists.now.tree c.args.tree.now.lists.now.labels (rooting_of c.walk.new.self) (queue_of c.walk.new.self) (count_of c.walk.new.self)
hung c =
    let p = c.requires in
    let h = c.walk.ensures in
    let low : 2 ≤ c.args.tree.now.graph.now.n = omega (arith, p.0.valid.low) in
    hung_tree _ _ _ _ _ p.0 p.1 p.2 _ c.fill.ensures _ _ _ (h.0 c.args.tree.now.graph.now.n low (rows_in _ _ _ _ _ p.0 p.1 p.2 _ c.fill.ensures)) h.1 h.2

pub fill-requires : goal.fill-requires
fill-requires c = let p = c.requires in (p.0, ends_in _ _ _ _ _ p.0 p.1 p.2, c.blank-listed.ensures.0, c.blank-listed.ensures.1)

pub walk-requires : goal.walk-requires
walk-requires c =
    let p = c.requires in
    ((c.args.tree.now.graph.now.n, omega (arith, p.0.valid.low), p.0.valid.high, rows_in _ _ _ _ _ p.0 p.1 p.2 _ c.fill.ensures), p.3)

pub weigh-requires : goal.weigh-requires
weigh-requires c = let t = hung (goal.at.weigh-requires c).After-walk in (t.some, t.each)

pub returns : goal.returns
returns c = let t = hung (goal.at.returns c).After-walk in rw c.weigh.ensures.1 (t, λ v b. c.weigh.ensures.0 v (t.queued v b))
