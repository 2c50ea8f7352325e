-- What the loops over the edges rest on: the tree, hung, in the code's arrays. Assumes nothing.
use Rattle.swaps.specs.RootedTree.{Labelled}
use Rattle.onetree.specs.declared.rulings.Judging.{Judging}
use Rattle.onetree.specs.HungTree.{HungTree, rooting_of, queue_of, count_of}
use Rattle.onetree.specs.Outside.{Ready}

pub record ReadyToJudge (j : Judging) : Type 0 where
  pub ready : Ready j.tree.graph.now j.tree.lists.now.tree j.tree.lists.now.charges j.tree.lists.now.labels (rooting_of j.hung.now) j.hung.now.weight
      j.near.dearest j.near.cheapest
  pub labelled : Labelled j.tree.graph.now j.tree.lists.now.labels j.ends.now.from j.ends.now.to
  pub below : HungTree j.tree.graph.now j.tree.lists.now.tree j.tree.lists.now.labels (rooting_of j.hung.now) (queue_of j.hung.now) (count_of j.hung.now)
