-- One label more has its edge judged.
use Rattle.std.proofs.Common.{◌≡◌, ◌+◌, ◌<◌, ◌∙◌, sym, get_or, arith}
use Rattle.std.proofs.lemmas.List.{map-set, length-map}
use Rattle.onetree.specs.Answers.{byte_of, ruling_bytes}
use Rattle.onetree.specs.HungTree.{queue_of, count_of}
use Rattle.onetree.specs.Forcing.{forcing_more}
use Rattle.onetree.proofs.rulings.Judging.inside.Goals.{After-from-v}
use Rattle.onetree.proofs.rulings.Judging.inside.Goals as goal

-- the label is the queue's at one place more, since the root is left out; and it is a vertex
queued : (c : After-from-v) → c.from-v.result ≡ get_or (queue_of c.args.self.now.hung.now) (c.loop-v.v-index + 1) 0
queued c = c.from-v.ensures ∙ c.below_root-v-items.ensures.same c.loop-v.v-index c.loop-v-test.true

small : (c : After-from-v) → c.from-v.result < 21
small c =
    c.requires.below.each.small _ (c.loop-v.v-index + 1, omega arith, omega (arith, c.below_root-v-items.ensures.long), sym (queued c))

pub bounds-self-v : goal.bounds-self-v
bounds-self-v c = small (goal.at.bounds-self-v c).After-from-v

pub bounds-cheapest-v : goal.bounds-cheapest-v
bounds-cheapest-v c = small (goal.at.bounds-cheapest-v c).After-from-v

pub loop-v-preserved : goal.loop-v-preserved
loop-v-preserved c =
    let a = c.args in
    let rest = c.below_root-v-items.ensures in
    rw (map-set byte_of c.loop-v.res c.from-k.result _)
    (forcing_more (queue_of a.self.now.hung.now) a.self.now.tree.lists.now.charges a.self.now.hung.now.edge a.cheapest.now a.self.now.slack (ruling_bytes a.res.now) (ruling_bytes c.loop-v.res) (c.loop-v.v-index + 1) (count_of a.self.now.hung.now) _ _ _
    (omega arith) (omega (arith, rest.long)) (queued (goal.at.loop-v-preserved c).After-from-v) c.requires.below.each c.loop-v.invariant
    (length-map a.res.now byte_of ∙ c.told-res) c.from-k.ensures c.force.ensures)
