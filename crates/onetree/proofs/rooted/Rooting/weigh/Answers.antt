-- One label more is weighed.
use Rattle.std.proofs.Common.{◌≡◌, ◌<◌, ℕ, List, ◌∙◌, sym, ap, get_or, set, arith, length-set}
use Rattle.onetree.specs.declared.rooted.Rooting.{Rooting}
use Rattle.onetree.specs.HungTree.{queue_of}
use Rattle.onetree.specs.Verdicts.{charge_at}
use Rattle.onetree.specs.Candidates.{weighed_more}
use Rattle.onetree.proofs.rooted.Rooting.weigh.Goals.{After-from-v}
use Rattle.onetree.proofs.rooted.Rooting.weigh.Goals as goal

-- the label is the queue's at this place, and a vertex
queued : (c : After-from-v) → c.from-v.result ≡ get_or (queue_of c.args.self.now) c.loop-i.i 0
queued c = c.from-v.ensures ∙ ap (λ (l : List ℕ). get_or l c.loop-i.i 0) c.as_slice.ensures.value ∙ ap (λ (s : Rooting). get_or (queue_of s) c.loop-i.i 0) c.loop-i.invariant.2

small : (c : After-from-v) → c.from-v.result < 21
small c = c.requires.1.small _ (c.loop-i.i, omega arith, omega (arith, c.len-i-end.ensures.value), sym (queued c))

pub bounds-self-v : goal.bounds-self-v
bounds-self-v c = small (goal.at.bounds-self-v c).After-from-v

pub bounds-self-v-in-loop-i : goal.bounds-self-v-in-loop-i
bounds-self-v-in-loop-i c = small (goal.at.bounds-self-v-in-loop-i c).After-from-v

pub loop-i-preserved : goal.loop-i-preserved
loop-i-preserved c =
    let i = c.loop-i.invariant in
    let v = (goal.at.loop-i-preserved c).After-from-v in
    let edge = c.from.ensures ∙ ap (λ (s : Rooting). get_or s.edge c.from-v.result 0) i.2 in (
      length-set _ _ _ ∙ i.0,
      weighed_more _ c.args.charges.now c.args.self.now.edge _ _ _ (queued v) i.1 _ (omega (arith, small v, i.0)) (ap (charge_at c.args.charges.now) edge),
      ap (λ (s : Rooting). record s { weight = set c.loop-i.self.weight c.from-v.result (get_or c.args.charges.now c.from.result 0) }) i.2,
    )
