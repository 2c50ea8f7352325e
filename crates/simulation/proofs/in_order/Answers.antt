-- The loop keeps: what the walk says from this place on, with the flags as they are, is what it says of the whole list.
use Rattle.std.proofs.Common.{◌≡◌, ◌≤◌, true, length, Some, sym, ◌∙◌, arith, length-set, get_or}
use Rattle.graph.specs.Network.{Network, network}
use Rattle.tree_theory.specs.Arrays.{network-valid}
use Rattle.simulation.specs.Steps.{flagged, leads_to, leads_most, stuck, come_to_again, leads_on, walk_stops, walk_goes, walk_is, walked_all}
use Rattle.simulation.proofs.in_order.Goals.{In-Some}
use Rattle.simulation.proofs.in_order.Goals as goal

-- the edge leads to a vertex
most : (c : In-Some) → c.in-Some.v ≤ c.args.g.now.graph.now.n
unfolding network
most c =
    let g = c.args.g.now in
    leads_most (network g.graph.now) _ _ c.in-Some.v (sym c.leads.ensures ∙ c.in-Some.is) (network-valid g.graph.now g.valid)

pub returns-in_default : goal.returns-in_default
unfolding network
returns-in_default c =
    let l = c.loop-k in
    let g = network c.args.g.now.graph.now in
    sym (walk_is g c.args.edges.now c.requires
    ∙ walk_stops g c.args.edges.now l.met l.at l.k-index c.loop-k-test.true l.invariant.1
    (stuck g _ _ (flagged l.met) (sym c.leads.ensures ∙ c.in_default.is)))

pub bounds-met-place : goal.bounds-met-place
bounds-met-place c = omega (arith, most (goal.at.bounds-met-place c).In-Some, c.args.g.now.valid.high)

pub returns-then-replace : goal.returns-then-replace
unfolding network
returns-then-replace c =
    let l = c.loop-k in
    let g = network c.args.g.now.graph.now in
    sym (walk_is g c.args.edges.now c.requires
    ∙ walk_stops g c.args.edges.now l.met l.at l.k-index c.loop-k-test.true l.invariant.1
    (come_to_again g _ _ c.in-Some.v (sym c.leads.ensures ∙ c.in-Some.is) (flagged l.met) (sym (rw c.from-place.ensures at c.replace.ensures.value) ∙ c.if-replace.true)))

pub loop-k-preserved : goal.loop-k-preserved
unfolding network
loop-k-preserved c =
    let l = c.loop-k in
    let g : Network = network c.args.g.now.graph.now in
    let leads : leads_to g (get_or c.args.edges.now l.k-index 0) l.at ≡ Some c.in-Some.v = sym c.leads.ensures ∙ c.in-Some.is in
    let on = leads_on g _ _ c.in-Some.v leads (flagged l.met) (sym (rw c.from-place.ensures at c.replace.ensures.value) ∙ c.if-replace.false) in (
      rw c.replace.ensures.after (length-set l.met c.from-place.result true ∙ l.invariant.0),
      rw (c.replace.ensures.after, c.from-place.ensures) (walk_goes g c.args.edges.now l.met l.at l.k-index c.loop-k-test.true l.invariant.1 c.in-Some.v
          on.0 on.1 (omega (arith, most (goal.at.loop-k-preserved c).In-Some, l.invariant.0, c.args.g.now.valid.high))),
    )

pub returns : goal.returns
unfolding network
returns c =
    let l = c.loop-k in
    let all : l.k-index ≡ length c.args.edges.now = omega arith in
    sym (walked_all (network c.args.g.now.graph.now) c.args.edges.now c.requires l.met l.at (rw all at l.invariant.1))
