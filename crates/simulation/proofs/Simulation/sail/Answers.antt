-- The loop keeps: the first i edges are sailed (specs/Steps); what each place of the list is known to have is in specs/Listed.
use Rattle.std.proofs.Common.{◌≡◌, ◌<◌, ◌+◌, ◌*◌, ℕ, refl, sym, ◌∙◌, arith, rules, length, length-set, get_or, ℤ, ◌+ℤ◌, to_z, w64}
use mir.Facts.{to_z-of_z}
use mir.Val.{SFits}
use Rattle.integers.specs.Parts.{mag_of_parts}
use Rattle.integers.specs.Range.{InRange}
use Rattle.integers.specs.Words.{back32, back64}
use Rattle.graph.specs.Limits.{max_cost}
use Rattle.graph.specs.Network.{network}
use Rattle.sailing.specs.Draws.{max_spread, delay}
use Rattle.sailing.specs.Totals.{add_range}
use Rattle.sailing.specs.Simulation.{times_of}
use Rattle.sailing.specs.Refusals.{no_fault}
use Rattle.simulation.specs.Listed.{Listed, listed_at, cost-at}
use Rattle.simulation.specs.Steps.{cost_in, sailed_none, sailed_next, sailed_all}
use Rattle.simulation.proofs.Simulation.sail.Goals.{In-loop-i}
use Rattle.simulation.proofs.Simulation.sail.Goals as goal

-- one more time is in the range of a word
sum_fits : (i : ℕ) (sum t : ℤ) → i < 20 → InRange ((max_cost + max_spread) * i) sum → InRange (max_cost + max_spread) t → SFits w64 (sum +ℤ t)
sum_fits i sum t few h k =
    let r = add_range ((max_cost + max_spread) * i) (max_cost + max_spread) sum t h k in
    record { sfits = mag_of_parts (sum +ℤ t) 9223372036854775808 (omega (arith, r.high, few)) (omega (arith, r.low, few)) }

listed : (c : In-loop-i)
    → Listed c.args.self.now.g.now c.args.self.now.edges.now c.args.self.now.student c.args.self.now.spread (length c.args.times.now) c.loop-i.i
listed c = listed_at _ _ _ _ _ c.requires c.loop-i.i c.loop-i-test.true

pub loop-i-init : goal.loop-i-init
loop-i-init c = (refl, sailed_none _ _ _ _ _)

pub next-drawn-requires : goal.next-drawn-requires
next-drawn-requires c =
    let edge = listed (goal.at.next-drawn-requires c).In-loop-i in
    omega (arith, edge.state, c.loop-i.invariant.1.state)

pub overflow_sub-k : goal.overflow_sub-k
overflow_sub-k c = (listed (goal.at.overflow_sub-k c).In-loop-i).low

pub offset_bounds-self-k : goal.offset_bounds-self-k
offset_bounds-self-k c =
    let edge = listed (goal.at.offset_bounds-self-k c).In-loop-i in
    record { fits = omega (arith, edge.high) }

pub bounds-self-k : goal.bounds-self-k
bounds-self-k c =
    let edge = listed (goal.at.bounds-self-k c).In-loop-i in
    omega (arith, edge.low, edge.high)

pub time-t-requires : goal.time-t-requires
time-t-requires c =
    let edge = listed (goal.at.time-t-requires c).In-loop-i in
    (rw (back32 (cost_in c.args.self.now.g.now.cost (get_or c.args.self.now.edges.now c.loop-i.i 0)) (search rules)) edge.cost, edge.spread, c.next-drawn.ensures.1)

pub bounds-times-i : goal.bounds-times-i
bounds-times-i c =
    let edge = listed (goal.at.bounds-times-i c).In-loop-i in
    omega (arith, edge.room, c.loop-i.invariant.0)

pub overflow_add-total : goal.overflow_add-total
overflow_add-total c =
    let edge = listed (goal.at.overflow_add-total c).In-loop-i in
    rw (back64 c.time-t.result c.time-t.type_inv)
    (sum_fits c.loop-i.i (to_z w64 c.loop-i.total-bits) c.time-t.result edge.few c.loop-i.invariant.1.range c.time-t.ensures.1)

pub loop-i-preserved : goal.loop-i-preserved
loop-i-preserved c =
    let l = c.loop-i in
    let edge = listed_at _ _ _ _ _ c.requires l.i c.loop-i-test.true in
    let k : ℕ = get_or c.args.self.now.edges.now l.i 0 in
    let time-is : c.time-t.result ≡ cost_in c.args.self.now.g.now.cost k +ℤ delay c.args.self.now.spread c.next-drawn.result = rw (back32 (cost_in c.args.self.now.g.now.cost k) (search rules)) at c.time-t.ensures.0 in
    let room : l.i < length l.times = omega (arith, edge.room, l.invariant.0) in
    rw (back64 c.time-t.result c.time-t.type_inv, to_z-of_z (sum_fits l.i (to_z w64 l.total-bits) c.time-t.result edge.few l.invariant.1.range c.time-t.ensures.1)) (
      length-set l.times l.i c.time-t.result ∙ l.invariant.0,
      sailed_next _ _ _ _ l.i l.times (to_z w64 l.total-bits) c.time-t.result l.state _ c.loop-i-test.true room l.invariant.1
          c.next-drawn.ensures.0 time-is c.time-t.ensures.1,
    )

pub returns : goal.returns
unfolding times_of
returns c =
    let l = c.loop-i in
    let f = no_fault _ _ _ _ _ c.requires in
    let edges = c.args.self.now.edges.now in
    let all : l.i ≡ length edges = omega arith in
    sailed_all c.args.self.now.g.now.cost edges c.args.self.now.student c.args.self.now.spread (network c.args.self.now.g.now).cost l.times (to_z w64 l.total-bits) l.state
    (l.invariant.0 ∙ f.times-size ∙ sym f.edges_size) (cost-at _ _ _ _ _ f) (rw all at l.invariant.1)
