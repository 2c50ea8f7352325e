-- The loop keeps: the record runs, with the budget that is left, to what the first one runs to.
use Rattle.std.proofs.Common.{◌≡◌, ◌-◌, ◌+◌, inl, inr, arith}
use Rattle.search.specs.Runs.TopNode.{top_of_lem}
use Rattle.search.specs.ReplyCases.{IsOpen, opening_fits}
use Rattle.search.specs.Runs.Running.{graph_here, run_stops, run_spent, run_turn, run_begins}
use Rattle.search.proofs.Search.advance.Goals as goal
use Rattle.search.proofs.Search.advance.Goals.{then-self-eq0-via-then-self-eq0, then-self-eq0-via-else-self-eq0+then-self-ge-MAX_COUNT}

pub loop-init : goal.loop-init
loop-init c = run_begins c.args.self.now c.requires c.args.budget (c.args.budget - 0) (omega arith)

pub active_graph-afloat-requires : goal.active_graph-afloat-requires
active_graph-afloat-requires c = let o : IsOpen c.args.self.now = c.requires in opening_fits c.args.self.now o.typed o.passes o.opened

pub open_top-requires : goal.open_top-requires
open_top-requires c =
    let k = c.loop.invariant in
    let graph = graph_here _ _ _ _ k c.active_graph-afloat.result c.active_graph-afloat.ensures in
    (k.search, k.holds, top_of_lem _ _ k.holds (omega arith) (omega arith), graph)

pub loop-preserved : goal.loop-preserved
loop-preserved c =
    run_turn _ _ _ _ c.loop.invariant (c.args.budget - (c.loop.counter + 1)) (omega arith) (omega arith) (omega arith)
    c.active_graph-afloat.result c.active_graph-afloat.ensures _
    c.open_top.ensures

pub returns-after-loop : goal.returns-after-loop
returns-after-loop c = run_spent _ _ _ _ c.loop.invariant (omega (arith, c.loop-test.false))

pub returns-then-self-eq0 : goal.returns-then-self-eq0
returns-then-self-eq0 c = run_stops _ _ _ _ c.loop.invariant (elim c.then-self-eq0.branch [
  | then-self-eq0-via-then-self-eq0 v ↦ inl v.if-self-eq0.true
  | then-self-eq0-via-else-self-eq0+then-self-ge-MAX_COUNT v ↦ inr v.if-self-ge-MAX_COUNT.true
])
