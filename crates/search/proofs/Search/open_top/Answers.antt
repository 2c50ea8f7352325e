-- The node that is read is the machine's top node; each fate leaves the record that its law says.
use Rattle.std.proofs.Common.{rules, ◌≡◌, refl, ap, ◌∙◌, ℕ, ◌-◌, ◌+◌, ◌*◌, ◌≤◌, List, length, get_or, Result, Ok, Err, ℤ, pos, Bor, arith}
use Rattle.std.specs.Prelude.{Option, None, Some, unwrap_or}
use Rattle.std.specs.Option.{option_copied}
use Rattle.std.specs.Result.{IsOk}
use Rattle.lists.specs.Fill.{fill}
use Rattle.integers.specs.Words.{back64}
use Rattle.graph.specs.Limits.{max_vertices}
use Rattle.graph.specs.declared.refusals.Refusal.{Refusal}
use Rattle.graph.specs.Refusals.{number}
use Rattle.graph.specs.declared.Graph.{Graph}
use Rattle.graph.specs.Network.{network}
use Rattle.machine.specs.Machine.{Progress, active_network, open_node}
use Rattle.mark_rows.specs.MarkRows.{node_words}
use Rattle.node.specs.declared.Fate.{Fate}
use Rattle.node.specs.declared.Workspace.{Workspace}
use Rattle.node.specs.Opened.{meaning, opened, opened_as, marked, taken, opens}
use Rattle.search.specs.declared.Search.{Search}
use Rattle.search.specs.Record.{rows_at, multipliers_at}
use Rattle.search.specs.Runs.ActiveGraph.{GraphIs}
use Rattle.search.specs.Runs.TopNode.{Holds, Top, with_ceiling, holds_mag, holds_size, holds_carried-size, holds_graph, holds_valid, top_depth, top-high, top-room, opens_is, not_refused, next_closes, next_finds, next_splits, split_room}
use Rattle.search.proofs.Search.open_top.Goals as goal
use Rattle.search.proofs.Search.open_top.Goals.{After-open}

rows_read : (x l : List ℕ) (p : ℕ) → x ≡ fill node_words (λ j. get_or l (node_words * p + j) 0) → x ≡ rows_at l p
unfolding rows_at
rows_read x l p e = e

multipliers_read : (d e : List ℤ) (p : ℕ) → d ≡ fill max_vertices (λ j. get_or e (max_vertices * p + j) (pos 0)) → d ≡ multipliers_at max_vertices e p
unfolding multipliers_at
multipliers_read d e p q = q

module _ (r : Search) (s : Progress) (h : Holds r s) (t : Top s) where
  -- what the opening on the graph q comes to is what the machine's comes to
  came : (q : Graph) → network q ≡ active_network s.opening → (x : List ℕ) (d : List ℤ) (u : ℤ) (was left : Workspace) (answer : Result Fate Refusal)
      → x ≡ fill node_words (λ j. get_or r.stack (node_words * (r.depth - 1) + j) 0)
      → d ≡ fill max_vertices (λ j. get_or r.carried (max_vertices * (r.depth - 1) + j) (pos 0)) → u ≡ r.upper
      → opened answer left ≡ opens (taken (marked q x) d (with_ceiling u r.settings)) was
      → opened answer left ≡ opened_as (open_node s.opening s.upper t.node)
  came q afloat x d u was left answer ex ed eu e =
      e ∙ opens_is r s h t q afloat x d u (rows_read x r.stack (r.depth - 1) ex) (multipliers_read d r.carried (r.depth - 1) ed) eu was

  accepted : (answer : Result Fate Refusal) (left : Workspace) → opened answer left ≡ opened_as (open_node s.opening s.upper t.node) → IsOk answer
  accepted (Ok a) left e = search rules
  accepted (Err q) left e = absurd (not_refused r s h t _ e (number q) refl)

-- the graph that is lent is the one made for the run, or else the record's own
chosen : (x : Option (Bor Graph)) (afloat : Option Graph) (own q : Bor Graph) → option_copied x ≡ afloat → q ≡ unwrap_or x own → q.now ≡ unwrap_or afloat own.now
chosen None afloat own q e f = rw (← e) (ap (λ (b : Bor Graph). b.now) f)
chosen (Some b) afloat own q e f = rw (← e) (ap (λ (b : Bor Graph). b.now) f)

-- the graph on which the node is opened
lent : (c : After-open) (s : Progress) → Holds c.args.self.now s → GraphIs s.opening c.args.afloat.now → network c.unwrap_or-g.result.now ≡ active_network s.opening
lent c s h afloat =
    ap network (chosen c.as_ref.result c.args.afloat.now _ c.unwrap_or-g.result c.as_ref.ensures.value c.unwrap_or-g.ensures
    ∙ ap (unwrap_or c.args.afloat.now) (holds_graph _ _ h))
    ∙ afloat

-- so it is of the node that is opened
here : (c : After-open) (s : Progress) (h : Holds c.args.self.now s) (t : Top s) → GraphIs s.opening c.args.afloat.now
    → opened c.open.result c.open.new.node ≡ opened_as (open_node s.opening s.upper t.node)
here c s h t afloat =
    came _ s h t _ (lent c s h afloat) _ _ _ _ _ _ (c.get-node.ensures 0) (c.get-multipliers.ensures (pos 0)) (back64 c.args.self.now.upper (holds_mag _ _ h)) c.open.ensures.opened

pub overflow_sub-p : goal.overflow_sub-p
overflow_sub-p c = top_depth _ _ c.requires.1 c.requires.2

pub get-multipliers-requires : goal.get-multipliers-requires
get-multipliers-requires c =
    let high = top-high _ _ c.requires.1 c.requires.2 in
    let size = holds_carried-size _ _ c.requires.1 in (omega (arith, high, size), omega (arith, high, size))

pub get-node-requires : goal.get-node-requires
get-node-requires c =
    let k : 6 * (c.args.self.now.depth - 1) + 6 ≤ length c.args.self.now.stack
    = omega (arith, top-high _ _ c.requires.1 c.requires.2, holds_size _ _ c.requires.1) in (omega arith, k)

pub unwrap-fate-requires : goal.unwrap-fate-requires
unwrap-fate-requires c =
    accepted _ _ c.requires.1 c.requires.2 _ _
    (here (goal.at.unwrap-fate-requires c).After-open _ c.requires.1 c.requires.2 c.requires.3)

pub put-requires : goal.put-requires
put-requires c =
    let k : 6 * (c.args.self.now.depth - 1) + 6 ≤ length c.args.self.now.stack
    = omega (arith, top-high _ _ c.requires.1 c.requires.2, holds_size _ _ c.requires.1) in (omega arith, k)

pub put-requires-2 : goal.put-requires-2
put-requires-2 c =
    let k : 20 * (c.args.self.now.depth - 1) + 20 ≤ length c.args.self.now.carried
    = omega (arith, top-high _ _ c.requires.1 c.requires.2, holds_carried-size _ _ c.requires.1) in (omega arith, k)

pub overflow_sub-self : goal.overflow_sub-self
overflow_sub-self c = top_depth _ _ c.requires.1 c.requires.2

pub overflow_add-self : goal.overflow_add-self
overflow_add-self c = record { fits = omega (arith, top-room _ _ c.requires.1 c.requires.2) }

pub keep-requires : goal.keep-requires
keep-requires c = holds_valid _ _ c.requires.1

pub put-requires-in-Splits : goal.put-requires-in-Splits
put-requires-in-Splits c =
    let h = c.requires.1 in
    let e = here (goal.at.put-requires-in-Splits c).After-open _ h c.requires.2 c.requires.3 in
    let room = split_room _ _ h c.requires.2 _ e (ap meaning (c.unwrap-fate.ensures ∙ ap (λ (a : Fate). Ok a) c.in-Splits.is)) in
    let size = (c.put.ensures 0).size ∙ holds_size _ _ h in
    let k : 6 * (c.args.self.now.depth - 1 + 1) + 6 ≤ length c.put.new.s = omega (arith, room, size) in (omega arith, k)

pub put-requires-in-Splits-2 : goal.put-requires-in-Splits-2
put-requires-in-Splits-2 c =
    let h = c.requires.1 in
    let e = here (goal.at.put-requires-in-Splits-2 c).After-open _ h c.requires.2 c.requires.3 in
    let room = split_room _ _ h c.requires.2 _ e (ap meaning (c.unwrap-fate.ensures ∙ ap (λ (a : Fate). Ok a) c.in-Splits.is)) in
    let size = (c.put-2.ensures (pos 0)).size ∙ holds_carried-size _ _ h in
    let k : 20 * (c.args.self.now.depth - 1 + 1) + 20 ≤ length c.put-2.new.s = omega (arith, room, size) in (omega arith, k)

pub overflow_add-self-in-Splits : goal.overflow_add-self-in-Splits
overflow_add-self-in-Splits c = record { fits = omega (arith, top-high _ _ c.requires.1 c.requires.2) }

pub returns-in-Closes : goal.returns-in-Closes
returns-in-Closes c = λ s h t afloat.
    let e = here (goal.at.returns-in-Closes c).After-open s h t afloat in
    next_closes _ s h t _ e _ _ (ap meaning (c.unwrap-fate.ensures ∙ ap (λ (a : Fate). Ok a) c.in-Closes.is)) (c.put.ensures 0) (c.put-2.ensures (pos 0))

pub returns-in-Finds : goal.returns-in-Finds
returns-in-Finds c = λ s h t afloat.
    let e = here (goal.at.returns-in-Finds c).After-open s h t afloat in
    c.keep.ensures
    ∙ next_finds _ s h t _ e _ _ (ap meaning (c.unwrap-fate.ensures ∙ ap (λ (a : Fate). Ok a) c.in-Finds.is)) (c.put.ensures 0) (c.put-2.ensures (pos 0))

pub returns-in-Splits : goal.returns-in-Splits
returns-in-Splits c = λ s h t afloat.
    let e = here (goal.at.returns-in-Splits c).After-open s h t afloat in
    next_splits _ s h t _ e _ _ _ _ (ap meaning (c.unwrap-fate.ensures ∙ ap (λ (a : Fate). Ok a) c.in-Splits.is)) (c.put.ensures 0) (c.put-2.ensures (pos 0))
    (c.put-in-Splits.ensures 0) (c.put-in-Splits-2.ensures (pos 0))
