-- THE MACHINE IN PLAIN WORDS IS THE MACHINE. On every list of calls the two answer alike and write the same bytes, and the states that they leave are
-- the same, once the multipliers of the machine's nodes, which are those of the active vertices, are written for all vertices, 0 for an inactive one.
-- So whatever is proved of the machine's answers and verdicts is so of a machine that numbers nothing anew.
use Rattle.std.specs.Prelude.{◌≡◌, refl, Bool, true, false, not, cond, ◌&&◌, List, [], ◌∷◌, map, eqb, ltb, length, get_or, ℤ}
use Rattle.std.proofs.Math.Path.{ap, ap₂, sym, subst}
use Rattle.std.proofs.Common.{◌∙◌, inl, inr, lt-ltb, le-ltb}
use Prim.Native.Nat.{ℕ, zero, suc, ◌<◌}
use Rattle.lists.specs.Bools.{and_no_right}
use Rattle.lists.specs.Members.{◌∈◌, of_map}
use Rattle.integers.specs.Multiples.{◌times◌}
use Rattle.graph.specs.Limits.{max_count}
use Rattle.graph.specs.Network.{free, excluded, network}
use Rattle.graph.specs.Valid as value
use Rattle.tree_theory.specs.OneTree.{Edges}
use Rattle.tree_theory.specs.Arrays.{edge_of}
use Rattle.tree_theory.specs.Scaled.{scaled_by}
use Rattle.tours.specs.Tours.{cost}
use Rattle.machine.specs.Outcomes.{closes, finds, splits, Incumbent, no_tour, a_tour, best_of}
use Rattle.machine.specs.Machine.{Node, marks_of, Opened, lifts, Opening, held, Progress, State, no_search, searching}
use Rattle.machine.specs.Machine.{active_network, begin, cost_of, lowered, replaces, better, opened_on, open_node, settled}
use Rattle.machine.specs.Machine.{trimmed, passes, open_top, finished, is_empty, ran}
use Rattle.machine.specs.Calls.{Call, opens, run, tell, show, close, Verdict, going_on, Answer, accepted, runs, tells, Reply, refuses, fault}
use Rattle.machine.specs.Calls.{opened_by, run_by, verdict_of, verdict, tour_bytes, shown_by, step, state_after, answers, leaves}
use Rattle.machine.specs.Kept.{active_size, Nodes, Off, AllOff, touching, Kept, KeptState}
use Rattle.machine.specs.Preserved.{accepts-held}
use Rattle.machine.proofs.Preserved.{top_kept, step_kept, leaves_kept}
use Rattle.machine.specs.Runs.{RunTurn, turn, opens-top, empty, full, ran-opens, ran_empty, ran_full}
use Rattle.machine.specs.Trimmed.{valid-trimmed}
use Rattle.afloat.specs.Over.{ashore, ashore_fits, marks_over}
use Rattle.afloat.specs.Inputs.{fit_of, inner_of}
use Rattle.afloat.specs.Lists.{Grounded, widened, grounded_widened, widened-first, reduced_back}
use Rattle.afloat.specs.Scaling.{fit_scaled}
use Rattle.afloat_passes.specs.Passes.{widened_node, widened_opened, Strikes}
use Rattle.afloat_passes.proofs.Passes.{passes-reduced}
use Rattle.afloat_passes.specs.MachineOver.{begin_over, open_node_over, settled_over, open_top_over, ran_over, opened_over_by, run_over_by}
use Rattle.afloat_passes.specs.MachineOver.{verdict_over, step_over, state_after_over, answers_over, leaves_over}
use Rattle.afloat_passes.specs.MachineOver.{widened_stack, widened_search, widened_state, widened_reply}

-- THE FIRST NODE, of any opening
pub begin-over : (o : Opening) → begin_over o ≡ widened_search (begin o)
unfolding begin_over begin marks_over marks_of network
begin-over o = ap first (sym (widened-first (ashore o.ashore) o.graph.n o.multipliers))
  where
    first : List ℤ → Progress
    first d = record {
      opening = o;
      upper = o.settings.ceiling;
      stack = record { marks = marks_over (ashore o.ashore) (network o.graph); multipliers = d } ∷ [];
      incumbent = no_tour;
      count = 0;
    }

-- ---- the opening of a node

-- a node of the machine: it has multipliers of the active vertices alone, and touched edges are excluded
pub record Fine (o : Opening) (x : Node) : Type 0 where
  pub long : length x.multipliers ≡ active_size o
  pub off : Off o.graph.m (touching o) x.marks

strikes : (o : Opening) (x : Node) → Off o.graph.m (touching o) x.marks → Strikes (ashore o.ashore) (network o.graph) x.marks
strikes o x off k e = go k e (edge_of o.graph.m k (unfold network in inner_of o.graph o.ashore k e))
  where
    go : (k : ℕ) → touching o k ≡ true → (j : ℕ) × (j < o.graph.m) × (k ≡ suc j) → get_or (free ∷ x.marks) k free ≡ excluded
    go k e r = subst (λ (w : ℕ). get_or (free ∷ x.marks) w free ≡ excluded) (sym r.2) (off r.0 r.1 (ap (touching o) (sym r.2) ∙ e))

module _ (o : Opening) (v : value.Valid o.graph) (fits : ashore_fits o.ashore o.graph.n ≡ true) where
  opened-over : (upper : ℤ) (x : Node) → Fine o x
      → open_node_over o upper (widened_node (ashore o.ashore) o.graph.n x) ≡ widened_opened (ashore o.ashore) o.graph.n (open_node o upper x)
  unfolding open_node_over open_node opened_on network
  opened-over upper x h =
      let q = o.settings.denominator in
      passes-reduced (lifts o.settings) (ashore o.ashore) (scaled_by q (network o.graph))
      (fit_scaled q (ashore o.ashore) (network o.graph) (fit_of o.graph v o.ashore fits)) (inner_of o.graph o.ashore)
      o.settings.step (q times upper) o.settings.sweeps (widened (ashore o.ashore) o.graph.n x.multipliers) x.marks
      (grounded_widened (ashore o.ashore) o.graph.n x.multipliers) (strikes o x h.off)
      ∙ ap (λ (d : List ℤ).
      widened_opened (ashore o.ashore) o.graph.n
      (passes (lifts o.settings) (scaled_by q (active_network o)) o.settings.step (q times upper) o.settings.sweeps d x.marks))
      (reduced_back (ashore o.ashore) o.graph.n x.multipliers h.long)

-- THE OPENING OF A NODE, of an accepted opening
pub open_node-over : (o : Opening) → fault o ≡ 0 → (upper : ℤ) (x : Node) → Fine o x
    → open_node_over o upper (widened_node (ashore o.ashore) o.graph.n x) ≡ widened_opened (ashore o.ashore) o.graph.n (open_node o upper x)
open_node-over o e upper x h =
    let a = accepts-held o e in
    opened-over o (valid-trimmed o.graph (unfold held in a.valid)) (unfold held trimmed in a.ashore_fit) upper x h

-- ---- the run

-- an edge has its number and its cost in the network of the active vertices too
lowered_same : (o : Opening) → lowered (network o.graph) ≡ lowered (active_network o)
unfolding lowered cost_of cost
lowered_same o = refl

better_same : (o : Opening) → better (network o.graph) ≡ better (active_network o)
unfolding better replaces cost_of cost
better_same o = refl

verdict_same : (o : Opening) (i : Incumbent (List Bool)) → verdict_of (network o.graph) i ≡ verdict_of (active_network o) i
unfolding cost_of cost
verdict_same o no_tour = refl
verdict_same o (a_tour r) = refl

-- what the opening of a node comes to makes the same of both
settled-over : (p : Progress) (rest : List Node) (out : Opened)
    → settled_over (widened_search p) (widened_stack p.opening rest) (widened_opened (ashore p.opening.ashore) p.opening.graph.n out)
    ≡ widened_search (settled p rest out)
unfolding settled_over settled
settled-over p rest closes = refl
settled-over p rest (finds r) = λ i. record {
  opening = p.opening;
  upper = lowered_same p.opening i r;
  stack = widened_stack p.opening rest;
  incumbent = best_of (better_same p.opening i) p.incumbent r;
  count = suc p.count;
}
settled-over p rest (splits out into) = refl

is_empty-map : (f : Node → Node) (xs : List Node) → is_empty (map f xs) ≡ is_empty xs
is_empty-map f [] = refl
is_empty-map f (x ∷ xs) = refl

finished-over : (p : Progress) → finished (widened_search p) ≡ finished p
finished-over p = is_empty-map (widened_node (ashore p.opening.ashore) p.opening.graph.n) p.stack

module _ (p : Progress) (k : Kept p) where
  top-over : (x : Node) (rest : List Node) → p.stack ≡ x ∷ rest
      → open_top_over (widened_search p) (widened_stack p.opening (x ∷ rest)) ≡ widened_search (open_top p (x ∷ rest))
  unfolding open_top_over open_top
  top-over x rest e =
      ap (settled_over (widened_search p) (widened_stack p.opening rest))
      (opened-over p.opening k.opening.valid k.opening.ashore_fit p.upper x fine)
      ∙ settled-over p rest (open_node p.opening p.upper x)
    where
      fine : Fine p.opening x
      fine = record {
        long = (subst (λ (st : List Node). Nodes (active_size p.opening) p.opening.graph.m st) e k.nodes).0.multipliers.long;
        off = (subst (λ (st : List Node). AllOff p.opening.graph.m (touching p.opening) st) e k.struck).0;
      }

-- A RUN
ran-over : (budget : ℕ) (p : Progress) → Kept p → ran_over budget (widened_search p) ≡ widened_search (ran budget p)
unfolding ran_over
ran-over zero p k = unfold ran in refl
ran-over (suc budget) p k = go (turn p) (λ r i. ran-over budget r i)
  where
    stops : (r : Progress) → not (finished (widened_search p)) && ltb p.count max_count ≡ false
        → (elim (not (finished (widened_search p)) && ltb p.count max_count) as (λ z. Progress) [ true ↦ r | false ↦ widened_search p ])
        ≡ widened_search p
    stops r e = rw e

    go : RunTurn p → ((r : Progress) → Kept r → ran_over budget (widened_search r) ≡ widened_search (ran budget r))
        → ran_over (suc budget) (widened_search p) ≡ widened_search (ran (suc budget) p)
    go (opens-top x rest e l) below =
        rw (ran-opens budget p x rest e l, lt-ltb p.count max_count l, finished-over p, ap is_empty e, ran_over)
        (ap (λ (st : List Node). ran_over budget (open_top_over (widened_search p) (widened_stack p.opening st))) e
        ∙ ap (ran_over budget) (top-over p k x rest e)
        ∙ below (open_top p (x ∷ rest)) (top_kept p k x rest e l))
    go (empty e) below =
        stops _ (ap (λ (b : Bool). not b && ltb p.count max_count) (finished-over p ∙ ap is_empty e))
        ∙ sym (ap widened_search (ran_empty (suc budget) p e))
    go (full l) below =
        stops _ (and_no_right (not (finished (widened_search p))) (ltb p.count max_count) (le-ltb p.count max_count l))
        ∙ sym (ap widened_search (ran_full (suc budget) p l))

-- ---- the calls

opened_by-over : (o : Opening) (k : ℕ) → opened_over_by o k ≡ widened_reply (opened_by o k)
unfolding opened_over_by opened_by
opened_by-over o zero = ap (λ (p : Progress). record { state = searching p; answer = accepted; lent = [] }) (begin-over (held o))
opened_by-over o (suc k) = refl

run_by-over : (budget : ℕ) (p : Progress) → Kept p → run_over_by budget (widened_search p) ≡ widened_reply (run_by budget p)
unfolding run_over_by run_by
run_by-over budget p k =
    ap reply (ran-over budget p k)
    ∙ ap (λ (b : Bool). record { state = searching (widened_search r); answer = runs b r.count; lent = [] }) (finished-over r)
  where
    r : Progress
    r = ran budget p

    reply : Progress → Reply
    reply s = record { state = searching s; answer = runs (finished s) s.count; lent = [] }

verdict-over : (p : Progress) → verdict_over (widened_search p) ≡ verdict p
unfolding verdict_over verdict
verdict-over p =
    ap₂ (λ (b : Bool) (v : Verdict). cond b v going_on) (finished-over p) (verdict_same p.opening p.incumbent)

shown_by-over : (p : Progress) (l : List ℕ) (b : Bool) (i : Incumbent (List Bool))
    → shown_by (widened_search p) l b i ≡ widened_reply (shown_by p l b i)
unfolding shown_by
shown_by-over p l false i = refl
shown_by-over p l true no_tour = refl
shown_by-over p l true (a_tour r) = go (eqb (length l) p.opening.graph.m)
  where
    go : (b : Bool)
        → cond b (record { state = searching (widened_search p); answer = accepted; lent = tour_bytes r })
        (refuses (searching (widened_search p)) (show l) 11)
        ≡ widened_reply (cond b (record { state = searching p; answer = accepted; lent = tour_bytes r }) (refuses (searching p) (show l) 11))
    go true = refl
    go false = refl

-- A CALL, its state, its answer and the list that it lends
pub step-over : (st : State) → KeptState st → (c : Call) → step_over (widened_state st) c ≡ widened_reply (step st c)
unfolding step_over step
step-over no_search k (opens o) = opened_by-over o (fault o)
step-over no_search k (run budget) = refl
step-over no_search k tell = refl
step-over no_search k (show l) = refl
step-over no_search k close = refl
step-over (searching p) k (opens o) = refl
step-over (searching p) k (run budget) = run_by-over budget p k
step-over (searching p) k tell =
    ap (λ (v : Verdict). record { state = searching (widened_search p); answer = tells v p.count; lent = [] }) (verdict-over p)
step-over (searching p) k (show l) =
    ap (λ (b : Bool). shown_by (widened_search p) l b p.incumbent) (finished-over p) ∙ shown_by-over p l (finished p) p.incumbent
step-over (searching p) k close = refl

-- ---- lists of calls

state_after-over : (cs : List Call) (st : State) → KeptState st → state_after_over (widened_state st) cs ≡ widened_state (state_after st cs)
unfolding state_after_over state_after
state_after-over [] st k = refl
state_after-over (c ∷ cs) st k =
    ap (λ (r : Reply). state_after_over r.state cs) (step-over st k c) ∙ state_after-over cs (step st c).state (step_kept st c k)

answers_after-over : (cs : List Call) (st : State) → KeptState st → answers_over (widened_state st) cs ≡ answers st cs
unfolding answers_over answers
answers_after-over [] st k = refl
answers_after-over (c ∷ cs) st k =
    ap (λ (r : Reply). r.answer ∷ answers_over r.state cs) (step-over st k c)
    ∙ ap (λ (xs : List Answer). (step st c).answer ∷ xs) (answers_after-over cs (step st c).state (step_kept st c k))

-- THE STATE THAT A LIST OF CALLS LEAVES
pub leaves-over : (cs : List Call) → leaves_over cs ≡ widened_state (leaves cs)
unfolding leaves_over leaves
leaves-over cs = state_after-over cs no_search tt

-- ITS ANSWERS
pub answers-over : (cs : List Call) → answers_over no_search cs ≡ answers no_search cs
answers-over cs = answers_after-over cs no_search tt

-- and the next call's, with the bytes that it writes
pub next-over : (cs : List Call) (c : Call) → step_over (leaves_over cs) c ≡ widened_reply (step (leaves cs) c)
next-over cs c = ap (λ (st : State). step_over st c) (leaves-over cs) ∙ step-over (leaves cs) (leaves_kept cs) c

-- ---- what every node that waits is: "A leg touching such a buoy counts as struck .. and opening piles it so", "the buoy's due counts as 0 and no pass
-- changes it"

all_off : (m : ℕ) (c : Edges) (xs : List Node) → AllOff m c xs → (y : Node) → y ∈ xs → Off m c y.marks
all_off m c [] h y i = absurd i
all_off m c (x ∷ xs) h y (inl e) = rw e h.0
all_off m c (x ∷ xs) h y (inr i) = all_off m c xs h.1 y i

abbrev pub Waiting : State → Type 0
Waiting no_search = Unit {0}
Waiting (searching p) =
    (x : Node) → x ∈ p.stack
    → Strikes (ashore p.opening.ashore) (network p.opening.graph) x.marks × Grounded (ashore p.opening.ashore) p.opening.graph.n x.multipliers

-- IN EVERY NODE THAT EVER WAITS touched edges are excluded, and an inactive vertex has 0
pub waiting-over : (cs : List Call) → Waiting (leaves_over cs)
waiting-over cs = subst Waiting (sym (leaves-over cs)) (go (leaves cs) (leaves_kept cs))
  where
    go : (st : State) → KeptState st → Waiting (widened_state st)
    go no_search k = tt
    go (searching p) k = λ x i.
        let r = of_map (widened_node (ashore p.opening.ashore) p.opening.graph.n) x p.stack i in
        rw r.2 (
          strikes p.opening r.0 (all_off p.opening.graph.m (touching p.opening) p.stack k.struck r.0 r.1),
          grounded_widened (ashore p.opening.ashore) p.opening.graph.n r.0.multipliers,
        )
