-- THE SEARCH WITH NONE ASHORE, or without lifting too, or with q = 1 too, answers as it did: where an opening is refused as in former ways, the opening
-- of a node comes to what it did in them, and every vertex is active, every list of calls is answered as it was. Assumes nothing.
use Rattle.std.specs.Prelude.{◌≡◌, refl, Bool, true, false, not, cond, ◌&&◌, List, [], ◌∷◌, ℕ, zero, suc, ltb, ℤ}
use Rattle.std.proofs.Common.{sym, ap, ◌∙◌, subst}
use Rattle.graph.specs.Limits.{max_count}
use Rattle.graph.specs.Network.{network}
use Rattle.machine.specs.Outcomes.{no_tour, next_stack, next_incumbent, next_upper}
use Rattle.machine.specs.Machine.{Node, node_of, Opened, marks_of, Opening, active_network, active_multipliers, Progress, State, no_search, searching, held}
use Rattle.machine.specs.Machine.{begin, lowered, better, settled, open_node, open_top, finished, ran}
use Rattle.machine.specs.Calls.{Call, opens, run, tell, show, close, accepted, tells, Verdict, going_on, verdict_of, verdict, Reply, accepts, fault, opened_by, run_by, step, state_after, leaves}
use Rattle.machine.specs.Preserved.{show_state}
use Rattle.machine.specs.Demand3.{Interface, after, Demand3}
use Rattle.onetree_theorems.specs.Former as former
use Rattle.onetree_theorems.specs.Former.{Ways}

-- ---- an opening, a call, a list of calls and a state of which P holds: of an open search P holds of its opening

abbrev pub OfCall : (Opening → Type 0) → Call → Type 0
OfCall P (opens o) = P o
OfCall P (run budget) = Unit {0}
OfCall P tell = Unit {0}
OfCall P (show l) = Unit {0}
OfCall P close = Unit {0}

abbrev pub OfCalls : (Opening → Type 0) → List Call → Type 0
OfCalls P [] = Unit {0}
OfCalls P (c ∷ cs) = OfCall P c × OfCalls P cs

abbrev pub OfState : (Opening → Type 0) → State → Type 0
OfState P no_search = Unit {0}
OfState P (searching s) = P s.opening

-- openings of which P holds are over all vertices, and are refused and opened as in the ways w
pub record SameWays (w : Ways) (P : Opening → Type 0) : Type 0 where
  pub kept : (o : Opening) → P o → P (held o)
  pub whole : (o : Opening) → P o → active_network o ≡ network o.graph
  pub listed : (o : Opening) → P o → w.fault o ≡ 0 → active_multipliers (held o) ≡ o.multipliers
  pub refused : (o : Opening) → P o → fault o ≡ w.fault o
  pub opened : (o : Opening) → P o → (upper : ℤ) (x : Node) → open_node o upper x ≡ w.open_node o upper x

-- after a list cs: what the next call c answers and leaves in its list is what it was, and the record is that of the state of then
pub record AsBefore (w : Ways) (P : Opening → Type 0) (i : Interface) (cs : List Call) : Type 0 where
  pub answered : (c : Call) → OfCall P c → i.answer (after i i.fresh cs) c ≡ i.said (former.step w (former.leaves w cs) c).answer
  pub listed : (c : Call) → OfCall P c → i.list (after i i.fresh cs) c ≡ (former.step w (former.leaves w cs) c).lent
  pub bytes : after i i.fresh cs ≡ i.made (former.leaves w cs)

module _ (w : Ways) (P : Opening → Type 0) (same : SameWays w P) where
  begin-same : (o : Opening) → P o → w.fault o ≡ 0 → begin (held o) ≡ former.begin (held o)
  unfolding begin former.begin held
  begin-same o p none = λ i.
      record {
        opening = held o;
        upper = o.settings.ceiling;
        stack = node_of (same.listed o p none i) (marks_of (same.whole (held o) (same.kept o p) i)) ∷ [];
        incumbent = no_tour;
        count = 0;
      }

  settled-same : (s : Progress) → P s.opening → (rest : List Node) (out : Opened) → settled s rest out ≡ former.settled s rest out
  unfolding settled former.settled
  settled-same s p rest out = λ i.
      record {
        opening = s.opening;
        upper = next_upper (lowered (same.whole s.opening p i)) s.upper out;
        stack = next_stack rest out;
        incumbent = next_incumbent (better (same.whole s.opening p i)) s.incumbent out;
        count = suc s.count;
      }

  verdict-same : (s : Progress) → P s.opening → verdict s ≡ former.verdict s
  unfolding verdict former.verdict
  verdict-same s p = λ i. cond (finished s) (verdict_of (same.whole s.opening p i) s.incumbent) going_on

  top-same : (s : Progress) → P s.opening → (st : List Node) → (open_top s st ≡ former.open_top w s st) × P (former.open_top w s st).opening
  unfolding open_top former.open_top former.settled
  top-same s p [] = (refl, p)
  top-same s p (x ∷ rest) = (
    ap (settled s rest) (same.opened s.opening p s.upper x) ∙ settled-same s p rest (w.open_node s.opening s.upper x),
    p,
  )

  ran-same : (budget : ℕ) (s : Progress) → P s.opening → (ran budget s ≡ former.ran w budget s) × P (former.ran w budget s).opening
  unfolding ran former.ran
  ran-same zero s p = (refl, p)
  ran-same (suc budget) s p =
      let t = top-same s p s.stack in
      go (not (finished s) && ltb s.count max_count) (ap (ran budget) t.0) (ran-same budget (former.open_top w s s.stack) t.1)
    where
      go : (b : Bool) → ran budget (open_top s s.stack) ≡ ran budget (former.open_top w s s.stack)
          → (ran budget (former.open_top w s s.stack) ≡ former.ran w budget (former.open_top w s s.stack))
          × P (former.ran w budget (former.open_top w s s.stack)).opening
          → ◌≡◌ {A = Progress} (elim b as (λ x. Progress) [ true ↦ ran budget (open_top s s.stack) | false ↦ s ])
          (elim b as (λ x. Progress) [ true ↦ former.ran w budget (former.open_top w s s.stack) | false ↦ s ])
          × P (elim b as (λ x. Progress) [ true ↦ former.ran w budget (former.open_top w s s.stack) | false ↦ s ]).opening
      go true e r = (e ∙ r.0, r.1)
      go false e r = (refl, p)

  -- one call: its state, its answer and its lent list
  pub call_same : (s : State) → OfState P s → (c : Call) → OfCall P c → step s c ≡ former.step w s c
  unfolding step former.step run_by former.run_by opened_by former.opened_by
  call_same no_search p (opens o) h = rw (same.refused o h) (alike (w.fault o) refl)
    where
      alike : (k : ℕ) → w.fault o ≡ k → opened_by o k ≡ former.opened_by o k
      alike zero e = ap (λ (r : Progress). accepts (searching r) accepted) (begin-same o h e)
      alike (suc k) e = refl
  call_same no_search p (run budget) h = refl
  call_same no_search p tell h = refl
  call_same no_search p (show l) h = refl
  call_same no_search p close h = refl
  call_same (searching s) p (opens o) h = refl
  call_same (searching s) p (run budget) h = rw (ran-same budget s p).0
  call_same (searching s) p tell h = ap (λ (v : Verdict). accepts (searching s) (tells v s.count)) (verdict-same s p)
  call_same (searching s) p (show l) h = refl
  call_same (searching s) p close h = refl

  pub call_keeps : (s : State) → OfState P s → (c : Call) → OfCall P c → OfState P (former.step w s c).state
  unfolding former.step former.run_by former.opened_by former.begin
  call_keeps no_search p (opens o) h = go (w.fault o)
    where
      go : (k : ℕ) → OfState P (former.opened_by o k).state
      go zero = same.kept o h
      go (suc k) = tt
  call_keeps no_search p (run budget) h = tt
  call_keeps no_search p tell h = tt
  call_keeps no_search p (show l) h = tt
  call_keeps no_search p close h = tt
  call_keeps (searching s) p (opens o) h = p
  call_keeps (searching s) p (run budget) h = (ran-same budget s p).1
  call_keeps (searching s) p tell h = p
  call_keeps (searching s) p (show l) h = subst (OfState P) (sym (show_state s l (finished s) s.incumbent)) p
  call_keeps (searching s) p close h = tt

  after_same : (s : State) → OfState P s → (cs : List Call) → OfCalls P cs
      → (state_after s cs ≡ former.state_after w s cs) × OfState P (former.state_after w s cs)
  unfolding state_after former.state_after
  after_same s p [] h = (refl, p)
  after_same s p (c ∷ cs) h =
      let e = call_same s p c h.0 in
      let r = after_same (former.step w s c).state (call_keeps s p c h.0) cs h.1 in
      (ap (λ (t : Reply). state_after t.state cs) e ∙ r.0, r.1)

  -- THROUGH ANY CALLS THAT MEET DEMAND 3
  pub as_before : (i : Interface) → Demand3 i → (cs : List Call) → OfCalls P cs → AsBefore w P i cs
  unfolding leaves former.leaves
  as_before i demand cs h = record {
    answered = λ c p. (demand.equal cs).answered c ∙ ap (λ (t : Reply). i.said t.answer) (next c p);
    listed = λ c p. (demand.equal cs).listed c ∙ ap (λ (t : Reply). t.lent) (next c p);
    bytes = (demand.equal cs).bytes ∙ ap i.made (after_same no_search tt cs h).0;
  }
    where
      next : (c : Call) → OfCall P c → step (state_after no_search cs) c ≡ former.step w (former.state_after w no_search cs) c
      next c p =
          let r = after_same no_search tt cs h in
          ap (λ (s : State). step s c) r.0 ∙ call_same (former.state_after w no_search cs) r.1 c p
