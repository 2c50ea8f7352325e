-- What holds of a search after every list of calls: lawful openings led to it, and while a node waits every opening that was allowed was
-- done. For Claim.
use Rattle.std.specs.Prelude.{◌≡◌, refl, ◌⊎◌, Bool, true, false, cond, List, [], ◌∷◌, ℕ, zero, suc, ◌+◌, ◌-◌, ◌^◌, ◌≤◌, ◌<◌, length}
use Rattle.std.proofs.Common.{sym, ap, ◌∙◌, subst, inl, inr, arith, pow_mono}
use Rattle.graph.specs.Limits.{max_count}
use Rattle.graph.specs.Network.{Network}
use Rattle.machine.specs.Machine.{Node, Opening, held, Progress, State, no_search, searching, begin}
use Rattle.machine.specs.Machine.{active_network, open_node, settled, open_top, finished, ran}
use Rattle.machine.specs.Calls.{Call, opens, run, tell, show, close, Reply, fault, opened_by, run_by, shown_by, step, leaves}
use Rattle.machine.specs.Calls.{state_after, is_accepted, History, no_opening, since, granted, noted, history_after, history}
use Rattle.machine.specs.Calls.{free_at_start}
use Rattle.machine.specs.Runs.{RunTurn, opens-top, empty, full, turn, ran-opens, ran_empty, ran_full, ran_keeps}
use Rattle.machine.specs.Laws.BranchAndBound.{Reached, start, next, room, room_some, budget}
use Rattle.machine.proofs.NodeTours.{tours}
use Rattle.machine.specs.Kept.{Kept}
use Rattle.machine.specs.Preserved.{accepts-held, begin-kept, show_state}
use Rattle.machine.proofs.Preserved.{top_law, top_kept}
use Rattle.machine.specs.Claims.Invariant.{first_node}

abbrev pub ReachedBy : Progress → Type 0
ReachedBy s =
    Reached (tours (active_network s.opening)) (first_node s.opening) s.opening.settings.ceiling
    s.upper s.stack s.incumbent s.count

pub record Good (s : Progress) (total : ℕ) : Type 0 where
  pub kept : Kept s
  pub reached : ReachedBy s
  -- the loop's guard stops no search of 62 free edges or less
  pub spent : free_at_start s.opening ≤ 62 → (s.stack ≡ []) ⊎ (s.count ≡ total)

good_begin : (o : Opening) → Kept (begin o) → Good (begin o) 0
unfolding begin
good_begin o k = record { kept = k; reached = start; spent = λ h. inr refl }

-- while a node waits, fewer than 2^(k+1) − 1 are opened
pub before_last : (s : Progress) (x : Node) (rest : List Node) → s.stack ≡ x ∷ rest → ReachedBy s
    → suc s.count ≤ 2 ^ suc (free_at_start s.opening) - 1
unfolding free_at_start
before_last s x rest e r =
    omega (
      arith,
      budget (tours g) (first_node s.opening) s.opening.settings.ceiling r,
      subst (λ (st : List Node). 1 ≤ room (tours g) st) (sym e) (room_some (tours g) x rest),
    )
  where
    g : Network
    g = active_network s.opening

good_top : (s : Progress) (total : ℕ) (x : Node) (rest : List Node) → s.stack ≡ x ∷ rest → s.count < max_count → Good s total
    → Good (open_top s (x ∷ rest)) (suc total)
unfolding open_top settled
good_top s total x rest e l h = record {
  kept = top_kept s h.kept x rest e l;
  reached =
      next (open_node s.opening s.upper x) (top_law s h.kept x rest e l x.multipliers)
      (subst (λ (st : List Node). Reached (tours g) (first_node s.opening) s.opening.settings.ceiling s.upper st s.incumbent s.count) e
      h.reached);
  spent = λ k. inr (ap suc (go (h.spent k)));
}
  where
    g : Network
    g = active_network s.opening

    go : (s.stack ≡ []) ⊎ (s.count ≡ total) → s.count ≡ total
    go (inl k) = absurd (let z : 0 ≡ suc (length rest) = ap length (sym k ∙ e) in omega arith)
    go (inr k) = k

-- what is allowed to a search that does not go on
good_idle : (s : Progress) (total more : ℕ) → (free_at_start s.opening ≤ 62 → s.stack ≡ []) → Good s total → Good s (total + more)
good_idle s total more idle h = record { kept = h.kept; reached = h.reached; spent = λ k. inl (idle k) }

good_same : (s : Progress) (total other : ℕ) → total ≡ other → Good s total → Good s other
good_same s total other e h = rw (← e) h

-- the guard stops no search of 62 free edges or less while a node waits
not_full : (s : Progress) (x : Node) (rest : List Node) → s.stack ≡ x ∷ rest → ReachedBy s → max_count ≤ s.count
    → free_at_start s.opening ≤ 62 → ⊥
not_full s x rest e r l k =
    omega (arith, before_last s x rest e r, pow_mono {i = suc (free_at_start s.opening)} {j = 63} (omega arith))

good_ran : (allowed : ℕ) (s : Progress) (total : ℕ) → Good s total → Good (ran allowed s) (total + allowed)
unfolding ran
good_ran zero s total h = good_same s total (total + 0) (omega arith) h
good_ran (suc allowed) s total h = go (turn s) (λ r n. good_ran allowed r n)
  where
    go : RunTurn s → ((r : Progress) (n : ℕ) → Good r n → Good (ran allowed r) (n + allowed))
        → Good (ran (suc allowed) s) (total + suc allowed)
    go (opens-top x rest e l) below =
        rw (ran-opens allowed s x rest e l)
        (good_same _ (suc total + allowed) (total + suc allowed) (omega arith)
        (below (open_top s (x ∷ rest)) (suc total) (good_top s total x rest e l h)))
    go (empty e) below = rw (ran_empty (suc allowed) s e) (good_idle s total (suc allowed) (λ k. e) h)
    go (full l) below = rw (ran_full (suc allowed) s l) (good_idle s total (suc allowed) (λ k. none s.stack refl k) h)
      where
        none : (st : List Node) → s.stack ≡ st → free_at_start s.opening ≤ 62 → s.stack ≡ []
        none [] e k = e
        none (x ∷ rest) e k = absurd (not_full s x rest e h.reached l k)

-- ---- states and lists of calls

-- the state holds the search of the last accepted opening
pub record FineSearch (s : Progress) (o : Opening) (total : ℕ) : Type 0 where
  pub opening : s.opening ≡ held o
  pub good : Good s total

abbrev pub Fine : State → History → Type 0
Fine no_search no_opening = Unit {0}
Fine no_search (since o total) = ⊥
Fine (searching s) no_opening = ⊥
Fine (searching s) (since o total) = FineSearch s o total

-- the history after a reply
abbrev after : Call → Reply → History → History
after c r h = cond (is_accepted r.answer) (noted c h) h

fine_open : (o : Opening) (k : ℕ) → fault o ≡ k → Fine (opened_by o k).state (after (opens o) (opened_by o k) no_opening)
unfolding opened_by
fine_open o zero e = record { opening = unfold begin in refl; good = good_begin (held o) (begin-kept (held o) (accepts-held o e)) }
fine_open o (suc k) e = tt

opening-ran : (allowed : ℕ) (s : Progress) → (ran allowed s).opening ≡ s.opening
unfolding open_top settled
opening-ran allowed s = ran_keeps (λ r. r.opening ≡ s.opening) (λ r x rest e l h. h) allowed s refl

fine_run : (s : Progress) (allowed : ℕ) (h : History) → Fine (searching s) h → Fine (searching (ran allowed s)) (granted allowed h)
fine_run s allowed no_opening f = f
fine_run s allowed (since o total) f =
    record { opening = opening-ran allowed s ∙ f.opening; good = good_ran allowed s total f.good }

-- a call that is noted by nothing
idle : (b : Bool) (h : History) → cond b h h ≡ h
idle true h = refl
idle false h = refl

fine_step : (s : State) (c : Call) (h : History) → Fine s h → Fine (step s c).state (after c (step s c) h)
unfolding step run_by
fine_step no_search (opens o) no_opening f = fine_open o (fault o) refl
fine_step no_search (opens o) (since p total) f = absurd f
fine_step no_search (run allowed) h f = f
fine_step no_search tell h f = f
fine_step no_search (show l) h f = f
fine_step no_search close h f = f
fine_step (searching s) (opens o) h f = f
fine_step (searching s) (run allowed) h f = fine_run s allowed h f
fine_step (searching s) tell h f = f
fine_step (searching s) (show l) h f =
    rw (show_state s l (finished s) s.incumbent, idle (is_accepted (shown_by s l (finished s) s.incumbent).answer) h) f
fine_step (searching s) close h f = tt

fine_after : (cs : List Call) (s : State) (h : History) → Fine s h → Fine (state_after s cs) (history_after s h cs)
unfolding state_after history_after
fine_after [] s h f = f
fine_after (c ∷ cs) s h f = fine_after cs (step s c).state (after c (step s c) h) (fine_step s c h f)

-- EVERY LIST OF CALLS leaves a state of which the invariant holds
pub fine : (cs : List Call) → Fine (leaves cs) (history cs)
unfolding leaves history
fine cs = fine_after cs no_search no_opening tt
