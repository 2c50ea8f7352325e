-- "A refused call leaves it too": a refusal leaves the state and the lent list as they were; its number is one of those that document 01
-- has for these calls (24 is none of them), and its place is 0. Assumes nothing.
use Rattle.std.specs.Prelude.{◌≡◌, refl, Bool, true, false, not, cond, ◌&&◌, List, [], ◌∷◌, ◌++◌, ℕ, zero, suc, eqb, leb, length}
use Rattle.std.proofs.Common.{sym, inl, inr, arith}
use Rattle.lists.specs.Members.{◌∈◌, in_right}
use Rattle.graph.specs.Limits.{max_sweeps, max_step}
use Rattle.graph.specs.Valid.{valid}
use Rattle.tree_theory.specs.Inputs.{multipliers_fit, ceiling_fits, denominator_fits, denominator_fault, or_else}
use Rattle.afloat.specs.Over.{ashore_fits, ashore_fault}
use Rattle.machine.specs.Outcomes.{Incumbent, no_tour, a_tour}
use Rattle.machine.specs.Machine.{Opening, Progress, State, no_search, searching, finished}
use Rattle.machine.specs.Calls.{Call, opens, run, tell, show, close, refused, accepted, Reply, lent_by, refuses, fault, opened_by}
use Rattle.machine.specs.Calls.{run_by, tour_bytes, shown_by, step}

-- "20 no hunt is open ..; 21 one is open (opening); 22 show while going on; 23 show after 'none'."
abbrev pub unfit : List ℕ
unfit = 20 ∷ 21 ∷ 22 ∷ 23 ∷ []

-- "in this order: 15 .. 11 .. 12 .. 13 .. 14"; document 02, C-17: 32 "after 14"; C-20: 35 "follows 32"
abbrev pub faults : List ℕ
faults = 15 ∷ 11 ∷ 12 ∷ 13 ∷ 14 ∷ 32 ∷ 35 ∷ []

pub record Refusal (s : State) (c : Call) (r : Reply) (number place : ℕ) : Type 0 where
  pub state : r.state ≡ s
  pub lent : r.lent ≡ lent_by c
  pub known : number ∈ (unfit ++ faults)
  pub nowhere : place ≡ 0

refusal : (s : State) (c : Call) (k : ℕ) → k ∈ (unfit ++ faults) → (number place : ℕ)
    → refused k 0 ≡ refused number place → Refusal s c (refuses s c k) number place
refusal s c k m number place e =
    let same : k ≡ number = cc in
    let zeroth : 0 ≡ place = cc in
    record { state = refl; lent = refl; known = rw (← same) m; nowhere = sym zeroth }

-- the number of the first test that applies is one of the numbers
number_in : (t : Bool) (number rest : ℕ) (l : List ℕ) → ((k : ℕ) → rest ≡ suc k → suc k ∈ l)
    → (k : ℕ) → cond t number rest ≡ suc k → suc k ∈ (number ∷ l)
number_in true number rest l f k e = inl (sym e)
number_in false number rest l f k e = inr (f k e)

-- those of the denominator and of the list
last_known : (o : Opening) (k : ℕ)
    → or_else (denominator_fault o.settings.denominator) (ashore_fault o.ashore o.graph.n) ≡ suc k → suc k ∈ (32 ∷ 35 ∷ [])
unfolding denominator_fault ashore_fault
last_known o = go (denominator_fits o.settings.denominator) (ashore_fits o.ashore o.graph.n)
  where
    go : (d a : Bool) (k : ℕ) → or_else (cond (not d) 32 0) (cond (not a) 35 0) ≡ suc k → suc k ∈ (32 ∷ 35 ∷ [])
    go false a k e = inl (sym e)
    go true false k e = inr (inl (sym e))
    go true true k e = absurd (let z : 0 ≡ suc k = e in omega arith)

fault_known : (o : Opening) (k : ℕ) → fault o ≡ suc k → suc k ∈ faults
unfolding fault
fault_known o =
    number_in (not (valid o.graph)) 15 _ (11 ∷ 12 ∷ 13 ∷ 14 ∷ 32 ∷ 35 ∷ [])
    (number_in (not (eqb (length o.multipliers) o.graph.n && eqb (length o.ashore) o.graph.n)) 11 _ (12 ∷ 13 ∷ 14 ∷ 32 ∷ 35 ∷ [])
    (number_in (not (multipliers_fit o.multipliers)) 12 _ (13 ∷ 14 ∷ 32 ∷ 35 ∷ [])
    (number_in (not (ceiling_fits o.settings.ceiling)) 13 _ (14 ∷ 32 ∷ 35 ∷ [])
    (number_in (not (leb o.settings.sweeps max_sweeps && leb o.settings.step max_step)) 14 _ (32 ∷ 35 ∷ [])
    (last_known o)))))

-- a test before it does not give 35
past : (t : Bool) (number rest : ℕ) → ¬ (number ≡ 35) → cond t number rest ≡ 35 → rest ≡ 35
past true number rest n e = absurd (n e)
past false number rest n e = e

-- 35 "FOLLOWS 32": it is given only where the denominator is in range
pub ashore_last : (o : Opening) → fault o ≡ 35 → denominator_fits o.settings.denominator ≡ true
unfolding fault denominator_fault
ashore_last o e =
    let e14 =
    past _ 13 _ (λ h. omega (arith, h)) (past _ 12 _ (λ h. omega (arith, h)) (past _ 11 _ (λ h. omega (arith, h)) (past _ 15 _ (λ h. omega (arith, h)) e)))
    in
    go (denominator_fits o.settings.denominator) (past _ 14 _ (λ h. omega (arith, h)) e14)
  where
    go : (d : Bool) → or_else (cond (not d) 32 0) (ashore_fault o.ashore o.graph.n) ≡ 35 → d ≡ true
    go true h = refl
    go false h = absurd (omega (arith, h))

open_refused : (o : Opening) (k : ℕ) → fault o ≡ k → (number place : ℕ) → (opened_by o k).answer ≡ refused number place
    → Refusal no_search (opens o) (opened_by o k) number place
unfolding opened_by
open_refused o zero f number place e = absurd (let z : ◌≡◌ {A = ℕ} 0 1 = cc in omega arith)
open_refused o (suc k) f number place e =
    refusal no_search (opens o) (suc k) (in_right (suc k) unfit faults (fault_known o k f)) number place e

show_refused : (s : Progress) (l : List ℕ) (b : Bool) (i : Incumbent (List Bool)) (number place : ℕ)
    → (shown_by s l b i).answer ≡ refused number place → Refusal (searching s) (show l) (shown_by s l b i) number place
unfolding shown_by
show_refused s l false i number place e = refusal (searching s) (show l) 22 (inr (inr (inl refl))) number place e
show_refused s l true no_tour number place e = refusal (searching s) (show l) 23 (inr (inr (inr (inl refl)))) number place e
show_refused s l true (a_tour r) number place e = go (eqb (length l) s.opening.graph.m) e
  where
    shows : Reply
    shows = record { state = searching s; answer = accepted; lent = tour_bytes r }

    go : (b : Bool) → (cond b shows (refuses (searching s) (show l) 11)).answer ≡ refused number place
        → Refusal (searching s) (show l) (cond b shows (refuses (searching s) (show l) 11)) number place
    go true f = absurd (let z : ◌≡◌ {A = ℕ} 0 1 = cc in omega arith)
    go false f = refusal (searching s) (show l) 11 (in_right 11 unfit faults (inr (inl refl))) number place f

-- A REFUSAL CHANGES NOTHING
pub refused-leaves : (s : State) (c : Call) (number place : ℕ) → (step s c).answer ≡ refused number place
    → Refusal s c (step s c) number place
unfolding step run_by
refused-leaves no_search (opens o) number place e = open_refused o (fault o) refl number place e
refused-leaves no_search (run budget) number place e = refusal no_search (run budget) 20 (inl refl) number place e
refused-leaves no_search tell number place e = refusal no_search tell 20 (inl refl) number place e
refused-leaves no_search (show l) number place e = refusal no_search (show l) 20 (inl refl) number place e
refused-leaves no_search close number place e = refusal no_search close 20 (inl refl) number place e
refused-leaves (searching s) (opens o) number place e = refusal (searching s) (opens o) 21 (inr (inl refl)) number place e
refused-leaves (searching s) (run budget) number place e = absurd (let z : ◌≡◌ {A = ℕ} 0 1 = cc in omega arith)
refused-leaves (searching s) tell number place e = absurd (let z : ◌≡◌ {A = ℕ} 0 1 = cc in omega arith)
refused-leaves (searching s) (show l) number place e = show_refused s l (finished s) s.incumbent number place e
refused-leaves (searching s) close number place e = absurd (let z : ◌≡◌ {A = ℕ} 0 1 = cc in omega arith)
