-- WHAT A FINISHED SEARCH SAYS (`Says`, `Shows`), which crate shelf's Demand3 takes up: that is the statement of demand 3, over all seven calls. Here
-- it is for the five calls alone, for every way in which they can be made (`Interface`): a step on the way, proved by Following of crate search's
-- calls (its Demand3: `calls`). What it speaks of is defined in Tours and afloat's Over (a tour), Machine (the machine) and Calls (calls and
-- lists). Nothing is proved here.
use Rattle.std.specs.Prelude.{◌≡◌, ◌↔◌, Bool, true, false, List, [], ◌∷◌, ℕ, suc, ◌-◌, ◌^◌, ◌≤◌, length, ℤ, ◌≤ℤ◌}
use Rattle.lists.specs.Bools.{bit}
use Rattle.lists.specs.Members.{◌∈◌}
use Rattle.lists.specs.Numbers.{up_to}
use Rattle.lists.specs.Rows.{row}
use Rattle.graph.specs.Network.{Network, network}
use Rattle.tree_theory.specs.OneTree.{Edges, lacks_first}
use Rattle.tours.specs.Tours.{cost}
use Rattle.tours.specs.OneNetwork.{SameEdge, OneNetwork}
use Rattle.afloat.specs.Over.{ashore, FeasibleOver}
use Rattle.machine.specs.Machine.{Opening, State, no_search, searching, finished}
use Rattle.machine.specs.Calls.{Call, tell, show, Verdict, going_on, none, best, Answer, accepted, tells, step, leaves}
use Rattle.machine.specs.Calls.{since, history, free_at_start}

abbrev pub Finished : State → Type 0
Finished no_search = ⊥
Finished (searching s) = (finished s ≡ true)

-- the list leaves a finished search, which was opened with o
pub record LeavesFinished (cs : List Call) (o : Opening) : Type 0 where
  pub total : ℕ
  pub opened : history cs ≡ since o total
  pub done : Finished (leaves cs)

-- "'Such a round' is an allowed round of the chart given at opening, with a cost .. at or below the ceiling given there." Document 02, C-20: "A round
-- now visits every buoy that is afloat"; "The verdict and ruling facts are about those rounds"
abbrev pub Such : Opening → Edges → Type 0
Such o t = FeasibleOver (ashore o.ashore) (network o.graph) o.settings.ceiling t

-- document 02, C-23: "With legs numbered alike": each edge stands in both under one number
abbrev pub NumberedAlike : Network → Network → Type 0
NumberedAlike g h = (k : ℕ) → k ∈ up_to g.m → SameEdge g h k k

-- ---- what a finished search tells and shows: `next` is what the next call answers, `list` the list that it leaves, and `said` how an
-- answer of the machine's is said

-- "each hunt shows such a round, of exactly the cost told, and every other such round costs at least as much"; "What it tells or shows is
-- what tell, or show with a list of m bytes, gives next." Document 02, C-23: "Of allowed rounds of least cost the hunt now shows the first: of
-- two, the one that lacks the highest-numbered leg in which they differ."
pub record Shows {A : Type 0} (said : Answer → A) (next : Call → A) (list : Call → List ℕ) (o : Opening) (c : ℤ) : Type 0 where
  pub tour : Edges
  pub such : Such o tour
  pub exact : cost (network o.graph) tour ≡ c
  pub least : (other : Edges) → Such o other → c ≤ℤ cost (network o.graph) other
  pub first : (other : Edges) → Such o other → cost (network o.graph) other ≡ c → lacks_first o.graph.m other tour ≡ false
  -- accepted, and the list then has a byte for each edge, "1 in, 0 out"
  pub accepts : (l : List ℕ) → length l ≡ o.graph.m → next (show l) ≡ said accepted
  pub writes : (l : List ℕ) → length l ≡ o.graph.m → list (show l) ≡ row o.graph.m (λ k. bit (tour k))

abbrev pub Otherwise : {A : Type 0} → (Answer → A) → (Call → A) → (Call → List ℕ) → Opening → Verdict → Type 0
Otherwise said next list o going_on = ⊥
Otherwise said next list o none = Unit {0}
Otherwise said next list o (best c) = Shows said next list o c

pub record Says {A : Type 0} (said : Answer → A) (next : Call → A) (list : Call → List ℕ) (o : Opening) (v : Verdict) : Type 0 where
  pub count : ℕ
  pub told : next tell ≡ said (tells v count)
  -- "'none' exactly when no round keeps the required legs, avoids the struck and costs at most the ceiling. Otherwise .."
  pub exactly : (v ≡ none) ↔ ((t : Edges) → ¬ Such o t)
  pub otherwise : Otherwise said next list o v

-- of two searches: show with one list is answered alike, and leaves it with the same bytes
abbrev pub ShowAlike : {A : Type 0} → (Call → A) → (Call → List ℕ) → (Call → A) → (Call → List ℕ) → Type 0
ShowAlike next list next' list' = (l : List ℕ) → (next (show l) ≡ next' (show l)) × (list (show l) ≡ list' (show l))

-- ---- a way in which the calls can be made

pub record Interface : Type 1 where
  -- what the caller lends, and what a call answers
  pub Lent : Type 0
  pub Reply : Type 0
  -- "a fresh record"
  pub fresh : Lent
  -- a call: the record that it leaves, its answer, and the lent list as it leaves it
  pub next : Lent → Call → Lent
  pub answer : Lent → Call → Reply
  pub list : Lent → Call → List ℕ
  -- how an answer of the machine's is said
  pub said : Answer → Reply
  -- the state that a record holds, the record of a state, and the record's own check
  pub holds : Lent → State
  pub made : State → Lent
  pub sound : Lent → Bool

-- "Each call has arguments of its own and gets the record as the call before left it, refused or not": the record that a list leaves
unfoldable pub after : (i : Interface) → i.Lent → List Call → i.Lent
after i r [] = r
after i r (c ∷ cs) = after i (i.next r c) cs

-- "each call answers as document 01's machine does, and after the list the record holds that machine's state": cs are the calls before, c is
-- whatever call comes next
pub record AsTheMachine (i : Interface) (cs : List Call) : Type 0 where
  -- "each call's answer (accepted, 'going on' or 'finished', verdict, cost, count, or a refusal's number and place)"
  pub answered : (c : Call) → i.answer (after i i.fresh cs) c ≡ i.said (step (leaves cs) c).answer
  -- "and every byte of show's list"
  pub listed : (c : Call) → i.list (after i i.fresh cs) c ≡ (step (leaves cs) c).lent
  -- "after the list whether a hunt is open, and if so U, the pile from bottom to top with each node's marks 1 to m, the best round and the
  -- count"; document 02, C-16: "its nodes' dues are compared too"
  pub holds : i.holds (after i i.fresh cs) ≡ leaves cs
  -- no other byte is left open
  pub bytes : after i i.fresh cs ≡ i.made (leaves cs)
  -- "24 never comes up"
  pub passes : i.sound (after i i.fresh cs) ≡ true

-- what the calls say after a list that leaves a finished search, opened with o
abbrev pub SaysAfter : (i : Interface) → List Call → Opening → Verdict → Type 0
SaysAfter i cs o v = let r = after i i.fresh cs in Says i.said (i.answer r) (i.list r) o v

abbrev pub ShowAlikeAfter : (i : Interface) → List Call → List Call → Type 0
ShowAlikeAfter i cs ds =
    let r = after i i.fresh cs in let q = after i i.fresh ds in ShowAlike (i.answer r) (i.list r) (i.answer q) (i.list q)

pub record Demand3 (i : Interface) : Type 0 where
  -- "For every list of opening, run, tell, show and close calls on one record, refused ones included, from a fresh record"
  pub equal : (cs : List Call) → AsTheMachine i cs
  -- "Take two such lists that each leave a finished hunt, both of one sea (its legs in any order) and opened with one ceiling, whatever
  -- dues, sweeps and steps the two have. Tell gives both the same verdict: .."; so whatever denominators (document 02, C-17), and with lifting or
  -- without (C-13). C-23: "With legs numbered alike, finished hunts now agree on the round as well as its cost." C-20: "two hunts agree when their
  -- lists are the same"
  pub agree : (cs ds : List Call) (o p : Opening) → LeavesFinished cs o → LeavesFinished ds p
      → OneNetwork (network o.graph) (network p.graph) → o.ashore ≡ p.ashore → o.settings.ceiling ≡ p.settings.ceiling
      → (v : Verdict) × SaysAfter i cs o v × SaysAfter i ds p v
      × (NumberedAlike (network o.graph) (network p.graph) → ShowAlikeAfter i cs ds)
  -- "A hunt whose accepted run calls allow at least 2^(k+1) − 1 nodes in all, k legs being free at the start and k at most 62, is
  -- finished."
  pub ends : (cs : List Call) (o : Opening) (total : ℕ) → history cs ≡ since o total
      → free_at_start o ≤ 62 → 2 ^ suc (free_at_start o) - 1 ≤ total
      → Finished (i.holds (after i i.fresh cs))
