-- C-24's dispatcher over any machine: eight places, each with a state of its machine, and the place last served. A place whose state has no
-- search open is empty. Every call goes to one place at most, as one call of its machine (`routed`). Definitions only.
use Rattle.std.specs.Prelude.{Bool, true, not, cond, ◌&&◌, List, [], ◌∷◌, ◌++◌, ℕ, zero, suc, ltb, eqb, replicate}
use Rattle.lent_records.specs.Machine.{Machine, Searches}
use Rattle.lent_records.specs.Places.{is_name, under, put}

-- the machine's calls that the dispatcher makes, and when a search is finished
pub record Calls (m : Machine) : Type 1 where
  pub Opening : Type 0
  pub opens : Opening → m.Call
  pub run : ℕ → m.Call
  pub tell : m.Call
  pub show : List ℕ → m.Call
  pub close : m.Call
  pub finished : m.State → Bool

-- the eight places, and the one last served (0: none yet)
pub record Dispatcher (S : Type 0) : Type 0 where
  pub places : List S
  pub last : ℕ

pub data DispatchCall (O : Type 0) : Type 0 where
  add : O → DispatchCall O
  turn : ℕ → DispatchCall O
  tell_at : ℕ → DispatchCall O
  show_at : ℕ → List ℕ → DispatchCall O
  close_at : ℕ → DispatchCall O

pub data Response (A : Type 0) : Type 0 where
  -- "adding answers that place"
  placed : ℕ → Response A
  -- "A turn answers the place it served."
  served : ℕ → Response A
  -- "When all are finished, or none is held, a turn changes nothing and says so."
  idle : Response A
  -- what the machine at the place answers, or a refusal
  said : A → Response A

-- where a call goes
pub data Route (C : Type 0) : Type 0 where
  nowhere : Route C
  to : ℕ → C → Route C

-- "in cyclic order of its places 1 to 8": the place after l; "the first turn begins at place 1"
unfoldable pub following : ℕ → ℕ
following l = cond (ltb l 8) (suc l) 1

-- the first of n places after l for which the test holds, or 0
unfoldable pub first_after : (ℕ → Bool) → ℕ → ℕ → ℕ
unfolding following
first_after t zero l = 0
first_after t (suc n) l = cond (t (following l)) (following l) (first_after t n (following l))

module _ (m : Machine) (o : Searches m) (h : Calls m) where
  unfoldable pub fresh : Dispatcher m.State
  fresh = record { places = replicate 8 m.begin; last = 0 }

  -- the state at a place
  unfoldable pub state_at : Dispatcher m.State → ℕ → m.State
  state_at d i = under m.begin d.places i

  unfoldable pub is_held : Dispatcher m.State → ℕ → Bool
  is_held d i = o.is_open (state_at d i)

  -- "unfinished"
  unfoldable pub waits : Dispatcher m.State → ℕ → Bool
  waits d i = is_held d i && not (h.finished (state_at d i))

  -- "the free place with the smallest number, closed ones included", or 0
  unfoldable pub free_place : Dispatcher m.State → ℕ
  free_place d = first_after (λ i. not (is_held d i)) 8 0

  -- "the next unfinished hunt in cyclic order of its places 1 to 8, after the one last served", or 0
  unfoldable pub next_place : Dispatcher m.State → ℕ
  next_place d = first_after (waits d) 8 d.last

  -- "42 when a place to close, tell or show is not 1 to 8; an empty place is 20, after 42"
  unfoldable pub place_fault : Dispatcher m.State → ℕ → ℕ
  place_fault d i = cond (not (is_name i)) 42 (cond (not (is_held d i)) 20 0)

  -- ---- where a call goes

  -- "41 when a ninth hunt is added while eight are held", and then the opening's own refusals
  unfoldable pub add_route : Dispatcher m.State → h.Opening → ℕ → Route m.Call
  add_route d a zero = nowhere
  add_route d a (suc i) = cond (m.is_accepted (m.answer (state_at d (suc i)) (h.opens a))) (to (suc i) (h.opens a)) nowhere

  -- "40 when a turn's p is 0"; "Each turn gives p nodes to .."
  unfoldable pub turn_route : ℕ → ℕ → Route m.Call
  turn_route zero j = nowhere
  turn_route (suc p) zero = nowhere
  turn_route (suc p) (suc j) = to (suc j) (h.run (suc p))

  unfoldable pub place_route : ℕ → m.Call → ℕ → Route m.Call
  place_route i c zero = to i c
  place_route i c (suc n) = nowhere

  unfoldable pub routed : Dispatcher m.State → DispatchCall h.Opening → Route m.Call
  routed d (add a) = add_route d a (free_place d)
  routed d (turn p) = turn_route p (next_place d)
  routed d (tell_at i) = place_route i h.tell (place_fault d i)
  routed d (show_at i l) = place_route i (h.show l) (place_fault d i)
  routed d (close_at i) = place_route i h.close (place_fault d i)

  -- ---- what it answers

  unfoldable pub add_answer : Dispatcher m.State → h.Opening → ℕ → Response m.Answer
  add_answer d a zero = said (m.refused 41)
  add_answer d a (suc i) =
      cond (m.is_accepted (m.answer (state_at d (suc i)) (h.opens a))) (placed (suc i)) (said (m.answer (state_at d (suc i)) (h.opens a)))

  unfoldable pub turn_answer : ℕ → ℕ → Response m.Answer
  turn_answer zero j = said (m.refused 40)
  turn_answer (suc p) zero = idle
  turn_answer (suc p) (suc j) = served (suc j)

  unfoldable pub place_answer : Dispatcher m.State → ℕ → m.Call → ℕ → Response m.Answer
  place_answer d i c zero = said (m.answer (state_at d i) c)
  place_answer d i c (suc n) = said (m.refused (suc n))

  unfoldable pub dispatch_answer : Dispatcher m.State → DispatchCall h.Opening → Response m.Answer
  dispatch_answer d (add a) = add_answer d a (free_place d)
  dispatch_answer d (turn p) = turn_answer p (next_place d)
  dispatch_answer d (tell_at i) = place_answer d i h.tell (place_fault d i)
  dispatch_answer d (show_at i l) = place_answer d i (h.show l) (place_fault d i)
  dispatch_answer d (close_at i) = place_answer d i h.close (place_fault d i)

  -- ---- what it leaves

  -- the places after a call at one of them
  unfoldable pub places_by : Dispatcher m.State → Route m.Call → List m.State
  places_by d nowhere = d.places
  places_by d (to i c) = put d.places i (m.next (state_at d i) c)

  -- a turn that serves a place is the last
  unfoldable pub last_by : ℕ → DispatchCall h.Opening → Route m.Call → ℕ
  last_by l (add a) r = l
  last_by l (turn p) nowhere = l
  last_by l (turn p) (to j c) = j
  last_by l (tell_at i) r = l
  last_by l (show_at i x) r = l
  last_by l (close_at i) r = l

  unfoldable pub dispatch_next : Dispatcher m.State → DispatchCall h.Opening → Dispatcher m.State
  dispatch_next d x = record { places = places_by d (routed d x); last = last_by d.last x (routed d x) }

  unfoldable pub dispatch_given : DispatchCall h.Opening → List ℕ
  dispatch_given (add a) = []
  dispatch_given (turn p) = []
  dispatch_given (tell_at i) = []
  dispatch_given (show_at i l) = l
  dispatch_given (close_at i) = []

  unfoldable pub lent_by : Dispatcher m.State → List ℕ → Route m.Call → List ℕ
  lent_by d l nowhere = l
  lent_by d l (to i c) = m.lent (state_at d i) c

  unfoldable pub dispatch_lent : Dispatcher m.State → DispatchCall h.Opening → List ℕ
  dispatch_lent d x = lent_by d (dispatch_given x) (routed d x)

  abbrev pub is_taken : Response m.Answer → Bool
  is_taken (placed i) = true
  is_taken (served i) = true
  is_taken idle = true
  is_taken (said a) = m.is_accepted a

  -- the dispatcher is a machine too
  abbrev pub dispatcher : Machine
  dispatcher = record {
    State = Dispatcher m.State;
    Call = DispatchCall h.Opening;
    Answer = Response m.Answer;
    begin = fresh;
    next = dispatch_next;
    answer = dispatch_answer;
    lent = dispatch_lent;
    given = dispatch_given;
    refused = λ n. said (m.refused n);
    is_accepted = is_taken;
    refusal = m.refusal;
  }

  -- ---- a place's own calls

  unfoldable pub pick : ℕ → Route m.Call → List m.Call
  pick i nowhere = []
  pick i (to j c) = cond (eqb i j) (c ∷ []) []

  -- of a list from d on: an accepted add at the place is an opening, a turn that served it a run, tell, show and close at it these
  unfoldable pub own_from : Dispatcher m.State → ℕ → List (DispatchCall h.Opening) → List m.Call
  own_from d i [] = []
  own_from d i (x ∷ xs) = pick i (routed d x) ++ own_from (dispatch_next d x) i xs

  unfoldable pub own : ℕ → List (DispatchCall h.Opening) → List m.Call
  own i xs = own_from fresh i xs
