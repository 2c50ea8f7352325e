-- EVERY PLACE IS ITS MACHINE RUN ALONE: after any list of the dispatcher's calls, the state at a place is what the machine's own list of
-- the calls at that place leaves. Assumes nothing.
use Rattle.std.proofs.Math.Path.{◌≡◌, refl, sym, ap}
use Rattle.std.proofs.Common.{◌∙◌, eqb-true, eq-eqb, ltb-true}
use Rattle.std.specs.Prelude.{Bool, not, cond, ltb}
use Rattle.std.proofs.Math.Bool.{true, false}
use mathlib.Core.List.{List, [], ◌∷◌, ◌++◌}
use Prim.Native.Nat.{ℕ, zero, suc, ◌≤◌}
use native.Mathlib.Omega.{arith}
use Rattle.std.proofs.Math.Dec.{eqb}
use Rattle.std.proofs.Math.ListN.{length}
use Rattle.std.proofs.lemmas.Bool.{eqb-false}
use Rattle.lists.specs.Fill.{replicate-at}
use Rattle.lent_records.specs.Machine.{Machine, Searches, after, after-append, leaves, leaves-append}
use Rattle.lent_records.specs.Places.{is_name, name_range, under, put, put-size, put_same, put_other}
use Rattle.dispatch_theory.specs.Dispatcher.{Calls, Dispatcher, DispatchCall, add, turn, tell_at, show_at, close_at, Route, nowhere, to}
use Rattle.dispatch_theory.specs.Dispatcher.{following, first_after, fresh, state_at, is_held, free_place, next_place, place_fault}
use Rattle.dispatch_theory.specs.Dispatcher.{add_route, turn_route, place_route, routed, places_by, last_by, dispatch_next, dispatcher}
use Rattle.dispatch_theory.specs.Dispatcher.{Response, placed, served, said, add_answer, turn_answer, dispatch_answer, pick, own_from}
use Rattle.dispatch_theory.specs.Dispatcher.{own}

pub following_range : (l : ℕ) → (1 ≤ following l) × (following l ≤ 8)
unfolding following
following_range l = go (ltb l 8) refl
  where
    go : (b : Bool) → ltb l 8 ≡ b → (1 ≤ cond b (suc l) 1) × (cond b (suc l) 1 ≤ 8)
    go true e = let q = ltb-true l 8 e in (omega arith, omega arith)
    go false e = (omega arith, omega arith)

pub first_range : (t : ℕ → Bool) (n l : ℕ) → first_after t n l ≤ 8
unfolding first_after
first_range t zero l = omega arith
first_range t (suc n) l = go (t (following l)) (first_range t n (following l))
  where
    go : (b : Bool) → first_after t n (following l) ≤ 8 → cond b (following l) (first_after t n (following l)) ≤ 8
    go true r = (following_range l).1
    go false r = r

-- a route leads to one of the eight places
abbrev pub InRange : {C : Type 0} → Route C → Type 0
InRange nowhere = Unit {0}
InRange (to i c) = (1 ≤ i) × (i ≤ 8)

module _ (m : Machine) (o : Searches m) (h : Calls m) where
  fault_none : (d : Dispatcher m.State) (i : ℕ) → place_fault m o h d i ≡ 0 → is_name i ≡ true
  unfolding place_fault
  fault_none d i e = go (is_name i) (is_held m o h d i) e
    where
      go : (a b : Bool) → ◌≡◌ {A = ℕ} (cond (not a) 42 (cond (not b) 20 0)) 0 → a ≡ true
      go true b f = refl
      go false b f = absurd (omega arith)

  place_range : (d : Dispatcher m.State) (i : ℕ) (c : m.Call) → InRange (place_route m o h i c (place_fault m o h d i))
  place_range d i c = go (place_fault m o h d i) refl
    where
      go : (n : ℕ) → place_fault m o h d i ≡ n → InRange (place_route m o h i c n)
      go zero e = unfold place_route in name_range i (fault_none d i e)
      go (suc n) e = unfold place_route in tt

  free_range : (d : Dispatcher m.State) → free_place m o h d ≤ 8
  unfolding free_place
  free_range d = first_range _ _ _

  pub route_range : (d : Dispatcher m.State) (x : DispatchCall h.Opening) → InRange (routed m o h d x)
  unfolding routed
  route_range d (add a) = go (free_place m o h d) (free_range d)
    where
      go : (n : ℕ) → n ≤ 8 → InRange (add_route m o h d a n)
      go zero r = unfold add_route in tt
      go (suc i) r = unfold add_route in by (m.is_accepted (m.answer (state_at m o h d (suc i)) (h.opens a)))
        where
          by : (b : Bool) → InRange (cond b (to (suc i) (h.opens a)) nowhere)
          by true = (omega arith, r)
          by false = tt
  route_range d (turn p) = go p (next_place m o h d) (unfold next_place in first_range _ 8 d.last)
    where
      go : (p n : ℕ) → n ≤ 8 → InRange (turn_route m o h p n)
      go zero n r = unfold turn_route in tt
      go (suc p) zero r = unfold turn_route in tt
      go (suc p) (suc n) r = unfold turn_route in (omega arith, r)
  route_range d (tell_at i) = place_range d i h.tell
  route_range d (show_at i l) = place_range d i (h.show l)
  route_range d (close_at i) = place_range d i h.close

  -- ---- one call

  pub places-size : (d : Dispatcher m.State) (x : DispatchCall h.Opening)
      → length (dispatch_next m o h d x).places ≡ length d.places
  unfolding dispatch_next
  places-size d x = go (routed m o h d x)
    where
      go : (r : Route m.Call) → length (places_by m o h d r) ≡ length d.places
      go nowhere = unfold places_by in refl
      go (to i c) = unfold places_by in put-size d.places i (m.next (state_at m o h d i) c)

  at_next : (d : Dispatcher m.State) (i : ℕ) (x : DispatchCall h.Opening) → length d.places ≡ 8
      → state_at m o h (dispatch_next m o h d x) i ≡ after m (state_at m o h d i) (pick m o h i (routed m o h d x))
  unfolding state_at dispatch_next
  at_next d i x long = go (routed m o h d x) (route_range d x)
    where
      go : (r : Route m.Call) → InRange r
          → under m.begin (places_by m o h d r) i ≡ after m (state_at m o h d i) (pick m o h i r)
      go nowhere q = unfold places_by pick after state_at in refl
      go (to j c) q = unfold places_by pick state_at in by (eqb i j) refl
        where
          by : (b : Bool) → eqb i j ≡ b
              → under m.begin (put d.places j (m.next (under m.begin d.places j) c)) i
              ≡ after m (under m.begin d.places i) (cond b (c ∷ []) [])
          by true e = unfold after in (rw (eqb-true i j e)
              (put_same m.begin d.places j (m.next (under m.begin d.places j) c) q.0
              (omega (arith, q.1, long))))
          by false e = unfold after in put_other m.begin d.places j i (m.next (under m.begin d.places j) c) (eqb-false i j e)

  -- the place last served is one of the eight, or none yet
  pub last_range : (d : Dispatcher m.State) (x : DispatchCall h.Opening) → d.last ≤ 8 → (dispatch_next m o h d x).last ≤ 8
  unfolding dispatch_next last_by
  last_range d (add a) e = e
  last_range d (turn p) e = go (routed m o h d (turn p)) (route_range d (turn p))
    where
      go : (r : Route m.Call) → InRange r → last_by m o h d.last (turn p) r ≤ 8
      go nowhere q = unfold last_by in e
      go (to j c) q = unfold last_by in omega (arith, e, q.1)
  last_range d (tell_at i) e = e
  last_range d (show_at i l) e = e
  last_range d (close_at i) e = e

  -- ---- lists of calls

  pub size-after : (xs : List (DispatchCall h.Opening)) (d : Dispatcher m.State) → length d.places ≡ 8
      → length (after (dispatcher m o h) d xs).places ≡ 8
  unfolding after
  size-after [] d e = e
  size-after (x ∷ xs) d e = size-after xs (dispatch_next m o h d x) (places-size d x ∙ e)

  alone_from : (xs : List (DispatchCall h.Opening)) (d : Dispatcher m.State) (i : ℕ) → length d.places ≡ 8
      → state_at m o h (after (dispatcher m o h) d xs) i ≡ after m (state_at m o h d i) (own_from m o h d i xs)
  unfolding after own_from
  alone_from [] d i long = refl
  alone_from (x ∷ xs) d i long =
      alone_from xs (dispatch_next m o h d x) i (places-size d x ∙ long)
      ∙ ap (λ (s : m.State). after m s (own_from m o h (dispatch_next m o h d x) i xs)) (at_next d i x long)
      ∙ sym (after-append m (state_at m o h d i) (pick m o h i (routed m o h d x)) (own_from m o h (dispatch_next m o h d x) i xs))

  empty : (i : ℕ) → state_at m o h (fresh m o h) i ≡ m.begin
  unfolding state_at fresh under
  empty zero = refl
  empty (suc i) = replicate-at 8 m.begin i

  -- THE STATE AT A PLACE is what its own calls leave from a fresh record
  pub alone : (xs : List (DispatchCall h.Opening)) (i : ℕ)
      → state_at m o h (leaves (dispatcher m o h) xs) i ≡ leaves m (own m o h i xs)
  unfolding leaves own
  alone xs i =
      alone_from xs (fresh m o h) i (unfold fresh in refl)
      ∙ ap (λ (s : m.State). after m s (own_from m o h (fresh m o h) i xs)) (empty i)

  -- and after any list on, from what stood there
  pub alone_since : (ws xs : List (DispatchCall h.Opening)) (i : ℕ)
      → state_at m o h (leaves (dispatcher m o h) (ws ++ xs)) i
      ≡ after m (state_at m o h (leaves (dispatcher m o h) ws) i) (own_from m o h (leaves (dispatcher m o h) ws) i xs)
  alone_since ws xs i =
      ap (λ (d : Dispatcher m.State). state_at m o h d i) (leaves-append (dispatcher m o h) ws xs)
      ∙ alone_from xs (leaves (dispatcher m o h) ws) i (unfold leaves in size-after ws (fresh m o h) (unfold fresh in refl))

  -- ---- a place's own calls, by the answers

  -- a turn that answers the place i is a run there
  pub own_turn : (d : Dispatcher m.State) (i p : ℕ) → dispatch_answer m o h d (turn p) ≡ served i
      → pick m o h i (routed m o h d (turn p)) ≡ h.run p ∷ []
  unfolding dispatch_answer routed turn_answer turn_route pick
  own_turn d i p e = go p (next_place m o h d) e
    where
      go : (p j : ℕ) → turn_answer m o h p j ≡ served i → pick m o h i (turn_route m o h p j) ≡ h.run p ∷ []
      go zero j f = absurd (let z : ◌≡◌ {A = ℕ} 0 1 = cc in omega arith)
      go (suc p) zero f = absurd (let z : ◌≡◌ {A = ℕ} 0 1 = cc in omega arith)
      go (suc p) (suc j) f = rw (eq-eqb i (suc j) (cc))

  -- an add that answers the place i is an opening there
  pub own-add : (d : Dispatcher m.State) (i : ℕ) (a : h.Opening) → dispatch_answer m o h d (add a) ≡ placed i
      → pick m o h i (routed m o h d (add a)) ≡ h.opens a ∷ []
  unfolding dispatch_answer routed add_answer add_route pick
  own-add d i a e = go (free_place m o h d) e
    where
      go : (j : ℕ) → add_answer m o h d a j ≡ placed i → pick m o h i (add_route m o h d a j) ≡ h.opens a ∷ []
      go zero f = absurd (let z : ◌≡◌ {A = ℕ} 0 1 = cc in omega arith)
      go (suc j) f = by (m.is_accepted (m.answer (state_at m o h d (suc j)) (h.opens a))) f
        where
          by : (b : Bool)
              → ◌≡◌ {A = Response m.Answer}
              (cond b (placed (suc j)) (said (m.answer (state_at m o h d (suc j)) (h.opens a)))) (placed i)
              → pick m o h i (cond b (to (suc j) (h.opens a)) nowhere) ≡ h.opens a ∷ []
          by true g = rw (eq-eqb i (suc j) (cc))
          by false g = absurd (let z : ◌≡◌ {A = ℕ} 0 1 = cc in omega arith)
