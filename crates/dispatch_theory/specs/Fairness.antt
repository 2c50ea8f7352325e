-- What "nobody waits past eight turns" says: a stretch of calls with eight accepted turns and no accepted add or close, and that a search is served in
-- one of these turns. (It is proved in proofs/Fairness.) Assumes nothing.
use Rattle.std.proofs.Math.Path.{◌≡◌, refl, ap, subst}
use Rattle.std.proofs.Common.{◌∙◌, true≢false}
use Rattle.std.specs.Prelude.{Bool, cond, set}
use Rattle.std.proofs.Math.Bool.{true, false}
use mathlib.Core.List.{List, ◌∷◌, ◌++◌}
use Prim.Native.Nat.{ℕ, zero, suc}
use Rattle.std.proofs.Math.Seq.{set-get_or}
use Rattle.lent_records.specs.Machine.{Machine, Searches, after}
use Rattle.lent_records.specs.Places.{under, put}
use Rattle.dispatch_theory.specs.Dispatcher.{Calls, Dispatcher, DispatchCall, add, turn, tell_at, show_at, close_at}
use Rattle.dispatch_theory.specs.Dispatcher.{placed, served, said, Route, nowhere, to}
use Rattle.dispatch_theory.specs.Dispatcher.{state_at, free_place, next_place, place_fault}
use Rattle.dispatch_theory.specs.Dispatcher.{add_route, turn_route, place_route, routed, add_answer, turn_answer, place_answer}
use Rattle.dispatch_theory.specs.Dispatcher.{dispatch_answer}
use Rattle.dispatch_theory.specs.Dispatcher.{places_by, last_by, dispatch_next, is_taken, dispatcher}
use Rattle.dispatch_theory.specs.Stretches.{Still, is_turn}

-- ---- quiet stretches

-- what the machine's calls leave alone
pub record Steady (m : Machine) (h : Calls m) : Type 0 where
  -- "Tell and show leave the state as it is"
  pub tells : (s : m.State) → m.next s h.tell ≡ s
  pub shows : (s : m.State) (l : List ℕ) → m.next s (h.show l) ≡ s
  -- "A refused call leaves it too"
  pub refuses : (s : m.State) → m.is_accepted (m.answer s h.close) ≡ false → m.next s h.close ≡ s

-- one of the turns of the list serves the place i
pub record ServedIn (m : Machine) (o : Searches m) (h : Calls m) (d : Dispatcher m.State) (i : ℕ)
    (xs : List (DispatchCall h.Opening)) : Type 0 where
  pub before : List (DispatchCall h.Opening)
  pub portion : ℕ
  pub since : List (DispatchCall h.Opening)
  pub split : xs ≡ before ++ (turn portion ∷ since)
  pub serves : dispatch_answer m o h (after (dispatcher m o h) d before) (turn portion) ≡ served i

module _ (m : Machine) (o : Searches m) (h : Calls m) (y : Steady m h) where
  -- ---- a call that is no accepted turn leaves all as it is

  put_back : (l : List m.State) (i : ℕ) (s : m.State) → s ≡ under m.begin l i → put l i s ≡ l
  unfolding under put
  put_back l zero s e = refl
  put_back l (suc i) s e = ap (set l i) e ∙ set-get_or l i m.begin

  at_place : (d : Dispatcher m.State) (i : ℕ) (c : m.Call) (n : ℕ) → (n ≡ 0 → m.next (state_at m o h d i) c ≡ state_at m o h d i)
      → places_by m o h d (place_route m o h i c n) ≡ d.places
  unfolding places_by place_route state_at
  at_place d i c zero e = put_back d.places i (m.next (under m.begin d.places i) c) (e refl)
  at_place d i c (suc n) e = refl

  add-refused : (d : Dispatcher m.State) (a : h.Opening) (n : ℕ) → is_taken m o h (add_answer m o h d a n) ≡ false
      → add_route m o h d a n ≡ nowhere
  unfolding add_answer add_route
  add-refused d a zero e = refl
  add-refused d a (suc n) e = go (m.is_accepted (m.answer (state_at m o h d (suc n)) (h.opens a))) e
    where
      go : (b : Bool) → is_taken m o h (cond b (placed (suc n)) (said (m.answer (state_at m o h d (suc n)) (h.opens a)))) ≡ false
          → ◌≡◌ {A = Route m.Call} (cond b (to (suc n) (h.opens a)) nowhere) nowhere
      go true f = absurd (true≢false f)
      go false f = refl

  turn_refused : (p j : ℕ) → is_taken m o h (turn_answer m o h p j) ≡ false → turn_route m o h p j ≡ nowhere
  unfolding turn_answer turn_route
  turn_refused zero j e = refl
  turn_refused (suc p) zero e = absurd (true≢false e)
  turn_refused (suc p) (suc j) e = absurd (true≢false e)

  pub still : (d : Dispatcher m.State) (x : DispatchCall h.Opening) → Still m o h d x → is_turn m o h d x ≡ false
      → dispatch_next m o h d x ≡ d
  unfolding dispatch_next routed places_by last_by dispatch_answer
  still d (add a) s f = λ i. record { places = ap (places_by m o h d) (add-refused d a (free_place m o h d) s) i; last = d.last }
  still d (turn p) s f =
      ap (λ (r : Route m.Call). record { places = places_by m o h d r; last = last_by m o h d.last (turn p) r })
      (turn_refused p (next_place m o h d) f)
  still d (tell_at i) s f = λ k. record {
    places = at_place d i h.tell (place_fault m o h d i) (λ e. y.tells (state_at m o h d i)) k;
    last = d.last;
  }
  still d (show_at i l) s f = λ k. record {
    places = at_place d i (h.show l) (place_fault m o h d i) (λ e. y.shows (state_at m o h d i) l) k;
    last = d.last;
  }
  still d (close_at i) s f = λ k. record {
    places = at_place d i h.close (place_fault m o h d i) (λ e. y.refuses (state_at m o h d i) (refusing e)) k;
    last = d.last;
  }
    where
      refusing : place_fault m o h d i ≡ 0 → m.is_accepted (m.answer (state_at m o h d i) h.close) ≡ false
      refusing e = unfold place_answer in subst (λ (n : ℕ). is_taken m o h (place_answer m o h d i h.close n) ≡ false) e s
