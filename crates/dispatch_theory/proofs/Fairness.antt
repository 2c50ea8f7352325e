-- NOBODY WAITS PAST EIGHT TURNS: in any stretch of calls with eight accepted turns and no accepted add or close, a search that is held and
-- unfinished before it is served in one of these turns. What is measured is how many places the one last served stands before it in
-- cyclic order, (i − 1 − last) mod 8 and so 7 at most: an accepted turn serves it, or another place on the way there. Assumes nothing.
use Rattle.std.proofs.Math.Path.{◌≡◌, refl, ap, subst}
use Rattle.std.proofs.Common.{sym, ◌∙◌, inl, inr, arith}
use Rattle.std.specs.Prelude.{◌⊎◌, Bool, cond, ◌&&◌, length}
use Rattle.std.proofs.Math.Bool.{true, false, not}
use Rattle.std.proofs.lemmas.Bool.{false≢true}
use mathlib.Core.List.{List, [], ◌∷◌}
use Prim.Native.Nat.{ℕ, zero, suc, ◌+◌, ◌-◌, ◌≤◌, ◌<◌}
use Rattle.std.proofs.Math.Decide.{ℕ_discrete, dec_le}
use Rattle.std.proofs.Math.ListN.{get_or-eq_default}
use Rattle.lists.specs.Bools.{bit}
use Rattle.lent_records.specs.Machine.{Machine, Searches, after, leaves}
use Rattle.lent_records.specs.Places.{under, put_other}
use Rattle.dispatch_theory.specs.Dispatcher.{Calls, Dispatcher, DispatchCall, add, turn, tell_at, show_at, close_at}
use Rattle.dispatch_theory.specs.Dispatcher.{served, Route, to}
use Rattle.dispatch_theory.specs.Dispatcher.{following, first_after, fresh, state_at, is_held, waits, next_place}
use Rattle.dispatch_theory.specs.Dispatcher.{turn_route, routed, turn_answer}
use Rattle.dispatch_theory.specs.Dispatcher.{dispatch_answer}
use Rattle.dispatch_theory.specs.Dispatcher.{places_by, last_by, dispatch_next, is_taken, dispatcher}
use Rattle.dispatch_theory.specs.Stretches.{Still, Quiet, is_turn, turns}
use Rattle.dispatch_theory.specs.Alone.{places-size, last_range, size-after}
use Rattle.dispatch_theory.specs.Fairness.{Steady, ServedIn, still}
use Rattle.dispatch_theory.specs.Cyclic.{walk, walk_up, walk_round}

-- every place is at most seven others away
away : (l i : ℕ) → l ≤ 8 → 1 ≤ i → i ≤ 8 → (n : ℕ) × (n ≤ 7) × (walk n l ≡ i)
away l i h low high = go (dec_le (suc l) i)
  where
    go : Dec (l < i) → (n : ℕ) × (n ≤ 7) × (walk n l ≡ i)
    go (yes c) = (i - suc l, omega arith, walk_up (i - suc l) l (omega arith) ∙ omega arith)
    go (no c) = (i + 7 - l, omega arith, omega (arith, walk_round (i + 7 - l) l h (omega arith) (omega arith)))

-- what the search for a waiting place finds: the place i, or one from which i is nearer
record Found (t : ℕ → Bool) (i n j : ℕ) : Type 0 where
  waits : t j ≡ true
  nearer : (j ≡ i) ⊎ ((q : ℕ) × (q < n) × (walk q j ≡ i))

find : (t : ℕ → Bool) (i k n l : ℕ) → t i ≡ true → walk n l ≡ i → n < k → Found t i n (first_after t k l)
unfolding first_after walk
find t i zero n l w e b = absurd (omega arith)
find t i (suc k) zero l w e b = subst (λ (c : Bool). Found t i 0 (cond c (following l) (first_after t k (following l)))) (sym here)
    (record { waits = here; nearer = inl e })
  where
    here : t (following l) ≡ true
    here = ap t e ∙ w
find t i (suc k) (suc n) l w e b = go (t (following l)) refl (find t i k n (following l) w e (omega arith))
  where
    go : (c : Bool) → t (following l) ≡ c → Found t i n (first_after t k (following l))
        → Found t i (suc n) (cond c (following l) (first_after t k (following l)))
    go true f r = record { waits = f; nearer = inr (n, omega arith, e) }
    go false f r = record { waits = r.waits; nearer = further r.nearer }
      where
        further : {j : ℕ} → (j ≡ i) ⊎ ((q : ℕ) × (q < n) × (walk q j ≡ i)) → (j ≡ i) ⊎ ((q : ℕ) × (q < suc n) × (walk q j ≡ i))
        further (inl f) = inl f
        further (inr x) = inr (x.0, (let z : x.0 < n = x.1 in omega arith), x.2)

module _ (m : Machine) (o : Searches m) (h : Calls m) (y : Steady m h) where
  -- ---- one call before the rest

  later : (d : Dispatcher m.State) (i : ℕ) (x : DispatchCall h.Opening) (xs : List (DispatchCall h.Opening))
      → ServedIn m o h (dispatch_next m o h d x) i xs → ServedIn m o h d i (x ∷ xs)
  unfolding after
  later d i x xs r = record {
    before = x ∷ r.before;
    portion = r.portion;
    since = r.since;
    split = ap (λ (l : List (DispatchCall h.Opening)). x ∷ l) r.split;
    serves = r.serves;
  }

  -- a waiting place that is n others away is served within the rest, if that has more than n accepted turns
  abbrev Within : Dispatcher m.State → ℕ → List (DispatchCall h.Opening) → Type 0
  Within d i xs = (n : ℕ) → n < 8 → length d.places ≡ 8 → waits m o h d i ≡ true → walk n d.last ≡ i → n < turns m o h d xs
      → ServedIn m o h d i xs

  quiet_step : (d : Dispatcher m.State) (i : ℕ) (x : DispatchCall h.Opening) (xs : List (DispatchCall h.Opening))
      → Still m o h d x → is_turn m o h d x ≡ false → Within (dispatch_next m o h d x) i xs → Within d i (x ∷ xs)
  quiet_step d i x xs s f rest n near long w e b =
      later d i x xs
      (rest n near (places-size m o h d x ∙ long)
      (ap (λ (c : Dispatcher m.State). waits m o h c i) same ∙ w)
      (ap (λ (c : Dispatcher m.State). walk n c.last) same ∙ e)
      (let z : n < 0 + turns m o h (dispatch_next m o h d x) xs = left in omega arith))
    where
      left : n < bit false + turns m o h (dispatch_next m o h d x) xs
      left = subst (λ (c : Bool). n < bit c + turns m o h (dispatch_next m o h d x) xs) f b

      same : dispatch_next m o h d x ≡ d
      same = still m o h y d x s f

  none_waits : (d : Dispatcher m.State) (i : ℕ) → state_at m o h d i ≡ m.begin → waits m o h d i ≡ false
  unfolding waits is_held
  none_waits d i e =
      ap (λ (s : m.State). o.is_open s && not (h.finished s)) e ∙ ap (λ (b : Bool). b && not (h.finished m.begin)) o.closed

  no_place : (d : Dispatcher m.State) → waits m o h d 0 ≡ false
  no_place d = none_waits d 0 (unfold state_at under in refl)

  module _ (d : Dispatcher m.State) (p : ℕ) (j : ℕ) (at : next_place m o h d ≡ suc j) where
    serves_it : dispatch_answer m o h d (turn (suc p)) ≡ served (suc j)
    unfolding dispatch_answer turn_answer
    serves_it = ap (turn_answer m o h (suc p)) at

    goes : routed m o h d (turn (suc p)) ≡ to (suc j) (h.run (suc p))
    unfolding routed turn_route
    goes = ap (turn_route m o h (suc p)) at

    last_is : (dispatch_next m o h d (turn (suc p))).last ≡ suc j
    unfolding dispatch_next last_by
    last_is = ap (last_by m o h d.last (turn (suc p))) goes

    others_wait : (i : ℕ) → (i ≡ suc j → ⊥) → waits m o h (dispatch_next m o h d (turn (suc p))) i ≡ waits m o h d i
    unfolding waits is_held state_at dispatch_next
    others_wait i f =
        ap (λ (s : m.State). o.is_open s && not (h.finished s))
        (ap (λ (r : Route m.Call). under m.begin (places_by m o h d r) i) goes ∙ there)
      where
        there : under m.begin (places_by m o h d (to (suc j) (h.run (suc p)))) i ≡ under m.begin d.places i
        there = unfold places_by in put_other m.begin d.places (suc j) i (m.next (state_at m o h d (suc j)) (h.run (suc p))) f

  turn_step : (d : Dispatcher m.State) (i p : ℕ) (xs : List (DispatchCall h.Opening))
      → Within (dispatch_next m o h d (turn (suc p))) i xs → Within d i (turn (suc p) ∷ xs)
  turn_step d i p xs rest n near long w e b =
      go (next_place m o h d) refl (unfold next_place in find (waits m o h d) i 8 n d.last w e near)
    where
      one_less : (j : ℕ) → next_place m o h d ≡ suc j → n < 1 + turns m o h (dispatch_next m o h d (turn (suc p))) xs
      one_less j at =
          subst (λ (c : Bool). n < bit c + turns m o h (dispatch_next m o h d (turn (suc p))) xs) (ap (is_taken m o h) (serves_it d p j at)) b

      here : (j : ℕ) → next_place m o h d ≡ suc j → suc j ≡ i → ServedIn m o h d i (turn (suc p) ∷ xs)
      here j at f = record {
        before = [];
        portion = suc p;
        since = xs;
        split = refl;
        serves = unfold after in (serves_it d p j at ∙ ap served f);
      }

      go : (j : ℕ) → next_place m o h d ≡ j → Found (waits m o h d) i n j → ServedIn m o h d i (turn (suc p) ∷ xs)
      go zero at f = absurd (false≢true (sym (no_place d) ∙ f.waits))
      go (suc j) at f = by f.nearer (ℕ_discrete i (suc j))
        where
          by : (suc j ≡ i) ⊎ ((q : ℕ) × (q < n) × (walk q (suc j) ≡ i)) → Dec (i ≡ suc j) → ServedIn m o h d i (turn (suc p) ∷ xs)
          by (inl g) c = here j at g
          by (inr g) (yes c) = here j at (sym c)
          by (inr g) (no c) =
              later d i (turn (suc p)) xs
              (rest g.0 (omega (arith, g.1)) (places-size m o h d (turn (suc p)) ∙ long)
              (others_wait d p j at i c ∙ w)
              (ap (walk g.0) (last_is d p j at) ∙ g.2)
              (omega (arith, one_less j at, g.1)))

  zero_refused : (d : Dispatcher m.State) → is_turn m o h d (turn zero) ≡ false
  unfolding dispatch_answer turn_answer
  zero_refused d = m.refusal 40

  -- ---- whole stretches

  within : (xs : List (DispatchCall h.Opening)) (d : Dispatcher m.State) (i : ℕ) → Quiet m o h d xs → Within d i xs
  within [] d i s = λ n near long w e b. absurd (omega arith)
  within (add a ∷ xs) d i s = quiet_step d i (add a) xs s.0 refl (within xs (dispatch_next m o h d (add a)) i s.1)
  within (turn zero ∷ xs) d i s =
      quiet_step d i (turn zero) xs tt (zero_refused d) (within xs (dispatch_next m o h d (turn zero)) i s.1)
  within (turn (suc p) ∷ xs) d i s = turn_step d i p xs (within xs (dispatch_next m o h d (turn (suc p))) i s.1)
  within (tell_at k ∷ xs) d i s = quiet_step d i (tell_at k) xs tt refl (within xs (dispatch_next m o h d (tell_at k)) i s.1)
  within (show_at k l ∷ xs) d i s = quiet_step d i (show_at k l) xs tt refl (within xs (dispatch_next m o h d (show_at k l)) i s.1)
  within (close_at k ∷ xs) d i s = quiet_step d i (close_at k) xs s.0 refl (within xs (dispatch_next m o h d (close_at k)) i s.1)

  -- ---- what every list from fresh leaves

  last_after : (ws : List (DispatchCall h.Opening)) (d : Dispatcher m.State) → d.last ≤ 8 → (after (dispatcher m o h) d ws).last ≤ 8
  unfolding after
  last_after [] d e = e
  last_after (x ∷ ws) d e = last_after ws (dispatch_next m o h d x) (last_range m o h d x e)

  held_range : (d : Dispatcher m.State) (i : ℕ) → length d.places ≡ 8 → waits m o h d i ≡ true → (1 ≤ i) × (i ≤ 8)
  held_range d zero long w = absurd (false≢true (sym (no_place d) ∙ w))
  held_range d (suc i) long w = go (dec_le (suc i) 8)
    where
      go : Dec (suc i ≤ 8) → (1 ≤ suc i) × (suc i ≤ 8)
      go (yes c) = (omega arith, c)
      go (no c) = absurd (false≢true (sym past ∙ w))
        where
          past : waits m o h d (suc i) ≡ false
          past = none_waits d (suc i) (unfold state_at under in get_or-eq_default d.places m.begin (omega (arith, long)))

  -- NOBODY WAITS PAST EIGHT TURNS: after any list from fresh, of any list with eight accepted turns and no accepted add or close, a turn
  -- serves a place that was held and unfinished before it
  pub fair : (ws xs : List (DispatchCall h.Opening)) (i : ℕ) → waits m o h (leaves (dispatcher m o h) ws) i ≡ true
      → Quiet m o h (leaves (dispatcher m o h) ws) xs → 8 ≤ turns m o h (leaves (dispatcher m o h) ws) xs
      → ServedIn m o h (leaves (dispatcher m o h) ws) i xs
  unfolding leaves
  fair ws xs i w s b = within xs d i s r.0 (omega (arith, r.1)) long w r.2 (omega (arith, r.1))
    where
      d : Dispatcher m.State
      d = after (dispatcher m o h) (fresh m o h) ws

      long : length d.places ≡ 8
      long = size-after m o h ws (fresh m o h) (unfold fresh in refl)

      r : (n : ℕ) × (n ≤ 7) × (walk n d.last ≡ i)
      r = let q = held_range d i long w in away d.last i (last_after ws (fresh m o h) (unfold fresh in omega arith)) q.0 q.1
