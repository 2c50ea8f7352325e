-- Laws that no proof cites today: what a place is seen to hold, as a number, the test of all eight by such numbers, and the fault of a place by them;
-- the first place after another, step by step. Assumes nothing.
use Rattle.std.specs.Prelude.{◌≡◌, refl, Bool, true, false, not, cond, ◌&&◌, List, [], ◌∷◌, ℕ, zero, suc, ◌-◌, ◌≤◌, ◌<◌, eqb, leb, length, get_or, map}
use Rattle.std.proofs.Common.{sym, ap, ◌∙◌, subst, arith, ne_eqb}
use Rattle.std.specs.List.{list_all}
use Rattle.lists.specs.All.{every_of}
use Rattle.graph.specs.Network.{network}
use Rattle.machine.specs.Outcomes.{Incumbent, no_tour, a_tour}
use Rattle.machine.specs.Machine.{State, no_search, searching, finished}
use Rattle.machine.specs.Calls.{tell, Answer, refused, accepted, runs, going_on, none, best, tells, verdict_of, verdict, step}
use Rattle.lent_records.specs.Places.{is_name, name_range, under}
use Rattle.dispatch_theory.specs.Dispatcher.{following, first_after}
use Rattle.dispatch_theory.specs.Records.{check_all}
use Rattle.search.specs.Record.{fresh, decode}
use Rattle.search.specs.Check.{check}
use Rattle.search.specs.Inverse.{Typed}
use Rattle.search.specs.Replies as search
use Rattle.search.specs.declared.Search.{Search}
use Rattle.dispatcher.specs.Searches.{held, made, codec}
use Rattle.dispatcher.specs.Cases.{answer_is}
use Rattle.dispatcher.specs.Replies.{form}
use Rattle.dispatcher.specs.declared.Dispatcher.{Dispatcher}

-- ---- one place: 0 broken, 1 empty, 2 waiting, 3 finished

abbrev pub seen_by : Answer → ℕ
seen_by (refused number place) = cond (eqb number 24) 0 1
seen_by accepted = 0
seen_by (runs done count) = 0
seen_by (tells going_on count) = 2
seen_by (tells none count) = 3
seen_by (tells (best c) count) = 3

unfoldable pub seen_in : Search → ℕ
seen_in s = seen_by (search.reply s tell).answer

-- what a state is seen as
abbrev seen_of : State → ℕ
seen_of no_search = 1
seen_of (searching p) = cond (finished p) 3 2

told_is : (st : State) → seen_by (step st tell).answer ≡ seen_of st
unfolding step verdict
told_is no_search = refl
told_is (searching p) = go (finished p) p.incumbent
  where
    go : (b : Bool) (i : Incumbent (List Bool))
        → seen_by (tells (cond b (verdict_of (network p.opening.graph) i) going_on) p.count) ≡ cond b 3 2
    go true no_tour = refl
    go true (a_tour r) = refl
    go false i = refl

seen_passes : (s : Search) → check s ≡ true → seen_in s ≡ seen_of (decode s)
unfolding seen_in
seen_passes s e = ap seen_by (answer_is s tell e) ∙ told_is (decode s)

seen_fails : (s : Search) → check s ≡ false → seen_in s ≡ 0
unfolding seen_in search.reply
seen_fails s e = rw e

not_broken : (st : State) → not (eqb (seen_of st) 0) ≡ true
not_broken no_search = refl
not_broken (searching p) = go (finished p)
  where
    go : (b : Bool) → not (eqb (cond b 3 2) 0) ≡ true
    go true = refl
    go false = refl

seen_sound : (s : Search) → not (eqb (seen_in s) 0) ≡ check s
seen_sound s = go (check s) refl
  where
    go : (b : Bool) → check s ≡ b → not (eqb (seen_in s) 0) ≡ b
    go true e = ap (λ (x : ℕ). not (eqb x 0)) (seen_passes s e) ∙ not_broken (decode s)
    go false e = ap (λ (x : ℕ). not (eqb x 0)) (seen_fails s e)

seen_held : (st : State) → held.is_open st ≡ not (eqb (seen_of st) 1)
seen_held no_search = refl
seen_held (searching p) = go (finished p)
  where
    go : (b : Bool) → true ≡ not (eqb (cond b 3 2) 1)
    go true = refl
    go false = refl

seen_waits : (st : State) → held.is_open st && not (made.finished st) ≡ eqb (seen_of st) 2
seen_waits no_search = refl
seen_waits (searching p) = go (finished p)
  where
    go : (b : Bool) → true && not b ≡ eqb (cond b 3 2) 2
    go true = refl
    go false = refl

-- ---- all of them

every_sound : (l : List Search) → every_of (λ x. not (eqb x 0)) (map seen_in l) ≡ list_all check l
unfolding every_of
every_sound [] = refl
every_sound (s ∷ l) = rw (seen_sound s, every_sound l)

pub none_broken : (xs : List ℕ) → ((i : ℕ) → i < length xs → ¬ (get_or xs i 0 ≡ 0)) → every_of (λ x. not (eqb x 0)) xs ≡ true
unfolding every_of
none_broken [] h = refl
none_broken (x ∷ xs) h = rw (ne_eqb x 0 (h 0 (omega arith)), none_broken xs (λ i l. h (suc i) (omega arith)))

pub one_broken : (xs : List ℕ) (i : ℕ) → i < length xs → get_or xs i 0 ≡ 0 → every_of (λ x. not (eqb x 0)) xs ≡ false
unfolding every_of
one_broken [] i l h = absurd (omega arith)
one_broken (x ∷ xs) zero l h = rw h
one_broken (x ∷ xs) (suc i) l h = go (not (eqb x 0)) (one_broken xs i (omega arith) h)
  where
    go : (b : Bool) → every_of (λ y. not (eqb y 0)) xs ≡ false → b && every_of (λ y. not (eqb y 0)) xs ≡ false
    go true e = e
    go false e = refl

-- all eight places, seen one by one
pub record Surveyed (d : Dispatcher) (seen : List ℕ) : Type 0 where
  pub eight : length d.places ≡ 8
  pub typed : (i : ℕ) → i < 8 → Typed (get_or d.places i fresh)
  pub each : seen ≡ map seen_in d.places

-- no place is broken, and the last served is a place or 0
abbrev pub sound : ℕ → List ℕ → Bool
sound last seen = leb last 8 && every_of (λ x. not (eqb x 0)) seen

pub sound_is : (d : Dispatcher) (seen : List ℕ) → Surveyed d seen → sound d.last seen ≡ check_all held made codec form d
unfolding check_all
sound_is d seen h =
    ap (λ (l : List ℕ). leb d.last 8 && every_of (λ x. not (eqb x 0)) l) h.each ∙ ap (λ (b : Bool). leb d.last 8 && b) (every_sound d.places)

-- ---- the fault of a place to tell, show or close: 24, or one of 42 and 20

-- is the place seen to hold this?
abbrev pub is_at : List ℕ → ℕ → ℕ → Bool
is_at seen wanted i = eqb (under 0 seen i) wanted

abbrev pub place_fault_by : List ℕ → ℕ → ℕ
place_fault_by seen i = cond (not (is_name i)) 42 (cond (is_at seen 1 i) 20 0)

abbrev pub fault_by : ℕ → List ℕ → ℕ → ℕ
fault_by last seen i = cond (not (sound last seen)) 24 (place_fault_by seen i)

module _ (d : Dispatcher) (seen : List ℕ) where
  pub by_fault : (P : ℕ → Type 0) (k f : ℕ) → f ≡ fault_by d.last seen k → ¬ (f ≡ 0) → (sound d.last seen ≡ false → P 24)
      → (sound d.last seen ≡ true → (n : ℕ) → place_fault_by seen k ≡ suc n → P (suc n)) → P f
  by_fault P k f g n broken at = go (sound d.last seen) refl
    where
      is : (b : Bool) → sound d.last seen ≡ b → f ≡ cond (not b) 24 (place_fault_by seen k)
      is b e = g ∙ ap (λ (x : Bool). cond (not x) 24 (place_fault_by seen k)) e

      by : sound d.last seen ≡ true → (x : ℕ) → f ≡ x → P f
      by e zero q = absurd (n q)
      by e (suc x) q = subst P (sym q) (at e x (sym (is true e) ∙ q))

      go : (b : Bool) → sound d.last seen ≡ b → P f
      go false e = subst P (sym (is false e)) (broken e)
      go true e = by e f refl

  pub no_fault : (k f : ℕ) → f ≡ fault_by d.last seen k → f ≡ 0
      → (sound d.last seen ≡ true) × (place_fault_by seen k ≡ 0) × (1 ≤ k) × (k ≤ 8)
  no_fault k f g n = go (sound d.last seen) refl (sym g ∙ n)
    where
      named : (b : Bool) → is_name k ≡ b → place_fault_by seen k ≡ 0 → (1 ≤ k) × (k ≤ 8)
      named true i z = name_range k i
      named false i z = absurd (let w : 42 ≡ 0 = (rw i at z) in omega arith)

      go : (b : Bool) → sound d.last seen ≡ b → cond (not b) 24 (place_fault_by seen k) ≡ 0
          → (b ≡ true) × (place_fault_by seen k ≡ 0) × (1 ≤ k) × (k ≤ 8)
      go true e z = let r = named (is_name k) refl z in (refl, z, r.0, r.1)
      go false e z = absurd (let w : 24 ≡ 0 = z in omega arith)

-- ---- the first place that passes

module _ (t : ℕ → Bool) where
  pub first_hit : (n l k : ℕ) → 0 < n → k ≡ following l → t k ≡ true → first_after t n l ≡ k
  unfolding first_after
  first_hit zero l k h e w = absurd (omega arith)
  first_hit (suc n) l k h e w = rw (sym e, w)

  pub first_miss : (n l k : ℕ) → 0 < n → k ≡ following l → t k ≡ false → first_after t n l ≡ first_after t (n - 1) k
  unfolding first_after
  first_miss zero l k h e w = absurd (omega arith)
  first_miss (suc n) l k h e w = rw (sym e, w, less)
    where
      less : suc n - 1 ≡ n
      less = omega arith

  pub first_none : (n l : ℕ) → n ≤ 0 → first_after t n l ≡ 0
  unfolding first_after
  first_none zero l h = refl
  first_none (suc n) l h = absurd (omega arith)
