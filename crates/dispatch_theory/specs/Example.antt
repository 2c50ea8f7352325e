-- The dispatcher over a machine whose searches only count down: the order of turns, the places of adds, and the refusals in their order. By
-- computation.
use Rattle.std.specs.Prelude.{◌≡◌, refl, Bool, true, false, cond, List, [], ◌∷◌, ℕ, ◌-◌, eqb}
use Rattle.lent_records.specs.Machine.{Machine, Searches}
use Rattle.lent_records.specs.Places.{under, put}
use Rattle.dispatch_theory.specs.Dispatcher.{Calls, DispatchCall, add, turn, tell_at, close_at, placed, served, idle, said}
use Rattle.dispatch_theory.specs.Dispatcher.{following, first_after, fresh, state_at, is_held, waits, free_place, next_place, place_fault}
use Rattle.dispatch_theory.specs.Dispatcher.{add_route, turn_route, place_route, routed, add_answer, turn_answer, place_answer}
use Rattle.dispatch_theory.specs.Dispatcher.{dispatch_answer}
use Rattle.dispatch_theory.specs.Dispatcher.{places_by, last_by, dispatch_next, dispatcher, pick, own_from, own}

module _ (m : Machine) where
  unfoldable answers : m.State → List m.Call → List m.Answer
  answers s [] = []
  answers s (c ∷ cs) = m.answer s c ∷ answers (m.next s c) cs

data Small : Type 0 where
  opens : ℕ → Small
  runs : ℕ → Small
  tells : Small
  closes : Small

-- a state is whether a search is open, and how many nodes are left; an opening with 90 is refused
abbrev next_of : Bool × ℕ → Small → Bool × ℕ
next_of s (opens n) = cond (eqb n 90) s (true, n)
next_of s (runs n) = (s.0, s.1 - n)
next_of s tells = s
next_of s closes = (false, 0)

pub data Spoken : Type 0 where
  refuses : ℕ → Spoken
  speaks : ℕ → Spoken

abbrev answer_of : Bool × ℕ → Small → Spoken
answer_of s (opens n) = cond (eqb n 90) (refuses 15) (speaks 0)
answer_of s (runs n) = speaks 0
answer_of s tells = speaks s.1
answer_of s closes = speaks 0

abbrev is_spoken : Spoken → Bool
is_spoken (refuses n) = false
is_spoken (speaks n) = true

abbrev small : Machine
small = record {
  State = Bool × ℕ;
  Call = Small;
  Answer = Spoken;
  begin = (false, 0);
  next = next_of;
  answer = answer_of;
  lent = λ s c. [];
  given = λ c. [];
  refused = refuses;
  is_accepted = is_spoken;
  refusal = λ n. refl;
}

abbrev its : Searches small
its = record { is_open = λ s. s.0; closed = refl; accepted = speaks 0; acceptance = refl }

abbrev calls : Calls small
calls = record {
  Opening = ℕ;
  opens = opens;
  run = runs;
  tell = tells;
  show = λ l. tells;
  close = closes;
  finished = λ s. eqb s.1 0;
}

abbrev Asked : Type 0
Asked = List (DispatchCall ℕ)

-- three searches of 2, 1 and 3 nodes: the second is finished after its turn, and left out from then on
abbrev shared : Asked
shared = turn 1 ∷ add 2 ∷ add 1 ∷ add 3 ∷ turn 1 ∷ turn 1 ∷ turn 1 ∷ turn 1 ∷ turn 1 ∷ turn 1 ∷ turn 1 ∷ []

in_turn : answers (dispatcher small its calls) (fresh small its calls) shared
    ≡ idle ∷ placed 1 ∷ placed 2 ∷ placed 3 ∷ served 1 ∷ served 2 ∷ served 3 ∷ served 1 ∷ served 3 ∷ served 3 ∷ idle ∷ []
unfolding answers fresh following first_after state_at is_held waits free_place next_place place_fault add_route turn_route place_route routed add_answer turn_answer place_answer dispatch_answer places_by last_by dispatch_next under put
in_turn = refl

its_own : own small its calls 3 shared ≡ opens 3 ∷ runs 1 ∷ runs 1 ∷ runs 1 ∷ []
unfolding own own_from pick fresh following first_after state_at is_held waits free_place next_place place_fault add_route turn_route place_route routed places_by last_by dispatch_next under put
its_own = refl

-- 40; 42 before 20; the opening's own refusal takes no place; a closed place is free again, and the smallest free one is taken; 41 with
-- eight held, a finished one among them, before the opening's own
abbrev refused : Asked
refused =
    turn 0 ∷ tell_at 9 ∷ tell_at 0 ∷ tell_at 8 ∷ add 90 ∷ add 5 ∷ add 5 ∷ close_at 1 ∷ close_at 1 ∷ add 6 ∷ tell_at 1 ∷ add 1 ∷ add 0 ∷ add 1
    ∷ add 1 ∷ add 1 ∷ add 1 ∷ add 90 ∷ []

in_order : answers (dispatcher small its calls) (fresh small its calls) refused
    ≡ said (refuses 40) ∷ said (refuses 42) ∷ said (refuses 42) ∷ said (refuses 20) ∷ said (refuses 15) ∷ placed 1 ∷ placed 2
    ∷ said (speaks 0) ∷ said (refuses 20) ∷ placed 1 ∷ said (speaks 6) ∷ placed 3 ∷ placed 4 ∷ placed 5 ∷ placed 6 ∷ placed 7 ∷ placed 8
    ∷ said (refuses 41) ∷ []
unfolding answers fresh following first_after state_at is_held waits free_place next_place place_fault add_route turn_route place_route routed add_answer turn_answer place_answer dispatch_answer places_by last_by dispatch_next under put
in_order = refl
