-- "The allowance that finishes a hunt counts the run calls in its restored history and those since.": open, run 5, save 1, run 100, back 1,
-- run 3 counts 8, of a machine that only opens, runs and closes. By computation.
use Rattle.std.specs.Prelude.{◌≡◌, refl, Bool, true, false, cond, List, [], ◌∷◌, ℕ, suc, ◌+◌}
use Rattle.lent_records.specs.Machine.{Machine, Searches}
use Rattle.lent_records.specs.Places.{under, put}
use Rattle.shelf_theory.specs.Shelves.{is_none, Shelved, ShelfCall, plain, save, back, cleared, save_fault, back_fault, answer_by, shelf_next, shelf_answer}
use Rattle.shelf_theory.specs.Shelves.{beside_next, beside, besides}

data Small : Type 0 where
  opens : Small
  runs : ℕ → Small
  closes : Small

-- 0 is accepted; a state is whether a search is open, and the nodes that it opened
abbrev answer_of : Bool × ℕ → Small → ℕ
answer_of s opens = cond s.0 22 0
answer_of s (runs n) = cond s.0 0 21
answer_of s closes = cond s.0 0 21

abbrev next_of : Bool × ℕ → Small → Bool × ℕ
next_of s opens = cond s.0 s (true, 0)
next_of s (runs n) = cond s.0 (true, s.1 + n) s
next_of s closes = (false, 0)

abbrev small : Machine
small = record {
  State = Bool × ℕ;
  Call = Small;
  Answer = ℕ;
  begin = (false, 0);
  next = next_of;
  answer = answer_of;
  lent = λ s c. [];
  given = λ c. [];
  refused = λ n. suc n;
  is_accepted = is_none;
  refusal = λ n. refl;
}

abbrev its : Searches small
its = record { is_open = λ s. s.0; closed = refl; accepted = 0; acceptance = refl }

-- what the accepted runs since the opening allow in all
abbrev allowed : Bool × ℕ → Small → ℕ → ℕ
allowed s opens total = 0
allowed s (runs n) total = cond s.0 (total + n) total
allowed s closes total = 0

abbrev calls : List (ShelfCall Small)
calls = plain opens ∷ plain (runs 5) ∷ save 1 ∷ plain (runs 100) ∷ back 1 ∷ plain (runs 3) ∷ []

counts_eight : (besides small its allowed 0 calls).current ≡ 8
unfolding besides beside beside_next shelf_next cleared save_fault back_fault under put
counts_eight = refl

answers : Shelved (Bool × ℕ) → List (ShelfCall Small) → List ℕ
answers d [] = []
answers d (x ∷ xs) = shelf_answer small its d x ∷ answers (shelf_next small its d x) xs

-- the refusals in their order: save with none open 20, before 33; back with a name that is none 33, before 34; nothing under it 34
refusals : answers (cleared (false, 0))
    (save 9 ∷ back 9 ∷ back 1 ∷ plain opens ∷ save 0 ∷ save 9 ∷ save 8 ∷ plain closes ∷ back 8 ∷ [])
    ≡ 21 ∷ 34 ∷ 35 ∷ 0 ∷ 34 ∷ 34 ∷ 0 ∷ 0 ∷ 0 ∷ []
unfolding answers shelf_answer answer_by shelf_next cleared save_fault back_fault under put
refusals = refl
