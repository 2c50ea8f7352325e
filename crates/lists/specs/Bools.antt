-- Tests that are Booleans: how a proof goes by the cases of one, and what a conjunction or a disjunction tells. Assumes nothing.
use Rattle.std.specs.Prelude.{◌≡◌, refl, Bool, true, false, not, cond, ◌&&◌, ℕ, ◌<◌, ◌≤◌, eqb, T}
use Rattle.std.proofs.Common.{true≢false, arith}
use Rattle.std.proofs.lemmas.Bool.{false≢true}
-- what a conjunction and a disjunction tell: the library's lemmas, by the names that are used here
pub use Rattle.std.proofs.lemmas.Bool.{and_parts as and_both, and_right as and_no_right, and_left as and_no_left, or_right, or_left, or_parts as or_none, or_cases as or_case}

-- by the value of a test, which each case then knows
pub by_cases : (t : Bool) {P : Type 0} → (t ≡ true → P) → (t ≡ false → P) → P
by_cases true f g = f refl
by_cases false f g = g refl

pub and_right : (a b : Bool) → a && b ≡ true → b ≡ true
and_right a b h = (and_both a b h).1

pub not-not : (b : Bool) → not (not b) ≡ true → b ≡ true
not-not true h = refl
not-not false h = h

-- the library's `T b`, which holds exactly where b is true
pub T_true : (b : Bool) → T b → b ≡ true
T_true true h = refl
T_true false h = absurd h

pub true_T : (b : Bool) → b ≡ true → T b
true_T true h = tt
true_T false h = absurd (false≢true h)

-- 1 for true, 0 for false: how a count goes by a test
abbrev pub bit : Bool → ℕ
bit true = 1
bit false = 0

pub bit_most : (b : Bool) → bit b ≤ 1
bit_most true = omega arith
bit_most false = omega arith

pub bit_back : (b : Bool) → eqb (bit b) 1 ≡ b
bit_back true = refl
bit_back false = refl

-- a fault's number, 0 where there is none: no number in front of it applied, and none behind it
pub cond_zero : (t : Bool) (e x : ℕ) → 0 < e → cond t e x ≡ 0 → (t ≡ false) × (x ≡ 0)
cond_zero true e x p h = absurd (omega arith)
cond_zero false e x p h = (refl, h)

-- what a test says of a claim
abbrev pub Says : Bool → Type 0 → Type 0
Says true P = P
Says false P = P → ⊥

pub says_yes : (b : Bool) {P : Type 0} → Says b P → b ≡ true → P
says_yes true s e = s
says_yes false s e = absurd (false≢true e)

pub says_no : (b : Bool) {P : Type 0} → Says b P → b ≡ false → P → ⊥
says_no false s e = s
says_no true s e = absurd (true≢false e)

-- and of one that holds exactly where it does
pub says_both : (b : Bool) {P Q : Type 0} → (P → Q) → (Q → P) → Says b P → Says b Q
says_both true f g h = f h
says_both false f g h = λ q. h (g q)
