-- The record's check, test by test: what a test says of what it tests. Assumes nothing.
use Rattle.std.specs.Prelude.{◌≡◌, refl, Bool, true, false, ℕ, ◌≤◌, ◌<◌, leb, eqb, length}
use Rattle.std.specs.Bool.{MatchBool}
use Rattle.std.specs.List.{range_with_len, AllWithin, HoldsAt}
use Rattle.std.proofs.Common.{sym, ◌∙◌, subst, true≢false, leb-true, le-leb, eqb-true, eq-eqb, arith}
use Rattle.std.proofs.lemmas.List.FromFn.{length-range_with_len, get_or-range_with_len}
use Rattle.lists.specs.Bools.{Says, says_both}
use Rattle.search.specs.Record.{is_open}
use Rattle.search.specs.Canonical.{Flags, Tidy, Stands, Canonical}
use Rattle.search.specs.Check.{check, check_yes, check_no}
use Rattle.search.specs.declared.Search.{Search}

-- ---- what a test says

-- a test that passes
pub says_holds : (b : Bool) {P : Type 0} → b ≡ true → P → Says b P
says_holds true e p = p
says_holds false e p = absurd (true≢false (sym e))

-- a test that fails, of what P asks too
pub says_fails : (b : Bool) {P Q : Type 0} → Says b Q → b ≡ false → (P → Q) → Says b P
says_fails true s e f = absurd (true≢false e)
says_fails false s e f = λ p. s (f p)

says_check : (s : Search) (b : Bool) → Says b (Canonical s) → b ≡ check s
says_check s true h = sym (check_yes s h)
says_check s false h = sym (check_no s h)

-- of a test `x ≤ y`
pub says-le : (x y : ℕ) (P : Type 0) → (x ≤ y → P) → (P → x ≤ y) → Says (leb x y) P
says-le x y P f g = go (leb x y) refl
  where
    go : (b : Bool) → leb x y ≡ b → Says b P
    go true e = f (leb-true x y e)
    go false e = λ p. true≢false (sym (le-leb x y (g p)) ∙ e)

-- and of a test `x ≡ y`
pub says_eq : (x y : ℕ) (P : Type 0) → (x ≡ y → P) → (P → x ≡ y) → Says (eqb x y) P
says_eq x y P f g = go (eqb x y) refl
  where
    go : (b : Bool) → eqb x y ≡ b → Says b P
    go true e = f (eqb-true x y e)
    go false e = λ p. true≢false (sym (eq-eqb x y (g p)) ∙ e)

-- of `all` over the numbers below n, by what it says of each
pub says_below : (n : ℕ) (P : ℕ → Type 0) (b : Bool)
    → MatchBool b (AllWithin P (range_with_len 0 n) 0 (length (range_with_len 0 n)))
    ((k : ℕ) × (k < length (range_with_len 0 n)) × HoldsAt (λ p. P p → ⊥) (range_with_len 0 n) k)
    → Says b ((p : ℕ) → p < n → P p)
says_below n P true h = λ p l.
    subst P (omega (arith, get_or-range_with_len 0 n p 0 l)) (h p 0 (omega arith) (omega (arith, l, length-range_with_len 0 n)))
says_below n P false h = λ f.
    let l : h.0 < n = omega (arith, h.1, length-range_with_len 0 n) in
    h.2 0 (subst P (omega (arith, get_or-range_with_len 0 n h.0 0 l)) (f h.0 l))

-- ---- the last test of the record

pub says-stands : (s : Search) (b o : Bool) → is_open s ≡ o → Flags s → Tidy s → Says b (Stands o s) → b ≡ check s
says-stands s b o e f t h =
    says_check s b
    (says_both b {P = Stands o s} {Q = Canonical s}
    (λ w. record { flags = f; tidy = t; stands = subst (λ (x : Bool). Stands x s) (sym e) w }) (λ c. subst (λ (x : Bool). Stands x s) e c.stands) h)
