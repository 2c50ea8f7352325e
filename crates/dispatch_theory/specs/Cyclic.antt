-- The eight places in cyclic order: where a walk along it leads, and that the first place which a test finds there is the first in the list of the
-- eight, cut at the one last served with its two parts exchanged (`first_around`). Assumes nothing.
use Rattle.std.specs.Prelude.{◌≡◌, Bool, not, cond, ◌++◌, take, drop, length, get_or, ltb, Some, None, ◌%◌}
use Rattle.std.specs.List.{position_or_len}
use Rattle.std.specs.Option.{option_map}
use Rattle.std.proofs.Math.Path.{refl, ap}
use Rattle.std.proofs.Common.{sym, ◌∙◌, arith, lt-ltb, le-ltb, ltb-true, ltb-false, le-leb}
use Rattle.std.proofs.Math.Bool.{true, false}
use Rattle.std.proofs.Math.Decide.{dec_le}
use Rattle.std.proofs.lemmas.List.{get_or_append_left, get_or-append_right, get_or-drop, get_or-take, length-append, length-drop, length-take-le}
use mathlib.Core.List.{List, [], ◌∷◌}
use Prim.Native.Nat.{ℕ, zero, suc, ◌+◌, ◌-◌, ◌≤◌, ◌<◌}
use Rattle.lists.specs.Bools.{by_cases}
use Rattle.lent_records.specs.Places.{under, place_of}
use Rattle.dispatch_theory.specs.Dispatcher.{following, first_after}

-- the place that n places follow before, after l
unfoldable pub walk : ℕ → ℕ → ℕ
walk zero l = following l
walk (suc n) l = walk n (following l)

following_low : (l : ℕ) → l < 8 → following l ≡ suc l
unfolding following
following_low l h = rw (lt-ltb l 8 h)

following-high : (l : ℕ) → 8 ≤ l → following l ≡ 1
unfolding following
following-high l h = rw (le-ltb l 8 h)

pub walk_up : (n l : ℕ) → l + n < 8 → walk n l ≡ suc (l + n)
unfolding walk
walk_up zero l h = following_low l (omega arith) ∙ omega arith
walk_up (suc n) l h = ap (walk n) (following_low l (omega arith)) ∙ walk_up n (suc l) (omega arith) ∙ omega arith

pub walk_round : (n l : ℕ) → l ≤ 8 → 8 ≤ l + n → l + n < 16 → walk n l + 7 ≡ l + n
unfolding walk
walk_round zero l h a b = ap (λ (k : ℕ). k + 7) (following-high l (omega arith)) ∙ omega arith
walk_round (suc n) l h a b = go (dec_le (suc l) 8) (λ c. walk_round n (suc l) c (omega arith) (omega arith))
  where
    go : Dec (l < 8) → (l < 8 → walk n (suc l) + 7 ≡ suc l + n) → walk n (following l) + 7 ≡ l + suc n
    go (yes c) below = ap (λ (k : ℕ). walk n k + 7) (following_low l c) ∙ below c ∙ omega arith
    go (no c) below =
        ap (λ (k : ℕ). walk n k + 7) (following-high l (omega arith))
        ∙ ap (λ (k : ℕ). k + 7) (walk_up n 1 (omega arith)) ∙ omega arith

-- ---- what is found along it

-- the places after l, in cyclic order
abbrev pub around : {A : Type 0} → ℕ → List A → List A
around l xs = drop l xs ++ take l xs

pub length-around : {A : Type 0} (l : ℕ) (xs : List A) → length xs ≡ 8 → l ≤ 8 → length (around l xs) ≡ 8
length-around l xs long h = length-append (drop l xs) (take l xs) ∙ omega (arith, length-drop l xs, length-take-le l xs (omega arith), long)

place_named : (i : ℕ) → i < 8 → place_of (suc i) ≡ Some i
unfolding place_of
place_named i b = rw (le-leb 1 (suc i) (omega arith), le-leb (suc i) 8 (omega arith)) (ap (λ (k : ℕ). Some k) (omega arith))

ltb-suc : (p n : ℕ) → ltb (suc p) (suc n) ≡ ltb p n
ltb-suc p n =
    by_cases (ltb p n)
    (λ t. lt-ltb (suc p) (suc n) (omega (arith, ltb-true p n t)) ∙ sym t)
    (λ f. le-ltb (suc p) (suc n) (omega (arith, ltb-false p n f)) ∙ sym f)

module _ {A : Type 0} (test : A → Bool) (z : A) where
  -- a test of places that agrees with one of the members of a list, place by place, finds the first of both
  by_steps : (t : ℕ → Bool) (xs : List A) (l : ℕ) → ((j : ℕ) → j < length xs → t (walk j l) ≡ test (get_or xs j z))
      → first_after t (length xs) l ≡ cond (ltb (position_or_len test xs) (length xs)) (walk (position_or_len test xs) l) 0
  unfolding first_after walk
  by_steps t [] l h = refl
  by_steps t (x ∷ xs) l h =
      rw (h 0 (omega arith)) (go (test x) (1 + position_or_len test xs) (omega arith) (by_steps t xs (following l) (λ j b. h (suc j) (omega arith))))
    where
      p : ℕ
      p = position_or_len test xs

      go : (b : Bool) (k : ℕ) → suc p ≡ k → first_after t (length xs) (following l) ≡ cond (ltb p (length xs)) (walk p (following l)) 0
          → cond b (following l) (first_after t (length xs) (following l))
          ≡ cond (ltb (cond (not b) k 0) (suc (length xs))) (walk (cond (not b) k 0) l) 0
      go true k s e = sym (ap (λ (b : Bool). cond b (following l) 0) (lt-ltb 0 (suc (length xs)) (omega arith)))
      go false k s e =
          e ∙ ap (λ (b : Bool). cond b (walk p (following l)) 0) (sym (ltb-suc p (length xs)))
          ∙ ap (λ (m : ℕ). cond (ltb m (suc (length xs))) (walk m l) 0) s

  at_walk : (l j : ℕ) (xs : List A) → length xs ≡ 8 → l ≤ 8 → j < 8 → under z xs (walk j l) ≡ get_or (around l xs) j z
  unfolding under
  at_walk l j xs long h b = go (dec_le (suc (l + j)) 8)
    where
      go : Dec (l + j < 8) → get_or (z ∷ xs) (walk j l) z ≡ get_or (around l xs) j z
      go (yes c) =
          ap (λ (k : ℕ). get_or (z ∷ xs) k z) (walk_up j l c)
          ∙ sym (get_or_append_left (drop l xs) (take l xs) z j (omega (arith, length-drop l xs, long)) ∙ get_or-drop l xs j z)
      go (no c) =
          let at : walk j l ≡ suc (j - (8 - l)) = omega (arith, walk_round j l h (omega arith) (omega arith)) in
          ap (λ (k : ℕ). get_or (z ∷ xs) k z) at
          ∙ sym (get_or-append_right (drop l xs) (take l xs) (8 - l) j z (omega (arith, length-drop l xs, long)) (omega arith)
          ∙ get_or-take l xs (j - (8 - l)) z (omega arith))

  -- where the first that passes stands among the eight, counted from 0
  pub first_around : (l : ℕ) (xs : List A) → length xs ≡ 8 → l ≤ 8
      → option_map (λ p. (l + p) % 8) (cond (ltb (position_or_len test (around l xs)) (length (around l xs))) (Some (position_or_len test (around l xs))) None)
      ≡ place_of (first_after (λ i. test (under z xs i)) 8 l)
  first_around l xs long h =
      let size : length (around l xs) ≡ 8 = length-around l xs long h in
      let p = position_or_len test (around l xs) in
      sym (ap place_of (ap (λ (n : ℕ). first_after (λ i. test (under z xs i)) n l) (sym size)
      ∙ by_steps (λ i. test (under z xs i)) (around l xs) l (λ j b. ap test (at_walk l j xs long h (omega (arith, size)))))
      ∙ go p (length (around l xs)) size)
    where
      found : (p : ℕ) → p < 8 → place_of (walk p l) ≡ Some ((l + p) % 8)
      found p b = by (dec_le (suc (l + p)) 8)
        where
          by : Dec (l + p < 8) → place_of (walk p l) ≡ Some ((l + p) % 8)
          by (yes c) = ap place_of (walk_up p l c) ∙ place_named (l + p) c ∙ ap (λ (k : ℕ). Some k) (omega arith)
          by (no c) =
              let at : walk p l ≡ suc (l + p - 8) = omega (arith, walk_round p l h (omega arith) (omega arith)) in
              ap place_of at ∙ place_named (l + p - 8) (omega arith) ∙ ap (λ (k : ℕ). Some k) (omega arith)

      go : (p n : ℕ) → n ≡ 8 → place_of (cond (ltb p n) (walk p l) 0) ≡ option_map (λ q. (l + q) % 8) (cond (ltb p n) (Some p) None)
      go p n e = by_cases (ltb p n) (λ t. rw t (found p (omega (arith, ltb-true p n t)))) (λ f. rw f (unfold place_of in refl))
