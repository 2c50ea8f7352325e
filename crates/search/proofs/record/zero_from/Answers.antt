-- The fold is true exactly where all items are zero; the items are the places from `from` on, or none where that is past the last.
use Rattle.std.proofs.Common.{◌≡◌, refl, ℕ, suc, zero, ◌-◌, ◌+◌, ◌<◌, min, Bool, true, false, ◌&&◌, List, [], ◌∷◌, ◌++◌, length, take, drop, get_or, sym, ◌∙◌, subst, arith, rules}
use Rattle.std.proofs.Math.Decide.{dec_lt}
use Rattle.std.proofs.lemmas.Fn.{fold_over, fronts}
use Rattle.std.proofs.lemmas.Iterator.{YieldsList-from_slice}
use Rattle.std.proofs.lemmas.List.{get_or-drop, get_or_past, get_or_push, length-drop, take_all}
use Rattle.lists.specs.Bools.{Says, says_both}
use Rattle.search.specs.Canonical.{Zeros}
use Rattle.search.proofs.record.zero_from.Goals as goal

module _ {A : Type 0} (z : A) where
  abbrev All : List A → Type 0
  All xs = (k : ℕ) → get_or xs k z ≡ z

  all_more : (xs : List A) (x : A) → x ≡ z → All xs → All (xs ++ x ∷ [])
  all_more [] x e h zero = e
  all_more [] x e h (suc k) = refl
  all_more (y ∷ xs) x e h zero = h zero
  all_more (y ∷ xs) x e h (suc k) = all_more xs x e (λ j. h (suc j)) k

  all_last : (xs : List A) (x : A) → All (xs ++ x ∷ []) → x ≡ z
  all_last xs x h = sym (get_or_push xs x z (length xs) refl) ∙ h (length xs)

  all_before : (xs : List A) (x : A) → All (xs ++ x ∷ []) → All xs
  all_before [] x h k = refl
  all_before (y ∷ xs) x h zero = h zero
  all_before (y ∷ xs) x h (suc k) = all_before xs x (λ j. h (suc j)) k

  -- an item more
  turn : (xs : List A) (a y : Bool) (x : A) → Says a (All xs) → Says y (x ≡ z) → Says (a && y) (All (xs ++ x ∷ []))
  turn xs true true x h e = all_more xs x e h
  turn xs true false x h e = λ p. e (all_last xs x p)
  turn xs false y x h e = λ p. h (all_before xs x p)

  met : (xs : List A) (a : Bool) (x : A) (b : Bool) → Says a (All xs) → (y : Bool) × Says y (x ≡ z) × (b ≡ (a && y)) → Says b (All (xs ++ x ∷ []))
  met xs a x b h e = rw e.2 (turn xs a e.0 x h e.1)

  -- what is left of the array
  module _ (n from k : ℕ) (a : List A) (size : length a ≡ n) (is : k ≡ min from n) where
    to_zeros : All (take (length a - k) (drop k a)) → Zeros z n from a
    to_zeros h i l m =
        let e : k + (i - k) ≡ i = omega (arith, is) in
        subst (λ (j : ℕ). get_or a j z ≡ z) e (sym (get_or-drop k a (i - k) z) ∙ (rw (take_all (length a - k) (drop k a) (omega (arith, length-drop k a))) at h) (i - k))

    from_zeros : Zeros z n from a → All (take (length a - k) (drop k a))
    from_zeros h j =
        rw (take_all (length a - k) (drop k a) (omega (arith, length-drop k a))) (get_or-drop k a j z ∙ go (dec_lt (k + j) n))
      where
        go : Dec (k + j < n) → get_or a (k + j) z ≡ z
        go (yes l) = h (k + j) l (omega (arith, is, l))
        go (no l) = get_or_past a (k + j) z (omega (arith, size, l))

pub returns : goal.returns
returns g c =
    let a = c.args in
    let f = fold_over fronts _ _ (λ xs b. Says b (All g.T.Number.zero xs)) _
    (λ ys b x d q h k. (met g.T.Number.zero ys b x.now d h (search rules), search rules))
    c.iter.result (take (length a.a.now - c.min.result) (drop c.min.result a.a.now)) true c.fold.result (YieldsList-from_slice _ c.iter.ensures.rest).runs (λ k. refl) c.fold.ensures.ran in
    says_both c.fold.result (to_zeros _ g.row.N a.from c.min.result a.a.now (search (rules, c.well_formed)) c.min.ensures)
    (from_zeros _ g.row.N a.from c.min.result a.a.now (search (rules, c.well_formed)) c.min.ensures) f
