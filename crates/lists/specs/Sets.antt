-- Sets of numbers as tests: one member more, one member less, and what the two do to a selection. Assumes nothing.
use Rattle.std.specs.Prelude.{◌≡◌, refl, ◌≢◌, ◌⊎◌, Bool, true, false, not, ◌&&◌, ◌||◌, List, [], ◌∷◌, ℕ, suc, ◌+◌, ◌≤◌, eqb, length}
use Rattle.std.proofs.Common.{sym, ap, ◌∙◌, inl, inr, true≢false, arith, eq-eqb, ne_eqb}
use Rattle.std.proofs.Math.Decide.{ℕ_discrete}
use Rattle.lists.specs.Bools.{by_cases, or_right, or_none, or_case, not-not}
use Rattle.lists.specs.Members.{◌∈◌}
use Rattle.lists.specs.All.{every_of, every_of_in, not-every_of}
use Rattle.lists.specs.Select.{keep, select, select_cong, select_mono}
use Rattle.lists.specs.Distinct.{Distinct}
use Rattle.lists.specs.Weights.{weight}
use Rattle.lists.specs.Same.{Shuffle, under, turn, chain, shuffle_self, shuffle_length, shuffle_weight}

abbrev pub NumberSet : Type 0
NumberSet = ℕ → Bool

infixl 60 ◌⊕◌ ◌⊖◌
unfoldable pub ◌⊕◌ : NumberSet → ℕ → NumberSet
◌⊕◌ t e k = eqb k e || t k

unfoldable pub ◌⊖◌ : NumberSet → ℕ → NumberSet
◌⊖◌ t e k = not (eqb k e) && t k

module _ (t : NumberSet) (e : ℕ) where
  pub plus_self : (t ⊕ e) e ≡ true
  unfolding ◌⊕◌
  plus_self = rw (eq-eqb e e refl)

  pub plus_old : (k : ℕ) → t k ≡ true → (t ⊕ e) k ≡ true
  unfolding ◌⊕◌
  plus_old k h = or_right (eqb k e) (t k) h

  pub plus_other : (k : ℕ) → k ≢ e → (t ⊕ e) k ≡ t k
  unfolding ◌⊕◌
  plus_other k h = rw (ne_eqb k e h)

  pub plus_is : (k : ℕ) → (t ⊕ e) k ≡ true → (k ≡ e) ⊎ (t k ≡ true)
  plus_is k h = go (ℕ_discrete k e)
    where
      go : Dec (k ≡ e) → (k ≡ e) ⊎ (t k ≡ true)
      go (yes f) = inl f
      go (no f) = inr (sym (plus_other k f) ∙ h)

  pub minus_self : (t ⊖ e) e ≡ false
  unfolding ◌⊖◌
  minus_self = rw (eq-eqb e e refl)

  pub minus_other : (k : ℕ) → k ≢ e → (t ⊖ e) k ≡ t k
  unfolding ◌⊖◌
  minus_other k h = rw (ne_eqb k e h)

  pub minus_is : (k : ℕ) → (t ⊖ e) k ≡ true → (k ≢ e) × (t k ≡ true)
  minus_is k h = (ne, sym (minus_other k ne) ∙ h)
    where
      ne : k ≢ e
      ne f = true≢false (sym h ∙ ap (t ⊖ e) f ∙ minus_self)

  pub minus_false : (k : ℕ) → t k ≡ false → (t ⊖ e) k ≡ false
  minus_false k h = by_cases ((t ⊖ e) k) (λ i. absurd (true≢false (sym (minus_is k i).1 ∙ h))) (λ i. i)

-- taken out and put back
pub put_back : (t : NumberSet) (e : ℕ) → t e ≡ true → (k : ℕ) → (t ⊖ e ⊕ e) k ≡ t k
put_back t e h k = go (ℕ_discrete k e)
  where
    go : Dec (k ≡ e) → (t ⊖ e ⊕ e) k ≡ t k
    go (yes f) = rw f (plus_self (t ⊖ e) e ∙ sym h)
    go (no f) = plus_other (t ⊖ e) e k f ∙ minus_other t e k f

-- ---- selections

-- one member more
pub select_plus : (t : NumberSet) (e : ℕ) (xs : List ℕ) → Distinct xs → e ∈ xs → t e ≡ false → Shuffle (select (t ⊕ e) xs) (e ∷ select t xs)
unfolding select
select_plus t e [] d m h = absurd m
select_plus t e (x ∷ xs) d (inl k) h =
    let out : t x ≡ false = rw (← k) h in
    let new : (t ⊕ e) x ≡ true = rw (← k) (plus_self t e) in
    rw (out, new, rest, k) (shuffle_self (x ∷ select t xs))
  where
    rest : select (t ⊕ e) xs ≡ select t xs
    rest = select_cong (t ⊕ e) t xs (λ j i. plus_other t e j (λ f. d.0 (rw (← k) (rw (← f) i))))
select_plus t e (x ∷ xs) d (inr m) h = rw (plus_other t e x (λ f. d.0 (rw f m))) (go (t x) (select_plus t e xs d.1 m h))
  where
    go : (b : Bool) → Shuffle (select (t ⊕ e) xs) (e ∷ select t xs) → Shuffle (keep b x (select (t ⊕ e) xs)) (e ∷ keep b x (select t xs))
    go true below = chain (under x below) (turn x e)
    go false below = below

-- one member less
pub select_minus : (t : NumberSet) (e : ℕ) (xs : List ℕ) → Distinct xs → e ∈ xs → t e ≡ true → Shuffle (select t xs) (e ∷ select (t ⊖ e) xs)
select_minus t e xs d m h =
    rw (← select_cong (t ⊖ e ⊕ e) t xs (λ k i. put_back t e h k)) (select_plus (t ⊖ e) e xs d m (minus_self t e))

-- a gives way to b: as many members, and the weight changes by theirs
module _ (xs : List ℕ) (d : Distinct xs) (s : NumberSet) (a b : ℕ) (ma : a ∈ xs) (mb : b ∈ xs) (sa : s a ≡ true) (sb : s b ≡ false) where
  new : Shuffle (select (s ⊖ a ⊕ b) xs) (b ∷ select (s ⊖ a) xs)
  new = select_plus (s ⊖ a) b xs d mb (minus_false s a b sb)

  old : Shuffle (select s xs) (a ∷ select (s ⊖ a) xs)
  old = select_minus s a xs d ma sa

  pub swapped_length : length (select (s ⊖ a ⊕ b) xs) ≡ length (select s xs)
  swapped_length = shuffle_length new ∙ sym (shuffle_length old)

  pub swapped_weight : (w : ℕ → ℕ) → weight w (select (s ⊖ a ⊕ b) xs) + w a ≡ weight w (select s xs) + w b
  unfolding weight
  swapped_weight w = omega (arith, shuffle_weight w new, shuffle_weight w old)

-- nothing moves in a list that has neither
pub unmoved : (xs : List ℕ) (s : NumberSet) (a b : ℕ) → ¬ (a ∈ xs) → ¬ (b ∈ xs) → select (s ⊖ a ⊕ b) xs ≡ select s xs
unmoved xs s a b na nb =
    select_cong (s ⊖ a ⊕ b) s xs
    (λ k m. plus_other (s ⊖ a) b k (λ f. nb (rw (← f) m)) ∙ minus_other s a k (λ f. na (rw (← f) m)))

-- two sets with as many members each: where one lacks e and the other has it, the one has some f that the other lacks
pub partner : (xs : List ℕ) → Distinct xs → (s t : NumberSet) → length (select s xs) ≡ length (select t xs)
    → (e : ℕ) → e ∈ xs → s e ≡ false → t e ≡ true → (f : ℕ) × (f ∈ xs) × (s f ≡ true) × (t f ≡ false)
partner xs nd s t size e m se te =
    by_cases (every_of (λ k. not (s k) || t k) xs) (λ h. absurd (too_many (every_of_in (λ k. not (s k) || t k) xs h))) (λ h. found (not-every_of _ xs h))
  where
    found : (k : ℕ) × (k ∈ xs) × (not (s k) || t k ≡ false) → (f : ℕ) × (f ∈ xs) × (s f ≡ true) × (t f ≡ false)
    found r = let o = or_none (not (s r.0)) (t r.0) r.2 in (r.0, r.1, not-not (s r.0) (ap not o.0), o.1)

    too_many : ((k : ℕ) → k ∈ xs → not (s k) || t k ≡ true) → ⊥
    too_many h =
        let z : suc 0 ≤ 0 = omega (arith, shuffle_length (select_minus t e xs nd m te), select_mono s (t ⊖ e) xs inside) in omega arith
      where
        inside : (k : ℕ) → k ∈ xs → s k ≡ true → (t ⊖ e) k ≡ true
        inside k i j = minus_other t e k (λ f. true≢false (sym j ∙ ap s f ∙ se)) ∙ go (or_case (not (s k)) (t k) (h k i))
          where
            go : (not (s k) ≡ true) ⊎ (t k ≡ true) → t k ≡ true
            go (inl l) = absurd (true≢false (sym l ∙ ap not j))
            go (inr l) = l
