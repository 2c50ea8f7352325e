-- The greatest of some times: as a statement, by membership and order; that the definition is it; and as a search through a list finds it. Assumes nothing.
use Rattle.std.specs.Prelude.{◌≡◌, refl, ◌⊎◌, List, [], ◌∷◌, ◌≤◌, length, ℤ, ◌≤ℤ◌}
use Rattle.std.proofs.Common.{◌∙◌, inl, inr, arith}
use Rattle.std.specs.Int.Signed.{lt_z, ≤ℤ_refl}
use Rattle.lists.specs.Bools.{by_cases}
use Rattle.lists.specs.Members.{◌∈◌}
use Rattle.std.specs.List.{All, Contains}
use Rattle.integers.specs.Order.{le_trans, le_antisym, lt-le, test_lt, test_not_lt}
use Rattle.recent.specs.Costs.{larger, greatest, greatest_or}
use Rattle.lists.specs.MembersAt.{at_in, in_at}

-- z is among the times, and none of them is above it
pub record Greatest (ts : List ℤ) (z : ℤ) : Type 0 where
  pub member : z ∈ ts
  pub most : (y : ℤ) → y ∈ ts → y ≤ℤ z

-- lists with the same members have one greatest
pub greatest-one : (l k : List ℤ) (z y : ℤ) → ((x : ℤ) → x ∈ l → x ∈ k) → ((x : ℤ) → x ∈ k → x ∈ l)
    → Greatest l z → Greatest k y → z ≡ y
greatest-one l k z y to from g h = le_antisym z y (h.most z (to z g.member)) (g.most y (from y h.member))

-- ---- the larger of two

pub larger-left : (x y : ℤ) → x ≤ℤ larger x y
unfolding larger
larger-left x y = by_cases (lt_z x y) (λ t. rw t (lt-le x y (test_lt x y t))) (λ t. rw t (≤ℤ_refl x))

pub larger_right : (x y : ℤ) → y ≤ℤ larger x y
unfolding larger
larger_right x y = by_cases (lt_z x y) (λ t. rw t (≤ℤ_refl y)) (λ t. rw t (test_not_lt x y t))

larger_is : (x y : ℤ) → (larger x y ≡ x) ⊎ (larger x y ≡ y)
unfolding larger
larger_is x y = by_cases (lt_z x y) (λ t. rw t (inr refl)) (λ t. rw t (inl refl))

-- ---- the definition is it

pub greatest_is : (x : ℤ) (l : List ℤ) → Greatest (x ∷ l) (greatest x l)
unfolding greatest
greatest_is x [] = record { member = inl refl; most = λ y m. only y m }
  where
    only : (y : ℤ) → (y ≡ x) ⊎ ⊥ → y ≤ℤ x
    only y (inl e) = rw e (≤ℤ_refl x)
    only y (inr e) = absurd e
greatest_is x (y ∷ l) = go (greatest_is (larger x y) l)
  where
    go : Greatest (larger x y ∷ l) (greatest (larger x y) l) → Greatest (x ∷ y ∷ l) (greatest (larger x y) l)
    go g = record { member = from g.member; most = λ z m. above z m }
      where
        from : (greatest (larger x y) l ≡ larger x y) ⊎ (greatest (larger x y) l ∈ l)
            → (greatest (larger x y) l ≡ x) ⊎ ((greatest (larger x y) l ≡ y) ⊎ (greatest (larger x y) l ∈ l))
        from (inl e) = pick (larger_is x y)
          where
            pick : (larger x y ≡ x) ⊎ (larger x y ≡ y)
                → (greatest (larger x y) l ≡ x) ⊎ ((greatest (larger x y) l ≡ y) ⊎ (greatest (larger x y) l ∈ l))
            pick (inl f) = inl (e ∙ f)
            pick (inr f) = inr (inl (e ∙ f))
        from (inr m) = inr (inr m)

        above : (z : ℤ) → (z ≡ x) ⊎ ((z ≡ y) ⊎ (z ∈ l)) → z ≤ℤ greatest (larger x y) l
        above z (inl e) = rw e (le_trans x (larger x y) _ (larger-left x y) (g.most (larger x y) (inl refl)))
        above z (inr (inl e)) = rw e (le_trans y (larger x y) _ (larger_right x y) (g.most (larger x y) (inl refl)))
        above z (inr (inr m)) = g.most z (inr m)

-- c where there is none
abbrev pub GreatestOr : ℤ → List ℤ → ℤ → Type 0
GreatestOr c [] z = z ≡ c
GreatestOr c (x ∷ l) z = Greatest (x ∷ l) z

pub greatest-or : (c : ℤ) (l : List ℤ) → GreatestOr c l (greatest_or c l)
unfolding greatest_or
greatest-or c [] = refl
greatest-or c (x ∷ l) = greatest_is x l

-- of some, it is their greatest, whatever c is
pub or-greatest : (c : ℤ) (l : List ℤ) → 1 ≤ length l → Greatest l (greatest_or c l)
unfolding greatest_or
or-greatest c [] h = absurd (omega arith)
or-greatest c (x ∷ l) h = greatest_is x l

pub is_greatest : (c : ℤ) (l : List ℤ) (z : ℤ) → Greatest l z → z ≡ greatest_or c l
unfolding greatest_or
is_greatest c [] z g = absurd g.member
is_greatest c (x ∷ l) z g = greatest-one (x ∷ l) (x ∷ l) z (greatest x l) (λ y m. m) (λ y m. m) g (greatest_is x l)

-- times in another order, or repeated, have no other
pub same-greatest : (c d : ℤ) (l k : List ℤ) → 1 ≤ length l → ((x : ℤ) → x ∈ l → x ∈ k) → ((x : ℤ) → x ∈ k → x ∈ l)
    → greatest_or c l ≡ greatest_or d k
unfolding greatest_or
same-greatest c d [] k h to from = absurd (omega arith)
same-greatest c d (x ∷ l) [] h to from = absurd (to x (inl refl))
same-greatest c d (x ∷ l) (y ∷ k) h to from =
    greatest-one (x ∷ l) (y ∷ k) (greatest x l) (greatest y k) to from (greatest_is x l) (greatest_is y k)

-- as a search through a list finds it
pub found : (c : ℤ) (l : List ℤ) (z : ℤ) → Contains l z → All (λ x. x ≤ℤ z) l → z ≡ greatest_or c l
found c l z h all = is_greatest c l z (record { member = there; most = below })
  where
    there : z ∈ l
    there = rw h.2 at (at_in l h.0 z h.1)

    below : (y : ℤ) → y ∈ l → y ≤ℤ z
    below y m = let r = in_at l z y m in rw r.2 (all r.0 z r.1)
