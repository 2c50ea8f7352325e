-- Sums of integers over lists, and what they are of lists of the same members. Assumes nothing.
use Rattle.std.specs.Prelude.{◌≡◌, refl, ◌⊎◌, List, [], ◌∷◌, ◌++◌, map, ℕ, ◌+◌, ◌*◌, ◌≤◌, length, ℤ, pos, ◌+ℤ◌, ◌*ℤ◌}
use Rattle.std.proofs.Common.{sym, ap, ◌∙◌, subst, inl, inr, arith, length-append}
use Rattle.std.proofs.Math.IntN.{+ℤ_assoc, +ℤ_comm, +ℤ_idl, suc_ℤ-*ℤ, zero-*ℤ}
use Rattle.lists.specs.Members.{◌∈◌, in_either}
use Rattle.lists.specs.Distinct.{Distinct}
use Rattle.lists.specs.Weights.{weight}
use Rattle.lists.specs.Same.{Shuffle, none, under, turn, chain, shuffle_in, shuffle_length, shuffle_more, shuffle_fills, shuffle_same}
use Rattle.integers.specs.Parts.{IsDiff, diff_add}

unfoldable pub sum_z : (ℕ → ℤ) → List ℕ → ℤ
sum_z f [] = pos 0
sum_z f (k ∷ ks) = f k +ℤ sum_z f ks

pub left_comm : (a b c : ℤ) → a +ℤ (b +ℤ c) ≡ b +ℤ (a +ℤ c)
left_comm a b c = sym (+ℤ_assoc a b c) ∙ ap (λ (z : ℤ). z +ℤ c) (+ℤ_comm a b) ∙ +ℤ_assoc b a c

pub sum_plus : (f h : ℕ → ℤ) (xs : List ℕ) → sum_z (λ k. f k +ℤ h k) xs ≡ sum_z f xs +ℤ sum_z h xs
unfolding sum_z
sum_plus f h [] = refl
sum_plus f h (x ∷ xs) =
    ap (λ (z : ℤ). (f x +ℤ h x) +ℤ z) (sum_plus f h xs)
    ∙ +ℤ_assoc (f x) (h x) _
    ∙ ap (λ (z : ℤ). f x +ℤ z) (left_comm (h x) (sum_z f xs) (sum_z h xs))
    ∙ sym (+ℤ_assoc (f x) (sum_z f xs) _)

pub sum_same : (f h : ℕ → ℤ) (xs : List ℕ) → ((k : ℕ) → k ∈ xs → f k ≡ h k) → sum_z f xs ≡ sum_z h xs
unfolding sum_z
sum_same f h [] e = refl
sum_same f h (x ∷ xs) e = rw (e x (inl refl), sum_same f h xs (λ k m. e k (inr m)))

pub sum_map : (f : ℕ → ℤ) (s : ℕ → ℕ) (xs : List ℕ) → sum_z f (map s xs) ≡ sum_z (λ k. f (s k)) xs
unfolding sum_z
sum_map f s [] = refl
sum_map f s (x ∷ xs) = ap (λ (z : ℤ). f (s x) +ℤ z) (sum_map f s xs)

pub sum_append : (f : ℕ → ℤ) (xs ys : List ℕ) → sum_z f (xs ++ ys) ≡ sum_z f xs +ℤ sum_z f ys
unfolding sum_z
sum_append f [] ys = sym (+ℤ_idl (sum_z f ys))
sum_append f (x ∷ xs) ys = ap (λ (z : ℤ). f x +ℤ z) (sum_append f xs ys) ∙ sym (+ℤ_assoc (f x) (sum_z f xs) (sum_z f ys))

pub sum_shuffle : (f : ℕ → ℤ) {xs ys : List ℕ} → Shuffle xs ys → sum_z f xs ≡ sum_z f ys
unfolding sum_z
sum_shuffle f none = refl
sum_shuffle f (under x s) = ap (λ (z : ℤ). f x +ℤ z) (sum_shuffle f s)
sum_shuffle f (turn x y) = left_comm (f x) (f y) _
sum_shuffle f (chain s t) = sum_shuffle f s ∙ sum_shuffle f t

-- a sum of integers, each c k − K
pub sum_diff : (f : ℕ → ℤ) (c : ℕ → ℕ) (K : ℕ) (xs : List ℕ) → ((k : ℕ) → k ∈ xs → IsDiff (f k) (c k) K)
    → IsDiff (sum_z f xs) (weight c xs) (K * length xs)
unfolding sum_z weight
sum_diff f c K [] h = omega arith
sum_diff f c K (x ∷ xs) h =
    subst (λ (z : ℕ). IsDiff (f x +ℤ sum_z f xs) (c x + weight c xs) z) (omega arith)
    (diff_add (f x) (sum_z f xs) (c x) K (weight c xs) (K * length xs) (h x (inl refl)) (sum_diff f c K xs (λ k m. h k (inr m))))

pub twice : (z : ℤ) → pos 2 *ℤ z ≡ z +ℤ z
twice z =
    suc_ℤ-*ℤ (pos 1) z
    ∙ ap (λ (w : ℤ). w +ℤ z) (suc_ℤ-*ℤ (pos 0) z ∙ ap (λ (w : ℤ). w +ℤ z) (zero-*ℤ z) ∙ +ℤ_idl z)

-- ---- lists that have one another's members

-- ys is xs and some more
pub record More (xs ys : List ℕ) : Type 0 where
  pub rest : List ℕ
  pub size : length ys ≡ length xs + length rest
  pub sum : (f : ℕ → ℤ) → sum_z f ys ≡ sum_z f xs +ℤ sum_z f rest
  pub each : (k : ℕ) → k ∈ ys → (k ∈ xs) ⊎ (k ∈ rest)

pub more : (xs ys : List ℕ) → Distinct xs → ((k : ℕ) → k ∈ xs → k ∈ ys) → More xs ys
more xs ys d h =
    let r = shuffle_more xs ys d h in
    record {
      rest = r.0;
      size = simp length-append at (shuffle_length r.1);
      sum = λ f. sum_shuffle f r.1 ∙ sum_append f xs r.0;
      each = λ k m. in_either k xs r.0 (shuffle_in r.1 k m);
    }

-- xs is all of ys
pub record Whole (xs ys : List ℕ) : Type 0 where
  pub size : length ys ≡ length xs
  pub sum : (f : ℕ → ℤ) → sum_z f ys ≡ sum_z f xs
  pub each : (k : ℕ) → k ∈ ys → k ∈ xs

whole : (xs ys : List ℕ) → Shuffle ys xs → Whole xs ys
whole xs ys s = record { size = shuffle_length s; sum = λ f. sum_shuffle f s; each = shuffle_in s }

-- a list without repetition, of members of ys and as long as ys, has all of ys
pub fills : (xs ys : List ℕ) → Distinct xs → ((k : ℕ) → k ∈ xs → k ∈ ys) → length ys ≤ length xs → Whole xs ys
fills xs ys d h l = whole xs ys (shuffle_fills xs ys d h l)

-- two lists without repetition that have the same members
pub same_members : (xs ys : List ℕ) → Distinct xs → Distinct ys → ((k : ℕ) → k ∈ xs → k ∈ ys) → ((k : ℕ) → k ∈ ys → k ∈ xs) → Whole xs ys
same_members xs ys dx dy h k = whole xs ys (shuffle_same xs ys dx dy h k)
