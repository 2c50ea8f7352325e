-- The sum of the weights of a list's members, and of those that pass a test. Assumes nothing.
use Rattle.std.specs.Prelude.{◌≡◌, Bool, not, ◌&&◌, ℕ, ◌+◌, ◌*◌, length}
use Rattle.std.proofs.Math.Path.{refl}
use Rattle.std.proofs.Math.Bool.{true, false}
use mathlib.Core.List.{List, [], ◌∷◌}
use native.Mathlib.Omega.{arith}
use Rattle.lists.specs.Bools.{bit}
use Rattle.lists.specs.Select.{keep, select}

module _ {A : Type 0} where
  unfoldable pub weight : (A → ℕ) → List A → ℕ
  weight w [] = 0
  weight w (x ∷ xs) = w x + weight w xs

  pub keep-length : (b : Bool) (x : A) (r : List A) → length (keep b x r) ≡ bit b + length r
  keep-length true x r = omega arith
  keep-length false x r = omega arith

  pub keep-weight : (w : A → ℕ) (b : Bool) (x : A) (r : List A) → weight w (keep b x r) ≡ w x * bit b + weight w r
  unfolding weight
  keep-weight w true x r = omega arith
  keep-weight w false x r = omega arith

  -- a selection in two parts, by another test
  pub split_weight : (w : A → ℕ) (t c : A → Bool) (xs : List A)
      → weight w (select (λ x. t x && c x) xs) + weight w (select (λ x. t x && not (c x)) xs) ≡ weight w (select t xs)
  unfolding select weight
  split_weight w t c [] = refl
  split_weight w t c (x ∷ xs) = go (t x) (c x) (split_weight w t c xs)
    where
      pass : List A
      pass = select (λ y. t y && c y) xs

      fail : List A
      fail = select (λ y. t y && not (c y)) xs

      go : (a b : Bool) → weight w pass + weight w fail ≡ weight w (select t xs)
          → weight w (keep (a && b) x pass) + weight w (keep (a && not b) x fail) ≡ weight w (keep a x (select t xs))
      go true true h = omega arith
      go true false h = omega arith
      go false b h = h
