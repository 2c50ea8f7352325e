-- A list in which every number is at most a limit, place by place. Assumes nothing.
use Rattle.std.specs.Prelude.{◌≡◌, true, get_or}
use Rattle.std.specs.List.{list_all}
use Rattle.std.proofs.Common.{arith}
use mathlib.Core.List.{List, [], ◌∷◌}
use Prim.Native.Nat.{ℕ, zero, suc}
use Rattle.std.proofs.Math.Dec.{leb}
use borrow.Author.Tests.{le-leb}
use Rattle.lists.specs.Bools.{and_both}

module _ (limit : ℕ) where
  -- past the end stands 0
  pub every_at : (xs : List ℕ) → list_all (λ x. leb x limit) xs ≡ true → (i : ℕ) → leb (get_or xs i 0) limit ≡ true
  every_at [] h i = le-leb 0 limit (omega arith)
  every_at (x ∷ xs) h zero = (and_both (leb x limit) (list_all (λ y. leb y limit) xs) h).0
  every_at (x ∷ xs) h (suc i) = every_at xs (and_both (leb x limit) (list_all (λ y. leb y limit) xs) h).1 i
