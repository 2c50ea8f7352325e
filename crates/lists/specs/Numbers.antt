-- The numbers 1 to n, the highest first: the vertices and the edges of a network are numbered so. Assumes nothing.
use Rattle.std.specs.Prelude.{◌≡◌, refl, ◌⊎◌, List, [], ◌∷◌, ℕ, zero, suc, ◌≤◌, length}
use Rattle.std.proofs.Common.{ap, inl, inr, arith}
use Rattle.std.proofs.Math.Decide.{ℕ_discrete}
use Rattle.lists.specs.Members.{◌∈◌}
use Rattle.lists.specs.Distinct.{Distinct}

-- n, .. , 2, 1
unfoldable pub up_to : ℕ → List ℕ
up_to zero = []
up_to (suc n) = suc n ∷ up_to n

pub up_to_in : (n v : ℕ) → 1 ≤ v → v ≤ n → v ∈ up_to n
unfolding up_to
up_to_in zero v h k = absurd (let z : 1 ≤ 0 = omega arith in omega arith)
up_to_in (suc n) v h k = go (ℕ_discrete v (suc n)) (λ i. up_to_in n v h i)
  where
    go : Dec (v ≡ suc n) → (v ≤ n → v ∈ up_to n) → (v ≡ suc n) ⊎ (v ∈ up_to n)
    go (yes e) below = inl e
    go (no e) below = inr (below (omega arith))

pub in_up_to : (n v : ℕ) → v ∈ up_to n → (1 ≤ v) × (v ≤ n)
unfolding up_to
in_up_to zero v m = absurd m
in_up_to (suc n) v (inl e) = omega arith
in_up_to (suc n) v (inr m) = omega (arith, (in_up_to n v m).0, (in_up_to n v m).1)

pub distinct-up_to : (n : ℕ) → Distinct (up_to n)
unfolding up_to
distinct-up_to zero = tt
distinct-up_to (suc n) = ((λ m. let z : suc n ≤ n = (in_up_to n (suc n) m).1 in omega arith), distinct-up_to n)

pub length-up_to : (n : ℕ) → length (up_to n) ≡ n
unfolding up_to
length-up_to zero = refl
length-up_to (suc n) = ap suc (length-up_to n)
