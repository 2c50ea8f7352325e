-- One weight for the cost and for which of two comes first: the cost times more than all powers of two together, and the edge's power
-- of two. A set of the least weight has the least cost, and of those it comes first; so greedy choice needs no case for ties.
use Rattle.std.specs.Prelude.{◌≡◌, ◌⊎◌, Bool, true, false, List, [], ◌∷◌, ℕ, zero, suc, ◌+◌, ◌*◌, ◌^◌, ◌≤◌, ◌<◌}
use Rattle.std.proofs.Common.{inl, inr, mul-le-mul_right, arith, pow_mono}
use Rattle.std.proofs.lemmas.Bool.{false≢true}
use Rattle.std.proofs.Math.Decide.{dec_le}
use Rattle.lists.specs.Bools.{by_cases}
use Rattle.lists.specs.Select.{keep, select}
use Rattle.lists.specs.Numbers.{up_to}
use Rattle.lists.specs.Weights.{weight}
use Rattle.tree_theory.specs.OneTree.{Edges, lacks_first, unless}

-- the cost first, then the number
unfoldable pub one_weight : ℕ → (ℕ → ℕ) → ℕ → ℕ
one_weight m c k = c k * 2 ^ suc m + 2 ^ k

-- the order by cost, then by number, is the order of the weights
pub one_weight-le : (m : ℕ) (c : ℕ → ℕ) (j k : ℕ) → j ≤ m → (c j < c k) ⊎ ((c j ≡ c k) × (j ≤ k)) → one_weight m c j ≤ one_weight m c k
unfolding one_weight
one_weight-le m c j k h (inl l) = omega (arith, mul-le-mul_right (2 ^ suc m) l, pow_mono {i = j} {j = suc m} (omega arith))
one_weight-le m c j k h (inr l) = rw l.0 (omega (arith, pow_mono {i = j} {j = k} l.1))

-- the edge k as a power of two, and a set as the sum of its edges'
abbrev pub two^ : ℕ → ℕ
two^ k = 2 ^ k

abbrev code : ℕ → Edges → ℕ
code m t = weight two^ (select t (up_to m))

pub weight-one_weight : (m : ℕ) (c : ℕ → ℕ) (es : List ℕ) → weight (one_weight m c) es ≡ weight c es * 2 ^ suc m + weight two^ es
unfolding weight one_weight
weight-one_weight m c [] = omega arith
weight-one_weight m c (e ∷ es) = omega (arith, weight-one_weight m c es)

code_lt : (t : Edges) (m : ℕ) → code m t < 2 ^ suc m
unfolding weight select up_to
code_lt t zero = omega arith
code_lt t (suc m) = go (t (suc m)) (code_lt t m)
  where
    go : (b : Bool) → code m t < 2 ^ suc m → weight two^ (keep b (suc m) (select t (up_to m))) < 2 ^ suc (suc m)
    go true h = omega arith
    go false h = omega arith

-- what comes first has the smaller sum
lacks_code : (s t : Edges) (m : ℕ) → lacks_first m s t ≡ true → code m s < code m t
unfolding weight select up_to lacks_first
lacks_code s t zero h = absurd (false≢true h)
lacks_code s t (suc m) h = go (s (suc m)) (t (suc m)) h (λ i. lacks_code s t m i)
  where
    go : (x y : Bool) → unless x y (lacks_first m s t) ≡ true → (lacks_first m s t ≡ true → code m s < code m t)
        → weight two^ (keep x (suc m) (select s (up_to m))) < weight two^ (keep y (suc m) (select t (up_to m)))
    go true true i below = omega (arith, below i)
    go true false i below = absurd (false≢true i)
    go false true i below = omega (arith, code_lt s m)
    go false false i below = below i

high_le : (X x Y y B : ℕ) → X * B + x ≤ Y * B + y → y < B → X ≤ Y
high_le X x Y y B h k = go (dec_le X Y)
  where
    go : Dec (X ≤ Y) → X ≤ Y
    go (yes l) = l
    go (no l) = absurd (let i : suc Y ≤ X = omega arith in let z : suc 0 ≤ 0 = omega (arith, mul-le-mul_right B i) in omega arith)

-- THE LEAST WEIGHT is the least cost, and of those the first
pub one_weight_least : (m : ℕ) (c : ℕ → ℕ) (t s : Edges)
    → weight (one_weight m c) (select t (up_to m)) ≤ weight (one_weight m c) (select s (up_to m))
    → (weight c (select t (up_to m)) ≤ weight c (select s (up_to m)))
    × (weight c (select s (up_to m)) ≡ weight c (select t (up_to m)) → lacks_first m s t ≡ false)
one_weight_least m c t s h =
    (high_le (weight c (select t (up_to m))) (code m t) (weight c (select s (up_to m))) (code m s) (2 ^ suc m) both (code_lt s m), first)
  where
    both : weight c (select t (up_to m)) * 2 ^ suc m + code m t ≤ weight c (select s (up_to m)) * 2 ^ suc m + code m s
    both = omega (arith, weight-one_weight m c (select t (up_to m)), weight-one_weight m c (select s (up_to m)))

    first : weight c (select s (up_to m)) ≡ weight c (select t (up_to m)) → lacks_first m s t ≡ false
    first e =
        by_cases (lacks_first m s t)
        (λ i. absurd (let z : suc 0 ≤ 0 = omega (arith, rw e at both, lacks_code s t m i) in omega arith))
        (λ i. i)
