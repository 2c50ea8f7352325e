-- Code's sums over charges: the array of charges place by place, the sum of the multipliers, and the bound that these stand for. Assumes
-- nothing.
use Rattle.std.specs.Prelude.{◌≡◌, refl, List, ℕ, ◌+◌, ◌*◌, ◌<◌, ◌≤◌, length, get_or, set, ℤ, pos, nat_abs, ◌+ℤ◌, ◌*ℤ◌}
use Rattle.std.proofs.Common.{⊎_elim, arith, add-one, get_or-set_same, get_or-set_other}
use Rattle.std.proofs.Math.Decide.{ℕ_discrete}
use Rattle.lists.specs.Select.{select}
use Rattle.lists.specs.Numbers.{up_to}
use Rattle.lists.specs.Weights.{weight}
use Rattle.integers.specs.Parts.{IsDiff, up, dn, one_side, add_parts, add-up, abs_parts, diff_one, diff_add}
use Rattle.integers.specs.Range.{InRange, within_range}
use Rattle.integers.specs.Sums.{sum_z, twice}
use Rattle.integers.specs.Multiples.{◌times◌}
use Rattle.graph.specs.declared.Graph.{Graph}
use Rattle.graph.specs.Limits.{max_cost, max_multiplier, max_edges}
use Rattle.graph.specs.Network.{network}
use Rattle.graph.specs.Places.{network_a, network_b, network-cost}
use Rattle.graph.specs.Valid as value
use Rattle.tree_theory.specs.OneTree.{OneTree, charge, bound}
use Rattle.tree_theory.specs.Inputs.{multiplier}
use Rattle.tree_theory.specs.Scaled.{scaled_by}
use Rattle.tree_theory.specs.Scaling.{valid_scaled}
use Rattle.tree_theory.specs.Optimal.Link.{to_parts}
use Rattle.tree_theory.specs.Optimal.Bound.{bound_diff}
use Rattle.tree_theory.specs.Arrays.{entry, bytes, network-valid}
use Rattle.greedy.specs.Charged.{offset, max_scaled, max_charge, Charged, offs}

-- ---- a number of a range, moved up by the range's limit, is not negative

module _ (limit : ℕ) (x : ℤ) (h : InRange limit x) where
  pub raise_low : dn (x +ℤ pos limit) ≡ 0
  raise_low = ⊎_elim (λ w. omega (arith, add_parts x (pos limit), h.low)) (λ w. omega arith) (one_side (x +ℤ pos limit))

  pub raise_high : nat_abs (x +ℤ pos limit) ≤ 2 * limit
  raise_high = omega (arith, abs_parts (x +ℤ pos limit), raise_low, add-up x (pos limit), h.high)

  pub raise_is : IsDiff x (nat_abs (x +ℤ pos limit)) limit
  raise_is = omega (arith, abs_parts (x +ℤ pos limit), raise_low, add_parts x (pos limit))

-- ---- the array of charges

pub raise_three : (x y z : ℤ) (a b c : ℕ) → IsDiff x a max_scaled → IsDiff y b max_multiplier → IsDiff z c max_multiplier
    → IsDiff ((x +ℤ y) +ℤ z) (a + b + c + 1) offset
raise_three x y z a b c h k l = omega (arith, add_parts x y, add_parts (x +ℤ y) z)

-- an edge that can be charged: its ends are among n vertices
abbrev pub Chargeable : ℕ → ℕ → ℕ → ℤ → Type 0
Chargeable n a b cost = (1 ≤ a) × (a ≤ n) × (1 ≤ b) × (b ≤ n) × InRange max_cost cost

-- x is the charge at ends a, b where multipliers count in q-ths
abbrev pub ChargeOf : ℕ → ℕ → ℕ → ℤ → List ℤ → ℕ → Type 0
ChargeOf q a b cost d x = IsDiff ((q times cost +ℤ multiplier d a) +ℤ multiplier d b) x offset × (1 ≤ x) × (x ≤ max_charge)

-- the first n places of c have the charges of the graph's edges
abbrev pub ChargesOf : ℕ → Graph → List ℤ → List ℕ → ℕ → Type 0
ChargesOf q g d c n = (k : ℕ) → k < n → ChargeOf q (get_or g.a k 0) (get_or g.b k 0) (get_or g.cost k (pos 0)) d (get_or c k 0)

-- every edge's charge, and past the edges what stood there
abbrev pub AllCharged : ℕ → Graph → List ℤ → List ℕ → List ℕ → Type 0
AllCharged q g d before after =
    ChargesOf q g d after g.m × (length after ≡ max_edges) × ((k : ℕ) → g.m ≤ k → get_or after k 0 ≡ get_or before k 0)

-- one more place
pub charges_more : (q : ℕ) (g : Graph) (d : List ℤ) (c : List ℕ) (n x : ℕ) → n < length c → ChargesOf q g d c n
    → ChargeOf q (get_or g.a n 0) (get_or g.b n 0) (get_or g.cost n (pos 0)) d x → ChargesOf q g d (set c n x) (n + 1)
charges_more q g d c n x room t new k l = at (ℕ_discrete k n)
  where
    at : Dec (k ≡ n) → ChargeOf q (get_or g.a k 0) (get_or g.b k 0) (get_or g.cost k (pos 0)) d (get_or (set c n x) k 0)
    at (yes e) = rw (e, get_or-set_same c n x 0 room) new
    at (no e) = rw (get_or-set_other c n k x 0 e) (t k (omega arith))

pub charged_of : (q : ℕ) (g : Graph) (d : List ℤ) (c : List ℕ) → ChargesOf q g d c g.m → Charged q g d c
unfolding charge
charged_of q g d c t k h =
    let x = t k h in
    record { is = rw (network_a g k h, network_b g k h, network-cost g k h) x.0; low = x.1; high = x.2 }

pub chargeable : (g : Graph) (n : ℕ) → value.Valid g → n ≡ g.n
    → (k : ℕ) → k < g.m → Chargeable n (get_or g.a k 0) (get_or g.b k 0) (get_or g.cost k (pos 0))
chargeable g n v e k h =
    let x = v.each k h in
    (x.from, omega (arith, x.less, x.to), omega (arith, x.from, x.less), omega (arith, x.to), within_range max_cost _ x.range)

-- ---- the sum of the multipliers

-- s is the sum of the first n, each moved up by the limit
abbrev pub Raised : List ℤ → ℕ → ℕ → Type 0
Raised d n s = IsDiff (sum_z (multiplier d) (up_to n)) s (max_multiplier * n) × (s ≤ 2 * max_multiplier * n)

pub raised_none : (d : List ℤ) → Raised d 0 0
unfolding up_to sum_z
raised_none d = (refl, omega arith)

pub raised-more : (d : List ℤ) (k x s : ℕ) → IsDiff (get_or d k (pos 0)) x max_multiplier → x ≤ 2 * max_multiplier → Raised d k s
    → Raised d (k + 1) (s + x)
unfolding up_to sum_z multiplier
raised-more d k x s h r l = rw add-one (omega (arith, add_parts (get_or d k (pos 0)) (sum_z (multiplier d) (up_to k))), omega arith)

-- ---- the bound

-- b is the bound that a sum of charges stands for, of a tree on n vertices
abbrev pub BoundOf : ℕ → List ℤ → ℕ → ℤ → Type 0
BoundOf n d sum b = (t : ℕ) × Raised d n t × IsDiff b sum (2 * t + (max_scaled + 1) * n)

pub bound_is : (q : ℕ) (g : Graph) → value.Valid g → (d : List ℤ) (c w : List ℕ) (b : ℤ) (sum t : ℕ) → Charged q g d c
    → OneTree (scaled_by q (network g)) (bytes w)
    → sum ≡ weight (entry c) (select (bytes w) (up_to g.m)) → Raised d g.n t
    → IsDiff b sum (2 * t + (max_scaled + 1) * g.n) → b ≡ bound (scaled_by q (network g)) (multiplier d) (bytes w)
unfolding network
bound_is q g v d c w b sum t ch o es et eb =
    diff_one b (bound (scaled_by q (network g)) (multiplier d) (bytes w)) _ _ mine
    (bound_diff (scaled_by q (network g)) (multiplier d) offset (entry c) (offs q g d c ch) (bytes w)
    (to_parts (scaled_by q (network g)) (valid_scaled q (network g) (network-valid g v)) (bytes w) o))
  where
    half : ℤ
    half = sum_z (multiplier d) (up_to g.n)

    two : ℤ
    two = pos 2 *ℤ half

    two_is : IsDiff two (t + t) (max_multiplier * g.n + max_multiplier * g.n)
    two_is = rw (twice half) (diff_add half half t (max_multiplier * g.n) t (max_multiplier * g.n) et.0 et.0)

    mine : IsDiff b (weight (entry c) (select (bytes w) (up_to g.m)) + dn two) (offset * g.n + up two)
    mine = omega (arith, es, eb, two_is)
