-- Document 02's C-17, "State the sum and range facts for any q": how large charges, their sums, bounds and the slack get at q times the costs, for
-- every q. A charge is within q · C + 2 · D where costs are within C and multipliers within D, and a sum of n charges within n times that. Then the same by
-- the limits' names. Assumes nothing.
use Rattle.std.specs.Prelude.{◌≡◌, refl, ℕ, ◌+◌, ◌*◌, ◌≤◌, length, eqb, ◌+ℤ◌, ◌-ℤ◌}
use Rattle.std.proofs.Common.{inl, inr, le_trans, mul-add, mul_left_comm, mul-le-mul_left, mul-le-mul_right, length-append}
use mathlib.Core.List.{List, [], ◌∷◌}
use native.Mathlib.Omega.{arith}
use Rattle.std.proofs.Math.IntN.{ℤ}
use Rattle.lists.specs.Members.{◌∈◌}
use Rattle.lists.specs.Select.{select, select_in, split_length}
use Rattle.lists.specs.Numbers.{up_to, length-up_to}
use Rattle.integers.specs.Parts.{up, dn, add-up, add-dn}
use Rattle.integers.specs.Differences.{sub-up, sub-dn}
use Rattle.integers.specs.Range.{InRange}
use Rattle.integers.specs.Sums.{sum_z}
use Rattle.integers.specs.Multiples.{◌times◌, times-up, times-dn, times_range}
use Rattle.graph.specs.Limits.{max_cost, max_multiplier, max_vertices, max_ceiling}
use Rattle.graph.specs.Network.{Network}
use Rattle.tree_theory.specs.OneTree.{Edges, OneTree, at_one, away, charge, bound}
use Rattle.tree_theory.specs.Scaled.{scaled_by}

module _ (limit : ℕ) (f : ℕ → ℤ) where
  highest : (xs : List ℕ) → ((k : ℕ) → k ∈ xs → InRange limit (f k)) → up (sum_z f xs) ≤ length xs * limit
  unfolding sum_z
  highest [] h = omega arith
  highest (x ∷ xs) h = omega (arith, add-up (f x) (sum_z f xs), (h x (inl refl)).high, highest xs (λ k m. h k (inr m)))

  lowest : (xs : List ℕ) → ((k : ℕ) → k ∈ xs → InRange limit (f k)) → dn (sum_z f xs) ≤ length xs * limit
  unfolding sum_z
  lowest [] h = omega arith
  lowest (x ∷ xs) h = omega (arith, add-dn (f x) (sum_z f xs), (h x (inl refl)).low, lowest xs (λ k m. h k (inr m)))

  -- a sum of integers within a limit, over a list of at most n
  pub sum_range : (n : ℕ) (xs : List ℕ) → ((k : ℕ) → k ∈ xs → InRange limit (f k)) → length xs ≤ n → InRange (n * limit) (sum_z f xs)
  sum_range n xs h l = record {
    high = omega (arith, highest xs h, mul-le-mul_right limit l);
    low = omega (arith, lowest xs h, mul-le-mul_right limit l);
  }

module _ (q C D : ℕ) (g : Network) (d : ℕ → ℤ)
    (costs : (k : ℕ) → k ∈ up_to g.m → InRange C (g.cost k)) (multipliers : (v : ℕ) → InRange D (d v)) where
  -- THE RANGE OF A CHARGE
  pub charge_range : (k : ℕ) → k ∈ up_to g.m → InRange (q * C + 2 * D) (charge (scaled_by q g) d k)
  unfolding charge
  charge_range k m =
      let c = times_range q C (g.cost k) (costs k m) in
      record {
        high = omega (
          arith,
          add-up (q times g.cost k +ℤ d (g.a k)) (d (g.b k)),
          add-up (q times g.cost k) (d (g.a k)),
          c.high,
          (multipliers (g.a k)).high,
          (multipliers (g.b k)).high,
        );
        low = omega (
          arith,
          add-dn (q times g.cost k +ℤ d (g.a k)) (d (g.b k)),
          add-dn (q times g.cost k) (d (g.a k)),
          c.low,
          (multipliers (g.a k)).low,
          (multipliers (g.b k)).low,
        );
      }

  -- of a sum of charges, and of a bound, over at most n edges
  pub charges_range : (n : ℕ) (t : Edges) → length (select t (up_to g.m)) ≤ n
      → InRange (n * (q * C + 2 * D)) (sum_z (charge (scaled_by q g) d) (select t (up_to g.m)))
  charges_range n t l =
      sum_range (q * C + 2 * D) (charge (scaled_by q g) d) n (select t (up_to g.m))
      (λ k m. charge_range k (select_in t (up_to g.m) k m).0) l

  pub bound_range : (t : Edges) → length (select t (up_to g.m)) ≤ g.n
      → InRange (g.n * (q * C + 2 * D) + 2 * (g.n * D)) (bound (scaled_by q g) d t)
  unfolding bound
  bound_range t l =
      let s = charges_range g.n t l in
      record {
        high = omega (arith, sub-up sum (2 times all), s.high, times-dn 2 all, every.low);
        low = omega (arith, sub-dn sum (2 times all), s.low, times-up 2 all, every.high);
      }
    where
      sum : ℤ
      sum = sum_z (charge (scaled_by q g) d) (select t (up_to g.m))

      all : ℤ
      all = sum_z d (up_to g.n)

      every : InRange (g.n * D) (sum_z d (up_to g.n))
      every = sum_range D d g.n (up_to g.n) (λ v m. multipliers v) (omega (arith, length-up_to g.n))

-- a 1-tree has n edges
pub tree-size : (g : Network) (t : Edges) → OneTree g t → length (select t (up_to g.m)) ≡ g.n
unfolding at_one away
tree-size g t o =
    omega (
      arith,
      o.two,
      o.rest,
      simp length-append at (split_length t (λ k. eqb (g.a k) 1) (up_to g.m)),
    )

-- ---- by the limits' names

-- of a charge, and of the bound of a 1-tree: twice the sum of the multipliers comes off
abbrev pub charge_limit : ℕ → ℕ
charge_limit q = q * max_cost + 2 * max_multiplier

abbrev pub bound_limit : ℕ → ℕ
bound_limit q = max_vertices * (q * max_cost + 4 * max_multiplier)

bound-limit : (q n C D N : ℕ) → n ≤ N → n * (q * C + 2 * D) + 2 * (n * D) ≤ N * (q * C + 4 * D)
bound-limit q n C D N h = rw same (mul-le-mul_right (q * C + 4 * D) h)
  where
    same : n * (q * C + 2 * D) + 2 * (n * D) ≡ n * (q * C + 4 * D)
    same =
        omega (
          arith,
          mul-add n (q * C) (2 * D),
          mul-add n (q * C) (4 * D),
          mul_left_comm n 2 D,
          mul_left_comm n 4 D,
        )

-- q times the ceiling less such a bound: the slack
abbrev pub slack_limit : ℕ → ℕ
slack_limit q = q * max_ceiling + bound_limit q

pub slack_limit_lem : (q : ℕ) (ceiling b : ℤ) → InRange max_ceiling ceiling → InRange (bound_limit q) b → InRange (slack_limit q) (q times ceiling -ℤ b)
slack_limit_lem q ceiling b c r =
    let s = times_range q max_ceiling ceiling c in
    record {
      high = omega (arith, sub-up (q times ceiling) b, s.high, r.low);
      low = omega (arith, sub-dn (q times ceiling) b, s.low, r.high);
    }

-- the limits grow with q, so those of the largest q are those of all
pub limits_grow : (p q : ℕ) → p ≤ q → (charge_limit p ≤ charge_limit q) × (bound_limit p ≤ bound_limit q) × (slack_limit p ≤ slack_limit q)
limits_grow p q h =
    let c = mul-le-mul_right max_cost h in
    let b = mul-le-mul_left max_vertices (charged c) in
    (omega (arith, c), b, omega (arith, b, mul-le-mul_right max_ceiling h))
  where
    charged : p * max_cost ≤ q * max_cost → p * max_cost + 4 * max_multiplier ≤ q * max_cost + 4 * max_multiplier
    charged i = omega (arith, i)

module _ (q : ℕ) (g : Network) (d : ℕ → ℤ) (costs : (k : ℕ) → k ∈ up_to g.m → InRange max_cost (g.cost k))
    (multipliers : (v : ℕ) → InRange max_multiplier (d v)) where
  pub charge-limit : (k : ℕ) → k ∈ up_to g.m → InRange (charge_limit q) (charge (scaled_by q g) d k)
  charge-limit k m = charge_range q max_cost max_multiplier g d costs multipliers k m

  pub charges_limit : (n : ℕ) (t : Edges) → length (select t (up_to g.m)) ≤ n
      → InRange (n * charge_limit q) (sum_z (charge (scaled_by q g) d) (select t (up_to g.m)))
  charges_limit n t l = charges_range q max_cost max_multiplier g d costs multipliers n t l

  pub tree-limit : g.n ≤ max_vertices → (t : Edges) → OneTree g t → InRange (bound_limit q) (bound (scaled_by q g) d t)
  tree-limit small t o =
      let r = bound_range q max_cost max_multiplier g d costs multipliers t (omega (arith, tree-size g t o)) in
      let l = bound-limit q g.n max_cost max_multiplier max_vertices small in
      record { high = le_trans r.high l; low = le_trans r.low l }
