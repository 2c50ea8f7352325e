-- The sum of the costs of the edges that are in, edge by edge, and that it is the machine's cost of a tour. Assumes nothing.
use Rattle.std.specs.Prelude.{◌≡◌, refl, List, ℕ, ◌+◌, ◌*◌, ◌≤◌, ◌<◌, get_or, ℤ, pos, ◌+ℤ◌}
use Rattle.std.proofs.Common.{sym, ap, ◌∙◌, subst, arith, add-one, eq-eqb, ne_eqb}
use Rattle.std.proofs.Math.Bool.{false}
use Rattle.std.proofs.Math.Decide.{ℕ_discrete}
use Rattle.std.proofs.Math.Dec.{eqb}
use Rattle.lists.specs.Select.{select, select_cong}
use Rattle.lists.specs.Numbers.{up_to}
use Rattle.lists.specs.Fill.{fill-at}
use Rattle.integers.specs.Parts.{up, dn, add-up, add-dn}
use Rattle.integers.specs.Range.{InRange}
use Rattle.integers.specs.Sums.{sum_z}
use Rattle.graph.specs.declared.Graph.{Graph}
use Rattle.graph.specs.Limits.{max_cost}
use Rattle.graph.specs.Network.{network}
use Rattle.graph.specs.Places.{network-cost}
use Rattle.tree_theory.specs.Agree.{Agree}
use Rattle.tree_theory.specs.Arrays.{bytes, edge_in}
use Rattle.tours.specs.Tours.{cost}
use Rattle.machine.specs.Machine.{edges_of}
use Rattle.search.specs.Record.{bits}

-- of the first k edges
unfoldable pub cost_to : ℕ → Graph → List ℕ → ℤ
unfolding sum_z select up_to
cost_to k g w = sum_z (network g).cost (select (bytes w) (up_to k))

pub cost_none : (g : Graph) (w : List ℕ) → cost_to 0 g w ≡ pos 0
unfolding cost_to up_to select sum_z
cost_none g w = refl

pub cost_in_lem : (g : Graph) (w : List ℕ) (k : ℕ) → k < g.m → get_or w k 0 ≡ 1 → cost_to (k + 1) g w ≡ get_or g.cost k (pos 0) +ℤ cost_to k g w
unfolding cost_to up_to select sum_z
cost_in_lem g w k h e = rw (add-one, eq-eqb (get_or w k 0) 1 e, network-cost g k h)

pub cost_out : (g : Graph) (w : List ℕ) (k : ℕ) → (get_or w k 0 ≡ 1 → ⊥) → cost_to (k + 1) g w ≡ cost_to k g w
unfolding cost_to up_to select
cost_out g w k e = rw (add-one, ne_eqb (get_or w k 0) 1 e)

-- the sum so far, in a range that grows by one edge's
pub record CostTo (k : ℕ) (g : Graph) (w : List ℕ) (sum : ℤ) : Type 0 where
  pub is : sum ≡ cost_to k g w
  pub high : up sum ≤ max_cost * k
  pub low : dn sum ≤ max_cost * k

-- one byte b more, of an edge of cost x
pub record Ticked (b : ℕ) (x sum r : ℤ) : Type 0 where
  pub yes' : b ≡ 1 → r ≡ x +ℤ sum
  pub no' : (b ≡ 1 → ⊥) → r ≡ sum

pub ticked : (k : ℕ) (g : Graph) (w : List ℕ) (sum r : ℤ) → k < g.m → InRange max_cost (get_or g.cost k (pos 0))
    → CostTo k g w sum → Ticked (get_or w k 0) (get_or g.cost k (pos 0)) sum r → CostTo (k + 1) g w r
ticked k g w sum r h range c t = go (ℕ_discrete (get_or w k 0) 1)
  where
    x : ℤ
    x = get_or g.cost k (pos 0)

    go : Dec (get_or w k 0 ≡ 1) → CostTo (k + 1) g w r
    go (yes e) = record {
      is = t.yes' e ∙ ap (λ (z : ℤ). get_or g.cost k (pos 0) +ℤ z) c.is ∙ sym (cost_in_lem g w k h e);
      high = rw (t.yes' e) (omega (arith, add-up (get_or g.cost k (pos 0)) sum, range.high, c.high));
      low = rw (t.yes' e) (omega (arith, add-dn (get_or g.cost k (pos 0)) sum, range.low, c.low));
    }
    go (no e) = record {
      is = t.no' e ∙ c.is ∙ sym (cost_out g w k e);
      high = rw (t.no' e) (omega (arith, c.high));
      low = rw (t.no' e) (omega (arith, c.low));
    }

-- it is the machine's
pub cost_all : (g : Graph) (w : List ℕ) → cost_to g.m g w ≡ cost (network g) (bytes w)
unfolding cost_to cost network
cost_all g w = refl

-- a tour's bytes as Booleans have its edges
pub bits_edges : (g : Graph) (w : List ℕ) → Agree g.m (edges_of (bits g.m w)) (bytes w)
unfolding network
bits_edges g w k i =
    let r = edge_in g k i in
    subst (λ (j : ℕ). edges_of (bits g.m w) j ≡ bytes w j) (sym r.2)
    (unfold edges_of bits in fill-at g.m (λ j. eqb (get_or w j 0) 1) r.0 false r.1)

pub cost-bits : (g : Graph) (w : List ℕ) → cost (network g) (edges_of (bits g.m w)) ≡ cost (network g) (bytes w)
unfolding cost network
cost-bits g w = ap (sum_z (network g).cost) (select_cong (edges_of (bits g.m w)) (bytes w) (up_to g.m) (bits_edges g w))
