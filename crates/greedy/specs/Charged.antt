-- Charges without a sign: each edge's charge moved up by one offset, so that it is at least 1 and code can compare and add it as an
-- unsigned number. Assumes nothing.
use Rattle.std.proofs.Common.{sym, subst}
use Rattle.std.specs.Prelude.{List, ℕ, suc, ◌+◌, ◌*◌, ◌<◌, ◌≤◌, get_or, ℤ}
use Rattle.integers.specs.Parts.{IsDiff}
use Rattle.graph.specs.declared.Graph.{Graph}
use Rattle.graph.specs.Limits.{max_vertices, max_edges, max_cost, max_multiplier, max_ceiling, max_denominator}
use Rattle.graph.specs.Network.{network}
use Rattle.tree_theory.specs.OneTree.{charge}
use Rattle.tree_theory.specs.Inputs.{multiplier}
use Rattle.tree_theory.specs.Scaled.{scaled_by}
use Rattle.tree_theory.specs.Ranges.{charge_limit}
use Rattle.tree_theory.specs.Optimal.Bound.{Shifted}
use Rattle.tree_theory.specs.Arrays.{entry, edge_in}

-- how large q times a cost and q times a ceiling get, whatever q is
abbrev pub max_scaled : ℕ
max_scaled = max_denominator * max_cost

abbrev pub max_scaled_ceiling : ℕ
max_scaled_ceiling = max_denominator * max_ceiling

-- a charge is q times a cost and two multipliers, so this much makes it positive: one offset for every q, since the limits grow with it
abbrev pub offset : ℕ
offset = charge_limit max_denominator + 1

-- and this much at most, when it is moved up
abbrev pub max_charge : ℕ
max_charge = 2 * charge_limit max_denominator + 1

-- how far above and below 0 a bound can be: it is a sum of charges, moved up, less max_scaled + 1 and at most 4 × max_multiplier for each vertex
abbrev pub high_bound : ℕ
high_bound = max_charge * max_edges

abbrev pub low_bound : ℕ
low_bound = (max_scaled + 1 + 4 * max_multiplier) * max_vertices

-- and so how far below q times a ceiling
abbrev pub max_slack : ℕ
max_slack = max_scaled_ceiling + low_bound

-- what stands for the charge of an edge that is not there: more than any charge, however far a bound lies below the ceiling
abbrev pub no_charge : ℕ
no_charge = max_charge + max_slack + 1

-- x is the charge of edge k + 1 where multipliers count in q-ths
pub record ChargeAt (q : ℕ) (g : Graph) (d : List ℤ) (k x : ℕ) : Type 0 where
  pub is : IsDiff (charge (scaled_by q (network g)) (multiplier d) (suc k)) x offset
  pub low : 1 ≤ x
  pub high : x ≤ max_charge

-- c has the charges of all edges
abbrev pub Charged : ℕ → Graph → List ℤ → List ℕ → Type 0
Charged q g d c = (k : ℕ) → k < g.m → ChargeAt q g d k (get_or c k 0)

-- none of them is too large for its key
abbrev pub Cheap : Graph → List ℕ → Type 0
Cheap g c = (k : ℕ) → k < g.m → get_or c k 0 ≤ max_charge

-- as the laws of bounds want it
pub offs : (q : ℕ) (g : Graph) (d : List ℤ) (c : List ℕ) → Charged q g d c → Shifted (scaled_by q (network g)) (multiplier d) offset (entry c)
offs q g d c h e m =
    let r = edge_in g e m in
    subst (λ (x : ℕ). IsDiff (charge (scaled_by q (network g)) (multiplier d) x) (entry c x) offset) (sym r.2) (h r.0 r.1).is
