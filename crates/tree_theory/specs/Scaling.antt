-- What does not go by costs is the same at the network with q times the costs, for every q: vertices, edges, marks, 1-trees. And with q = 1 it is
-- the network itself, so every definition has its former value there. Assumes nothing.
use Rattle.std.specs.Prelude.{◌≡◌, ◌↔◌, List, ℕ, ℤ, ◌+ℤ◌}
use Rattle.std.proofs.Math.Path.{refl}
use Rattle.std.proofs.Common.{ap₂}
use Rattle.integers.specs.Multiples.{◌times◌, times-one}
use Rattle.graph.specs.Network.{Network}
use Rattle.tree_theory.specs.OneTree.{Edges, OneTree, others, at_one, away, charge}
use Rattle.tree_theory.specs.Enumeration.{is_one_tree, one_trees}
use Rattle.tree_theory.specs.Valid.{Valid, near, far}
use Rattle.tree_theory.specs.Optimal.Minimum.{Order, Chosen}
use Rattle.tree_theory.specs.Optimal.Criteria.{MaySwap}
use Rattle.tree_theory.specs.Scaled.{scaled_by}

module _ (q : ℕ) (g : Network) where
  -- "q × cost plus the two dues"
  pub charge_scaled : (d : ℕ → ℤ) (k : ℕ) → charge (scaled_by q g) d k ≡ (q times g.cost k +ℤ d (g.a k)) +ℤ d (g.b k)
  unfolding charge
  charge_scaled d k = refl

  pub valid_scaled : Valid g → Valid (scaled_by q g)
  valid_scaled v = record { big = v.big; low = v.low; apart = v.apart; high = v.high }

  pub tree_scaled : (t : Edges) → OneTree (scaled_by q g) t ↔ OneTree g t
  unfolding others at_one away
  tree_scaled t = (
    λ o. record { two = o.two; rest = o.rest; joined = o.joined; keeps = o.keeps; avoids = o.avoids },
    λ o. record { two = o.two; rest = o.rest; joined = o.joined; keeps = o.keeps; avoids = o.avoids },
  )

  -- the greedy choice goes by charges, which are given
  pub order_scaled : (w : ℕ → ℕ) (all fs rs : List ℕ) → Order g w all fs rs → Order (scaled_by q g) w all fs rs
  order_scaled w all fs rs o = record { listing = o.listing; top = o.top; desc = o.desc; must = o.must; may = o.may }

  pub chosen_scaled : (l₁ l₂ : List ℕ) (t : Edges) → Chosen g l₁ l₂ t → Chosen (scaled_by q g) l₁ l₂ t
  unfolding near far
  chosen_scaled l₁ l₂ t c = record { in₁ = c.in₁; of₁ = c.of₁; in₂ = c.in₂; of₂ = c.of₂; none = c.none }

  -- so does which edge may take another's place
  pub swap_scaled : (s : Edges) (f e : ℕ) → MaySwap (scaled_by q g) s f e ↔ MaySwap g s f e
  unfolding far
  swap_scaled s f e = (
    λ m. record { loose = m.loose; allowed = m.allowed; place = m.place },
    λ m. record { loose = m.loose; allowed = m.allowed; place = m.place },
  )

  pub is_one_tree_scaled : (t : Edges) → is_one_tree (scaled_by q g) t ≡ is_one_tree g t
  unfolding is_one_tree
  is_one_tree_scaled t = refl

  pub one_trees_scaled : one_trees (scaled_by q g) ≡ one_trees g
  unfolding one_trees
  one_trees_scaled = refl

-- WITH q = 1 IT IS THE NETWORK ITSELF
pub scaled_one : (g : Network) → scaled_by 1 g ≡ g
scaled_one g = λ i. record { n = g.n; m = g.m; a = g.a; b = g.b; cost = λ k. times-one (g.cost k) i; mark = g.mark }

-- so whatever is made of a network and a ceiling is what it was
pub at_one_lem {ℓ} : {A : Type ℓ} (F : Network → ℤ → A) (g : Network) (ceiling : ℤ) → F (scaled_by 1 g) (1 times ceiling) ≡ F g ceiling
at_one_lem F g ceiling = ap₂ F (scaled_one g) (times-one ceiling)
