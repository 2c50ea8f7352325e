-- "A given round leg by leg": a list of edges in sailing order, as a statement and as the test that a walk along it makes. Definitions only;
-- OrderTest shows that the test decides. (Document 02's words: leg, buoy, round.)
use Rattle.std.specs.Prelude.{◌↔◌, Bool, false, not, cond, ◌&&◌, ◌||◌, List, [], ◌∷◌, ◌++◌, ℕ, eqb, leb, length}
use Rattle.lists.specs.Members.{◌∈◌}
use Rattle.lists.specs.Distinct.{Distinct}
use Rattle.lists.specs.Numbers.{up_to}
use Rattle.lists.specs.Sets.{NumberSet, ◌⊕◌}
use Rattle.graph.specs.Network.{Network}
use Rattle.tree_theory.specs.OneTree.{others}
use Rattle.tours.specs.Tours.{Ends}

-- ---- as a statement

-- the edges lead from u to each of the vertices in turn: the first joins u and the first vertex, the second that one and the second
abbrev pub Leads : Network → ℕ → List ℕ → List ℕ → Type 0
Leads g u [] [] = Unit {0}
Leads g u [] (v ∷ vs) = ⊥
Leads g u (k ∷ ks) [] = ⊥
Leads g u (k ∷ ks) (v ∷ vs) = (k ∈ up_to g.m) × Ends g k u v × Leads g v ks vs

-- "a round of all the chart's buoys in sailing order from buoy 1": the edges lead from vertex 1 to each other vertex, once, and back
pub record SailingOrder (g : Network) (ks : List ℕ) : Type 0 where
  pub order : List ℕ
  pub once : Distinct order
  pub calls : (v : ℕ) → (v ∈ order) ↔ (v ∈ others g)
  pub leads : Leads g 1 ks (order ++ 1 ∷ [])

-- ---- as a test

-- k is 1 to m
unfoldable pub listed : Network → ℕ → Bool
listed g k = leb 1 k && leb k g.m

-- u is an end of edge k
unfoldable pub touches : Network → ℕ → ℕ → Bool
touches g k u = eqb (g.a k) u || eqb (g.b k) u

-- its other end
unfoldable pub other_end : Network → ℕ → ℕ → ℕ
other_end g k u = cond (eqb (g.a k) u) (g.b k) (g.a k)

-- from u, edge k leads to a vertex that was not come to before
unfoldable pub goes_on : Network → NumberSet → ℕ → ℕ → Bool
unfolding listed touches other_end
goes_on g met u k = listed g k && (touches g k u && not (met (other_end g k u)))

-- so does each edge in turn, and the last leads to vertex 1; met are the vertices come to, vertex 1 only at the end
unfoldable pub walk : Network → NumberSet → ℕ → List ℕ → Bool
unfolding goes_on other_end ◌⊕◌
walk g met u [] = eqb u 1
walk g met u (k ∷ ks) = goes_on g met u k && walk g (met ⊕ other_end g k u) (other_end g k u) ks

unfoldable pub in_sailing_order : Network → List ℕ → Bool
unfolding walk
in_sailing_order g ks = eqb (length ks) g.n && walk g (λ v. false) 1 ks
