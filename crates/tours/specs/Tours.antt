-- Tours, as one would tell a lecturer, and the test that the machine makes. Definitions only; that the test decides is shown in TourTest.
-- (Document 01's word: round.)
use Rattle.std.specs.Prelude.{◌≡◌, ◌⊎◌, ◌↔◌, Bool, true, false, ◌&&◌, ◌||◌, List, [], ◌∷◌, ℕ, ◌-◌, eqb, length, ℤ, ◌≤ℤ◌}
use Rattle.lists.specs.Members.{◌∈◌}
use Rattle.lists.specs.All.{some_of}
use Rattle.lists.specs.Select.{select}
use Rattle.lists.specs.Distinct.{Distinct}
use Rattle.lists.specs.Numbers.{up_to}
use Rattle.integers.specs.Sums.{sum_z}
use Rattle.graph.specs.Network.{Network, required, excluded}
use Rattle.tree_theory.specs.OneTree.{Edges, others}
use Rattle.tours.specs.Orders.{distinct, words}

-- ---- as statements

-- the ends of edge k are u and v, in either order
abbrev pub Ends : Network → ℕ → ℕ → ℕ → Type 0
Ends g k u v = ((g.a k ≡ u) × (g.b k ≡ v)) ⊎ ((g.a k ≡ v) × (g.b k ≡ u))

-- an edge of t joins u and v
pub record Joined (g : Network) (t : Edges) (u v : ℕ) : Type 0 where
  pub edge : ℕ
  pub listed : edge ∈ up_to g.m
  pub taken : t edge ≡ true
  pub ends : Ends g edge u v

-- edges of t lead from u through the vertices vs, in that order, to w
abbrev pub Trip : Network → Edges → ℕ → List ℕ → ℕ → Type 0
Trip g t u [] w = Joined g t u w
Trip g t u (v ∷ vs) w = Joined g t u v × Trip g t v vs w

pub record Tour (g : Network) (t : Edges) : Type 0 where
  -- "A round is n legs"
  pub number : length (select t (up_to g.m)) ≡ g.n
  -- "that form one closed trip through all n buoys": by these edges from vertex 1 to each other vertex, once, and back to vertex 1
  pub order : List ℕ
  pub once : Distinct order
  pub calls : (v : ℕ) → (v ∈ order) ↔ (v ∈ others g)
  pub trip : Trip g t 1 order 1

-- "It is allowed if it has every required leg and no struck one."
pub record Allowed (g : Network) (t : Edges) : Type 0 where
  pub keeps : (k : ℕ) → k ∈ up_to g.m → g.mark k ≡ required → t k ≡ true
  pub avoids : (k : ℕ) → k ∈ up_to g.m → g.mark k ≡ excluded → t k ≡ false

-- "a cost (the sum of its legs' costs)"
unfoldable pub cost : Network → Edges → ℤ
unfolding sum_z select up_to
cost g t = sum_z g.cost (select t (up_to g.m))

-- "the number of the tree's legs that touch buoy i"
unfoldable pub degree : Network → Edges → ℕ → ℕ
unfolding select up_to
degree g t v = length (select (λ k. t k && (eqb (g.a k) v || eqb (g.b k) v)) (up_to g.m))

-- an allowed tour with a cost "at or below the ceiling"
pub record Feasible (g : Network) (ceiling : ℤ) (t : Edges) : Type 0 where
  pub tour : Tour g t
  pub allowed : Allowed g t
  pub cheap : cost g t ≤ℤ ceiling

-- ---- as a test: every order of the other vertices is tried

unfoldable pub is_joined : Network → Edges → ℕ → ℕ → Bool
unfolding some_of up_to
is_joined g t u v =
    some_of (λ k. t k && ((eqb (g.a k) u && eqb (g.b k) v) || (eqb (g.a k) v && eqb (g.b k) u))) (up_to g.m)

unfoldable pub is_trip : Network → Edges → ℕ → List ℕ → ℕ → Bool
unfolding is_joined
is_trip g t u [] w = is_joined g t u w
is_trip g t u (v ∷ vs) w = elim (is_joined g t u v) [ true ↦ is_trip g t v vs w | false ↦ false ]

unfoldable pub is_tour : Network → Edges → Bool
unfolding select up_to some_of words others distinct is_trip
is_tour g t =
    eqb (length (select t (up_to g.m))) g.n
    && some_of (λ vs. distinct vs && is_trip g t 1 vs 1) (words (g.n - 1) (others g))
