-- Document 01's 'The 1-tree' and 'Rulings', as definitions and nothing else. Each speaks of all sets of edges; how one is found, and how
-- it can be decided, stands elsewhere. (Document 01's words: chart, buoy, leg, dues, dead.)
use Rattle.std.specs.Prelude.{◌≡◌, Bool, true, false, not, ◌&&◌, List, ℕ, zero, suc, ◌+◌, eqb, length, ℤ, pos, ◌+ℤ◌, ◌-ℤ◌, ◌*ℤ◌, ◌≤ℤ◌, ◌<ℤ◌}
use Rattle.lists.specs.Members.{◌∈◌}
use Rattle.lists.specs.Select.{select}
use Rattle.lists.specs.Numbers.{up_to}
use Rattle.integers.specs.Sums.{sum_z}
use Rattle.graph.specs.Network.{Network, required, excluded}
use Rattle.spanning.specs.Walks.{Walk}

-- a set of edges says of each edge number whether the edge is in it
abbrev pub Edges : Type 0
Edges = ℕ → Bool

-- "buoys 2 to n"
unfoldable pub others : Network → List ℕ
unfolding select up_to
others g = select (λ v. not (eqb v 1)) (up_to g.n)

-- the edges of t "at buoy 1", the lower end of any that has it; and those "among buoys 2 to n"
unfoldable pub at_one : Network → Edges → List ℕ
unfolding select up_to
at_one g t = select (λ k. t k && eqb (g.a k) 1) (up_to g.m)

unfoldable pub away : Network → Edges → List ℕ
unfolding select up_to
away g t = select (λ k. t k && not (eqb (g.a k) 1)) (up_to g.m)

pub record OneTree (g : Network) (t : Edges) : Type 0 where
  -- "A 1-tree is n legs: two at buoy 1,"
  pub two : length (at_one g t) ≡ 2
  -- "and n − 2 among buoys 2 to n"
  pub rest : 2 + length (away g t) ≡ g.n
  -- "that connect them all."
  pub joined : (u v : ℕ) → u ∈ others g → v ∈ others g → Walk g.a g.b (away g t) u v
  -- "It has every required leg"
  pub keeps : (k : ℕ) → k ∈ up_to g.m → g.mark k ≡ required → t k ≡ true
  -- "and no struck one."
  pub avoids : (k : ℕ) → k ∈ up_to g.m → g.mark k ≡ excluded → t k ≡ false

-- "The charged cost of leg a–b is cost + d(a) + d(b)."
unfoldable pub charge : Network → (ℕ → ℤ) → ℕ → ℤ
charge g d k = (g.cost k +ℤ d (g.a k)) +ℤ d (g.b k)

-- "A 1-tree's bound is the sum of its charged costs less twice the sum of all dues."
unfoldable pub bound : Network → (ℕ → ℤ) → Edges → ℤ
unfolding sum_z charge up_to select
bound g d t = sum_z (charge g d) (select t (up_to g.m)) -ℤ (pos 2 *ℤ sum_z d (up_to g.n))

-- "Of two with equal bound, the one that lacks the highest-numbered leg in which they differ comes first."
-- Where x and y differ, whether it is x that is false; else r
abbrev pub unless : Bool → Bool → Bool → Bool
unless true true r = r
unless true false r = false
unless false true r = true
unless false false r = r

-- of the edges m, .. , 1, the first in which s and t differ is one that s lacks
unfoldable pub lacks_first : ℕ → Edges → Edges → Bool
lacks_first zero s t = false
lacks_first (suc m) s t = unless (s (suc m)) (t (suc m)) (lacks_first m s t)

-- "the 1-tree of least bound": none has a smaller bound, and none of the same bound comes first
pub record Least (g : Network) (d : ℕ → ℤ) (t : Edges) : Type 0 where
  pub tree : OneTree g t
  pub least : (s : Edges) → OneTree g s → bound g d t ≤ℤ bound g d s
  pub first : (s : Edges) → OneTree g s → bound g d s ≡ bound g d t → lacks_first g.m s t ≡ false

-- "'Dead' means no 1-tree has a bound at or below the ceiling"
unfoldable pub Infeasible : Network → (ℕ → ℤ) → ℤ → Type 0
Infeasible g d ceiling = (t : Edges) → OneTree g t → ceiling <ℤ bound g d t

-- "a free leg is barred exactly when no 1-tree with it has a bound within the ceiling,"
unfoldable pub Barred : Network → (ℕ → ℤ) → ℤ → ℕ → Type 0
Barred g d ceiling e = (t : Edges) → OneTree g t → t e ≡ true → ceiling <ℤ bound g d t

-- "and forced exactly when none without it has."
unfoldable pub Forced : Network → (ℕ → ℤ) → ℤ → ℕ → Type 0
Forced g d ceiling e = (t : Edges) → OneTree g t → t e ≡ false → ceiling <ℤ bound g d t
