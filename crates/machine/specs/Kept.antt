-- What holds of every state that the calls leave, and lets a record of fixed size hold it: the arguments are those of an accepted opening,
-- the upper bound is in the ceiling's range, the stack is at most A + 2 deep, A being the number of active vertices, its node p, from the bottom, has at
-- least p required edges (which is why: only a node with at most A of them splits), each node and the incumbent have m places, and the multipliers of
-- each node are such as an opening of A vertices accepts; and each node excludes every edge that touches an inactive vertex. Definitions; Preserved
-- shows that every call keeps it.
use Rattle.std.specs.Prelude.{◌≡◌, Bool, true, List, [], ◌∷◌, ℕ, suc, ◌+◌, ◌≤◌, ◌<◌, length, get_or, ℤ}
use Rattle.std.proofs.Common.{arith}
use Rattle.integers.specs.Range.{InRange}
use Rattle.graph.specs.Limits.{max_vertices, max_ceiling, max_sweeps, max_step, max_denominator, max_count}
use Rattle.graph.specs.Network.{free, excluded, network}
use Rattle.graph.specs.Valid.{Valid}
use Rattle.tree_theory.specs.OneTree.{Edges}
use Rattle.tree_theory.specs.Inputs.{multipliers_fit}
use Rattle.thinning.specs.Ranks.{rank, rank_most}
use Rattle.afloat.specs.Over.{active, ashore, ashore_fits, touched}
use Rattle.machine.specs.Outcomes.{Incumbent, no_tour, a_tour}
use Rattle.machine.specs.Machine.{Marks, Node, Opening, Progress, State, no_search, searching}
use Rattle.machine.specs.Requireds.{requireds}
use Rattle.machine.specs.Trimmed.{Trim}

-- the number of active vertices
abbrev pub active_size : Opening → ℕ
active_size o = rank (active (ashore o.ashore)) o.graph.n

pub record Accepted (o : Opening) : Type 0 where
  pub trim : Trim o.graph
  pub valid : Valid o.graph
  pub long : length o.multipliers ≡ o.graph.n
  pub multipliers : multipliers_fit o.multipliers ≡ true
  pub ashore_long : length o.ashore ≡ o.graph.n
  pub ashore_fit : ashore_fits o.ashore o.graph.n ≡ true
  pub ceiling : InRange max_ceiling o.settings.ceiling
  pub sweeps : o.settings.sweeps ≤ max_sweeps
  pub step : o.settings.step ≤ max_step
  pub denominator : (1 ≤ o.settings.denominator) × (o.settings.denominator ≤ max_denominator)
  pub lifting : o.settings.lifting ≤ 1

-- multipliers such as an opening accepts, of n vertices
pub record FitFor (n : ℕ) (d : List ℤ) : Type 0 where
  pub long : length d ≡ n
  pub fits : multipliers_fit d ≡ true

-- a node that waits on so many others
pub record Waits (n m below : ℕ) (x : Node) : Type 0 where
  pub long : length x.marks ≡ m
  pub multipliers : FitFor n x.multipliers
  pub required : below ≤ requireds x.marks

-- the stack's top stands first: below it are as many nodes as its own number, counted from 0
abbrev pub Nodes : ℕ → ℕ → List Node → Type 0
Nodes n m [] = Unit {0}
Nodes n m (x ∷ below) = Waits n m (length below) x × Nodes n m below

-- each of m edges that is in c is excluded
abbrev pub Off : ℕ → Edges → Marks → Type 0
Off m c x = (k : ℕ) → k < m → c (suc k) ≡ true → get_or x k free ≡ excluded

-- in each node
abbrev pub AllOff : ℕ → Edges → List Node → Type 0
AllOff m c [] = Unit {0}
AllOff m c (x ∷ below) = Off m c x.marks × AllOff m c below

-- document 02, C-20: "A leg touching such a buoy counts as struck, .. and opening piles it so"
abbrev pub touching : Opening → Edges
touching o = touched (ashore o.ashore) (network o.graph)

abbrev pub Sized : ℕ → Incumbent (List Bool) → Type 0
Sized m no_tour = Unit {0}
Sized m (a_tour r) = (length r ≡ m)

pub record Kept (s : Progress) : Type 0 where
  pub opening : Accepted s.opening
  pub upper : InRange max_ceiling s.upper
  pub depth : length s.stack ≤ active_size s.opening + 2
  pub nodes : Nodes (active_size s.opening) s.opening.graph.m s.stack
  pub struck : AllOff s.opening.graph.m (touching s.opening) s.stack
  pub sized : Sized s.opening.graph.m s.incumbent
  pub count : s.count ≤ max_count

abbrev pub KeptState : State → Type 0
KeptState no_search = Unit {0}
KeptState (searching s) = Kept s

-- so the stack is never deeper than 22
pub depth_most : (s : Progress) → Kept s → length s.stack ≤ max_vertices + 2
depth_most s h =
    omega (arith, h.depth, h.opening.valid.high, rank_most (active (ashore s.opening.ashore)) s.opening.graph.n)
