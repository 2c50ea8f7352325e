-- DOCUMENT 02, C-22, OF THE CALL in plain words: when a log is refused and at which place, which graph is made, and that searches are then about
-- that graph. Stated of the reply and the graph that the contract of `update` cites. Statements only: Theorems proves them.
use Rattle.std.specs.Prelude.{◌≡◌, List, [], ℕ, ◌-◌, ◌<◌, ◌≤◌, length, get_or, take, ℤ, pos}
use Rattle.lists.specs.Members.{◌∈◌}
use Rattle.lists.specs.Numbers.{up_to}
use Rattle.lists.specs.Select.{select}
use Rattle.integers.specs.Range.{InRange}
use Rattle.integers.specs.Sums.{sum_z}
use Rattle.graph.specs.declared.Graph.{Graph}
use Rattle.graph.specs.Limits.{max_edges, max_cost}
use Rattle.graph.specs.Network.{network}
use Rattle.graph.specs.Valid.{Valid}
use Rattle.recent.specs.Costs.{Entry, log_of, times_of, latest, recent_cost, recent_costs}
use Rattle.recent.specs.Windows.{unused, entered_all}
use Rattle.recent.specs.Greatest.{Greatest}
use Rattle.recent.specs.Answers.{max_window, made, refused, recent_reply, recent_leaves}
use Rattle.tree_theory.specs.OneTree.{Edges}
use Rattle.tours.specs.Tours.{cost}
use Rattle.machine.specs.declared.Settings.{Settings}
use Rattle.machine.specs.Machine.{Opening}
use Rattle.machine.specs.Calls.{Verdict, fault}

-- ---- refusals

-- the entry "names no leg or a time outside the cost range"
abbrev pub Bad : ℕ → Entry → Type 0
Bad m e = ((1 ≤ e.edge) × (e.edge ≤ m) × InRange max_cost e.time) → ⊥

-- "the first such entry's place given, from 1"
pub record FirstBad (m : ℕ) (log : List Entry) (place : ℕ) : Type 0 where
  pub entry : Entry
  pub from : 1 ≤ place
  pub to : place ≤ length log
  pub there : get_or log (place - 1) entry ≡ entry
  pub bad : Bad m entry
  pub before : (i : ℕ) → i < place - 1 → ¬ Bad m (get_or log i entry)

-- "Both after 15 and 11: 38 when w is out of range; then 39"
pub record Refuses (g : Graph) (w : ℕ) (edges : List ℕ) (times : List ℤ) : Type 0 where
  pub graph : (Valid g → ⊥) → recent_reply g w edges times ≡ refused 15 0
  pub lengths : Valid g → (length edges ≡ length times → ⊥) → recent_reply g w edges times ≡ refused 11 0
  pub window : Valid g → length edges ≡ length times → ((1 ≤ w) × (w ≤ max_window) → ⊥) → recent_reply g w edges times ≡ refused 38 0
  pub entries : Valid g → length edges ≡ length times → 1 ≤ w → w ≤ max_window → (place : ℕ) → FirstBad g.m (log_of edges times) place
      → recent_reply g w edges times ≡ refused 39 place
  -- and nothing else is
  pub otherwise : Valid g → length edges ≡ length times → 1 ≤ w → w ≤ max_window
      → ((e : Entry) → e ∈ log_of edges times → ¬ Bad g.m e) → recent_reply g w edges times ≡ made
  -- "and the chart unchanged"
  pub unchanged : (number place : ℕ) → recent_reply g w edges times ≡ refused number place → recent_leaves g w edges times ≡ g

-- ---- the graph that is made

-- of an edge with cost c and times ts
pub record CostIs (w : ℕ) (c : ℤ) (ts : List ℤ) (z : ℤ) : Type 0 where
  -- "A leg's cost should be the greatest of its last w times", "A leg with fewer sailings uses those it has"
  pub some : 1 ≤ length ts → Greatest (latest w ts) z
  -- "and one with none keeps the chart's cost"
  pub none : ts ≡ [] → z ≡ c

pub record Makes (w : ℕ) (log : List Entry) (g h : Graph) : Type 0 where
  pub valid : Valid h
  pub costs : (k : ℕ) → k ∈ up_to g.m → CostIs w ((network g).cost k) (times_of k log) ((network h).cost k)
  -- the rest is the chart's: places past m and marks too
  pub n : h.n ≡ g.n
  pub m : h.m ≡ g.m
  pub a : h.a ≡ g.a
  pub b : h.b ≡ g.b
  pub mark : h.mark ≡ g.mark
  pub past : (i : ℕ) → g.m ≤ i → get_or h.cost i (pos 0) ≡ get_or g.cost i (pos 0)

-- a graph value's costs have 190 places
abbrev pub Made : Type 0
Made = (g : Graph) (w : ℕ) (edges : List ℕ) (times : List ℤ) → length g.cost ≡ max_edges → recent_reply g w edges times ≡ made
    → Makes w (log_of edges times) g (recent_leaves g w edges times)

-- "After every entry the costs equal those worked out afresh from the log so far.": of the window that the loop folds, as the contracts of
-- `enter` and `replay` cite it, after the first i entries, for every i
abbrev pub AfterEvery : Type 0
AfterEvery = (g : Graph) (w : ℕ) (edges : List ℕ) (times : List ℤ) → length g.cost ≡ max_edges → recent_reply g w edges times ≡ made
    → (i : ℕ) → (entered_all w (unused g.cost) (take i (log_of edges times))).costs ≡ recent_costs w g.cost (take i (log_of edges times))

-- ---- "Hunts are then about the chart so made."

abbrev pub opening : Graph → List ℤ → List ℕ → Settings → Opening
opening g d l settings = record { graph = g; multipliers = d; ashore = l; settings = settings }

-- of the lists L of any calls: which leave a finished search that was opened with o, and what is then said
pub record SearchedAfter {L : Type 0} (LeavesFinished : L → Opening → Type 0) (SaysAfter : L → Opening → Verdict → Type 0)
    (g : Graph) (w : ℕ) (log : List Entry) (h : Graph) : Type 0 where
  -- it can be opened wherever the chart could be
  pub opens : (d : List ℤ) (l : List ℕ) (settings : Settings) → fault (opening h d l settings) ≡ fault (opening g d l settings)
  -- a tour's cost is the sum of its edges' recent costs
  pub priced : (t : Edges) → cost (network h) t ≡ sum_z (λ k. recent_cost w ((network g).cost k) log k) (select t (up_to g.m))
  -- demand 3 at it: whatever list leaves a finished search that was opened with it, the verdict is of its tours
  pub says : (cs : L) (d : List ℤ) (l : List ℕ) (settings : Settings) → LeavesFinished cs (opening h d l settings)
      → (v : Verdict) × SaysAfter cs (opening h d l settings) v

abbrev pub Searched : {L : Type 0} → (L → Opening → Type 0) → (L → Opening → Verdict → Type 0) → Type 0
Searched LeavesFinished SaysAfter = (g : Graph) (w : ℕ) (edges : List ℕ) (times : List ℤ) → length g.cost ≡ max_edges
    → recent_reply g w edges times ≡ made → SearchedAfter LeavesFinished SaysAfter g w (log_of edges times) (recent_leaves g w edges times)
