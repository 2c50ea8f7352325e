-- DOCUMENT 02, C-16, of the machine: "Both branches see the same parent dues, whatever the first branch did."
--   siblings        both halves of a node have one list of multipliers
--   stays           nodes below the top stay as they are, marks and multipliers, until they are the top
--   second-branch   so the lower half of a node comes to the top as it was stored, whatever the upper half led to
-- (Where no pass follows the first of a node, every node has the opening's multipliers: `no_sweeps`, proofs/Inherited.) Assumes nothing.
use Rattle.std.specs.Prelude.{◌≡◌, Bool, ltb, length, ℤ}
use Rattle.std.proofs.Math.Path.{refl, ap}
use Rattle.std.proofs.Common.{◌∙◌, subst, inl, inr, arith}
use mathlib.Core.List.{List, [], ◌∷◌, ◌++◌}
use Prim.Native.Nat.{ℕ, zero, suc, ◌≤◌, ◌<◌}
use Rattle.std.proofs.Math.Decide.{dec_le}
use Rattle.lists.specs.Bools.{by_cases}
use Rattle.lists.specs.Members.{◌∈◌}
use Rattle.graph.specs.Limits.{max_count}
use Rattle.graph.specs.Network.{Network}
use Rattle.tree_theory.specs.OneTree.{Edges}
use Rattle.tree_theory.specs.Inputs.{multiplier}
use Rattle.tree_theory.specs.Scaled.{scaled_by}
use Rattle.integers.specs.Multiples.{◌times◌}
use Rattle.machine.specs.Outcomes.{closes, finds, splits}
use Rattle.machine.specs.Machine.{Marks, Node, with_marks, Pass, shut, found, unclosed, pass, gained, Opened, first_free, branch, concluded}
use Rattle.machine.specs.Machine.{passes, lifts, Opening, active_network, active_multipliers, Progress, opened_on, open_node, settled, open_top, begin, ran}
use Rattle.machine.specs.Runs.{ran-opens, ran_full}

-- ---- both halves

-- both halves have multipliers of which P holds, and have the same
abbrev pub Halves : (List ℤ → Type 0) → Opened → Type 0
Halves P closes = Unit {0}
Halves P (finds r) = Unit {0}
Halves P (splits out into) = P into.multipliers × (out.multipliers ≡ into.multipliers)

pub branch_halves : (P : List ℤ → Type 0) (d : List ℤ) → P d → (y : Marks) → Halves P (branch d y)
unfolding branch
branch_halves P d p y = by_cases (ltb (first_free y) (length y)) (λ e. rw e (p, refl)) (λ e. rw e tt)

pub concluded_halves : (P : List ℤ → Type 0) (m : ℕ) (p : Pass) (otherwise : Edges → Marks → Opened)
    → ((t : Edges) (y : Marks) → Halves P (otherwise t y)) → Halves P (concluded m p otherwise)
concluded_halves P m shut otherwise later = tt
concluded_halves P m (found t) otherwise later = tt
concluded_halves P m (unclosed t y) otherwise later = later t y

module _ (lifting : Bool) (g : Network) (step : ℕ) (upper : ℤ) where
  passes_halves : (left : ℕ) (d : List ℤ) (x : Marks) → Halves (λ e. Unit {0}) (passes lifting g step upper left d x)
  unfolding passes
  passes_halves zero d x =
      concluded_halves (λ e. Unit {0}) g.m (pass lifting (with_marks g x) (multiplier d) upper) (λ t y. branch d y)
      (λ t y. branch_halves (λ e. Unit {0}) d tt y)
  passes_halves (suc left) d x =
      concluded_halves (λ e. Unit {0}) g.m (pass lifting (with_marks g x) (multiplier d) upper) (λ t y. passes lifting g step upper left (gained g step t d) y)
      (λ t y. passes_halves left (gained g step t d) y)

pub siblings : (o : Opening) (upper : ℤ) (x out into : Node) → open_node o upper x ≡ splits out into → out.multipliers ≡ into.multipliers
unfolding open_node opened_on
siblings o upper x out into e =
    (subst (Halves (λ d. Unit {0})) e
    (passes_halves (lifts o.settings) (scaled_by o.settings.denominator (active_network o)) o.settings.step (o.settings.denominator times upper)
    o.settings.sweeps x.multipliers x.marks)).1

-- ---- what waits below

-- what a run makes of the nodes `under`, others being above them: they wait below others still, or after k openings they are all that waits
pub data Stays (under : List Node) (budget : ℕ) (s : Progress) : Type 0 where
  below : (x : Node) (over : List Node) → (ran budget s).stack ≡ x ∷ (over ++ under) → Stays under budget s
  reached : (k : ℕ) → k ≤ budget → (ran k s).stack ≡ under → Stays under budget s

module _ (under : List Node) where
  -- a turn of the run goes before
  later : (budget : ℕ) (s t : Progress) → ((k : ℕ) → ran (suc k) s ≡ ran k t) → Stays under budget t → Stays under (suc budget) s
  later budget s t turn (below x over e) = below x over (ap (λ (r : Progress). r.stack) (turn budget) ∙ e)
  later budget s t turn (reached k h e) = reached (suc k) (omega arith) (ap (λ (r : Progress). r.stack) (turn k) ∙ e)

  pub stays : (budget : ℕ) (s : Progress) (x : Node) (over : List Node) → s.stack ≡ x ∷ (over ++ under) → Stays under budget s
  unfolding ran
  stays zero s x over e = below x over e
  stays (suc budget) s x over e = go (dec_le (suc s.count) max_count) (stays budget)
    where
      go : Dec (s.count < max_count)
          → ((t : Progress) (y : Node) (os : List Node) → t.stack ≡ y ∷ (os ++ under) → Stays under budget t)
          → Stays under (suc budget) s
      go (no l) again = below x over (ap (λ (r : Progress). r.stack) (ran_full (suc budget) s (omega arith)) ∙ e)
      go (yes l) again = opened (open_node s.opening s.upper x) refl
        where
          t : Progress
          t = open_top s (x ∷ (over ++ under))

          turn : (k : ℕ) → ran (suc k) s ≡ ran k (open_top s (x ∷ (over ++ under)))
          turn k = ran-opens k s x (over ++ under) e l

          -- the node closes: what is below it waits
          closed : (os : List Node) → (open_top s (x ∷ (over ++ under))).stack ≡ os ++ under → Stays under (suc budget) s
          closed [] q = reached 1 (omega arith) (ap (λ (r : Progress). r.stack) (turn 0) ∙ q)
          closed (y ∷ os) q = later budget s (open_top s (x ∷ (over ++ under))) turn (again (open_top s (x ∷ (over ++ under))) y os q)

          stack_by : (out : Opened) → open_node s.opening s.upper x ≡ out
              → (open_top s (x ∷ (over ++ under))).stack ≡ (settled s (over ++ under) out).stack
          stack_by out q = unfold open_top in ap (λ (z : Opened). (settled s (over ++ under) z).stack) q

          opened : (out : Opened) → open_node s.opening s.upper x ≡ out → Stays under (suc budget) s
          opened closes q = closed over (stack_by closes q ∙ unfold settled in refl)
          opened (finds r) q = closed over (stack_by (finds r) q ∙ unfold settled in refl)
          opened (splits out into) q =
              later budget s (open_top s (x ∷ (over ++ under))) turn
              (again (open_top s (x ∷ (over ++ under))) into (out ∷ over) (stack_by (splits out into) q ∙ unfold settled in refl))

-- the lower half of the node x, and what is below it
pub second-branch : (s : Progress) (x : Node) (rest : List Node) (out into : Node) → open_node s.opening s.upper x ≡ splits out into
    → (budget : ℕ) → Stays (out ∷ rest) budget (open_top s (x ∷ rest))
second-branch s x rest out into e budget = stays (out ∷ rest) budget (open_top s (x ∷ rest)) into [] halves
  where
    halves : (open_top s (x ∷ rest)).stack ≡ into ∷ (out ∷ rest)
    halves = unfold open_top settled in rw e

-- ---- without sweeps

-- no pass follows the first, and every node that waits has the opening's multipliers
pub record Unmoved (s : Progress) : Type 0 where
  pub sweeps : s.opening.settings.sweeps ≡ 0
  pub each : (y : Node) → y ∈ s.stack → y.multipliers ≡ active_multipliers s.opening

pub begin_unmoved : (o : Opening) → o.settings.sweeps ≡ 0 → Unmoved (begin o)
unfolding begin
begin_unmoved o e = record { sweeps = e; each = λ y m. only y m }
  where
    only : (y : Node) → y ∈ (begin o).stack → y.multipliers ≡ active_multipliers o
    only y (inl q) = ap (λ (z : Node). z.multipliers) q
    only y (inr q) = absurd q
