-- EVERY CALL LEAVES A STATE THAT A RECORD OF FIXED SIZE CAN HOLD, where it finds one.
use Rattle.std.specs.Prelude.{◌≡◌, refl, ◌⊎◌, Bool, true, false, cond, List, [], ◌∷◌, ltb, length, ℤ}
use Rattle.std.proofs.Common.{◌∙◌, inl, inr, arith, length-set}
use Rattle.std.proofs.Math.Path.{subst}
use Prim.Native.Nat.{ℕ, zero, suc, ◌+◌, ◌*◌, ◌≤◌, ◌<◌}
use Rattle.std.specs.Int.Signed.{lt_z}
use Rattle.lists.specs.Bools.{by_cases}
use Rattle.lists.specs.Members.{◌∈◌}
use Rattle.lists.specs.Select.{select, select_in}
use Rattle.lists.specs.Numbers.{up_to}
use Rattle.lists.specs.Rows.{row-size}
use Rattle.integers.specs.Parts.{up, dn, add-up, add-dn}
use Rattle.integers.specs.Multiples.{◌times◌}
use Rattle.integers.specs.Range.{InRange, within_range}
use Rattle.integers.specs.Sums.{sum_z}
use Rattle.graph.specs.declared.Graph.{Graph}
use Rattle.graph.specs.Limits.{max_cost, max_ceiling, max_count}
use Rattle.graph.specs.Fits.{tour_in_range}
use Rattle.graph.specs.Network.{Network, required, excluded, network}
use Rattle.graph.specs.Places.{network-cost}
use Rattle.graph.specs.Valid as value
use Rattle.tree_theory.specs.OneTree.{Edges}
use Rattle.tree_theory.specs.Inputs.{multiplier}
use Rattle.tree_theory.specs.Scaled.{scaled_by}
use Rattle.tree_theory.specs.Scaling.{valid_scaled}
use Rattle.tree_theory.specs.Enumeration.{Tree, no_tree, a_tree, least_tree}
use Rattle.tree_theory.specs.Arrays.{edge_of}
use Rattle.tours.specs.Tours.{Tour, cost, is_tour}
use Rattle.machine.specs.Outcomes.{closes, finds, splits, Incumbent, no_tour, a_tour, best_of}
use Rattle.machine.specs.Machine.{Marks, Node, with_marks, applied, Pass, shut, found, unclosed, pass_by, pass, gained, Opened}
use Rattle.machine.specs.Machine.{first_free}
use Rattle.machine.specs.Machine.{branch, concluded, passes, lifts, Opening, active_network, held, Progress, State, no_search, searching}
use Rattle.machine.specs.Machine.{edges_of, cost_of, lowered, better, opened_on, open_node, settled, open_top, finished, ran}
use Rattle.machine.specs.Calls.{Call, opens, run, tell, show, close, fault, opened_by, run_by, step}
use Rattle.machine.specs.Calls.{state_after, leaves}
use Rattle.machine.specs.Runs.{ran_keeps}
use Rattle.machine.specs.Laws.NodeTours.{applied-length}
use Rattle.machine.proofs.NodeTours.{better_is}
use Rattle.machine.proofs.OpeningLaws.{Law, passes_law}
use Rattle.machine.proofs.ScaledLaws.{law_scaled}
use Rattle.machine.specs.Depth.{Shallow}
use Rattle.machine.proofs.Depth.{passes_shallow}
use Rattle.machine.proofs.Struck.{BothOff, opened_off}
use Rattle.machine.specs.Gained.{gained_fits}
use Rattle.machine.specs.Kept.{active_size, Accepted, FitFor, Nodes, AllOff, touching, Sized, Kept, KeptState}
use Rattle.machine.specs.Active.{active_most, active_valid, active_some}
use Rattle.machine.specs.Preserved.{accepts-held, begin-kept, show_state}

-- ---- the range of a tour's cost

sum_range : (f : ℕ → ℤ) (xs : List ℕ) → ((k : ℕ) → k ∈ xs → InRange max_cost (f k))
    → (up (sum_z f xs) ≤ max_cost * length xs) × (dn (sum_z f xs) ≤ max_cost * length xs)
unfolding sum_z
sum_range f [] h = (omega arith, omega arith)
sum_range f (x ∷ xs) h =
    let r = sum_range f xs (λ k m. h k (inr m)) in
    let i : InRange max_cost (f x) = h x (inl refl) in
    (omega (arith, add-up (f x) (sum_z f xs), i.high, r.0), omega (arith, add-dn (f x) (sum_z f xs), i.low, r.1))

lowered_range : (p : Opening) → Accepted p → (r : List Bool) → Tour (active_network p) (edges_of r)
    → InRange max_ceiling (lowered (active_network p) r)
unfolding lowered cost_of cost
lowered_range p acc r o = record {
  high = omega (arith, sums.0, size, v.high, tour_in_range);
  low = omega (arith, sums.1, size, v.high, tour_in_range);
}
  where
    g : Graph
    g = p.graph

    v : value.Valid g
    v = acc.valid

    es : List ℕ
    es = select (edges_of r) (up_to (network g).m)

    size : length es ≤ g.n
    size = unfold network in omega (arith, o.number, active_most p)

    each : (k : ℕ) → k ∈ es → InRange max_cost ((network g).cost k)
    each k m = go (edge_of g.m k (unfold network in (select_in (edges_of r) (up_to (network g).m) k m).0))
      where
        go : (j : ℕ) × (j < g.m) × (k ≡ suc j) → InRange max_cost ((network g).cost k)
        go e = rw (e.2, network-cost g e.0 e.1) (within_range max_cost _ (v.each e.0 e.1).range)

    sums : (up (sum_z (network g).cost es) ≤ max_cost * length es) × (dn (sum_z (network g).cost es) ≤ max_cost * length es)
    sums = sum_range (network g).cost es each

-- ---- the sizes of what an opening of a node comes to

abbrev LongPass : ℕ → Pass → Type 0
LongPass m shut = Unit {0}
LongPass m (found t) = Unit {0}
LongPass m (unclosed t y) = (length y ≡ m)

pass_long : (lifting : Bool) (g : Network) (d : ℕ → ℤ) (upper : ℤ) → LongPass g.m (pass lifting g d upper)
unfolding pass pass_by
pass_long lifting g d upper = go (least_tree g d)
  where
    cases : (t : Edges) (b c : Bool) → LongPass g.m (cond b shut (cond c (found t) (unclosed t (applied lifting g d upper))))
    cases t true c = tt
    cases t false true = tt
    cases t false false = applied-length lifting g d upper

    go : (r : Tree) → LongPass g.m (pass_by lifting g d upper r)
    go no_tree = tt
    go (a_tree b t) = cases t (lt_z upper b) (is_tour g t)

-- a node with its marks and multipliers
record Whole (g : Network) (x : Node) : Type 0 where
  long : length x.marks ≡ g.m
  multipliers : FitFor g.n x.multipliers

abbrev Long : Network → Opened → Type 0
Long g closes = Unit {0}
Long g (finds r) = (length r ≡ g.m)
Long g (splits out into) = Whole g out × Whole g into

branch_long : (g : Network) (d : List ℤ) → FitFor g.n d → (y : Marks) → length y ≡ g.m → Long g (branch d y)
unfolding branch
branch_long g d f y e =
    by_cases (ltb (first_free y) (length y))
    (λ t. rw t (
      record { long = length-set y (first_free y) excluded ∙ e; multipliers = f },
      record { long = length-set y (first_free y) required ∙ e; multipliers = f },
    ))
    (λ t. rw t tt)

concluded_long : (g : Network) (p : Pass) → LongPass g.m p → (otherwise : Edges → Marks → Opened)
    → ((t : Edges) (y : Marks) → length y ≡ g.m → Long g (otherwise t y)) → Long g (concluded g.m p otherwise)
concluded_long g shut h otherwise later = tt
concluded_long g (found t) h otherwise later = row-size g.m t
concluded_long g (unclosed t y) h otherwise later = later t y h

passes_long : (lifting : Bool) (g : Network) → 1 ≤ g.n → (stride : ℕ) (upper : ℤ) (left : ℕ) (d : List ℤ) → FitFor g.n d → (x : Marks)
    → Long g (passes lifting g stride upper left d x)
unfolding passes
passes_long lifting g low stride upper zero d f x =
    concluded_long g (pass lifting (with_marks g x) (multiplier d) upper)
    (unfold with_marks in pass_long lifting (with_marks g x) (multiplier d) upper)
    (λ t y. branch d y) (λ t y e. branch_long g d f y e)
passes_long lifting g low stride upper (suc left) d f x =
    concluded_long g (pass lifting (with_marks g x) (multiplier d) upper)
    (unfold with_marks in pass_long lifting (with_marks g x) (multiplier d) upper)
    (λ t y. passes lifting g stride upper left (gained g stride t d) y)
    (λ t y e. passes_long lifting g low stride upper left (gained g stride t d) (gained_fits g low stride t d f) y)

-- lengths do not go by costs
long_scaled : (q : ℕ) (g : Network) (out : Opened) → Long (scaled_by q g) out → Long g out
long_scaled q g closes h = tt
long_scaled q g (finds r) h = h
long_scaled q g (splits out into) h = (
  record { long = h.0.long; multipliers = h.0.multipliers },
  record { long = h.1.long; multipliers = h.1.multipliers },
)

-- of two tours that have m places the better has
better_sized : (g : Network) (m : ℕ) (best : Incumbent (List Bool)) (r : List Bool) → Sized m best → length r ≡ m
    → Sized m (best_of (better g) best r)
better_sized g m no_tour r h z = z
better_sized g m (a_tour b) r h z = go (better_is g b r)
  where
    go : (better g b r ≡ b) ⊎ (better g b r ≡ r) → length (better g b r) ≡ m
    go (inl e) = rw e h
    go (inr e) = rw e z

-- ---- one node more

module _ (s : Progress) (h : Kept s) (x : Node) (rest : List Node) (e : s.stack ≡ x ∷ rest) (l : s.count < max_count) where
  waiting : Nodes (active_size s.opening) s.opening.graph.m (x ∷ rest)
  waiting = subst (λ (st : List Node). Nodes (active_size s.opening) s.opening.graph.m st) e h.nodes

  -- the node's opening is lawful and its parts are whole
  pub top_law : Law (active_network s.opening) (active_valid s.opening h.opening) s.upper x.marks
      (open_node s.opening s.upper x)
  unfolding open_node opened_on
  top_law =
      let q = s.opening.settings.denominator in
      let v = active_valid s.opening h.opening in
      law_scaled q (active_network s.opening) h.opening.denominator.0 v s.upper x.marks
      (open_node s.opening s.upper x)
      (passes_law (scaled_by q (active_network s.opening)) (valid_scaled q (active_network s.opening) v) (q times s.upper)
      (lifts s.opening.settings) s.opening.settings.step s.opening.settings.sweeps x.multipliers x.marks (unfold network in waiting.0.long))

  top_long : Long (active_network s.opening) (open_node s.opening s.upper x)
  unfolding open_node opened_on network
  top_long =
      let q = s.opening.settings.denominator in
      long_scaled q (active_network s.opening) (open_node s.opening s.upper x)
      (passes_long (lifts s.opening.settings) (scaled_by q (active_network s.opening)) (omega (arith, active_some s.opening h.opening))
      s.opening.settings.step (q times s.upper) s.opening.settings.sweeps x.multipliers waiting.0.multipliers x.marks)

  -- a tour that it finds has a place for each edge
  pub found_long : (r : List Bool) → open_node s.opening s.upper x ≡ finds r → length r ≡ s.opening.graph.m
  unfolding network
  found_long r i = subst (λ (o : Opened). Long (active_network s.opening) o) i top_long

  -- and it splits only where there is room for both halves
  top_shallow : Shallow (active_size s.opening) x.marks (open_node s.opening s.upper x)
  unfolding open_node opened_on network
  top_shallow =
      let q = s.opening.settings.denominator in
      passes_shallow (scaled_by q (active_network s.opening))
      (valid_scaled q (active_network s.opening) (active_valid s.opening h.opening)) (q times s.upper) (lifts s.opening.settings)
      s.opening.settings.step s.opening.settings.sweeps x.multipliers x.marks waiting.0.long

  struck : AllOff s.opening.graph.m (touching s.opening) (x ∷ rest)
  struck = subst (λ (st : List Node). AllOff s.opening.graph.m (touching s.opening) st) e h.struck

  -- and each half excludes what the node excludes
  top_off : BothOff s.opening.graph.m (touching s.opening) (open_node s.opening s.upper x)
  unfolding open_node network
  top_off =
      opened_off (active_network s.opening) (active_valid s.opening h.opening) s.opening.settings s.upper x (touching s.opening) struck.0

  below : suc (length rest) ≤ active_size s.opening + 2
  below = subst (λ (st : List Node). length st ≤ active_size s.opening + 2) e h.depth

  settled-kept : (out : Opened) → Long (active_network s.opening) out → Shallow (active_size s.opening) x.marks out
      → Law (active_network s.opening) (active_valid s.opening h.opening) s.upper x.marks out
      → BothOff s.opening.graph.m (touching s.opening) out → Kept (settled s rest out)
  unfolding settled network
  settled-kept closes z v w b =
      record {
        opening = h.opening;
        upper = h.upper;
        depth = omega (arith, below);
        nodes = waiting.1;
        struck = struck.1;
        sized = h.sized;
        count = l;
      }
  settled-kept (finds r) z v w b =
      record {
        opening = h.opening;
        upper = lowered_range s.opening h.opening r (w x.multipliers).inside.tour;
        depth = omega (arith, below);
        nodes = waiting.1;
        struck = struck.1;
        sized = better_sized (active_network s.opening) s.opening.graph.m s.incumbent r h.sized z;
        count = l;
      }
  settled-kept (splits out into) z v w b =
      record {
        opening = h.opening;
        upper = h.upper;
        depth = omega (arith, v.most, waiting.0.required);
        nodes = (
          record {
            long = z.1.long;
            multipliers = z.1.multipliers;
            required = omega (arith, v.of_into, waiting.0.required);
          },
          (
            record {
              long = z.0.long;
              multipliers = z.0.multipliers;
              required = omega (arith, v.of_out, waiting.0.required);
            },
            waiting.1,
          ),
        );
        struck = (b.1, (b.0, struck.1));
        sized = h.sized;
        count = l;
      }

  pub top_kept : Kept (open_top s (x ∷ rest))
  unfolding open_top
  top_kept = settled-kept (open_node s.opening s.upper x) top_long top_shallow top_law top_off

pub ran-kept : (budget : ℕ) (s : Progress) → Kept s → Kept (ran budget s)
ran-kept = ran_keeps Kept (λ s x rest e l h. top_kept s h x rest e l)

-- ---- the calls

open_kept : (o : Opening) (k : ℕ) → fault o ≡ k → KeptState (opened_by o k).state
unfolding opened_by
open_kept o zero e = begin-kept (held o) (accepts-held o e)
open_kept o (suc k) e = tt

pub step_kept : (s : State) (c : Call) → KeptState s → KeptState (step s c).state
unfolding step run_by
step_kept no_search (opens o) h = open_kept o (fault o) refl
step_kept no_search (run budget) h = tt
step_kept no_search tell h = tt
step_kept no_search (show l) h = tt
step_kept no_search close h = tt
step_kept (searching s) (opens o) h = h
step_kept (searching s) (run budget) h = ran-kept budget s h
step_kept (searching s) tell h = h
step_kept (searching s) (show l) h = rw (show_state s l (finished s) s.incumbent) h
step_kept (searching s) close h = tt

-- ---- lists of calls

calls-kept : (cs : List Call) (s : State) → KeptState s → KeptState (state_after s cs)
unfolding state_after
calls-kept [] s h = h
calls-kept (c ∷ cs) s h = calls-kept cs (step s c).state (step_kept s c h)

-- EVERY LIST OF CALLS on a fresh record leaves such a state
pub leaves_kept : (cs : List Call) → KeptState (leaves cs)
unfolding leaves
leaves_kept cs = calls-kept cs no_search tt
