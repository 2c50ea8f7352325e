-- A record while its search runs (`Holds`): the node that the code reads is the machine's top node, what its opening comes to is the machine's,
-- and what the code then stores is the record of the search that the machine goes on with.
use Rattle.std.specs.Prelude.{◌≡◌, Bool, true, false, ℤ, pos}
use Rattle.std.proofs.Math.Path.{refl, sym, ap, subst}
use Rattle.std.proofs.Common.{◌∙◌, arith}
use mathlib.Core.List.{List, [], ◌∷◌}
use Prim.Native.Nat.{ℕ, suc, ◌+◌, ◌-◌, ◌≤◌, ◌<◌}
use Rattle.std.proofs.Math.Numerals.{add-one}
use Rattle.std.proofs.Math.ListN.{length}
use Rattle.std.specs.Int.Signed.{mag}
use Rattle.lists.specs.Bools.{bit}
use Rattle.lists.specs.Fill.{fit, fit-size, fit_cut}
use Rattle.integers.specs.Multiples.{◌times◌}
use Rattle.integers.specs.Parts.{mag_of_parts}
use Rattle.graph.specs.declared.Graph.{Graph}
use Rattle.graph.specs.Limits.{max_vertices, max_count}
use Rattle.graph.specs.Network.{network}
use Rattle.graph.specs.Fits.{ceiling_fits_lem}
use Rattle.graph.specs.Valid.{Valid}
use Rattle.tree_theory.specs.Arrays.{bytes}
use Rattle.tree_theory.specs.Inputs.{multipliers_fit}
use Rattle.tree_theory.specs.Scaled.{scaled_by}
use Rattle.tours.specs.Tours.{cost}
use Rattle.afloat.specs.Over.{ashore}
use Rattle.machine.specs.Outcomes.{closes, finds, splits, Incumbent, no_tour, a_tour}
use Rattle.machine.specs.Outcomes as outcomes
use Rattle.machine.specs.Machine as M
use Rattle.machine.specs.declared.Settings.{Settings}
use Rattle.machine.specs.Machine.{Node, node_of, Opening, active_network, lifts, Progress, passes, edges_of, cost_of, lowered, better, opened_on, open_node, settled, open_top}
use Rattle.machine.specs.Kept.{active_size, Kept, Waits, Nodes, Off, AllOff, touching, depth_most}
use Rattle.machine.specs.Active.{active_most}
use Rattle.machine.proofs.Preserved.{top_kept, found_long}
use Rattle.machine.specs.Inherited.{siblings}
use Rattle.mark_rows.specs.MarkRows.{node_words, rows_of, marks_in_rows}
use Rattle.mark_rows.proofs.SixWords.{rows_back}
use Rattle.node.specs.declared.Fate.TheVariants as fate
use Rattle.node.specs.declared.Workspace.{Workspace}
use Rattle.node.specs.Given.{Given}
use Rattle.node.specs.Opened.{refused, fated, Opened, places, no_multipliers, no_rows, opened_as, marked, taken, left_in, opens}
use Rattle.node.specs.Faults.{Fit}
use Rattle.node.specs.Opens.{with_rows, opens_node}
use Rattle.node.specs.Refusing.{never_refused}
use Rattle.search.specs.declared.Search.{Search}
use Rattle.search.specs.Record.{max_nodes, stack_size, carried_size, has_tour, rows_at, multipliers_at, word_at, multiplier_at, stack_words, carried_of, bits, has_incumbent, best_bytes, record_of}
use Rattle.search.specs.Accepted.{range_fits, range_denominator}
use Rattle.search.specs.Words.Cells.{rows_places, carried_places, cells-size}
use Rattle.search.specs.Words.Pushing.{PutRows, PutCarried, rows_top, carried_top, pushed, replaced, popped, carried_pushed, carried_replaced, carried_popped}
use Rattle.search.specs.Runs.Costs.{cost-bits}
use Rattle.search.specs.Runs.Keeping.{kept_of, bits_back, kept_is, better_active, with_best, kept_in}
use Rattle.search.specs.Runs.ActiveGraph.{graph_n, graph_m, graph_few, left_is_valid}

-- r is the record of the search s
pub record Holds (r : Search) (s : Progress) : Type 0 where
  pub kept : Kept s
  pub is : r ≡ record_of s

-- a node waits, and may be opened
pub record Top (s : Progress) : Type 0 where
  pub node : Node
  pub rest : List Node
  pub stack : s.stack ≡ node ∷ rest
  pub room : s.count < max_count

-- a record with the stack's words, what the nodes carry, the depth and the count anew
abbrev pub restacked : Search → List ℕ → List ℤ → ℕ → ℕ → Search
restacked r l e depth count = record r { stack = l; carried = e; depth = depth; count = count }

-- settings with the present upper bound for the ceiling: what a node is opened with
abbrev pub with_ceiling : ℤ → Settings → Settings
with_ceiling u t = record { ceiling = u; sweeps = t.sweeps; step = t.step; denominator = t.denominator; lifting = t.lifting }

-- ---- what the record tells

module _ (r : Search) (s : Progress) (h : Holds r s) where
  pub holds_upper : r.upper ≡ s.upper
  unfolding record_of
  holds_upper = ap (λ (x : Search). x.upper) h.is

  -- it is read back from its word
  pub holds_mag : mag r.upper < 9223372036854775808
  holds_mag =
      rw holds_upper
      (mag_of_parts s.upper 9223372036854775808 (omega (arith, h.kept.upper.high, ceiling_fits_lem)) (omega (arith, h.kept.upper.low, ceiling_fits_lem)))

  pub holds_depth : r.depth ≡ length s.stack
  unfolding record_of
  holds_depth = ap (λ (x : Search). x.depth) h.is

  pub holds_count : r.count ≡ s.count
  unfolding record_of
  holds_count = ap (λ (x : Search). x.count) h.is

  pub holds_graph : r.graph ≡ s.opening.graph
  unfolding record_of
  holds_graph = ap (λ (x : Search). x.graph) h.is

  pub holds_settings : r.settings ≡ s.opening.settings
  unfolding record_of
  holds_settings = ap (λ (x : Search). x.settings) h.is

  holds_words : r.stack ≡ stack_words s.stack
  unfolding record_of
  holds_words = ap (λ (x : Search). x.stack) h.is

  holds_carried : r.carried ≡ carried_of s.stack
  unfolding record_of
  holds_carried = ap (λ (x : Search). x.carried) h.is

  holds_best : r.best ≡ best_bytes s.incumbent
  unfolding record_of
  holds_best = ap (λ (x : Search). x.best) h.is

  holds_has : has_tour r ≡ has_incumbent s.incumbent
  unfolding record_of
  holds_has = ap has_tour h.is ∙ back (has_incumbent s.incumbent)
    where
      back : (b : Bool) → has_tour (record r { has_best = bit b }) ≡ b
      back true = refl
      back false = refl

  pub holds_size : length r.stack ≡ stack_size
  holds_size = ap length holds_words ∙ cells-size node_words stack_size rows_places word_at s.stack

  pub holds_carried-size : length r.carried ≡ carried_size
  holds_carried-size = ap length holds_carried ∙ cells-size max_vertices carried_size carried_places multiplier_at s.stack

  pub holds_valid : Valid r.graph
  holds_valid = rw holds_graph h.kept.opening.valid

  pub holds_deep : r.depth ≤ max_nodes
  holds_deep = omega (arith, holds_depth, depth_most s h.kept)

  pub top_of_lem : 0 < r.depth → r.count < max_count → Top s
  top_of_lem b c = go s.stack refl
    where
      go : (st : List Node) → s.stack ≡ st → Top s
      go [] e = absurd (omega (arith, holds_depth, ap {A = List Node} length e))
      go (x ∷ rest) e = record { node = x; rest = rest; stack = e; room = omega (arith, holds_count) }

-- ---- the outcome of the opening, from its words and bytes

pub record Closes (out : M.Opened) (o : Opened) : Type 0 where
  pub is : out ≡ closes
  pub rows : o.node.rows ≡ no_rows
  pub last : o.node.last ≡ no_multipliers

pub opened_closes : (out : M.Opened) (o : Opened) → o ≡ opened_as out → o.fate ≡ fated fate.Closes → Closes out o
unfolding opened_as
opened_closes closes o e h = record { is = refl; rows = ap (λ (x : Opened). x.node.rows) e; last = ap (λ (x : Opened). x.node.last) e }
opened_closes (finds t) o e h =
    absurd (let z : fated fate.Closes ≡ fated fate.Finds = sym h ∙ ap (λ (x : Opened). x.fate) e in cc)
opened_closes (splits y z) o e h =
    absurd (let z : fated fate.Closes ≡ fated fate.Splits = sym h ∙ ap (λ (x : Opened). x.fate) e in cc)

pub record Finds (out : M.Opened) (o : Opened) : Type 0 where
  pub tour : List Bool
  pub is : out ≡ finds tour
  pub rows : o.node.rows ≡ no_rows
  pub found : o.node.tour ≡ best_bytes (a_tour tour)
  pub last : o.node.last ≡ no_multipliers

pub opened_finds : (out : M.Opened) (o : Opened) → o ≡ opened_as out → o.fate ≡ fated fate.Finds → Finds out o
unfolding opened_as best_bytes
opened_finds closes o e h =
    absurd (let z : fated fate.Finds ≡ fated fate.Closes = sym h ∙ ap (λ (x : Opened). x.fate) e in cc)
opened_finds (finds t) o e h = record {
  tour = t;
  is = refl;
  rows = ap (λ (x : Opened). x.node.rows) e;
  found = ap (λ (x : Opened). x.node.tour) e;
  last = ap (λ (x : Opened). x.node.last) e;
}
opened_finds (splits y z) o e h =
    absurd (let z : fated fate.Finds ≡ fated fate.Splits = sym h ∙ ap (λ (x : Opened). x.fate) e in cc)

pub record Splits (out : M.Opened) (o : Opened) : Type 0 where
  pub under : Node
  pub over : Node
  pub is : out ≡ splits under over
  pub rows : o.node.rows ≡ rows_of under.marks
  pub top : o.node.top ≡ rows_of over.marks
  pub last : o.node.last ≡ places over.multipliers

pub opened_splits : (out : M.Opened) (o : Opened) → o ≡ opened_as out → o.fate ≡ fated fate.Splits → Splits out o
unfolding opened_as
opened_splits closes o e h =
    absurd (let z : fated fate.Splits ≡ fated fate.Closes = sym h ∙ ap (λ (x : Opened). x.fate) e in cc)
opened_splits (finds t) o e h =
    absurd (let z : fated fate.Splits ≡ fated fate.Finds = sym h ∙ ap (λ (x : Opened). x.fate) e in cc)
opened_splits (splits y z) o e h =
    record {
      under = y;
      over = z;
      is = refl;
      rows = ap (λ (x : Opened). x.node.rows) e;
      top = ap (λ (x : Opened). x.node.top) e;
      last = ap (λ (x : Opened). x.node.last) e;
    }

-- ---- the top node

module _ (r : Search) (s : Progress) (h : Holds r s) (t : Top s) where
  there : r.depth ≡ suc (length t.rest)
  there = holds_depth r s h ∙ ap {A = List Node} length t.stack

  pub place : length t.rest ≡ r.depth - 1
  place = omega (arith, there)

  pub top_depth : 1 ≤ r.depth
  top_depth = omega (arith, there)

  pub top-high : r.depth - 1 < max_nodes
  top-high = omega (arith, holds_deep r s h, there)

  pub top-room : r.count < max_count
  top-room = omega (arith, holds_count r s h, t.room)

  out : M.Opened
  out = open_node s.opening s.upper t.node

  pub waits : Waits (active_size s.opening) s.opening.graph.m (length t.rest) t.node
  waits = (subst (Nodes (active_size s.opening) s.opening.graph.m) t.stack h.kept.nodes).0

  -- it excludes what touches an inactive vertex
  off : Off s.opening.graph.m (touching s.opening) t.node.marks
  off = (subst (AllOff s.opening.graph.m (touching s.opening)) t.stack h.kept.struck).0

  narrow : active_size s.opening ≤ max_vertices
  narrow = omega (arith, active_most s.opening, h.kept.opening.valid.high)

  pub old-words : r.stack ≡ stack_words (t.node ∷ t.rest)
  old-words = holds_words r s h ∙ ap (λ (st : List Node). stack_words st) t.stack

  pub old-carried : r.carried ≡ carried_of (t.node ∷ t.rest)
  old-carried = holds_carried r s h ∙ ap (λ (st : List Node). carried_of st) t.stack

  row-marks : marks_in_rows s.opening.graph.m (rows_at r.stack (r.depth - 1)) ≡ t.node.marks
  row-marks =
      ap (marks_in_rows s.opening.graph.m) (rows_top t.node t.rest r.stack (r.depth - 1) old-words place top-high)
      ∙ rows_back s.opening.graph.m t.node.marks h.kept.opening.valid.few waits.long

  -- the multipliers that are read are the node's
  top_carried : fit (active_size s.opening) (pos 0) (multipliers_at max_vertices r.carried (r.depth - 1)) ≡ t.node.multipliers
  top_carried =
      ap (fit (active_size s.opening) (pos 0)) (carried_top t.node t.rest r.carried (r.depth - 1) old-carried place top-high)
      ∙ fit_cut max_vertices (active_size s.opening) (pos 0) t.node.multipliers narrow waits.multipliers.long

  -- the node is read, and opened on the graph q with what the record holds
  module _ (q : Graph) (afloat : network q ≡ active_network s.opening) (x : List ℕ) (d : List ℤ) (u : ℤ) (ex : x ≡ rows_at r.stack (r.depth - 1))
      (ed : d ≡ multipliers_at max_vertices r.carried (r.depth - 1)) (eu : u ≡ r.upper) where
    given : Given
    given = taken q d (with_ceiling u r.settings)

    read : fit q.n (pos 0) d ≡ t.node.multipliers
    read =
        ap (λ (n : ℕ). fit n (pos 0) d) (graph_n s.opening h.kept.opening q afloat) ∙ ap (fit (active_size s.opening) (pos 0)) ed ∙ top_carried

    marks : marks_in_rows s.opening.graph.m x ≡ t.node.marks
    marks = ap (marks_in_rows s.opening.graph.m) ex ∙ row-marks

    -- it has no fault
    fits : Fit (left_in (with_rows given x))
    unfolding given
    fits = record {
      valid =
          left_is_valid s.opening h.kept.opening q afloat x (subst (Off s.opening.graph.m (touching s.opening)) (sym marks) off);
      long = fit-size q.n (pos 0) d;
      multipliers = ap multipliers_fit read ∙ waits.multipliers.fits;
      ceiling = rw (eu, holds_upper r s h) (range_fits s.upper h.kept.upper);
      sweeps = rw (holds_settings r s h) h.kept.opening.sweeps;
      step = rw (holds_settings r s h) h.kept.opening.step;
      denominator = rw (holds_settings r s h) (range_denominator s.opening.settings.denominator h.kept.opening.denominator);
    }

    -- and what it comes to is what the machine's top node comes to
    pub opens_is : (node : Workspace)
        → opens (taken (marked q x) d (with_ceiling u r.settings)) node
        ≡ opened_as (open_node s.opening s.upper t.node)
    unfolding given open_node opened_on
    opens_is node = opens_node given x (graph_few s.opening h.kept.opening q afloat) fits node ∙ ap opened_as same
      where
        here : marks_in_rows q.m x ≡ t.node.marks
        here = ap (λ (m : ℕ). marks_in_rows m x) (graph_m s.opening h.kept.opening q afloat) ∙ marks

        same : opened_on (network q) (with_ceiling u r.settings) u (node_of (fit q.n (pos 0) d) (marks_in_rows q.m x))
            ≡ opened_on (active_network s.opening) s.opening.settings s.upper t.node
        same =
            λ i.
            passes (lifts (holds_settings r s h i)) (scaled_by (holds_settings r s h i).denominator (afloat i)) (holds_settings r s h i).step
            ((holds_settings r s h i).denominator times (eu ∙ holds_upper r s h) i) (holds_settings r s h i).sweeps (read i) (here i)

  -- ---- the search after the top node's opening

  pub next : Progress
  next = open_top s s.stack

  settles : (q : M.Opened) → open_node s.opening s.upper t.node ≡ q → open_top s s.stack ≡ settled s t.rest q
  unfolding open_top
  settles q e = ap (open_top s) t.stack ∙ ap (settled s t.rest) e

  pub next-kept : Kept (open_top s s.stack)
  next-kept =
      subst (λ (st : List Node). Kept (open_top s st)) (sym t.stack) (top_kept s h.kept t.node t.rest t.stack t.room)

  module _ (o : Opened) (is : o ≡ opened_as (open_node s.opening s.upper t.node)) where
    -- nothing is refused
    pub not_refused : (k : ℕ) → o.fate ≡ refused k → ⊥
    not_refused k e = never_refused (open_node s.opening s.upper t.node) k (sym (ap (λ (x : Opened). x.fate) is) ∙ e)

    -- the words of the node are wiped off, and what it carried
    wiped : (l : List ℕ) → o.node.rows ≡ no_rows → PutRows (r.depth - 1) o.node.rows r.stack l → l ≡ stack_words t.rest
    wiped l q put =
        popped (r.depth - 1) r.stack l t.rest place t.node old-words
        (subst (λ (x : List ℕ). PutRows (r.depth - 1) x r.stack l) q put)

    wiped_carried : (e : List ℤ) → o.node.last ≡ no_multipliers → PutCarried (r.depth - 1) o.node.last r.carried e → e ≡ carried_of t.rest
    wiped_carried e q put =
        carried_popped (r.depth - 1) r.carried e t.rest place t.node old-carried
        (subst (λ (d : List ℤ). PutCarried (r.depth - 1) d r.carried e) q put)

    count_next : r.count + 1 ≡ suc s.count
    count_next = add-one r.count ∙ ap suc (holds_count r s h)

    -- the node closes
    pub next_closes : (l : List ℕ) (e : List ℤ) → o.fate ≡ fated fate.Closes → PutRows (r.depth - 1) o.node.rows r.stack l
        → PutCarried (r.depth - 1) o.node.last r.carried e
        → restacked r l e (r.depth - 1) (r.count + 1) ≡ record_of (open_top s s.stack)
    unfolding record_of settled
    next_closes l e f put carry =
        (λ i. restacked (h.is i) (wiped l c.rows put i) (wiped_carried e c.last carry i) (sym place i) (count_next i))
        ∙ ap record_of (sym (settles closes c.is))
      where
        c : Closes (open_node s.opening s.upper t.node) o
        c = opened_closes (open_node s.opening s.upper t.node) o is f

    -- of the tour and the incumbent the better is kept
    pub next_finds : (l : List ℕ) (e : List ℤ) → o.fate ≡ fated fate.Finds
        → PutRows (r.depth - 1) o.node.rows r.stack l → PutCarried (r.depth - 1) o.node.last r.carried e
        → kept_in (restacked r l e (r.depth - 1) (r.count + 1)) o.node.tour ≡ record_of (open_top s s.stack)
    unfolding record_of settled lowered cost_of cost has_incumbent
    next_finds l e f put carry =
        (λ i.
        with_best (restacked (h.is i) (wiped l c.rows put i) (wiped_carried e c.last carry i) (sym place i) (count_next i)) (same-cost i)
        (same-best i))
        ∙ there-is s.incumbent
        ∙ ap record_of (sym (settles (finds c.tour) c.is))
      where
        c : Finds (open_node s.opening s.upper t.node) o
        c = opened_finds (open_node s.opening s.upper t.node) o is f

        long : length c.tour ≡ s.opening.graph.m
        long = found_long s h.kept t.node t.rest t.stack t.room c.tour c.is

        same-cost : cost (network r.graph) (bytes o.node.tour) ≡ cost (active_network s.opening) (edges_of c.tour)
        same-cost =
            sym (cost-bits r.graph o.node.tour)
            ∙ ap (λ (x : List ℕ). cost (network r.graph) (edges_of (bits r.graph.m x))) c.found
            ∙ ap (λ (g : Graph). cost (network g) (edges_of (bits g.m (best_bytes (a_tour c.tour))))) (holds_graph r s h)
            ∙ ap (λ (b : List Bool). cost (network s.opening.graph) (edges_of b))
            (bits_back s.opening.graph.m c.tour h.kept.opening.valid.few long)

        same-best : kept_of r.graph (has_tour r) o.node.tour r.best ≡ best_bytes (outcomes.best_of (better (active_network s.opening)) s.incumbent c.tour)
        same-best =
            (λ i. kept_of (holds_graph r s h i) (holds_has r s h i) (c.found i) (holds_best r s h i))
            ∙ kept_is s.opening.graph s.incumbent c.tour h.kept.opening.valid.few h.kept.sized long
            ∙ ap (λ (f : List Bool → List Bool → List Bool). best_bytes (outcomes.best_of f s.incumbent c.tour))
            (sym (better_active (ashore s.opening.ashore) (network s.opening.graph)))

        there-is : (i : Incumbent (List Bool))
            → record (record_of (settled s t.rest (finds c.tour))) { best = best_bytes (outcomes.best_of (better (active_network s.opening)) i c.tour); has_best = 1 }
            ≡ record (record_of (settled s t.rest (finds c.tour))) {
              best = best_bytes (outcomes.best_of (better (active_network s.opening)) i c.tour);
              has_best = bit (has_incumbent (outcomes.best_of (better (active_network s.opening)) i c.tour));
            }
        there-is no_tour = refl
        there-is (a_tour b) = refl

    -- the node splits in two
    split : o.fate ≡ fated fate.Splits → Splits (open_node s.opening s.upper t.node) o
    split f = opened_splits (open_node s.opening s.upper t.node) o is f

    pub split_room : o.fate ≡ fated fate.Splits → r.depth - 1 + 1 < max_nodes
    unfolding settled
    split_room f = omega (arith, place, deep)
      where
        deep : suc (suc (length t.rest)) ≤ max_vertices + 2
        deep =
            subst (λ (x : Progress). length x.stack ≤ max_vertices + 2) (settles (splits (split f).under (split f).over) (split f).is)
            (depth_most (open_top s s.stack) next-kept)

    pub next_splits : (l₁ l₂ : List ℕ) (e₁ e₂ : List ℤ) → o.fate ≡ fated fate.Splits
        → PutRows (r.depth - 1) o.node.rows r.stack l₁ → PutCarried (r.depth - 1) o.node.last r.carried e₁
        → PutRows (r.depth - 1 + 1) o.node.top l₁ l₂ → PutCarried (r.depth - 1 + 1) o.node.last e₁ e₂
        → restacked r l₂ e₂ (r.depth - 1 + 2) (r.count + 1) ≡ record_of (open_top s s.stack)
    unfolding record_of settled
    next_splits l₁ l₂ e₁ e₂ f put₁ carry₁ put₂ carry₂ =
        (λ i. restacked (h.is i) (words i) (numbers i) (deeper i) (count_next i))
        ∙ ap record_of (sym (settles (splits (split f).under (split f).over) (split f).is))
      where
        deeper : r.depth - 1 + 2 ≡ suc (suc (length t.rest))
        deeper = omega (arith, place)

        words : l₂ ≡ stack_words ((split f).over ∷ (split f).under ∷ t.rest)
        words =
            pushed (r.depth - 1 + 1) l₁ l₂ ((split f).under ∷ t.rest) (omega (arith, place)) (split f).over
            (replaced (r.depth - 1) r.stack l₁ t.rest place t.node (split f).under old-words
            (subst (λ (x : List ℕ). PutRows (r.depth - 1) x r.stack l₁) (split f).rows put₁))
            (subst (λ (x : List ℕ). PutRows (r.depth - 1 + 1) x l₁ l₂) (split f).top put₂)

        same : (split f).under.multipliers ≡ (split f).over.multipliers
        same = siblings s.opening s.upper t.node (split f).under (split f).over (split f).is

        numbers : e₂ ≡ carried_of ((split f).over ∷ (split f).under ∷ t.rest)
        numbers =
            carried_pushed (r.depth - 1 + 1) e₁ e₂ ((split f).under ∷ t.rest) (omega (arith, place)) (split f).over
            (carried_replaced (r.depth - 1) r.carried e₁ t.rest place t.node (split f).under old-carried
            (subst (λ (d : List ℤ). PutCarried (r.depth - 1) d r.carried e₁) ((split f).last ∙ ap places (sym same)) carry₁))
            (subst (λ (d : List ℤ). PutCarried (r.depth - 1 + 1) d e₁ e₂) (split f).last carry₂)
