-- THE NODE: what it comes to on the edges that are left, spread out to all edges, is what is promised; and of a search's node nothing is
-- refused, and it comes to what the machine's does (`opens_node`, which the search cites).
use Rattle.std.specs.Prelude.{◌≡◌, ◌≢◌, List, ℕ, ◌≤◌, leb, ℤ, length}
use Rattle.std.proofs.Common.{sym, ◌∙◌, arith, le-leb}
use Rattle.std.proofs.Math.Path.{ap}
use Rattle.std.proofs.Math.Bool.{cond}
use Rattle.std.proofs.Math.Decide.{dec_le}
use Rattle.std.proofs.lemmas.Bool.{lt-leb}
use Rattle.graph.specs.declared.Graph.{Graph}
use Rattle.graph.specs.Limits.{max_edges}
use Rattle.graph.specs.Network.{network}
use Rattle.graph.specs.Valid.{Valid}
use Rattle.graph.specs.Meaning.{not_valid}
use Rattle.tree_theory.specs.Scaled.{scaled_by}
use Rattle.machine.specs.Outcomes.{closes, finds}
use Rattle.machine.specs.Machine as M
use Rattle.machine.specs.Machine.{Marks, node_of, lifts, branch, passes, opened_on}
use Rattle.node.specs.Given.{Given, fault}
use Rattle.mark_rows.specs.MarkRows.{rows_of, marks_in_rows}
use Rattle.mark_rows.specs.SixWords.{marks-length}
use Rattle.mark_rows.proofs.SixWords.{rows_back}
use Rattle.compaction.specs.Spread.{spread_marks, spread_tour, spread_opened, spread-size, branch-spread}
use Rattle.node.specs.declared.Fate.TheVariants as fate
use Rattle.node.specs.declared.Workspace.{Workspace}
use Rattle.node.specs.Marks.{marks_in, bytes_of, bytes_of_tour, bytes_back}
use Rattle.node.specs.Opened.{refuses, comes_to, opened_as, marked, no_rows, no_multipliers, kept, left, left_in, node_fault, opens_by, opens}
use Rattle.node.specs.Faults.{Fit, fault_15, fit-fault}
use Rattle.node.specs.OnePass.{top_of}
use Rattle.node.specs.Passes.{FoundIn, Pending, valid-bytes, passes_from_lem}
use Rattle.node.specs.Refusing.{outcome, opens-refused, opens_accepted}
use Rattle.node.specs.CompactGraph.{left_few, left-valid, left-passes}

-- ---- by what it comes to on the edges that are left

module _ (o : Given) (node : Workspace) where
  -- there are too many edges, or those that are left make no valid graph
  pub opens_15 : (o.graph.m ≤ max_edges → Valid (left o.graph) → ⊥) → refuses 15 node ≡ opens o node
  unfolding opens node_fault
  opens_15 h =
      opens-refused o node 15 (omega arith)
      ∙ ap (λ (k : ℕ). opens_by k o node) (sym (go (dec_le o.graph.m max_edges)))
    where
      go : Dec (o.graph.m ≤ max_edges) → cond (leb o.graph.m max_edges) (fault (left_in o)) 15 ≡ 15
      go (yes b) = rw (le-leb o.graph.m max_edges b) (fault_15 (left_in o) (not_valid (left o.graph) (h b)))
      go (no b) = rw (lt-leb o.graph.m max_edges (omega arith))

  module _ (few : o.graph.m ≤ max_edges) where
    number : node_fault o ≡ fault (left_in o)
    unfolding node_fault
    number = rw (le-leb o.graph.m max_edges few)

    pub left-refused : (k : ℕ) → fault (left_in o) ≡ k → k ≢ 0 → refuses k node ≡ opens o node
    unfolding opens
    left-refused k e n =
        opens-refused o node k n ∙ ap (λ (i : ℕ). opens_by i o node) (sym (number ∙ e))

    -- a node of a valid graph is not refused
    module _ (fine : fault (left_in o) ≡ 0) where
      pub opens-valid : opened_as (outcome o) ≡ opens o node
      unfolding opens
      opens-valid = opens_accepted o node (node_fault o) (number ∙ fine)

      left-opens : (out : M.Opened) → outcome (left_in o) ≡ out
          → opened_as (spread_opened (kept o.graph.mark) o.graph.m out) ≡ opens o node
      left-opens out e =
          ap (λ (x : M.Opened). opened_as (spread_opened (kept o.graph.mark) o.graph.m x)) (sym e)
          ∙ ap opened_as (left-passes o.graph (left_few o.graph few) (lifts o.settings) o.settings.denominator o.multipliers o.settings.step (top_of o)
          o.settings.sweeps)
          ∙ opens-valid

      pub left_shut : outcome (left_in o) ≡ closes → opened_as closes ≡ opens o node
      left_shut e = left-opens closes e

      -- the tour's bytes for all edges
      pub left_found : (w v : List ℕ) (f : FoundIn (outcome (left_in o)) w)
          → v ≡ bytes_of_tour (spread_tour (kept o.graph.mark) o.graph.m f.tour)
          → comes_to fate.Finds no_rows no_rows v no_multipliers ≡ opens o node
      unfolding opened_as
      left_found w v f e =
          (λ i. comes_to fate.Finds no_rows no_rows (e i) no_multipliers) ∙ left-opens (finds f.tour) f.is

      -- the words of the marks of all edges
      pub left_unclosed : (w : List ℕ) (told : List ℤ) (p : Pending (left o.graph).m (outcome (left_in o)) w told) (l : List ℕ)
          → l ≡ rows_of (spread_marks (kept o.graph.mark) o.graph.m p.marks)
          → opened_as (branch p.multipliers (marks_in_rows o.graph.m l)) ≡ opens o node
      left_unclosed w told p l e =
          ap (λ (x : Marks). opened_as (branch p.multipliers x))
          (ap (marks_in_rows o.graph.m) e ∙ rows_back o.graph.m _ few (spread-size (kept o.graph.mark) o.graph.m _ _ p.marks))
          ∙ ap opened_as (branch-spread (kept o.graph.mark) o.graph.m p.marks p.long p.multipliers)
          ∙ left-opens (branch p.multipliers p.marks) p.comes

-- the words of marks are those of the marks that they hold
pub canonical : (m : ℕ) (y : Marks) (l : List ℕ) → m ≤ max_edges → length y ≡ m → l ≡ rows_of y → l ≡ rows_of (marks_in_rows m l)
canonical m y l few long e = e ∙ ap rows_of (sym (ap (marks_in_rows m) e ∙ rows_back m y few long))

-- what a node with these words is opened with
abbrev pub with_rows : Given → List ℕ → Given
with_rows o x = record { graph = marked o.graph x; multipliers = o.multipliers; settings = o.settings }

-- a valid graph has a valid one of the edges that are left, whatever six words the node's are
pub marked-valid : (g : Graph) → Valid g → (x : List ℕ) → Valid (left (marked g x))
marked-valid g v x = left-valid (marked g x) (valid-bytes g (marks_in_rows g.m x) v)

-- A NODE OF A SEARCH, whatever marks the graph had: nothing is refused where the edges that are left make a valid graph. The graph itself need not be
-- valid: that of the active vertices has edges between vertices 1 and 2 for those that touch an inactive one, which each node excludes
pub opens_node : (o : Given) (x : List ℕ) → o.graph.m ≤ max_edges → Fit (left_in (with_rows o x)) → (node : Workspace)
    → opens (with_rows o x) node
    ≡ opened_as (opened_on (network o.graph) o.settings o.settings.ceiling (node_of o.multipliers (marks_in_rows o.graph.m x)))
unfolding opened_on
opens_node o x few f node =
    sym (opens-valid (with_rows o x) node few (fit-fault (left_in (with_rows o x)) f))
    ∙ ap opened_as (passes_from_lem (lifts o.settings) o.settings.denominator o.graph (bytes_of y) o.multipliers o.settings.step (top_of o) o.settings.sweeps
    few (sym (ap bytes_of back))
    ∙ ap (λ (z : Marks).
    passes (lifts o.settings) (scaled_by o.settings.denominator (network o.graph)) o.settings.step (top_of o) o.settings.sweeps o.multipliers z) back)
  where
    y : Marks
    y = marks_in_rows o.graph.m x

    back : marks_in o.graph.m (bytes_of y) ≡ y
    back = bytes_back o.graph.m y few (marks-length o.graph.m x)
