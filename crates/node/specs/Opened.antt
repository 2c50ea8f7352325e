-- What the opening of a node comes to, for every input: its fate, and the rows, the tour and the multipliers that go with it. Definitions
-- only.
--   Fated, meaning      a refusal by its number, or a fate; what an answer of the code says
--   Opened, opened_as   what the machine's opening of a node comes to, in words and bytes
--   places             a list of multipliers in an array's places
--   kept, left         the edges that a graph's marks do not exclude, and the graph of those alone
--   marked, taken      a graph with a node's marks; what a node is opened with
--   node_fault, opens   what is refused; what is answered and left
use Rattle.std.specs.Prelude.{not, cond, List, ℕ, zero, suc, eqb, leb, ℤ, pos, replicate, Result, Ok, Err}
use Rattle.lists.specs.Fill.{fill, fit}
use Rattle.graph.specs.declared.Graph.{Graph}
use Rattle.graph.specs.declared.refusals.Refusal.{Refusal}
use Rattle.graph.specs.Refusals.{number}
use Rattle.graph.specs.Limits.{max_vertices, max_edges}
use Rattle.graph.specs.Network.{place, network}
use Rattle.tree_theory.specs.OneTree.{Edges}
use Rattle.tree_theory.specs.Arrays.{entry}
use Rattle.machine.specs.declared.Settings.{Settings}
use Rattle.machine.specs.Outcomes.{closes, finds, splits}
use Rattle.machine.specs.Machine as M
use Rattle.machine.specs.Machine.{node_of, opened_on}
use Rattle.node.specs.Given.{Given, fault}
use Rattle.mark_rows.specs.MarkRows.{node_words, rows_of, marks_in_rows}
use Rattle.thinning.specs.Ranks.{rank, nth}
use Rattle.node.specs.declared.Fate.{Fate}
use Rattle.node.specs.declared.Fate.TheVariants as fate
use Rattle.node.specs.declared.Workspace.{Workspace}
use Rattle.node.specs.Marks.{marks_in, bytes_of, bytes_of_tour, with_bytes}

-- "the number" of a refusal, or a node's fate
pub data Fated : Type 0 where
  refused : ℕ → Fated
  fated : Fate → Fated

abbrev pub meaning : Result Fate Refusal → Fated
meaning (Ok a) = fated a
meaning (Err r) = refused (number r)

-- and with it the words of the lower and of the upper node of a split, a found tour, and the multipliers of both nodes
pub record Opened : Type 0 where
  pub fate : Fated
  pub node : Workspace

-- what the code comes to
abbrev pub opened : Result Fate Refusal → Workspace → Opened
opened answer node = record { fate = meaning answer; node = node }

abbrev pub comes_to : Fate → List ℕ → List ℕ → List ℕ → List ℤ → Opened
comes_to a w u t e = record { fate = fated a; node = record { rows = w; top = u; tour = t; last = e } }

-- a refusal leaves everything as it was
abbrev pub refuses : ℕ → Workspace → Opened
refuses k node = record { fate = refused k; node = node }

-- multipliers in an array's places, zero past them
abbrev pub places : List ℤ → List ℤ
places d = fit max_vertices (pos 0) d

abbrev pub no_multipliers : List ℤ
no_multipliers = replicate max_vertices (pos 0)

-- no edge required and none excluded
abbrev pub no_rows : List ℕ
no_rows = replicate node_words 0

-- what the machine's opening of a node comes to, in words and bytes. Both halves have the multipliers of one list (document 02, C-16: "Both
-- branches see the same parent dues"; `siblings` in machine's Inherited)
unfoldable pub opened_as : M.Opened → Opened
unfolding bytes_of_tour rows_of fit
opened_as closes = comes_to fate.Closes no_rows no_rows (replicate max_edges 0) no_multipliers
opened_as (finds r) = comes_to fate.Finds no_rows no_rows (bytes_of_tour r) no_multipliers
opened_as (splits out into) =
    comes_to fate.Splits (rows_of out.marks) (rows_of into.marks) (replicate max_edges 0) (places into.multipliers)

-- ---- the edges that are left

-- the edges that the marks do not exclude
abbrev pub kept : List ℕ → Edges
kept marks k = not (eqb (entry marks k) 2)

-- what a list has for each of those, of m edges, in their order; z past them
unfoldable pub left_of : {A : Type 0} → A → List ℕ → ℕ → List A → List A
unfolding fill place nth
left_of z marks m l = fill max_edges (λ j. place z m l (nth (kept marks) m (suc j)))

-- the graph without its excluded edges
abbrev pub left : Graph → Graph
left g =
    record {
      n = g.n;
      m = rank (kept g.mark) g.m;
      a = left_of 0 g.mark g.m g.a;
      b = left_of 0 g.mark g.m g.b;
      cost = left_of (pos 0) g.mark g.m g.cost;
      mark = left_of 0 g.mark g.m g.mark;
    }

-- ---- the answer, and what is left

-- a node's marks are those of its words
abbrev pub marked : Graph → List ℕ → Graph
marked g rows = with_bytes g (bytes_of (marks_in_rows g.m rows))

-- what a node is opened with: the multipliers are the first n
abbrev pub taken : Graph → List ℤ → Settings → Given
taken g d settings =
    record {
      graph = g;
      multipliers = fit g.n (pos 0) d;
      settings = settings;
    }

abbrev pub left_in : Given → Given
left_in o = record { graph = left o.graph; multipliers = o.multipliers; settings = o.settings }

-- what is refused, and by which number; but an excluded edge counts for nothing
unfoldable pub node_fault : Given → ℕ
unfolding fault
node_fault o = cond (leb o.graph.m max_edges) (fault (left_in o)) 15

-- a fault is refused
abbrev pub unless_refused : ℕ → Workspace → Opened → Opened
unless_refused zero node out = out
unless_refused (suc k) node out = refuses (suc k) node

-- by the number of a fault
unfoldable pub opens_by : ℕ → Given → Workspace → Opened
unfolding opened_as opened_on marks_in
opens_by k o node =
    unless_refused k node
    (opened_as (opened_on (network o.graph) o.settings o.settings.ceiling (node_of o.multipliers (marks_in o.graph.m o.graph.mark))))

unfoldable pub opens : Given → Workspace → Opened
unfolding opens_by node_fault
opens o node = opens_by (node_fault o) o node
