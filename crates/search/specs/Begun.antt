-- The record that an accepted opening leaves, from what its code makes: the trimmed graph, the padded lists, and one node in the stack's words.
-- Assumes nothing.
use Rattle.std.specs.Prelude.{◌≡◌, Bool, true, false, not, cond, ◌&&◌, ℕ, ◌≤◌, eqb, leb, length, get_or, ℤ, pos}
use Rattle.std.proofs.Math.Path.{refl}
use Rattle.std.proofs.Common.{sym, ap, ◌∙◌, subst, arith}
use mathlib.Core.List.{List, [], ◌∷◌}
use mir.Val as words
use Rattle.std.proofs.lemmas.Bool.{not-false}
use Rattle.lists.specs.Bools.{bit, cond_zero}
use Rattle.std.proofs.Math.ListN.{replicate}
use Rattle.lists.specs.Rows.{row, row-size, row_at}
use Rattle.lists.specs.Fill.{fit, fill_is}
use Rattle.graph.specs.declared.Graph.{Graph}
use Rattle.graph.specs.Limits.{max_vertices, max_edges, max_sweeps, max_step}
use Rattle.graph.specs.Meaning.{valid_true}
use Rattle.graph.specs.Network.{free, mark_of, network}
use Rattle.graph.specs.Places.{network_mark}
use Rattle.graph.specs.Valid.{Valid, valid}
use Rattle.tree_theory.specs.Inputs.{multipliers_fit, ceiling_fits, denominator_fault, or_else}
use Rattle.machine.specs.declared.Settings.{Settings}
use Rattle.afloat.specs.Over.{ashore, ashore_fits, ashore_fault, marks_over}
use Rattle.afloat.specs.Lists.{reduced_list}
use Rattle.machine.specs.Machine.{Node, node_of, marks_of, Opening, active_network, active_multipliers, Progress, lifts, trimmed, tidy, held, begin, opening_of}
use Rattle.machine.specs.Outcomes.{no_tour}
use Rattle.machine.specs.Calls.{fault}
use Rattle.machine.specs.Trimmed.{valid-trimmed}
use Rattle.machine.specs.Preserved.{accepts-held}
use Rattle.mark_rows.specs.MarkRows.{node_words, rows_of}
use Rattle.mark_rows.proofs.Building.{no_bits}
use Rattle.node.specs.Marks.{marks_in}
use Rattle.search.specs.Record.{stack_size, carried_size, word_at, multiplier_at, stack_words, carried_of, has_incumbent, best_bytes, record_of}
use Rattle.search.specs.Words.Cells.{rows_places, carried_places, cells_empty}
use Rattle.search.specs.Words.Pushing.{PutRows, PutCarried, pushed, carried_pushed}
use Rattle.search.specs.declared.Search.{Search}
use Rattle.search.specs.declared.opening.Opening as arguments

-- what the arguments of an opening are in the machine
abbrev pub asked : arguments.Opening → Opening
asked o = opening_of o.g.now o.multipliers.now o.ashore.now o.settings

-- the first of 15, 11, 12, 13, 14 and 32 that applies to an opening
unfoldable pub given_fault : Opening → ℕ
unfolding valid multipliers_fit ceiling_fits denominator_fault
given_fault o =
    cond (not (valid o.graph)) 15
    (cond (not (eqb (length o.multipliers) o.graph.n && eqb (length o.ashore) o.graph.n)) 11
    (cond (not (multipliers_fit o.multipliers)) 12
    (cond (not (ceiling_fits o.settings.ceiling)) 13
    (cond (not (leb o.settings.sweeps max_sweeps && leb o.settings.step max_step)) 14
    (denominator_fault o.settings.denominator)))))

-- 35 follows them
pub fault_is : (o : Opening) → fault o ≡ or_else (given_fault o) (ashore_fault o.ashore o.graph.n)
unfolding fault given_fault
fault_is o =
    last (valid o.graph) (eqb (length o.multipliers) o.graph.n && eqb (length o.ashore) o.graph.n) (multipliers_fit o.multipliers)
    (ceiling_fits o.settings.ceiling) (leb o.settings.sweeps max_sweeps && leb o.settings.step max_step)
  where
    last : (a b c d e : Bool) → cond (not a) 15 (cond (not b) 11 (cond (not c) 12 (cond (not d) 13 (cond (not e) 14
        (or_else (denominator_fault o.settings.denominator) (ashore_fault o.ashore o.graph.n))))))
        ≡ or_else (cond (not a) 15 (cond (not b) 11 (cond (not c) 12 (cond (not d) 13 (cond (not e) 14 (denominator_fault o.settings.denominator))))))
        (ashore_fault o.ashore o.graph.n)
    last false b c d e = refl
    last true false c d e = refl
    last true true false d e = refl
    last true true true false e = refl
    last true true true true false = refl
    last true true true true true = refl

-- where it is 0 the graph is valid
pub given_valid : (o : Opening) → given_fault o ≡ 0 → Valid o.graph
unfolding given_fault
given_valid o e = valid_true o.graph (not-false (valid o.graph) (cond_zero (not (valid o.graph)) 15 _ (omega arith) e).0)

-- ---- sizes

module _ (o : Opening) (h : fault o ≡ 0) where
  pub begun_valid : Valid o.graph
  unfolding held
  begun_valid = valid-trimmed o.graph (accepts-held o h).valid

  -- and so it is after it is trimmed
  pub begun_trimmed : Valid (trimmed o.graph)
  unfolding held
  begun_trimmed = (accepts-held o h).valid

  -- the list is such as an opening accepts
  pub begun_list : length o.ashore ≡ (trimmed o.graph).n
  unfolding held
  begun_list = (accepts-held o h).ashore_long

  pub begun_fits : ashore_fits o.ashore (trimmed o.graph).n ≡ true
  unfolding held
  begun_fits = (accepts-held o h).ashore_fit

  pub begun_long : length o.multipliers ≡ (trimmed o.graph).n
  unfolding held
  begun_long = (accepts-held o h).long

  pub begun_few : length o.ashore ≤ max_vertices
  begun_few = omega (arith, begun_list, begun_trimmed.high)

-- ---- the node

-- the marks of a graph are those of its bytes
pub graph-marks : (g : Graph) → marks_in g.m g.mark ≡ marks_of (network g)
unfolding marks_of network marks_in
graph-marks g =
    fill_is g.m (λ j. mark_of (get_or g.mark j 0)) (row g.m (network g).mark) free (row-size g.m (network g).mark)
    (λ j h. sym (row_at g.m (network g).mark j free h ∙ network_mark g j h))

-- ---- the record

-- the settings as they are stored: lifting is the byte of a test
pub settings_stored : (t : Settings) (ceiling : ℤ) (lifting : ℕ) → ceiling ≡ t.ceiling → lifting ≡ words.bool_byte (lifts t)
    → record { ceiling = ceiling; sweeps = t.sweeps; step = t.step; denominator = t.denominator; lifting = lifting } ≡ tidy t
unfolding tidy
settings_stored t ceiling lifting ec el = λ i. record {
  ceiling = ec i;
  sweeps = t.sweeps;
  step = t.step;
  denominator = t.denominator;
  lifting = (el ∙ byte (lifts t)) i;
}
  where
    byte : (b : Bool) → words.bool_byte b ≡ bit b
    byte true = refl
    byte false = refl

-- the search that an opening begins, written out
begins : Opening → Progress
begins o =
    record {
      opening = o;
      upper = o.settings.ceiling;
      stack = node_of (active_multipliers o) (marks_of (active_network o)) ∷ [];
      incumbent = no_tour;
      count = 0;
    }

begins_is : (o : Opening) → begins o ≡ begin o
unfolding begins begin
begins_is o = refl

holds : Opening → Opening
holds o = opening_of (trimmed o.graph) o.multipliers o.ashore (tidy o.settings)

holds_is : (o : Opening) → holds o ≡ held o
unfolding holds held
holds_is o = refl

module _ (o : Opening) (h : fault o ≡ 0) (g : Graph) (eg : g ≡ trimmed o.graph) (d : List ℤ)
    (ed : d ≡ fit max_vertices (pos 0) o.multipliers) (settings : Settings) (es : settings ≡ tidy o.settings) (ceiling : ℤ)
    (ec : ceiling ≡ o.settings.ceiling) (x l : List ℕ) (rows : x ≡ rows_of (marks_over (ashore o.ashore) (network g)))
    (put : PutRows 0 x (replicate stack_size 0) l) (f e : List ℤ) (ef : f ≡ fit max_vertices (pos 0) (reduced_list (ashore o.ashore) g.n o.multipliers))
    (carry : PutCarried 0 f (replicate carried_size (pos 0)) e) (b : List ℕ) (eb : b ≡ fit max_vertices 0 o.ashore) where
  -- what the code makes
  abbrev pub made : Search
  made =
      record {
        settings = settings;
        upper = ceiling;
        count = 0;
        stack = l;
        depth = 1;
        graph = g;
        multipliers = d;
        carried = e;
        best = replicate max_edges 0;
        ashore = b;
        «open» = 1;
        has_best = 0;
      }

  marks : x ≡ rows_of (marks_of (active_network (holds o)))
  unfolding holds marks_of marks_over
  marks = rows ∙ ap (λ (t : Graph). rows_of (marks_over (ashore o.ashore) (network t))) eg

  multipliers : f ≡ fit max_vertices (pos 0) (active_multipliers (holds o))
  unfolding holds
  multipliers = ef ∙ ap (λ (t : Graph). fit max_vertices (pos 0) (reduced_list (ashore o.ashore) t.n o.multipliers)) eg

  -- the node that it stores
  first : Node
  first = node_of (active_multipliers (holds o)) (marks_of (active_network (holds o)))

  stack : l ≡ stack_words (node_of (active_multipliers (holds o)) (marks_of (active_network (holds o))) ∷ [])
  unfolding first
  stack =
      pushed 0 (replicate stack_size 0) l [] refl first (cells_empty node_words stack_size rows_places word_at 0 no_bits)
      (subst (λ (y : List ℕ). PutRows 0 y (replicate stack_size 0) l) marks put)

  carries : e ≡ carried_of (node_of (active_multipliers (holds o)) (marks_of (active_network (holds o))) ∷ [])
  unfolding first
  carries =
      carried_pushed 0 (replicate carried_size (pos 0)) e [] refl first
      (cells_empty max_vertices carried_size carried_places multiplier_at (pos 0) (λ j. refl))
      (subst (λ (y : List ℤ). PutCarried 0 y (replicate carried_size (pos 0)) e) multipliers carry)

  made_is : made ≡ record_of (begins (holds o))
  unfolding record_of begins holds tidy has_incumbent best_bytes
  made_is = λ i. record {
    settings = es i;
    upper = ec i;
    count = 0;
    depth = 1;
    graph = eg i;
    multipliers = ed i;
    carried = carries i;
    stack = stack i;
    best = replicate max_edges 0;
    ashore = eb i;
    «open» = 1;
    has_best = 0;
  }

  pub begun : made ≡ record_of (begin (held o))
  begun = made_is ∙ ap record_of (begins_is (holds o)) ∙ ap (λ (q : Opening). record_of (begin q)) (holds_is o)
