-- The passes of a node, over the bytes of the node's marks and the multipliers so far (`AtPass`); how an unclosed node goes on (`later`); what
-- the passes come to. The ends of a turn are in proofs/Turns.antt. Rests on the passes' definition alone.
use Rattle.std.specs.Prelude.{◌≡◌, refl, Bool, true, ℕ, zero, suc, ◌≤◌, ◌<◌, length, ℤ, pos}
use Rattle.std.proofs.Math.Path.{sym, ap}
use Rattle.std.proofs.Common.{◌∙◌, arith}
use mathlib.Core.List.{List, ◌∷◌}
use Rattle.std.proofs.Math.Decide.{dec_le}
use Rattle.std.proofs.Math.ListN.{get_or, get_or-eq_default}
use Rattle.lists.specs.Fill.{fit}
use Rattle.graph.specs.declared.Graph.{Graph}
use Rattle.graph.specs.Limits.{max_edges}
use Rattle.graph.specs.Network.{Network, free, mark_of, place, network}
use Rattle.graph.specs.Places.{place_at, place_zero, place_past}
use Rattle.graph.specs.Valid.{Valid}
use Rattle.tree_theory.specs.OneTree.{Edges}
use Rattle.tree_theory.specs.Scaled.{scaled_by}
use Rattle.tree_theory.specs.Inputs.{multiplier, multipliers_fit}
use Rattle.machine.specs.Outcomes.{finds}
use Rattle.tours.specs.Tours as T
use Rattle.machine.specs.Machine as M
use Rattle.machine.specs.Machine.{Marks, with_marks, Pass, shut, found, unclosed, pass, gained, branch, concluded, passes}
use Rattle.node.specs.Marks.{with_bytes, marks_in, mark_byte_lem, bytes_of, bytes_of_tour, bytes-at, bytes_small, marks-size}
use Rattle.node.specs.Opened.{places}

-- ---- the graph with other marks

module _ (g : Graph) (x : Marks) (few : g.m ≤ max_edges) (long : length x ≡ g.m) where
  mark_is : (k : ℕ) → mark_of (place 0 g.m (bytes_of x) k) ≡ get_or (free ∷ x) k free
  mark_is zero = unfold mark_of in ap mark_of (place_zero 0 g.m (bytes_of x))
  mark_is (suc k) = go (dec_le (suc k) g.m)
    where
      go : Dec (k < g.m) → mark_of (place 0 g.m (bytes_of x) (suc k)) ≡ get_or x k free
      go (yes h) =
          ap mark_of (place_at 0 g.m (bytes_of x) k h ∙ bytes-at x k (omega arith)) ∙ mark_byte_lem (get_or x k free)
      go (no h) =
          unfold mark_of in ap mark_of (place_past 0 g.m (bytes_of x) k (omega arith))
          ∙ sym (get_or-eq_default x free (omega (arith, long)))

  -- its network is the machine's, with the node's marks
  pub network-marks : network (with_bytes g (bytes_of x)) ≡ with_marks (network g) x
  unfolding network with_marks
  network-marks = λ i. record {
    n = g.n;
    m = g.m;
    a = (network g).a;
    b = (network g).b;
    cost = (network g).cost;
    mark = λ k. mark_is k i;
  }

pub valid-bytes : (g : Graph) (x : Marks) → Valid g → Valid (with_bytes g (bytes_of x))
valid-bytes g x v = record {
  low = v.low;
  high = v.high;
  few = v.few;
  each = λ k h. record {
    from = (v.each k h).from;
    less = (v.each k h).less;
    to = (v.each k h).to;
    range = (v.each k h).range;
    known = bytes_small x k (omega (arith, v.few));
  };
  once = λ j k b h p. v.once j k b h (record { a = p.a; b = p.b });
}

-- ---- what passes come to

-- a tour is found, and w has its bytes
pub record FoundIn (out : M.Opened) (w : List ℕ) : Type 0 where
  pub tour : List Bool
  pub is : out ≡ finds tour
  pub bytes : w ≡ bytes_of_tour tour

-- the node is unclosed after the last pass: w has the bytes of its marks, and `last` the multipliers of that pass
pub record Pending (m : ℕ) (out : M.Opened) (w : List ℕ) (last : List ℤ) : Type 0 where
  pub marks : Marks
  pub multipliers : List ℤ
  pub long : length marks ≡ m
  pub comes : out ≡ branch multipliers marks
  pub bytes : w ≡ bytes_of marks
  pub told : last ≡ places multipliers

-- ---- a turn of the machine's passes

-- how an unclosed node goes on
abbrev pub later : Bool → Network → ℕ → ℤ → ℕ → List ℤ → Edges → Marks → M.Opened
later lifting g step upper zero d t y = branch d y
later lifting g step upper (suc left) d t y = passes lifting g step upper left (gained g step t d) y

-- the passes that are left, of a node with the marks' bytes x and the multipliers d, come to `out`
pub record AtPass (lifting : Bool) (den : ℕ) (g : Graph) (step : ℕ) (upper : ℤ) (out : M.Opened) (left : ℕ) (x : List ℕ) (d : List ℤ) : Type 0 where
  pub marks : Marks
  pub long : length marks ≡ g.m
  pub bytes : x ≡ bytes_of marks
  pub fits : multipliers_fit (fit g.n (pos 0) d) ≡ true
  pub comes : passes lifting (scaled_by den (network g)) step upper left (fit g.n (pos 0) d) marks ≡ out

-- the passes of a node whose marks are those of the graph h
abbrev pub passes_from : Bool → ℕ → Graph → List ℤ → ℕ → ℤ → ℕ → M.Opened
passes_from lifting den h d step upper left = passes lifting (scaled_by den (network h)) step upper left (fit h.n (pos 0) d) (marks_in h.m h.mark)

pub at_first : (lifting : Bool) (den : ℕ) (h : Graph) (d : List ℤ) (step : ℕ) (upper : ℤ) (left : ℕ) → h.mark ≡ bytes_of (marks_in h.m h.mark)
    → multipliers_fit (fit h.n (pos 0) d) ≡ true → AtPass lifting den h step upper (passes_from lifting den h d step upper left) left h.mark d
at_first lifting den h d step upper left e fits = record {
  marks = marks_in h.m h.mark;
  long = marks-size h.m h.mark;
  bytes = e;
  fits = fits;
  comes = refl;
}

-- the passes set the marks of the network, so they do not depend on those that it had
passes-marks : (lifting : Bool) (g : Network) (y : Marks) (step : ℕ) (upper : ℤ) (left : ℕ) (d : List ℤ) (x : Marks)
    → passes lifting (with_marks g y) step upper left d x ≡ passes lifting g step upper left d x
unfolding passes with_marks gained T.degree
passes-marks lifting g y step upper zero d x = refl
passes-marks lifting g y step upper (suc left) d x =
    λ i. concluded g.m (pass lifting (with_marks g x) (multiplier d) upper) (λ t z. passes-marks lifting g y step upper left (gained g step t d) z i)

pub passes_from_lem : (lifting : Bool) (den : ℕ) (g : Graph) (x : List ℕ) (d : List ℤ) (step : ℕ) (upper : ℤ) (left : ℕ) → g.m ≤ max_edges
    → x ≡ bytes_of (marks_in g.m x)
    → passes lifting (scaled_by den (network (with_bytes g x))) step upper left d (marks_in g.m x)
    ≡ passes lifting (scaled_by den (network g)) step upper left d (marks_in g.m x)
unfolding with_marks
passes_from_lem lifting den g x d step upper left few e =
    ap (λ (f : Network). passes lifting (scaled_by den f) step upper left d (marks_in g.m x))
    (ap (λ (y : List ℕ). network (with_bytes g y)) e ∙ network-marks g (marks_in g.m x) few (marks-size g.m x))
    ∙ passes-marks lifting (scaled_by den (network g)) (marks_in g.m x) step upper left d (marks_in g.m x)

module _ (lifting : Bool) (den : ℕ) (g : Graph) (valid : Valid g) (step : ℕ) (upper : ℤ) (out : M.Opened) (left : ℕ) (x : List ℕ) (d : List ℤ)
    (s : AtPass lifting den g step upper out left x d) where
  abbrev h : Graph
  h = with_bytes g x

  pub at-valid : Valid h
  at-valid = rw s.bytes (valid-bytes g s.marks valid)
