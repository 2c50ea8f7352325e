-- DEMAND 2 OF THE CALLS in plain words, with demand 1's refusals: what the definitions come to that the contracts of `tree` and `rule` cite
-- (reduction/specs/Answers), for every graph value, multipliers, list of vertices ashore, ceiling, denominator and lent list; when an opening is refused;
-- and that only legs 1 to m count. They are stated by OneTreeOver, LeastOver, InfeasibleOver, BarredOver and ForcedOver (afloat/specs/Over), which speak
-- of all sets of edges, over the vertices that are afloat, and by Valid (graph/specs/Valid). Statements only. Theorems proves them of all arguments:
-- `tree_exactly` is TreeExactly, `rule_exactly` RuleExactly, `opening_exactly` OpeningExactly; SameCharts proves SameAnswers of any two values of one
-- chart (`same-answers`).
use Rattle.std.specs.Prelude.{◌≡◌, ◌↔◌, ◌⊎◌, true, List, [], ◌∷◌, ℕ, ◌-◌, ◌≤◌, ◌<◌, length, get_or, ℤ, pos, ◌≤ℤ◌, ◌<ℤ◌}
use Rattle.lists.specs.Bools.{bit}
use Rattle.lists.specs.Rows.{row}
use Rattle.integers.specs.Range.{InRange}
use Rattle.integers.specs.Multiples.{◌times◌}
use Rattle.graph.specs.declared.Graph.{Graph}
use Rattle.graph.specs.Limits.{max_multiplier, max_ceiling, max_sweeps, max_step, max_denominator}
use Rattle.graph.specs.Network.{free, required, excluded, network}
use Rattle.graph.specs.Valid.{Valid}
use Rattle.tree_theory.specs.OneTree.{Edges}
use Rattle.tree_theory.specs.Inputs.{multiplier}
use Rattle.tree_theory.specs.Scaled.{scaled_by}
use Rattle.afloat.specs.Over.{ashore, active_count, touched, mark_over, OneTreeOver, bound_over, LeastOver, InfeasibleOver, BarredOver, ForcedOver}
use Rattle.onetree.specs.Answers.{Reply, refused, none, bounded}
use Rattle.reduction.specs.Answers.{tree_reply_over, tree_leaves_over, rule_reply_over, rule_leaves_over}
use Rattle.machine.specs.declared.Settings.{Settings}
use Rattle.machine.specs.Machine.{Opening, State, no_search, opening_of}
use Rattle.machine.specs.Calls.{opens, accepted, fault, step}
use Rattle.machine.specs.Calls as machine

-- ---- what the caller can send wrong

-- what is asked of an input, and the number that refuses it otherwise
abbrev pub Asked : Type 1
Asked = ℕ × Type 0

-- "those that apply, in this order": e is the number of the first that is not met
abbrev pub First : List Asked → ℕ → Type 0
First [] e = ⊥
First (x ∷ xs) e = ((¬ x.1) × (e ≡ x.0)) ⊎ (x.1 × First xs e)

-- nothing is wrong
abbrev pub Fine : List Asked → Type 0
Fine [] = Unit {0}
Fine (x ∷ xs) = x.1 × Fine xs

-- "a list of wrong length (dues n, tree, rulings and round m, ..)" is one that is not so; C-20: "a list of n bytes", whose "length comes under 11"
pub record LengthsFit (g : Graph) (d : List ℤ) (l : List ℕ) (len : ℕ) : Type 0 where
  pub multipliers : length d ≡ g.n
  pub listed : length l ≡ g.n
  pub lent : len ≡ g.m

-- "Dues d(1) to d(n) are whole numbers, −1,000,000 to 1,000,000, with d(1) = 0."
pub record MultipliersFit (d : List ℤ) : Type 0 where
  pub range : (v : ℕ) → 1 ≤ v → v ≤ length d → InRange max_multiplier (multiplier d v)
  pub first : multiplier d 1 ≡ pos 0

-- document 02, C-17: "a denominator q, 1 to 1,000"
pub record DenominatorFits (q : ℕ) : Type 0 where
  pub low : 1 ≤ q
  pub high : q ≤ max_denominator

-- C-20: "a list of n bytes, 1 for ashore, 0 for afloat"; "35 when a byte is above 1, buoy 1 is ashore, or fewer than three are afloat": the byte of
-- vertex v stands at place v − 1
pub record AshoreFits (l : List ℕ) (n : ℕ) : Type 0 where
  pub bytes : (i : ℕ) → i < length l → get_or l i 0 ≤ 1
  pub one : ¬ (get_or l 0 0 ≡ 1)
  pub three : 3 ≤ active_count (ashore l) n

-- "15 a chart value that breaks 'Legs and marks'; 11 a list of wrong length; 12 a due out of range or d(1) not 0"; C-17: "32 when q is out of range";
-- C-20: "35 .. follows 32"
abbrev pub tree_asks : Graph → List ℤ → List ℕ → ℕ → ℕ → List Asked
tree_asks g d l q len =
    (15, Valid g)
    ∷ (11, LengthsFit g d l len)
    ∷ (12, MultipliersFit d)
    ∷ (32, DenominatorFits q)
    ∷ (35, AshoreFits l g.n)
    ∷ []

-- "13 ceiling"
abbrev pub rule_asks : Graph → List ℤ → List ℕ → ℤ → ℕ → ℕ → List Asked
rule_asks g d l ceiling q len =
    (15, Valid g)
    ∷ (11, LengthsFit g d l len)
    ∷ (12, MultipliersFit d)
    ∷ (13, InRange max_ceiling ceiling)
    ∷ (32, DenominatorFits q)
    ∷ (35, AshoreFits l g.n)
    ∷ []

-- "14 sweeps or step"; C-17: 32 "after 14"; C-20: "The list's length comes under 11. 35 .. follows 32"
abbrev pub opening_asks : Opening → List Asked
opening_asks o =
    (15, Valid o.graph)
    ∷ (11, (length o.multipliers ≡ o.graph.n) × (length o.ashore ≡ o.graph.n))
    ∷ (12, MultipliersFit o.multipliers)
    ∷ (13, InRange max_ceiling o.settings.ceiling)
    ∷ (14, (o.settings.sweeps ≤ max_sweeps) × (o.settings.step ≤ max_step))
    ∷ (32, DenominatorFits o.settings.denominator)
    ∷ (35, AshoreFits o.ashore o.graph.n)
    ∷ []

-- ---- the tree call

-- a reply and a lent list are those of the least 1-tree over the vertices that are afloat
pub record GivesLeast (g : Graph) (d : List ℤ) (l : List ℕ) (q : ℕ) (reply : Reply) (list : List ℕ) : Type 0 where
  pub edges : Edges
  -- "The tree call gives the 1-tree of least bound": it is the only one
  pub least : LeastOver (ashore l) (scaled_by q (network g)) (multiplier d) edges
  pub only : (t : Edges) → LeastOver (ashore l) (scaled_by q (network g)) (multiplier d) t → (k : ℕ) → 1 ≤ k → k ≤ g.m → t k ≡ edges k
  -- "the bound, and in a lent list one byte a leg, 1 in, 0 out"
  pub replied : reply ≡ bounded (bound_over (ashore l) (scaled_by q (network g)) (multiplier d) edges)
  pub written : list ≡ row g.m (λ k. bit (edges k))

-- d are the multipliers, in q-ths of a minute as the bound is, l says which vertices are ashore, and out is the lent list, as the call finds it
pub record TreeExactly (g : Graph) (d : List ℤ) (l : List ℕ) (q : ℕ) (out : List ℕ) : Type 0 where
  -- "Each answer is the number and a place: .. otherwise 0"
  pub refuses : (e p : ℕ) → (tree_reply_over g d l q (length out) ≡ refused e p) ↔ (First (tree_asks g d l q (length out)) e × (p ≡ 0))
  -- "a refusal leaves each lent list .. unchanged"
  pub refusal_leaves : (e p : ℕ) → tree_reply_over g d l q (length out) ≡ refused e p → tree_leaves_over g d l q out ≡ out
  -- "'No tree' is given exactly when none exists."
  pub missing : Fine (tree_asks g d l q (length out))
      → (tree_reply_over g d l q (length out) ≡ none) ↔ ((t : Edges) → ¬ OneTreeOver (ashore l) (scaled_by q (network g)) t)
  -- "with 'no tree' the list is unchanged"
  pub missing_leaves : tree_reply_over g d l q (length out) ≡ none → tree_leaves_over g d l q out ≡ out
  -- any other reply is the least 1-tree's
  pub otherwise : Fine (tree_asks g d l q (length out)) → ¬ (tree_reply_over g d l q (length out) ≡ none)
      → GivesLeast g d l q (tree_reply_over g d l q (length out)) (tree_leaves_over g d l q out)

-- ---- the rule call

-- no 1-tree over the vertices that are afloat has the edge and a bound within the ceiling; none lacks it; there is none
abbrev pub BarredBy : Graph → List ℤ → List ℕ → ℤ → ℕ → ℕ → Type 0
BarredBy g d l ceiling q k = BarredOver (ashore l) (scaled_by q (network g)) (multiplier d) (q times ceiling) k

abbrev pub ForcedBy : Graph → List ℤ → List ℕ → ℤ → ℕ → ℕ → Type 0
ForcedBy g d l ceiling q k = ForcedOver (ashore l) (scaled_by q (network g)) (multiplier d) (q times ceiling) k

abbrev pub InfeasibleBy : Graph → List ℤ → List ℕ → ℤ → ℕ → Type 0
InfeasibleBy g d l ceiling q = InfeasibleOver (ashore l) (scaled_by q (network g)) (multiplier d) (q times ceiling)

-- "0 keep, 1 force, 2 bar, 3 already required, 4 already struck", of edge k: "a free leg is barred exactly when no 1-tree with it has a bound
-- within the ceiling, and forced exactly when none without it has"; by the mark that counts
pub record RuledExactly (g : Graph) (d : List ℤ) (l : List ℕ) (ceiling : ℤ) (q k byte : ℕ) : Type 0 where
  pub keeps : (byte ≡ 0) ↔ ((mark_over (ashore l) (network g) k ≡ free) × (¬ BarredBy g d l ceiling q k) × (¬ ForcedBy g d l ceiling q k))
  pub forces : (byte ≡ 1) ↔ ((mark_over (ashore l) (network g) k ≡ free) × ForcedBy g d l ceiling q k)
  pub bars : (byte ≡ 2) ↔ ((mark_over (ashore l) (network g) k ≡ free) × BarredBy g d l ceiling q k)
  pub was_required : (byte ≡ 3) ↔ (mark_over (ashore l) (network g) k ≡ required)
  pub was_excluded : (byte ≡ 4) ↔ (mark_over (ashore l) (network g) k ≡ excluded)
  -- C-20: "A leg touching such a buoy counts as struck, whatever its mark"
  pub touches : touched (ashore l) (network g) k ≡ true → byte ≡ 4
  -- no edge is both
  pub one_only : BarredBy g d l ceiling q k → ForcedBy g d l ceiling q k → ⊥

-- "it gives the bound, and one ruling per leg in a lent list": edge k's stands at place k − 1
pub record GivesRulings (g : Graph) (d : List ℤ) (l : List ℕ) (ceiling : ℤ) (q : ℕ) (reply : Reply) (list : List ℕ) : Type 0 where
  pub edges : Edges
  pub least : LeastOver (ashore l) (scaled_by q (network g)) (multiplier d) edges
  pub within : bound_over (ashore l) (scaled_by q (network g)) (multiplier d) edges ≤ℤ q times ceiling
  pub replied : reply ≡ bounded (bound_over (ashore l) (scaled_by q (network g)) (multiplier d) edges)
  pub size : length list ≡ g.m
  pub each : (k : ℕ) → 1 ≤ k → k ≤ g.m → RuledExactly g d l ceiling q k (get_or list (k - 1) 0)

pub record RuleExactly (g : Graph) (d : List ℤ) (l : List ℕ) (ceiling : ℤ) (q : ℕ) (out : List ℕ) : Type 0 where
  pub refuses : (e p : ℕ)
      → (rule_reply_over g d l ceiling q (length out) ≡ refused e p) ↔ (First (rule_asks g d l ceiling q (length out)) e × (p ≡ 0))
  pub refusal_leaves : (e p : ℕ) → rule_reply_over g d l ceiling q (length out) ≡ refused e p → rule_leaves_over g d l ceiling q out ≡ out
  -- "'Dead' means no 1-tree has a bound at or below the ceiling"; "the lent list is then unchanged"
  pub dead : Fine (rule_asks g d l ceiling q (length out)) → (rule_reply_over g d l ceiling q (length out) ≡ none) ↔ InfeasibleBy g d l ceiling q
  -- "A sea is called dead exactly when that tree is missing or its bound is above the ceiling."
  pub dead_by_tree : Fine (rule_asks g d l ceiling q (length out)) → (rule_reply_over g d l ceiling q (length out) ≡ none)
      ↔ (((t : Edges) → ¬ OneTreeOver (ashore l) (scaled_by q (network g)) t)
      ⊎ ((t : Edges) × LeastOver (ashore l) (scaled_by q (network g)) (multiplier d) t
      × (q times ceiling <ℤ bound_over (ashore l) (scaled_by q (network g)) (multiplier d) t)))
  pub dead_leaves : rule_reply_over g d l ceiling q (length out) ≡ none → rule_leaves_over g d l ceiling q out ≡ out
  -- "Otherwise .."
  pub otherwise : Fine (rule_asks g d l ceiling q (length out)) → ¬ (rule_reply_over g d l ceiling q (length out) ≡ none)
      → GivesRulings g d l ceiling q (rule_reply_over g d l ceiling q (length out)) (rule_leaves_over g d l ceiling q out)

-- ---- opening, where no search is open (where one is, it is refused 21 before)

pub record OpeningExactly (o : Opening) : Type 0 where
  pub refuses : (e p : ℕ) → ((step no_search (opens o)).answer ≡ machine.refused e p) ↔ (First (opening_asks o) e × (p ≡ 0))
  pub accepts : ((step no_search (opens o)).answer ≡ accepted) ↔ Fine (opening_asks o)
  -- the number itself, by which the check of a record goes too: 0 where nothing is wrong
  pub first : (e : ℕ) → First (opening_asks o) e → fault o ≡ e
  pub nothing : (fault o ≡ 0) ↔ Fine (opening_asks o)

-- ---- "Two charts are the same when n, m and legs 1 to m agree; places past m count for nothing."

-- the same replies and the same bytes, of two values of the same chart
pub record SameAnswers (g h : Graph) : Type 0 where
  pub tree : (d : List ℤ) (l : List ℕ) (q len : ℕ) → tree_reply_over g d l q len ≡ tree_reply_over h d l q len
  pub tree_list : (d : List ℤ) (l : List ℕ) (q : ℕ) (out : List ℕ) → tree_leaves_over g d l q out ≡ tree_leaves_over h d l q out
  pub rule : (d : List ℤ) (l : List ℕ) (ceiling : ℤ) (q len : ℕ) → rule_reply_over g d l ceiling q len ≡ rule_reply_over h d l ceiling q len
  pub rule_list : (d : List ℤ) (l : List ℕ) (ceiling : ℤ) (q : ℕ) (out : List ℕ)
      → rule_leaves_over g d l ceiling q out ≡ rule_leaves_over h d l ceiling q out
  -- an opening gets the same answer and leaves the same state, so that every later call gets the same answer too
  pub opening : (d : List ℤ) (l : List ℕ) (settings : Settings) (s : State)
      → step s (opens (opening_of g d l settings)) ≡ step s (opens (opening_of h d l settings))
