-- WHY THE STACK STAYS SHALLOW: a node that splits has at most n required edges, the half that requires an edge more has one more, and the
-- other no fewer. For a pass only adds marks, and its tree, which has n edges, has every edge that the marks after it require. Nothing else
-- is asked of the rulings.
use Rattle.std.specs.Prelude.{◌≡◌, Bool, cond, List, ltb, length, ℤ}
use Rattle.std.proofs.Math.Path.{refl}
use Rattle.std.proofs.Common.{subst, arith, ltb-true}
use Rattle.std.proofs.Math.Bool.{true, false}
use Prim.Native.Nat.{ℕ, zero, suc, ◌≤◌, ◌<◌}
use Rattle.std.specs.Int.Signed.{lt_z}
use Rattle.lists.specs.Bools.{by_cases}
use Rattle.lists.specs.Select.{select}
use Rattle.lists.specs.Numbers.{up_to}
use Rattle.integers.specs.Order.{test_not_lt}
use Rattle.graph.specs.Network.{Network, required, excluded}
use Rattle.tree_theory.specs.OneTree.{Edges}
use Rattle.tree_theory.specs.Inputs.{multiplier}
use Rattle.tree_theory.specs.Enumeration.{Tree, no_tree, a_tree, least_tree}
use Rattle.tree_theory.specs.LeastTree.{Right, tree_right}
use Rattle.tree_theory.specs.Valid.{Valid}
use Rattle.tours.specs.Tours.{Allowed, is_tour}
use Rattle.machine.specs.Outcomes.{closes, finds, splits}
use Rattle.machine.specs.Machine.{Marks, with_marks, applied, Pass, shut, found, unclosed, pass_by, pass, gained, Opened, first_free}
use Rattle.machine.specs.Machine.{branch, concluded, passes}
use Rattle.machine.specs.Laws.Branching.{first_free_lem}
use Rattle.machine.specs.Laws.NodeTours.{applied-length}
use Rattle.machine.proofs.Applied.{tree_agrees, ruled-requireds}
use Rattle.machine.specs.Requireds.{requireds, requireds-set, requireds_most}
use Rattle.tree_theory.specs.Ranges.{tree-size}
use Rattle.machine.specs.Depth.{Shallow}

-- a node with no more required edges
fewer : (n : ℕ) (x y : Marks) → requireds x ≤ requireds y → (out : Opened) → Shallow n y out → Shallow n x out
fewer n x y l closes h = tt
fewer n x y l (finds r) h = tt
fewer n x y l (splits out into) h =
    record { most = omega (arith, h.most); of_out = omega (arith, h.of_out); of_into = omega (arith, h.of_into) }

branch_shallow : (n : ℕ) (d : List ℤ) (y : Marks) → requireds y ≤ n → Shallow n y (branch d y)
unfolding branch
branch_shallow n d y l = by_cases (ltb (first_free y) (length y)) some (λ e. rw e tt)
  where
    some : ltb (first_free y) (length y) ≡ true → Shallow n y (branch d y)
    some e =
        let k : first_free y < length y = ltb-true (first_free y) (length y) e in
        rw e (record {
          most = l;
          of_out = omega (arith, requireds-set y (first_free y) excluded k (first_free_lem y k));
          of_into = omega (arith, requireds-set y (first_free y) required k (first_free_lem y k));
        })

module _ (g : Network) (vg : Valid g) (upper : ℤ) where
  -- what a pass leaves of the node x: it unmarks no required edge, and its tree of n edges has each that is required now
  record Unclosed (x : Marks) (t : Edges) (y : Marks) : Type 0 where
    long : length y ≡ g.m
    more : requireds x ≤ requireds y
    size : length (select t (up_to g.m)) ≡ g.n
    allowed : Allowed (with_marks g y) t

  abbrev Passed : Marks → Pass → Type 0
  Passed x shut = Unit {0}
  Passed x (found t) = Unit {0}
  Passed x (unclosed t y) = Unclosed x t y

  pass_shallow : (lifting : Bool) (d : ℕ → ℤ) (x : Marks) → length x ≡ g.m → Passed x (pass lifting (with_marks g x) d upper)
  unfolding pass pass_by
  pass_shallow lifting d x full = go (least_tree (with_marks g x) d) refl
    where
      go : (r : Tree) → least_tree (with_marks g x) d ≡ r → Passed x (pass_by lifting (with_marks g x) d upper r)
      go no_tree p = tt
      go (a_tree b t) p = cases (lt_z upper b) refl (is_tour (with_marks g x) t)
        where
          cases : (u : Bool) → lt_z upper b ≡ u → (v : Bool)
              → Passed x (cond u shut (cond v (found t) (unclosed t (applied lifting (with_marks g x) d upper))))
          cases true e v = tt
          cases false e true = tt
          cases false e false = record {
            long = unfold with_marks in applied-length lifting (with_marks g x) d upper;
            more = ruled-requireds g vg x lifting d upper full;
            size = unfold with_marks in tree-size (with_marks g x) t (subst (Right (with_marks g x) d) p (tree_right (with_marks g x) d)).1.tree;
            allowed = tree_agrees g vg x lifting d upper b t p (test_not_lt upper b e);
          }

  concluded_shallow : (x : Marks) (p : Pass) → Passed x p → (otherwise : Edges → Marks → Opened)
      → ((t : Edges) (y : Marks) → Unclosed x t y → Shallow g.n y (otherwise t y)) → Shallow g.n x (concluded g.m p otherwise)
  concluded_shallow x shut h otherwise later = tt
  concluded_shallow x (found t) h otherwise later = tt
  concluded_shallow x (unclosed t y) h otherwise later = fewer g.n x y h.more (otherwise t y) (later t y h)

  pub passes_shallow : (lifting : Bool) (step left : ℕ) (d : List ℤ) (x : Marks) → length x ≡ g.m
      → Shallow g.n x (passes lifting g step upper left d x)
  unfolding passes
  passes_shallow lifting step zero d x full =
      concluded_shallow x (pass lifting (with_marks g x) (multiplier d) upper) (pass_shallow lifting (multiplier d) x full) (λ t y. branch d y)
      (λ t y h. branch_shallow g.n d y (omega (arith, requireds_most g y h.long t h.allowed, h.size)))
  passes_shallow lifting step (suc left) d x full =
      concluded_shallow x (pass lifting (with_marks g x) (multiplier d) upper) (pass_shallow lifting (multiplier d) x full)
      (λ t y. passes lifting g step upper left (gained g step t d) y)
      (λ t y h. passes_shallow lifting step left (gained g step t d) y h.long)
