-- THE PASSES OF A NODE OVER THE ACTIVE VERTICES come to what those of the reduced network come to, its nodes' multipliers back in the network's
-- numbers (`widened_opened`); and, where touched edges are left out with others that are excluded, to what those of the compact network come to. For
-- the marks and the multipliers that every node has: touched edges excluded (`Strikes`), and 0 for an inactive vertex (`Grounded`).
use Rattle.std.specs.Prelude.{◌≡◌, Bool, true, false, ltb, length, get_or, set, ℤ}
use Rattle.std.proofs.Math.Path.{refl, sym, ap, ap₂}
use Rattle.std.proofs.Common.{◌∙◌, subst, true≢false, arith}
use Rattle.std.proofs.Math.Bool.{cond}
use mathlib.Core.List.{List, ◌∷◌}
use Prim.Native.Nat.{ℕ, zero, suc, ◌<◌}
use Rattle.std.specs.Int.Signed.{lt_z}
use Rattle.lists.specs.Bools.{by_cases}
use Rattle.lists.specs.Members.{◌∈◌}
use Rattle.lists.specs.Numbers.{up_to, up_to_in}
use Rattle.lists.specs.Rows.{row_same}
use Rattle.graph.specs.Network.{Network, free, required, excluded}
use Rattle.tree_theory.specs.OneTree.{Edges, Least}
use Rattle.tree_theory.specs.Arrays.{edge_of}
use Rattle.tree_theory.specs.Inputs.{multiplier}
use Rattle.tree_theory.specs.Enumeration.{Tree, no_tree, a_tree, least_tree}
use Rattle.tree_theory.specs.LeastTree.{Right, tree_right}
use Rattle.tours.specs.Tours.{is_tour}
use Rattle.lifting.specs.Lifted.{ruling_with}
use Rattle.lifting.proofs.Rulings.{excluded_stays}
use Rattle.machine.specs.Outcomes.{closes, splits}
use Rattle.machine.specs.Machine.{Marks, node_of, Opened, with_marks, applied, mark_by, Pass, shut, found, unclosed, pass_by, pass, gained}
use Rattle.machine.specs.Machine.{first_free, branch, concluded, passes}
use Rattle.thinning.specs.Ranks.{rank}
use Rattle.thinning.specs.Thinned.{thin}
use Rattle.compaction.specs.Spread.{spread_marks, spread_opened, spread_rest}
use Rattle.compaction.specs.Passes.{passes-thin}
use Rattle.afloat.specs.Over.{Ashore, touched}
use Rattle.afloat.specs.Reduced.{reduced, reduced_multiplier, Fit, touched_excluded}
use Rattle.afloat.specs.Trees.{Untouched}
use Rattle.afloat.specs.Decided.{is_tour-reduced}
use Rattle.afloat.proofs.Decided.{tree-reduced}
use Rattle.afloat.proofs.LiftedOver.{ruling_with-reduced}
use Rattle.afloat.specs.Inputs.{Inner}
use Rattle.afloat_passes.specs.Passing.{applied_over, pass_by_over, pass_over, gained_over, passes_over}
use Rattle.afloat.specs.Lists.{reduced_list, Grounded, list_multipliers, widened_back}
use Rattle.afloat_passes.proofs.Gaining.{grounded_gained, gained-reduced}
use Rattle.afloat_passes.specs.Passes.{widened_opened, Strikes, row_mark}

-- ---- the network with a node's marks

marks-reduced : (s : Ashore) (g : Network) (x : Marks) → Strikes s g x → reduced s (with_marks g x) ≡ with_marks (reduced s g) x
unfolding with_marks
marks-reduced s g x h = λ i. record {
  n = (reduced s g).n;
  m = g.m;
  a = (reduced s g).a;
  b = (reduced s g).b;
  cost = g.cost;
  mark = λ k. at k (touched s g k) refl i;
}
  where
    at : (k : ℕ) (b : Bool) → touched s g k ≡ b → cond b excluded (get_or (free ∷ x) k free) ≡ get_or (free ∷ x) k free
    at k true e = sym (h k e)
    at k false e = refl

fit-marks : (s : Ashore) (g : Network) (x : Marks) → Fit s g → Fit s (with_marks g x)
unfolding with_marks
fit-marks s g x f = record {
  valid = record { big = f.valid.big; low = f.valid.low; apart = f.valid.apart; high = f.valid.high };
  one = f.one;
  three = f.three;
}

-- ---- a pass

module _ (lifting : Bool) (s : Ashore) (g : Network) (f : Fit s g) (d : ℕ → ℤ) (upper : ℤ) where
  applied-reduced : applied_over lifting s g d upper ≡ applied lifting (reduced s g) (reduced_multiplier s g.n d) upper
  unfolding applied_over applied
  applied-reduced = row_same g.m _ _ (λ j h. ap mark_by (ruling_with-reduced s g f d upper (suc j) (up_to_in g.m (suc j) (omega arith) h) lifting))

  -- it is the pass of the reduced network
  pass-reduced : pass_over lifting s g d upper ≡ pass lifting (reduced s g) (reduced_multiplier s g.n d) upper
  unfolding pass_over pass
  pass-reduced =
      ap (pass_by_over lifting s g d upper) (tree-reduced s g f d)
      ∙ go (least_tree (reduced s g) (reduced_multiplier s g.n d)) (tree_right (reduced s g) (reduced_multiplier s g.n d))
    where
      go : (x : Tree) → Right (reduced s g) (reduced_multiplier s g.n d) x
          → pass_by_over lifting s g d upper x ≡ pass_by lifting (reduced s g) (reduced_multiplier s g.n d) upper x
      go no_tree r = unfold pass_by_over pass_by in refl
      go (a_tree b t) r =
          unfold pass_by_over pass_by in
          ap₂ (λ (y : Bool) (x : Marks). cond (lt_z upper b) shut (cond y (found t) (unclosed t x)))
          (is_tour-reduced s g f t (λ k i e. r.1.tree.avoids k i (touched_excluded s g f k i e))) applied-reduced

-- how an unclosed node goes on is asked at its least 1-tree and at its rulings alone
concluded-widened : (lifting : Bool) (s : Ashore) (n : ℕ) (h : Network) (d : ℕ → ℤ) (upper : ℤ) (on too : Edges → Marks → Opened)
    → ((t : Edges) → Least h d t → on t (applied lifting h d upper) ≡ widened_opened s n (too t (applied lifting h d upper)))
    → concluded h.m (pass lifting h d upper) on ≡ widened_opened s n (concluded h.m (pass lifting h d upper) too)
unfolding pass pass_by
concluded-widened lifting s n h d upper on too same = go (least_tree h d) (tree_right h d)
  where
    by_tests : (t : Edges) → Least h d t → (above tour : Bool)
        → concluded h.m (cond above shut (cond tour (found t) (unclosed t (applied lifting h d upper)))) on
        ≡ widened_opened s n (concluded h.m (cond above shut (cond tour (found t) (unclosed t (applied lifting h d upper)))) too)
    by_tests t l true tour = refl
    by_tests t l false true = refl
    by_tests t l false false = same t l

    go : (x : Tree) → Right h d x
        → concluded h.m (pass_by lifting h d upper x) on ≡ widened_opened s n (concluded h.m (pass_by lifting h d upper x) too)
    go no_tree r = refl
    go (a_tree b t) r = by_tests t r.1 (lt_z upper b) (is_tour h t)

branch_widened : (s : Ashore) (n : ℕ) (d : List ℤ) (x : Marks) → Grounded s n d
    → branch d x ≡ widened_opened s n (branch (reduced_list s n d) x)
unfolding branch
branch_widened s n d x z = go (ltb (first_free x) (length x))
  where
    go : (b : Bool)
        → cond b (splits (node_of d (set x (first_free x) excluded)) (node_of d (set x (first_free x) required))) closes
        ≡ widened_opened s n
        (cond b
        (splits (node_of (reduced_list s n d) (set x (first_free x) excluded)) (node_of (reduced_list s n d) (set x (first_free x) required))) closes)
    go true =
        ap (λ (e : List ℤ). splits (node_of e (set x (first_free x) excluded)) (node_of e (set x (first_free x) required)))
        (sym (widened_back s n d z))
    go false = refl

module _ (lifting : Bool) (s : Ashore) (g : Network) (f : Fit s g) (inner : Inner s g) where
  one-pass : (d : List ℤ) (upper : ℤ) (x : Marks) → Strikes s g x
      → pass_over lifting s (with_marks g x) (multiplier d) upper ≡ pass lifting (with_marks (reduced s g) x) (multiplier (reduced_list s g.n d)) upper
  one-pass d upper x h =
      pass-reduced lifting s (with_marks g x) (fit-marks s g x f) (multiplier d) upper
      ∙ ap (λ (e : ℕ → ℤ). pass lifting (reduced s (with_marks g x)) e upper) same
      ∙ ap (λ (q : Network). pass lifting q (multiplier (reduced_list s g.n d)) upper) (marks-reduced s g x h)
    where
      same : reduced_multiplier s (with_marks g x).n (multiplier d) ≡ multiplier (reduced_list s g.n d)
      same = unfold with_marks in sym (list_multipliers s g.n d)

  -- of an unclosed node: the least 1-tree is untouched, and touched edges stay excluded
  module _ (d : ℕ → ℤ) (upper : ℤ) (x : Marks) (h : Strikes s g x) where
    least_free : (t : Edges) → Least (with_marks (reduced s g) x) d t → Untouched s g t
    least_free t l k i e = l.tree.avoids k (unfold with_marks in i) (unfold with_marks in h k e)

    applied_strikes : Strikes s g (applied lifting (with_marks (reduced s g) x) d upper)
    unfolding applied with_marks
    applied_strikes k e =
        row_mark g.m (λ j. mark_by (ruling_with lifting (with_marks (reduced s g) x) d upper j)) k (inner k e)
        ∙ ap mark_by (excluded_stays lifting (with_marks (reduced s g) x) d upper k (h k e))

  -- THE PASSES OF A NODE
  pub passes-reduced : (step : ℕ) (upper : ℤ) (left : ℕ) (d : List ℤ) (x : Marks) → Grounded s g.n d → Strikes s g x
      → passes_over lifting s g step upper left d x ≡ widened_opened s g.n (passes lifting (reduced s g) step upper left (reduced_list s g.n d) x)
  unfolding passes_over passes
  passes-reduced step upper zero d x z h =
      ap (λ (p : Pass). concluded g.m p (λ t y. branch d y)) (one-pass d upper x h)
      ∙ unfold with_marks in
      concluded-widened lifting s g.n (with_marks (reduced s g) x) (multiplier (reduced_list s g.n d)) upper
      (λ t y. branch d y) (λ t y. branch (reduced_list s g.n d) y)
      (λ t l. branch_widened s g.n d (applied lifting (with_marks (reduced s g) x) (multiplier (reduced_list s g.n d)) upper) z)
  passes-reduced step upper (suc left) d x z h =
      ap (λ (p : Pass). concluded g.m p (λ t y. passes_over lifting s g step upper left (gained_over s g step t d) y)) (one-pass d upper x h)
      ∙ unfold with_marks in
      concluded-widened lifting s g.n (with_marks (reduced s g) x) (multiplier (reduced_list s g.n d)) upper
      (λ t y. passes_over lifting s g step upper left (gained_over s g step t d) y)
      (λ t y. passes lifting (reduced s g) step upper left (gained (reduced s g) step t (reduced_list s g.n d)) y)
      (λ t l.
      passes-reduced step upper left (gained_over s g step t d) (applied lifting (with_marks (reduced s g) x) (multiplier (reduced_list s g.n d)) upper)
      (grounded_gained s g step t d z) (applied_strikes (multiplier (reduced_list s g.n d)) upper x h)
      ∙ ap (λ (e : List ℤ).
      widened_opened s g.n
      (passes lifting (reduced s g) step upper left e (applied lifting (with_marks (reduced s g) x) (multiplier (reduced_list s g.n d)) upper)))
      (sym (gained-reduced s g f t (least_free (multiplier (reduced_list s g.n d)) upper x h t l) step d)))

  -- AND AMONG THE KEPT EDGES, none of which is touched
  module _ (c : Edges) (free_kept : (k : ℕ) → k ∈ up_to g.m → c k ≡ true → touched s g k ≡ false) where
    spread_strikes : (y : Marks) → Strikes s g (spread_marks c g.m y)
    spread_strikes y k e = go k e (inner k e) (edge_of g.m k (inner k e))
      where
        left_out : (k : ℕ) → touched s g k ≡ true → k ∈ up_to g.m → c k ≡ false
        left_out k e i = by_cases (c k) (λ q. absurd (true≢false (sym e ∙ free_kept k i q))) (λ q. q)

        go : (k : ℕ) → touched s g k ≡ true → k ∈ up_to g.m → (j : ℕ) × (j < g.m) × (k ≡ suc j)
            → get_or (free ∷ spread_marks c g.m y) k free ≡ excluded
        go k e i r =
            subst (λ (w : ℕ). get_or (free ∷ spread_marks c g.m y) w free ≡ excluded) (sym r.2)
            (spread_rest c g.m excluded free y r.0 r.1 (ap c (sym r.2) ∙ left_out k e i))

    pub passes-compact : (step : ℕ) (upper : ℤ) (left : ℕ) (d : List ℤ) (y : Marks) → length y ≡ rank c g.m → Grounded s g.n d
        → passes_over lifting s g step upper left d (spread_marks c g.m y)
        ≡ widened_opened s g.n (spread_opened c g.m (passes lifting (thin c (reduced s g)) step upper left (reduced_list s g.n d) y))
    passes-compact step upper left d y long z =
        passes-reduced step upper left d (spread_marks c g.m y) z (spread_strikes y)
        ∙ ap (widened_opened s g.n) (passes-thin c (reduced s g) lifting step upper left (reduced_list s g.n d) y long)
