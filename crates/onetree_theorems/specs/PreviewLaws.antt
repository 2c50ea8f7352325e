-- WHAT Previews.antt SAYS OF PREVIEWS. A set is a 1-tree of the copy exactly when it is one of the graph and has the edge, or lacks it; so the
-- copy is infeasible exactly when the edge is barred, or forced. (That the rule call tells which: `preview_rules`, proofs/PreviewLaws.) Assumes
-- nothing.
use Rattle.std.proofs.Math.Path.{◌≡◌, refl, subst}
use Rattle.std.proofs.Common.{sym, ap, ap₂, ◌∙◌, inl, inr, eqb-true, eq-eqb, leb-true, le-leb, get_or-set_same, get_or-set_other}
use Rattle.std.specs.Prelude.{◌↔◌, ◌⊎◌, Bool, true, false, not, cond, ◌&&◌, ◌||◌, List, [], ◌∷◌, ℕ, zero, suc, ◌≤◌, ◌<◌, ◌-◌, ◌+◌, eqb, leb, length, get_or, set, ℤ}
use Rattle.std.proofs.lemmas.Bool.{false≢true, eqb-false}
use native.Mathlib.Omega.{arith}
use Rattle.std.proofs.Math.Decide.{dec_le}
use Rattle.lists.specs.All.{every_of}
use Rattle.lists.specs.Bools.{Says, by_cases, and_both}
use Rattle.lists.specs.Members.{◌∈◌}
use Rattle.lists.specs.Select.{select}
use Rattle.lists.specs.Numbers.{up_to, up_to_in, in_up_to}
use Rattle.graph.specs.declared.Graph.{Graph}
use Rattle.graph.specs.Limits.{max_edges, max_mark}
use Rattle.graph.specs.Network.{Mark, free, required, excluded, mark_of, network}
use Rattle.graph.specs.Places.{network_mark, place_zero, place_past}
use Rattle.graph.specs.Valid.{Valid}
use Rattle.graph.specs.Valid as value
use Rattle.spanning.specs.Walks.{label}
use Rattle.tree_theory.specs.OneTree.{Edges, bound, charge, at_one, away}
use Rattle.tree_theory.specs.Enumeration.{edge_sets, marked, alike, least_of}
use Rattle.tree_theory.specs.Inputs.{multipliers_fit, denominator_fits, denominator_fault, or_else}
use Rattle.tree_theory.specs.Scaled.{scaled_by}
use Rattle.afloat.specs.Over.{Ashore, ashore_fits, ashore_fault, active_count, others_over, touched, mark_over, multiplier_over}
use Rattle.afloat.specs.Over.{OneTreeOver, bound_over, InfeasibleOver, BarredOver, ForcedOver}
use Rattle.afloat.specs.Scaling.{tree_over_scaled}
use Rattle.afloat.specs.Values.{is_one_tree_over, one_trees_over, tree_over}
use Rattle.onetree.specs.Answers.{leaves}
use Rattle.reduction.specs.Answers.{input_fault_over, tree_fault_over, tree_reply_over, tree_leaves_over}
use Rattle.preview.specs.Preview.{remarked, can_be_marked, is_free_edge, edge_fault, preview_fault, preview_reply, preview_leaves}
use Rattle.onetree_theorems.specs.Calls.{Asked, First, Fine, tree_asks}
use Rattle.onetree_theorems.specs.Refusing.{Tests, fault_by, first-fault, fault_none, decides, graphs, lengths_fit, lengths, multipliers}
use Rattle.onetree_theorems.specs.Refusing.{denominators, ashores}
use Rattle.onetree_theorems.specs.Theorems.{NoRefusal, refuses_exactly, tree_exactly}
use Rattle.onetree_theorems.specs.Previews.{preview_asks, PreviewExactly}

-- ---- the marks of the copy

module _ (g : Graph) (k x : ℕ) (long : length g.mark ≡ max_edges) (valid : Valid g) (least : 1 ≤ k) (most : k ≤ g.m) where
  -- of an edge, by its place
  mark_at_lem : (j : ℕ) → j < g.m → (network (remarked g k x)).mark (suc j) ≡ mark_of (get_or (set g.mark (k - 1) x) j 0)
  mark_at_lem j h = unfold remarked in network_mark (remarked g k x) j h

  -- the edge's own mark is the new one
  mark_there : (network (remarked g k x)).mark k ≡ mark_of x
  mark_there =
      subst (λ (i : ℕ). (network (remarked g k x)).mark i ≡ mark_of x) (suc_pred k least)
      (mark_at_lem (k - 1) (omega (arith, least, most)) ∙ ap mark_of (get_or-set_same g.mark (k - 1) x 0 (omega (arith, long, least, most, valid.few))))
    where
      suc_pred : (i : ℕ) → 1 ≤ i → suc (i - 1) ≡ i
      suc_pred i h = omega (arith, h)

  -- the others keep theirs
  mark_else : (j : ℕ) → j ∈ up_to g.m → ¬ (j ≡ k) → (network (remarked g k x)).mark j ≡ (network g).mark j
  mark_else j m other = go j (in_up_to g.m j m).0 (in_up_to g.m j m).1 other
    where
      go : (j : ℕ) → 1 ≤ j → j ≤ g.m → ¬ (j ≡ k) → (network (remarked g k x)).mark j ≡ (network g).mark j
      go zero low high other = absurd (omega arith)
      go (suc j) low high other =
          mark_at_lem j (omega (arith, high))
          ∙ ap mark_of (get_or-set_other g.mark (k - 1) j x 0 (λ e. other (omega (arith, e, least))))
          ∙ sym (network_mark g j (omega (arith, high)))

  module _ (s : Ashore) where
    -- the mark that counts
    same_touched : (j : ℕ) → touched s (network (remarked g k x)) j ≡ touched s (network g) j
    same_touched j = unfold network remarked in refl

    over_there : touched s (network g) k ≡ false → mark_over s (network (remarked g k x)) k ≡ mark_of x
    over_there e =
        ap (λ (b : Bool). cond b excluded ((network (remarked g k x)).mark k)) (same_touched k ∙ e) ∙ mark_there

    over_else : (j : ℕ) → j ∈ up_to g.m → ¬ (j ≡ k) → mark_over s (network (remarked g k x)) j ≡ mark_over s (network g) j
    over_else j m other = ap₂ (λ (b : Bool) (y : Mark). cond b excluded y) (same_touched j) (mark_else j m other)

    -- ---- the 1-trees of the copy

    module _ (is_free_lem : mark_over s (network g) k ≡ free) (t : Edges) where
      untouched : touched s (network g) k ≡ false
      untouched = go (touched s (network g) k) is_free_lem
        where
          go : (b : Bool) → cond b excluded ((network g).mark k) ≡ free → b ≡ false
          go true e = absurd (let z : ◌≡◌ {A = ℕ} 0 1 = cc in omega arith)
          go false e = refl

      -- a 1-tree of the graph that agrees with the new mark is one of the copy
      of_copy : OneTreeOver s (network g) t → (mark_of x ≡ required → t k ≡ true) → (mark_of x ≡ excluded → t k ≡ false)
          → OneTreeOver s (network (remarked g k x)) t
      unfolding network remarked at_one away others_over active_count
      of_copy o in_it out_of_it = record {
        two = o.two;
        rest = o.rest;
        joined = o.joined;
        keeps = λ j m e. by_edge j (λ s₀. rw s₀ (in_it (sym (over_there untouched) ∙ (subst (λ (i : ℕ). mark_over s (network (remarked g k x)) i ≡ required) s₀ e))))
            (λ s₀. o.keeps j m (sym (over_else j m s₀) ∙ e));
        avoids = λ j m e. by_edge j (λ s₀. rw s₀ (out_of_it (sym (over_there untouched) ∙ (subst (λ (i : ℕ). mark_over s (network (remarked g k x)) i ≡ excluded) s₀ e))))
            (λ s₀. o.avoids j m (sym (over_else j m s₀) ∙ e));
      }
        where
          by_edge : {A : Type 0} (j : ℕ) → ((j ≡ k) → A) → (¬ (j ≡ k) → A) → A
          by_edge j f h = by_cases (eqb j k) (λ e. f (eqb-true j k e)) (λ e. h (eqb-false j k e))

      -- a 1-tree of the copy is one of the graph, and agrees with the new mark
      of_graph : OneTreeOver s (network (remarked g k x)) t → OneTreeOver s (network g) t
      unfolding network remarked at_one away others_over active_count
      of_graph o = record {
        two = o.two;
        rest = o.rest;
        joined = o.joined;
        keeps = λ j m e. o.keeps j m (over_else j m (λ q. not_required (sym is_free_lem ∙ subst (λ (i : ℕ). mark_over s (network g) i ≡ required) q e)) ∙ e);
        avoids = λ j m e. o.avoids j m (over_else j m (λ q. not_excluded (sym is_free_lem ∙ subst (λ (i : ℕ). mark_over s (network g) i ≡ excluded) q e)) ∙ e);
      }
        where
          not_required : free ≡ required → ⊥
          not_required e = let z : ◌≡◌ {A = ℕ} 0 1 = cc in omega arith

          not_excluded : free ≡ excluded → ⊥
          not_excluded e = let z : ◌≡◌ {A = ℕ} 0 1 = cc in omega arith

      here : k ∈ up_to (network (remarked g k x)).m
      here = unfold network remarked in up_to_in g.m k least most

      has_it : mark_of x ≡ required → OneTreeOver s (network (remarked g k x)) t → t k ≡ true
      has_it e o = o.keeps k here (over_there untouched ∙ e)

      lacks_it : mark_of x ≡ excluded → OneTreeOver s (network (remarked g k x)) t → t k ≡ false
      lacks_it e o = o.avoids k here (over_there untouched ∙ e)

    same-bound : (den : ℕ) (d : ℕ → ℤ) (t : Edges)
        → bound_over s (scaled_by den (network (remarked g k x))) d t ≡ bound_over s (scaled_by den (network g)) d t
    same-bound den d t = unfold network remarked bound_over bound charge in refl

-- ---- the copy is infeasible exactly when the edge is barred, or forced

module _ (g : Graph) (k : ℕ) (long : length g.mark ≡ max_edges) (valid : Valid g) (least : 1 ≤ k) (most : k ≤ g.m) (s : Ashore)
    (is_free_lem : mark_over s (network g) k ≡ free) (den : ℕ) (d : ℕ → ℤ) (ceiling : ℤ) where
  -- 1-trees do not go by costs
  of_scaled : (t : Edges) → OneTreeOver s (scaled_by den (network g)) t → OneTreeOver s (network g) t
  of_scaled t o = (tree_over_scaled den s (network g) t).0 o

  copy_of_scaled : (x : ℕ) (t : Edges) → OneTreeOver s (scaled_by den (network (remarked g k x))) t → OneTreeOver s (network (remarked g k x)) t
  copy_of_scaled x t o = (tree_over_scaled den s (network (remarked g k x)) t).0 o

  pub required_barred : InfeasibleOver s (scaled_by den (network (remarked g k 1))) d ceiling ↔ BarredOver s (scaled_by den (network g)) d ceiling k
  unfolding InfeasibleOver BarredOver mark_of
  required_barred = (
    λ i t o e. rw (← same-bound g k 1 long valid least most s den d t)
        (i t ((tree_over_scaled den s (network (remarked g k 1)) t).1
        (of_copy g k 1 long valid least most s is_free_lem t (of_scaled t o) (λ q. e) (λ q. absurd (let z : ◌≡◌ {A = ℕ} 0 1 = cc in omega arith))))),
    λ b t o. rw (same-bound g k 1 long valid least most s den d t)
        (b t ((tree_over_scaled den s (network g) t).1 (of_graph g k 1 long valid least most s is_free_lem t (copy_of_scaled 1 t o)))
        (has_it g k 1 long valid least most s is_free_lem t refl (copy_of_scaled 1 t o))),
  )

  pub excluded_forced : InfeasibleOver s (scaled_by den (network (remarked g k 2))) d ceiling ↔ ForcedOver s (scaled_by den (network g)) d ceiling k
  unfolding InfeasibleOver ForcedOver mark_of
  excluded_forced = (
    λ i t o e. rw (← same-bound g k 2 long valid least most s den d t)
        (i t ((tree_over_scaled den s (network (remarked g k 2)) t).1
        (of_copy g k 2 long valid least most s is_free_lem t (of_scaled t o) (λ q. absurd (let z : ◌≡◌ {A = ℕ} 0 1 = cc in omega arith)) (λ q. e)))),
    λ f t o. rw (same-bound g k 2 long valid least most s den d t)
        (f t ((tree_over_scaled den s (network g) t).1 (of_graph g k 2 long valid least most s is_free_lem t (copy_of_scaled 2 t o)))
        (lacks_it g k 2 long valid least most s is_free_lem t refl (copy_of_scaled 2 t o))),
  )

-- ---- the copy is no worse a chart

set_most : (l : List ℕ) (i j x most : ℕ) → x ≤ most → get_or l j 0 ≤ most → get_or (set l i x) j 0 ≤ most
set_most [] i j x most h e = e
set_most (y ∷ ys) zero zero x most h e = h
set_most (y ∷ ys) zero (suc j) x most h e = e
set_most (y ∷ ys) (suc i) zero x most h e = e
set_most (y ∷ ys) (suc i) (suc j) x most h e = set_most ys i j x most h e

remarked-valid : (g : Graph) (k x : ℕ) → x ≤ max_mark → Valid g → Valid (remarked g k x)
unfolding remarked
remarked-valid g k x h v = record {
  low = v.low;
  high = v.high;
  few = v.few;
  each = λ j l. let e = v.each j l in
      record {
        from = e.from;
        less = e.less;
        to = e.to;
        range = e.range;
        known = set_most g.mark (k - 1) j x max_mark h e.known;
      };
  once = λ i j l m s. v.once i j l m (record { a = s.a; b = s.b });
}

-- ---- the call

abbrev Markable : Graph → ℕ → ℕ → Type 0
Markable g k mark = (1 ≤ k) × (k ≤ g.m) × ((mark ≡ 1) ⊎ (mark ≡ 2))

markable : (g : Graph) (k mark : ℕ) → Says (can_be_marked g k mark) (Markable g k mark)
markable g k mark = decides (can_be_marked g k mark) to from
  where
    one_of : (b c : Bool) → eqb mark 1 ≡ b → eqb mark 2 ≡ c → b || c ≡ true → (mark ≡ 1) ⊎ (mark ≡ 2)
    one_of true c e f h = inl (eqb-true mark 1 e)
    one_of false true e f h = inr (eqb-true mark 2 f)
    one_of false false e f h = absurd (false≢true h)

    to : can_be_marked g k mark ≡ true → Markable g k mark
    to e =
        let b = and_both (leb 1 k && leb k g.m) (eqb mark 1 || eqb mark 2) e in
        let c = and_both (leb 1 k) (leb k g.m) b.0 in
        (leb-true 1 k c.0, leb-true k g.m c.1, one_of (eqb mark 1) (eqb mark 2) refl refl b.1)

    from : Markable g k mark → can_be_marked g k mark ≡ true
    from f = rw (le-leb 1 k f.0, le-leb k g.m f.1) (go f.2)
      where
        go : (mark ≡ 1) ⊎ (mark ≡ 2) → eqb mark 1 || eqb mark 2 ≡ true
        go (inl e) = rw (eq-eqb mark 1 e)
        go (inr e) = rw (e)

module _ (g : Graph) (d : List ℤ) (l : List ℕ) (den k mark : ℕ) (len : ℕ) where
  preview_tests : Tests (preview_asks g d l den k mark len)
  preview_tests = (
    value.valid g,
    graphs g,
    omega arith,
    (
      lengths_fit g d l len,
      lengths g d l len,
      omega arith,
      (
        multipliers_fit d,
        multipliers d,
        omega arith,
        (
          denominator_fits den,
          denominators den,
          omega arith,
          (
            ashore_fits l g.n,
            ashores l g.n,
            omega arith,
            (
              can_be_marked g k mark,
              markable g k mark,
              omega arith,
              (is_free_edge g k, decides (is_free_edge g k) (eqb-true _ 0) (eq-eqb _ 0), omega arith, tt),
            ),
          ),
        ),
      ),
    ),
  )

  five : (a b c e f : Bool) (left : ℕ)
      → or_else (cond (not a) 15 (cond (not b) 11 (cond (not c) 12 (or_else (cond (not e) 32 0) (cond (not f) 35 0))))) left
      ≡ cond (not a) 15 (cond (not b) 11 (cond (not c) 12 (cond (not e) 32 (cond (not f) 35 left))))
  five false b c e f left = refl
  five true false c e f left = refl
  five true true false e f left = refl
  five true true true false f left = refl
  five true true true true false left = refl
  five true true true true true left = refl

  preview_fault_lem : preview_fault g d l den k mark len ≡ fault_by (preview_asks g d l den k mark len) preview_tests
  unfolding preview_fault tree_fault_over input_fault_over denominator_fault ashore_fault preview_tests fault_by
  preview_fault_lem =
      five (value.valid g) (lengths_fit g d l len) (multipliers_fit d) (denominator_fits den) (ashore_fits l g.n) (edge_fault g k mark)

  pub copy_fine : Fine (preview_asks g d l den k mark len) → Fine (tree_asks (remarked g k mark) d l den len)
  unfolding remarked
  copy_fine f = (
    remarked-valid g k mark (go f.1.1.1.1.1.0.2) f.0,
    (record { multipliers = f.1.0.multipliers; listed = f.1.0.listed; lent = f.1.0.lent }, (f.1.1.0, (f.1.1.1.0, (f.1.1.1.1.0, tt)))),
  )
    where
      go : (mark ≡ 1) ⊎ (mark ≡ 2) → mark ≤ max_mark
      go (inl e) = omega (arith, e)
      go (inr e) = omega (arith, e)

module _ (g : Graph) (d : List ℤ) (l : List ℕ) (den k mark : ℕ) (out : List ℕ) where
  fine_of : preview_fault g d l den k mark (length out) ≡ 0 → Fine (preview_asks g d l den k mark (length out))
  fine_of z = (fault_none (preview_asks g d l den k mark (length out)) (preview_tests g d l den k mark (length out))).0 (sym (preview_fault_lem g d l den k mark (length out)) ∙ z)

  fault_of : Fine (preview_asks g d l den k mark (length out)) → preview_fault g d l den k mark (length out) ≡ 0
  fault_of f = preview_fault_lem g d l den k mark (length out) ∙ (fault_none (preview_asks g d l den k mark (length out)) (preview_tests g d l den k mark (length out))).1 f

  copy_answers : preview_fault g d l den k mark (length out) ≡ 0 → NoRefusal (tree_reply_over (remarked g k mark) d l den (length out))
  copy_answers z e p h =
      none_is_wrong (tree_asks (remarked g k mark) d l den (length out)) (copy_fine g d l den k mark (length out) (fine_of z)) e (((tree_exactly (remarked g k mark) d l den out).refuses e p).0 h).0
    where
      none_is_wrong : (xs : List Asked) → Fine xs → (e : ℕ) → First xs e → ⊥
      none_is_wrong [] f e h = h
      none_is_wrong (x ∷ xs) f e (inl h) = h.0 f.0
      none_is_wrong (x ∷ xs) f e (inr h) = none_is_wrong xs f.1 e h.1

  pub preview_exactly : PreviewExactly g d l den k mark out
  unfolding preview_reply preview_leaves
  preview_exactly = record {
    refuses =
        refuses_exactly (tree_reply_over (remarked g k mark) d l den (length out)) (preview_fault g d l den k mark (length out)) copy_answers
        (preview_asks g d l den k mark (length out)) (preview_tests g d l den k mark (length out)) (preview_fault_lem g d l den k mark (length out));
    refusal_leaves = λ e p f. go (preview_fault g d l den k mark (length out)) (first-number e f);
    as_tree = λ f. (rw (fault_of f), rw (fault_of f), copy_fine g d l den k mark (length out) f);
  }
    where
      first-number : (e : ℕ) → First (preview_asks g d l den k mark (length out)) e → 0 < preview_fault g d l den k mark (length out)
      first-number e f =
          let b = first-fault (preview_asks g d l den k mark (length out)) (preview_tests g d l den k mark (length out)) e f in
          omega (arith, preview_fault_lem g d l den k mark (length out), b.0, b.1)

      go : (f : ℕ) → 0 < f → leaves f out (tree_leaves_over (remarked g k mark) d l den out) ≡ out
      go zero h = absurd (let z : suc 0 ≤ 0 = h in omega arith)
      go (suc f) h = refl

-- ---- of an edge that touches a vertex ashore

module _ (g : Graph) (k x : ℕ) (long : length g.mark ≡ max_edges) (valid : Valid g) (least : 1 ≤ k) (most : k ≤ g.m) (s : Ashore)
    (e : touched s (network g) k ≡ true) where
  -- no mark that counts is another
  same_mark : (j : ℕ) → mark_over s (network (remarked g k x)) j ≡ mark_over s (network g) j
  same_mark j = by_cases (eqb j k) (λ i. at_it (eqb-true j k i)) (λ i. off_it j (eqb-false j k i))
    where
      at_it : j ≡ k → mark_over s (network (remarked g k x)) j ≡ mark_over s (network g) j
      at_it i =
          subst (λ (z : ℕ). mark_over s (network (remarked g k x)) z ≡ mark_over s (network g) z) (sym i)
          (ap (λ (b : Bool). cond b excluded ((network (remarked g k x)).mark k)) (same_touched g k x long valid least most s k ∙ e)
          ∙ sym (ap (λ (b : Bool). cond b excluded ((network g).mark k)) e))

      past : (j : ℕ) → (network (remarked g k x)).mark j ≡ (network g).mark j → mark_over s (network (remarked g k x)) j ≡ mark_over s (network g) j
      past j h = ap₂ (λ (b : Bool) (y : Mark). cond b excluded y) (same_touched g k x long valid least most s j) h

      off_it : (j : ℕ) → ¬ (j ≡ k) → mark_over s (network (remarked g k x)) j ≡ mark_over s (network g) j
      off_it zero n = past zero (unfold network remarked in ap mark_of (place_zero 0 g.m (set g.mark (k - 1) x) ∙ sym (place_zero 0 g.m g.mark)))
      off_it (suc j) n = go (dec_le (suc j) g.m)
        where
          go : Dec (j < g.m) → mark_over s (network (remarked g k x)) (suc j) ≡ mark_over s (network g) (suc j)
          go (yes b) = over_else g k x long valid least most s (suc j) (up_to_in g.m (suc j) (omega arith) b) n
          go (no b) =
              past (suc j) (unfold network remarked in ap mark_of (place_past 0 g.m (set g.mark (k - 1) x) j (omega arith)
              ∙ sym (place_past 0 g.m g.mark j (omega arith))))

  -- so there is one tree
  pub same_tree : (q : ℕ) (d : ℕ → ℤ) → tree_over s (scaled_by q (network (remarked g k x))) d ≡ tree_over s (scaled_by q (network g)) d
  unfolding tree_over one_trees_over is_one_tree_over network remarked at_one away others_over
  same_tree q d = λ i.
      least_of (scaled_by q (network g)) (multiplier_over s d)
      (select (λ t.
      eqb (length (at_one (network g) t)) 2
      && eqb (2 + length (away (network g) t)) (active_count s g.n)
      && every_of (λ j. marked (same_mark j i) (t j)) (up_to g.m)
      && alike (label (network g).a (network g).b (away (network g) t)) (others_over s (network g)))
      (edge_sets g.m))
