-- DOCUMENT 01'S OPENING OF A NODE OBEYS THE THREE LAWS of branch and bound, with lifting and without, whatever the multipliers, sweeps and step.
use Rattle.std.specs.Prelude.{◌≡◌, Bool, cond, List, get_or, set, ℤ, ◌≤ℤ◌, ◌<ℤ◌}
use Rattle.std.proofs.Math.Path.{refl, sym, subst}
use Rattle.std.proofs.Common.{◌∙◌, inl, inr, true≢false, arith, get_or-set_same, get_or-set_other}
use Rattle.std.proofs.Math.Bool.{true, false}
use Prim.Native.Nat.{ℕ, zero, suc, ◌<◌}
use Rattle.std.proofs.Math.Decide.{ℕ_discrete}
use Rattle.std.proofs.Math.Dec.{ltb}
use Rattle.std.proofs.Math.ListN.{length}
use Rattle.std.specs.Int.Signed.{lt_z, <ℤ-≤ℤ_trans}
use borrow.Author.Tests.{ltb-true, ltb-false}
use Rattle.lists.specs.Bools.{by_cases}
use Rattle.lists.specs.Rows.{row, row_at}
use Rattle.integers.specs.Order.{le_lt_clash, test_lt, test_not_lt}
use Rattle.graph.specs.Network.{Network, Mark, free, required, excluded}
use Rattle.tree_theory.specs.OneTree.{Edges, Least, bound, lacks_first}
use Rattle.tree_theory.specs.Agree.{Agree, lacks_second}
use Rattle.tree_theory.specs.Inputs.{multiplier}
use Rattle.tree_theory.specs.Enumeration.{Tree, no_tree, a_tree, least_tree}
use Rattle.tree_theory.specs.LeastTree.{Right, tree_right}
use Rattle.tree_theory.specs.Valid.{Valid, is_free}
use Rattle.tree_theory.specs.Arrays.{edge_of}
use Rattle.tours.specs.Tours.{Tour, Allowed, cost, is_tour}
use Rattle.machine.specs.Outcomes.{closes, finds, splits}
use Rattle.machine.specs.Machine.{Marks, node_of, with_marks, applied, Pass, shut, found, unclosed, pass_by, pass, Opened, first_free}
use Rattle.machine.specs.Machine.{branch}
use Rattle.machine.specs.Machine.{concluded, passes, gained, edges_of}
use Rattle.machine.specs.Laws.BranchAndBound.{Lawful, narrowed}
use Rattle.tours.specs.TourTest.{test_tour, tour_test}
use Rattle.machine.specs.Laws.Branching.{first_free_lem, first-before, frees-set}
use Rattle.machine.specs.Laws.NodeTours.{Agrees, Inside, Before, tour_agree, cost_agree, tour_marks, marks_tour}
use Rattle.machine.proofs.NodeTours.{tours}
use Rattle.machine.specs.Laws.NodeTours.{allowed_at, at-allowed, applied-length, inside-tree, cost-bound}
use Rattle.machine.proofs.Applied.{tree_agrees, ruled_keeps, ruled_of, ruled-frees}
use Rattle.machine.specs.Laws.Openings.{row_edges}

module _ (g : Network) (vg : Valid g) (upper : ℤ) where
  -- whatever the node's multipliers are
  abbrev pub Law : Marks → Opened → Type 0
  Law x out = (d : List ℤ) → Lawful (tours g) upper (node_of d x) out

  -- ---- a found tour

  found_law : (x : Marks) (t : Edges) → Inside g t x → cost g t ≤ℤ upper → ((s : Edges) → Inside g s x → cost g t ≤ℤ cost g s)
      → ((s : Edges) → Inside g s x → cost g s ≡ cost g t → lacks_first g.m s t ≡ false)
      → Law x (finds (row g.m t))
  found_law x t i l least first d = record {
    inside = record {
      tour = tour_agree g kept t same i.tour;
      allowed = at-allowed g kept x (λ j h. rw (at j h) (allowed_at g t x i.allowed j h));
    };
    within = rw cost-same l;
    least = λ s j k. none s j k;
  }
    where
      kept : Edges
      kept = edges_of (row g.m t)

      same : Agree g.m (edges_of (row g.m t)) t
      same = row_edges g.m t

      cost-same : cost g (edges_of (row g.m t)) ≡ cost g t
      cost-same = cost_agree g kept t same

      at : (j : ℕ) → j < g.m → edges_of (row g.m t) (suc j) ≡ t (suc j)
      at j h = unfold edges_of in row_at g.m t j false h

      none : (s : Edges) → Inside g s x → Before g s (edges_of (row g.m t)) → ⊥
      none s j (inl k) = le_lt_clash (cost g t) (cost g s) (least s j) (subst (λ (z : ℤ). cost g s <ℤ z) cost-same k)
      none s j (inr k) =
          true≢false (sym k.1 ∙ lacks_second g.m s (edges_of (row g.m t)) t same ∙ first s j (k.0 ∙ cost-same))

  -- ---- the branch after the last pass

  -- a node at which a split is: edge k + 1 is free
  module _ (y : Marks) (full : length y ≡ g.m) (k : ℕ) (listed : k < length y) (is_free_lem : get_or y k free ≡ free) where
    -- the node with that edge marked otherwise
    set_at : (x : Mark) (t : Edges) → Inside g t y → Agrees x (t (suc k)) → Inside g t (set y k x)
    set_at x t i a = record { tour = i.tour; allowed = at-allowed g t (set y k x) (λ j h. go j h (ℕ_discrete j k)) }
      where
        go : (j : ℕ) → j < g.m → Dec (j ≡ k) → Agrees (get_or (set y k x) j free) (t (suc j))
        go j h (yes e) = rw (e, get_or-set_same y k x free listed) a
        go j h (no e) = rw (get_or-set_other y k j x free e) (allowed_at g t y i.allowed j h)

    set_of_lem : (x : Mark) (t : Edges) → Inside g t (set y k x) → Inside g t y
    set_of_lem x t i = record { tour = i.tour; allowed = at-allowed g t y (λ j h. go j h (ℕ_discrete j k)) }
      where
        go : (j : ℕ) → j < g.m → Dec (j ≡ k) → Agrees (get_or y j free) (t (suc j))
        go j h (yes e) = rw (e, is_free_lem) tt
        go j h (no e) = rw (get_or-set_other y k j x free e) at (allowed_at g t (set y k x) i.allowed j h)

    split_law : (d : List ℤ) → Law y (splits (node_of d (set y k excluded)) (node_of d (set y k required)))
    split_law d e = record {
      loses = λ t i l. by_cases (t (suc k)) (λ e. inr (set_at required t i e)) (λ e. inl (set_at excluded t i e));
      of_out = set_of_lem excluded;
      of_into = set_of_lem required;
      smaller_out = omega (arith, frees-set y k excluded listed is_free_lem refl);
      smaller_into = omega (arith, frees-set y k required listed is_free_lem refl);
    }

  both_agree : (x : Mark) (u v : Bool) → is_free x ≡ false → Agrees x u → Agrees x v → u ≡ v
  both_agree free u v ne h k = absurd (true≢false ne)
  both_agree required u v ne h k = h ∙ sym k
  both_agree excluded u v ne h k = h ∙ sym k

  -- with no free edge left, two sets that the marks allow are one
  no_free : (y : Marks) → ((j : ℕ) → j < g.m → is_free (get_or y j free) ≡ false) → (s t : Edges)
      → Allowed (with_marks g y) s → Allowed (with_marks g y) t → Agree g.m s t
  no_free y none s t as_s as_t k m = go (edge_of g.m k m)
    where
      go : (j : ℕ) × (j < g.m) × (k ≡ suc j) → s k ≡ t k
      go r =
          rw r.2 (both_agree (get_or y r.0 free) (s (suc r.0)) (t (suc r.0)) (none r.0 r.1)
          (allowed_at g s y as_s r.0 r.1) (allowed_at g t y as_t r.0 r.1))

  -- t is a set that the marks allow and no tour, the last pass's tree: so a node without free edges has no tour
  branch_law : (d : List ℤ) (y : Marks) → length y ≡ g.m → (t : Edges) → Allowed (with_marks g y) t → ¬ Tour g t → Law y (branch d y)
  unfolding branch
  branch_law d y full t al not_tour = by_cases (ltb (first_free y) (length y)) some none
    where
      some : ltb (first_free y) (length y) ≡ true → Law y (branch d y)
      some e =
          let l : first_free y < length y = ltb-true (first_free y) (length y) e in
          rw e (split_law y full (first_free y) l (first_free_lem y l) d)

      none : ltb (first_free y) (length y) ≡ false → Law y (branch d y)
      none e = rw e (λ c s i l. not_tour (tour_agree g t s (no_free y before t s al i.allowed) i.tour))
        where
          before : (j : ℕ) → j < g.m → is_free (get_or y j free) ≡ false
          before j h = first-before y j (omega (arith, ltb-false (first_free y) (length y) e, full))

  -- ---- one pass, of the node x under the multipliers d

  module _ (lifting : Bool) (d : ℕ → ℤ) (x : Marks) where
    after : Marks
    after = applied lifting (with_marks g x) d upper

    -- what holds of what a pass comes to
    abbrev Passed : Pass → Type 0
    Passed shut = Law x closes
    Passed (found t) = Law x (finds (row g.m t))
    Passed (unclosed t y) = (y ≡ after) × Allowed (with_marks g after) t × (¬ Tour g t)

    -- the least 1-tree's bound is no greater than a tour's cost
    least_cost : (t : Edges) → Least (with_marks g x) d t → (s : Edges) → Inside g s x → bound (with_marks g x) d t ≤ℤ cost g s
    least_cost t l s i =
        subst (λ (z : ℤ). bound (with_marks g x) d t ≤ℤ z) (cost-bound g vg x s i.tour d) (l.least s (inside-tree g vg x s i))

    pass_right : (r : Tree) → least_tree (with_marks g x) d ≡ r → Right (with_marks g x) d r → Passed (pass_by lifting (with_marks g x) d upper r)
    unfolding pass_by after
    pass_right no_tree p h = λ c t i l. h t (inside-tree g vg x t i)
    pass_right (a_tree b t) p h = first (lt_z upper b) refl
      where
        second : (v : Bool) → is_tour (with_marks g x) t ≡ v → b ≤ℤ upper
            → Passed (cond v (found t) (unclosed t after))
        second true e l =
            found_law x t (record { tour = o; allowed = record { keeps = h.1.tree.keeps; avoids = h.1.tree.avoids } })
            (subst (λ (z : ℤ). z ≤ℤ upper) (h.0 ∙ same) l) (λ s i. subst (λ (z : ℤ). z ≤ℤ cost g s) same (least_cost t h.1 s i))
            (λ s i f. unfold with_marks in h.1.first s (inside-tree g vg x s i) (cost-bound g vg x s i.tour d ∙ f ∙ sym same))
          where
            o : Tour g t
            o = marks_tour g x t (test_tour (with_marks g x) t e)

            same : bound (with_marks g x) d t ≡ cost g t
            same = cost-bound g vg x t (marks_tour g x t (test_tour (with_marks g x) t e)) d
        second false e l = (
          refl,
          tree_agrees g vg x lifting d upper b t p l,
          λ o. true≢false (sym (tour_test (with_marks g x) t (tour_marks g x t o)) ∙ e),
        )

        first : (v : Bool) → lt_z upper b ≡ v → Passed (cond v shut (cond (is_tour (with_marks g x) t) (found t) (unclosed t after)))
        first true e =
            λ c s i l. le_lt_clash (cost g s) upper l
            (<ℤ-≤ℤ_trans (test_lt upper b e) (subst (λ (z : ℤ). z ≤ℤ cost g s) (sym h.0) (least_cost t h.1 s i)))
        first false e = second (is_tour (with_marks g x) t) refl (test_not_lt upper b e)

    -- a pass and what follows it, lawful of the marks after the rulings, are lawful of the node
    concluded_law : length x ≡ g.m → (otherwise : Edges → Marks → Opened)
        → ((t : Edges) (y : Marks) → length y ≡ g.m → Allowed (with_marks g y) t → ¬ Tour g t → Law y (otherwise t y))
        → Law x (concluded g.m (pass lifting (with_marks g x) d upper) otherwise)
    unfolding pass after
    concluded_law full otherwise later =
        go (pass lifting (with_marks g x) d upper) (pass_right (least_tree (with_marks g x) d) refl (tree_right (with_marks g x) d))
      where
        go : (p : Pass) → Passed p → Law x (concluded g.m p otherwise)
        go shut h = h
        go (found t) h = h
        go (unclosed t y) h =
            subst (λ (z : Marks). Law x (otherwise t z)) (sym h.0)
            (λ c. narrowed (tours g) upper (node_of c x) (node_of c after) (ruled_keeps g vg x lifting d upper)
            (ruled_of g vg x lifting d upper) (ruled-frees g vg x lifting d upper full)
            (otherwise t after) (later t after (unfold with_marks in applied-length lifting (with_marks g x) d upper) h.1 h.2 c))

  -- ---- all passes

  pub passes_law : (lifting : Bool) (step left : ℕ) (d : List ℤ) (x : Marks) → length x ≡ g.m → Law x (passes lifting g step upper left d x)
  unfolding passes
  passes_law lifting step zero d x full =
      concluded_law lifting (multiplier d) x full (λ t y. branch d y) (λ t y l al n. branch_law d y l t al n)
  passes_law lifting step (suc left) d x full =
      concluded_law lifting (multiplier d) x full (λ t y. passes lifting g step upper left (gained g step t d) y)
      (λ t y l al n. passes_law lifting step left (gained g step t d) y l)
