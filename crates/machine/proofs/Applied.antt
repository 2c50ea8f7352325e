-- THE RULINGS OF A PASS, lifted or not, lose no tour within the upper bound, bring in none, free no edge and leave every required one so; and the
-- pass's own tree agrees with them. For a tour's bound is its cost under any multipliers, and lifting bars only outside that tree and forces only in it.
-- Without lifting every 1-tree within the bound agrees. Assumes nothing.
use Rattle.std.specs.Prelude.{◌≡◌, Bool, ◌∷◌, length, ℤ, ◌≤ℤ◌}
use Rattle.std.proofs.Math.Path.{refl, ap, subst}
use Rattle.std.proofs.Common.{sym, ◌∙◌}
use Rattle.std.proofs.Math.Bool.{true, false}
use Prim.Native.Nat.{ℕ, suc, ◌≤◌, ◌<◌}
use Rattle.std.proofs.Math.ListN.{get_or}
use Rattle.lists.specs.Bools.{by_cases}
use Rattle.lists.specs.Members.{◌∈◌}
use Rattle.lists.specs.Numbers.{up_to}
use Rattle.lists.specs.Rows.{row_at}
use Rattle.integers.specs.Order.{le_lt_clash}
use Rattle.graph.specs.Network.{Network, Mark, free, required, excluded}
use Rattle.tree_theory.specs.OneTree.{Edges, OneTree, bound, Barred, Forced}
use Rattle.tree_theory.specs.Enumeration.{a_tree, least_tree, barred_b, forced_b, Ruling, forces, bars, ruled, ruling}
use Rattle.tree_theory.specs.Decide.{barred_test, forced_test}
use Rattle.tree_theory.specs.LeastTree.{Right, tree_right}
use Rattle.tree_theory.specs.Valid.{Valid}
use Rattle.tree_theory.specs.Arrays.{of_edge}
use Rattle.tours.specs.Tours.{Allowed, cost}
use Rattle.lifting.specs.Lifted.{ruling_with}
use Rattle.lifting.specs.Rulings.{is_bars, is_forces, is_bars_lem, is_forces_lem, as_ruled, unlifted}
use Rattle.lifting.proofs.Rulings.{tour_out, tour_in, tree_out, tree_in}
use Rattle.machine.specs.Machine.{Marks, with_marks, frees, mark_by, applied}
use Rattle.machine.specs.Laws.Branching.{row-marks, frees-fewer}
use Rattle.machine.specs.Laws.NodeTours.{Agrees, Inside, allowed_at, at-allowed, tour_marks, valid-marks}
use Rattle.machine.specs.Requireds.{requireds, requireds-more}

-- ---- an edge's mark once its ruling is applied

agrees_ruled : (x : Mark) (b f v : Bool) → Agrees x v → (b ≡ true → v ≡ false) → (f ≡ true → v ≡ true) → Agrees (mark_by (ruled x b f)) v
agrees_ruled required b f v h p q = h
agrees_ruled excluded b f v h p q = h
agrees_ruled free true f v h p q = p refl
agrees_ruled free false true v h p q = q refl
agrees_ruled free false false v h p q = tt

ruled_agrees : (x : Mark) (b f v : Bool) → Agrees (mark_by (ruled x b f)) v → Agrees x v
ruled_agrees required b f v h = h
ruled_agrees excluded b f v h = h
ruled_agrees free b f v h = tt

ruled_free : (x : Mark) (b f : Bool) → mark_by (ruled x b f) ≡ free → x ≡ free
ruled_free required b f h = h
ruled_free excluded b f h = h
ruled_free free b f h = refl

excluded_ruled : (x : Mark) (b f : Bool) → x ≡ excluded → mark_by (ruled x b f) ≡ excluded
excluded_ruled x b f h = rw h

required_ruled : (x : Mark) (b f : Bool) → x ≡ required → mark_by (ruled x b f) ≡ required
required_ruled x b f h = rw h

-- ---- all marks

module _ (g : Network) (vg : Valid g) (x : Marks) (lifting : Bool) (d : ℕ → ℤ) (upper : ℤ) where
  -- the node's mark and the ruling of edge j + 1, and whether that bars or forces it
  m : ℕ → Mark
  m j = get_or x j free

  r : ℕ → Ruling
  r j = ruling_with lifting (with_marks g x) d upper (suc j)

  applied-at : (j : ℕ) → j < g.m → get_or (applied lifting (with_marks g x) d upper) j free ≡ mark_by (ruled (m j) (is_bars (r j)) (is_forces (r j)))
  unfolding applied with_marks m r
  applied-at j h =
      row_at g.m (λ k. mark_by (ruling_with lifting (with_marks g x) d upper k)) j free h
      ∙ ap mark_by (as_ruled lifting (with_marks g x) d upper (suc j))

  -- a set that the node's marks allow, that lacks each edge barred and has each forced, agrees with the rulings
  agreeing : (t : Edges) → Allowed (with_marks g x) t → ((j : ℕ) → j < g.m → r j ≡ bars → t (suc j) ≡ false)
      → ((j : ℕ) → j < g.m → r j ≡ forces → t (suc j) ≡ true) → Allowed (with_marks g (applied lifting (with_marks g x) d upper)) t
  unfolding m
  agreeing t own out into = at-allowed g t (applied lifting (with_marks g x) d upper) (λ j h. rw (applied-at j h) (at j h))
    where
      at : (j : ℕ) → j < g.m → Agrees (mark_by (ruled (m j) (is_bars (r j)) (is_forces (r j)))) (t (suc j))
      at j h =
          agrees_ruled (m j) (is_bars (r j)) (is_forces (r j)) (t (suc j)) (allowed_at g t x own j h)
          (λ e. out j h (is_bars_lem (r j) e)) (λ e. into j h (is_forces_lem (r j) e))

  listed : (j : ℕ) → j < g.m → suc j ∈ up_to (with_marks g x).m
  listed j h = unfold with_marks in of_edge g.m j h

  -- THE PASS'S TREE agrees with the rulings, where it is within the upper bound
  pub tree_agrees : (c : ℤ) (t : Edges) → least_tree (with_marks g x) d ≡ a_tree c t → c ≤ℤ upper
      → Allowed (with_marks g (applied lifting (with_marks g x) d upper)) t
  unfolding r
  tree_agrees c t is l =
      let o = (subst (Right (with_marks g x) d) is (tree_right (with_marks g x) d)).1.tree in
      agreeing t (record { keeps = o.keeps; avoids = o.avoids })
      (λ j h. tree_out (with_marks g x) d upper (suc j) (listed j h) lifting c t is l)
      (λ j h. tree_in (with_marks g x) d upper (suc j) (listed j h) lifting c t is l)

  -- THE RULINGS LOSE NO TOUR within the upper bound
  pub ruled_keeps : (t : Edges) → Inside g t x → cost g t ≤ℤ upper → Inside g t (applied lifting (with_marks g x) d upper)
  unfolding r
  ruled_keeps t i l = record {
    tour = i.tour;
    allowed =
        agreeing t i.allowed
        (λ j h. tour_out (with_marks g x) d upper (suc j) (listed j h) (valid-marks g x vg) lifting t (tour_marks g x t i.tour) i.allowed same)
        (λ j h. tour_in (with_marks g x) d upper (suc j) (listed j h) (valid-marks g x vg) lifting t (tour_marks g x t i.tour) i.allowed same);
  }
    where
      same : cost (with_marks g x) t ≤ℤ upper
      same = unfold cost with_marks in l

  -- bring in none,
  pub ruled_of : (t : Edges) → Inside g t (applied lifting (with_marks g x) d upper) → Inside g t x
  unfolding m
  ruled_of t i = record { tour = i.tour; allowed = at-allowed g t x (λ j h. at j h) }
    where
      at : (j : ℕ) → j < g.m → Agrees (m j) (t (suc j))
      at j h =
          ruled_agrees (m j) (is_bars (r j)) (is_forces (r j)) (t (suc j))
          (subst (λ (z : Mark). Agrees z (t (suc j))) (applied-at j h)
          (allowed_at g t (applied lifting (with_marks g x) d upper) i.allowed j h))

  -- and free none
  pub ruled-frees : length x ≡ g.m → frees (applied lifting (with_marks g x) d upper) ≤ frees x
  unfolding applied with_marks m r
  ruled-frees e =
      subst (λ (z : Marks). frees (applied lifting (with_marks g x) d upper) ≤ frees z) (row-marks g.m x e)
      (frees-fewer g.m (λ k. mark_by (ruling_with lifting (with_marks g x) d upper k)) (λ k. get_or (free ∷ x) k free)
      (λ j h i. ruled_free (m j) (is_bars (r j)) (is_forces (r j)) (ap mark_by (sym (as_ruled lifting (with_marks g x) d upper (suc j))) ∙ i)))

  -- nor unmark a required one
  pub ruled-requireds : length x ≡ g.m → requireds x ≤ requireds (applied lifting (with_marks g x) d upper)
  unfolding applied with_marks m r
  ruled-requireds e =
      subst (λ (z : Marks). requireds z ≤ requireds (applied lifting (with_marks g x) d upper)) (row-marks g.m x e)
      (requireds-more g.m (λ k. get_or (free ∷ x) k free) (λ k. mark_by (ruling_with lifting (with_marks g x) d upper k))
      (λ j h i. ap mark_by (as_ruled lifting (with_marks g x) d upper (suc j)) ∙ required_ruled (m j) (is_bars (r j)) (is_forces (r j)) i))

  -- nor let an excluded one in
  pub ruled-off : (j : ℕ) → j < g.m → get_or x j free ≡ excluded → get_or (applied lifting (with_marks g x) d upper) j free ≡ excluded
  unfolding m r
  ruled-off j h e = applied-at j h ∙ excluded_ruled (m j) (is_bars (r j)) (is_forces (r j)) e

-- ---- without lifting

ruled_bars : (x : Mark) (b f : Bool) → ruled x b f ≡ bars → b ≡ true
ruled_bars required b f h = cc
ruled_bars excluded b f h = cc
ruled_bars free true f h = refl
ruled_bars free false true h = cc
ruled_bars free false false h = cc

ruled_forces : (x : Mark) (b f : Bool) → ruled x b f ≡ forces → f ≡ true
ruled_forces required b f h = cc
ruled_forces excluded b f h = cc
ruled_forces free true f h = cc
ruled_forces free false true h = refl
ruled_forces free false false h = cc

module _ (g : Network) (vg : Valid g) (x : Marks) (d : ℕ → ℤ) (upper : ℤ) where
  -- EVERY 1-TREE within the upper bound agrees with the rulings
  pub every_tree_agrees : (t : Edges) → OneTree (with_marks g x) t → bound (with_marks g x) d t ≤ℤ upper
      → Allowed (with_marks g (applied false (with_marks g x) d upper)) t
  unfolding r
  every_tree_agrees t o l = agreeing g vg x false d upper t (record { keeps = o.keeps; avoids = o.avoids }) out into
    where
      of_test : (j : ℕ) → ruling_with false (with_marks g x) d upper (suc j)
          ≡ ruled ((with_marks g x).mark (suc j)) (barred_b (with_marks g x) d upper (suc j)) (forced_b (with_marks g x) d upper (suc j))
      of_test j = unfold ruling in unlifted (with_marks g x) d upper (suc j)

      lacks : (j : ℕ) → Barred (with_marks g x) d upper (suc j) → t (suc j) ≡ false
      lacks j h = by_cases (t (suc j)) (λ e. absurd (le_lt_clash _ _ l (unfold Barred in h t o e))) (λ e. e)

      has : (j : ℕ) → Forced (with_marks g x) d upper (suc j) → t (suc j) ≡ true
      has j h = by_cases (t (suc j)) (λ e. e) (λ e. absurd (le_lt_clash _ _ l (unfold Forced in h t o e)))

      out : (j : ℕ) → j < g.m → ruling_with false (with_marks g x) d upper (suc j) ≡ bars → t (suc j) ≡ false
      out j h e =
          lacks j ((barred_test (with_marks g x) d upper (suc j) (listed g vg x false d upper j h)).0 (ruled_bars _ _ _ (sym (of_test j) ∙ e)))

      into : (j : ℕ) → j < g.m → ruling_with false (with_marks g x) d upper (suc j) ≡ forces → t (suc j) ≡ true
      into j h e =
          has j ((forced_test (with_marks g x) d upper (suc j) (listed g vg x false d upper j h)).0 (ruled_forces _ _ _ (sym (of_test j) ∙ e)))
