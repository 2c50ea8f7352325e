-- THE THEOREM: the passes of a node, with lifting or without, come to what the passes of the node of its kept edges come to, spread out, where
-- every edge that is not kept is excluded. So code may leave excluded edges out while it opens a node. (Later passes exclude more edges; those
-- stay in.)
use Rattle.std.specs.Prelude.{◌≡◌, Bool, leb, length, get_or, ℤ, ◌+ℤ◌, ◌-ℤ◌, ◌*ℤ◌}
use Rattle.std.proofs.Math.Path.{refl, ap}
use Rattle.std.proofs.Common.{sym, ◌∙◌, arith}
use Rattle.std.proofs.Math.Bool.{true, false, cond}
use mathlib.Core.List.{List, ◌∷◌}
use Prim.Native.Nat.{ℕ, zero, suc, ◌≤◌}
use Rattle.std.proofs.Math.Decide.{dec_le}
use Rattle.std.proofs.Math.ListN.{get_or-eq_default}
use Rattle.std.proofs.Math.IntN.{pos}
use Rattle.std.specs.Int.Signed.{lt_z}
use Rattle.lists.specs.Numbers.{in_up_to}
use Rattle.lists.specs.Rows.{row, row_same}
use Rattle.integers.specs.Range.{clamp}
use Rattle.graph.specs.Limits.{max_multiplier}
use Rattle.graph.specs.Network.{Network, free, excluded}
use Rattle.tree_theory.specs.OneTree.{Edges}
use Rattle.tree_theory.specs.Agree.{Agree}
use Rattle.tree_theory.specs.Inputs.{multiplier}
use Rattle.tree_theory.specs.Enumeration.{Tree, no_tree, a_tree, least_tree}
use Rattle.tours.specs.Tours.{is_tour}
use Rattle.lifting.specs.Lifted.{ruling_with}
use Rattle.lifting.proofs.Rulings.{excluded_stays}
use Rattle.machine.specs.Machine.{Marks, Opened, with_marks, applied, mark_by, shut, found, unclosed, pass_by, pass, gained, branch}
use Rattle.machine.specs.Machine.{concluded, passes}
use Rattle.machine.specs.Laws.NodeTours.{applied-length}
use Rattle.machine.specs.Outcomes.{finds}
use Rattle.thinning.specs.Ranks.{rank, nth, Kept, rank_yes, rank-nth, nth_zero, nth_past, nth-rank, rank_in, nth_of}
use Rattle.thinning.specs.Thinned.{thin, spread, RestExcluded, Spread, least-thin}
use Rattle.thinning.specs.Reading.{same_only, degree-thin, tour_thin}
use Rattle.thinning.specs.Lifted.{ruling_with-thin}
use Rattle.compaction.specs.Spread.{spread_marks, spread_tour, spread_opened, spread_row, spread-kept, spread_rest}
use Rattle.compaction.specs.Spread.{branch-spread}

-- ---- what is read of a tree: t in old numbers, r in new ones

module _ (c : Edges) (g : Network) (t r : Edges) (same : Agree g.m t (spread c r)) where
  gained-thin : (step : ℕ) (d : List ℤ) → gained g step t d ≡ gained (thin c g) step r d
  unfolding gained
  gained-thin step d =
      row_same g.n _ _ (λ j h.
      ap (λ (z : ℕ).
      cond (leb (suc j) 1) (multiplier d (suc j))
      (clamp max_multiplier (multiplier d (suc j) +ℤ (pos step *ℤ (pos z -ℤ pos 2)))))
      (degree-thin c g t r same (suc j)))

  row-thin : row g.m t ≡ spread_tour c g.m (row (rank c g.m) r)
  row-thin = spread_row c g.m false false t r (λ k i e. same k i ∙ rw e) (same_only c g t r same)

-- ---- a pass

module _ (lifting : Bool) (c : Edges) (g : Network) (rest : RestExcluded c g) (d : ℕ → ℤ) (upper : ℤ) where
  -- the rulings are applied to the kept edges; the others stay excluded
  applied-thin : applied lifting g d upper ≡ spread_marks c g.m (applied lifting (thin c g) d upper)
  unfolding applied
  applied-thin =
      spread_row c g.m excluded free (λ k. mark_by (ruling_with lifting g d upper k)) (λ j. mark_by (ruling_with lifting (thin c g) d upper j))
      (λ k i e.
      ap (λ (j : ℕ). mark_by (ruling_with lifting g d upper j)) (sym (nth_of c g.m k i e))
      ∙ ap mark_by (ruling_with-thin c g rest lifting d upper (rank c k) (rank_in c g.m k i e)))
      (λ k i e. ap mark_by (excluded_stays lifting g d upper k (rest k i e)))

  -- how an unclosed node goes on, in the network and in the thin one
  module _ (on on_thin : Edges → Marks → Opened)
      (later : (t r : Edges) (y : Marks) → Agree g.m t (spread c r) → length y ≡ rank c g.m
      → on t (spread_marks c g.m y) ≡ spread_opened c g.m (on_thin r y)) where
    -- by the test for a bound above, and for a tour
    by_tests : (t r : Edges) → Agree g.m t (spread c r) → (above tour : Bool)
        → concluded g.m (cond above shut (cond tour (found t) (unclosed t (applied lifting g d upper)))) on
        ≡ spread_opened c g.m
        (concluded (rank c g.m) (cond above shut (cond tour (found r) (unclosed r (applied lifting (thin c g) d upper)))) on_thin)
    by_tests t r s true tour = refl
    by_tests t r s false true = ap finds (row-thin c g t r s)
    by_tests t r s false false =
        ap (on t) applied-thin ∙ later t r (applied lifting (thin c g) d upper) s (applied-length lifting (thin c g) d upper)

    -- A PASS
    pass-thin : concluded g.m (pass lifting g d upper) on
        ≡ spread_opened c g.m (concluded (rank c g.m) (pass lifting (thin c g) d upper) on_thin)
    unfolding pass pass_by
    pass-thin = go (least_tree (thin c g) d) (least_tree g d) (least-thin c g rest d)
      where
        go : (x y : Tree) → Spread c g.m x y
            → concluded g.m (pass_by lifting g d upper y) on ≡ spread_opened c g.m (concluded (rank c g.m) (pass_by lifting (thin c g) d upper x) on_thin)
        go no_tree y s = rw s
        go (a_tree b r) y s = rw (s.1, tour_thin c g s.0 r s.2) (by_tests s.0 r s.2 (lt_z upper b) (is_tour (thin c g) r))

-- ---- a node

module _ (c : Edges) (g : Network) where
  module _ (y : Marks) (long : length y ≡ rank c g.m) where
    mark_thin : (j : ℕ) → get_or (free ∷ y) j free ≡ get_or (free ∷ spread_marks c g.m y) (nth c g.m j) free
    mark_thin zero = ap (λ (k : ℕ). get_or (free ∷ spread_marks c g.m y) k free) (sym (nth_zero c g.m))
    mark_thin (suc j) = go (dec_le (suc j) (rank c g.m))
      where
        at : Kept c g.m (suc j) → get_or y j free ≡ get_or (free ∷ spread_marks c g.m y) (nth c g.m (suc j)) free
        at k =
            let p : rank c k.place ≡ j = omega (arith, rank_yes c k.place k.kept, k.new) in
            let q : nth c g.m (suc j) ≡ suc k.place = ap (nth c g.m) (sym k.new) ∙ nth-rank c g.m k.place k.low k.kept in
            rw (q, spread-kept c g.m excluded free y k.place k.low k.kept, p)

        go : Dec (suc j ≤ rank c g.m) → get_or y j free ≡ get_or (free ∷ spread_marks c g.m y) (nth c g.m (suc j)) free
        go (yes h) = at (rank-nth c g.m (suc j) (omega arith) h)
        go (no h) = rw (nth_past c g.m (suc j) (omega arith)) (get_or-eq_default y free (omega arith))

    marks-thin : with_marks (thin c g) y ≡ thin c (with_marks g (spread_marks c g.m y))
    unfolding with_marks
    marks-thin = λ i. record {
      n = g.n;
      m = rank c g.m;
      a = (thin c g).a;
      b = (thin c g).b;
      cost = (thin c g).cost;
      mark = λ j. mark_thin j i;
    }

  rest_excluded : (y : Marks) → RestExcluded c (with_marks g (spread_marks c g.m y))
  unfolding with_marks
  rest_excluded y zero i e = absurd (let z : 1 ≤ 0 = (in_up_to g.m zero i).0 in omega arith)
  rest_excluded y (suc k) i e = spread_rest c g.m excluded free y k (in_up_to g.m (suc k) i).1 e

  -- THE PASSES OF A NODE, among its kept edges
  pub passes-thin : (lifting : Bool) (step : ℕ) (upper : ℤ) (left : ℕ) (d : List ℤ) (y : Marks) → length y ≡ rank c g.m
      → passes lifting g step upper left d (spread_marks c g.m y) ≡ spread_opened c g.m (passes lifting (thin c g) step upper left d y)
  unfolding passes with_marks
  passes-thin lifting step upper zero d y long =
      pass-thin lifting c (with_marks g (spread_marks c g.m y)) (rest_excluded y) (multiplier d) upper (λ t z. branch d z) (λ t z. branch d z)
      (λ t r z s l. branch-spread c g.m z l d)
      ∙ ap (λ (h : Network). spread_opened c g.m (concluded (rank c g.m) (pass lifting h (multiplier d) upper) (λ t z. branch d z)))
      (sym (marks-thin y long))
  passes-thin lifting step upper (suc left) d y long =
      pass-thin lifting c (with_marks g (spread_marks c g.m y)) (rest_excluded y) (multiplier d) upper
      (λ t z. passes lifting g step upper left (gained g step t d) z) (λ t z. passes lifting (thin c g) step upper left (gained (thin c g) step t d) z)
      (λ t r z s l.
      ap (λ (e : List ℤ). passes lifting g step upper left e (spread_marks c g.m z)) (gained-thin c g t r s step d)
      ∙ passes-thin lifting step upper left (gained (thin c g) step r d) z l)
      ∙ ap (λ (h : Network).
      spread_opened c g.m
      (concluded (rank c g.m) (pass lifting h (multiplier d) upper) (λ t z. passes lifting (thin c g) step upper left (gained (thin c g) step t d) z)))
      (sym (marks-thin y long))
