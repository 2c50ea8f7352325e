-- Going through all sets and all orders decides, over the active vertices too: the tests for a 1-tree and for a tour pass exactly these. (The
-- least tree and the rulings are those of the reduced network: proofs/Decided.)
use Rattle.std.specs.Prelude.{◌≡◌, ◌&&◌, ℕ, ◌+◌, ◌-◌, eqb}
use Rattle.std.proofs.Common.{arith}
use Rattle.std.proofs.Math.Bool.{true, not}
use mathlib.Core.List.{List}
use Rattle.std.proofs.Math.ListN.{length}
use borrow.Author.Tests.{eqb-true, eq-eqb}
use Rattle.lists.specs.Bools.{and_both}
use Rattle.lists.specs.Members.{◌∈◌}
use Rattle.lists.specs.All.{every_of, every_of_in, in_every_of, some_of, some_of_in, in_some_of}
use Rattle.lists.specs.Select.{select}
use Rattle.lists.specs.Distinct.{Distinct, distinct-select}
use Rattle.lists.specs.Numbers.{up_to, distinct-up_to}
use Rattle.lists.specs.Same.{shuffle_same, shuffle_length}
use Rattle.integers.specs.Sums.{Whole, fills}
use Rattle.graph.specs.Network.{Network}
use Rattle.spanning.specs.Walks.{label, label-walk}
use Rattle.tree_theory.specs.OneTree.{Edges, at_one, away}
use Rattle.tree_theory.specs.Enumeration.{marked, alike}
use Rattle.tree_theory.specs.Decide.{marked_is, is_marked, alike_same, same_alike}
use Rattle.tours.specs.Orders.{distinct, distinct_is, is_distinct, words, words_in, in_words}
use Rattle.tours.specs.Tours.{is_trip, is_tour}
use Rattle.tours.specs.TourTest.{trip_is, is_trip_lem, test_tour, tour_test}
use Rattle.thinning.specs.Rulings.{same_test}
use Rattle.afloat.specs.Over.{Ashore, active, active_count, others_over, mark_over, OneTreeOver, TourOver}
use Rattle.afloat.specs.Values.{is_one_tree_over, is_tour_over}
use Rattle.afloat.specs.Reduced.{reduced, Fit}
use Rattle.afloat.specs.Trees.{Untouched}
use Rattle.afloat.specs.Tours.{others-size, tour_back, tour_reduced}

-- ---- the test for a 1-tree

-- what the four parts of the test say
record Passes (s : Ashore) (g : Network) (t : Edges) : Type 0 where
  two : eqb (length (at_one g t)) 2 ≡ true
  rest : eqb (2 + length (away g t)) (active_count s g.n) ≡ true
  marks : every_of (λ k. marked (mark_over s g k) (t k)) (up_to g.m) ≡ true
  one : alike (label g.a g.b (away g t)) (others_over s g) ≡ true

module _ (s : Ashore) (g : Network) (t : Edges) where
  passes : is_one_tree_over s g t ≡ true → Passes s g t
  unfolding is_one_tree_over
  passes h =
      let x = and_both _ (alike (label g.a g.b (away g t)) (others_over s g)) h in
      let y = and_both _ (every_of (λ k. marked (mark_over s g k) (t k)) (up_to g.m)) x.0 in
      let z = and_both (eqb (length (at_one g t)) 2) (eqb (2 + length (away g t)) (active_count s g.n)) y.0 in
      record { two = z.0; rest = z.1; marks = y.1; one = x.1 }

  pub test_tree_over : is_one_tree_over s g t ≡ true → OneTreeOver s g t
  test_tree_over h = record {
    two = eqb-true _ _ (passes h).two;
    rest = eqb-true _ _ (passes h).rest;
    joined = λ u v i j. (label-walk g.a g.b (away g t) u v).0 (alike_same _ (others_over s g) (passes h).one u v i j);
    keeps = λ k m r. (marked_is (mark_over s g k) (t k) (mark k m)).0 r;
    avoids = λ k m r. (marked_is (mark_over s g k) (t k) (mark k m)).1 r;
  }
    where
      mark : (k : ℕ) → k ∈ up_to g.m → marked (mark_over s g k) (t k) ≡ true
      mark k m = every_of_in (λ j. marked (mark_over s g j) (t j)) (up_to g.m) (passes h).marks k m

  pub tree_test_over : OneTreeOver s g t → is_one_tree_over s g t ≡ true
  unfolding is_one_tree_over
  tree_test_over o =
      rw (
        eq-eqb (length (at_one g t)) 2 o.two,
        eq-eqb (2 + length (away g t)) (active_count s g.n) o.rest,
        in_every_of (λ k. marked (mark_over s g k) (t k)) (up_to g.m) (λ k m. is_marked (mark_over s g k) (t k) (o.keeps k m) (o.avoids k m)),
      )
      (same_alike (label g.a g.b (away g t)) (others_over s g) one)
    where
      one : (u v : ℕ) → u ∈ others_over s g → v ∈ others_over s g → label g.a g.b (away g t) u ≡ label g.a g.b (away g t) v
      one u v i j = (label-walk g.a g.b (away g t) u v).1 (o.joined u v i j)

module _ (s : Ashore) (g : Network) (f : Fit s g) where
  -- ---- the test for a tour

  module _ (t : Edges) where
    distinct_over : Distinct (others_over s g)
    unfolding others_over
    distinct_over = distinct-select (λ v. active s v && not (eqb v 1)) (up_to g.n) (distinct-up_to g.n)

    pub test_tour_over : is_tour_over s g t ≡ true → TourOver s g t
    unfolding is_tour_over
    test_tour_over h = record {
      number = eqb-true (length (select t (up_to g.m))) (active_count s g.n) p.0;
      order = r.0;
      once = distinct_is r.0 q.0;
      calls = λ v. (word.1 v, whole.each v);
      trip = trip_is g t 1 r.0 1 q.1;
    }
      where
        p : (eqb (length (select t (up_to g.m))) (active_count s g.n) ≡ true)
            × (some_of (λ vs. distinct vs && is_trip g t 1 vs 1) (words (active_count s g.n - 1) (others_over s g)) ≡ true)
        p = and_both (eqb (length (select t (up_to g.m))) (active_count s g.n)) _ h

        r : (vs : List ℕ) × (vs ∈ words (active_count s g.n - 1) (others_over s g)) × (distinct vs && is_trip g t 1 vs 1 ≡ true)
        r = some_of_in (λ vs. distinct vs && is_trip g t 1 vs 1) (words (active_count s g.n - 1) (others_over s g)) p.1

        q : (distinct r.0 ≡ true) × (is_trip g t 1 r.0 1 ≡ true)
        q = and_both (distinct r.0) (is_trip g t 1 r.0 1) r.2

        word : (length r.0 ≡ active_count s g.n - 1) × ((v : ℕ) → v ∈ r.0 → v ∈ others_over s g)
        word = in_words (active_count s g.n - 1) (others_over s g) r.0 r.1

        whole : Whole r.0 (others_over s g)
        whole = fills r.0 (others_over s g) (distinct_is r.0 q.0) word.1 (omega (arith, word.0, others-size s g f))

    pub tour_test_over : TourOver s g t → is_tour_over s g t ≡ true
    unfolding is_tour_over
    tour_test_over o =
        rw (eq-eqb (length (select t (up_to g.m))) (active_count s g.n) o.number)
        (in_some_of (λ vs. distinct vs && is_trip g t 1 vs 1) (words (active_count s g.n - 1) (others_over s g)) o.order
        (words_in (active_count s g.n - 1) (others_over s g) o.order (omega (arith, size, others-size s g f)) (λ v m. (o.calls v).0 m))
        (rw (is_distinct o.order o.once) (is_trip_lem g t 1 o.order 1 o.trip)))
      where
        size : length (others_over s g) ≡ length o.order
        size =
            shuffle_length (shuffle_same o.order (others_over s g) o.once distinct_over (λ v m. (o.calls v).0 m) (λ v m. (o.calls v).1 m))

    -- THE TEST OF A SET WITHOUT TOUCHED EDGES, as every 1-tree is
    pub is_tour-reduced : Untouched s g t → is_tour_over s g t ≡ is_tour (reduced s g) t
    is_tour-reduced free =
        same_test _ _
        (λ e. tour_test (reduced s g) t (tour_reduced s g f t (test_tour_over e)))
        (λ e. tour_test_over (tour_back s g f t free (test_tour (reduced s g) t e)))
