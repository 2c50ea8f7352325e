-- "with none ashore they read as before": where no vertex is inactive, EVERY DEFINITION OVER THE ACTIVE VERTICES IS THE FORMER ONE, every value the
-- former value, and the reduced network is the network. (Of what is least, infeasible, barred and forced: proofs/NoneAshore.) Assumes nothing
-- else.
use Rattle.std.specs.Prelude.{◌≡◌, ◌↔◌, Bool, false, cond, ◌&&◌, ◌||◌, List, ℤ, pos}
use Rattle.std.proofs.Math.Path.{refl, ap}
use Rattle.std.proofs.Common.{sym, ◌∙◌, arith}
use Rattle.std.proofs.Math.Bool.{not}
use Prim.Native.Nat.{ℕ, zero, suc, ◌+◌, ◌-◌}
use Rattle.std.proofs.Math.Dec.{eqb}
use Rattle.std.proofs.Math.ListN.{length}
use Rattle.std.specs.Int.Signed.{lt_z}
use Rattle.lists.specs.All.{every_of, some_of}
use Rattle.lists.specs.Select.{select, select_cong, select_full}
use Rattle.lists.specs.Members.{◌∈◌}
use Rattle.lists.specs.Numbers.{up_to, up_to_in, length-up_to}
use Rattle.lists.specs.Rows.{row, row_same}
use Rattle.graph.specs.Network.{Network, excluded}
use Rattle.spanning.specs.Walks.{label}
use Rattle.tree_theory.specs.OneTree.{Edges, OneTree, others, at_one, away, bound}
use Rattle.tree_theory.specs.Inputs.{multiplier}
use Rattle.tree_theory.specs.Enumeration.{edge_sets, marked, alike, is_one_tree, one_trees, least_of, least_tree, barred_b, forced_b, ruled, ruling}
use Rattle.tours.specs.Orders.{distinct, words}
use Rattle.tours.specs.Tours.{Tour, Allowed, Feasible, is_trip, is_tour}
use Rattle.thinning.specs.Ranks.{rank, nth, rank_yes, nth_of}
use Rattle.afloat.specs.Over.{Ashore, active, active_count, others_over, touched, mark_over, multiplier_over, OneTreeOver, bound_over}
use Rattle.afloat.specs.Over.{TourOver, AllowedOver, FeasibleOver}
use Rattle.afloat.specs.Values.{is_one_tree_over, one_trees_over, tree_over, is_barred_over, is_forced_over, ruling_over, is_tour_over}
use Rattle.afloat.specs.Reduced.{reduced, active_of}
use Rattle.afloat.specs.Lists.{reduced_list, list_row}

module _ (s : Ashore) (none : (v : ℕ) → s v ≡ false) where
  pub rank_all : (k : ℕ) → rank (active s) k ≡ k
  rank_all zero = unfold rank in refl
  rank_all (suc k) = rank_yes (active s) k (active_of s (suc k) (none (suc k))) ∙ ap suc (rank_all k)

  nth_all : (n j : ℕ) → j ∈ up_to n → nth (active s) n j ≡ j
  nth_all n j i = ap (nth (active s) n) (sym (rank_all j)) ∙ nth_of (active s) n j i (active_of s j (none j))

  -- the list of the multipliers
  pub list_none : (n : ℕ) (d : List ℤ) → length d ≡ n → reduced_list s n d ≡ d
  unfolding reduced_list
  list_none n d size =
      ap (λ (k : ℕ). row k (λ j. multiplier d (nth (active s) n j))) (rank_all n)
      ∙ row_same n _ _ (λ j h. ap (multiplier d) (nth_all n (suc j) (up_to_in n (suc j) (omega arith) h)))
      ∙ list_row n d size

  pub multiplier_none : (d : ℕ → ℤ) → multiplier_over s d ≡ d
  multiplier_none d = λ i v. cond (none v i) (pos 0) (d v)

  -- ALL ARE COUNTED
  pub count_none : (n : ℕ) → active_count s n ≡ n
  unfolding active_count
  count_none n = ap length (select_full (active s) (up_to n) (λ v i. active_of s v (none v))) ∙ length-up_to n

  module _ (g : Network) where
    touched_none : (k : ℕ) → touched s g k ≡ false
    touched_none k = rw (none (g.a k), none (g.b k))

    pub mark_none : (k : ℕ) → mark_over s g k ≡ g.mark k
    mark_none k = ap (λ (b : Bool). cond b excluded (g.mark k)) (touched_none k)

    end_none : (k z v : ℕ) → cond (touched s g k) z (rank (active s) v) ≡ v
    end_none k z v = ap (λ (b : Bool). cond b z (rank (active s) v)) (touched_none k) ∙ rank_all v

    -- THE NETWORK
    pub reduced_none : reduced s g ≡ g
    reduced_none = λ i. record {
      n = rank_all g.n i;
      m = g.m;
      a = λ k. end_none k 1 (g.a k) i;
      b = λ k. end_none k 2 (g.b k) i;
      cost = g.cost;
      mark = λ k. mark_none k i;
    }

    pub others_none : others_over s g ≡ others g
    unfolding others_over others
    others_none = select_cong _ _ (up_to g.n) (λ v i. ap (λ (b : Bool). b && not (eqb v 1)) (active_of s v (none v)))

    -- THE 1-TREES
    pub tree_none : (t : Edges) → OneTreeOver s g t ↔ OneTree g t
    tree_none t = (
      λ o. record {
        two = o.two;
        rest = o.rest ∙ count_none g.n;
        joined = λ u v i j. o.joined u v (rw others_none i) (rw others_none j);
        keeps = λ k i e. o.keeps k i (mark_none k ∙ e);
        avoids = λ k i e. o.avoids k i (mark_none k ∙ e);
      },
      λ o. record {
        two = o.two;
        rest = o.rest ∙ sym (count_none g.n);
        joined = λ u v i j. o.joined u v (rw others_none at i) (rw others_none at j);
        keeps = λ k i e. o.keeps k i (sym (mark_none k) ∙ e);
        avoids = λ k i e. o.avoids k i (sym (mark_none k) ∙ e);
      },
    )

    pub bound_none : (d : ℕ → ℤ) (t : Edges) → bound_over s g d t ≡ bound g d t
    unfolding bound_over
    bound_none d t = ap (λ (e : ℕ → ℤ). bound g e t) (multiplier_none d)

    -- THE TOURS
    pub tour_none : (t : Edges) → TourOver s g t ↔ Tour g t
    tour_none t = (
      λ o. record {
        number = o.number ∙ count_none g.n;
        order = o.order;
        once = o.once;
        calls = λ v. ((λ i. rw others_none at ((o.calls v).0 i)), λ i. (o.calls v).1 (rw others_none i));
        trip = o.trip;
      },
      λ o. record {
        number = o.number ∙ sym (count_none g.n);
        order = o.order;
        once = o.once;
        calls = λ v. ((λ i. rw others_none ((o.calls v).0 i)), λ i. (o.calls v).1 (rw others_none at i));
        trip = o.trip;
      },
    )

    pub allowed_none : (t : Edges) → AllowedOver s g t ↔ Allowed g t
    allowed_none t = (
      λ o. record { keeps = λ k i e. o.keeps k i (mark_none k ∙ e); avoids = λ k i e. o.avoids k i (mark_none k ∙ e) },
      λ o. record { keeps = λ k i e. o.keeps k i (sym (mark_none k) ∙ e); avoids = λ k i e. o.avoids k i (sym (mark_none k) ∙ e) },
    )

    pub feasible_none : (ceiling : ℤ) (t : Edges) → FeasibleOver s g ceiling t ↔ Feasible g ceiling t
    feasible_none ceiling t = (
      λ o. record { tour = (tour_none t).0 o.tour; allowed = (allowed_none t).0 o.allowed; cheap = o.cheap },
      λ o. record { tour = (tour_none t).1 o.tour; allowed = (allowed_none t).1 o.allowed; cheap = o.cheap },
    )

    -- THE VALUES
    pub test_none : (t : Edges) → is_one_tree_over s g t ≡ is_one_tree g t
    unfolding is_one_tree_over is_one_tree
    test_none t = λ i.
        eqb (length (at_one g t)) 2
        && eqb (2 + length (away g t)) (count_none g.n i)
        && every_of (λ k. marked (mark_none k i) (t k)) (up_to g.m)
        && alike (label g.a g.b (away g t)) (others_none i)

    trees_none : one_trees_over s g ≡ one_trees g
    unfolding one_trees_over one_trees
    trees_none = λ i. select (λ t. test_none t i) (edge_sets g.m)

    pub least_tree_none : (d : ℕ → ℤ) → tree_over s g d ≡ least_tree g d
    unfolding tree_over least_tree
    least_tree_none d = λ i. least_of g (multiplier_none d i) (trees_none i)

    pub is_barred_none : (d : ℕ → ℤ) (ceiling : ℤ) (k : ℕ) → is_barred_over s g d ceiling k ≡ barred_b g d ceiling k
    unfolding is_barred_over barred_b
    is_barred_none d ceiling k = λ i. every_of (λ t. not (t k) || lt_z ceiling (bound_none d t i)) (trees_none i)

    pub is_forced_none : (d : ℕ → ℤ) (ceiling : ℤ) (k : ℕ) → is_forced_over s g d ceiling k ≡ forced_b g d ceiling k
    unfolding is_forced_over forced_b
    is_forced_none d ceiling k = λ i. every_of (λ t. t k || lt_z ceiling (bound_none d t i)) (trees_none i)

    pub ruling_none : (d : ℕ → ℤ) (ceiling : ℤ) (k : ℕ) → ruling_over s g d ceiling k ≡ ruling g d ceiling k
    unfolding ruling_over ruling
    ruling_none d ceiling k = λ i. ruled (mark_none k i) (is_barred_none d ceiling k i) (is_forced_none d ceiling k i)

    pub is_tour_none : (t : Edges) → is_tour_over s g t ≡ is_tour g t
    unfolding is_tour_over is_tour
    is_tour_none t = λ i.
        eqb (length (select t (up_to g.m))) (count_none g.n i)
        && some_of (λ vs. distinct vs && is_trip g t 1 vs 1) (words (count_none g.n i - 1) (others_none i))
