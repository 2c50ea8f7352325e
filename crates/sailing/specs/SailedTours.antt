-- A LIST IN SAILING ORDER IS A TOUR: its edges, as a set, are one, each of them once; and every tour's edges can be listed in sailing order.
-- Assumes nothing.
use Rattle.std.specs.Prelude.{◌≡◌, ℕ, ◌≤◌, length}
use Rattle.std.proofs.Math.Path.{refl, sym, ap, subst}
use Rattle.std.proofs.Common.{◌∙◌, inl, inr, arith}
use Rattle.std.proofs.Math.Bool.{true, true≢false}
use mathlib.Core.List.{List, [], ◌∷◌, ◌++◌}
use Rattle.lists.specs.Bools.{by_cases}
use Rattle.lists.specs.Members.{◌∈◌}
use Rattle.lists.specs.Select.{select, select_in, in_select}
use Rattle.lists.specs.Distinct.{Distinct, distinct-select}
use Rattle.lists.specs.Numbers.{up_to, distinct-up_to}
use Rattle.integers.specs.Sums.{sum_z, Whole, same_members, fills}
use Rattle.graph.specs.Network.{Network}
use Rattle.tree_theory.specs.OneTree.{Edges}
use Rattle.tree_theory.specs.Valid.{Valid}
use Rattle.tours.specs.Orders.{elem, elem_in, in_elem, not-elem}
use Rattle.tours.specs.Tours.{Trip, Tour, cost}
use Rattle.tours.specs.Trips.{along, along_in, trip_once}
use Rattle.sailing.specs.Orders.{Leads, SailingOrder, in_sailing_order}
use Rattle.sailing.specs.OrderTest.{leads_listed, not-one, calls-size, order_size, test_order, order_test}

-- the edges of a list, as a set
unfoldable pub set_of : List ℕ → Edges
unfolding elem
set_of ks k = elem k ks

-- ---- a trip and the list of its edges

module _ (g : Network) (t : Edges) where
  trip_of : (u : ℕ) (ks vs : List ℕ) (w : ℕ) → Leads g u ks (vs ++ w ∷ []) → ((k : ℕ) → k ∈ ks → t k ≡ true) → Trip g t u vs w
  trip_of u [] [] w l h = absurd l
  trip_of u (k ∷ []) [] w l h = record { edge = k; listed = l.0; taken = h k (inl refl); ends = l.1 }
  trip_of u (k ∷ j ∷ ks) [] w l h = absurd l.2
  trip_of u [] (v ∷ vs) w l h = absurd l
  trip_of u (k ∷ ks) (v ∷ vs) w l h =
      (record { edge = k; listed = l.0; taken = h k (inl refl); ends = l.1 }, trip_of v ks vs w l.2 (λ j m. h j (inr m)))

  along_trip : (u : ℕ) (ks vs : List ℕ) (w : ℕ) (l : Leads g u ks (vs ++ w ∷ [])) (h : (k : ℕ) → k ∈ ks → t k ≡ true)
      → along g t u vs w (trip_of u ks vs w l h) ≡ ks
  unfolding along trip_of
  along_trip u [] [] w l h = absurd l
  along_trip u (k ∷ []) [] w l h = refl
  along_trip u (k ∷ j ∷ ks) [] w l h = absurd l.2
  along_trip u [] (v ∷ vs) w l h = absurd l
  along_trip u (k ∷ ks) (v ∷ vs) w l h = ap (λ (x : List ℕ). k ∷ x) (along_trip v ks vs w l.2 (λ j m. h j (inr m)))

  leads_along : (u : ℕ) (vs : List ℕ) (w : ℕ) (j : Trip g t u vs w) → Leads g u (along g t u vs w j) (vs ++ w ∷ [])
  unfolding along
  leads_along u [] w j = (j.listed, j.ends, tt)
  leads_along u (v ∷ vs) w j = (j.0.listed, j.0.ends, leads_along v vs w j.1)

module _ (g : Network) (vg : Valid g) where
  -- ---- from a list to a tour

  module _ (ks : List ℕ) (s : SailingOrder g ks) where
    has : (k : ℕ) → k ∈ ks → set_of ks k ≡ true
    unfolding set_of
    has k m = elem_in k ks m

    trip : Trip g (set_of ks) 1 s.order 1
    trip = trip_of g (set_of ks) 1 ks s.order 1 s.leads has

    -- each edge once
    pub edges_once : Distinct ks
    unfolding trip
    edges_once =
        subst (λ (l : List ℕ). Distinct l) (along_trip g (set_of ks) 1 ks s.order 1 s.leads has)
        (trip_once g (set_of ks) 1 s.order trip s.once (not-one g vg ks s) (omega (arith, calls-size g vg ks s, vg.big)))

    -- the list has the edges of its set
    pub edges_whole : Whole ks (select (set_of ks) (up_to g.m))
    unfolding set_of
    edges_whole =
        same_members ks (select (set_of ks) (up_to g.m)) edges_once (distinct-select _ (up_to g.m) (distinct-up_to g.m))
        (λ k m. in_select (set_of ks) (up_to g.m) k (leads_listed g 1 ks (s.order ++ 1 ∷ []) s.leads k m) (elem_in k ks m))
        (λ k m. in_elem k ks (select_in (set_of ks) (up_to g.m) k m).1)

    pub order_tour : Tour g (set_of ks)
    order_tour = record {
      number = edges_whole.size ∙ order_size g vg ks s;
      order = s.order;
      once = s.once;
      calls = s.calls;
      trip = trip;
    }

    -- and its cost is the tour's
    pub order_cost : sum_z g.cost ks ≡ cost g (set_of ks)
    unfolding cost
    order_cost = sym (edges_whole.sum g.cost)

  -- ---- from a tour to a list

  module _ (t : Edges) (tour : Tour g t) where
    pub tour_edges : List ℕ
    tour_edges = along g t 1 tour.order 1 tour.trip

    pub tour_order : SailingOrder g tour_edges
    unfolding tour_edges
    tour_order = record {
      order = tour.order;
      once = tour.once;
      calls = tour.calls;
      leads = leads_along g t 1 tour.order 1 tour.trip;
    }

    tour_whole : Whole tour_edges (select t (up_to g.m))
    unfolding tour_edges
    tour_whole =
        fills tour_edges (select t (up_to g.m)) (edges_once tour_edges tour_order) (along_in g t 1 tour.order 1 tour.trip)
        (omega (arith, tour.number, order_size g vg tour_edges tour_order))

    -- its set is the tour
    pub tour_set : (k : ℕ) → k ∈ up_to g.m → set_of tour_edges k ≡ t k
    unfolding set_of tour_edges
    tour_set k m = by_cases (t k)
        (λ e. elem_in k tour_edges (tour_whole.each k (in_select t (up_to g.m) k m e)) ∙ sym e)
        (λ e. not-elem k tour_edges (λ i. true≢false (sym (taken i) ∙ e)) ∙ sym e)
      where
        taken : k ∈ tour_edges → t k ≡ true
        taken i = (select_in t (up_to g.m) k (along_in g t 1 tour.order 1 tour.trip k i)).1

    pub tour_cost : sum_z g.cost tour_edges ≡ cost g t
    unfolding cost
    tour_cost = sym (tour_whole.sum g.cost)

  -- ---- by the test: what it accepts is a tour in order, and every tour has a list that it accepts

  pub accepted_tour : (ks : List ℕ) → in_sailing_order g ks ≡ true → Tour g (set_of ks)
  accepted_tour ks h = order_tour ks (test_order g vg ks h)

  pub tour_accepted : (t : Edges) → Tour g t
      → (ks : List ℕ) × (in_sailing_order g ks ≡ true) × ((k : ℕ) → k ∈ up_to g.m → set_of ks k ≡ t k)
  tour_accepted t tour = (tour_edges t tour, order_test g vg (tour_edges t tour) (tour_order t tour), tour_set t tour)
