-- A SET OF EDGES IS A TOUR OVER THE ACTIVE VERTICES EXACTLY WHERE IT IS ONE OF THE REDUCED NETWORK, of the same cost. A tour over three active
-- vertices or more has no edge that touches another, even where none says so.
use Rattle.std.specs.Prelude.{◌≡◌, ◌↔◌, ◌⊎◌, ◌&&◌, ℕ, suc, eqb, ℤ}
use Rattle.std.proofs.Math.Path.{refl, sym}
use Rattle.std.proofs.Common.{ap, ◌∙◌, subst, inl, inr, arith, ne_eqb}
use Rattle.std.proofs.Math.Bool.{true, false, not, true≢false}
use mathlib.Core.List.{List, [], ◌∷◌, ◌++◌, map}
use Rattle.std.proofs.Math.Decide.{ℕ_discrete}
use Rattle.std.proofs.Math.ListN.{length}
use Rattle.std.proofs.lemmas.Bool.{eqb-false, not-true}
use Rattle.lists.specs.Bools.{by_cases}
use Rattle.lists.specs.Members.{◌∈◌, in_map, of_map, in_either}
use Rattle.lists.specs.Select.{select, select_in, in_select}
use Rattle.lists.specs.Distinct.{Distinct, distinct-select}
use Rattle.lists.specs.Numbers.{up_to, distinct-up_to}
use Rattle.integers.specs.Sums.{Whole, fills, same_members}
use Rattle.graph.specs.Network.{Network}
use Rattle.tree_theory.specs.OneTree.{Edges, others}
use Rattle.tours.specs.Tours.{Ends, Joined, Trip, Tour, Allowed, Feasible, cost}
use Rattle.tours.specs.Renumbering.{distinct-map}
use Rattle.tours.specs.Trips.{along, along-length, along_in, along_ends, trip_once}
use Rattle.thinning.specs.Ranks.{rank, nth}
use Rattle.afloat.specs.Over.{Ashore, active, active_count, others_over, touched, TourOver, AllowedOver, FeasibleOver}
use Rattle.afloat.specs.Reduced.{reduced, Fit, Live, live_back, live_same, count_is, rank-one, nth-one, over_live, others_there, others_again}
use Rattle.afloat.specs.Reduced.{others_back, a_live, b_live, a_is, b_is, touched_excluded, one_live, live_over}
use Rattle.afloat.specs.Trees.{Untouched, taken_free}

module _ (s : Ashore) (g : Network) (f : Fit s g) where
  -- ---- one set of edges

  module _ (t : Edges) (free : Untouched s g t) where
    joined_there : (u v : ℕ) → Joined g t u v → Joined (reduced s g) t (rank (active s) u) (rank (active s) v)
    joined_there u v j =
        let q = taken_free s g f t free j.edge j.listed j.taken in
        record {
          edge = j.edge;
          listed = j.listed;
          taken = j.taken;
          ends = go (a_is s g f j.edge j.listed q) (b_is s g f j.edge j.listed q) j.ends;
        }
      where
        go : (reduced s g).a j.edge ≡ rank (active s) (g.a j.edge) → (reduced s g).b j.edge ≡ rank (active s) (g.b j.edge)
            → Ends g j.edge u v → Ends (reduced s g) j.edge (rank (active s) u) (rank (active s) v)
        go a b (inl h) = inl (a ∙ ap (rank (active s)) h.0, b ∙ ap (rank (active s)) h.1)
        go a b (inr h) = inr (a ∙ ap (rank (active s)) h.0, b ∙ ap (rank (active s)) h.1)

    trip_there : (u : ℕ) (vs : List ℕ) (w : ℕ) → Trip g t u vs w
        → Trip (reduced s g) t (rank (active s) u) (map (rank (active s)) vs) (rank (active s) w)
    trip_there u [] w j = joined_there u w j
    trip_there u (v ∷ vs) w j = (joined_there u v j.0, trip_there v vs w j.1)

    joined_back : (x y : ℕ) → Joined (reduced s g) t x y → Joined g t (nth (active s) g.n x) (nth (active s) g.n y)
    joined_back x y j = record { edge = j.edge; listed = j.listed; taken = j.taken; ends = go j.ends }
      where
        q : touched s g j.edge ≡ false
        q = taken_free s g f t free j.edge j.listed j.taken

        a : (z : ℕ) → (reduced s g).a j.edge ≡ z → g.a j.edge ≡ nth (active s) g.n z
        a z e =
            sym (live_back s g f (g.a j.edge) (a_live s g f j.edge j.listed q))
            ∙ ap (nth (active s) g.n) (sym (a_is s g f j.edge j.listed q) ∙ e)

        b : (z : ℕ) → (reduced s g).b j.edge ≡ z → g.b j.edge ≡ nth (active s) g.n z
        b z e =
            sym (live_back s g f (g.b j.edge) (b_live s g f j.edge j.listed q))
            ∙ ap (nth (active s) g.n) (sym (b_is s g f j.edge j.listed q) ∙ e)

        go : Ends (reduced s g) j.edge x y → Ends g j.edge (nth (active s) g.n x) (nth (active s) g.n y)
        go (inl h) = inl (a x h.0, b y h.1)
        go (inr h) = inr (a y h.0, b x h.1)

    trip_back : (x : ℕ) (vs : List ℕ) (y : ℕ) → Trip (reduced s g) t x vs y
        → Trip g t (nth (active s) g.n x) (map (nth (active s) g.n) vs) (nth (active s) g.n y)
    trip_back x [] y j = joined_back x y j
    trip_back x (v ∷ vs) y j = (joined_back x v j.0, trip_back v vs y j.1)

    pub tour_there : TourOver s g t → Tour (reduced s g) t
    tour_there o = record {
      number = o.number ∙ count_is s g.n;
      order = map (rank (active s)) o.order;
      once =
          distinct-map (rank (active s)) o.order
          (λ u v i j. live_same s g f u v (over_live s g f u ((o.calls u).0 i)).0 (over_live s g f v ((o.calls v).0 j)).0) o.once;
      calls = λ v. ((λ i. there v (of_map (rank (active s)) v o.order i)), λ i. return v i);
      trip = subst (λ (x : ℕ). Trip (reduced s g) t x (map (rank (active s)) o.order) x) (rank-one s g f) (trip_there 1 o.order 1 o.trip);
    }
      where
        there : (v : ℕ) → (u : ℕ) × (u ∈ o.order) × (v ≡ rank (active s) u) → v ∈ others (reduced s g)
        there v r = rw r.2 (others_there s g f r.0 ((o.calls r.0).0 r.1))

        return : (v : ℕ) → v ∈ others (reduced s g) → v ∈ map (rank (active s)) o.order
        return v i =
            subst (λ (x : ℕ). x ∈ map (rank (active s)) o.order) (others_again s g f v i)
            (in_map (rank (active s)) (nth (active s) g.n v) o.order ((o.calls (nth (active s) g.n v)).1 (others_back s g f v i)))

    pub tour_back : Tour (reduced s g) t → TourOver s g t
    tour_back o = record {
      number = o.number ∙ sym (count_is s g.n);
      order = map (nth (active s) g.n) o.order;
      once =
          distinct-map (nth (active s) g.n) o.order
          (λ u v i j e.
          sym (others_again s g f u ((o.calls u).0 i)) ∙ ap (rank (active s)) e ∙ others_again s g f v ((o.calls v).0 j))
          o.once;
      calls = λ v. ((λ i. there v (of_map (nth (active s) g.n) v o.order i)), λ i. return v i);
      trip =
          subst (λ (x : ℕ). Trip g t x (map (nth (active s) g.n) o.order) x) (nth-one s g f) (trip_back 1 o.order 1 o.trip);
    }
      where
        there : (v : ℕ) → (u : ℕ) × (u ∈ o.order) × (v ≡ nth (active s) g.n u) → v ∈ others_over s g
        there v r = rw r.2 (others_back s g f r.0 ((o.calls r.0).0 r.1))

        return : (v : ℕ) → v ∈ others_over s g → v ∈ map (nth (active s) g.n) o.order
        return v i =
            subst (λ (x : ℕ). x ∈ map (nth (active s) g.n) o.order) (live_back s g f v (over_live s g f v i).0)
            (in_map (nth (active s) g.n) (rank (active s) v) o.order ((o.calls (rank (active s) v)).1 (others_there s g f v i)))

  -- ---- allowed tours

  pub allowed_iff : (t : Edges) → AllowedOver s g t ↔ Allowed (reduced s g) t
  allowed_iff t = (
    (λ h. record { keeps = h.keeps; avoids = h.avoids }),
    λ h. record { keeps = h.keeps; avoids = h.avoids },
  )

  pub cost-reduced : (t : Edges) → cost (reduced s g) t ≡ cost g t
  unfolding cost
  cost-reduced t = refl

  allowed_free : (t : Edges) → AllowedOver s g t → Untouched s g t
  allowed_free t h k i e = h.avoids k i (touched_excluded s g f k i e)

  -- THE ALLOWED TOURS
  pub allowed_tour_iff : (t : Edges) → AllowedOver s g t → TourOver s g t ↔ Tour (reduced s g) t
  allowed_tour_iff t h = (tour_there t (allowed_free t h), tour_back t (allowed_free t h))

  -- THE ALLOWED TOURS WITHIN A CEILING
  pub feasible_iff : (ceiling : ℤ) (t : Edges) → FeasibleOver s g ceiling t ↔ Feasible (reduced s g) ceiling t
  feasible_iff ceiling t = (
    λ h. record {
      tour = (allowed_tour_iff t h.allowed).0 h.tour;
      allowed = (allowed_iff t).0 h.allowed;
      cheap = rw (cost-reduced t) h.cheap;
    },
    λ h. record {
      tour = (allowed_tour_iff t ((allowed_iff t).1 h.allowed)).1 h.tour;
      allowed = (allowed_iff t).1 h.allowed;
      cheap = rw (cost-reduced t) at h.cheap;
    },
  )

  -- ---- an order of the active vertices other than vertex 1

  order_not_one : (vs : List ℕ) → ((v : ℕ) → (v ∈ vs) ↔ (v ∈ others_over s g)) → ¬ (1 ∈ vs)
  order_not_one vs calls m = eqb-false 1 1 (over_live s g f 1 ((calls 1).0 m)).1 refl

  module _ (vs : List ℕ) (once : Distinct vs) (calls : (v : ℕ) → (v ∈ vs) ↔ (v ∈ others_over s g)) where
    vertices : Whole (1 ∷ vs) (select (active s) (up_to g.n))
    vertices =
        same_members (1 ∷ vs) (select (active s) (up_to g.n)) (order_not_one vs calls, once)
        (distinct-select (active s) (up_to g.n) (distinct-up_to g.n))
        (λ k m. there k m) (λ k m. pick k m (ℕ_discrete k 1))
      where
        listed : (k : ℕ) → Live s g f k → k ∈ select (active s) (up_to g.n)
        listed k l = in_select (active s) (up_to g.n) k l.0 l.1

        there : (k : ℕ) → (k ≡ 1) ⊎ (k ∈ vs) → k ∈ select (active s) (up_to g.n)
        there k (inl e) = rw e (listed 1 (one_live s g f))
        there k (inr m) = listed k (over_live s g f k ((calls k).0 m)).0

        pick : (k : ℕ) → k ∈ select (active s) (up_to g.n) → Dec (k ≡ 1) → (k ≡ 1) ⊎ (k ∈ vs)
        pick k m (yes e) = inl e
        pick k m (no e) = inr ((calls k).1 (live_over s g f k (select_in (active s) (up_to g.n) k m) (ne_eqb k 1 e)))

    order_size : suc (length vs) ≡ active_count s g.n
    unfolding active_count
    order_size = sym vertices.size

  pub others-size : suc (length (others_over s g)) ≡ active_count s g.n
  unfolding others_over
  others-size =
      order_size (others_over s g) (distinct-select (λ v. active s v && not (eqb v 1)) (up_to g.n) (distinct-up_to g.n)) (λ v. ((λ i. i), λ i. i))

  -- ---- a tour over the active vertices keeps to them

  module _ (t : Edges) (o : TourOver s g t) where
    not-one : ¬ (1 ∈ o.order)
    not-one = order_not_one o.order o.calls

    order_length : suc (length o.order) ≡ active_count s g.n
    order_length = order_size o.order o.once o.calls

    way : List ℕ
    way = along g t 1 o.order 1 o.trip

    way_once : Distinct way
    unfolding way
    way_once = trip_once g t 1 o.order o.trip o.once not-one (omega (arith, order_length, f.three))

    edges : Whole way (select t (up_to g.m))
    unfolding way
    edges =
        fills way (select t (up_to g.m)) way_once (along_in g t 1 o.order 1 o.trip)
        (omega (arith, o.number, order_length, along-length g t 1 o.order 1 o.trip))

    called : (v : ℕ) → (v ≡ 1) ⊎ (v ∈ (o.order ++ 1 ∷ [])) → s v ≡ false
    called v (inl e) = rw e f.one
    called v (inr m) = go (in_either v o.order (1 ∷ []) m)
      where
        go : (v ∈ o.order) ⊎ ((v ≡ 1) ⊎ ⊥) → s v ≡ false
        go (inl i) = not-true (s v) (over_live s g f v ((o.calls v).0 i)).0.1
        go (inr (inl e)) = rw e f.one
        go (inr (inr e)) = absurd e

    -- A TOUR OVER THE ACTIVE VERTICES TOUCHES NO OTHER
    pub tour_free : Untouched s g t
    unfolding way
    tour_free k i e = by_cases (t k) (λ h. absurd (clash h)) (λ h. h)
      where
        clash : t k ≡ true → ⊥
        clash h =
            let m = along_ends g t 1 o.order 1 o.trip k (edges.each k (in_select t (up_to g.m) k i h)) in
            let z : touched s g k ≡ false = rw (called (g.a k) m.0, called (g.b k) m.1) in
            true≢false (sym e ∙ z)

    pub tour_reduced : Tour (reduced s g) t
    tour_reduced = tour_there t tour_free o

  -- THE TOURS
  pub tour_iff : (t : Edges) → TourOver s g t ↔ (Tour (reduced s g) t × Untouched s g t)
  tour_iff t = ((λ o. (tour_reduced t o, tour_free t o)), λ q. tour_back t q.1 q.0)
