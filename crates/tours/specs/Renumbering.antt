-- One network under two numberings of its edges has the same tours, of the same costs: what the one has within a ceiling, the other has.
-- For 'both of one sea (its legs in any order)'.
use Rattle.std.specs.Prelude.{◌≡◌, refl, true, false, List, [], ◌∷◌, map, length, ℤ}
use Rattle.std.proofs.Math.Path.{sym, ap}
use Rattle.std.proofs.Common.{◌∙◌, subst, inl, inr, true≢false, arith}
use Prim.Native.Nat.{ℕ, ◌≤◌}
use Rattle.std.proofs.Math.Decide.{dec_le}
use Rattle.std.proofs.Math.ListN.{length-map}
use Rattle.lists.specs.Bools.{by_cases}
use Rattle.lists.specs.Members.{◌∈◌, in_map, of_map}
use Rattle.lists.specs.Select.{select, select_in, in_select}
use Rattle.lists.specs.Distinct.{Distinct, distinct-select}
use Rattle.lists.specs.Numbers.{up_to, up_to_in, in_up_to, distinct-up_to, length-up_to}
use Rattle.integers.specs.Sums.{Whole, fills, same_members, sum_map, sum_same}
use Rattle.graph.specs.Network.{Network, required, excluded}
use Rattle.tree_theory.specs.OneTree.{Edges, others}
use Rattle.tree_theory.specs.Valid.{others_in, in_others}
use Rattle.tours.specs.Orders.{elem, elem_in, in_elem}
use Rattle.tours.specs.Tours.{Ends, Joined, Trip, Tour, Allowed, cost, Feasible}
use Rattle.tours.specs.OneNetwork.{SameEdge, OneNetwork}

-- "no pair twice"
abbrev pub Simple : Network → Type 0
Simple g = (j k : ℕ) → j ∈ up_to g.m → k ∈ up_to g.m → g.a j ≡ g.a k → g.b j ≡ g.b k → j ≡ k

listed? : (m k : ℕ) → Dec (k ∈ up_to m)
listed? m k = go (dec_le 1 k) (dec_le k m)
  where
    go : Dec (1 ≤ k) → Dec (k ≤ m) → Dec (k ∈ up_to m)
    go (yes i) (yes j) = yes (up_to_in m k i j)
    go (no i) j = no (λ h. i (in_up_to m k h).0)
    go (yes i) (no j) = no (λ h. j (in_up_to m k h).1)

pub distinct-map : (f : ℕ → ℕ) (xs : List ℕ) → ((x y : ℕ) → x ∈ xs → y ∈ xs → f x ≡ f y → x ≡ y) → Distinct xs → Distinct (map f xs)
distinct-map f [] inj d = tt
distinct-map f (x ∷ xs) inj d = ((λ i. go (of_map f (f x) xs i)), distinct-map f xs (λ y z i j. inj y z (inr i) (inr j)) d.1)
  where
    go : (z : ℕ) × (z ∈ xs) × (f x ≡ f z) → ⊥
    go r = d.0 (subst (λ (w : ℕ). w ∈ xs) (sym (inj x r.0 (inl refl) (inr r.1) r.2)) r.1)

module _ (g h : Network) (o : OneNetwork g h) (simple : Simple g) where
  -- ---- the number in h of g's edge k

  number : ℕ → ℕ
  number k = elim (listed? g.m k) [ yes i ↦ (o.there k i).0 | no i ↦ 0 ]

  right : (k : ℕ) → k ∈ up_to g.m → (number k ∈ up_to h.m) × SameEdge g h k (number k)
  unfolding number
  right k i = go (listed? g.m k)
    where
      go : (d : Dec (k ∈ up_to g.m))
          → let j : ℕ = elim d as (λ z. ℕ) [ yes l ↦ (o.there k l).0 | no l ↦ 0 ] in (j ∈ up_to h.m) × SameEdge g h k j
      go (yes l) = ((o.there k l).1, (o.there k l).2)
      go (no l) = absurd (l i)

  same : (k : ℕ) → k ∈ up_to g.m → SameEdge g h k (number k)
  same k m = (right k m).1

  injective : (j k : ℕ) → j ∈ up_to g.m → k ∈ up_to g.m → number j ≡ number k → j ≡ k
  injective j k mj mk e =
      simple j k mj mk (sym (same j mj).a ∙ ap h.a e ∙ (same k mk).a) (sym (same j mj).b ∙ ap h.b e ∙ (same k mk).b)

  -- every edge of h is one of g's
  whole : Whole (map number (up_to g.m)) (up_to h.m)
  whole =
      fills (map number (up_to g.m)) (up_to h.m) (distinct-map number (up_to g.m) injective (distinct-up_to g.m))
      (λ l q. there l (of_map number l (up_to g.m) q))
      (omega (arith, length-map (up_to g.m) number, length-up_to g.m, length-up_to h.m, o.m))
    where
      there : (l : ℕ) → (k : ℕ) × (k ∈ up_to g.m) × (l ≡ number k) → l ∈ up_to h.m
      there l r = rw r.2 (right r.0 r.1).0

  back : (j : ℕ) → j ∈ up_to h.m → (k : ℕ) × (k ∈ up_to g.m) × (j ≡ number k)
  back j i = of_map number j (up_to g.m) (whole.each j i)

  pub one_sym : OneNetwork h g
  one_sym = record { n = sym o.n; m = sym o.m; there = λ j i. go j (back j i) }
    where
      go : (j : ℕ) → (k : ℕ) × (k ∈ up_to g.m) × (j ≡ number k) → (k : ℕ) × (k ∈ up_to g.m) × SameEdge h g j k
      go j r =
          let s : SameEdge g h r.0 (number r.0) = same r.0 r.1 in
          let e : number r.0 ≡ j = sym r.2 in (
            r.0,
            r.1,
            record {
              a = sym s.a ∙ ap h.a e;
              b = sym s.b ∙ ap h.b e;
              cost = sym s.cost ∙ ap h.cost e;
              mark = sym s.mark ∙ ap h.mark e;
            },
          )

  -- ---- a tour of g, in h's numbers

  module _ (t : Edges) where
    taken : List ℕ
    taken = select t (up_to g.m)

    pub renumbered : Edges
    renumbered j = elem j (map number taken)

    mine : (j : ℕ) → j ∈ map number taken → (k : ℕ) × (k ∈ up_to g.m) × (t k ≡ true) × (j ≡ number k)
    unfolding taken
    mine j i =
        let r = of_map number j taken i in
        let s = select_in t (up_to g.m) r.0 r.1 in
        (r.0, s.0, s.1, r.2)

    has : (k : ℕ) → k ∈ up_to g.m → t k ≡ true → renumbered (number k) ≡ true
    unfolding taken renumbered
    has k i e = elem_in (number k) (map number taken) (in_map number k taken (in_select t (up_to g.m) k i e))

    edges : Whole (map number taken) (select renumbered (up_to h.m))
    unfolding taken renumbered
    edges =
        same_members (map number taken) (select renumbered (up_to h.m))
        (distinct-map number taken once (distinct-select t (up_to g.m) (distinct-up_to g.m)))
        (distinct-select renumbered (up_to h.m) (distinct-up_to h.m))
        (λ j i. in_select renumbered (up_to h.m) j (place j (mine j i)) (elem_in j (map number taken) i))
        (λ j i. in_elem j (map number taken) (select_in renumbered (up_to h.m) j i).1)
      where
        once : (j k : ℕ) → j ∈ select t (up_to g.m) → k ∈ select t (up_to g.m) → number j ≡ number k → j ≡ k
        once j k i l = injective j k (select_in t (up_to g.m) j i).0 (select_in t (up_to g.m) k l).0

        place : (j : ℕ) → (k : ℕ) × (k ∈ up_to g.m) × (t k ≡ true) × (j ≡ number k) → j ∈ up_to h.m
        place j r = rw r.3 (right r.0 r.1).0

    pub size_same : length (select renumbered (up_to h.m)) ≡ length (select t (up_to g.m))
    unfolding taken
    size_same = edges.size ∙ length-map taken number

    pub cost-same : cost h renumbered ≡ cost g t
    unfolding cost taken
    cost-same =
        edges.sum h.cost
        ∙ sum_map h.cost number taken
        ∙ sum_same (λ k. h.cost (number k)) g.cost taken (λ k i. (same k (select_in t (up_to g.m) k i).0).cost)

    ends_same : (k u v : ℕ) → k ∈ up_to g.m → Ends g k u v → Ends h (number k) u v
    ends_same k u v i (inl e) = inl ((same k i).a ∙ e.0, (same k i).b ∙ e.1)
    ends_same k u v i (inr e) = inr ((same k i).a ∙ e.0, (same k i).b ∙ e.1)

    joined_same : (u v : ℕ) → Joined g t u v → Joined h renumbered u v
    joined_same u v j = record {
      edge = number j.edge;
      listed = (right j.edge j.listed).0;
      taken = has j.edge j.listed j.taken;
      ends = ends_same j.edge u v j.listed j.ends;
    }

    pub trip_same : (u : ℕ) (vs : List ℕ) (w : ℕ) → Trip g t u vs w → Trip h renumbered u vs w
    trip_same u [] w j = joined_same u w j
    trip_same u (v ∷ vs) w j = (joined_same u v j.0, trip_same v vs w j.1)

    tour_same : Tour g t → Tour h renumbered
    unfolding taken
    tour_same q = record {
      number = size_same ∙ q.number ∙ sym o.n;
      order = q.order;
      once = q.once;
      calls = λ v. ((λ i. there v ((q.calls v).0 i)), λ i. (q.calls v).1 (back_to v i));
      trip = trip_same 1 q.order 1 q.trip;
    }
      where
        there : (v : ℕ) → v ∈ others g → v ∈ others h
        there v i = let r = others_in g v i in in_others h v r.0 (omega (arith, r.1, o.n))

        back_to : (v : ℕ) → v ∈ others h → v ∈ others g
        back_to v i = let r = others_in h v i in in_others g v r.0 (omega (arith, r.1, o.n))

    pub allowed_same : Allowed g t → Allowed h renumbered
    unfolding renumbered
    allowed_same al = record { keeps = λ j i e. keep j e (back j i); avoids = λ j i e. avoid j e }
      where
        marked : (j k : ℕ) → k ∈ up_to g.m → j ≡ number k → g.mark k ≡ h.mark j
        marked j k i e = sym (same k i).mark ∙ ap h.mark (sym e)

        keep : (j : ℕ) → h.mark j ≡ required → (k : ℕ) × (k ∈ up_to g.m) × (j ≡ number k) → renumbered j ≡ true
        keep j e r = ap renumbered r.2 ∙ has r.0 r.1 (al.keeps r.0 r.1 (marked j r.0 r.1 r.2 ∙ e))

        avoid : (j : ℕ) → h.mark j ≡ excluded → renumbered j ≡ false
        avoid j e = by_cases (renumbered j) (λ f. absurd (go (mine j (in_elem j (map number taken) f)))) (λ f. f)
          where
            go : (k : ℕ) × (k ∈ up_to g.m) × (t k ≡ true) × (j ≡ number k) → ⊥
            go r = true≢false (sym r.2 ∙ al.avoids r.0 r.1 (marked j r.0 r.1 r.3 ∙ e))

    pub renumbered_same : (ceiling : ℤ) → Feasible g ceiling t → Feasible h ceiling renumbered × (cost h renumbered ≡ cost g t)
    renumbered_same ceiling s = (
      record {
        tour = tour_same s.tour;
        allowed = allowed_same s.allowed;
        cheap = rw cost-same s.cheap;
      },
      cost-same,
    )
