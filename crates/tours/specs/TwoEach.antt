-- A 1-tree in which every vertex touches two edges is a tour. From vertex 1 a trip goes on along the other edge at each vertex that it
-- comes to; it closes before the vertices run out, and then it has them all, since the edges away from vertex 1 connect them.
use Rattle.std.specs.Prelude.{◌≡◌, ◌≢◌, ◌⊎◌, ◌&&◌, ◌||◌}
use Rattle.std.proofs.Math.Path.{refl, sym, subst}
use Rattle.std.proofs.Common.{◌∙◌, arith, eqb-true, eq-eqb}
use Rattle.std.proofs.Math.Logic.{inl, inr}
use Rattle.std.proofs.Math.Bool.{true, not}
use mathlib.Core.List.{List, [], ◌∷◌, ◌++◌}
use Prim.Native.Nat.{ℕ, zero, suc, ◌+◌, ◌≤◌}
use Rattle.std.proofs.Math.Decide.{ℕ_discrete}
use Rattle.std.proofs.Math.Dec.{eqb}
use Rattle.std.proofs.Math.ListN.{length}
use Rattle.std.proofs.lemmas.Bool.{eqb-false, not-true}
use Rattle.lists.specs.Bools.{and_both, or_case, or_left, or_right}
use Rattle.lists.specs.Members.{◌∈◌, in_either}
use Rattle.lists.specs.Select.{select, select_in, in_select}
use Rattle.lists.specs.Distinct.{Distinct, distinct-select}
use Rattle.lists.specs.Numbers.{up_to, up_to_in, distinct-up_to}
use Rattle.integers.specs.Sums.{more}
use Rattle.graph.specs.Network.{Network}
use Rattle.spanning.specs.Walks.{Walk, stay, along as forth, back as backwards}
use Rattle.tree_theory.specs.OneTree.{Edges, others, OneTree, at_one, away}
use Rattle.tree_theory.specs.Ranges.{tree-size}
use Rattle.tree_theory.specs.Valid.{Valid, others_in, in_others, length-others}
use Rattle.tours.specs.Tours.{degree, Ends, Joined, Trip, Tour}
use Rattle.tours.specs.Trips.{ends_turned, among_ends, distinct_end, along, along_in, along_ends, open_once}

-- three different members are more than two
three_members : (x y z : ℕ) (l : List ℕ) → x ≢ y → x ≢ z → y ≢ z → x ∈ l → y ∈ l → z ∈ l → 3 ≤ length l
three_members x y z l xy xz yz mx my mz =
    omega (arith, (more (x ∷ y ∷ z ∷ []) l (λ i. new₁ i, (λ i. new₂ i, (λ i. i, tt))) (λ k i. member k i)).size)
  where
    new₁ : (x ≡ y) ⊎ ((x ≡ z) ⊎ ⊥) → ⊥
    new₁ (inl e) = xy e
    new₁ (inr (inl e)) = xz e
    new₁ (inr (inr e)) = e

    new₂ : (y ≡ z) ⊎ ⊥ → ⊥
    new₂ (inl e) = yz e
    new₂ (inr e) = e

    member : (k : ℕ) → (k ≡ x) ⊎ ((k ≡ y) ⊎ ((k ≡ z) ⊎ ⊥)) → k ∈ l
    member k (inl e) = rw e mx
    member k (inr (inl e)) = rw e my
    member k (inr (inr (inl e))) = rw e mz
    member k (inr (inr (inr e))) = absurd e

-- of two members, the other one
other_member : (e : ℕ) (l : List ℕ) → Distinct l → length l ≡ 2 → (f : ℕ) × (f ∈ l) × (f ≢ e)
other_member e [] d h = absurd (let z : 0 ≡ 2 = h in omega arith)
other_member e (x ∷ []) d h = absurd (let z : 1 ≡ 2 = h in omega arith)
other_member e (x ∷ y ∷ l) d h = go (ℕ_discrete x e)
  where
    go : Dec (x ≡ e) → (f : ℕ) × (f ∈ (x ∷ y ∷ l)) × (f ≢ e)
    go (yes p) = (y, inr (inl refl), λ q. d.0 (inl (p ∙ sym q)))
    go (no p) = (x, inl refl, p)

abbrev Touches : Network → ℕ → ℕ → Type 0
Touches g k v = (g.a k ≡ v) ⊎ (g.b k ≡ v)

ends_touch : (g : Network) (k u v : ℕ) → Ends g k u v → Touches g k u × Touches g k v
ends_touch g k u v (inl e) = (inl e.0, inr e.1)
ends_touch g k u v (inr e) = (inr e.1, inl e.0)

touch_among : (g : Network) (k v : ℕ) (l : List ℕ) → Touches g k v → (g.a k ∈ l) × (g.b k ∈ l) → v ∈ l
touch_among g k v l (inl e) m = rw e at m.0
touch_among g k v l (inr e) m = rw e at m.1

-- ---- the edges of t at a vertex

module _ (g : Network) (t : Edges) where
  taken : List ℕ
  taken = select t (up_to g.m)

  star : ℕ → List ℕ
  star v = select (λ k. t k && (eqb (g.a k) v || eqb (g.b k) v)) (up_to g.m)

  in_star : (k v : ℕ) → k ∈ taken → Touches g k v → k ∈ star v
  unfolding star taken
  in_star k v m h =
      let i = select_in t (up_to g.m) k m in
      in_select (λ j. t j && (eqb (g.a j) v || eqb (g.b j) v)) (up_to g.m) k i.0 (rw i.1 (go h))
    where
      go : (g.a k ≡ v) ⊎ (g.b k ≡ v) → eqb (g.a k) v || eqb (g.b k) v ≡ true
      go (inl e) = or_left (eqb (g.a k) v) (eqb (g.b k) v) (eq-eqb (g.a k) v e)
      go (inr e) = or_right (eqb (g.a k) v) (eqb (g.b k) v) (eq-eqb (g.b k) v e)

  star_in : (k v : ℕ) → k ∈ star v → (k ∈ taken) × Touches g k v
  unfolding star taken
  star_in k v m =
      let i = select_in (λ j. t j && (eqb (g.a j) v || eqb (g.b j) v)) (up_to g.m) k m in
      let p = and_both (t k) (eqb (g.a k) v || eqb (g.b k) v) i.1 in
      (in_select t (up_to g.m) k i.0 p.0, go (or_case (eqb (g.a k) v) (eqb (g.b k) v) p.1))
    where
      go : (eqb (g.a k) v ≡ true) ⊎ (eqb (g.b k) v ≡ true) → Touches g k v
      go (inl e) = inl (eqb-true (g.a k) v e)
      go (inr e) = inr (eqb-true (g.b k) v e)

  star_once : (v : ℕ) → Distinct (star v)
  unfolding star
  star_once v = distinct-select _ (up_to g.m) (distinct-up_to g.m)

  -- ---- a trip and the vertices that it passes through

  -- its first edge is the only one of its edges at its first vertex
  first : (u : ℕ) (vs : List ℕ) (w : ℕ) → Trip g t u vs w → ℕ
  first u [] w j = j.edge
  first u (v ∷ vs) w j = j.0.edge

  first-at : (u : ℕ) (vs : List ℕ) (w : ℕ) (j : Trip g t u vs w) → (first u vs w j ∈ along g t u vs w j) × Touches g (first u vs w j) u
  unfolding along first
  first-at u [] w j = (inl refl, (ends_touch g j.edge u w j.ends).0)
  first-at u (v ∷ vs) w j = (inl refl, (ends_touch g j.0.edge u v j.0.ends).0)

  first_only : (u : ℕ) (vs : List ℕ) (w : ℕ) (j : Trip g t u vs w) → Distinct (u ∷ (vs ++ w ∷ []))
      → (k : ℕ) → k ∈ along g t u vs w j → Touches g k u → k ≡ first u vs w j
  unfolding along first
  first_only u [] w j d k (inl e) h = e
  first_only u [] w j d k (inr e) h = absurd e
  first_only u (v ∷ vs) w j d k (inl e) h = e
  first_only u (v ∷ vs) w j d k (inr m) h =
      absurd (d.0 (touch_among g k u (v ∷ (vs ++ w ∷ [])) h (along_ends g t v vs w j.1 k m)))

  -- two of its edges are at each vertex between
  record Passing (es : List ℕ) (x : ℕ) : Type 0 where
    one : ℕ
    two : ℕ
    apart : one ≢ two
    one_in : one ∈ es
    one_at : Touches g one x
    two_in : two ∈ es
    two_at : Touches g two x

  passing : (u : ℕ) (vs : List ℕ) (w : ℕ) (j : Trip g t u vs w) → Distinct (along g t u vs w j) → (x : ℕ) → x ∈ vs
      → Passing (along g t u vs w j) x
  unfolding along
  passing u [] w j d x m = absurd m
  passing u (v ∷ vs) w j d x (inl e) = record {
    one = j.0.edge;
    two = first v vs w j.1;
    apart = λ f. d.0 (rw f f₀.0);
    one_in = inl refl;
    one_at = rw e (ends_touch g j.0.edge u v j.0.ends).1;
    two_in = inr f₀.0;
    two_at = rw e f₀.1;
  }
    where
      f₀ : (first v vs w j.1 ∈ along g t v vs w j.1) × Touches g (first v vs w j.1) v
      f₀ = first-at v vs w j.1
  passing u (v ∷ vs) w j d x (inr m) = go (passing v vs w j.1 d.1 x m)
    where
      go : Passing (along g t v vs w j.1) x → Passing (along g t u (v ∷ vs) w j) x
      go r = record {
        one = r.one;
        two = r.two;
        apart = r.apart;
        one_in = inr r.one_in;
        one_at = r.one_at;
        two_in = inr r.two_in;
        two_at = r.two_at;
      }

  -- ---- every degree is two

  module _ (deg : (v : ℕ) → v ∈ up_to g.n → degree g t v ≡ 2) where
    star-two : (v : ℕ) → v ∈ up_to g.n → length (star v) ≡ 2
    unfolding star degree
    star-two v m = deg v m

    -- so the edges at a vertex that a trip passes through are the trip's
    on_trip : (u : ℕ) (vs : List ℕ) (w : ℕ) (j : Trip g t u vs w) → Distinct (along g t u vs w j) → (x : ℕ) → x ∈ vs → x ∈ up_to g.n
        → (k : ℕ) → k ∈ taken → Touches g k x → k ∈ along g t u vs w j
    unfolding taken
    on_trip u vs w j d x m mx k mk tk = go (ℕ_discrete k r.one) (ℕ_discrete k r.two)
      where
        r : Passing (along g t u vs w j) x
        r = passing u vs w j d x m

        at : (e : ℕ) → e ∈ along g t u vs w j → Touches g e x → e ∈ star x
        at e i te = in_star e x (along_in g t u vs w j e i) te

        go : Dec (k ≡ r.one) → Dec (k ≡ r.two) → k ∈ along g t u vs w j
        go (yes e) c = rw e r.one_in
        go (no e) (yes f) = rw f r.two_in
        go (no e) (no f) = absurd (let z : 3 ≤ length (star x) = three in omega (arith, star-two x mx))
          where
            three : 3 ≤ length (star x)
            three =
                three_members k r.one r.two (star x) e f r.apart (in_star k x mk tk)
                (at r.one r.one_in r.one_at) (at r.two r.two_in r.two_at)

    -- ---- a trip from vertex 1 that goes on until it is closed, seen from its last vertex

    record Path (u : ℕ) (vs : List ℕ) : Type 0 where
      trip : Trip g t u vs 1
      once : Distinct (u ∷ vs)
      inside : (v : ℕ) → v ∈ (u ∷ vs) → v ∈ others g

    record Closed : Type 0 where
      order : List ℕ
      some : (u : ℕ) × (u ∈ order)
      trip : Trip g t 1 order 1
      once : Distinct order
      inside : (v : ℕ) → v ∈ order → v ∈ others g
      edges : Distinct (along g t 1 order 1 trip)

    not-one : (l : List ℕ) → ((v : ℕ) → v ∈ l → v ∈ others g) → ¬ (1 ∈ l)
    not-one l h m = let z : 2 ≤ 1 = (others_in g 1 (h 1 m)).0 in omega arith

    vertex : (v : ℕ) → v ∈ others g → v ∈ up_to g.n
    vertex v m = let r = others_in g v m in up_to_in g.n v (omega (arith, r.0)) r.1

    module _ (vg : Valid g) where
      -- the other end of an edge at u
      record Other (k u : ℕ) : Type 0 where
        end : ℕ
        low : 1 ≤ end
        high : end ≤ g.n
        apart : end ≢ u
        ends : Ends g k u end

      other_end_lem : (k u : ℕ) → k ∈ up_to g.m → Touches g k u → Other k u
      other_end_lem k u m (inl e) = record {
        end = g.b k;
        low = omega (arith, vg.low k m, vg.apart k m);
        high = vg.high k m;
        apart = λ f. let z : g.b k ≡ g.a k = f ∙ sym e in omega (arith, vg.apart k m);
        ends = inl (e, refl);
      }
      other_end_lem k u m (inr e) = record {
        end = g.a k;
        low = vg.low k m;
        high = omega (arith, vg.apart k m, vg.high k m);
        apart = λ f. let z : g.a k ≡ g.b k = f ∙ sym e in omega (arith, vg.apart k m);
        ends = inr (refl, e);
      }

      next : (u : ℕ) (vs : List ℕ) → Path u vs → Closed ⊎ ((w : ℕ) × Path w (u ∷ vs))
      next u vs p = at (other_member (first u vs 1 p.trip) (star u) (star_once u) (star-two u (vertex u (p.inside u (inl refl)))))
        where
          apart : Distinct (u ∷ (vs ++ 1 ∷ []))
          apart = distinct_end (u ∷ vs) 1 p.once (not-one (u ∷ vs) p.inside)

          way_once : Distinct (along g t u vs 1 p.trip)
          way_once = open_once g t u vs 1 p.trip apart

          at : (f : ℕ) × (f ∈ star u) × (f ≢ first u vs 1 p.trip) → Closed ⊎ ((w : ℕ) × Path w (u ∷ vs))
          at r = side (other_end_lem r.0 u here.0 mine.1)
            where
              mine : (r.0 ∈ taken) × Touches g r.0 u
              mine = star_in r.0 u r.1

              here : (r.0 ∈ up_to g.m) × (t r.0 ≡ true)
              here = unfold taken in select_in t (up_to g.m) r.0 mine.0

              -- it is no edge of the trip
              new : ¬ (r.0 ∈ along g t u vs 1 p.trip)
              new m = r.2 (first_only u vs 1 p.trip apart r.0 m mine.1)

              side : Other r.0 u → Closed ⊎ ((w : ℕ) × Path w (u ∷ vs))
              side s = pick (ℕ_discrete s.end 1)
                where
                  edge : Joined g t s.end u
                  edge = record { edge = r.0; listed = here.0; taken = here.1; ends = ends_turned g r.0 u s.end s.ends }

                  met : s.end ∈ vs → ⊥
                  met m =
                      new (on_trip u vs 1 p.trip way_once s.end m (vertex s.end (p.inside s.end (inr m))) r.0 mine.0
                      (ends_touch g r.0 u s.end s.ends).1)

                  fresh : (s.end ≡ u) ⊎ (s.end ∈ vs) → ⊥
                  fresh (inl f) = s.apart f
                  fresh (inr m) = met m

                  pick : Dec (s.end ≡ 1) → Closed ⊎ ((w : ℕ) × Path w (u ∷ vs))
                  pick (yes e) =
                      inl (record {
                        order = u ∷ vs;
                        some = (u, inl refl);
                        trip = (closing, p.trip);
                        once = p.once;
                        inside = p.inside;
                        edges = unfold along in (new, way_once);
                      })
                    where
                      closing : Joined g t 1 u
                      closing = subst (λ (z : ℕ). Joined g t z u) e edge
                  pick (no e) = inr (s.end, record { trip = (edge, p.trip); once = (fresh, p.once); inside = λ v m. within v m })
                    where
                      within : (v : ℕ) → (v ≡ s.end) ⊎ (v ∈ (u ∷ vs)) → v ∈ others g
                      within v (inl f) = rw f (in_others g s.end (omega (arith, s.low)) s.high)
                      within v (inr m) = p.inside v m

      -- it is closed before the vertices run out
      grow : (fuel u : ℕ) (vs : List ℕ) → Path u vs → g.n ≤ fuel + length vs → Closed
      grow zero u vs p h =
          absurd (let z : suc 0 ≤ 0 = omega (
            arith,
            (more (u ∷ vs) (others g) p.once p.inside).size,
            length-others g (omega (arith, vg.big)),
          ) in omega arith)
      grow (suc fuel) u vs p h = go (next u vs p) (λ w q. grow fuel w (u ∷ vs) q (omega arith))
        where
          go : Closed ⊎ ((w : ℕ) × Path w (u ∷ vs)) → ((w : ℕ) → Path w (u ∷ vs) → Closed) → Closed
          go (inl c) below = c
          go (inr r) below = below r.0 r.1

      module _ (o : OneTree g t) where
        -- an edge at vertex 1 to begin with
        begin : (k : ℕ) × (k ∈ at_one g t)
        begin = go (at_one g t) o.two
          where
            go : (l : List ℕ) → length l ≡ 2 → (k : ℕ) × (k ∈ l)
            go [] h = absurd (let z : 0 ≡ 2 = h in omega arith)
            go (k ∷ l) h = (k, inl refl)

        closed : Closed
        unfolding at_one
        closed = grow g.n (g.b k) [] (record { trip = start; once = ((λ m. m), tt); inside = λ v m. go v m }) (omega arith)
          where
            k : ℕ
            k = begin.0

            i : (k ∈ up_to g.m) × (t k && eqb (g.a k) 1 ≡ true)
            i = select_in (λ j. t j && eqb (g.a j) 1) (up_to g.m) k begin.1

            start : Joined g t (g.b k) 1
            start =
                let p = and_both (t k) (eqb (g.a k) 1) i.1 in
                record { edge = k; listed = i.0; taken = p.0; ends = inr (eqb-true (g.a k) 1 p.1, refl) }

            go : (v : ℕ) → (v ≡ g.b k) ⊎ ⊥ → v ∈ others g
            go v (inl e) = rw e (in_others g (g.b k) (omega (arith, vg.low k i.0, vg.apart k i.0)) (vg.high k i.0))
            go v (inr e) = absurd e

        -- ---- the trip has every vertex, since the edges away from vertex 1 lead from each to each

        module _ (c : Closed) where
          stays : (e : ℕ) → e ∈ away g t → (x y : ℕ) → Ends g e x y → x ∈ c.order → y ∈ c.order
          unfolding away
          stays e m x y h mx =
              go (in_either y (1 ∷ c.order) (1 ∷ [])
              (among_ends g e x y (1 ∷ (c.order ++ 1 ∷ [])) h (along_ends g t 1 c.order 1 c.trip e mine)).1)
            where
              i : (e ∈ up_to g.m) × (t e && not (eqb (g.a e) 1) ≡ true)
              i = select_in (λ k. t k && not (eqb (g.a k) 1)) (up_to g.m) e m

              p : (t e ≡ true) × (not (eqb (g.a e) 1) ≡ true)
              p = and_both (t e) (not (eqb (g.a e) 1)) i.1

              mine : e ∈ along g t 1 c.order 1 c.trip
              mine =
                  on_trip 1 c.order 1 c.trip c.edges x mx (vertex x (c.inside x mx)) e
                  (unfold taken in in_select t (up_to g.m) e i.0 p.0) (ends_touch g e x y h).0

              far : 2 ≤ g.a e
              far = omega (arith, vg.low e i.0, eqb-false (g.a e) 1 (not-true (eqb (g.a e) 1) p.1))

              high : Ends g e x y → y ≢ 1
              high (inl q) f = omega (arith, far, q.1, vg.apart e i.0)
              high (inr q) f = omega (arith, far, q.0)

              go : ((y ≡ 1) ⊎ (y ∈ c.order)) ⊎ ((y ≡ 1) ⊎ ⊥) → y ∈ c.order
              go (inl (inl q)) = absurd (high h q)
              go (inl (inr q)) = q
              go (inr (inl q)) = absurd (high h q)
              go (inr (inr q)) = absurd q

          reach : {x v : ℕ} → Walk g.a g.b (away g t) x v → x ∈ c.order → v ∈ c.order
          reach stay m = m
          reach (forth e i w) m = reach w (stays e i (g.a e) (g.b e) (inl (refl, refl)) m)
          reach (backwards e i w) m = reach w (stays e i (g.b e) (g.a e) (inr (refl, refl)) m)

          every : (v : ℕ) → v ∈ others g → v ∈ c.order
          every v m = reach (o.joined c.some.0 v (c.inside c.some.0 c.some.1) m) c.some.1

          total : length (select t (up_to g.m)) ≡ g.n
          unfolding at_one away
          total = tree-size g t o

          as_tour : Tour g t
          as_tour = record { number = total; order = c.order; once = c.once; calls = λ v. (c.inside v, every v); trip = c.trip }

        -- A 1-TREE WITH ALL DEGREES TWO IS A TOUR
        pub degree_tour : Tour g t
        degree_tour = as_tour closed
