-- AN ALLOWED TOUR IS A 1-TREE, AND ITS BOUND IS ITS COST, whatever the multipliers: its edges at vertex 1 are two, the others lead from
-- each other vertex to each, and over the edges' ends every vertex counts twice. This is why rulings by 1-trees lose no tour.
use Rattle.std.specs.Prelude.{◌≡◌, ◌⊎◌, true, ◌&&◌, ℤ, pos, ◌+ℤ◌, ◌-ℤ◌, ◌*ℤ◌, neg_ℤ}
use Rattle.std.proofs.Math.Path.{refl, sym, ap}
use Rattle.std.proofs.Common.{◌∙◌, arith, length-append}
use Rattle.std.proofs.Math.Logic.{inl, inr}
use Rattle.std.proofs.Math.Bool.{not}
use mathlib.Core.List.{List, [], ◌∷◌}
use Prim.Native.Nat.{ℕ, suc, ◌+◌, ◌≤◌}
use Rattle.std.proofs.Math.Decide.{ℕ_discrete}
use Rattle.std.proofs.Math.Dec.{eqb}
use Rattle.std.proofs.Math.ListN.{length}
use Rattle.std.proofs.Math.IntN.{+ℤ_assoc, +ℤ_comm, +ℤ_idr, +ℤ_invr}
use borrow.Author.Tests.{eq-eqb, ne_eqb}
use Rattle.lists.specs.Members.{◌∈◌}
use Rattle.lists.specs.Select.{select, in_select, split_length}
use Rattle.lists.specs.Distinct.{Distinct}
use Rattle.lists.specs.Numbers.{up_to, up_to_in, in_up_to, distinct-up_to, length-up_to}
use Rattle.integers.specs.Sums.{sum_z, left_comm, sum_plus, sum_same, Whole, fills, more, same_members, twice}
use Rattle.graph.specs.Network.{Network}
use Rattle.spanning.specs.Walks.{Walk, stay, along as forth, back, walk_trans, walk_sym}
use Rattle.spanning.specs.Components.{rank-le}
use Rattle.spanning.specs.Connected.{joined_rank}
use Rattle.tree_theory.specs.OneTree.{Edges, others, OneTree, at_one, away, charge, bound}
use Rattle.tree_theory.specs.Valid.{Valid, others_in, in_others, two_in, distinct-others, length-others}
use Rattle.tree_theory.specs.Looking.{away_ends}
use Rattle.tours.specs.Tours.{Ends, Joined, Trip, Tour, Allowed, cost}
use Rattle.tours.specs.Trips.{ends_turned, along, along-length, along_in, trip_once, at_ends, along_sum}

module _ (g : Network) (vg : Valid g) (t : Edges) (tour : Tour g t) where
  at : (v : ℕ) → v ∈ tour.order → (2 ≤ v) × (v ≤ g.n)
  at v m = others_in g v ((tour.calls v).0 m)

  not-one : ¬ (1 ∈ tour.order)
  not-one m = let z : 2 ≤ 1 = (at 1 m).0 in omega arith

  -- ---- the vertices: vertex 1 and those on the way are all

  vertices : Whole (1 ∷ tour.order) (up_to g.n)
  vertices =
      same_members (1 ∷ tour.order) (up_to g.n) (not-one, tour.once) (distinct-up_to g.n)
      (λ k m. there k m) (λ k m. pick k m (ℕ_discrete k 1))
    where
      there : (k : ℕ) → (k ≡ 1) ⊎ (k ∈ tour.order) → k ∈ up_to g.n
      there k (inl e) = up_to_in g.n k (omega arith) (omega (arith, vg.big))
      there k (inr m) = up_to_in g.n k (omega (arith, (at k m).0)) (at k m).1

      pick : (k : ℕ) → k ∈ up_to g.n → Dec (k ≡ 1) → (k ≡ 1) ⊎ (k ∈ tour.order)
      pick k m (yes e) = inl e
      pick k m (no e) =
          let r = in_up_to g.n k m in inr ((tour.calls k).1 (in_others g k (omega (arith, r.0)) r.1))

  pub order_length : suc (length tour.order) ≡ g.n
  order_length = sym vertices.size ∙ length-up_to g.n

  -- ---- the edges: those along the trip are all

  pub way : List ℕ
  way = along g t 1 tour.order 1 tour.trip

  way_once : Distinct way
  unfolding way
  way_once = trip_once g t 1 tour.order tour.trip tour.once not-one (omega (arith, order_length, vg.big))

  edges : Whole way (select t (up_to g.m))
  unfolding way
  edges =
      fills way (select t (up_to g.m)) way_once (along_in g t 1 tour.order 1 tour.trip)
      (omega (arith, tour.number, order_length, along-length g t 1 tour.order 1 tour.trip))

  -- ---- summed over the edges' ends, each vertex counts twice

  pub twice_each : (d : ℕ → ℤ) → sum_z (at_ends g t d) (select t (up_to g.m)) ≡ pos 2 *ℤ sum_z d (up_to g.n)
  unfolding way sum_z
  twice_each d =
      edges.sum (at_ends g t d)
      ∙ along_sum g t d 1 tour.order 1 tour.trip
      ∙ regroup (d 1) (sum_z d tour.order)
      ∙ sym (ap (λ (z : ℤ). z +ℤ z) (vertices.sum d))
      ∙ sym (twice (sum_z d (up_to g.n)))
    where
      regroup : (p s : ℤ) → p +ℤ ((s +ℤ s) +ℤ p) ≡ (p +ℤ s) +ℤ (p +ℤ s)
      regroup p s =
          simp (+ℤ_assoc, left_comm) (ap (λ (z : ℤ). p +ℤ z) (ap (λ (z : ℤ). s +ℤ z) (+ℤ_comm s p) ∙ left_comm s p s))

  -- THE BOUND OF A TOUR IS ITS COST
  pub bound_is_cost : (d : ℕ → ℤ) → bound g d t ≡ cost g t
  unfolding bound cost charge
  bound_is_cost d =
      ap (λ (z : ℤ). z -ℤ two) (charged ∙ ap (λ (z : ℤ). sum_z g.cost es +ℤ z) (twice_each d))
      ∙ +ℤ_assoc (sum_z g.cost es) two (neg_ℤ two)
      ∙ ap (λ (z : ℤ). sum_z g.cost es +ℤ z) (+ℤ_invr two)
      ∙ +ℤ_idr _
    where
      es : List ℕ
      es = select t (up_to g.m)

      two : ℤ
      two = pos 2 *ℤ sum_z d (up_to g.n)

      charged : sum_z (charge g d) es ≡ sum_z g.cost es +ℤ sum_z (at_ends g t d) es
      charged =
          sum_same (charge g d) (λ k. g.cost k +ℤ at_ends g t d k) es (λ k m. +ℤ_assoc (g.cost k) (d (g.a k)) (d (g.b k)))
          ∙ sum_plus g.cost (at_ends g t d) es

  -- ---- the edges away from vertex 1 lead along the trip, so they are n − 2 at least

  far-walk : (k u v : ℕ) → k ∈ away g t → Ends g k u v → Walk g.a g.b (away g t) u v
  far-walk k u v m (inl h) = rw (← h.0, ← h.1) (forth k m stay)
  far-walk k u v m (inr h) = rw (← h.0, ← h.1) (back k m stay)

  step-away : (u v : ℕ) → 2 ≤ u → 2 ≤ v → Joined g t u v → Walk g.a g.b (away g t) u v
  unfolding away
  step-away u v hu hv j = far-walk j.edge u v (go j.ends) j.ends
    where
      far : 2 ≤ g.a j.edge → j.edge ∈ away g t
      far h =
          in_select (λ k. t k && not (eqb (g.a k) 1)) (up_to g.m) j.edge j.listed
          (rw (j.taken, ne_eqb (g.a j.edge) 1 (omega arith)))

      go : Ends g j.edge u v → j.edge ∈ away g t
      go (inl h) = far (omega (arith, h.0))
      go (inr h) = far (omega (arith, h.0))

  walk_to : (u : ℕ) (vs : List ℕ) (w : ℕ) → 2 ≤ u → ((v : ℕ) → v ∈ vs → 2 ≤ v) → Trip g t u vs w
      → (v : ℕ) → v ∈ vs → Walk g.a g.b (away g t) u v
  walk_to u [] w hu h j v m = absurd m
  walk_to u (x ∷ vs) w hu h j v (inl e) = rw e (step-away u x hu (h x (inl refl)) j.0)
  walk_to u (x ∷ vs) w hu h j v (inr m) =
      walk_trans g.a g.b (step-away u x hu (h x (inl refl)) j.0)
      (walk_to x vs w (h x (inl refl)) (λ z i. h z (inr i)) j.1 v m)

  walks : (u v : ℕ) → u ∈ tour.order → v ∈ tour.order → Walk g.a g.b (away g t) u v
  walks u v mu mv = go tour.order tour.trip (λ x m. (at x m).0) mu mv
    where
      go : (vs : List ℕ) → Trip g t 1 vs 1 → ((x : ℕ) → x ∈ vs → 2 ≤ x) → u ∈ vs → v ∈ vs → Walk g.a g.b (away g t) u v
      go [] j h iu iv = absurd iu
      go (x ∷ vs) j h iu iv = walk_trans g.a g.b (walk_sym g.a g.b (to u iu)) (to v iv)
        where
          to : (z : ℕ) → (z ≡ x) ⊎ (z ∈ vs) → Walk g.a g.b (away g t) x z
          to z (inl e) = rw e stay
          to z (inr m) = walk_to x vs 1 (h x (inl refl)) (λ y i. h y (inr i)) j.1 z m

  joined : (u v : ℕ) → u ∈ others g → v ∈ others g → Walk g.a g.b (away g t) u v
  joined u v mu mv = walks u v ((tour.calls u).1 mu) ((tour.calls v).1 mv)

  many : g.n ≤ 2 + length (away g t)
  many =
      omega (
        arith,
        joined_rank g.a g.b (others g) (away g t) (distinct-others g) (away_ends g vg t) 2 (two_in g vg) joined,
        rank-le g.a g.b (away g t),
        length-others g (omega (arith, vg.big)),
      )

  -- ---- the first and the last edge of the trip are two edges at vertex 1

  is_one : (k v : ℕ) → k ∈ up_to g.m → t k ≡ true → 2 ≤ v → Ends g k 1 v → k ∈ at_one g t
  unfolding at_one
  is_one k v m h l (inl e) = in_select (λ j. t j && eqb (g.a j) 1) (up_to g.m) k m (rw (h, eq-eqb (g.a k) 1 e.0))
  is_one k v m h l (inr e) = absurd (let z : suc 0 ≤ 0 = omega (arith, vg.apart k m, e.0, e.1) in omega arith)

  record Last (u : ℕ) (vs : List ℕ) (w : ℕ) (j : Trip g t u vs w) : Type 0 where
    before : ℕ
    before_in : before ∈ (u ∷ vs)
    step : Joined g t before w
    on_way_lem : step.edge ∈ along g t u vs w j

  last : (u : ℕ) (vs : List ℕ) (w : ℕ) (j : Trip g t u vs w) → Last u vs w j
  unfolding along
  last u [] w j = record { before = u; before_in = inl refl; step = j; on_way_lem = inl refl }
  last u (x ∷ vs) w j = go (last x vs w j.1)
    where
      go : Last x vs w j.1 → Last u (x ∷ vs) w j
      go r = record { before = r.before; before_in = inr r.before_in; step = r.step; on_way_lem = inr r.on_way_lem }

  pair : 2 ≤ length (at_one g t)
  unfolding way along
  pair = go tour.order tour.trip (λ x m. (at x m).0) way_once (omega (arith, order_length, vg.big))
    where
      go : (vs : List ℕ) (j : Trip g t 1 vs 1) → ((x : ℕ) → x ∈ vs → 2 ≤ x) → Distinct (along g t 1 vs 1 j) → 2 ≤ length vs
          → 2 ≤ length (at_one g t)
      go [] j h d l = absurd (let z : 2 ≤ 0 = l in omega arith)
      go (v ∷ vs) j h d l = ends (last v vs 1 j.1)
        where
          ends : Last v vs 1 j.1 → 2 ≤ length (at_one g t)
          ends r = omega (arith, (more (first ∷ r.step.edge ∷ []) (at_one g t) (new, (λ m. m, tt)) (λ k m. member k m)).size)
            where
              first : ℕ
              first = j.0.edge

              new : (first ≡ r.step.edge) ⊎ ⊥ → ⊥
              new (inl e) = d.0 (rw e r.on_way_lem)
              new (inr e) = e

              member : (k : ℕ) → (k ≡ first) ⊎ ((k ≡ r.step.edge) ⊎ ⊥) → k ∈ at_one g t
              member k (inl e) = rw e (is_one first v j.0.listed j.0.taken (h v (inl refl)) j.0.ends)
              member k (inr (inl e)) =
                  rw e (is_one r.step.edge r.before r.step.listed r.step.taken (h r.before r.before_in)
                  (ends_turned g r.step.edge r.before 1 r.step.ends))
              member k (inr (inr e)) = absurd e

  total : length (at_one g t) + length (away g t) ≡ g.n
  unfolding at_one away
  total = sym (length-append (at_one g t) (away g t)) ∙ split_length t (λ k. eqb (g.a k) 1) (up_to g.m) ∙ tour.number

  -- AN ALLOWED TOUR IS A 1-TREE
  pub tour_tree : Allowed g t → OneTree g t
  tour_tree allowed = record {
    two = omega (arith, total, pair, many);
    rest = omega (arith, total, pair, many);
    joined = joined;
    keeps = allowed.keeps;
    avoids = allowed.avoids;
  }
