-- The machine's test for a tour passes exactly the tours.
use Rattle.std.specs.Prelude.{◌≡◌, ◌⊎◌, not, ◌&&◌, ◌||◌}
use Rattle.std.proofs.Math.Path.{refl}
use Rattle.std.proofs.Common.{inl, inr, arith}
use Rattle.std.proofs.Math.Bool.{Bool, true, false}
use Rattle.std.proofs.lemmas.Bool.{false≢true}
use mathlib.Core.List.{List, [], ◌∷◌}
use Prim.Native.Nat.{ℕ, ◌-◌, ◌≤◌}
use Rattle.std.proofs.Math.Decide.{dec_le}
use Rattle.std.proofs.Math.Dec.{eqb}
use Rattle.std.proofs.Math.ListN.{length}
use borrow.Author.Tests.{eqb-true, eq-eqb}
use Rattle.lists.specs.Bools.{and_both, or_case, or_left, or_right}
use Rattle.lists.specs.Members.{◌∈◌}
use Rattle.lists.specs.All.{some_of, some_of_in, in_some_of}
use Rattle.lists.specs.Select.{select}
use Rattle.lists.specs.Numbers.{up_to}
use Rattle.lists.specs.Same.{shuffle_same, shuffle_length}
use Rattle.integers.specs.Sums.{Whole, fills}
use Rattle.graph.specs.Network.{Network}
use Rattle.tree_theory.specs.OneTree.{Edges, others}
use Rattle.tree_theory.specs.Valid.{length-others, distinct-others}
use Rattle.tours.specs.Orders.{distinct, distinct_is, is_distinct, words, words_in, in_words}
use Rattle.tours.specs.Tours.{Ends, Joined, Trip, Tour, is_joined, is_trip, is_tour}

no_others : (n : ℕ) → n ≡ 0 → length (select (λ v. not (eqb v 1)) (up_to n)) ≡ n - 1
unfolding select up_to
no_others n e = rw e refl

-- how many vertices there are other than vertex 1
others-size : (g : Network) → length (others g) ≡ g.n - 1
unfolding others
others-size g = go (dec_le 1 g.n)
  where
    go : Dec (1 ≤ g.n) → length (others g) ≡ g.n - 1
    go (yes h) = omega (arith, length-others g h)
    go (no h) = no_others g.n (omega arith)

module _ (g : Network) (t : Edges) where
  is_ends : ℕ → ℕ → ℕ → Bool
  is_ends u v k = (eqb (g.a k) u && eqb (g.b k) v) || (eqb (g.a k) v && eqb (g.b k) u)

  ends_is : (k u v : ℕ) → is_ends u v k ≡ true → Ends g k u v
  unfolding is_ends
  ends_is k u v h = go (or_case (eqb (g.a k) u && eqb (g.b k) v) (eqb (g.a k) v && eqb (g.b k) u) h)
    where
      both : (x y : ℕ) → eqb (g.a k) x && eqb (g.b k) y ≡ true → (g.a k ≡ x) × (g.b k ≡ y)
      both x y e = let r = and_both (eqb (g.a k) x) (eqb (g.b k) y) e in (eqb-true (g.a k) x r.0, eqb-true (g.b k) y r.1)

      go : (eqb (g.a k) u && eqb (g.b k) v ≡ true) ⊎ (eqb (g.a k) v && eqb (g.b k) u ≡ true) → Ends g k u v
      go (inl e) = inl (both u v e)
      go (inr e) = inr (both v u e)

  is_ends_lem : (k u v : ℕ) → Ends g k u v → is_ends u v k ≡ true
  unfolding is_ends
  is_ends_lem k u v (inl e) =
      or_left (eqb (g.a k) u && eqb (g.b k) v) _ (rw (eq-eqb (g.a k) u e.0, eq-eqb (g.b k) v e.1))
  is_ends_lem k u v (inr e) =
      or_right (eqb (g.a k) u && eqb (g.b k) v) _ (rw (eq-eqb (g.a k) v e.0, eq-eqb (g.b k) u e.1))

  joined_is : (u v : ℕ) → is_joined g t u v ≡ true → Joined g t u v
  unfolding is_joined is_ends
  joined_is u v h =
      let r = some_of_in (λ k. t k && is_ends u v k) (up_to g.m) h in
      let s = and_both (t r.0) (is_ends u v r.0) r.2 in
      record { edge = r.0; listed = r.1; taken = s.0; ends = ends_is r.0 u v s.1 }

  is_joined_lem : (u v : ℕ) → Joined g t u v → is_joined g t u v ≡ true
  unfolding is_joined is_ends
  is_joined_lem u v j =
      in_some_of (λ k. t k && is_ends u v k) (up_to g.m) j.edge j.listed (rw j.taken (is_ends_lem j.edge u v j.ends))

  pub trip_is : (u : ℕ) (vs : List ℕ) (w : ℕ) → is_trip g t u vs w ≡ true → Trip g t u vs w
  unfolding is_trip
  trip_is u [] w h = joined_is u w h
  trip_is u (v ∷ vs) w h = go (is_joined g t u v) refl h (trip_is v vs w)
    where
      go : (b : Bool) → is_joined g t u v ≡ b → (elim b as (λ z. Bool) [ true ↦ is_trip g t v vs w | false ↦ false ]) ≡ true
          → (is_trip g t v vs w ≡ true → Trip g t v vs w) → Joined g t u v × Trip g t v vs w
      go true e i below = (joined_is u v e, below i)
      go false e i below = absurd (false≢true i)

  pub is_trip_lem : (u : ℕ) (vs : List ℕ) (w : ℕ) → Trip g t u vs w → is_trip g t u vs w ≡ true
  unfolding is_trip
  is_trip_lem u [] w j = is_joined_lem u w j
  is_trip_lem u (v ∷ vs) w j = rw (is_joined_lem u v j.0, is_trip) (is_trip_lem v vs w j.1)

  pub test_tour : is_tour g t ≡ true → Tour g t
  unfolding is_tour
  test_tour h = record {
    number = eqb-true (length (select t (up_to g.m))) g.n p.0;
    order = r.0;
    once = distinct_is r.0 s.0;
    calls = λ v. (word.1 v, whole.each v);
    trip = trip_is 1 r.0 1 s.1;
  }
    where
      tried : List ℕ → Bool
      tried vs = distinct vs && is_trip g t 1 vs 1

      p : (eqb (length (select t (up_to g.m))) g.n ≡ true) × (some_of tried (words (g.n - 1) (others g)) ≡ true)
      p = and_both (eqb (length (select t (up_to g.m))) g.n) (some_of tried (words (g.n - 1) (others g))) h

      r : (vs : List ℕ) × (vs ∈ words (g.n - 1) (others g)) × (distinct vs && is_trip g t 1 vs 1 ≡ true)
      r = some_of_in tried (words (g.n - 1) (others g)) p.1

      s : (distinct r.0 ≡ true) × (is_trip g t 1 r.0 1 ≡ true)
      s = and_both (distinct r.0) (is_trip g t 1 r.0 1) r.2

      word : (length r.0 ≡ g.n - 1) × ((v : ℕ) → v ∈ r.0 → v ∈ others g)
      word = in_words (g.n - 1) (others g) r.0 r.1

      whole : Whole r.0 (others g)
      whole =
          fills r.0 (others g) (distinct_is r.0 s.0) word.1
          (omega (arith, word.0, others-size g))

  pub tour_test : Tour g t → is_tour g t ≡ true
  unfolding is_tour
  tour_test o =
      rw (eq-eqb (length (select t (up_to g.m))) g.n o.number)
      (in_some_of (λ vs. distinct vs && is_trip g t 1 vs 1) (words (g.n - 1) (others g)) o.order
      (words_in (g.n - 1) (others g) o.order (omega (arith, size, others-size g)) (λ v m. (o.calls v).0 m))
      (rw (is_distinct o.order o.once) (is_trip_lem 1 o.order 1 o.trip)))
    where
      size : length (others g) ≡ length o.order
      size = shuffle_length (shuffle_same o.order (others g) o.once (distinct-others g) (λ v m. (o.calls v).0 m) (λ v m. (o.calls v).1 m))
