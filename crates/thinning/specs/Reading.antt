-- What is read of a tree, t in old numbers and r in new ones: degrees, and whether it is a tour.
use Rattle.std.specs.Prelude.{◌≡◌, Bool, ◌&&◌, ◌||◌, length}
use Rattle.std.proofs.Math.Path.{refl, ap}
use Rattle.std.proofs.Common.{◌∙◌, inl, inr}
use Rattle.std.proofs.Math.Bool.{true, false}
use mathlib.Core.List.{List, [], ◌∷◌}
use Prim.Native.Nat.{ℕ, ◌-◌}
use Rattle.std.proofs.Math.Dec.{eqb}
use Rattle.std.proofs.lemmas.List.{length-map}
use Rattle.lists.specs.Bools.{and_no_left}
use Rattle.lists.specs.Members.{◌∈◌}
use Rattle.lists.specs.All.{some_of}
use Rattle.lists.specs.Select.{select, select_cong}
use Rattle.lists.specs.Numbers.{up_to}
use Rattle.graph.specs.Network.{Network}
use Rattle.tree_theory.specs.OneTree.{Edges, others}
use Rattle.tree_theory.specs.Agree.{Agree}
use Rattle.tours.specs.Orders.{distinct, words}
use Rattle.tours.specs.Tours.{degree, is_joined, is_trip, is_tour}
use Rattle.thinning.specs.Ranks.{rank, nth, nth_in, down, Only, select-thin, some_of-thin}
use Rattle.thinning.specs.Thinned.{thin, spread, spread_only, spread-down}

some_of_cong : (f h : ℕ → Bool) (xs : List ℕ) → ((k : ℕ) → k ∈ xs → f k ≡ h k) → some_of f xs ≡ some_of h xs
unfolding some_of
some_of_cong f h [] e = refl
some_of_cong f h (x ∷ xs) e =
    λ i. elim (e x (inl refl) i) as (λ z. Bool) [ true ↦ true | false ↦ some_of_cong f h xs (λ k m. e k (inr m)) i ]

module _ (c : Edges) (g : Network) (t r : Edges) (same : Agree g.m t (spread c r)) where
  pub same_only : Only c g.m t
  same_only k i e = same k i ∙ spread_only c g r k i e

  pub same-down : Agree (rank c g.m) (down c g.m t) r
  same-down j i = same (nth c g.m j) (nth_in c g.m j i) ∙ spread-down c g r j i

  -- of those in the tree that pass another test
  module _ (p : ℕ → Bool) where
    both_only : Only c g.m (λ k. t k && p k)
    both_only k i e = and_no_left (t k) (p k) (same_only k i e)

    both-new : (j : ℕ) → j ∈ up_to (rank c g.m) → t (nth c g.m j) && p (nth c g.m j) ≡ r j && p (nth c g.m j)
    both-new j i = ap (λ (b : Bool). b && p (nth c g.m j)) (same-down j i)

    number-thin : length (select (λ k. t k && p k) (up_to g.m)) ≡ length (select (λ j. r j && p (nth c g.m j)) (up_to (rank c g.m)))
    number-thin =
        ap length (select-thin c g.m (λ k. t k && p k) both_only)
        ∙ length-map (select (λ j. t (nth c g.m j) && p (nth c g.m j)) (up_to (rank c g.m))) (nth c g.m)
        ∙ ap length (select_cong _ _ (up_to (rank c g.m)) both-new)

    some_thin : some_of (λ k. t k && p k) (up_to g.m) ≡ some_of (λ j. r j && p (nth c g.m j)) (up_to (rank c g.m))
    some_thin =
        some_of-thin c g.m (λ k. t k && p k) both_only
        ∙ some_of_cong _ _ (up_to (rank c g.m)) both-new

  pub degree-thin : (v : ℕ) → degree g t v ≡ degree (thin c g) r v
  unfolding degree
  degree-thin v = number-thin (λ k. eqb (g.a k) v || eqb (g.b k) v)

  joined_thin : (u v : ℕ) → is_joined g t u v ≡ is_joined (thin c g) r u v
  unfolding is_joined
  joined_thin u v = some_thin (λ k. (eqb (g.a k) u && eqb (g.b k) v) || (eqb (g.a k) v && eqb (g.b k) u))

  trip_thin : (u : ℕ) (vs : List ℕ) (w : ℕ) → is_trip g t u vs w ≡ is_trip (thin c g) r u vs w
  unfolding is_trip
  trip_thin u [] w = joined_thin u w
  trip_thin u (v ∷ vs) w = λ i. elim (joined_thin u v i) as (λ z. Bool) [ true ↦ trip_thin v vs w i | false ↦ false ]

  size-thin : length (select t (up_to g.m)) ≡ length (select r (up_to (rank c g.m)))
  size-thin =
      ap length (select-thin c g.m t same_only)
      ∙ length-map (select (down c g.m t) (up_to (rank c g.m))) (nth c g.m)
      ∙ ap length (select_cong (down c g.m t) r (up_to (rank c g.m)) same-down)

  pub tour_thin : is_tour g t ≡ is_tour (thin c g) r
  unfolding is_tour others
  tour_thin =
      λ i. eqb (size-thin i) g.n && some_of (λ vs. distinct vs && trip_thin 1 vs 1 i) (words (g.n - 1) (others g))
