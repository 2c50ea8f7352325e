-- Pairs of ends that come one before the other, each before that of the next edge: none is there twice. Assumes nothing.
use Rattle.std.specs.Prelude.{ℕ, zero, suc, ◌+◌, ◌-◌, ◌<◌, ◌≤◌, ◌≡◌, ◌⊎◌, Bool, true, ◌&&◌, ◌||◌, List, eqb, ltb, length, get_or, take, drop}
use Rattle.std.specs.List.{fold, zip}
use Rattle.std.proofs.Common.{◌∙◌, arith}
use Rattle.std.proofs.lemmas.List.{get_or-take, get_or-drop, length-take, length-drop}
use Rattle.std.proofs.lemmas.Slice.Zip.{length-zip, get_or-zip}
use Rattle.std.proofs.lemmas.Bool.{or_cases}
use Rattle.std.proofs.Common.{inl, inr, eqb-true, ltb-true}
use Rattle.std.proofs.Math.Decide.{ℕ_discrete}
use Rattle.lists.specs.Hits.{Nowhere}
use Rattle.lists.specs.Bools.{and_both}
use Rattle.graph.specs.declared.Graph.{Graph}
use Rattle.graph.specs.Limits.{max_vertices, max_edges}
use Rattle.graph.specs.Meaning.{new_pair}
use Rattle.graph.specs.PairTable.{place_of}
use Rattle.graph.specs.CheckLoop.{Sizes, InPairs, edges, pair_again, passes_at}

unfoldable pub before : ℕ → ℕ → ℕ → ℕ → Bool
before x y u v = ltb x u || (eqb x u && ltb y v)

abbrev pub last : Graph → ℕ
last g = edges g - 1

abbrev pub others : List ℕ → List ℕ
others l = take (max_edges - 1) (drop 1 l)

abbrev pub pairs_beside : Graph → List (((ℕ × ℕ) × ℕ) × ℕ)
pairs_beside g = zip (zip (zip (take (last g) g.a) (take (last g) g.b)) (others g.a)) (others g.b)

abbrev pub pairs_rise : Graph → Bool
pairs_rise g = fold (λ rise e. rise && before e.0.0.0 e.0.0.1 e.0.1 e.1) true (pairs_beside g)

-- so each has a lower place in the table than the next
before_below : (x y u v : ℕ) → y ≤ max_vertices → before x y u v ≡ true → place_of x y < place_of u v
unfolding before
before_below x y u v h t = go (or_cases (ltb x u) (eqb x u && ltb y v) t)
  where
    go : (ltb x u ≡ true) ⊎ (eqb x u && ltb y v ≡ true) → place_of x y < place_of u v
    go (inl l) = let z : x < u = ltb-true x u l in omega arith
    go (inr e) =
        let p = and_both (eqb x u) (ltb y v) e in
        let z : x ≡ u = eqb-true x u p.0 in
        let w : y < v = ltb-true y v p.1 in
        omega arith

long-others : (l : List ℕ) → length l ≡ max_edges → length (others l) ≡ max_edges - 1
long-others l s = omega (arith, length-take (max_edges - 1) (drop 1 l), length-drop 1 l, s)

others-at : (l : List ℕ) (k : ℕ) → k < max_edges - 1 → get_or (others l) k 0 ≡ get_or l (1 + k) 0
others-at l k h = get_or-take (max_edges - 1) (drop 1 l) k 0 h ∙ get_or-drop 1 l k 0

module _ (g : Graph) (few : g.m ≤ max_edges) (s : Sizes g) (fit : InPairs g.a g.b g.m) (rise : pairs_rise g ≡ true) where
  abbrev at : ℕ → ℕ
  at k = place_of (get_or g.a k 0) (get_or g.b k 0)

  abbrev long : ℕ
  long = last g

  long-a : length (take long g.a) ≡ long
  long-a = omega (arith, length-take long g.a, s.a)

  long-b : length (take long g.b) ≡ long
  long-b = omega (arith, length-take long g.b, s.b)

  long-pairs : length (zip (take long g.a) (take long g.b)) ≡ long
  long-pairs = omega (arith, length-zip (take long g.a) (take long g.b), long-a, long-b)

  long-three : length (zip (zip (take long g.a) (take long g.b)) (others g.a)) ≡ long
  long-three = omega (arith, length-zip (zip (take long g.a) (take long g.b)) (others g.a), long-pairs, long-others g.a s.a)

  long-all : length (pairs_beside g) ≡ long
  long-all = omega (arith, length-zip (zip (zip (take long g.a) (take long g.b)) (others g.a)) (others g.b), long-three, long-others g.b s.b)

  beside-at : (k : ℕ) → k < long
      → get_or (pairs_beside g) k (((0, 0), 0), 0)
      ≡ (((get_or g.a k 0, get_or g.b k 0), get_or g.a (1 + k) 0), get_or g.b (1 + k) 0)
  beside-at k l =
      get_or-zip (zip (zip (take long g.a) (take long g.b)) (others g.a)) (others g.b) k (((0, 0), 0), 0)
      (omega (arith, long-three)) (omega (arith, long-others g.b s.b))
      ∙ rw (
        get_or-zip (zip (take long g.a) (take long g.b)) (others g.a) k ((0, 0), 0) (omega (arith, long-pairs)) (omega (arith, long-others g.a s.a)),
        get_or-zip (take long g.a) (take long g.b) k (0, 0) (omega (arith, long-a)) (omega (arith, long-b)),
        get_or-take long g.a k 0 l,
        get_or-take long g.b k 0 l,
        others-at g.a k (omega arith),
        others-at g.b k (omega arith),
      )

  next-above : (k : ℕ) → suc k < g.m → at k < at (suc k)
  next-above k l =
      let h : k < long = omega (arith, few) in
      let e : 1 + k ≡ suc k = omega arith in
      before_below (get_or g.a k 0) (get_or g.b k 0) (get_or g.a (suc k) 0) (get_or g.b (suc k) 0) (fit k (omega arith)).1
      (rw (beside-at k h, e) at (passes_at (λ e. before e.0.0.0 e.0.0.1 e.0.1 e.1) (pairs_beside g) (((0, 0), 0), 0) rise k (omega (arith, long-all))))

  above : (j k : ℕ) → j < k → k < g.m → at j < at k
  above j zero l h = absurd (omega arith)
  above j (suc k) l h = go (ℕ_discrete j k) (λ m. above j k m (omega arith))
    where
      go : Dec (j ≡ k) → (j < k → at j < at k) → at j < at (suc k)
      go (yes e) below = rw e (next-above k h)
      go (no e) below = omega (arith, below (omega arith), next-above k h)

  -- NO PAIR IS THERE TWICE
  pub rising : Nowhere (pair_again g.a g.b) g.m
  rising k l =
      new_pair g.a g.b k (get_or g.a k 0) (get_or g.b k 0)
      (λ j h c d. let z : at j < at k = above j k h l in omega (arith, c, d))
