-- The steps of the check, and what their answers say of the graph. Assumes nothing.
use Rattle.std.specs.Prelude.{ℕ, zero, suc, ◌+◌, ◌<◌, ◌≤◌, ◌≡◌, refl, Bool, true, false, ◌&&◌, List, [], ◌∷◌, leb, min, length, get_or, set, take, replicate, pos}
use Rattle.std.specs.List.{fold, zip}
use Rattle.std.proofs.Common.{sym, ◌∙◌, ap, arith, length-set, leb-true, le-leb, true≢false}
use Rattle.std.proofs.lemmas.List.{get_or-take, length-replicate, length-take}
use Rattle.std.proofs.lemmas.List.Folds.{fold_stays}
use Rattle.std.proofs.lemmas.Slice.Zip.{length-zip, get_or-zip}
use Rattle.lists.specs.Bools.{Says, bit, and_both, by_cases}
use Rattle.lists.specs.Hits.{Nowhere, hits, hits_none, hits_next, next_most}
use Rattle.integers.specs.Range.{within}
use Rattle.graph.specs.declared.Graph.{Graph}
use Rattle.graph.specs.Limits.{min_vertices, max_vertices, max_edges, max_cost, max_mark}
use Rattle.graph.specs.Valid.{EdgeAt, Valid, ends_ok, pair_met, valid}
use Rattle.graph.specs.Meaning.{ends_true, edge_of, ends_of, pair_new, new_pair, true_valid, not_valid}
use Rattle.graph.specs.PairTable.{place_of, Noted, noted_none, noted-at, noted_more}

-- ---- what the code looks at: of each edge the ends and the mark, and the cost, as far as there is room

abbrev pub edges : Graph → ℕ
edges g = min g.m max_edges

abbrev pub ends_listed : Graph → List ((ℕ × ℕ) × ℕ)
ends_listed g = zip (zip (take (edges g) g.a) (take (edges g) g.b)) (take (edges g) g.mark)

abbrev pub end_fits : ℕ → (ℕ × ℕ) × ℕ → Bool
end_fits n e = ends_ok n e.0.0 e.0.1 && leb e.1 max_mark

abbrev pub ends_fit : Graph → Bool
ends_fit g = fold (λ fit e. fit && end_fits g.n e) true (ends_listed g)

abbrev pub costs_fit : Graph → Bool
costs_fit g = fold (λ fit z. fit && within max_cost z) true (take (edges g) g.cost)

-- each list has its length, as the type says
pub record Sizes (g : Graph) : Type 0 where
  pub a : length g.a ≡ max_edges
  pub b : length g.b ≡ max_edges
  pub mark : length g.mark ≡ max_edges
  pub cost : length g.cost ≡ max_edges

-- each passes a test, where the fold over all says so
module _ {X : Type 0} (f : X → Bool) where
  abbrev all_pass : List X → Bool
  all_pass xs = fold (λ fit x. fit && f x) true xs

  none_pass : (xs : List X) → fold (λ fit x. fit && f x) false xs ≡ false
  none_pass xs = fold_stays (λ fit x. fit && f x) false (λ x. refl) xs

  pub passes_at : (xs : List X) (d : X) → all_pass xs ≡ true → (k : ℕ) → k < length xs → f (get_or xs k d) ≡ true
  passes_at [] d h k l = absurd (omega arith)
  passes_at (x ∷ xs) d h k l =
      by_cases (f x) (λ t. at k l t (passes_at xs d (rw t at h))) (λ t. absurd (true≢false (sym h ∙ rw t (none_pass xs))))
    where
      at : (k : ℕ) → k < suc (length xs) → f x ≡ true → ((j : ℕ) → j < length xs → f (get_or xs j d) ≡ true)
          → f (get_or (x ∷ xs) k d) ≡ true
      at zero l t below = t
      at (suc k) l t below = below k (omega arith)

  at_passes : (xs : List X) (d : X) → ((k : ℕ) → k < length xs → f (get_or xs k d) ≡ true) → all_pass xs ≡ true
  at_passes [] d h = refl
  at_passes (x ∷ xs) d h = rw (h 0 (omega arith)) (at_passes xs d (λ k l. h (suc k) (omega arith)))

-- its pair is that of an edge before it
abbrev pub pair_again : List ℕ → List ℕ → ℕ → Bool
pair_again a b k = pair_met a b k (get_or a k 0) (get_or b k 0)

-- the pairs of m edges have places in the table
abbrev pub InPairs : List ℕ → List ℕ → ℕ → Type 0
InPairs a b m = (k : ℕ) → k < m → (get_or a k 0 < get_or b k 0) × (get_or b k 0 ≤ max_vertices)

-- ---- the numbers of vertices and edges

pub record Sized (g : Graph) : Type 0 where
  pub low : min_vertices ≤ g.n
  pub high : g.n ≤ max_vertices
  pub few : g.m ≤ max_edges

abbrev pub sized : Graph → Bool
sized g = leb min_vertices g.n && leb g.n max_vertices && leb g.m max_edges

pub sized_is : (g : Graph) → sized g ≡ true → Sized g
sized_is g h =
    let p = and_both (leb min_vertices g.n && leb g.n max_vertices) (leb g.m max_edges) h in
    let q = and_both (leb min_vertices g.n) (leb g.n max_vertices) p.0 in
    record { low = leb-true min_vertices g.n q.0; high = leb-true g.n max_vertices q.1; few = leb-true g.m max_edges p.1 }

pub not_sized : (g : Graph) → sized g ≡ false → valid g ≡ false
not_sized g h =
    not_valid g (λ v. true≢false (rw (le-leb min_vertices g.n v.low, le-leb g.n max_vertices v.high, le-leb g.m max_edges v.few) at h))

abbrev pub parts_fit : Graph → Bool
parts_fit g = (sized g && ends_fit g) && costs_fit g

-- ---- the loop over the pairs

-- after k edges: the pairs met are noted, in the table's words for yes and no, and as many were met again as `again` says
pub record Passed {A : Type 0} (say : Bool → A) (a b : List ℕ) (m : ℕ) (met : List A) (again k : ℕ) : Type 0 where
  pub few : m ≤ max_edges
  pub in_table : InPairs a b m
  pub at_most : k ≤ m
  pub size : length met ≡ 441
  pub noted : Noted say a b k met
  pub counted : again ≡ hits (pair_again a b) k

pub passed_none : {A : Type 0} (say : Bool → A) (a b : List ℕ) (m : ℕ) → m ≤ max_edges → InPairs a b m
    → Passed say a b m (replicate 441 (say false)) 0 0
passed_none say a b m few fit = record {
  few = few;
  in_table = fit;
  at_most = omega arith;
  size = length-replicate 441 (say false);
  noted = noted_none say a b 441;
  counted = hits_none (pair_again a b);
}

-- where a yes counts 1 and a no 0, and p is the place of the pair at k
module _ {A : Type 0} (say : Bool → A) (count : A → ℕ) (counts : (t : Bool) → count (say t) ≡ bit t) (a b : List ℕ) (m : ℕ) (met : List A)
    (again k p : ℕ) (s : Passed say a b m met again k) (l : k < m) (at : p ≡ place_of (get_or a k 0) (get_or b k 0)) where
  pub place_in : p < 441
  place_in = omega (arith, (s.in_table k l).0, (s.in_table k l).1)

  said : count (get_or met p (say false)) ≡ bit (pair_again a b k)
  said =
      ap count (ap (λ (i : ℕ). get_or met i (say false)) at ∙ noted-at say a b k met (get_or a k 0) (get_or b k 0) s.noted (s.in_table k l).1)
      ∙ counts (pair_again a b k)

  pub counted-more : again + count (get_or met p (say false)) ≡ hits (pair_again a b) (k + 1)
  counted-more = hits_next (pair_again a b) k again (count (get_or met p (say false))) s.counted said

  pub counted_most : again + count (get_or met p (say false)) ≤ 190
  counted_most = omega (arith, next_most (pair_again a b) k again (count (get_or met p (say false))) s.counted said, s.few)

  pub passed-more : Passed say a b m (set met p (say true)) (again + count (get_or met p (say false))) (k + 1)
  passed-more = record {
    few = s.few;
    in_table = s.in_table;
    at_most = omega arith;
    size = length-set met p (say true) ∙ s.size;
    noted = rw at (noted_more say a b k met (omega (arith, place_in, s.size)) (s.in_table k l).1 s.noted);
    counted = counted-more;
  }

-- ---- the whole check

module _ (g : Graph) where
  -- what is asked of all edges
  abbrev Ends : Type 0
  Ends = (k : ℕ) → k < g.m → end_fits g.n ((get_or g.a k 0, get_or g.b k 0), get_or g.mark k 0) ≡ true

  abbrev Costs : Type 0
  Costs = (k : ℕ) → k < g.m → within max_cost (get_or g.cost k (pos 0)) ≡ true

  abbrev Pairs : Type 0
  Pairs = Nowhere (pair_again g.a g.b) g.m

  -- of a valid graph it holds
  valid_ends : Valid g → Ends
  valid_ends v k l =
      let e = v.each k l in
      rw (ends_of g.n _ _ _ _ e, le-leb (get_or g.mark k 0) max_mark e.known)

  valid_pairs : Valid g → Pairs
  valid_pairs v k l = new_pair g.a g.b k (get_or g.a k 0) (get_or g.b k 0) (λ j h c d. v.once j k h l (record { a = c; b = d }))

  module _ (few : g.m ≤ max_edges) (s : Sizes g) where
    front : {A : Type 0} (l : List A) → length l ≡ max_edges → length (take (edges g) l) ≡ g.m
    front l e = omega (arith, length-take (edges g) l, few, e)

    ends_size : length (ends_listed g) ≡ g.m
    ends_size =
        omega (
          arith,
          length-zip (zip (take (edges g) g.a) (take (edges g) g.b)) (take (edges g) g.mark),
          length-zip (take (edges g) g.a) (take (edges g) g.b),
          front g.a s.a,
          front g.b s.b,
          front g.mark s.mark,
        )

    ends_listed_at : (k : ℕ) → k < g.m → get_or (ends_listed g) k ((0, 0), 0) ≡ ((get_or g.a k 0, get_or g.b k 0), get_or g.mark k 0)
    ends_listed_at k l =
        get_or-zip (zip (take (edges g) g.a) (take (edges g) g.b)) (take (edges g) g.mark) k ((0, 0), 0)
        (omega (arith, length-zip (take (edges g) g.a) (take (edges g) g.b), front g.a s.a, front g.b s.b))
        (omega (arith, front g.mark s.mark))
        ∙ rw (
          get_or-zip (take (edges g) g.a) (take (edges g) g.b) k (0, 0) (omega (arith, front g.a s.a)) (omega (arith, front g.b s.b)),
          get_or-take (edges g) g.a k 0 (omega (arith, few)),
          get_or-take (edges g) g.b k 0 (omega (arith, few)),
          get_or-take (edges g) g.mark k 0 (omega (arith, few)),
        )

    ends_at : ends_fit g ≡ true → Ends
    ends_at h k l = rw (ends_listed_at k l) at (passes_at (end_fits g.n) (ends_listed g) ((0, 0), 0) h k (omega (arith, ends_size)))

    costs_at : costs_fit g ≡ true → Costs
    costs_at h k l =
        rw (get_or-take (edges g) g.cost k (pos 0) (omega (arith, few)))
        at (passes_at (within max_cost) (take (edges g) g.cost) (pos 0) h k (omega (arith, front g.cost s.cost)))

    -- where one of them does not, the graph is not valid
    ends_bad : ends_fit g ≡ false → valid g ≡ false
    ends_bad h = not_valid g (λ v. true≢false (sym (all v) ∙ h))
      where
        all : Valid g → ends_fit g ≡ true
        all v =
            at_passes (end_fits g.n) (ends_listed g) ((0, 0), 0)
            (λ k l. let m : k < g.m = omega (arith, ends_size) in rw (ends_listed_at k m) (valid_ends v k m))

    costs_bad : costs_fit g ≡ false → valid g ≡ false
    costs_bad h = not_valid g (λ v. true≢false (sym (all v) ∙ h))
      where
        all : Valid g → costs_fit g ≡ true
        all v =
            at_passes (within max_cost) (take (edges g) g.cost) (pos 0)
            (λ k l. let m : k < g.m = omega (arith, front g.cost s.cost) in
            rw (get_or-take (edges g) g.cost k (pos 0) (omega (arith, few))) (v.each k m).range)

  -- where all steps before the last are passed
  pub steps_fit : Sizes g → parts_fit g ≡ true → Sized g × Ends × Costs
  steps_fit s h =
      let p = and_both (sized g && ends_fit g) (costs_fit g) h in
      let q = and_both (sized g) (ends_fit g) p.0 in
      let is = sized_is g q.0 in
      (is, ends_at is.few s q.1, costs_at is.few s p.1)

  -- and where one is not, the graph is not valid
  pub some_bad : Sizes g → parts_fit g ≡ false → valid g ≡ false
  some_bad s h =
      by_cases (sized g)
      (λ t. let few = (sized_is g t).few in
      by_cases (ends_fit g) (λ e. costs_bad few s (rw (t, e) at h)) (ends_bad few s))
      (not_sized g)

  module _ (is : Sized g) (ends : Ends) where
    both : (k : ℕ) → k < g.m → (ends_ok g.n (get_or g.a k 0) (get_or g.b k 0) ≡ true) × (leb (get_or g.mark k 0) max_mark ≡ true)
    both k l = and_both _ (leb (get_or g.mark k 0) max_mark) (ends k l)

    -- the loop over the pairs stays within its table
    pub ends_in_pairs : InPairs g.a g.b g.m
    ends_in_pairs k l = let p = ends_true g.n (get_or g.a k 0) (get_or g.b k 0) (both k l).0 in (p.1, omega (arith, p.2, is.high))

    edge : Costs → (k : ℕ) → k < g.m → EdgeAt g k
    edge costs k l =
        let z = get_or g.cost k (pos 0) in
        let p = both k l in
        edge_of g.n _ _ z _ p.0 (costs k l) (leb-true (get_or g.mark k 0) max_mark p.1)

    -- the last step's answer is the check's
    pub pairs_say : Costs → (r : Bool) → Says r Pairs → r ≡ valid g
    pairs_say costs true s =
        sym (true_valid g (record {
          low = is.low;
          high = is.high;
          few = is.few;
          each = edge costs;
          once = λ i j h l q. pair_new g.a g.b j (get_or g.a j 0) (get_or g.b j 0) (s j l) i h q.a q.b;
        }))
    pairs_say costs false s = sym (not_valid g (λ v. s (valid_pairs v)))
