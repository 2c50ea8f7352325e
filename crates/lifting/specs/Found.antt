-- What the loops of a pass with lifting find, by the places of the free edges (edge k + 1 stands at place k): the best of the swaps, their costs, and how far
-- an end moves, are those of Worked. In the tree everything goes by the numbers turned round, so that the cheapest is the largest there. Assumes nothing.
use Rattle.std.specs.Prelude.{◌≡◌, ◌≢◌, ◌⊎◌, Bool, true, false, cond, ◌&&◌, ◌||◌, List, ℕ, suc, ◌+◌, ◌-◌, ◌<◌, ◌≤◌, eqb, ℤ}
use Rattle.std.proofs.Common.{sym, ◌∙◌, subst, inl, inr, arith, eq-eqb, ne_eqb}
use Rattle.std.proofs.Math.Decide.{ℕ_discrete}
use Rattle.lists.specs.Bools.{and_both}
use Rattle.lists.specs.Members.{◌∈◌}
use Rattle.lists.specs.Numbers.{up_to}
use Rattle.integers.specs.Parts.{up, dn}
use Rattle.graph.specs.Limits.{max_multiplier}
use Rattle.graph.specs.Network.{Network}
use Rattle.tree_theory.specs.OneTree.{Edges}
use Rattle.tree_theory.specs.Arrays.{edge_of}
use Rattle.lifting.specs.Lifted.{touches}
use Rattle.lifting.specs.Worked.{Pair, BestGiver, BestTaker, LeastRise, LeastFall}
use Rattle.lifting.specs.Folds.{less, less_is, most_to, place_to, least_to, Listed, listed_most, listed-one, listed-place, listed_low, listed_least, listed_least_one}

-- ---- what code works with

-- a number, turned round for an edge of the tree; none is above all of them
abbrev pub key_of : ℕ → Bool → ℕ → ℕ
key_of none true x = none - x
key_of none false x = x

-- e and f may change places; e is in the tree or not
abbrev pub met : (ℕ → ℕ → Bool) → Bool → ℕ → ℕ → Bool
met meets true e f = meets e f
met meets false e f = meets f e

-- the key of the best edge to change places with e: the list has those on the other side of the tree
abbrev pub top_of : ℕ → (ℕ → ℕ) → (ℕ → ℕ → Bool) → Bool → List ℕ → ℕ → ℕ → ℕ
top_of none c meets inside list n e = most_to (met meets inside e) (λ f. key_of none inside (c (suc f))) list n

-- its place
abbrev pub place_of : ℕ → (ℕ → ℕ) → (ℕ → ℕ → Bool) → Bool → List ℕ → ℕ → ℕ → ℕ
place_of none c meets inside list n e = place_to (met meets inside e) (λ f. key_of none inside (c (suc f))) list n

-- the key of the best of those at vertex v
abbrev pub top_at : ℕ → (ℕ → ℕ) → (ℕ → ℕ → Bool) → (ℕ → ℕ → Bool) → Bool → List ℕ → ℕ → ℕ → ℕ → ℕ
top_at none c meets on inside list n v e = most_to (λ f. met meets inside e f && on v f) (λ f. key_of none inside (c (suc f))) list n

-- the reduced cost, or the replacement cost, of an edge with this key; none where no edge changes places with it
unfoldable pub cost_of : ℕ → ℕ → ℕ → ℕ
cost_of none own top = cond (eqb top 0) none (own - top)

-- the least of the costs of those listed at vertex v
abbrev pub low_at : ℕ → (ℕ → ℕ → Bool) → (ℕ → ℕ) → List ℕ → ℕ → ℕ → ℕ
low_at none on cost list n v = least_to none (on v) cost list n

-- how far an end moves, where it does: up to the end of its range, the least cost at it and, unless the other end is vertex 1, the second limit
unfoldable pub move_of : ℕ → ℕ → ℕ → ℕ → ℕ → ℕ
unfolding less
move_of j room low top at = less (less room low) (cond (eqb j 1 || eqb at 0) room (top - at))

-- ---- numbers

-- v is one of three, and no more than any of them
pub move_is : (j room low top at : ℕ) → let v = move_of j room low top at in
    (v ≤ room) × (v ≤ low) × (j ≢ 1 → 1 ≤ at → v ≤ top - at) × ((v ≡ room) ⊎ ((v ≡ low) ⊎ ((j ≢ 1) × (1 ≤ at) × (v ≡ top - at))))
unfolding move_of
move_is j room low top at = go (ℕ_discrete j 1) (ℕ_discrete at 0)
  where
    two : (y : ℕ) → let v = less (less room low) y in (v ≤ room) × (v ≤ low) × (v ≤ y) × ((v ≡ room) ⊎ ((v ≡ low) ⊎ (v ≡ y)))
    two y = pick (less_is (less room low) y) (less_is room low)
      where
        pick : let v = less (less room low) y in let u = less room low in (v ≤ u) × (v ≤ y) × ((v ≡ u) ⊎ (v ≡ y)) → (u ≤ room) × (u ≤ low) × ((u ≡ room) ⊎ (u ≡ low))
            → (v ≤ room) × (v ≤ low) × (v ≤ y) × ((v ≡ room) ⊎ ((v ≡ low) ⊎ (v ≡ y)))
        pick (a, b, inl e) (p, q, inl f) = (omega arith, omega arith, b, inl (e ∙ f))
        pick (a, b, inl e) (p, q, inr f) = (omega arith, omega arith, b, inr (inl (e ∙ f)))
        pick (a, b, inr e) (p, q, w) = (omega arith, omega arith, b, inr (inr e))

    once : (v : ℕ) → (v ≡ room) ⊎ ((v ≡ low) ⊎ (v ≡ room)) → (v ≡ room) ⊎ ((v ≡ low) ⊎ ((j ≢ 1) × (1 ≤ at) × (v ≡ top - at)))
    once v (inl e) = inl e
    once v (inr (inl e)) = inr (inl e)
    once v (inr (inr e)) = inl e

    go : Dec (j ≡ 1) → Dec (at ≡ 0) → let v = less (less room low) (cond (eqb j 1 || eqb at 0) room (top - at)) in
        (v ≤ room) × (v ≤ low) × (j ≢ 1 → 1 ≤ at → v ≤ top - at) × ((v ≡ room) ⊎ ((v ≡ low) ⊎ ((j ≢ 1) × (1 ≤ at) × (v ≡ top - at))))
    go (yes e) w = rw (eq-eqb j 1 e) (let r = two room in (r.0, r.1, (λ n. absurd (n e)), once _ r.3))
    go (no n) (yes e) = rw (ne_eqb j 1 n, eq-eqb at 0 e) (let r = two room in (r.0, r.1, (λ m h. absurd (omega (arith, h, e))), once _ r.3))
    go (no n) (no z) = rw (ne_eqb j 1 n, ne_eqb at 0 z) (let r = two (top - at) in (r.0, r.1, (λ m h. r.2), far r.3))
      where
        far : let v = less (less room low) (top - at) in (v ≡ room) ⊎ ((v ≡ low) ⊎ (v ≡ top - at))
            → (v ≡ room) ⊎ ((v ≡ low) ⊎ ((j ≢ 1) × (1 ≤ at) × (v ≡ top - at)))
        far (inl e) = inl e
        far (inr (inl e)) = inr (inl e)
        far (inr (inr e)) = inr (inr (n, omega (arith, z), e))

cost_some : (none own top : ℕ) → 1 ≤ top → cost_of none own top ≡ own - top
unfolding cost_of
cost_some none own top h = rw (ne_eqb top 0 (λ e. omega (arith, h, e)))

cost_none : (none own top : ℕ) → top ≡ 0 → cost_of none own top ≡ none
unfolding cost_of
cost_none none own top h = rw (eq-eqb top 0 h)

-- ---- what they rest on

-- In and Out are the places of the free edges of t and of those outside it; meets tells which change places, and on which are at a vertex
pub record Context (g : Network) (c : ℕ → ℕ) (t : Edges) (none : ℕ) (In Out : ℕ → Type 0) (meets on : ℕ → ℕ → Bool) : Type 0 where
  pub pair : (i k : ℕ) → In i → Out k → meets i k ≡ true → Pair g t (suc i) (suc k)
  pub back : (i k : ℕ) → Pair g t (suc i) (suc k) → In i × Out k × (meets i k ≡ true)
  pub cheap : (f h : ℕ) → Pair g t f h → c f ≤ c h
  pub size_in : (i : ℕ) → In i → (1 ≤ c (suc i)) × (c (suc i) < none)
  pub size_out : (k : ℕ) → Out k → (1 ≤ c (suc k)) × (c (suc k) < none)
  pub end_in : (v i : ℕ) → In i → on v i ≡ touches g v (suc i)
  pub end_out : (v k : ℕ) → Out k → on v k ≡ touches g v (suc k)

module _ (g : Network) (c : ℕ → ℕ) (t : Edges) (none : ℕ) (In Out : ℕ → Type 0) (meets on : ℕ → ℕ → Bool) (x : Context g c t none In Out meets on)
    (ins outs : List ℕ) (p q : ℕ) (li : Listed In ins p) (lo : Listed Out outs q) where
  -- what holds at every place holds of every edge
  each_edge : (R : ℕ → Type 0) → ((i : ℕ) → R (suc i)) → (f : ℕ) → f ∈ up_to g.m → R f
  each_edge R h f m = let r = edge_of g.m f m in subst R (sym r.2) (h r.0)

  -- ---- outside t

  module _ (k : ℕ) (ok : Out k) where
    abbrev pub giver_top : ℕ
    giver_top = top_of none c meets false ins p k

    abbrev pub giver_place : ℕ
    giver_place = place_of none c meets false ins p k

    pub giver_below : (f : ℕ) → Pair g t f (suc k) → c f ≤ giver_top
    giver_below f y =
        each_edge (λ f. Pair g t f (suc k) → c f ≤ giver_top)
        (λ i z. let b = x.back i k z in listed_most In ins p li (λ f. meets f k) (λ f. c (suc f)) i b.0 b.2) f y.first y

    pub best_giver : 1 ≤ giver_top → BestGiver g c t (suc k) (suc giver_place) × (c (suc giver_place) ≡ giver_top)
    best_giver h = (
      record {
        pair = x.pair giver_place k r.0 ok r.1;
        most = λ f y. omega (arith, giver_below f y, r.2);
        lowest = λ f y. each_edge (λ f. Pair g t f (suc k) → c f ≡ c (suc giver_place) → suc giver_place ≤ f)
            (λ i z e.
            let b = x.back i k z in
            omega (
              arith,
              listed_low In ins p li (λ f. meets f k) (λ f. c (suc f)) i b.0 b.2 (x.size_in i b.0).0 (omega (arith, e, r.2)),
            ))
            f y.first y;
      },
      r.2,
    )
      where
        r : In giver_place × (meets giver_place k ≡ true) × (c (suc giver_place) ≡ giver_top)
        r = listed-place In ins p li (λ f. meets f k) (λ f. c (suc f)) h

    pub giver_some : (s : ℕ) → Pair g t s (suc k) → 1 ≤ giver_top
    giver_some s y = omega (arith, giver_below s y, each_edge (λ f. Pair g t f (suc k) → 1 ≤ c f) (λ i z. (x.size_in i (x.back i k z).0).0) s y.first y)

    pub reduced_is : (s : ℕ) → BestGiver g c t (suc k) s → cost_of none (c (suc k)) giver_top + c s ≡ c (suc k)
    reduced_is s b =
        let some : 1 ≤ giver_top = giver_some s b.pair in
        let r = best_giver some in
        omega (
          arith,
          cost_some none (c (suc k)) giver_top some,
          r.1,
          b.most (suc giver_place) r.0.pair,
          giver_below s b.pair,
          x.cheap s (suc k) b.pair,
        )

    pub reduced_of : (cost_of none (c (suc k)) giver_top ≡ none)
        ⊎ ((s : ℕ) × BestGiver g c t (suc k) s × (cost_of none (c (suc k)) giver_top + c s ≡ c (suc k)))
    reduced_of = go (ℕ_discrete giver_top 0)
      where
        go : Dec (giver_top ≡ 0) → (cost_of none (c (suc k)) giver_top ≡ none)
            ⊎ ((s : ℕ) × BestGiver g c t (suc k) s × (cost_of none (c (suc k)) giver_top + c s ≡ c (suc k)))
        go (yes e) = inl (cost_none none (c (suc k)) giver_top e)
        go (no e) = let r = best_giver (omega (arith, e)) in inr (suc giver_place, r.0, reduced_is (suc giver_place) r.0)

    -- those at vertex v
    module _ (v : ℕ) where
      abbrev pub giver_at : ℕ
      giver_at = top_at none c meets on false ins p v k

      pub giver_at_lem : (f : ℕ) → touches g v f ≡ true → Pair g t f (suc k) → c f ≤ giver_at
      giver_at_lem f e y =
          each_edge (λ f. touches g v f ≡ true → Pair g t f (suc k) → c f ≤ giver_at)
          (λ i z y.
          let b = x.back i k y in
          listed_most In ins p li (λ f. meets f k && on v f) (λ f. c (suc f)) i b.0 (rw b.2 (x.end_in v i b.0 ∙ z))) f y.first e y

      pub giver_at-one : (giver_at ≡ 0) ⊎ ((f : ℕ) × (touches g v f ≡ true) × Pair g t f (suc k) × (c f ≡ giver_at))
      giver_at-one = go (listed-one In ins p li (λ f. meets f k && on v f) (λ f. c (suc f)))
        where
          go : (giver_at ≡ 0) ⊎ ((f : ℕ) × In f × (meets f k && on v f ≡ true) × (c (suc f) ≡ giver_at))
              → (giver_at ≡ 0) ⊎ ((f : ℕ) × (touches g v f ≡ true) × Pair g t f (suc k) × (c f ≡ giver_at))
          go (inl e) = inl e
          go (inr (f, i, e, z)) =
              let b = and_both (meets f k) (on v f) e in
              inr (suc f, sym (x.end_in v f i) ∙ b.1, x.pair f k i ok b.0, z)

  -- ---- in t

  module _ (k : ℕ) (ok : In k) where
    abbrev pub taker_top : ℕ
    taker_top = top_of none c meets true outs q k

    abbrev pub taker_place : ℕ
    taker_place = place_of none c meets true outs q k

    pub taker_below : (h : ℕ) → Pair g t (suc k) h → none - c h ≤ taker_top
    taker_below h y =
        each_edge (λ h. Pair g t (suc k) h → none - c h ≤ taker_top)
        (λ i z. let b = x.back k i z in listed_most Out outs q lo (λ f. meets k f) (λ f. none - c (suc f)) i b.1 b.2) h y.second y

    taker_size : (h : ℕ) → Pair g t (suc k) h → c h < none
    taker_size h y = each_edge (λ h. Pair g t (suc k) h → c h < none) (λ i z. (x.size_out i (x.back k i z).1).1) h y.second y

    pub best_taker : 1 ≤ taker_top → BestTaker g c t (suc k) (suc taker_place) × (none - c (suc taker_place) ≡ taker_top)
    best_taker h = (
      record {
        pair = whole;
        least = λ f y. omega (arith, taker_below f y, r.2, taker_size f y, taker_size (suc taker_place) whole);
        lowest = λ f y. each_edge (λ f. Pair g t (suc k) f → c f ≡ c (suc taker_place) → suc taker_place ≤ f)
            (λ i z e.
            let b = x.back k i z in
            omega (
              arith,
              listed_low Out outs q lo (λ f. meets k f) (λ f. none - c (suc f)) i b.1 b.2 (omega (arith, (x.size_out i b.1).1))
                  (omega (arith, e, r.2)),
            ))
            f y.second y;
      },
      r.2,
    )
      where
        r : Out taker_place × (meets k taker_place ≡ true) × (none - c (suc taker_place) ≡ taker_top)
        r = listed-place Out outs q lo (λ f. meets k f) (λ f. none - c (suc f)) h

        whole : Pair g t (suc k) (suc taker_place)
        whole = x.pair k taker_place ok r.0 r.1

    pub taker_some : (h : ℕ) → Pair g t (suc k) h → 1 ≤ taker_top
    taker_some h y = omega (arith, taker_below h y, taker_size h y)

    pub replaced_is : (r : ℕ) → BestTaker g c t (suc k) r → cost_of none (none - c (suc k)) taker_top + c (suc k) ≡ c r
    replaced_is r b =
        let some : 1 ≤ taker_top = taker_some r b.pair in
        let w = best_taker some in
        omega (
          arith,
          cost_some none (none - c (suc k)) taker_top some,
          w.1,
          b.least (suc taker_place) w.0.pair,
          taker_below r b.pair,
          taker_size r b.pair,
          taker_size (suc taker_place) w.0.pair,
          x.cheap (suc k) r b.pair,
          (x.size_in k ok).1,
        )

    pub replaced_of : (cost_of none (none - c (suc k)) taker_top ≡ none)
        ⊎ ((r : ℕ) × BestTaker g c t (suc k) r × (cost_of none (none - c (suc k)) taker_top + c (suc k) ≡ c r))
    replaced_of = go (ℕ_discrete taker_top 0)
      where
        go : Dec (taker_top ≡ 0) → (cost_of none (none - c (suc k)) taker_top ≡ none)
            ⊎ ((r : ℕ) × BestTaker g c t (suc k) r × (cost_of none (none - c (suc k)) taker_top + c (suc k) ≡ c r))
        go (yes e) = inl (cost_none none (none - c (suc k)) taker_top e)
        go (no e) = let r = best_taker (omega (arith, e)) in inr (suc taker_place, r.0, replaced_is (suc taker_place) r.0)

    module _ (v : ℕ) where
      abbrev pub taker_at : ℕ
      taker_at = top_at none c meets on true outs q v k

      pub taker_at_lem : (h : ℕ) → touches g v h ≡ true → Pair g t (suc k) h → none - c h ≤ taker_at
      taker_at_lem h e y =
          each_edge (λ h. touches g v h ≡ true → Pair g t (suc k) h → none - c h ≤ taker_at)
          (λ i z y.
          let b = x.back k i y in
          listed_most Out outs q lo (λ f. meets k f && on v f) (λ f. none - c (suc f)) i b.1 (rw b.2 (x.end_out v i b.1 ∙ z))) h y.second e y

      pub taker_at-one : (taker_at ≡ 0) ⊎ ((h : ℕ) × (touches g v h ≡ true) × Pair g t (suc k) h × (none - c h ≡ taker_at))
      taker_at-one = go (listed-one Out outs q lo (λ f. meets k f && on v f) (λ f. none - c (suc f)))
        where
          go : (taker_at ≡ 0) ⊎ ((f : ℕ) × Out f × (meets k f && on v f ≡ true) × (none - c (suc f) ≡ taker_at))
              → (taker_at ≡ 0) ⊎ ((h : ℕ) × (touches g v h ≡ true) × Pair g t (suc k) h × (none - c h ≡ taker_at))
          go (inl e) = inl e
          go (inr (f, i, e, z)) =
              let b = and_both (meets k f) (on v f) e in
              inr (suc f, sym (x.end_out v f i) ∙ b.1, x.pair k f ok i b.0, z)

  -- ---- the least cost at a vertex, of the numbers that an array has for the costs

  module _ (cost : ℕ → ℕ) (v : ℕ) where
    module _ (are : (i : ℕ) → In i → cost i ≡ cost_of none (none - c (suc i)) (top_of none c meets true outs q i)) where
      pub low_replaced : (f r : ℕ) → touches g v f ≡ true → BestTaker g c t f r → low_at none on cost ins p v + c f ≤ c r
      low_replaced f r e b =
          each_edge (λ f. touches g v f ≡ true → BestTaker g c t f r → low_at none on cost ins p v + c f ≤ c r)
          (λ i e b. at i (each_edge (λ h. Pair g t (suc i) h → In i) (λ h y. (x.back i h y).0) r b.pair.second b.pair) e b) f b.pair.first e b
        where
          at : (i : ℕ) → In i → touches g v (suc i) ≡ true → BestTaker g c t (suc i) r → low_at none on cost ins p v + c (suc i) ≤ c r
          at i ok e b = omega (arith, listed_least In ins p li (on v) cost none i ok (x.end_in v i ok ∙ e), are i ok, replaced_is i ok r b)

      pub low_replaced_one : (low_at none on cost ins p v ≡ none)
          ⊎ ((f : ℕ) × (r : ℕ) × (touches g v f ≡ true) × BestTaker g c t f r × (low_at none on cost ins p v + c f ≡ c r))
      low_replaced_one = go (listed_least_one In ins p li (on v) cost none)
        where
          go : (low_at none on cost ins p v ≡ none) ⊎ ((f : ℕ) × In f × (on v f ≡ true) × (cost f ≡ low_at none on cost ins p v))
              → (low_at none on cost ins p v ≡ none)
              ⊎ ((f : ℕ) × (r : ℕ) × (touches g v f ≡ true) × BestTaker g c t f r × (low_at none on cost ins p v + c f ≡ c r))
          go (inl e) = inl e
          go (inr (f, ok, e, z)) = by (replaced_of f ok)
            where
              by : (cost_of none (none - c (suc f)) (taker_top f ok) ≡ none)
                  ⊎ ((r : ℕ) × BestTaker g c t (suc f) r × (cost_of none (none - c (suc f)) (taker_top f ok) + c (suc f) ≡ c r))
                  → (low_at none on cost ins p v ≡ none)
                  ⊎ ((f : ℕ) × (r : ℕ) × (touches g v f ≡ true) × BestTaker g c t f r × (low_at none on cost ins p v + c f ≡ c r))
              by (inl w) = inl (sym z ∙ are f ok ∙ w)
              by (inr (r, b, w)) = inr (suc f, r, sym (x.end_in v f ok) ∙ e, b, omega (arith, z, are f ok, w))

    module _ (are : (k : ℕ) → Out k → cost k ≡ cost_of none (c (suc k)) (top_of none c meets false ins p k)) where
      pub low_reduced : (h s : ℕ) → touches g v h ≡ true → BestGiver g c t h s → low_at none on cost outs q v + c s ≤ c h
      low_reduced h s e b =
          each_edge (λ h. touches g v h ≡ true → BestGiver g c t h s → low_at none on cost outs q v + c s ≤ c h)
          (λ k e b. at k (each_edge (λ f. Pair g t f (suc k) → Out k) (λ i y. (x.back i k y).1) s b.pair.first b.pair) e b) h b.pair.second e b
        where
          at : (k : ℕ) → Out k → touches g v (suc k) ≡ true → BestGiver g c t (suc k) s → low_at none on cost outs q v + c s ≤ c (suc k)
          at k ok e b = omega (arith, listed_least Out outs q lo (on v) cost none k ok (x.end_out v k ok ∙ e), are k ok, reduced_is k ok s b)

      pub low_reduced_one : (low_at none on cost outs q v ≡ none)
          ⊎ ((h : ℕ) × (s : ℕ) × (touches g v h ≡ true) × BestGiver g c t h s × (low_at none on cost outs q v + c s ≡ c h))
      low_reduced_one = go (listed_least_one Out outs q lo (on v) cost none)
        where
          go : (low_at none on cost outs q v ≡ none) ⊎ ((f : ℕ) × Out f × (on v f ≡ true) × (cost f ≡ low_at none on cost outs q v))
              → (low_at none on cost outs q v ≡ none)
              ⊎ ((h : ℕ) × (s : ℕ) × (touches g v h ≡ true) × BestGiver g c t h s × (low_at none on cost outs q v + c s ≡ c h))
          go (inl e) = inl e
          go (inr (f, ok, e, z)) = by (reduced_of f ok)
            where
              by : (cost_of none (c (suc f)) (giver_top f ok) ≡ none)
                  ⊎ ((s : ℕ) × BestGiver g c t (suc f) s × (cost_of none (c (suc f)) (giver_top f ok) + c s ≡ c (suc f)))
                  → (low_at none on cost outs q v ≡ none)
                  ⊎ ((h : ℕ) × (s : ℕ) × (touches g v h ≡ true) × BestGiver g c t h s × (low_at none on cost outs q v + c s ≡ c h))
              by (inl w) = inl (sym z ∙ are f ok ∙ w)
              by (inr (s, b, w)) = inr (suc f, s, sym (x.end_out v f ok) ∙ e, b, omega (arith, z, are f ok, w))

  -- ---- how far an end moves

  module _ (d : ℕ → ℤ) (cost : ℕ → ℕ) (i j room : ℕ) (short : room ≤ none) where
    pub least_rise : (k : ℕ) → Out k → 1 ≤ top_of none c meets false ins p k → up (d i) + room ≡ max_multiplier + dn (d i)
        → ((f : ℕ) → In f → cost f ≡ cost_of none (none - c (suc f)) (top_of none c meets true outs q f))
        → LeastRise g d c t (suc k) (suc (place_of none c meets false ins p k)) i j
        (move_of j room (low_at none on cost ins p i) (top_of none c meets false ins p k) (top_at none c meets on false ins p i k))
    least_rise k ok some r are = record {
      room = omega (arith, m.0, r);
      replaced = λ f y e w. omega (arith, m.1, low_replaced cost i are f y e w);
      supported = λ n f e y. held n f e y;
      one = pick m.3;
    }
      where
        b : BestGiver g c t (suc k) (suc (giver_place k ok)) × (c (suc (giver_place k ok)) ≡ giver_top k ok)
        b = best_giver k ok some

        m : (move_of j room (low_at none on cost ins p i) (giver_top k ok) (giver_at k ok i) ≤ room)
            × (move_of j room (low_at none on cost ins p i) (giver_top k ok) (giver_at k ok i) ≤ low_at none on cost ins p i)
            × (j ≢ 1 → 1 ≤ giver_at k ok i → move_of j room (low_at none on cost ins p i) (giver_top k ok) (giver_at k ok i) ≤ giver_top k ok - giver_at k ok i)
            × ((move_of j room (low_at none on cost ins p i) (giver_top k ok) (giver_at k ok i) ≡ room)
            ⊎ ((move_of j room (low_at none on cost ins p i) (giver_top k ok) (giver_at k ok i) ≡ low_at none on cost ins p i)
            ⊎ ((j ≢ 1) × (1 ≤ giver_at k ok i) × (move_of j room (low_at none on cost ins p i) (giver_top k ok) (giver_at k ok i) ≡ giver_top k ok - giver_at k ok i))))
        m = move_is j room (low_at none on cost ins p i) (giver_top k ok) (giver_at k ok i)

        -- one at i is no dearer than the support
        below : giver_at k ok i ≤ giver_top k ok
        below = go (giver_at-one k ok i)
          where
            go : (giver_at k ok i ≡ 0) ⊎ ((f : ℕ) × (touches g i f ≡ true) × Pair g t f (suc k) × (c f ≡ giver_at k ok i)) → giver_at k ok i ≤ giver_top k ok
            go (inl e) = omega (arith, e)
            go (inr (f, e, y, z)) = omega (arith, giver_below k ok f y, z)

        held : j ≢ 1 → (f : ℕ) → touches g i f ≡ true → Pair g t f (suc k)
            → move_of j room (low_at none on cost ins p i) (giver_top k ok) (giver_at k ok i) + c f ≤ c (suc (giver_place k ok))
        held n f e y =
            let a : c f ≤ giver_at k ok i = giver_at_lem k ok i f e y in
            let o : 1 ≤ c f = each_edge (λ f. Pair g t f (suc k) → 1 ≤ c f) (λ h z. (x.size_in h (x.back h k z).0).0) f y.first y in
            omega (arith, m.2 n (omega (arith, a, o)), b.1, below, a)

        pick : (move_of j room (low_at none on cost ins p i) (giver_top k ok) (giver_at k ok i) ≡ room)
            ⊎ ((move_of j room (low_at none on cost ins p i) (giver_top k ok) (giver_at k ok i) ≡ low_at none on cost ins p i)
            ⊎ ((j ≢ 1) × (1 ≤ giver_at k ok i) × (move_of j room (low_at none on cost ins p i) (giver_top k ok) (giver_at k ok i) ≡ giver_top k ok - giver_at k ok i)))
            → (up (d i) + move_of j room (low_at none on cost ins p i) (giver_top k ok) (giver_at k ok i) ≡ max_multiplier + dn (d i))
            ⊎ (((f : ℕ) × (r : ℕ) × (touches g i f ≡ true) × BestTaker g c t f r
            × (move_of j room (low_at none on cost ins p i) (giver_top k ok) (giver_at k ok i) + c f ≡ c r))
            ⊎ ((j ≢ 1) × ((f : ℕ) × (touches g i f ≡ true) × Pair g t f (suc k)
            × (move_of j room (low_at none on cost ins p i) (giver_top k ok) (giver_at k ok i) + c f ≡ c (suc (giver_place k ok))))))
        pick (inl e) = inl (omega (arith, e, r))
        pick (inr (inl e)) = go (low_replaced_one cost i are)
          where
            go : (low_at none on cost ins p i ≡ none)
                ⊎ ((f : ℕ) × (r : ℕ) × (touches g i f ≡ true) × BestTaker g c t f r × (low_at none on cost ins p i + c f ≡ c r))
                → (up (d i) + move_of j room (low_at none on cost ins p i) (giver_top k ok) (giver_at k ok i) ≡ max_multiplier + dn (d i))
                ⊎ (((f : ℕ) × (r : ℕ) × (touches g i f ≡ true) × BestTaker g c t f r
                × (move_of j room (low_at none on cost ins p i) (giver_top k ok) (giver_at k ok i) + c f ≡ c r))
                ⊎ ((j ≢ 1) × ((f : ℕ) × (touches g i f ≡ true) × Pair g t f (suc k)
                × (move_of j room (low_at none on cost ins p i) (giver_top k ok) (giver_at k ok i) + c f ≡ c (suc (giver_place k ok))))))
            go (inl z) = inl (omega (arith, e, z, r, m.0, short))
            go (inr (f, y, u, w, z)) = inr (inl (f, y, u, w, omega (arith, e, z)))
        pick (inr (inr (n, o, e))) = go (giver_at-one k ok i)
          where
            go : (giver_at k ok i ≡ 0) ⊎ ((f : ℕ) × (touches g i f ≡ true) × Pair g t f (suc k) × (c f ≡ giver_at k ok i))
                → (up (d i) + move_of j room (low_at none on cost ins p i) (giver_top k ok) (giver_at k ok i) ≡ max_multiplier + dn (d i))
                ⊎ (((f : ℕ) × (r : ℕ) × (touches g i f ≡ true) × BestTaker g c t f r
                × (move_of j room (low_at none on cost ins p i) (giver_top k ok) (giver_at k ok i) + c f ≡ c r))
                ⊎ ((j ≢ 1) × ((f : ℕ) × (touches g i f ≡ true) × Pair g t f (suc k)
                × (move_of j room (low_at none on cost ins p i) (giver_top k ok) (giver_at k ok i) + c f ≡ c (suc (giver_place k ok))))))
            go (inl z) = absurd (omega (arith, o, z))
            go (inr (f, u, y, z)) = inr (inr (n, (f, u, y, omega (arith, e, z, b.1, below))))

    pub least_fall : (k : ℕ) → In k → 1 ≤ top_of none c meets true outs q k → dn (d i) + room ≡ max_multiplier + up (d i)
        → ((f : ℕ) → Out f → cost f ≡ cost_of none (c (suc f)) (top_of none c meets false ins p f))
        → LeastFall g d c t (suc k) (suc (place_of none c meets true outs q k)) i j
        (move_of j room (low_at none on cost outs q i) (top_of none c meets true outs q k) (top_at none c meets on true outs q i k))
    least_fall k ok some r are = record {
      room = omega (arith, m.0, r);
      reduced = λ f y e w. omega (arith, m.1, low_reduced cost i are f y e w);
      replaceable = λ n f e y. held n f e y;
      one = pick m.3;
    }
      where
        b : BestTaker g c t (suc k) (suc (taker_place k ok)) × (none - c (suc (taker_place k ok)) ≡ taker_top k ok)
        b = best_taker k ok some

        m : (move_of j room (low_at none on cost outs q i) (taker_top k ok) (taker_at k ok i) ≤ room)
            × (move_of j room (low_at none on cost outs q i) (taker_top k ok) (taker_at k ok i) ≤ low_at none on cost outs q i)
            × (j ≢ 1 → 1 ≤ taker_at k ok i → move_of j room (low_at none on cost outs q i) (taker_top k ok) (taker_at k ok i) ≤ taker_top k ok - taker_at k ok i)
            × ((move_of j room (low_at none on cost outs q i) (taker_top k ok) (taker_at k ok i) ≡ room)
            ⊎ ((move_of j room (low_at none on cost outs q i) (taker_top k ok) (taker_at k ok i) ≡ low_at none on cost outs q i)
            ⊎ ((j ≢ 1) × (1 ≤ taker_at k ok i) × (move_of j room (low_at none on cost outs q i) (taker_top k ok) (taker_at k ok i) ≡ taker_top k ok - taker_at k ok i))))
        m = move_is j room (low_at none on cost outs q i) (taker_top k ok) (taker_at k ok i)

        -- one at i is no cheaper than the replacement
        below : taker_at k ok i ≤ taker_top k ok
        below = go (taker_at-one k ok i)
          where
            go : (taker_at k ok i ≡ 0) ⊎ ((f : ℕ) × (touches g i f ≡ true) × Pair g t (suc k) f × (none - c f ≡ taker_at k ok i)) → taker_at k ok i ≤ taker_top k ok
            go (inl e) = omega (arith, e)
            go (inr (f, e, y, z)) = omega (arith, taker_below k ok f y, z)

        held : j ≢ 1 → (f : ℕ) → touches g i f ≡ true → Pair g t (suc k) f
            → move_of j room (low_at none on cost outs q i) (taker_top k ok) (taker_at k ok i) + c (suc (taker_place k ok)) ≤ c f
        held n f e y =
            let a : none - c f ≤ taker_at k ok i = taker_at_lem k ok i f e y in
            let o : c f < none = taker_size k ok f y in
            omega (arith, m.2 n (omega (arith, a, o)), b.1, below, a, o, taker_size k ok (suc (taker_place k ok)) b.0.pair)

        pick : (move_of j room (low_at none on cost outs q i) (taker_top k ok) (taker_at k ok i) ≡ room)
            ⊎ ((move_of j room (low_at none on cost outs q i) (taker_top k ok) (taker_at k ok i) ≡ low_at none on cost outs q i)
            ⊎ ((j ≢ 1) × (1 ≤ taker_at k ok i) × (move_of j room (low_at none on cost outs q i) (taker_top k ok) (taker_at k ok i) ≡ taker_top k ok - taker_at k ok i)))
            → (dn (d i) + move_of j room (low_at none on cost outs q i) (taker_top k ok) (taker_at k ok i) ≡ max_multiplier + up (d i))
            ⊎ (((f : ℕ) × (r : ℕ) × (touches g i f ≡ true) × BestGiver g c t f r
            × (move_of j room (low_at none on cost outs q i) (taker_top k ok) (taker_at k ok i) + c r ≡ c f))
            ⊎ ((j ≢ 1) × ((f : ℕ) × (touches g i f ≡ true) × Pair g t (suc k) f
            × (move_of j room (low_at none on cost outs q i) (taker_top k ok) (taker_at k ok i) + c (suc (taker_place k ok)) ≡ c f))))
        pick (inl e) = inl (omega (arith, e, r))
        pick (inr (inl e)) = go (low_reduced_one cost i are)
          where
            go : (low_at none on cost outs q i ≡ none)
                ⊎ ((f : ℕ) × (r : ℕ) × (touches g i f ≡ true) × BestGiver g c t f r × (low_at none on cost outs q i + c r ≡ c f))
                → (dn (d i) + move_of j room (low_at none on cost outs q i) (taker_top k ok) (taker_at k ok i) ≡ max_multiplier + up (d i))
                ⊎ (((f : ℕ) × (r : ℕ) × (touches g i f ≡ true) × BestGiver g c t f r
                × (move_of j room (low_at none on cost outs q i) (taker_top k ok) (taker_at k ok i) + c r ≡ c f))
                ⊎ ((j ≢ 1) × ((f : ℕ) × (touches g i f ≡ true) × Pair g t (suc k) f
                × (move_of j room (low_at none on cost outs q i) (taker_top k ok) (taker_at k ok i) + c (suc (taker_place k ok)) ≡ c f))))
            go (inl z) = inl (omega (arith, e, z, r, m.0, short))
            go (inr (f, y, u, w, z)) = inr (inl (f, y, u, w, omega (arith, e, z)))
        pick (inr (inr (n, o, e))) = go (taker_at-one k ok i)
          where
            go : (taker_at k ok i ≡ 0) ⊎ ((f : ℕ) × (touches g i f ≡ true) × Pair g t (suc k) f × (none - c f ≡ taker_at k ok i))
                → (dn (d i) + move_of j room (low_at none on cost outs q i) (taker_top k ok) (taker_at k ok i) ≡ max_multiplier + up (d i))
                ⊎ (((f : ℕ) × (r : ℕ) × (touches g i f ≡ true) × BestGiver g c t f r
                × (move_of j room (low_at none on cost outs q i) (taker_top k ok) (taker_at k ok i) + c r ≡ c f))
                ⊎ ((j ≢ 1) × ((f : ℕ) × (touches g i f ≡ true) × Pair g t (suc k) f
                × (move_of j room (low_at none on cost outs q i) (taker_top k ok) (taker_at k ok i) + c (suc (taker_place k ok)) ≡ c f))))
            go (inl z) = absurd (omega (arith, o, z))
            go (inr (f, u, y, z)) = inr (inr (n, (f, u, y, omega (arith, e, z, b.1, below, o, taker_size k ok f y, taker_size k ok (suc (taker_place k ok)) b.0.pair))))
