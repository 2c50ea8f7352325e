-- The loop over the edges away from vertex 1 may end as soon as the other vertices are connected: no later edge joins two components, so what it took is
-- what all turns would take. And the free edges that it looked at are those that document 02 says. Assumes nothing.
use Rattle.std.specs.Prelude.{◌≡◌, refl, ◌≢◌, ◌⊎◌, true, false, not, ◌&&◌, List, [], ◌∷◌, ◌++◌, length, get_or, take, ℤ, eqb}
use Rattle.std.proofs.Common.{◌∙◌, sym, ap, subst, inl, inr, true≢false, arith}
use Prim.Native.Nat.{ℕ, zero, suc, ◌+◌, ◌*◌, ◌-◌, ◌%◌, ◌<◌, ◌≤◌}
use Rattle.std.proofs.Math.Decide.{ℕ_discrete, dec_le}
use Rattle.std.proofs.lemmas.Bool.{eqb-false, not-true}
use Rattle.lists.specs.Bools.{and_both}
use Rattle.lists.specs.Members.{◌∈◌, in_left, in_right, in_either}
use Rattle.lists.specs.Select.{select_in, in_select}
use Rattle.lists.specs.Numbers.{up_to}
use Rattle.integers.specs.Parts.{diff_lt, diff_one}
use Rattle.graph.specs.declared.Graph.{Graph}
use Rattle.graph.specs.Network.{Network, network}
use Rattle.graph.specs.Valid as value
use Rattle.spanning.specs.Components.{rank, Within, same_rank}
use Rattle.spanning.specs.Connected.{rank_most, rank-inside}
use Rattle.spanning.specs.Choice.{Listing}
use Rattle.tree_theory.specs.OneTree.{Edges, others, away}
use Rattle.tree_theory.specs.Inputs.{multiplier}
use Rattle.tree_theory.specs.Scaled.{scaled_by}
use Rattle.tree_theory.specs.Scaling.{valid_scaled}
use Rattle.tree_theory.specs.Valid.{is_free, is_required, needed, is_near, far, far_in, in_far, far_within, two_in, distinct-others, length-others, free_not, free_is, required_not}
use Rattle.tree_theory.specs.Arrays.{network_n, needed-at, network-valid}
use Rattle.tree_theory.specs.Looked.{required_among, free_among, Before, Sorted, InOrder, Looked}
use Rattle.tree_theory.specs.Looking.{rank_at, looked_by_rank}
use Rattle.greedy.specs.Charged.{offset, Charged}
use Rattle.greedy.specs.Keys.{key_at, key_free, far_at, queued, queued_in, in_queued}
use Rattle.greedy.specs.Growth.{TakenGreedily, grow_none}
use Rattle.greedy.specs.ChoiceSoFar.{ChoiceSoFar, Lacking}
use Rattle.greedy.specs.Queue.{InKeyOrder, turn_key, far-queued}
use Rattle.greedy.specs.Required.{Small, turned, on, off, required_first, of_far}

-- ---- the edges looked at after turn i, the last in front; and those from turn i on, the first in front

unfoldable later : List ℕ → ℕ → ℕ → List ℕ
later ks i zero = []
later ks i (suc n) = turned ks (n + i) ∷ later ks i n

later-queued : (ks : List ℕ) (i n : ℕ) → queued ks (n + i) ≡ later ks i n ++ queued ks i
unfolding later queued
later-queued ks i zero = let e : 0 + i ≡ i = omega arith in ap (queued ks) e
later-queued ks i (suc n) =
    let e : suc n + i ≡ suc (n + i) = omega arith in
    ap (queued ks) e ∙ ap {B = List ℕ} (λ l. turned ks (n + i) ∷ l) (later-queued ks i n)

unfoldable ahead : List ℕ → ℕ → ℕ → List ℕ
ahead ks i zero = []
ahead ks i (suc n) = turned ks i ∷ ahead ks (suc i) n

ahead-length : (ks : List ℕ) (i n : ℕ) → length (ahead ks i n) ≡ n
unfolding ahead
ahead-length ks i zero = refl
ahead-length ks i (suc n) = ap suc (ahead-length ks (suc i) n)

ahead-take : (ks : List ℕ) (i q n : ℕ) → q ≤ n → take q (ahead ks i n) ≡ ahead ks i q
unfolding ahead
ahead-take ks i zero n h = refl
ahead-take ks i (suc q) zero h = absurd (omega arith)
ahead-take ks i (suc q) (suc n) h = ap {B = List ℕ} (λ l. turned ks i ∷ l) (ahead-take ks (suc i) q n (omega arith))

ahead_in : (ks : List ℕ) (i n e : ℕ) → e ∈ ahead ks i n → (j : ℕ) × (i ≤ j) × (j < i + n) × (e ≡ turned ks j)
unfolding ahead
ahead_in ks i zero e m = absurd m
ahead_in ks i (suc n) e (inl h) = (i, omega arith, omega arith, h)
ahead_in ks i (suc n) e (inr m) = let r = ahead_in ks (suc i) n e m in (r.0, omega (arith, r.1), omega (arith, r.2), r.3)

in_ahead : (ks : List ℕ) (i n j : ℕ) → i ≤ j → j < i + n → turned ks j ∈ ahead ks i n
unfolding ahead
in_ahead ks i zero j a b = absurd (omega arith)
in_ahead ks i (suc n) j a b = go (ℕ_discrete j i) (λ l. in_ahead ks (suc i) n j l (omega arith))
  where
    go : Dec (j ≡ i) → (suc i ≤ j → turned ks j ∈ ahead ks (suc i) n) → turned ks j ∈ (turned ks i ∷ ahead ks (suc i) n)
    go (yes e) below = inl (rw e)
    go (no e) below = inr (below (omega arith))

in_away : (G : Network) (t : Edges) (e : ℕ) → e ∈ up_to G.m → t e ≡ true → is_near G e ≡ false → e ∈ away G t
unfolding away
in_away G t e m h n = in_select (λ k. t k && not (eqb (G.a k) 1)) (up_to G.m) e m (rw (h, n))

away_in : (G : Network) (t : Edges) (e : ℕ) → e ∈ away G t → (e ∈ up_to G.m) × (t e ≡ true) × (is_near G e ≡ false)
unfolding away
away_in G t e m =
    let i = select_in (λ k. t k && not (eqb (G.a k) 1)) (up_to G.m) e m in
    let b = and_both (t e) (not (eqb (G.a e) 1)) i.1 in
    (i.0, b.0, not-true _ b.1)

module _ (g : Graph) (c ks : List ℕ) (f : ℕ) (o : InKeyOrder g (far_at g.a) c ks f) where
  abbrev G : Network
  G = network g

  abbrev v : value.Valid g
  v = o.valid

  listing : Listing (far G) (queued ks f)
  listing = let q = far-queued g c ks f o in rw q.splits at q.ordered.listing

  -- the edge of a turn is one of those away from vertex 1
  turn_far : (j : ℕ) → j < f → turned ks j ∈ far G
  turn_far j h = listing.back (turned ks j) (in_queued ks f j h)

  inside : (i : ℕ) → i ≤ f → Within G.a G.b (others G) (queued ks i)
  inside i h e m =
      let p = queued_in ks i e m in
      far_within G (network-valid g v) e (rw p.2 (turn_far p.0 (omega (arith, p.1))))

  -- ---- the rest would change nothing

  module _ (i : ℕ) (h : i ≤ f) where
    abbrev size : length (others G) + 1 ≡ G.n
    size = length-others G (omega (arith, network_n g, v.low))

    pub rank-top : rank G.a G.b (queued ks i) + 2 ≤ g.n
    rank-top = omega (arith, rank_most G.a G.b (others G) (queued ks i) (distinct-others G) (inside i h) 2 (two_in G (network-valid g v)), size, network_n g)

    pub stopped : (xs w : List ℕ) (far sum : ℕ) → (i < f → g.n ≤ far + 2) → TakenGreedily G c xs (queued ks i) w far sum
        → TakenGreedily G c xs (queued ks f) w far sum
    stopped xs w far sum full t = go (dec_le (suc i) f)
      where
        all : f - i + i ≡ f
        all = omega arith

        split : queued ks f ≡ later ks i (f - i) ++ queued ks i
        split = ap (queued ks) (sym all) ∙ later-queued ks i (f - i)

        rest : Within G.a G.b (others G) (later ks i (f - i))
        rest e m = inside f (omega arith) e (rw split (in_left e (later ks i (f - i)) (queued ks i) m))

        go : Dec (i < f) → TakenGreedily G c xs (queued ks f) w far sum
        go (no n) = let e : i ≡ f = omega arith in subst (λ (x : ℕ). TakenGreedily G c xs (queued ks x) w far sum) e t
        go (yes l) = rw split (grow_none G c xs (queued ks i) w far sum t (later ks i (f - i))
            (rank-inside G.a G.b (others G) (queued ks i) (distinct-others G) (inside i h) 2 (two_in G (network-valid g v))
            (omega (arith, full l, t.joined, rank-top, size, network_n g)) (later ks i (f - i)) rest))

  -- ---- at how many free edges it looked

  module _ (r : ℕ) (s : Small ks f r) (den : ℕ) (d : List ℤ) (ch : Charged den g d c) where
    -- with the costs that charges are made of
    abbrev H : Network
    H = scaled_by den G

    -- of two turns after the required edges the edge of the first comes before the other's
    before : (i j : ℕ) → r ≤ i → i < j → j < f → Before H (multiplier d) (turned ks i) (turned ks j)
    before i j a b h = rw (x.3, y.3) (go (dec_le (suc (get_or c k 0)) (get_or c l 0)))
      where
        at_turn : (t : ℕ) → t < f → (k : ℕ) × (k < g.m) × (get_or g.mark k 0 ≢ 2) × (get_or ks t 0 % 256 ≡ k) × (far_at g.a k ≡ true)
            × (get_or ks t 0 ≡ key_at g c k)
        at_turn = turn_key g (far_at g.a) c ks f o

        x : (k : ℕ) × (k < g.m) × (get_or g.mark k 0 ≢ 2) × (get_or ks i 0 % 256 ≡ k) × (far_at g.a k ≡ true)
            × (get_or ks i 0 ≡ key_at g c k)
        x = at_turn i (omega arith)

        y : (k : ℕ) × (k < g.m) × (get_or g.mark k 0 ≢ 2) × (get_or ks j 0 % 256 ≡ k) × (far_at g.a k ≡ true)
            × (get_or ks j 0 ≡ key_at g c k)
        y = at_turn j h

        k : ℕ
        k = x.0

        l : ℕ
        l = y.0

        -- a free edge's key
        free_key : (t : ℕ) → r ≤ t → t < f → (e : ℕ) → e < g.m → get_or ks t 0 % 256 ≡ e → get_or ks t 0 ≡ key_at g c e
            → get_or ks t 0 ≡ get_or c e 0 * 256 + e
        free_key t lo hi e m place key =
            key ∙ key_free (get_or g.mark e 0) (get_or c e 0) e (eqb-false (get_or g.mark e 0) 1
            (sym (needed-at g e m) ∙ (rw place at (off g (far_at g.a) c ks f o r s t lo hi))))

        key-x : get_or ks i 0 ≡ get_or c k 0 * 256 + k
        key-x = free_key i a (omega arith) k x.1 x.3 x.5

        key-y : get_or ks j 0 ≡ get_or c l 0 * 256 + l
        key-y = free_key j (omega arith) h l y.1 y.3 y.5

        apart : get_or ks i 0 < get_or ks j 0
        apart = at (ℕ_discrete (get_or ks i 0) (get_or ks j 0))
          where
            at : Dec (get_or ks i 0 ≡ get_or ks j 0) → get_or ks i 0 < get_or ks j 0
            at (yes e) = absurd (let z : i ≡ j = o.keyed.once i j (omega arith) h e in omega arith)
            at (no e) = omega (arith, o.ascending i j b h)

        go : Dec (get_or c k 0 < get_or c l 0) → Before H (multiplier d) (suc k) (suc l)
        go (yes e) = inl ((diff_lt _ _ _ _ _ _ (ch k x.1).is (ch l y.1).is).1 (omega arith))
        go (no e) =
            let same : get_or c k 0 ≡ get_or c l 0 = omega (arith, key-x, key-y, apart, x.1, y.1, v.few) in
            inr (
              diff_one _ _ (get_or c l 0) offset (rw same at (ch k x.1).is) (ch l y.1).is,
              omega (arith, key-x, key-y, apart, x.1, y.1, v.few),
            )

    sorted : (i n : ℕ) → r ≤ i → i + n ≤ f → Sorted H (multiplier d) (ahead ks i n)
    unfolding ahead
    sorted i zero a b = tt
    sorted i (suc n) a b = (
      λ e m. let p = ahead_in ks (suc i) n e m in
          rw p.3 (before i p.0 a p.1 (omega (arith, p.2))),
      sorted (suc i) n (omega arith) (omega arith),
    )

    -- the required edges are those of the first turns
    first_required : (e : ℕ) → e ∈ queued ks r → e ∈ required_among H
    first_required e m =
        let p = of_far g c ks f o r s e m in
        let i = far_in G e p.0 in
        in_away H (λ k. is_required (G.mark k)) e i.0 p.1 i.1

    required_first_in : (e : ℕ) → e ∈ required_among H → e ∈ queued ks r
    required_first_in e m =
        let i = away_in H (λ k. is_required (G.mark k)) e m in
        rw (required_first g (far_at g.a) c ks f o r s) at
        (in_select (needed G) (queued ks f) e
        (listing.there e (in_far G e i.0 i.2 (required_not (G.mark e) i.1))) i.1)

    ordered : InOrder H (multiplier d) (ahead ks r (f - r))
    ordered = record {
      all = λ e m. to e (away_in H (λ k. is_free (G.mark k)) e m);
      only = λ e m. of e (ahead_in ks r (f - r) e m);
      sorted = sorted r (f - r) (omega arith) (omega (arith, s.0));
    }
      where
        to : (e : ℕ) → (e ∈ up_to G.m) × (is_free (G.mark e) ≡ true) × (is_near G e ≡ false) → e ∈ ahead ks r (f - r)
        to e i = go (queued_in ks f e (listing.there e (in_far G e i.0 i.2 (free_not (G.mark e) i.1).1)))
          where
            go : (j : ℕ) × (j < f) × (e ≡ turned ks j) → e ∈ ahead ks r (f - r)
            go p = at (dec_le r p.0)
              where
                at : Dec (r ≤ p.0) → e ∈ ahead ks r (f - r)
                at (yes h) = rw p.2 (in_ahead ks r (f - r) p.0 h (omega (arith, p.1)))
                at (no h) = absurd (true≢false
                    (sym (subst (λ (x : ℕ). needed G x ≡ true) (sym p.2) (on g (far_at g.a) c ks f o r s p.0 (omega arith)))
                    ∙ (free_not (G.mark e) i.1).0))

        of : (e : ℕ) → (j : ℕ) × (r ≤ j) × (j < r + (f - r)) × (e ≡ turned ks j) → e ∈ free_among H
        of e p =
            let h : p.0 < f = omega (arith, p.2, s.0) in
            let i = far_in G (turned ks p.0) (turn_far p.0 h) in
            rw p.3 (in_away H (λ k. is_free (G.mark k)) (turned ks p.0) i.0
            (free_is (G.mark (turned ks p.0)) (off g (far_at g.a) c ks f o r s p.0 p.1 h) i.2) i.1)

    -- what the first q free edges and the required ones connect, the first r + q turns do
    same : (q : ℕ) → q ≤ f - r → rank_at H (valid_scaled den G (network-valid g v)) (ahead ks r (f - r)) q ≡ rank G.a G.b (queued ks (r + q))
    same q h = rw (ahead-take ks r q (f - r) h) (same_rank G.a G.b (ahead ks r q ++ required_among H) (queued ks (r + q)) there back)
      where
        there : (e : ℕ) → e ∈ (ahead ks r q ++ required_among H) → e ∈ queued ks (r + q)
        there e m = at (in_either e (ahead ks r q) (required_among H) m)
          where
            at : (e ∈ ahead ks r q) ⊎ (e ∈ required_among H) → e ∈ queued ks (r + q)
            at (inl i) = let p = ahead_in ks r q e i in rw p.3 (in_queued ks (r + q) p.0 p.2)
            at (inr i) =
                let p = queued_in ks r e (required_first_in e i) in
                rw p.2 (in_queued ks (r + q) p.0 (omega (arith, p.1)))

        back : (e : ℕ) → e ∈ queued ks (r + q) → e ∈ (ahead ks r q ++ required_among H)
        back e m = at (queued_in ks (r + q) e m)
          where
            at : (j : ℕ) × (j < r + q) × (e ≡ turned ks j) → e ∈ (ahead ks r q ++ required_among H)
            at p = go (dec_le r p.0)
              where
                go : Dec (r ≤ p.0) → e ∈ (ahead ks r q ++ required_among H)
                go (yes l) = in_left e (ahead ks r q) (required_among H) (rw p.2 (in_ahead ks r q p.0 l p.1))
                go (no l) = in_right e (ahead ks r q) (required_among H)
                    (first_required e (rw p.2 (in_queued ks r p.0 (omega arith))))

    -- THE SHORTEST BEGINNING, OR ALL
    pub looked : (i : ℕ) → r ≤ i → i ≤ f → Lacking G ks (g.n - 2) r i → (i < f → g.n ≤ rank G.a G.b (queued ks i) + 2)
        → Looked H (multiplier d) (i - r)
    looked i a b short full =
        looked_by_rank H (valid_scaled den G (network-valid g v)) (multiplier d) (ahead ks r (f - r)) ordered (i - r)
        (omega (arith, ahead-length ks r (f - r)))
        (λ q l. omega (arith, same q (omega arith), short (r + q) (omega arith) (omega arith), network_n g, v.low))
        (λ l.
        let e : r + (i - r) ≡ i = omega arith in
        omega (
          arith,
          same (i - r) (omega arith),
          ap (λ (x : ℕ). rank G.a G.b (queued ks x)) e,
          full (omega (arith, ahead-length ks r (f - r))),
          rank-top i b,
          network_n g,
        ))

-- ---- as the loop has it

-- where these are the keys of a graph's edges away from vertex 1, the first `from` of them required, the loop that ended at turn i looked at as many
-- free edges as document 02 says
abbrev pub LooksAsSaid : Graph → List ℕ → List ℕ → ℕ → ℕ → ℕ → ℕ → Type 0
LooksAsSaid g c ks f enough from i =
    (den : ℕ) (d : List ℤ) → InKeyOrder g (far_at g.a) c ks f → Small ks f from → Charged den g d c → g.n ≡ enough + 2
    → Looked (scaled_by den (network g)) (multiplier d) (i - from)

pub looks_as_said : (g : Graph) (c ks : List ℕ) (f enough from i : ℕ) (l w : List ℕ) (far sum : ℕ) → from ≤ i → i ≤ f
    → ChoiceSoFar (network g) c ks i l w far sum → Lacking (network g) ks enough from i → (i < f → enough ≤ far)
    → LooksAsSaid g c ks f enough from i
looks_as_said g c ks f enough from i l w far sum lo hi choice lacking full den d o s ch e =
    looked g c ks f o from s den d ch i lo hi
    (λ q x y. omega (arith, lacking q x y))
    (λ h. omega (arith, full h, choice.grew.joined))
