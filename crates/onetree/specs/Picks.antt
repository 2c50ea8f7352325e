-- What the loops of lifting find, in the code's arrays: for each free edge the best to change places with it, and at each vertex the least cost of such a
-- change. Assumes nothing.
use Rattle.std.specs.Prelude.{◌≡◌, refl, ◌≢◌, ◌⊎◌, Bool, true, false, cond, ◌||◌, eqb, ltb, List, ℕ, zero, suc, ◌+◌, ◌*◌, ◌/◌, ◌%◌, ◌<◌, ◌≤◌, length, get_or, set, replicate}
use Rattle.std.proofs.Common.{◌∙◌, sym, ap, subst, inl, inr, arith, min, eq-eqb, ne_eqb, length-set, get_or-set_same, get_or-set_other}
use Rattle.std.proofs.Math.Decide.{ℕ_discrete}
use Rattle.std.proofs.lemmas.List.{length-replicate, get_or-replicate}
use Rattle.graph.specs.Limits.{max_edges}
use Rattle.tree_theory.specs.Arrays.{entry}
use Rattle.greedy.specs.Charged.{no_charge}
use Rattle.lists.specs.Bools.{or_none}
use Rattle.lists.specs.Fill.{fill, fill-at}
use Rattle.lifting.specs.Folds.{more, less, less_is, least_to}
use Rattle.lifting.specs.Found.{key_of, top_of, cost_of, low_at, met}
use Rattle.lifting.specs.Meeting.{deeper_of, meets_in, on_in, Sides}
use Rattle.lifting.specs.Loops.{belongs, side_at, PickIs, pick_none, pick_skip, pick_more, least_step, place-small}
use Rattle.onetree.specs.declared.picks.Pick.{Pick}
use Rattle.onetree.specs.declared.picks.Swapping.{Swapping}

-- nothing changes places
abbrev pub no_pick : Pick
no_pick = record { place = 0; top = 0; at_a = 0; at_b = 0 }

-- no cost is known
abbrev pub Unpicked : List ℕ
Unpicked = replicate 21 no_charge

-- the edge at place k is a free one of this side
abbrev pub belongs_at : List ℕ → List ℕ → Bool → ℕ → Bool
belongs_at mark w inside k = belongs inside (get_or mark k 0) (get_or w k 0)

-- the label that an edge of the tree hangs above
abbrev pub lower_at : Swapping → ℕ → ℕ
lower_at s i = deeper_of s.hung.now.depth (get_or s.ends.now.from i 0) (get_or s.ends.now.to i 0)

-- the sides of the labels as a table, which code does not make
unfoldable pub side_table : List ℕ → List ℕ → List ℕ
unfolding side_at
side_table parent depth = fill 441 (λ p. side_at parent depth (p / 21) (p % 21))

pub sides_are : (parent depth : List ℕ) → Sides parent depth (side_table parent depth)
unfolding side_table side_at
sides_are parent depth v x hv hx =
    let e : (21 * v + x) / 21 ≡ v = omega arith in
    let f : (21 * v + x) % 21 ≡ x = omega arith in
    fill-at 441 (λ p. side_at parent depth (p / 21) (p % 21)) (21 * v + x) 0 (omega arith) ∙ rw (e, f) refl

-- which edges change places
abbrev pub meets_by : Swapping → ℕ → ℕ → Bool
meets_by s = meets_in s.tree.graph.now.a s.ends.now.from s.ends.now.to s.hung.now.depth (side_table s.hung.now.parent s.hung.now.depth)

-- labels have places, and charges are below no_charge
pub record Placed (s : Swapping) : Type 0 where
  pub labels : (k : ℕ) → k < s.tree.graph.now.m → (get_or s.ends.now.from k 0 < 21) × (get_or s.ends.now.to k 0 < 21)
  pub charges : (k : ℕ) → k < s.tree.graph.now.m → get_or s.tree.lists.now.charges k 0 ≤ no_charge

-- a list of places of edges
abbrev pub Early : ℕ → List ℕ → Type 0
Early m list = (i : ℕ) → i < length list → get_or list i 0 < m

-- the best of the first n of a list for the edge at place e
abbrev pub InTurn : Swapping → Bool → List ℕ → ℕ → ℕ → Pick → Type 0
InTurn s inside list e n p =
    PickIs s.tree.graph.now.a s.tree.graph.now.b (meets_by s) no_charge s.tree.lists.now.charges inside list e p.place p.top p.at_a p.at_b n

-- and of the whole list
abbrev pub PickBy : Swapping → Bool → List ℕ → ℕ → Pick → Type 0
PickBy s inside list e p = InTurn s inside list e (length list) p

-- the best p for the edge at place e once the edge at place f is met, which changes places with it
unfoldable pub offered : Swapping → Bool → ℕ → ℕ → Pick → Pick
offered s inside e f p =
    let a = s.tree.graph.now.a in
    let b = s.tree.graph.now.b in
    let x = key_of no_charge inside (get_or s.tree.lists.now.charges f 0) in
    record {
      place = cond (ltb p.top x) f p.place;
      top = more p.top x;
      at_a = cond (on_in a b (get_or a e 0) f) (more p.at_a x) p.at_a;
      at_b = cond (on_in a b (get_or b e 0) f) (more p.at_b x) p.at_b;
    }

-- so where the two have no vertex in common
unfoldable pub passed : Swapping → Bool → ℕ → Pick → Pick
passed s inside f p =
    let x = key_of no_charge inside (get_or s.tree.lists.now.charges f 0) in
    record { place = cond (ltb p.top x) f p.place; top = more p.top x; at_a = p.at_a; at_b = p.at_b }

-- an end of the edge at place k is an end of that at place i
unfoldable pub touching : Swapping → ℕ → ℕ → Bool
touching s i k =
    on_in s.tree.graph.now.a s.tree.graph.now.b (get_or s.tree.graph.now.a k 0) i || on_in s.tree.graph.now.a s.tree.graph.now.b (get_or s.tree.graph.now.b k 0) i

eqb_sym : (x y : ℕ) → eqb x y ≡ eqb y x
eqb_sym x y = go (ℕ_discrete x y)
  where
    go : Dec (x ≡ y) → eqb x y ≡ eqb y x
    go (yes e) = rw e refl
    go (no n) = ne_eqb x y n ∙ sym (ne_eqb y x (λ e. n (sym e)))

module _ (s : Swapping) (i k : ℕ) (h : touching s i k ≡ false) where
  pub passed_outer : (p : Pick) → passed s false i p ≡ offered s false k i p
  unfolding touching passed offered
  passed_outer p =
      let r = or_none (on_in s.tree.graph.now.a s.tree.graph.now.b (get_or s.tree.graph.now.a k 0) i)
      (on_in s.tree.graph.now.a s.tree.graph.now.b (get_or s.tree.graph.now.b k 0) i) h in
      rw (r.0, r.1) refl

  pub passed_inner : (p : Pick) → passed s true k p ≡ offered s true i k p
  unfolding touching passed offered
  passed_inner p =
      let r = or_none (on_in s.tree.graph.now.a s.tree.graph.now.b (get_or s.tree.graph.now.a k 0) i)
      (on_in s.tree.graph.now.a s.tree.graph.now.b (get_or s.tree.graph.now.b k 0) i) h in
      let u = or_none (eqb (get_or s.tree.graph.now.a i 0) (get_or s.tree.graph.now.a k 0)) (eqb (get_or s.tree.graph.now.b i 0) (get_or s.tree.graph.now.a k 0)) r.0 in
      let v = or_none (eqb (get_or s.tree.graph.now.a i 0) (get_or s.tree.graph.now.b k 0)) (eqb (get_or s.tree.graph.now.b i 0) (get_or s.tree.graph.now.b k 0)) r.1 in
      rw (
        eqb_sym (get_or s.tree.graph.now.a k 0) (get_or s.tree.graph.now.a i 0),
        eqb_sym (get_or s.tree.graph.now.b k 0) (get_or s.tree.graph.now.a i 0),
        eqb_sym (get_or s.tree.graph.now.a k 0) (get_or s.tree.graph.now.b i 0),
        eqb_sym (get_or s.tree.graph.now.b k 0) (get_or s.tree.graph.now.b i 0),
        u.0,
        u.1,
        v.0,
        v.1,
      ) refl

-- and once one is met, whether it does or not
unfoldable pub taken : Swapping → Bool → ℕ → ℕ → Pick → Pick
unfolding offered
taken s inside e f p = cond (met (meets_by s) inside e f) (offered s inside e f p) p

pub in_turn_first : (s : Swapping) (inside : Bool) (list : List ℕ) (e : ℕ) → InTurn s inside list e 0 no_pick
in_turn_first s inside list e = pick_none _ _ _ _ _ _ _ _

pub in_turn_next : (s : Swapping) (inside : Bool) (list : List ℕ) (e n : ℕ) (p : Pick) → InTurn s inside list e n p
    → (f : ℕ) → f ≡ get_or list n 0 → InTurn s inside list e (n + 1) (taken s inside e f p)
unfolding taken offered
in_turn_next s inside list e n p h f is = go (met (meets_by s) inside e f) refl
  where
    go : (b : Bool) → met (meets_by s) inside e f ≡ b → InTurn s inside list e (n + 1) (cond b (offered s inside e f p) p)
    go true q = pick_more _ _ _ _ _ _ _ _ _ _ _ _ n h f _ is q refl
    go false q = pick_skip _ _ _ _ _ _ _ _ _ _ _ _ n h (subst (λ (y : ℕ). met (meets_by s) inside e y ≡ false) is q)

-- what a change costs the edge at place e whose best this is
abbrev pub cost_with : Swapping → Bool → ℕ → Pick → ℕ
cost_with s inside e p = cost_of no_charge (key_of no_charge inside (get_or s.tree.lists.now.charges e 0)) p.top

-- the least costs at vertices, with one of the edge at place k
abbrev pub lowered : Swapping → ℕ → ℕ → List ℕ → List ℕ
lowered s k x lows =
    let a = get_or s.tree.graph.now.a k 0 in
    let b = get_or s.tree.graph.now.b k 0 in
    set (set lows a (min (get_or lows a 0) x)) b (min (get_or (set lows a (min (get_or lows a 0) x)) b 0) x)

-- what a change costs the edge at place e: the list has those of the other side
abbrev pub cost_by : Swapping → Bool → List ℕ → ℕ → ℕ
cost_by s inside list e = cost_of no_charge (key_of no_charge inside (get_or s.tree.lists.now.charges e 0))
    (top_of no_charge (entry s.tree.lists.now.charges) (meets_by s) inside list (length list) e)

pub costs_by : (s : Swapping) (inside : Bool) (others : List ℕ) (e : ℕ) (p : Pick) → PickBy s inside others e p → cost_with s inside e p ≡ cost_by s inside others e
costs_by s inside others e p h = rw h.is_top refl

-- of a list the first n edges have their best, and each vertex the least of their costs; the others have what they had
pub record PicksTo (s : Swapping) (inside : Bool) (list others : List ℕ) (before after : List Pick) (lows : List ℕ) (n : ℕ) : Type 0 where
  pub picked : (i : ℕ) → i < n → PickBy s inside others (get_or list i 0) (get_or after (get_or list i 0) no_pick)
  pub rest : (k : ℕ) → ((i : ℕ) → i < n → get_or list i 0 ≢ k) → get_or after k no_pick ≡ get_or before k no_pick
  pub low : (v : ℕ) → v < 21 → get_or lows v 0 ≡ low_at no_charge (on_in s.tree.graph.now.a s.tree.graph.now.b) (cost_by s inside others) list n v
  pub long : (length after ≡ length before) × (length lows ≡ 21)

-- ---- steps of the loop

less_min : (x y : ℕ) → min x y ≡ less x y
less_min x y = pick (less_is x y)
  where
    pick : (less x y ≤ x) × (less x y ≤ y) × ((less x y ≡ x) ⊎ (less x y ≡ y)) → min x y ≡ less x y
    pick (h, k, inl e) = omega (arith, h, k, e)
    pick (h, k, inr e) = omega (arith, h, k, e)

module _ (s : Swapping) (inside : Bool) (list others : List ℕ) (before : List Pick) where
  pub picks_none : (lows : List ℕ) → lows ≡ Unpicked → PicksTo s inside list others before before lows 0
  unfolding least_to
  picks_none lows e = rw e (record {
    picked = λ i h. absurd (omega arith);
    rest = λ k h. refl;
    low = λ v h. get_or-replicate 21 v no_charge 0 h;
    long = (refl, length-replicate {A = ℕ} 21 no_charge);
  })

  module _ (after : List Pick) (lows : List ℕ) (n : ℕ) (h : PicksTo s inside list others before after lows n) (room : length before ≡ max_edges)
      (k : ℕ) (is : k ≡ get_or list n 0) (hk : k < s.tree.graph.now.m) (p : Pick) (best : PickBy s inside others k p)
      (x : ℕ) (costs : x ≡ cost_by s inside others k) where
    a : ℕ
    a = get_or s.tree.graph.now.a k 0

    b : ℕ
    b = get_or s.tree.graph.now.b k 0

    apart : (get_or s.tree.graph.now.a k 0 < get_or s.tree.graph.now.b k 0) × (get_or s.tree.graph.now.b k 0 < 21)
    apart = let e = s.tree.valid.each k hk in (e.less, omega (arith, e.to, s.tree.valid.high))

    -- of vertex v after one edge more
    at_next : (v : ℕ) → low_at no_charge (on_in s.tree.graph.now.a s.tree.graph.now.b) (cost_by s inside others) list (n + 1) v
        ≡ cond (on_in s.tree.graph.now.a s.tree.graph.now.b v k)
        (less (low_at no_charge (on_in s.tree.graph.now.a s.tree.graph.now.b) (cost_by s inside others) list n v) x)
        (low_at no_charge (on_in s.tree.graph.now.a s.tree.graph.now.b) (cost_by s inside others) list n v)
    at_next v = rw (costs, is) (least_step no_charge (on_in s.tree.graph.now.a s.tree.graph.now.b v) (cost_by s inside others) list n)

    pub picks_more : (y z : ℕ) → y ≡ min (get_or lows (get_or s.tree.graph.now.a k 0) 0) x
        → z ≡ min (get_or (set lows (get_or s.tree.graph.now.a k 0) y) (get_or s.tree.graph.now.b k 0) 0) x
        → PicksTo s inside list others before (set after k p) (set (set lows (get_or s.tree.graph.now.a k 0) y) (get_or s.tree.graph.now.b k 0) z) (n + 1)
    unfolding a b
    picks_more y z ey ez = record {
      picked = λ i l. picked i l (ℕ_discrete (get_or list i 0) k);
      rest = λ j f. get_or-set_other after k j p no_pick (λ e. f n (omega arith) (sym is ∙ sym e)) ∙ h.rest j (λ i l. f i (omega (arith, l)));
      low = λ v l. low v l (ℕ_discrete v a) (ℕ_discrete v b);
      long = (length-set after k p ∙ h.long.0, length-set (set lows a y) b z ∙ length-set lows a y ∙ h.long.1);
    }
      where
        size : length (set lows a y) ≡ 21
        size = length-set lows a y ∙ h.long.1

        picked : (i : ℕ) → i < n + 1 → Dec (get_or list i 0 ≡ k) → PickBy s inside others (get_or list i 0) (get_or (set after k p) (get_or list i 0) no_pick)
        picked i l (yes e) = rw (e, get_or-set_same after k p no_pick (omega (arith, h.long.0, room, hk, s.tree.valid.few))) best
        picked i l (no e) = rw (get_or-set_other after k (get_or list i 0) p no_pick e) (h.picked i (earlier (ℕ_discrete i n)))
          where
            earlier : Dec (i ≡ n) → i < n
            earlier (yes q) = absurd (e (ap (λ (j : ℕ). get_or list j 0) q ∙ sym is))
            earlier (no q) = omega (arith, l, q)

        low : (v : ℕ) → v < 21 → Dec (v ≡ a) → Dec (v ≡ b) → get_or (set (set lows a y) b z) v 0
            ≡ low_at no_charge (on_in s.tree.graph.now.a s.tree.graph.now.b) (cost_by s inside others) list (n + 1) v
        low v l (yes e) q =
            rw (
              at_next v,
              e,
              eq-eqb a a refl,
              get_or-set_other (set lows a y) b a z 0 (λ f. omega (arith, f, apart)),
              get_or-set_same lows a y 0 (omega (arith, h.long.1, apart)),
              ey,
              ← h.low a (omega (arith, apart)),
            ) (less_min (get_or lows a 0) x)
        low v l (no e) (yes q) =
            rw (
              at_next v,
              q,
              ne_eqb a b (λ f. omega (arith, f, apart)),
              eq-eqb b b refl,
              get_or-set_same (set lows a y) b z 0 (omega (arith, size, apart)),
              ez,
              get_or-set_other lows a b y 0 (λ f. omega (arith, f, apart)),
              ← h.low b apart.1,
            ) (less_min (get_or lows b 0) x)
        low v l (no e) (no q) =
            rw (at_next v, ne_eqb a v (λ f. e (sym f)), ne_eqb b v (λ f. q (sym f)), get_or-set_other (set lows a y) b v z 0 q, get_or-set_other lows a v y 0 e) (h.low v l)

-- ---- places stay places

-- k stands among the first n of a list, or at none of these places
among : (list : List ℕ) (k n : ℕ) → ((i : ℕ) × (i < n) × (get_or list i 0 ≡ k)) ⊎ ((i : ℕ) → i < n → get_or list i 0 ≢ k)
among list k zero = inr (λ i h. absurd (omega arith))
among list k (suc n) = go (ℕ_discrete (get_or list n 0) k) (among list k n)
  where
    go : Dec (get_or list n 0 ≡ k) → ((i : ℕ) × (i < n) × (get_or list i 0 ≡ k)) ⊎ ((i : ℕ) → i < n → get_or list i 0 ≢ k)
        → ((i : ℕ) × (i < suc n) × (get_or list i 0 ≡ k)) ⊎ ((i : ℕ) → i < suc n → get_or list i 0 ≢ k)
    go (yes e) h = inl (n, omega arith, e)
    go (no e) (inl r) = inl (r.0, omega (arith, r.1), r.2)
    go (no e) (inr f) = inr (λ i h. other i h (ℕ_discrete i n))
      where
        other : (i : ℕ) → i < suc n → Dec (i ≡ n) → get_or list i 0 ≢ k
        other i h (yes q) = λ z. e (ap (λ (j : ℕ). get_or list j 0) (sym q) ∙ z)
        other i h (no q) = f i (omega (arith, h, q))

pub picks_small : (s : Swapping) (inside : Bool) (list others : List ℕ) (before after : List Pick) (lows : List ℕ) (n : ℕ)
    → PicksTo s inside list others before after lows n → Early max_edges others → ((k : ℕ) → (get_or before k no_pick).place < max_edges)
    → (k : ℕ) → (get_or after k no_pick).place < max_edges
picks_small s inside list others before after lows n h early old k = go (among list k n)
  where
    go : ((i : ℕ) × (i < n) × (get_or list i 0 ≡ k)) ⊎ ((i : ℕ) → i < n → get_or list i 0 ≢ k) → (get_or after k no_pick).place < max_edges
    go (inl r) =
        let p : PickBy s inside others k (get_or after k no_pick) = rw r.2 at (h.picked r.0 r.1) in
        rw p.is_place (place-small _ _ others (length others) early)
    go (inr f) = rw (h.rest k f) (old k)
