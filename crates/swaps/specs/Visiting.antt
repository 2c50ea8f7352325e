-- The vertices are hung one by one, each on a vertex that hangs and whose list has the edge between them, and wait in a queue to be
-- visited; at the end every neighbour of a vertex that hangs, hangs too. Assumes nothing.
use Rattle.std.specs.Prelude.{◌≡◌, refl, ◌≢◌, ◌⊎◌, ℕ, zero, suc, ◌+◌, ◌-◌, ◌<◌, ◌≤◌, length, set, replicate}
use Rattle.std.proofs.Common.{◌∙◌, sym, arith}
use Rattle.std.proofs.Math.Path.{ap}
use mathlib.Core.List.{List, [], ◌∷◌, ◌++◌}
use Rattle.std.proofs.Math.Decide.{ℕ_discrete, dec_le}
use Rattle.std.proofs.Math.Numerals.{add-one}
use Rattle.std.proofs.Math.ListN.{get_or, length-set, get_or-append}
use Rattle.std.proofs.Math.Seq.{get_or-set_same, get_or-set_other, get_or-append_seam}
use Rattle.std.proofs.lemmas.List.{length-append}
use Rattle.lists.specs.Fill.{replicate-at}
use Rattle.swaps.specs.Grid.{cell}
use Rattle.swaps.specs.TreeTable.{listed}

-- the vertex above each vertex, how deep it hangs (0: nowhere yet) and the place of the edge to the vertex above
pub record Rooting : Type 0 where
  pub parent : List ℕ
  pub depth : List ℕ
  pub edge : List ℕ

abbrev pub rooting : List ℕ → List ℕ → List ℕ → Rooting
rooting parent depth edge = record { parent = parent; depth = depth; edge = edge }

abbrev pub parent_at : Rooting → ℕ → ℕ
parent_at r v = get_or r.parent v 0

abbrev pub depth_at : Rooting → ℕ → ℕ
depth_at r v = get_or r.depth v 0

abbrev pub edge_at : Rooting → ℕ → ℕ
edge_at r v = get_or r.edge v 0

-- the vertices that are to hang
abbrev pub Among : ℕ → ℕ → Type 0
Among n v = (2 ≤ v) × (v ≤ n)

-- the edge at place k joins x and y, where a and b have the ends of the edges
abbrev pub Joined : List ℕ → List ℕ → ℕ → ℕ → ℕ → Type 0
Joined a b k x y = ((get_or a k 0 ≡ x) × (get_or b k 0 ≡ y)) ⊎ ((get_or a k 0 ≡ y) × (get_or b k 0 ≡ x))

-- its end other than x
abbrev pub opposite : List ℕ → List ℕ → ℕ → ℕ → ℕ
opposite a b x k = (get_or a k 0 + get_or b k 0) - x

-- from x it leads to a vertex that is to hang
pub record Leads (a b : List ℕ) (n x k : ℕ) : Type 0 where
  pub room : k < 190
  pub joins : Joined a b k x (opposite a b x k)
  pub among : Among n (opposite a b x k)

pub leads_more : (a b : List ℕ) (n n' x k : ℕ) → n ≤ n' → Leads a b n x k → Leads a b n' x k
leads_more a b n n' x k h l = record { room = l.room; joins = l.joins; among = (l.among.0, omega (arith, l.among.1)) }

-- so does every edge of a list
abbrev pub Leading : List ℕ → List ℕ → ℕ → ℕ → List ℕ → Type 0
Leading a b n x row = (i : ℕ) → get_or row i 0 ≢ 0 → Leads a b n x (get_or row i 0 - 1)

-- the list of x, in a table of the lists of all
abbrev pub row_of : List (List ℕ) → ℕ → List ℕ
row_of t x = get_or t (x - 1) []

-- the lists are fit to be walked
pub record Rows (a b : List ℕ) (n : ℕ) (t : List (List ℕ)) : Type 0 where
  pub leading : (x : ℕ) → 1 ≤ x → Leading a b n x (row_of t x)
  pub stops : (x : ℕ) → 1 ≤ x → listed t x 19 ≡ 0

-- a vertex hangs when it has a depth; the root hangs on nothing
pub record Hung (a b : List ℕ) (t : List (List ℕ)) (n : ℕ) (r : Rooting) : Type 0 where
  pub long : (length r.parent ≡ 21) × (length r.depth ≡ 21) × (length r.edge ≡ 21)
  pub root : depth_at r 2 ≡ 1
  pub inside : (v : ℕ) → 1 ≤ depth_at r v → Among n v
  pub seen : (v : ℕ) → 3 ≤ v → 1 ≤ depth_at r v → 1 ≤ depth_at r (parent_at r v)
  pub deep : (v : ℕ) → 3 ≤ v → 1 ≤ depth_at r v → depth_at r v ≡ suc (depth_at r (parent_at r v))
  pub edge : (v : ℕ) → 3 ≤ v → 1 ≤ depth_at r v
      → ((i : ℕ) × (listed t (parent_at r v) i ≡ suc (edge_at r v))) × Joined a b (edge_at r v) (parent_at r v) v

-- where the list of a vertex that hangs leads, hangs, as far as the list has no zero
abbrev pub Complete : List ℕ → List ℕ → List (List ℕ) → Rooting → Type 0
Complete a b t r = (x i : ℕ) → 1 ≤ depth_at r x → ((j : ℕ) → j ≤ i → listed t x j ≢ 0)
    → 1 ≤ depth_at r (opposite a b x (listed t x i - 1))

-- at first the root alone hangs
abbrev pub alone : Rooting
alone = record { parent = replicate 21 0; depth = set (replicate 21 0) 2 1; edge = replicate 21 0 }

only_two : (v : ℕ) → 1 ≤ depth_at alone v → v ≡ 2
only_two v l = go (ℕ_discrete v 2)
  where
    go : Dec (v ≡ 2) → v ≡ 2
    go (yes e) = e
    go (no e) = absurd (omega (arith, get_or-set_other {A = ℕ} (replicate 21 0) 2 v 1 0 e, replicate-at {A = ℕ} 21 0 v))

pub hung_root : (a b : List ℕ) (t : List (List ℕ)) (n : ℕ) → 2 ≤ n → Hung a b t n alone
hung_root a b t n h = record {
  long = (refl, refl, refl);
  root = refl;
  inside = λ v l. (omega (arith, only_two v l), omega (arith, only_two v l));
  seen = λ v i l. absurd (omega (arith, only_two v l));
  deep = λ v i l. absurd (omega (arith, only_two v l));
  edge = λ v i l. absurd (omega (arith, only_two v l));
}

-- y is hung on x, by the edge at place e and with the depth d
abbrev pub hung_on : Rooting → ℕ → ℕ → ℕ → ℕ → Rooting
hung_on r x y d e = record { parent = set r.parent y x; depth = set r.depth y d; edge = set r.edge y e }

module _ (a b : List ℕ) (t : List (List ℕ)) (n : ℕ) (r : Rooting) (x y d e : ℕ) (h : Hung a b t n r) (hx : 1 ≤ depth_at r x)
    (hy : depth_at r y ≡ 0) (vy : Among n y) (room : y < 21) (at : (i : ℕ) × (listed t x i ≡ suc e)) (ends : Joined a b e x y)
    (dx : d ≡ depth_at r x + 1) where
  new_p : parent_at (hung_on r x y d e) y ≡ x
  new_p = get_or-set_same r.parent y x 0 (omega (arith, h.long.0))

  new_d : depth_at (hung_on r x y d e) y ≡ d
  new_d = get_or-set_same r.depth y d 0 (omega (arith, h.long.1))

  new_e : edge_at (hung_on r x y d e) y ≡ e
  new_e = get_or-set_same r.edge y e 0 (omega (arith, h.long.2))

  old_p : (v : ℕ) → v ≢ y → parent_at (hung_on r x y d e) v ≡ parent_at r v
  old_p v f = get_or-set_other r.parent y v x 0 f

  old_d : (v : ℕ) → v ≢ y → depth_at (hung_on r x y d e) v ≡ depth_at r v
  old_d v f = get_or-set_other r.depth y v d 0 f

  old_e : (v : ℕ) → v ≢ y → edge_at (hung_on r x y d e) v ≡ edge_at r v
  old_e v f = get_or-set_other r.edge y v e 0 f

  was : (v : ℕ) → v ≢ y → 1 ≤ depth_at (hung_on r x y d e) v → 1 ≤ depth_at r v
  was v f l = omega (arith, old_d v f)

  -- a vertex that hung is not y
  not-y : (v : ℕ) → 1 ≤ depth_at r v → v ≢ y
  not-y v l q = omega (arith, ap (depth_at r) q)

  hung_on_lem : Hung a b t n (hung_on r x y d e)
  hung_on_lem = record {
    long = (length-set r.parent y x ∙ h.long.0, length-set r.depth y d ∙ h.long.1, length-set r.edge y e ∙ h.long.2);
    root = old_d 2 (not-y 2 (omega (arith, h.root))) ∙ h.root;
    inside = λ v l. inside_at v l (ℕ_discrete v y);
    seen = λ v i l. seen_at v i l (ℕ_discrete v y);
    deep = λ v i l. deep_at v i l (ℕ_discrete v y);
    edge = λ v i l. edge_is v i l (ℕ_discrete v y);
  }
    where
      inside_at : (v : ℕ) → 1 ≤ depth_at (hung_on r x y d e) v → Dec (v ≡ y) → Among n v
      inside_at v l (yes q) = rw q vy
      inside_at v l (no q) = h.inside v (was v q l)

      seen_at : (v : ℕ) → 3 ≤ v → 1 ≤ depth_at (hung_on r x y d e) v → Dec (v ≡ y)
          → 1 ≤ depth_at (hung_on r x y d e) (parent_at (hung_on r x y d e) v)
      seen_at v i l (yes q) = rw (q, new_p, old_d x (not-y x hx)) hx
      seen_at v i l (no q) = let p = h.seen v i (was v q l) in rw (old_p v q, old_d (parent_at r v) (not-y (parent_at r v) p)) p

      deep_at : (v : ℕ) → 3 ≤ v → 1 ≤ depth_at (hung_on r x y d e) v → Dec (v ≡ y)
          → depth_at (hung_on r x y d e) v ≡ suc (depth_at (hung_on r x y d e) (parent_at (hung_on r x y d e) v))
      deep_at v i l (yes q) = rw (q, new_p, old_d x (not-y x hx), new_d) (omega arith)
      deep_at v i l (no q) =
          rw (old_p v q, old_d (parent_at r v) (not-y (parent_at r v) (h.seen v i (was v q l))), old_d v q) (h.deep v i (was v q l))

      edge_is : (v : ℕ) → 3 ≤ v → 1 ≤ depth_at (hung_on r x y d e) v → Dec (v ≡ y)
          → ((i : ℕ) × (listed t (parent_at (hung_on r x y d e) v) i ≡ suc (edge_at (hung_on r x y d e) v)))
          × Joined a b (edge_at (hung_on r x y d e) v) (parent_at (hung_on r x y d e) v) v
      edge_is v i l (yes q) = rw (q, new_p, new_e) (at, ends)
      edge_is v i l (no q) = rw (old_p v q, old_e v q) (h.edge v i (was v q l))

-- ---- the queue: the vertices that hang, in the order of hanging

-- how many do not hang
unfoldable pub left : List ℕ → ℕ
left [] = 0
left (zero ∷ l) = suc (left l)
left (suc d ∷ l) = left l

left_less : (l : List ℕ) (i d : ℕ) → i < length l → get_or l i 0 ≡ 0 → suc (left (set l i (suc d))) ≡ left l
unfolding left
left_less [] i d h e = absurd (let z : suc i ≤ 0 = h in omega arith)
left_less (zero ∷ l) zero d h e = refl
left_less (suc x ∷ l) zero d h e = absurd (let z : suc x ≡ 0 = e in omega arith)
left_less (zero ∷ l) (suc i) d h e = ap suc (left_less l i d (omega arith) e)
left_less (suc x ∷ l) (suc i) d h e = left_less l i d (omega arith) e

-- the queue has every vertex that hangs, and the root before all others
pub record Lined (depth queue : List ℕ) (count : ℕ) : Type 0 where
  pub long : length queue ≡ count
  pub bound : (v : ℕ) → get_or depth v 0 ≤ count
  pub hangs : (j : ℕ) → j < count → 1 ≤ get_or depth (get_or queue j 0) 0
  pub each : (v : ℕ) → 1 ≤ get_or depth v 0 → (j : ℕ) × (j < count) × (get_or queue j 0 ≡ v)
  pub room : count + left depth ≡ 21
  pub first : (1 ≤ count) × (get_or queue 0 0 ≡ 2)
  pub others : (j : ℕ) → 1 ≤ j → j < count → get_or queue j 0 ≢ 2

pub lined_root : Lined alone.depth (2 ∷ []) 1
unfolding left
lined_root = record {
  long = refl;
  bound = λ v. bound_at v (ℕ_discrete v 2);
  hangs = λ j l. hangs_at j l;
  each = λ v l. (0, omega arith, sym (only_two v l));
  room = refl;
  first = (omega arith, refl);
  others = λ j l h. absurd (omega arith);
}
  where
    bound_at : (v : ℕ) → Dec (v ≡ 2) → depth_at alone v ≤ 1
    bound_at v (yes e) = rw e (omega arith)
    bound_at v (no e) = omega (arith, get_or-set_other {A = ℕ} (replicate 21 0) 2 v 1 0 e, replicate-at {A = ℕ} 21 0 v)

    hangs_at : (j : ℕ) → j < 1 → 1 ≤ depth_at alone (get_or (2 ∷ []) j 0)
    hangs_at zero l = omega arith
    hangs_at (suc j) l = absurd (let z : suc (suc j) ≤ 1 = l in omega arith)

module _ (depth queue : List ℕ) (count y d : ℕ) (long : length depth ≡ 21) (h : Lined depth queue count) (hy : get_or depth y 0 ≡ 0)
    (ly : y < 21) where
  lined_room : count < 21
  lined_room = omega (arith, h.room, left_less depth y 0 (omega arith) hy)

  lined_more : d ≤ count → Lined (set depth y (suc d)) (queue ++ (y ∷ [])) (count + 1)
  lined_more low = record {
    long = length-append queue (y ∷ []) ∙ omega (arith, h.long);
    bound = λ v. bound_at v (ℕ_discrete v y);
    hangs = λ j l. hangs_at j l (ℕ_discrete j count);
    each = λ v l. each_at v l (ℕ_discrete v y);
    room = omega (arith, h.room, left_less depth y d (omega arith) hy);
    first = (omega arith, same 0 h.first.0 ∙ h.first.1);
    others = λ j i l. others_at j i l (ℕ_discrete j count);
  }
    where
      new : get_or (set depth y (suc d)) y 0 ≡ suc d
      new = get_or-set_same depth y (suc d) 0 (omega arith)

      last : get_or (queue ++ (y ∷ [])) count 0 ≡ y
      last = rw (← h.long) (get_or-append_seam queue y [] 0)

      same : (j : ℕ) → j < count → get_or (queue ++ (y ∷ [])) j 0 ≡ get_or queue j 0
      same j l = get_or-append queue (y ∷ []) 0 j (omega (arith, h.long))

      bound_at : (v : ℕ) → Dec (v ≡ y) → get_or (set depth y (suc d)) v 0 ≤ count + 1
      bound_at v (yes q) = rw (q, new) (omega arith)
      bound_at v (no q) = omega (arith, get_or-set_other depth y v (suc d) 0 q, h.bound v)

      still : (v : ℕ) → 1 ≤ get_or depth v 0 → 1 ≤ get_or (set depth y (suc d)) v 0
      still v l = rw (get_or-set_other depth y v (suc d) 0 (λ q. omega (arith, ap (λ (z : ℕ). get_or depth z 0) q))) l

      hangs_at : (j : ℕ) → j < count + 1 → Dec (j ≡ count) → 1 ≤ get_or (set depth y (suc d)) (get_or (queue ++ (y ∷ [])) j 0) 0
      hangs_at j l (yes q) = rw (q, last, new) (omega arith)
      hangs_at j l (no q) = rw (same j (omega arith)) (still (get_or queue j 0) (h.hangs j (omega arith)))

      -- the root hangs
      not_root : y ≢ 2
      not_root q = omega (arith, rw h.first.1 at (h.hangs 0 h.first.0), ap (λ (z : ℕ). get_or depth z 0) q)

      others_at : (j : ℕ) → 1 ≤ j → j < count + 1 → Dec (j ≡ count) → get_or (queue ++ (y ∷ [])) j 0 ≢ 2
      others_at j i l (yes q) = rw (q, last) not_root
      others_at j i l (no q) = rw (same j (omega arith)) (h.others j i (omega arith))

      each_at : (v : ℕ) → 1 ≤ get_or (set depth y (suc d)) v 0 → Dec (v ≡ y)
          → (j : ℕ) × (j < count + 1) × (get_or (queue ++ (y ∷ [])) j 0 ≡ v)
      each_at v l (yes q) = (count, omega arith, last ∙ sym q)
      each_at v l (no q) =
          let r = h.each v (omega (arith, get_or-set_other depth y v (suc d) 0 q)) in
          (r.0, omega (arith, r.1), same r.0 r.1 ∙ r.2)

-- ---- a visit of x, whose list is the row

-- what it needs
pub record Leaving (a b row : List ℕ) (x : ℕ) (r : Rooting) (queue : List ℕ) (count : ℕ) : Type 0 where
  pub long : (length r.parent ≡ 21) × (length r.depth ≡ 21) × (length r.edge ≡ 21)
  pub lined : Lined r.depth queue count
  pub low : 1 ≤ x
  pub small : x < 21
  pub hangs : 1 ≤ depth_at r x
  pub leading : Leading a b 20 x row
  pub stops : get_or row 19 0 ≡ 0

-- what it made of r and the queue when it has walked i places of the row
pub record Visited (a b row : List ℕ) (x : ℕ) (r : Rooting) (queue : List ℕ) (count : ℕ) (s : Rooting) (queue' : List ℕ) (count' i : ℕ) : Type 0 where
  pub long : (length s.parent ≡ 21) × (length s.depth ≡ 21) × (length s.edge ≡ 21)
  pub lined : Lined s.depth queue' count'
  pub more : count ≤ count'
  pub old : (j : ℕ) → j < count → get_or queue' j 0 ≡ get_or queue j 0
  pub same : (v : ℕ) → 1 ≤ depth_at r v → depth_at s v ≡ depth_at r v
  pub all : (j : ℕ) → j < i → 1 ≤ depth_at s (opposite a b x (get_or row j 0 - 1))
  pub kept : (t : List (List ℕ)) (n : ℕ) → row_of t x ≡ row → Leading a b n x row → Hung a b t n r → Hung a b t n s

-- at the end
abbrev pub NeighboursHung : List ℕ → List ℕ → List ℕ → ℕ → Rooting → List ℕ → ℕ → Rooting → List ℕ → ℕ → Type 0
NeighboursHung a b row x r queue count s queue' count' =
    (i : ℕ) × (get_or row i 0 ≡ 0) × Visited a b row x r queue count s queue' count' i

module _ (a b row : List ℕ) (x : ℕ) (r : Rooting) (queue : List ℕ) (count : ℕ) (l : Leaving a b row x r queue count) where
  pub visited_none : Visited a b row x r queue count r queue count 0
  visited_none = record {
    long = l.long;
    lined = l.lined;
    more = omega arith;
    old = λ j h. refl;
    same = λ v h. refl;
    all = λ j h. absurd (let z : suc j ≤ 0 = h in omega arith);
    kept = λ t n e d h. h;
  }

  module _ (s : Rooting) (queue' : List ℕ) (count' i : ℕ) (w : Visited a b row x r queue count s queue' count' i) where
    pub visited_on : 1 ≤ depth_at s (opposite a b x (get_or row i 0 - 1)) → Visited a b row x r queue count s queue' count' (i + 1)
    visited_on h = record {
      long = w.long;
      lined = w.lined;
      more = w.more;
      old = w.old;
      same = w.same;
      all = λ j k. go j k (ℕ_discrete j i);
      kept = w.kept;
    }
      where
        go : (j : ℕ) → j < i + 1 → Dec (j ≡ i) → 1 ≤ depth_at s (opposite a b x (get_or row j 0 - 1))
        go j k (yes q) = rw q h
        go j k (no q) = w.all j (omega arith)

    module _ (f : get_or row i 0 ≢ 0) (y : ℕ) (ey : y ≡ opposite a b x (get_or row i 0 - 1)) (hy : depth_at s y ≡ 0) where
      ly : y < 21
      ly = omega (arith, ey, (l.leading i f).among)

      still : (v : ℕ) → 1 ≤ depth_at s v → depth_at (hung_on s x y (depth_at r x + 1) (get_or row i 0 - 1)) v ≡ depth_at s v
      still v h = get_or-set_other s.depth y v (depth_at r x + 1) 0 (λ q. omega (arith, ap (depth_at s) q))

      pub visited_room : count' < 21
      visited_room = lined_room s.depth queue' count' y 0 w.long.1 w.lined hy ly

      pub visited_hang : (k : ℕ) → k ≡ get_or row i 0 - 1 → Visited a b row x r queue count
          (hung_on s x y (depth_at r x + 1) k) (queue' ++ (y ∷ [])) (count' + 1) (i + 1)
      unfolding cell
      visited_hang k place = rw place (record {
        long = (
          length-set s.parent y x ∙ w.long.0,
          length-set s.depth y (depth_at r x + 1) ∙ w.long.1,
          length-set s.edge y (get_or row i 0 - 1) ∙ w.long.2,
        );
        lined = rw add-one (lined_more s.depth queue' count' y (depth_at r x) w.long.1 w.lined hy ly
            (omega (arith, l.lined.bound x, w.more)));
        more = omega (arith, w.more);
        old = λ j h. get_or-append queue' (y ∷ []) 0 j (omega (arith, w.more, w.lined.long)) ∙ w.old j h;
        same = λ v h. still v (rw (w.same v h) h) ∙ w.same v h;
        all = λ j k. go j k (ℕ_discrete j i);
        kept = λ t n e d h.
            let q = w.same x l.hangs in
            hung_on_lem a b t n s x y (depth_at r x + 1) (get_or row i 0 - 1) (w.kept t n e d h) (omega (arith, q, l.hangs)) hy
            (rw ey (d i f).among) ly (i, ap (λ (u : List ℕ). get_or u i 0) e ∙ omega arith) (rw ey (d i f).joins) (omega (arith, q));
      })
        where
          new : depth_at (hung_on s x y (depth_at r x + 1) (get_or row i 0 - 1)) y ≡ depth_at r x + 1
          new = get_or-set_same s.depth y (depth_at r x + 1) 0 (omega (arith, w.long.1, ly))

          go : (j : ℕ) → j < i + 1 → Dec (j ≡ i)
              → 1 ≤ depth_at (hung_on s x y (depth_at r x + 1) (get_or row i 0 - 1)) (opposite a b x (get_or row j 0 - 1))
          go j k (yes q) = rw (q, ← ey, new) (omega arith)
          go j k (no q) = let h = w.all j (omega arith) in rw (still (opposite a b x (get_or row j 0 - 1)) h) h

-- ---- where the lists of the first i vertices of the queue lead, hangs

abbrev pub Closed : List ℕ → List ℕ → List (List ℕ) → List ℕ → List ℕ → ℕ → Type 0
Closed a b t depth queue i = (p j : ℕ) → p < i → ((q : ℕ) → q ≤ j → listed t (get_or queue p 0) q ≢ 0)
    → 1 ≤ get_or depth (opposite a b (get_or queue p 0) (listed t (get_or queue p 0) j - 1)) 0

pub closed_more : (a b : List ℕ) (t : List (List ℕ)) (x : ℕ) (r : Rooting) (queue : List ℕ) (count : ℕ) (s : Rooting) (queue' : List ℕ)
    (count' i : ℕ) → i < count → x ≡ get_or queue i 0 → Closed a b t r.depth queue i
    → NeighboursHung a b (row_of t x) x r queue count s queue' count' → Closed a b t s.depth queue' (i + 1)
unfolding cell
closed_more a b t x r queue count s queue' count' i li ex c (k, stop, w) p j h full = go (ℕ_discrete p i)
  where
    same : get_or queue' p 0 ≡ get_or queue p 0
    same = w.old p (omega arith)

    go : Dec (p ≡ i) → 1 ≤ get_or s.depth (opposite a b (get_or queue' p 0) (listed t (get_or queue' p 0) j - 1)) 0
    go (yes q) = rw here (w.all j (before (dec_le k j)))
      where
        here : get_or queue' p 0 ≡ x
        here = same ∙ ap (λ (z : ℕ). get_or queue z 0) q ∙ sym ex

        before : Dec (k ≤ j) → j < k
        before (no z) = omega arith
        before (yes z) = absurd (full k z (rw here stop))
    go (no q) = rw same (still _ (c p j (omega arith) (rw same at full)))
      where
        still : (v : ℕ) → 1 ≤ get_or r.depth v 0 → 1 ≤ get_or s.depth v 0
        still v l = rw (w.same v l) l

-- when all of the queue has been visited the tree is complete
pub closed_all : (a b : List ℕ) (t : List (List ℕ)) (r : Rooting) (queue : List ℕ) (count : ℕ) → Lined r.depth queue count
    → Closed a b t r.depth queue count → Complete a b t r
closed_all a b t r queue count l c x i h full = go (l.each x h)
  where
    go : (j : ℕ) × (j < count) × (get_or queue j 0 ≡ x) → 1 ≤ depth_at r (opposite a b x (listed t x i - 1))
    go p = rw p.2 at (c p.0 i p.1 (rw p.2 full))
