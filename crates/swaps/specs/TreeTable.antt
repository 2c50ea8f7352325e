-- The 20 by 20 array of the tree's free far edges: row x − 1 lists those at x, each as one more than its place, and has zeros after them.
-- Their ends are told by two lists, and are the same vertex for no edge. A 1-tree has too few edges to fill a row. Assumes nothing.
use Rattle.std.specs.Prelude.{◌≡◌, refl, ◌≢◌, ◌⊎◌, Bool, true, not, ◌&&◌, List, ℕ, zero, suc, ◌+◌, ◌-◌, ◌<◌, ◌≤◌, eqb, ltb, length, get_or, set, replicate}
use Rattle.std.proofs.Common.{◌∙◌, sym, ap, inl, inr, arith, add-one, length-set, get_or-set_same, get_or-set_other, eqb-true, eq-eqb, ne_eqb, lt-ltb, le-ltb}
use Rattle.std.proofs.Math.Decide.{ℕ_discrete, dec_le}
use Rattle.std.proofs.lemmas.Bool.{eqb-false, not-true}
use Rattle.lists.specs.Bools.{and_both}
use Rattle.lists.specs.Fill.{replicate-at}
use Rattle.lists.specs.Select.{select}
use Rattle.lists.specs.Numbers.{up_to}
use Rattle.lists.specs.Weights.{keep-length}
use Rattle.graph.specs.declared.Graph.{Graph}
use Rattle.graph.specs.Network.{network}
use Rattle.graph.specs.Places.{network_a}
use Rattle.graph.specs.Valid.{Valid}
use Rattle.tree_theory.specs.OneTree.{OneTree, away}
use Rattle.tree_theory.specs.Arrays.{bytes}
use Rattle.swaps.specs.Grid.{cell, put, Square, put_same, put_other, put_square, zero_square, zero_cell}

-- the edge at place k is in the tree, free, and not at vertex 1
pub record Inner (g : Graph) (w : List ℕ) (k : ℕ) : Type 0 where
  pub chosen : get_or w k 0 ≡ 1
  pub free : get_or g.mark k 0 ≡ 0
  pub far : get_or g.a k 0 ≢ 1

-- the same in one test
pub test_inner : (g : Graph) (w : List ℕ) (k : ℕ)
    → not (eqb (get_or g.a k 0) 1) && (eqb (get_or w k 0) 1 && eqb (get_or g.mark k 0) 0) ≡ true → Inner g w k
test_inner g w k e =
    let p = and_both (not (eqb (get_or g.a k 0) 1)) (eqb (get_or w k 0) 1 && eqb (get_or g.mark k 0) 0) e in
    let q = and_both (eqb (get_or w k 0) 1) (eqb (get_or g.mark k 0) 0) p.1 in
    record {
      chosen = eqb-true (get_or w k 0) 1 q.0;
      free = eqb-true (get_or g.mark k 0) 0 q.1;
      far = eqb-false (get_or g.a k 0) 1 (not-true (eqb (get_or g.a k 0) 1) p.0);
    }

pub inner_test : (g : Graph) (w : List ℕ) (k : ℕ) → Inner g w k
    → not (eqb (get_or g.a k 0) 1) && (eqb (get_or w k 0) 1 && eqb (get_or g.mark k 0) 0) ≡ true
inner_test g w k i =
    rw (ne_eqb (get_or g.a k 0) 1 i.far, eq-eqb (get_or w k 0) 1 i.chosen, eq-eqb (get_or g.mark k 0) 0 i.free)

-- a bit is greater than a mark only if it is 1 and the mark 0
pub greater_bit : (mark x : ℕ) → x ≤ 1 → ltb mark x ≡ eqb x 1 && eqb mark 0
greater_bit mark zero h = le-ltb mark 0 (omega arith)
greater_bit zero (suc zero) h = lt-ltb 0 1 (omega arith)
greater_bit (suc mark) (suc zero) h = le-ltb (suc mark) 1 (omega arith) ∙ sym (ne_eqb (suc mark) 0 (λ e. omega arith))
greater_bit mark (suc (suc x)) h = absurd (omega arith)

-- x is an end of it
abbrev pub End : List ℕ → List ℕ → ℕ → ℕ → Type 0
End from to k x = (get_or from k 0 ≡ x) ⊎ (get_or to k 0 ≡ x)

-- its two ends are vertices other than vertex 1, and not the same
pub record TwoEnds (n : ℕ) (from to : List ℕ) (k : ℕ) : Type 0 where
  pub low : 2 ≤ get_or from k 0
  pub high : get_or from k 0 ≤ n
  pub low' : 2 ≤ get_or to k 0
  pub high' : get_or to k 0 ≤ n
  pub apart : get_or from k 0 ≢ get_or to k 0

-- so it is for every such edge
abbrev pub Ends : Graph → List ℕ → List ℕ → List ℕ → Type 0
Ends g w from to = (k : ℕ) → k < g.m → Inner g w k → TwoEnds g.n from to k

-- a table with nothing in it
abbrev pub empty_table : List (List ℕ)
empty_table = replicate 20 (replicate 20 0)

-- what the list of x has at place i
abbrev pub listed : List (List ℕ) → ℕ → ℕ → ℕ
listed t x i = cell t (x - 1) i

-- the array lists the tree's free far edges, with no zero between them and one at the end of each row
pub record Lists (g : Graph) (w from to : List ℕ) (t : List (List ℕ)) : Type 0 where
  pub only : (x i : ℕ) → 1 ≤ x → listed t x i ≢ 0
      → (k : ℕ) × (k < g.m) × (listed t x i ≡ suc k) × Inner g w k × End from to k x
  pub all : (k : ℕ) → k < g.m → Inner g w k → (x : ℕ) → End from to k x → (i : ℕ) × (listed t x i ≡ suc k)
  pub packed : (x i j : ℕ) → 1 ≤ x → listed t x i ≢ 0 → j ≤ i → listed t x j ≢ 0
  pub stops : (x : ℕ) → 1 ≤ x → listed t x 19 ≡ 0

-- ---- lists and how long each is

pub record Packed (t : List (List ℕ)) (count : List ℕ) : Type 0 where
  pub square : Square 20 t
  pub long : length count ≡ 21
  pub some : (x i : ℕ) → 1 ≤ x → i < get_or count x 0 → listed t x i ≢ 0
  pub none : (x i : ℕ) → 1 ≤ x → get_or count x 0 ≤ i → listed t x i ≡ 0

-- e is put at the end of the list of x, which is then one longer
abbrev pub pushed : List (List ℕ) → List ℕ → ℕ → ℕ → List (List ℕ)
pushed t count x e = put t (x - 1) (get_or count x 0) e

abbrev pub longer : List ℕ → ℕ → List ℕ
longer count x = set count x (get_or count x 0 + 1)

module _ (t : List (List ℕ)) (count : List ℕ) (x e : ℕ) (h : Packed t count) (lx : 1 ≤ x) (hx : x ≤ 20) (room : get_or count x 0 < 20) where
  push_new : listed (pushed t count x e) x (get_or count x 0) ≡ e
  push_new = put_same 20 t (x - 1) (get_or count x 0) e h.square (omega arith) room

  other : (y i : ℕ) → 1 ≤ y → ((y ≡ x) × (i ≡ get_or count x 0) → ⊥) → listed (pushed t count x e) y i ≡ listed t y i
  other y i ly f =
      put_other 20 t (x - 1) (get_or count x 0) e h.square (omega arith) room (y - 1) i (λ q. f (omega (arith, q.0), q.1))

  -- what is listed stays
  push_old : (y i : ℕ) → 1 ≤ y → listed t y i ≢ 0 → listed (pushed t count x e) y i ≡ listed t y i
  push_old y i ly f = other y i ly (λ q. f (h.none y i ly (omega (arith, q.1, ap (λ (z : ℕ). get_or count z 0) q.0))))

  push_cases : (y i : ℕ) → 1 ≤ y
      → ((listed (pushed t count x e) y i ≡ e) × (x ≡ y)) ⊎ (listed (pushed t count x e) y i ≡ listed t y i)
  push_cases y i ly = go (ℕ_discrete y x) (ℕ_discrete i (get_or count x 0))
    where
      go : Dec (y ≡ x) → Dec (i ≡ get_or count x 0)
          → ((listed (pushed t count x e) y i ≡ e) × (x ≡ y)) ⊎ (listed (pushed t count x e) y i ≡ listed t y i)
      go (yes p) (yes q) = inl (rw (p, q) push_new, sym p)
      go (yes p) (no q) = inr (other y i ly (λ z. q z.1))
      go (no p) q = inr (other y i ly (λ z. p z.0))

  count-new : get_or (longer count x) x 0 ≡ get_or count x 0 + 1
  count-new = get_or-set_same count x (get_or count x 0 + 1) 0 (omega (arith, h.long))

  count-old : (y : ℕ) → y ≢ x → get_or (longer count x) y 0 ≡ get_or count y 0
  count-old y f = get_or-set_other count x y (get_or count x 0 + 1) 0 f

  push_count : (y : ℕ) → get_or (longer count x) y 0 ≤ get_or count y 0 + 1
  push_count y = go (ℕ_discrete y x)
    where
      go : Dec (y ≡ x) → get_or (longer count x) y 0 ≤ get_or count y 0 + 1
      go (yes p) = rw p (omega (arith, count-new))
      go (no p) = omega (arith, count-old y p)

  push_packed : e ≢ 0 → Packed (pushed t count x e) (longer count x)
  push_packed he = record {
    square = put_square 20 t (x - 1) (get_or count x 0) e h.square (omega arith) room;
    long = length-set count x (get_or count x 0 + 1) ∙ h.long;
    some = λ y i ly l. some_at y i ly l (ℕ_discrete y x) (ℕ_discrete i (get_or count x 0));
    none = λ y i ly l. none_at y i ly l (ℕ_discrete y x);
  }
    where
      some_at : (y i : ℕ) → 1 ≤ y → i < get_or (longer count x) y 0 → Dec (y ≡ x) → Dec (i ≡ get_or count x 0)
          → listed (pushed t count x e) y i ≢ 0
      some_at y i ly l (yes p) (yes q) z = he (sym (rw (p, q) push_new) ∙ z)
      some_at y i ly l (yes p) (no q) z =
          let same = ap (λ (u : ℕ). get_or (longer count x) u 0) p in
          let was = ap (λ (u : ℕ). get_or count u 0) p in
          h.some y i ly (omega (arith, same, was, count-new)) (sym (other y i ly (λ u. q u.1)) ∙ z)
      some_at y i ly l (no p) q z = h.some y i ly (omega (arith, count-old y p)) (sym (other y i ly (λ u. p u.0)) ∙ z)

      none_at : (y i : ℕ) → 1 ≤ y → get_or (longer count x) y 0 ≤ i → Dec (y ≡ x) → listed (pushed t count x e) y i ≡ 0
      none_at y i ly l (yes p) =
          let same = ap (λ (u : ℕ). get_or (longer count x) u 0) p in
          let was = ap (λ (u : ℕ). get_or count u 0) p in
          other y i ly (λ u. omega (arith, u.1, same, count-new)) ∙ h.none y i ly (omega (arith, same, was, count-new))
      none_at y i ly l (no p) = other y i ly (λ u. p u.0) ∙ h.none y i ly (omega (arith, count-old y p))

-- ---- how many of the first n edges are listed

abbrev pub taken : Graph → List ℕ → ℕ → ℕ
taken g w n = length (select (λ k. bytes w k && not (eqb ((network g).a k) 1)) (up_to n))

grows : (f : ℕ → Bool) (i j : ℕ) → i ≤ j → length (select f (up_to i)) ≤ length (select f (up_to j))
unfolding select up_to
grows f zero zero l = omega arith
grows f (suc i) zero l = absurd (omega arith)
grows f i (suc j) l = go (ℕ_discrete i (suc j)) (λ k. grows f i j k)
  where
    go : Dec (i ≡ suc j) → (i ≤ j → length (select f (up_to i)) ≤ length (select f (up_to j)))
        → length (select f (up_to i)) ≤ length (select f (up_to (suc j)))
    go (yes p) below = rw p (omega arith)
    go (no p) below = omega (arith, below (omega arith), keep-length (f (suc j)) (suc j) (select f (up_to j)))

taken_whole : (g : Graph) (w : List ℕ) → OneTree (network g) (bytes w) → 2 + taken g w g.m ≡ g.n
unfolding away network
taken_whole g w o = o.rest

taken_more : (g : Graph) (w : List ℕ) (k : ℕ) → k < g.m → Inner g w k → suc (taken g w k) ≡ taken g w (suc k)
unfolding select up_to
taken_more g w k h i = rw (eq-eqb (get_or w k 0) 1 i.chosen, network_a g k h, ne_eqb (get_or g.a k 0) 1 i.far) refl

-- ---- the first n edges are listed

pub record Table (g : Graph) (w from to : List ℕ) (t : List (List ℕ)) (count : List ℕ) (n : ℕ) : Type 0 where
  pub packed : Packed t count
  pub only : (x i : ℕ) → 1 ≤ x → listed t x i ≢ 0 → (k : ℕ) × (k < n) × (listed t x i ≡ suc k) × Inner g w k × End from to k x
  pub all : (k : ℕ) → k < n → Inner g w k → (x : ℕ) → End from to k x → (i : ℕ) × (listed t x i ≡ suc k)
  pub few : (x : ℕ) → get_or count x 0 ≤ taken g w n

pub table_none : (g : Graph) (w from to : List ℕ) → Table g w from to empty_table (replicate 21 0) 0
table_none g w from to = record {
  packed = record {
    square = zero_square 20;
    long = refl;
    some = λ x i a l. absurd (omega (arith, replicate-at {A = ℕ} 21 0 x));
    none = λ x i a l. zero_cell 20 20 _ _;
  };
  only = λ x i a e. absurd (e (zero_cell 20 20 _ _));
  all = λ k h. absurd (let z : suc k ≤ 0 = h in omega arith);
  few = λ x. omega (arith, replicate-at {A = ℕ} 21 0 x);
}

module _ (g : Graph) (v : Valid g) (w : List ℕ) (o : OneTree (network g) (bytes w)) (from to : List ℕ) (ends : Ends g w from to)
    (t : List (List ℕ)) (count : List ℕ) where
  pub table_lists : Table g w from to t count g.m → Lists g w from to t
  table_lists h = record {
    only = h.only;
    all = h.all;
    packed = λ x i j a e l. h.packed.some x j a (inside x i j a e l (dec_le (get_or count x 0) i));
    stops = λ x a. h.packed.none x 19 a (omega (arith, h.few x, taken_whole g w o, v.high));
  }
    where
      inside : (x i j : ℕ) → 1 ≤ x → listed t x i ≢ 0 → j ≤ i → Dec (get_or count x 0 ≤ i) → j < get_or count x 0
      inside x i j a e l (yes q) = absurd (e (h.packed.none x i a q))
      inside x i j a e l (no q) = omega arith

  module _ (k : ℕ) (hk : k < g.m) (h : Table g w from to t count k) where
    pub table_skip : (Inner g w k → ⊥) → Table g w from to t count (k + 1)
    table_skip f = record {
      packed = h.packed;
      only = λ x i a e. let r = h.only x i a e in (r.0, omega (arith, r.1), r.2, r.3, r.4);
      all = λ j l i. all_at j l i (ℕ_discrete j k);
      few = λ x. omega (arith, h.few x, grows (λ j. bytes w j && not (eqb ((network g).a j) 1)) k (k + 1) (omega arith));
    }
      where
        all_at : (j : ℕ) → j < k + 1 → Inner g w j → Dec (j ≡ k) → (x : ℕ) → End from to j x → (i : ℕ) × (listed t x i ≡ suc j)
        all_at j l i (yes q) = absurd (f (rw q at i))
        all_at j l i (no q) = h.all j (omega arith) i

    -- there is room for one more
    pub table_room : Inner g w k → (x : ℕ) → get_or count x 0 < 18
    table_room i x =
        omega (
          arith,
          h.few x,
          taken_more g w k hk i,
          taken_whole g w o,
          v.high,
          grows (λ j. bytes w j && not (eqb ((network g).a j) 1)) (suc k) g.m hk,
        )

    -- the edge is put at the end of the lists of both its ends
    module _ (i : Inner g w k) (a b : ℕ) (ea : get_or from k 0 ≡ a) (eb : get_or to k 0 ≡ b) where
      la : 1 ≤ a
      la = omega (arith, ea, (ends k hk i).low)

      ha : a ≤ 20
      ha = omega (arith, ea, (ends k hk i).high, v.high)

      lb : 1 ≤ b
      lb = omega (arith, eb, (ends k hk i).low')

      hb : b ≤ 20
      hb = omega (arith, eb, (ends k hk i).high', v.high)

      ab : a ≢ b
      ab e = (ends k hk i).apart (ea ∙ e ∙ sym eb)

      room_a : get_or count a 0 < 20
      room_a = omega (arith, table_room i a)

      one : Packed (pushed t count a (suc k)) (longer count a)
      one = push_packed t count a (suc k) h.packed la ha room_a (λ z. omega arith)

      -- the other end's list is as it was
      old_b : get_or (longer count a) b 0 ≡ get_or count b 0
      old_b = count-old t count a (suc k) h.packed la ha room_a b (λ z. ab (sym z))

      pub room_b : get_or (longer count a) b 0 < 20
      room_b = omega (arith, old_b, table_room i b)

      stays : (x j : ℕ) → 1 ≤ x → listed t x j ≢ 0
          → listed (pushed (pushed t count a (suc k)) (longer count a) b (suc k)) x j ≡ listed t x j
      stays x j lx f =
          let p = push_old t count a (suc k) h.packed la ha room_a x j lx f in
          push_old (pushed t count a (suc k)) (longer count a) b (suc k) one lb hb room_b x j lx (λ z. f (sym p ∙ z)) ∙ p

      only_at : (x j : ℕ) → 1 ≤ x → listed (pushed (pushed t count a (suc k)) (longer count a) b (suc k)) x j ≢ 0
          → (n : ℕ) × (n < k + 1) × (listed (pushed (pushed t count a (suc k)) (longer count a) b (suc k)) x j ≡ suc n) × Inner g w n
          × End from to n x
      only_at x j lx e =
          go (push_cases (pushed t count a (suc k)) (longer count a) b (suc k) one lb hb room_b x j lx)
        where
          new : List (List ℕ)
          new = pushed (pushed t count a (suc k)) (longer count a) b (suc k)

          was : listed new x j ≡ listed (pushed t count a (suc k)) x j
              → ((listed (pushed t count a (suc k)) x j ≡ suc k) × (a ≡ x)) ⊎ (listed (pushed t count a (suc k)) x j ≡ listed t x j)
              → (n : ℕ) × (n < k + 1) × (listed new x j ≡ suc n) × Inner g w n × End from to n x
          was p (inl q) = (k, omega arith, p ∙ q.0, i, inl (ea ∙ q.1))
          was p (inr q) = let r = h.only x j lx (λ z. e (p ∙ q ∙ z)) in (r.0, omega (arith, r.1), p ∙ q ∙ r.2, r.3, r.4)

          go : ((listed new x j ≡ suc k) × (b ≡ x)) ⊎ (listed new x j ≡ listed (pushed t count a (suc k)) x j)
              → (n : ℕ) × (n < k + 1) × (listed new x j ≡ suc n) × Inner g w n × End from to n x
          go (inl p) = (k, omega arith, p.0, i, inr (eb ∙ p.1))
          go (inr p) = was p (push_cases t count a (suc k) h.packed la ha room_a x j lx)

      all_at : (n : ℕ) → n < k + 1 → Inner g w n → (x : ℕ) → End from to n x → Dec (n ≡ k)
          → (j : ℕ) × (listed (pushed (pushed t count a (suc k)) (longer count a) b (suc k)) x j ≡ suc n)
      all_at n l q x d (no e) =
          let r = h.all n (omega arith) q x d in (r.0, stays x r.0 (low d) (λ z. omega (arith, r.1)) ∙ r.1)
        where
          low : End from to n x → 1 ≤ x
          low (inl p) = omega (arith, p, (ends n (omega arith) q).low)
          low (inr p) = omega (arith, p, (ends n (omega arith) q).low')
      all_at n l q x d (yes e) = rw e (at (rw e at d))
        where
          at : End from to k x → (j : ℕ) × (listed (pushed (pushed t count a (suc k)) (longer count a) b (suc k)) x j ≡ suc k)
          at (inr p) = (
            get_or (longer count a) b 0,
            rw (sym p ∙ eb) (push_new (pushed t count a (suc k)) (longer count a) b (suc k) one lb hb room_b),
          )
          at (inl p) = (get_or count a 0, rw (sym p ∙ ea) (kept ∙ first))
            where
              first : listed (pushed t count a (suc k)) a (get_or count a 0) ≡ suc k
              first = push_new t count a (suc k) h.packed la ha room_a

              kept : listed (pushed (pushed t count a (suc k)) (longer count a) b (suc k)) a (get_or count a 0)
                  ≡ listed (pushed t count a (suc k)) a (get_or count a 0)
              kept = push_old (pushed t count a (suc k)) (longer count a) b (suc k) one lb hb room_b a (get_or count a 0) la
                  (λ z. omega (arith, first))

      few_at : (x : ℕ) → Dec (x ≡ b) → get_or (longer (longer count a) b) x 0 ≤ taken g w (suc k)
      few_at x (yes e) = rw e (omega (
        arith,
        count-new (pushed t count a (suc k)) (longer count a) b (suc k) one lb hb room_b,
        old_b,
        h.few b,
        taken_more g w k hk i,
      ))
      few_at x (no e) = omega (
        arith,
        count-old (pushed t count a (suc k)) (longer count a) b (suc k) one lb hb room_b x e,
        push_count t count a (suc k) h.packed la ha room_a x,
        h.few x,
        taken_more g w k hk i,
      )

      pub table_more : Table g w from to (pushed (pushed t count a (suc k)) (longer count a) b (suc k)) (longer (longer count a) b) (k + 1)
      table_more = record {
        packed = push_packed (pushed t count a (suc k)) (longer count a) b (suc k) one lb hb room_b (λ z. omega arith);
        only = only_at;
        all = λ n l q x d. all_at n l q x d (ℕ_discrete n k);
        few = λ x. rw (add-one k) (few_at x (ℕ_discrete x b));
      }
