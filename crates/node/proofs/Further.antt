-- Laws that no proof cites today: a number that is held to its range; the degrees of all vertices as one test; a list of the places of the
-- edges that are left, by which they were moved together and put back; and the packing of a word as it was walked. Assumes nothing.
use Rattle.std.specs.Prelude.{◌≡◌, refl, ◌≢◌, Bool, true, false, cond, List, ℕ, suc, ◌+◌, ◌-◌, ◌*◌, ◌≤◌, ◌<◌, length, get_or, set, replicate, ℤ, pos, neg_ℤ}
use Rattle.std.proofs.Common.{sym, ap, ◌∙◌, subst, true≢false, arith, add-one, eqb-true, eq-eqb, length-set, get_or-set_same, get_or-set_other}
use Rattle.std.proofs.Math.Dec.{eqb}
use Rattle.std.proofs.Math.Decide.{dec_le, ℕ_discrete}
use Rattle.std.proofs.lemmas.Bool.{eqb-false}
use Rattle.std.specs.Int.Bits.{bit_and, bit_or}
use Rattle.std.specs.Int.Count.{count_trailing_zeros}
use Rattle.std.specs.Int.Signed.{lt_z}
use Rattle.lists.specs.Bools.{by_cases}
use Rattle.lists.specs.Fill.{replicate-at}
use Rattle.lists.specs.Filling.{Filling, filling_none, filling_is}
use Rattle.lists.specs.Members.{◌∈◌}
use Rattle.lists.specs.All.{every_of, every_of_in, not-every_of}
use Rattle.lists.specs.Numbers.{up_to, up_to_in}
use Rattle.integers.specs.Range.{clamp}
use Rattle.graph.specs.declared.Graph.{Graph}
use Rattle.graph.specs.Limits.{max_edges, max_multiplier}
use Rattle.graph.specs.Network.{place}
use Rattle.graph.specs.Places.{place_at, place_zero}
use Rattle.tree_theory.specs.OneTree.{Edges}
use Rattle.mark_rows.specs.MarkRows.{marks_in_rows}
use Rattle.thinning.specs.Ranks.{rank, nth, rank_yes, rank_no, rank_most, rank_less, nth_past}
use Rattle.node.specs.Marks.{with_bytes, bytes_of}
use Rattle.node.specs.Opened.{kept, left_of, left}
use Rattle.node.specs.Compacting.{old, old-rank, old-nth}
use Rattle.node.specs.CompactGraph.{old-up}
use Rattle.node.specs.Expanding.{expanded_at}
use Rattle.node.specs.Walking.{cut, Masked, rank_skip, Walk, last_clear, in_word, from, within, met, between, rank-met, power, cut-next, walk_more}
use Rattle.node.specs.Words.{kept_in, required_byte, kept-mark, bit_where, PackedWord, Packing, packing_skip, packing_met, packing_all}

-- "is held to its range": the three cases of the test
pub held_low : (z : ℤ) → lt_z z (neg_ℤ (pos max_multiplier)) ≡ true → neg_ℤ (pos max_multiplier) ≡ clamp max_multiplier z
unfolding clamp
held_low z h = rw h

pub held_high : (z : ℤ) → lt_z z (neg_ℤ (pos max_multiplier)) ≡ false → lt_z (pos max_multiplier) z ≡ true → pos max_multiplier ≡ clamp max_multiplier z
unfolding clamp
held_high z h k = rw (h, k)

pub held_same : (z : ℤ) → lt_z z (neg_ℤ (pos max_multiplier)) ≡ false → lt_z (pos max_multiplier) z ≡ false → z ≡ clamp max_multiplier z
unfolding clamp
held_same z h k = rw (h, k)

-- the degrees of vertices 1 to n are 2
unfoldable pub all_two : List ℕ → ℕ → Bool
unfolding every_of up_to
all_two degrees n = every_of (λ v. eqb (get_or degrees v 0) 2) (up_to n)

module _ (degrees : List ℕ) where
  pub two_none : all_two degrees 0 ≡ true
  unfolding all_two every_of up_to
  two_none = refl

  pub two-more : (v : ℕ) → all_two degrees v ≡ true → get_or degrees (v + 1) 0 ≡ 2 → all_two degrees (v + 1) ≡ true
  unfolding all_two every_of up_to
  two-more v h e = rw (add-one v, eq-eqb (get_or degrees (suc v) 0) 2 (ap (λ (i : ℕ). get_or degrees i 0) (sym (add-one v)) ∙ e), h)

  pub two-each : (n : ℕ) → all_two degrees n ≡ true → (v : ℕ) → v ∈ up_to n → get_or degrees v 0 ≡ 2
  unfolding all_two
  two-each n h v m = eqb-true (get_or degrees v 0) 2 (every_of_in (λ v. eqb (get_or degrees v 0) 2) (up_to n) h v m)

  pub two-not : (n v : ℕ) → v < n → get_or degrees (v + 1) 0 ≢ 2 → all_two degrees n ≡ false
  two-not n v b ne =
      by_cases (all_two degrees n)
      (λ e. absurd (ne (two-each n e (v + 1) (up_to_in n (v + 1) (omega arith) (omega arith))))) (λ e. e)

  pub not-two : (n : ℕ) → all_two degrees n ≡ false → (v : ℕ) × (v ∈ up_to n) × (get_or degrees v 0 ≢ 2)
  unfolding all_two
  not-two n h =
      let r = not-every_of (λ v. eqb (get_or degrees v 0) 2) (up_to n) h in
      (r.0, r.1, eqb-false (get_or degrees r.0 0) 2 r.2)

-- ---- the places of the kept edges

-- of the first k edges, each kept one's place stands at its new place, and each new place has a place of those edges; what stands past
-- the new places counts for nothing
pub record Listed (c : Edges) (k : ℕ) (q : List ℕ) : Type 0 where
  pub size : length q ≡ max_edges
  pub new : (i : ℕ) → i < k → c (suc i) ≡ true → get_or q (rank c i) 0 ≡ i
  pub low : (j : ℕ) → j < rank c k → get_or q j 0 < k

module _ (c : Edges) where
  pub listed_none : (q : List ℕ) → length q ≡ max_edges → Listed c 0 q
  unfolding rank
  listed_none q e = record { size = e; new = λ i h. absurd (omega arith); low = λ j h. absurd (omega arith) }

  -- the place of an edge is written where the next kept one's is to stand
  pub listed_more : (k f : ℕ) (q : List ℕ) → f ≡ rank c k → k < max_edges → Listed c k q → Listed c (k + 1) (set q f k)
  listed_more k f q e b h = record {
    size = length-set q f k ∙ h.size;
    new = λ i l y. new i l y (ℕ_discrete i k);
    low = λ j l. low j l (ℕ_discrete j f);
  }
    where
      room : f < length q
      room = omega (arith, h.size, rank_most c k)

      new : (i : ℕ) → i < k + 1 → c (suc i) ≡ true → Dec (i ≡ k) → get_or (set q f k) (rank c i) 0 ≡ i
      new i l y (yes p) = rw (p, ← e) (get_or-set_same q f k 0 room)
      new i l y (no p) =
          let less : rank c i < rank c k = rank_less c i k (omega arith) y in
          get_or-set_other q f (rank c i) k 0 (omega arith) ∙ h.new i (omega arith) y

      most : rank c (suc k) ≤ suc (rank c k)
      most = by_cases (c (suc k)) (λ y. omega (arith, rank_yes c k y)) (λ y. omega (arith, rank_no c k y))

      low : (j : ℕ) → j < rank c (k + 1) → Dec (j ≡ f) → get_or (set q f k) j 0 < k + 1
      low j l (yes p) = rw p (omega (arith, get_or-set_same q f k 0 room))
      low j l (no p) =
          let less : j < rank c (suc k) = rw add-one at l in
          omega (arith, get_or-set_other q f j k 0 p, h.low j (omega (arith, most)))

pub listed_to : (c : Edges) (k m : ℕ) (q : List ℕ) → k ≡ m → Listed c k q → Listed c m q
listed_to c k m q e h = subst (λ (i : ℕ). Listed c i q) e h

-- ---- what stands at those places

-- the value at the place that is listed at j
abbrev pub listed_at : {A : Type 0} → A → List A → List ℕ → ℕ → A
listed_at z was q j = get_or was (get_or q j 0) z

-- what is copied of the first f edges that are left, with the rest of their graph as it was
pub record Gathered (f : ℕ) (q : List ℕ) (g was left : Graph) : Type 0 where
  pub a : Filling 0 max_edges f (listed_at 0 g.a q) left.a
  pub b : Filling 0 max_edges f (listed_at 0 g.b q) left.b
  pub cost : Filling (pos 0) max_edges f (listed_at (pos 0) g.cost q) left.cost
  pub n : left.n ≡ was.n
  pub m : left.m ≡ was.m
  pub mark : left.mark ≡ was.mark

pub gathered_none : (q : List ℕ) (g was : Graph) → was.a ≡ replicate max_edges 0 → was.b ≡ replicate max_edges 0
    → was.cost ≡ replicate max_edges (pos 0) → Gathered 0 q g was was
gathered_none q g was a b cost = record {
  a = rw a (filling_none 0 max_edges (listed_at 0 g.a q));
  b = rw b (filling_none 0 max_edges (listed_at 0 g.b q));
  cost = rw cost (filling_none (pos 0) max_edges (listed_at (pos 0) g.cost q));
  n = refl;
  m = refl;
  mark = refl;
}

module _ (c : Edges) (m j : ℕ) (l : j < rank c m) where
  pub listed-old : (q : List ℕ) → Listed c m q → get_or q j 0 ≡ (old c m j l).place
  listed-old q h = ap (λ (i : ℕ). get_or q i 0) (sym (old-rank c m j l)) ∙ h.new (old c m j l).place (old c m j l).low (old c m j l).kept

-- what the loop copies is what the kept edges have
pub gathered_is : {A : Type 0} (z : A) (marks : List ℕ) (m f : ℕ) (was l : List A) (q : List ℕ) → f ≡ rank (kept marks) m
    → Listed (kept marks) m q → Filling z max_edges f (listed_at z was q) l → l ≡ left_of z marks m was
unfolding left_of
gathered_is z marks m f was l q e d h =
    filling_is z max_edges (listed_at z was q) f l (λ j. place z m was (nth (kept marks) m (suc j))) h
    (λ j b.
    let k : j < rank (kept marks) m = omega arith in
    ap (λ (i : ℕ). get_or was i z) (listed-old (kept marks) m j k q d)
    ∙ sym (ap (place z m was) (old-nth (kept marks) m j k) ∙ place_at z m was _ (old (kept marks) m j k).low))
    (λ j b. ap (place z m was) (nth_past (kept marks) m (suc j) (omega arith)) ∙ place_zero z m was)

pub listed_skip : (c : Edges) (a b : ℕ) (q : List ℕ) → a ≤ b → ((i : ℕ) → a ≤ i → i < b → c (suc i) ≡ false) → Listed c a q → Listed c b q
listed_skip c a b q h out l = record {
  size = l.size;
  new = λ i u y. go i u y (dec_le (suc i) a);
  low = λ j u. omega (arith, l.low j (omega (arith, rank_skip c a b h out)));
}
  where
    go : (i : ℕ) → i < b → c (suc i) ≡ true → Dec (i < a) → get_or q (rank c i) 0 ≡ i
    go i u y (yes k) = l.new i k y
    go i u y (no k) = absurd (true≢false (sym y ∙ out i (omega arith) u))

module _ (c : Edges) (m w word : ℕ) (masked : Masked c m w word) (x f : ℕ) (s : Walk c m w word x f) where
  pub listed_last : x ≡ 0 → (q : List ℕ) → Listed c (cut m w s.upto) q → Listed c (cut m w 64) q
  listed_last none q =
      listed_skip c (cut m w s.upto) (cut m w 64) q (omega (arith, s.low)) (last_clear c m w word masked x f s none)

  module _ (some : x ≢ 0) where
    abbrev t : ℕ
    t = count_trailing_zeros 64 x

    pub list_more : m ≤ max_edges → (q : List ℕ) → Listed c (cut m w s.upto) q
        → (v : Walk c m w word (bit_and x (x - 1)) (f + 1)) × Listed c (cut m w v.upto) (set q f (64 * w + t))
    unfolding walk_more
    list_more few q l =
        let inside = within c m w word masked x f s some in (
          walk_more c m w word masked x f s some,
          subst (λ (k : ℕ). Listed c k (set q f (64 * w + t))) (add-one (64 * w + t) ∙ sym (cut-next c m w word masked x f s some))
              (listed_more c (64 * w + t) f q (rank-met c m w word masked x f s some) (omega (arith, inside))
              (listed_skip c (cut m w s.upto) (64 * w + t) q (omega (arith, inside, from c m w word masked x f s some))
              (between c m w word masked x f s some) l)),
        )

-- ---- the marks at those places

pub listed_start : (c : Edges) (m : ℕ) (q : List ℕ) → length q ≡ max_edges → Listed c (cut m 0 0) q
listed_start c m q e = let z : cut m 0 0 ≡ 0 = omega arith in subst (λ (k : ℕ). Listed c k q) (sym z) (listed_none c q e)

-- those of the first f edges that q lists, and 0 past them
abbrev pub MarkedTo : List ℕ → List ℕ → ℕ → List ℕ → Type 0
MarkedTo rows q f l = Filling 0 max_edges f (λ j. required_byte rows (get_or q j 0)) l

-- one edge more is listed, with its mark
pub marked_more : (rows q l : List ℕ) (f k v : ℕ) → f < max_edges → length q ≡ max_edges → v ≡ required_byte rows k → MarkedTo rows q f l
    → MarkedTo rows (set q f k) (f + 1) (set l f v)
marked_more rows q l f k v b e is h = record {
  size = length-set l f v ∙ h.size;
  new = λ j i. go j i (ℕ_discrete j f);
  past = λ j i. get_or-set_other l f j v 0 (omega arith) ∙ h.past j (omega arith);
}
  where
    go : (j : ℕ) → j < f + 1 → Dec (j ≡ f) → get_or (set l f v) j 0 ≡ required_byte rows (get_or (set q f k) j 0)
    go j i (yes d) =
        rw d (get_or-set_same l f v 0 (omega (arith, h.size)) ∙ is ∙ ap (required_byte rows) (sym (get_or-set_same q f k 0 (omega (arith, e)))))
    go j i (no d) =
        get_or-set_other l f j v 0 d ∙ h.new j (omega arith) ∙ ap (required_byte rows) (sym (get_or-set_other q f j k 0 d))

pub marks_gathered : (m : ℕ) (rows : List ℕ) → m ≤ max_edges → (f : ℕ) (q l : List ℕ) → f ≡ rank (kept_in m rows) m → Listed (kept_in m rows) m q
    → MarkedTo rows q f l → Filling 0 max_edges f (listed_at 0 (bytes_of (marks_in_rows m rows)) q) l
marks_gathered m rows few f q l e h g = record {
  size = g.size;
  new = λ j b. g.new j b ∙ sym (at j (omega arith));
  past = g.past;
}
  where
    at : (j : ℕ) → j < rank (kept_in m rows) m → get_or (bytes_of (marks_in_rows m rows)) (get_or q j 0) 0 ≡ required_byte rows (get_or q j 0)
    at j b =
        let o = old (kept_in m rows) m j b in
        let is : get_or q j 0 ≡ o.place = listed-old (kept_in m rows) m j b q h in
        ap (λ (i : ℕ). get_or (bytes_of (marks_in_rows m rows)) i 0) is
        ∙ sym (kept-mark m rows few o.place o.low o.kept)
        ∙ ap (required_byte rows) (sym is)

-- ---- bytes put at places

-- f places, ascending
pub record Places (f : ℕ) (q : List ℕ) : Type 0 where
  pub few : f ≤ max_edges
  pub low : (j : ℕ) → j < f → get_or q j 0 < max_edges
  pub up : (i j : ℕ) → i < j → j < f → get_or q i 0 < get_or q j 0

-- i is none of the first f places
abbrev pub Unmet : ℕ → List ℕ → ℕ → Type 0
Unmet f q i = (j : ℕ) → j < f → get_or q j 0 ≢ i

-- the first f bytes of a row stand at their places, and elsewhere what stood there before
pub record Placed (f : ℕ) (q row base r : List ℕ) : Type 0 where
  pub size : length r ≡ max_edges
  pub hit : (j : ℕ) → j < f → get_or r (get_or q j 0) 0 ≡ get_or row j 0
  pub miss : (i : ℕ) → Unmet f q i → get_or r i 0 ≡ get_or base i 0

module _ (q row base : List ℕ) where
  pub placed_none : length base ≡ max_edges → Placed 0 q row base base
  placed_none e = record { size = e; hit = λ j h. absurd (omega arith); miss = λ i h. refl }

  pub placed_more : (f j : ℕ) (r : List ℕ) → Places f q → j < f → Placed j q row base r
      → Placed (j + 1) q row base (set r (get_or q j 0) (get_or row j 0))
  placed_more f j r p b h = record {
    size = length-set r (get_or q j 0) (get_or row j 0) ∙ h.size;
    hit = λ i l. hit i l (ℕ_discrete i j);
    miss = λ i u.
        get_or-set_other r (get_or q j 0) i (get_or row j 0) 0 (λ e. u j (omega arith) (sym e))
        ∙ h.miss i (λ k l. u k (omega arith));
  }
    where
      hit : (i : ℕ) → i < j + 1 → Dec (i ≡ j) → get_or (set r (get_or q j 0) (get_or row j 0)) (get_or q i 0) 0 ≡ get_or row i 0
      hit i l (yes e) = rw e (get_or-set_same r (get_or q j 0) (get_or row j 0) 0 (omega (arith, h.size, p.low j b)))
      hit i l (no e) =
          get_or-set_other r (get_or q j 0) (get_or q i 0) (get_or row j 0) 0 (omega (arith, p.up i j (omega arith) b))
          ∙ h.hit i (omega arith)

pub placed_to : (q row base : List ℕ) (j f : ℕ) (r : List ℕ) → j ≡ f → Placed j q row base r → Placed f q row base r
placed_to q row base j f r e h = subst (λ (i : ℕ). Placed i q row base r) e h

-- ---- bytes for all edges

module _ (marks : List ℕ) (m : ℕ) (few : m ≤ max_edges) (q : List ℕ) (h : Listed (kept marks) m q) where
  abbrev u : Edges
  u = kept marks

  pub left-places : Places (rank u m) q
  left-places = record {
    few = omega (arith, rank_most u m);
    low = λ j l. omega (arith, listed-old u m j l q h, (old u m j l).low);
    up = λ i j b l.
        let k : i < rank u m = omega arith in
        omega (arith, listed-old u m i k q h, listed-old u m j l q h, old-up u m i k j l b);
  }

  pub left_expanded : (row w : List ℕ) → Placed (rank u m) q row (replicate max_edges 0) w → Filling 0 max_edges m (expanded_at marks row 0) w
  left_expanded row w x = record {
    size = x.size;
    new = λ i l. at i l (u (suc i)) refl;
    past = λ i l. x.miss i (λ j b p. omega (arith, listed-old u m j b q h, (old u m j b).low)) ∙ replicate-at max_edges 0 i;
  }
    where
      at : (i : ℕ) → i < m → (b : Bool) → u (suc i) ≡ b → get_or w i 0 ≡ cond b (get_or row (rank u i) 0) 0
      at i l true p = ap (λ (k : ℕ). get_or w k 0) (sym (h.new i l p)) ∙ x.hit (rank u i) (rank_less u i m l p)
      at i l false p =
          x.miss i (λ j b o.
          true≢false (sym (old u m j b).kept ∙ ap (λ (k : ℕ). u (suc k)) (sym (listed-old u m j b q h) ∙ o) ∙ p))
          ∙ replicate-at max_edges 0 i

-- ---- the code's graph

pub left_is : (g : Graph) (marks q : List ℕ) (was l : Graph) (f : ℕ) → was.m ≡ f → was.n ≡ g.n → f ≡ rank (kept marks) g.m
    → Listed (kept marks) g.m q → Gathered f q g was l → Filling 0 max_edges f (listed_at 0 marks q) was.mark → l ≡ left (with_bytes g marks)
left_is g marks q was l f m n e d h fm = λ i. record {
  n = (h.n ∙ n) i;
  m = (h.m ∙ m ∙ e) i;
  a = gathered_is 0 marks g.m f g.a l.a q e d h.a i;
  b = gathered_is 0 marks g.m f g.b l.b q e d h.b i;
  cost = gathered_is (pos 0) marks g.m f g.cost l.cost q e d h.cost i;
  mark = (h.mark ∙ gathered_is 0 marks g.m f marks was.mark q e d fm) i;
}

-- ---- a word, packed

-- a turn of the loop, and its end
module _ (c : Edges) (m w word : ℕ) (masked : Masked c m w word) (new : ℕ → ℕ) (gone : (k : ℕ) → c (suc k) ≡ false → new k ≡ 2) (x f : ℕ)
    (s : Walk c m w word x f) (r q : ℕ) (p : Packing c m w new s.upto r q) where
  pub pack_more : (some : x ≢ 0) (mark : ℕ) → new (64 * w + count_trailing_zeros 64 x) ≡ mark
      → (v : Walk c m w word (bit_and x (x - 1)) (f + 1))
      × Packing c m w new v.upto (bit_or r (bit_where mark 1 (x - bit_and x (x - 1)))) (bit_or q (bit_where mark 2 (x - bit_and x (x - 1))))
  unfolding walk_more
  pack_more some mark e = (
    walk_more c m w word masked x f s some,
    rw (power c m w word masked x f s some)
        (packing_met c m w new gone t r q mark (in_word c m w word masked x f s some) (within c m w word masked x f s some)
        (met c m w word masked x f s some) e
        (packing_skip c m w new gone s.upto t r q (from c m w word masked x f s some) (omega (arith, in_word c m w word masked x f s some))
        (λ i a b h. between c m w word masked x f s some (64 * w + i) (omega arith) (omega arith)) p)),
  )
    where
      t : ℕ
      t = count_trailing_zeros 64 x

  pub pack_last : x ≡ 0 → PackedWord m new w r q
  pack_last none =
      packing_all c m w new gone r q
      (packing_skip c m w new gone s.upto 64 r q s.low (omega arith)
      (λ i a b h. last_clear c m w word masked x f s none (64 * w + i) (omega arith) (omega arith)) p)

pub packing_as : (c : Edges) (m w : ℕ) (new : ℕ → ℕ) (upto r q a b x y : ℕ) → x ≡ a → y ≡ b → Packing c m w new upto (bit_or r a) (bit_or q b)
    → Packing c m w new upto (bit_or r x) (bit_or q y)
packing_as c m w new upto r q a b x y e h p =
    subst (λ (i : ℕ). Packing c m w new upto (bit_or r i) (bit_or q y)) (sym e)
    (subst (λ (i : ℕ). Packing c m w new upto (bit_or r a) (bit_or q i)) (sym h) p)
