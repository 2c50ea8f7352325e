-- Which free edges of the tree lie between two labels, in bits: bit j of a word is for the j-th of their list. And that loops which take bits off from the
-- lowest up find the best of the list. Assumes nothing.
use Rattle.std.specs.Prelude.{◌≡◌, refl, ◌≢◌, Bool, true, false, not, cond, ◌&&◌, ◌||◌, eqb, ltb, List, [], ◌∷◌, ◌++◌, ℕ, zero, suc, ◌+◌, ◌-◌, ◌*◌, ◌^◌, ◌%◌, ◌/◌, ◌<◌, ◌≤◌, length, get_or, set, replicate}
use Rattle.std.proofs.Common.{◌∙◌, sym, ap, subst, arith, eq-eqb, ne_eqb, eqb-true, lt-ltb, le-ltb, true≢false, add-one, pow_pos, pow_mono, length-set, get_or-set_same, get_or-set_other}
use Rattle.std.proofs.Math.Nat.{pow-succ'}
use Rattle.std.proofs.Math.Decide.{ℕ_discrete, dec_le}
use Rattle.std.proofs.lemmas.List.{length-append, length-replicate, get_or-replicate}
use Rattle.std.proofs.lemmas.Nat.Bits.{bit_at_xor}
use Rattle.std.specs.Int.Bits.{bit_and, bit_or, bit_xor}
use Rattle.std.specs.Int.Count.{count_trailing_zeros}
use Rattle.lists.specs.Bools.{bit}
use Rattle.lists.specs.Select.{keep, select}
use Rattle.lists.specs.Numbers.{up_to}
use Rattle.bits.specs.Digits.{bit_of, zero_bit}
use Rattle.bits.specs.Changes.{clear_le, clear_here, clear_there}
use Rattle.bits.specs.Words.{or-bit, power_here, power_there, trailing_below, trailing_here, trailing_some, lowest_off}
use Rattle.graph.specs.declared.Graph.{Graph}
use Rattle.graph.specs.Network.{network}
use Rattle.graph.specs.Valid.{Valid}
use Rattle.tree_theory.specs.OneTree.{OneTree}
use Rattle.tree_theory.specs.Ranges.{tree-size}
use Rattle.tree_theory.specs.Merges.{Merges}
use Rattle.greedy.specs.Charged.{no_charge}
use Rattle.swaps.specs.RootedTree.{Labelled}
use Rattle.swaps.specs.Hanging.{on_way}
use Rattle.tree_theory.specs.Arrays.{bytes}
use Rattle.lifting.specs.Meeting.{deeper_of, meets_in}
use Rattle.lifting.specs.Loops.{side_at, belongs, PlacesTo, places_none, places_skip, places-more}
use Rattle.onetree.specs.declared.picks.Pick.{Pick}
use Rattle.onetree.specs.declared.picks.Swapping.{Swapping}
use Rattle.onetree.specs.declared.picks.Circles.{Circles}
use Rattle.onetree.specs.Picks.{no_pick, belongs_at, lower_at, sides_are, meets_by, Placed, Early, InTurn, offered, taken, in_turn_first, in_turn_next}

-- ---- words

-- the bits of x below n are what the test says, and there are no others
abbrev pub BitsTo : ℕ → ℕ → (ℕ → Bool) → Type 0
BitsTo x n t = (j : ℕ) → bit_of x j ≡ ltb j n && t j

pub bits_none : (t : ℕ → Bool) → BitsTo 0 0 t
bits_none t j = rw (le-ltb j 0 (omega arith)) (zero_bit j)

last : (n j : ℕ) → ltb j (n + 1) ≡ ltb j n || eqb j n
last n j = go (dec_le (suc j) n) (ℕ_discrete j n)
  where
    go : Dec (j < n) → Dec (j ≡ n) → ltb j (n + 1) ≡ ltb j n || eqb j n
    go (yes h) e = rw (lt-ltb j n h, lt-ltb j (n + 1) (omega (arith, h))) refl
    go (no h) (yes e) = rw (le-ltb j n (omega arith), lt-ltb j (n + 1) (omega (arith, e)), eq-eqb j n e) refl
    go (no h) (no e) = rw (le-ltb j n (omega arith), le-ltb j (n + 1) (omega (arith, h, e)), ne_eqb j n e) refl

power_bit : (n j : ℕ) → bit_of (2 ^ n) j ≡ eqb j n
power_bit n j = go (ℕ_discrete j n)
  where
    go : Dec (j ≡ n) → bit_of (2 ^ n) j ≡ eqb j n
    go (yes e) = rw (e, eq-eqb n n refl) (power_here n)
    go (no e) = rw (ne_eqb j n e) (power_there n j e)

-- the next bit, which is set
pub bits_more : (x n : ℕ) (t : ℕ → Bool) → BitsTo x n t → t n ≡ true → BitsTo (bit_or x (2 ^ n)) (n + 1) t
bits_more x n t h e j =
    or-bit x (2 ^ n) j ∙ rw (h j, power_bit n j, last n j) (go (ltb j n) (eqb j n) (t j) (λ q. ap t (eqb-true j n q) ∙ e))
  where
    go : (l here p : Bool) → (here ≡ true → p ≡ true) → l && p || here ≡ (l || here) && p
    go true true true f = refl
    go true true false f = sym (f refl)
    go true false true f = refl
    go true false false f = refl
    go false true true f = refl
    go false true false f = sym (f refl)
    go false false p f = refl

-- and one that is not
pub bits_skip : (x n : ℕ) (t : ℕ → Bool) → BitsTo x n t → t n ≡ false → BitsTo x (n + 1) t
bits_skip x n t h e j = h j ∙ rw (last n j) (go (ltb j n) (eqb j n) (t j) (λ q. ap t (eqb-true j n q) ∙ e))
  where
    go : (l here p : Bool) → (here ≡ true → p ≡ false) → l && p ≡ (l || here) && p
    go true here p f = refl
    go false true p f = sym (f refl)
    go false false p f = refl

pub shifted : (n : ℕ) → n < 32 → (1 * 2 ^ n) % 4294967296 ≡ 2 ^ n
shifted n h = omega (arith, pow-succ' 2 n, pow_pos n, pow_mono {i = suc n} {j = 32} h)

-- ---- the words of labels

-- the j-th edge is at vertex 1
unfoldable pub near_at : Swapping → List ℕ → ℕ → Bool
near_at s ins j = eqb (get_or s.tree.graph.now.a (get_or ins j 0) 0) 1

-- it is not, and hangs right above y
unfoldable pub over_at : Swapping → List ℕ → ℕ → ℕ → Bool
over_at s ins y j = cond (eqb (get_or s.tree.graph.now.a (get_or ins j 0) 0) 1) false (eqb (lower_at s (get_or ins j 0)) y)

-- it is not, and one of the first `left` labels on the way from y hangs right below it
unfoldable pub way_at : Swapping → List ℕ → ℕ → ℕ → ℕ → Bool
unfolding on_way
way_at s ins left y j =
    cond (eqb (get_or s.tree.graph.now.a (get_or ins j 0) 0) 1) false (on_way (λ u. get_or s.hung.now.parent u 0) left (lower_at s (get_or ins j 0)) y)

abbrev pub below_at : Swapping → List ℕ → ℕ → ℕ → Bool
below_at s ins x = way_at s ins (get_or s.hung.now.depth x 0) x

pub record Overs (s : Swapping) (ins : List ℕ) (word : ℕ) (words : List ℕ) (n : ℕ) : Type 0 where
  pub near : BitsTo word n (near_at s ins)
  pub over : (y : ℕ) → y < 21 → BitsTo (get_or words y 0) n (over_at s ins y)
  pub long : length words ≡ 21

pub overs_none : (s : Swapping) (ins : List ℕ) → Overs s ins 0 (replicate 21 0) 0
overs_none s ins = record {
  near = bits_none (near_at s ins);
  over = λ y h. rw (get_or-replicate {A = ℕ} 21 y 0 0 h) (bits_none (over_at s ins y));
  long = length-replicate {A = ℕ} 21 0;
}

module _ (s : Swapping) (ins : List ℕ) (near : ℕ) (over : List ℕ) (n : ℕ) (h : Overs s ins near over n) where
  pub overs_near : get_or s.tree.graph.now.a (get_or ins n 0) 0 ≡ 1 → Overs s ins (bit_or near (2 ^ n)) over (n + 1)
  unfolding near_at over_at
  overs_near e = record {
    near = bits_more near n (near_at s ins) h.near (eq-eqb (get_or s.tree.graph.now.a (get_or ins n 0) 0) 1 e);
    over = λ y l. bits_skip (get_or over y 0) n (over_at s ins y) (h.over y l) (rw (eq-eqb (get_or s.tree.graph.now.a (get_or ins n 0) 0) 1 e) refl);
    long = h.long;
  }

  pub overs_far : get_or s.tree.graph.now.a (get_or ins n 0) 0 ≢ 1 → (v : ℕ) → v ≡ lower_at s (get_or ins n 0) → v < 21
      → Overs s ins near (set over v (bit_or (get_or over v 0) (2 ^ n))) (n + 1)
  unfolding near_at over_at
  overs_far e v is room = record {
    near = bits_skip near n (near_at s ins) h.near (ne_eqb (get_or s.tree.graph.now.a (get_or ins n 0) 0) 1 e);
    over = λ y l. at y l (ℕ_discrete y v);
    long = length-set over v (bit_or (get_or over v 0) (2 ^ n)) ∙ h.long;
  }
    where
      told : (y : ℕ) → over_at s ins y n ≡ eqb (lower_at s (get_or ins n 0)) y
      told y = rw (ne_eqb (get_or s.tree.graph.now.a (get_or ins n 0) 0) 1 e) refl

      at : (y : ℕ) → y < 21 → Dec (y ≡ v) → BitsTo (get_or (set over v (bit_or (get_or over v 0) (2 ^ n))) y 0) (n + 1) (over_at s ins y)
      at y l (yes q) = rw (q, get_or-set_same over v (bit_or (get_or over v 0) (2 ^ n)) 0 (omega (arith, h.long, room)))
          (bits_more (get_or over v 0) n (over_at s ins v) (h.over v room) (told v ∙ eq-eqb (lower_at s (get_or ins n 0)) v (sym is)))
      at y l (no q) = rw (get_or-set_other over v y (bit_or (get_or over v 0) (2 ^ n)) 0 q)
          (bits_skip (get_or over y 0) n (over_at s ins y) (h.over y l) (told y ∙ ne_eqb (lower_at s (get_or ins n 0)) y (λ z. q (sym z ∙ sym is))))

-- ---- a climb

-- it has come to y, with `left` labels to go
pub record Climb (s : Swapping) (ins : List ℕ) (n x y left acc : ℕ) : Type 0 where
  pub has : (j : ℕ) → bit_of acc j || (ltb j n && way_at s ins left y j) ≡ ltb j n && way_at s ins (get_or s.hung.now.depth x 0) x j

-- a word joined with the next
join : (p l a e w : Bool) → (p || l && cond a false e) || l && cond a false w ≡ p || l && cond a false (e || w)
join true l a e w = refl
join false true true e w = refl
join false true false e w = refl
join false false a e w = refl

module _ (s : Swapping) (ins : List ℕ) (near : ℕ) (over : List ℕ) (h : Overs s ins near over (length ins)) (x : ℕ) where
  pub climb_first : Climb s ins (length ins) x x (get_or s.hung.now.depth x 0) 0
  climb_first = record { has = λ j. rw (zero_bit j) refl }

  pub climb_next : (y left acc : ℕ) → left ≢ 0 → y < 21 → Climb s ins (length ins) x y left acc
      → Climb s ins (length ins) x (get_or s.hung.now.parent y 0) (left - 1) (bit_or acc (get_or over y 0))
  unfolding way_at over_at
  climb_next y zero acc n room c = absurd (n refl)
  climb_next y (suc left) acc n room c =
      let z : suc left - 1 ≡ left = omega arith in
      rw z (record {
        has = λ j. rw (or-bit acc (get_or over y 0) j, h.over y room j)
            (join (bit_of acc j) (ltb j (length ins)) (eqb (get_or s.tree.graph.now.a (get_or ins j 0) 0) 1) (eqb (lower_at s (get_or ins j 0)) y)
            (on_way (λ u. get_or s.hung.now.parent u 0) left (lower_at s (get_or ins j 0)) (get_or s.hung.now.parent y 0)) ∙ c.has j);
      })

  pub climb_last : (y left acc : ℕ) → left ≡ 0 → Climb s ins (length ins) x y left acc → BitsTo acc (length ins) (below_at s ins x)
  unfolding way_at
  climb_last y left acc e c j = none (bit_of acc j) (ltb j (length ins)) (eqb (get_or s.tree.graph.now.a (get_or ins j 0) 0) 1)
      ∙ subst (λ (k : ℕ). bit_of acc j || (ltb j (length ins) && way_at s ins k y j) ≡ ltb j (length ins) && way_at s ins (get_or s.hung.now.depth x 0) x j) e (c.has j)
    where
      none : (p l a : Bool) → p ≡ p || l && cond a false false
      none true l a = refl
      none false true true = refl
      none false true false = refl
      none false false a = refl

-- ---- the words of all labels

pub record Sided (s : Swapping) (ins : List ℕ) (word : ℕ) (words : List ℕ) (x : ℕ) : Type 0 where
  pub near : BitsTo word (length ins) (near_at s ins)
  pub below : (y : ℕ) → y < x → y < 21 → BitsTo (get_or words y 0) (length ins) (below_at s ins y)
  pub long : length words ≡ 21

pub sided_none : (s : Swapping) (ins : List ℕ) (near : ℕ) (over below : List ℕ) → Overs s ins near over (length ins) → below ≡ replicate 21 0
    → Sided s ins near below 0
sided_none s ins near over below h e = record { near = h.near; below = λ y l. absurd (omega arith); long = ap (λ (l : List ℕ). length l) e ∙ length-replicate {A = ℕ} 21 0 }

pub sided_more : (s : Swapping) (ins : List ℕ) (near : ℕ) (below : List ℕ) (x w : ℕ) → x < 21 → Sided s ins near below x
    → BitsTo w (length ins) (below_at s ins x) → Sided s ins near (set below x w) (x + 1)
sided_more s ins near below x w room h b = record {
  near = h.near;
  below = λ y l m. at y l m (ℕ_discrete y x);
  long = length-set below x w ∙ h.long;
}
  where
    at : (y : ℕ) → y < x + 1 → y < 21 → Dec (y ≡ x) → BitsTo (get_or (set below x w) y 0) (length ins) (below_at s ins y)
    at y l m (yes e) = rw (e, get_or-set_same below x w 0 (omega (arith, h.long, room))) b
    at y l m (no e) = rw (get_or-set_other below x y w 0 e) (h.below y (omega (arith, l, e)) m)

select_more : (p : ℕ → Bool) (k : ℕ) → length (select p (up_to (k + 1))) ≡ length (select p (up_to k)) + bit (p (suc k))
unfolding select up_to
select_more p k = rw add-one (go (p (suc k)))
  where
    go : (b : Bool) → length (keep b (suc k) (select p (up_to k))) ≡ length (select p (up_to k)) + bit b
    go true = omega arith
    go false = omega arith

-- the free edges below k are listed: those of the tree, which are few, and the others
pub record ListedTo (mark w ins outs : List ℕ) (k : ℕ) : Type 0 where
  pub inner : PlacesTo (belongs_at mark w true) ins k
  pub outer : PlacesTo (belongs_at mark w false) outs k
  pub few : length ins ≤ length (select (bytes w) (up_to k))

pub listed_none : (mark w ins outs : List ℕ) → length ins ≡ 0 → length outs ≡ 0 → ListedTo mark w ins outs 0
listed_none mark w ins outs e f = record {
  inner = places_none (belongs_at mark w true) ins e;
  outer = places_none (belongs_at mark w false) outs f;
  few = omega (arith, e);
}

module _ (mark w ins outs : List ℕ) (k : ℕ) (h : ListedTo mark w ins outs k) where
  pub listed_skip : get_or mark k 0 ≢ 0 → ListedTo mark w ins outs (k + 1)
  unfolding belongs
  listed_skip n = record {
    inner = places_skip (belongs_at mark w true) ins k h.inner (rw (ne_eqb (get_or mark k 0) 0 n) refl);
    outer = places_skip (belongs_at mark w false) outs k h.outer (rw (ne_eqb (get_or mark k 0) 0 n) refl);
    few = omega (arith, h.few, select_more (bytes w) k);
  }

  pub listed_in : get_or mark k 0 ≡ 0 → get_or w k 0 ≡ 1 → ListedTo mark w (ins ++ k ∷ []) outs (k + 1)
  unfolding belongs
  listed_in e i =
      let b : bytes w (suc k) ≡ true = eq-eqb (get_or w k 0) 1 i in
      record {
        inner = places-more (belongs_at mark w true) ins k h.inner (rw (eq-eqb (get_or mark k 0) 0 e, eq-eqb (get_or w k 0) 1 i) refl);
        outer = places_skip (belongs_at mark w false) outs k h.outer (rw (eq-eqb (get_or mark k 0) 0 e, eq-eqb (get_or w k 0) 1 i) refl);
        few = omega (arith, h.few, select_more (bytes w) k, ap bit b, length-append ins (k ∷ []));
      }

  pub listed_out : get_or mark k 0 ≡ 0 → get_or w k 0 ≢ 1 → ListedTo mark w ins (outs ++ k ∷ []) (k + 1)
  unfolding belongs
  listed_out e n = record {
    inner = places_skip (belongs_at mark w true) ins k h.inner (rw (eq-eqb (get_or mark k 0) 0 e, ne_eqb (get_or w k 0) 1 n) refl);
    outer = places-more (belongs_at mark w false) outs k h.outer (rw (eq-eqb (get_or mark k 0) 0 e, ne_eqb (get_or w k 0) 1 n) refl);
    few = omega (arith, h.few, select_more (bytes w) k);
  }

-- what code works with
pub record Circled (c : Circles) : Type 0 where
  pub placed : Placed c.swapping
  pub early : Early c.swapping.tree.graph.now.m c.ins.now
  pub few : length c.ins.now ≤ 20
  pub sided : Sided c.swapping c.ins.now c.sides.now.near c.sides.now.below 21

pub circled : (c : Circles) (list ins : List ℕ) (test : ℕ → Bool) → Placed c.swapping → c.ins.now ≡ list → ins ≡ list
    → PlacesTo test list c.swapping.tree.graph.now.m → length list ≤ 20 → Sided c.swapping ins c.sides.now.near c.sides.now.below 21 → Circled c
circled c list ins test p e f l few s = record {
  placed = p;
  early = rw e (λ i h. (l.each i h).0);
  few = rw e few;
  sided = rw (f ∙ sym e) at s;
}

-- labels are below vertices, and charges below no_charge
pub placed : (s : Swapping) (rep : List ℕ) → Labelled s.tree.graph.now rep s.ends.now.from s.ends.now.to → Merges s.tree.graph.now rep
    → ((k : ℕ) → k < s.tree.graph.now.m → get_or s.tree.lists.now.charges k 0 ≤ no_charge) → Placed s
placed s rep l m c = record {
  labels = λ k h.
      let e = s.tree.valid.each k h in (
        omega (arith, l.one k h, m.below (get_or s.tree.graph.now.a k 0) (omega (arith, e.less, e.to, s.tree.valid.high)), e.less, e.to, s.tree.valid.high),
        omega (arith, l.two k h, m.below (get_or s.tree.graph.now.b k 0) (omega (arith, e.to, s.tree.valid.high)), e.to, s.tree.valid.high),
      );
  charges = c;
}

-- the tree has at most 20 edges
pub short : (g : Graph) (mark w ins outs : List ℕ) → OneTree (network g) (bytes w) → Valid g → ListedTo mark w ins outs g.m → length ins ≤ 20
unfolding network
short g mark w ins outs o v l =
    let e : length (select (bytes w) (up_to g.m)) ≡ g.n = tree-size (network g) (bytes w) o in omega (arith, l.few, e, v.high)

lower_small : (s : Swapping) → Placed s → (i : ℕ) → i < s.tree.graph.now.m → lower_at s i < 21
unfolding deeper_of
lower_small s h i l = go (ltb (get_or s.hung.now.depth (get_or s.ends.now.from i 0) 0) (get_or s.hung.now.depth (get_or s.ends.now.to i 0) 0))
  where
    go : (b : Bool) → cond b (get_or s.ends.now.to i 0) (get_or s.ends.now.from i 0) < 21
    go true = (h.labels i l).1
    go false = (h.labels i l).0

-- ---- which change places with the edge at place k

xor-bit : (x y j : ℕ) → bit_of (bit_xor x y) j ≡ cond (bit_of x j) (not (bit_of y j)) (bit_of y j)
unfolding bit_of
xor-bit x y j = go (x / 2 ^ j % 2) (y / 2 ^ j % 2) (omega arith) (omega arith) (bit_at_xor x y j)
  where
    go : (a b : ℕ) → a < 2 → b < 2 → bit_xor x y / 2 ^ j % 2 ≡ (a + b) % 2 → eqb (bit_xor x y / 2 ^ j % 2) 1 ≡ cond (eqb a 1) (not (eqb b 1)) (eqb b 1)
    go zero zero h k e = rw e refl
    go zero (suc zero) h k e = rw e refl
    go (suc zero) zero h k e = rw e refl
    go (suc zero) (suc zero) h k e = rw e refl
    go (suc (suc a)) b h k e = absurd (omega arith)
    go zero (suc (suc b)) h k e = absurd (omega arith)
    go (suc zero) (suc (suc b)) h k e = absurd (omega arith)

apart : (l a u v : Bool) → cond (l && cond a false u) (not (l && cond a false v)) (l && cond a false v)
    ≡ l && cond a false (not (eqb (bit u) (bit v)))
apart true true u v = refl
apart true false true true = refl
apart true false true false = refl
apart true false false true = refl
apart true false false false = refl
apart false a u v = refl

module _ (c : Circles) (h : Circled c) (k : ℕ) (hk : k < c.swapping.tree.graph.now.m) where
  abbrev s : Swapping
  s = c.swapping

  abbrev ins : List ℕ
  ins = c.ins.now

  abbrev a_of : ℕ → ℕ
  a_of f = get_or s.tree.graph.now.a f 0

  pub meets_near : a_of k ≡ 1 → BitsTo c.sides.now.near (length ins) (λ j. meets_by s (get_or ins j 0) k)
  unfolding near_at meets_in
  meets_near e j = h.sided.near j ∙ rw (eq-eqb (a_of k) 1 e) (ap (λ (b : Bool). ltb j (length ins) && b) (same (eqb (a_of (get_or ins j 0)) 1)))
    where
      same : (b : Bool) → b ≡ cond b true false
      same true = refl
      same false = refl

  pub meets_far : a_of k ≢ 1 → BitsTo (bit_xor (get_or c.sides.now.below (get_or s.ends.now.from k 0) 0) (get_or c.sides.now.below (get_or s.ends.now.to k 0) 0))
      (length ins) (λ j. meets_by s (get_or ins j 0) k)
  unfolding way_at meets_in side_at
  meets_far e j =
      xor-bit (get_or c.sides.now.below p 0) (get_or c.sides.now.below q 0) j
      ∙ rw (h.sided.below p room.0 room.0 j, h.sided.below q room.1 room.1 j)
      (apart (ltb j (length ins)) (eqb (a_of (get_or ins j 0)) 1) (way p) (way q))
      ∙ go (dec_le (suc j) (length ins))
    where
      p : ℕ
      p = get_or s.ends.now.from k 0

      q : ℕ
      q = get_or s.ends.now.to k 0

      room : (p < 21) × (q < 21)
      room = h.placed.labels k hk

      way : ℕ → Bool
      way x = on_way (λ u. get_or s.hung.now.parent u 0) (get_or s.hung.now.depth x 0) (lower_at s (get_or ins j 0)) x

      go : Dec (j < length ins) → ltb j (length ins) && cond (eqb (a_of (get_or ins j 0)) 1) false (not (eqb (bit (way p)) (bit (way q))))
          ≡ ltb j (length ins) && meets_by s (get_or ins j 0) k
      go (no l) = rw (le-ltb j (length ins) (omega arith)) refl
      go (yes l) = rw (lt-ltb j (length ins) l, ne_eqb (a_of k) 1 e, sides_are s.hung.now.parent s.hung.now.depth v p hv room.0, sides_are s.hung.now.parent s.hung.now.depth v q hv room.1)
          (end (eqb (a_of (get_or ins j 0)) 1) (not (eqb (bit (way p)) (bit (way q)))))
        where
          v : ℕ
          v = lower_at s (get_or ins j 0)

          hv : v < 21
          hv = lower_small s h.placed (get_or ins j 0) (h.early j l)

          end : (b x : Bool) → cond b false x ≡ cond b false x
          end b x = refl

-- ---- bits taken off from the lowest up

-- x has the bits of the word from `upto` on, of n, and P holds of how many are met
pub record WalkTo (P : ℕ → Type 0) (n word x : ℕ) : Type 0 where
  pub upto : ℕ
  pub low : upto ≤ n
  pub small : x < 2 ^ 32
  pub done : (j : ℕ) → j < upto → bit_of x j ≡ false
  pub rest : (j : ℕ) → upto ≤ j → bit_of x j ≡ bit_of word j
  pub does : P upto

pub walk_first : (P : ℕ → Type 0) (n word : ℕ) → word < 2 ^ 32 → P 0 → WalkTo P n word word
walk_first P n word h p = record { upto = 0; low = omega arith; small = h; done = λ j l. absurd (omega arith); rest = λ j l. refl; does = p }

skip_to : (P : ℕ → Type 0) (a b : ℕ) → a ≤ b → ((k : ℕ) → a ≤ k → k < b → P k → P (k + 1)) → P a → P b
skip_to P a zero h step p = subst P (omega arith) p
skip_to P a (suc b) h step p = go (dec_le a b) (λ l. skip_to P a b l (λ k u v. step k u (omega arith)) p)
  where
    go : Dec (a ≤ b) → (a ≤ b → P b) → P (suc b)
    go (yes l) before = subst P (add-one b) (step b l (omega arith) (before l))
    go (no l) before = subst P (omega arith) p

module _ (P : ℕ → Type 0) (n word : ℕ) (t : ℕ → Bool) (are : BitsTo word n t) (skips : (j : ℕ) → j < n → t j ≡ false → P j → P (j + 1)) (x : ℕ)
    (w : WalkTo P n word x) where
  told : (j : ℕ) → j < n → bit_of word j ≡ t j
  told j l = are j ∙ rw (lt-ltb j n l) refl

  pub walk_last : x ≡ 0 → P n
  walk_last e = skip_to P w.upto n w.low (λ k u v. skips k v (sym (told k v) ∙ sym (w.rest k u) ∙ ap (λ (y : ℕ). bit_of y k) e ∙ zero_bit k)) w.does

  module _ (some : x ≢ 0) where
    abbrev lowest : ℕ
    lowest = count_trailing_zeros 32 x

    here : bit_of x (count_trailing_zeros 32 x) ≡ true
    here = trailing_here 32 x (trailing_some 32 x w.small some)

    from : w.upto ≤ count_trailing_zeros 32 x
    from = go (dec_le w.upto (count_trailing_zeros 32 x))
      where
        go : Dec (w.upto ≤ count_trailing_zeros 32 x) → w.upto ≤ count_trailing_zeros 32 x
        go (yes l) = l
        go (no l) = absurd (true≢false (sym here ∙ w.done (count_trailing_zeros 32 x) (omega arith)))

    on : bit_of word (count_trailing_zeros 32 x) ≡ true
    on = sym (w.rest (count_trailing_zeros 32 x) from) ∙ here

    pub walk_in : count_trailing_zeros 32 x < n
    walk_in = go (dec_le (suc (count_trailing_zeros 32 x)) n)
      where
        go : Dec (count_trailing_zeros 32 x < n) → count_trailing_zeros 32 x < n
        go (yes l) = l
        go (no l) =
            absurd (true≢false (sym on ∙ are (count_trailing_zeros 32 x) ∙ rw (le-ltb (count_trailing_zeros 32 x) n (omega arith)) refl))

    pub walk_test : t (count_trailing_zeros 32 x) ≡ true
    walk_test = sym (told (count_trailing_zeros 32 x) walk_in) ∙ on

    pub walk_met : P (count_trailing_zeros 32 x)
    walk_met =
        skip_to P w.upto (count_trailing_zeros 32 x) from
        (λ k u v. skips k (omega (arith, v, walk_in)) (sym (told k (omega (arith, v, walk_in))) ∙ sym (w.rest k u) ∙ trailing_below 32 x k v)) w.does

    off : bit_and x (x - 1) ≡ x - 2 ^ count_trailing_zeros 32 x
    off = lowest_off 32 x w.small (omega arith)

    pub walk_less : bit_and x (x - 1) < x
    walk_less = omega (arith, off, clear_le x (count_trailing_zeros 32 x) here, pow_pos (count_trailing_zeros 32 x))

    pub walk_more : (Q : ℕ → Type 0) → Q (count_trailing_zeros 32 x + 1) → WalkTo Q n word (bit_and x (x - 1))
    walk_more Q q = record {
      upto = count_trailing_zeros 32 x + 1;
      low = omega (arith, walk_in);
      small = omega (arith, w.small, walk_less);
      done = λ j h. ap (λ (y : ℕ). bit_of y j) off ∙ cleared j h (ℕ_discrete j (count_trailing_zeros 32 x));
      rest = λ j h. ap (λ (y : ℕ). bit_of y j) off ∙ clear_there x (count_trailing_zeros 32 x) j here (omega arith)
          ∙ w.rest j (omega (arith, from, h));
      does = q;
    }
      where
        cleared : (j : ℕ) → j < count_trailing_zeros 32 x + 1 → Dec (j ≡ count_trailing_zeros 32 x)
            → bit_of (x - 2 ^ count_trailing_zeros 32 x) j ≡ false
        cleared j h (yes e) = ap (bit_of (x - 2 ^ count_trailing_zeros 32 x)) e ∙ clear_here x (count_trailing_zeros 32 x) here
        cleared j h (no e) = clear_there x (count_trailing_zeros 32 x) j here e ∙ trailing_below 32 x j (omega (arith, h, e))

-- ---- offers

-- the edge at place k has been offered to each of the first n of the tree
pub record OfferedTo (s : Swapping) (ins : List ℕ) (k : ℕ) (before after : List Pick) (n : ℕ) : Type 0 where
  pub done : (j : ℕ) → j < n → get_or after j no_pick ≡ taken s true (get_or ins j 0) k (get_or before j no_pick)
  pub rest : (j : ℕ) → n ≤ j → get_or after j no_pick ≡ get_or before j no_pick
  pub long : length after ≡ length before

-- and it has the best of them
pub record Offering (s : Swapping) (ins : List ℕ) (k : ℕ) (before after : List Pick) (best : Pick) (n : ℕ) : Type 0 where
  pub turn : InTurn s false ins k n best
  pub each : OfferedTo s ins k before after n

module _ (s : Swapping) (ins : List ℕ) (k : ℕ) (before : List Pick) where
  pub offering_first : Offering s ins k before before no_pick 0
  offering_first = record {
    turn = in_turn_first s false ins k;
    each = record { done = λ j l. absurd (omega arith); rest = λ j l. refl; long = refl };
  }

  module _ (after : List Pick) (best : Pick) (n : ℕ) (h : Offering s ins k before after best n) where
    pub offering_skip : meets_by s (get_or ins n 0) k ≡ false → Offering s ins k before after best (n + 1)
    unfolding taken
    offering_skip e = record {
      turn = rw no_met at (in_turn_next s false ins k n best h.turn (get_or ins n 0) refl);
      each = record { done = λ j l. at j l (ℕ_discrete j n); rest = λ j l. h.each.rest j (omega (arith, l)); long = h.each.long };
    }
      where
        no_met : taken s false k (get_or ins n 0) best ≡ best
        no_met = rw e refl

        at : (j : ℕ) → j < n + 1 → Dec (j ≡ n) → get_or after j no_pick ≡ taken s true (get_or ins j 0) k (get_or before j no_pick)
        at j l (yes q) = rw (q, e) (h.each.rest n (omega arith))
        at j l (no q) = h.each.done j (omega (arith, l, q))

    pub offering_more : meets_by s (get_or ins n 0) k ≡ true → n < length before → (i : ℕ) → i ≡ get_or ins n 0
        → Offering s ins k before (set after n (offered s true i k (get_or after n no_pick))) (offered s false k i best) (n + 1)
    unfolding taken
    offering_more e room i is = rw is (record {
      turn = rw yes_met at (in_turn_next s false ins k n best h.turn (get_or ins n 0) refl);
      each = record {
        done = λ j l. at j l (ℕ_discrete j n);
        rest = λ j l. get_or-set_other after n j (offered s true (get_or ins n 0) k (get_or after n no_pick)) no_pick (omega (arith, l))
            ∙ h.each.rest j (omega (arith, l));
        long = length-set after n (offered s true (get_or ins n 0) k (get_or after n no_pick)) ∙ h.each.long;
      };
    })
      where
        yes_met : taken s false k (get_or ins n 0) best ≡ offered s false k (get_or ins n 0) best
        yes_met = rw e refl

        at : (j : ℕ) → j < n + 1 → Dec (j ≡ n) → get_or (set after n (offered s true (get_or ins n 0) k (get_or after n no_pick))) j no_pick
            ≡ taken s true (get_or ins j 0) k (get_or before j no_pick)
        at j l (yes q) =
            rw (
              q,
              e,
              get_or-set_same after n (offered s true (get_or ins n 0) k (get_or after n no_pick)) no_pick (omega (arith, h.each.long, room)),
              h.each.rest n (omega arith),
            ) refl
        at j l (no q) = get_or-set_other after n j (offered s true (get_or ins n 0) k (get_or after n no_pick)) no_pick q
            ∙ h.each.done j (omega (arith, l, q))

-- each edge of the tree has the best of the first n outside it
pub record BestsTo (s : Swapping) (ins outs : List ℕ) (bests : List Pick) (n : ℕ) : Type 0 where
  pub each : (j : ℕ) → j < length ins → InTurn s true outs (get_or ins j 0) n (get_or bests j no_pick)
  pub long : length bests ≡ 21

pub bests_none : (s : Swapping) (ins outs : List ℕ) (bests : List Pick) → length ins ≤ 20 → bests ≡ replicate 21 no_pick → BestsTo s ins outs bests 0
bests_none s ins outs bests few e = rw e (record {
  each = λ j l. rw (get_or-replicate 21 j no_pick no_pick (omega (arith, l, few))) (in_turn_first s true outs (get_or ins j 0));
  long = length-replicate {A = Pick} 21 no_pick;
})

pub bests_more : (s : Swapping) (ins outs : List ℕ) (bests after : List Pick) (n k : ℕ) → BestsTo s ins outs bests n → k ≡ get_or outs n 0
    → OfferedTo s ins k bests after (length ins) → BestsTo s ins outs after (n + 1)
bests_more s ins outs bests after n k h is o = record {
  each = λ j l. rw (o.done j l) (in_turn_next s true outs (get_or ins j 0) n (get_or bests j no_pick) (h.each j l) k is);
  long = o.long ∙ h.long;
}
