-- Laws of loops over arrays that once stood in specs/Loops, before there was code: a table of sides, places in an array with their number beside it,
-- steps up a tree, and an edge's ruling by arrays of numbers. The code has words of bits and lists in their place (crate onetree, specs/Masks, Picks,
-- Lifts), and no proof of today's cites these; they stand all the same. Assumes nothing.
use Rattle.std.specs.Prelude.{◌≡◌, ◌≢◌, refl, Bool, true, false, not, cond, List, ℕ, zero, suc, ◌+◌, ◌*◌, ◌-◌, ◌<◌, ◌≤◌, leb, ltb, ℤ, length, get_or, set, replicate}
use Rattle.std.proofs.Math.Path.{sym}
use Rattle.std.proofs.Common.{ap, ◌∙◌, true≢false, arith, eq-eqb, ne_eqb, lt-ltb, le-ltb, le-leb, length-set, get_or-set_same, get_or-set_other}
use Rattle.std.proofs.Math.Decide.{ℕ_discrete, dec_le}
use Rattle.std.proofs.lemmas.Bool.{lt-leb}
use Rattle.lists.specs.Fill.{replicate-at}
use Rattle.lists.specs.FilledFrom.{Updated}
use Rattle.swaps.specs.Hanging.{on_way}
use Rattle.integers.specs.Range.{InRange}
use Rattle.graph.specs.Limits.{max_multiplier}
use Rattle.tree_theory.specs.Inputs.{multiplier}
use Rattle.tree_theory.specs.Arrays.{entry}
use Rattle.lifting.specs.Folds.{least_to}
use Rattle.lifting.specs.Found.{top_of, place_of, top_at, cost_of, low_at, move_of, move_is}
use Rattle.lifting.specs.Meeting.{on_in}
use Rattle.lifting.specs.Verdict.{end_move, room_of, decides}

-- ---- sides

-- row v has f up to x, and the rows before it are as they were
pub record SideTo (f : ℕ → ℕ → ℕ) (v : ℕ) (before after : List ℕ) (x : ℕ) : Type 0 where
  pub done : (y : ℕ) → y < x → get_or after (21 * v + y) 0 ≡ f v y
  pub rest : (i : ℕ) → i < 21 * v → get_or after i 0 ≡ get_or before i 0
  pub long : length after ≡ 441

-- the rows before v have f
pub record SidesTo (f : ℕ → ℕ → ℕ) (l : List ℕ) (v : ℕ) : Type 0 where
  pub done : (u x : ℕ) → u < v → x < 21 → get_or l (21 * u + x) 0 ≡ f u x
  pub long : length l ≡ 441

pub side_none : (f : ℕ → ℕ → ℕ) (v : ℕ) (l : List ℕ) → length l ≡ 441 → SideTo f v l l 0
side_none f v l e = record { done = λ y h. absurd (omega arith); rest = λ i h. refl; long = e }

pub side_more : (f : ℕ → ℕ → ℕ) (v : ℕ) (before after : List ℕ) (x y : ℕ) → v < 21 → x < 21 → SideTo f v before after x → y ≡ f v x
    → SideTo f v before (set after (21 * v + x) y) (x + 1)
side_more f v before after x y hv hx h e = record {
  done = λ j l. at j l (ℕ_discrete j x);
  rest = λ i l. get_or-set_other after (21 * v + x) i y 0 (λ q. omega (arith, l, q)) ∙ h.rest i l;
  long = length-set after (21 * v + x) y ∙ h.long;
}
  where
    at : (j : ℕ) → j < x + 1 → Dec (j ≡ x) → get_or (set after (21 * v + x) y) (21 * v + j) 0 ≡ f v j
    at j l (yes q) = rw q (get_or-set_same after (21 * v + x) y 0 (omega (arith, h.long, hv, hx)) ∙ e)
    at j l (no q) = get_or-set_other after (21 * v + x) (21 * v + j) y 0 (λ z. q (omega (arith, z))) ∙ h.done j (omega (arith, l, q))

pub sides_none : (f : ℕ → ℕ → ℕ) (l : List ℕ) → length l ≡ 441 → SidesTo f l 0
sides_none f l e = record { done = λ u x h k. absurd (omega arith); long = e }

pub sides_more : (f : ℕ → ℕ → ℕ) (before after : List ℕ) (v : ℕ) → SidesTo f before v → SideTo f v before after 21 → SidesTo f after (v + 1)
sides_more f before after v h r = record { done = λ u x l k. at u x l k (ℕ_discrete u v); long = r.long }
  where
    at : (u x : ℕ) → u < v + 1 → x < 21 → Dec (u ≡ v) → get_or after (21 * u + x) 0 ≡ f u x
    at u x l k (yes e) = rw e (r.done x k)
    at u x l k (no e) = r.rest (21 * u + x) (omega (arith, l, k, e)) ∙ h.done u x (omega (arith, l, e)) k

-- ---- the places of the free edges on one side of the tree

-- of the places below k those that pass the test are listed, from the lowest on
pub record PlacesTo (test : ℕ → Bool) (list : List ℕ) (n k : ℕ) : Type 0 where
  pub each : (i : ℕ) → i < n → (get_or list i 0 < k) × (test (get_or list i 0) ≡ true)
  pub all : (f : ℕ) → f < k → test f ≡ true → (i : ℕ) × (i < n) × (get_or list i 0 ≡ f)
  pub rising : (i j : ℕ) → i < j → j < n → get_or list i 0 ≤ get_or list j 0
  pub few : n ≤ k
  pub small : (i : ℕ) → get_or list i 0 < 190
  pub long : length list ≡ 190

pub places_none : (test : ℕ → Bool) (l : List ℕ) → length l ≡ 190 → ((i : ℕ) → get_or l i 0 < 190) → PlacesTo test l 0 0
places_none test l e small = record {
  small = small;
  each = λ i h. absurd (omega arith);
  all = λ f h. absurd (omega arith);
  rising = λ i j h k. absurd (omega arith);
  few = omega arith;
  long = e;
}

module _ (test : ℕ → Bool) (list : List ℕ) (n k : ℕ) (h : PlacesTo test list n k) where
  pub places_skip : test k ≡ false → PlacesTo test list n (k + 1)
  places_skip e = record {
    each = λ i l. (omega (arith, (h.each i l).0), (h.each i l).1);
    all = λ f l p. at f l p (ℕ_discrete f k);
    rising = h.rising;
    few = omega (arith, h.few);
    small = h.small;
    long = h.long;
  }
    where
      at : (f : ℕ) → f < k + 1 → test f ≡ true → Dec (f ≡ k) → (i : ℕ) × (i < n) × (get_or list i 0 ≡ f)
      at f l p (yes q) = absurd (true≢false (sym p ∙ ap test q ∙ e))
      at f l p (no q) = h.all f (omega (arith, l, q)) p

  pub places-more : k < 190 → test k ≡ true → PlacesTo test (set list n k) (n + 1) (k + 1)
  places-more room e = record {
    each = λ i l. each i l (ℕ_discrete i n);
    all = λ f l p. all f l p (ℕ_discrete f k);
    rising = λ i j l m. rising i j l m (ℕ_discrete j n);
    few = omega (arith, h.few);
    small = λ i. small i (ℕ_discrete i n);
    long = length-set list n k ∙ h.long;
  }
    where
      new : get_or (set list n k) n 0 ≡ k
      new = get_or-set_same list n k 0 (omega (arith, h.long, h.few, room))

      old : (i : ℕ) → i < n → get_or (set list n k) i 0 ≡ get_or list i 0
      old i l = get_or-set_other list n i k 0 (λ q. omega (arith, l, q))

      small : (i : ℕ) → Dec (i ≡ n) → get_or (set list n k) i 0 < 190
      small i (yes q) = rw (q, new) room
      small i (no q) = rw (get_or-set_other list n i k 0 q) (h.small i)

      each : (i : ℕ) → i < n + 1 → Dec (i ≡ n) → (get_or (set list n k) i 0 < k + 1) × (test (get_or (set list n k) i 0) ≡ true)
      each i l (yes q) = rw (q, new) (omega arith, e)
      each i l (no q) = let r = h.each i (omega (arith, l, q)) in rw (old i (omega (arith, l, q))) (omega (arith, r.0), r.1)

      all : (f : ℕ) → f < k + 1 → test f ≡ true → Dec (f ≡ k) → (i : ℕ) × (i < n + 1) × (get_or (set list n k) i 0 ≡ f)
      all f l p (yes q) = (n, omega arith, new ∙ sym q)
      all f l p (no q) = let r = h.all f (omega (arith, l, q)) p in (r.0, omega (arith, r.1), old r.0 r.1 ∙ r.2)

      rising : (i j : ℕ) → i < j → j < n + 1 → Dec (j ≡ n) → get_or (set list n k) i 0 ≤ get_or (set list n k) j 0
      rising i j l m (yes q) = rw (q, new, old i (omega (arith, l, q))) (omega (arith, (h.each i (omega (arith, l, q))).0))
      rising i j l m (no q) = rw (old j (omega (arith, m, q)), old i (omega (arith, l, m, q))) (h.rising i j l (omega (arith, m, q)))

-- ---- steps of small loops and tests

pub way_here : (parent : ℕ → ℕ) (left v y : ℕ) → left ≢ 0 → y ≡ v → on_way parent left v y ≡ true
unfolding on_way
way_here parent zero v y n e = absurd (n refl)
way_here parent (suc left) v y n e = rw (eq-eqb v y (sym e))

pub way_next : (parent : ℕ → ℕ) (left v y : ℕ) → left ≢ 0 → y ≢ v → on_way parent left v y ≡ on_way parent (left - 1) v (parent y)
unfolding on_way
way_next parent zero v y n e = absurd (n refl)
way_next parent (suc left) v y n e = let z : suc left - 1 ≡ left = omega arith in rw (z, ne_eqb v y (λ q. e (sym q)))

pub way_none : (parent : ℕ → ℕ) (left v y : ℕ) → left ≡ 0 → on_way parent left v y ≡ false
unfolding on_way
way_none parent left v y e = rw e

pub not-leb : (x y : ℕ) → ltb x y ≡ not (leb y x)
not-leb x y = go (dec_le (suc x) y)
  where
    go : Dec (x < y) → ltb x y ≡ not (leb y x)
    go (yes h) = rw (lt-ltb x y h, lt-leb y x h)
    go (no h) = rw (le-ltb x y (omega arith), le-leb y x (omega arith))

pub move_small : (j room low top at : ℕ) → move_of j room low top at ≤ room
move_small j room low top at = (move_is j room low top at).0

-- ---- costs and rulings, edge by edge

-- the lists are of places of edges, and the labels have places too
pub record Lists (from to ins : List ℕ) (p : ℕ) (outs : List ℕ) (q : ℕ) : Type 0 where
  pub from_small : (j : ℕ) → get_or from j 0 < 21
  pub to_small : (j : ℕ) → get_or to j 0 < 21
  pub ins_small : (j : ℕ) → get_or ins j 0 < 190
  pub outs_small : (j : ℕ) → get_or outs j 0 < 190
  pub few_in : p ≤ 190
  pub few_out : q ≤ 190

-- what the edge at place k costs, in the tree or outside it
abbrev pub cost_for : (ℕ → ℕ → Bool) → ℕ → List ℕ → List ℕ → ℕ → List ℕ → ℕ → ℕ → Bool → ℕ
cost_for meets none c ins p outs q k true = cost_of none (none - get_or c k 0) (top_of none (entry c) meets true outs q k)
cost_for meets none c ins p outs q k false = cost_of none (get_or c k 0) (top_of none (entry c) meets false ins p k)

-- how far the end i of an edge moves
unfoldable pub shift_of : List ℕ → List ℕ → ℕ → List ℕ → List ℕ → List ℤ → List ℕ → ℕ → Bool → ℕ → ℕ → ℕ → ℕ → ℕ → ℕ
unfolding end_move room_of least_to multiplier
shift_of a b none costs degrees d list n inside i j place top at =
    end_move inside i j (on_in a b i place) (get_or degrees i 0) (room_of inside (multiplier d i)) (low_at none (on_in a b) (λ f. get_or costs f 0) list n i) top at

-- whether a kept edge is decided
unfoldable pub tried_test : List ℕ → List ℕ → (ℕ → ℕ → Bool) → ℕ → List ℕ → List ℕ → List ℕ → List ℤ → List ℕ → ℕ → ℕ → ℕ → Bool → Bool
unfolding decides shift_of
tried_test a b meets none c costs degrees d list n slack k inside =
    decides inside slack (get_or costs k 0)
    (shift_of a b none costs degrees d list n inside (get_or a k 0) (get_or b k 0) (place_of none (entry c) meets inside list n k)
    (top_of none (entry c) meets inside list n k) (top_at none (entry c) meets (on_in a b) inside list n (get_or a k 0) k))
    (get_or degrees (get_or a k 0) 0)
    (shift_of a b none costs degrees d list n inside (get_or b k 0) (get_or a k 0) (place_of none (entry c) meets inside list n k)
    (top_of none (entry c) meets inside list n k) (top_at none (entry c) meets (on_in a b) inside list n (get_or b k 0) k))
    (get_or degrees (get_or b k 0) 0)

-- its byte
unfoldable pub tried_byte : List ℕ → List ℕ → (ℕ → ℕ → Bool) → ℕ → List ℕ → List ℕ → List ℕ → List ℤ → List ℕ → ℕ → ℕ → ℕ → Bool → ℕ
unfolding tried_test
tried_byte a b meets none c costs degrees d list n slack k inside = cond (tried_test a b meets none c costs degrees d list n slack k inside) (cond inside 1 2) 0

-- what the numbers of the edge at place k are held to
pub record Measured (a b : List ℕ) (none : ℕ) (costs degrees : List ℕ) (d : List ℤ) (most slack k : ℕ) : Type 0 where
  pub few : (v : ℕ) → get_or degrees v 0 < 256
  pub first : (1 ≤ get_or a k 0) × (get_or a k 0 < 21) × (get_or a k 0 ≤ length d)
  pub second : (1 ≤ get_or b k 0) × (get_or b k 0 < 21) × (get_or b k 0 ≤ length d)
  pub cheap : get_or costs k 0 ≤ none
  pub near : slack ≤ most
  pub range : (v : ℕ) → InRange max_multiplier (multiplier d v)

-- a place that is met is listed, or 0

-- an array that has small numbers up to m, and zeros past it
pub filled-small : (f : ℕ → ℕ) (l : List ℕ) (m limit : ℕ) → Updated f (replicate 190 0) l m → ((k : ℕ) → k < m → f k < limit) → 1 ≤ limit
    → (j : ℕ) → get_or l j 0 < limit
filled-small f l m limit u h one j = go (dec_le (suc j) m)
  where
    go : Dec (j < m) → get_or l j 0 < limit
    go (yes i) = omega (arith, u.done j i, h j i)
    go (no i) = omega (arith, u.rest j (omega (arith, i)), replicate-at {A = ℕ} 190 0 j, one)
