-- The test `valid` says what the statement `Valid` says. So a proof may work with statements, and code compute the test. Assumes nothing.
use Rattle.std.specs.Prelude.{ℕ, zero, suc, ◌+◌, ◌<◌, ◌≤◌, ◌≡◌, refl, true, false, not, ◌&&◌, ◌||◌, List, get_or, ltb, leb, eqb, ℤ, pos}
use Rattle.std.proofs.Common.{sym, ◌∙◌, arith, add-one, below_more, ltb-true, ltb-false, leb-true, eqb-true, eq-eqb, ne_eqb, le-leb, lt-ltb}
use Rattle.std.proofs.lemmas.Bool.{false≢true, not-true}
use Rattle.lists.specs.Bools.{by_cases, and_both, or_none}
use Rattle.integers.specs.Range.{within}
use Rattle.graph.specs.declared.Graph.{Graph}
use Rattle.graph.specs.Limits.{min_vertices, max_vertices, max_edges, max_cost, max_mark}
use Rattle.graph.specs.declared.refusals.Refusal.{Refusal}
use Rattle.graph.specs.Refusals.{number, positive}
use Rattle.graph.specs.Valid.{EdgeValid, EdgeAt, SamePair, Valid, ends_ok, edge_ok, pair_met, edges_ok, valid, graph_fault}

-- ---- one edge

pub ends_true : (n x y : ℕ) → ends_ok n x y ≡ true → (1 ≤ x) × (x < y) × (y ≤ n)
unfolding ends_ok
ends_true n x y h =
    let p = and_both (leb 1 x) (ltb x y && leb y n) h in
    let q = and_both (ltb x y) (leb y n) p.1 in
    (leb-true 1 x p.0, ltb-true x y q.0, leb-true y n q.1)

pub edge_of : (n x y : ℕ) (z : ℤ) (w : ℕ) → ends_ok n x y ≡ true → within max_cost z ≡ true → w ≤ max_mark → EdgeValid n x y z w
edge_of n x y z w h r k =
    let p = ends_true n x y h in
    record { from = p.0; less = p.1; to = p.2; range = r; known = k }

pub ends_of : (n x y : ℕ) (z : ℤ) (w : ℕ) → EdgeValid n x y z w → ends_ok n x y ≡ true
unfolding ends_ok
ends_of n x y z w e = rw (le-leb 1 x e.from, lt-ltb x y e.less, le-leb y n e.to)

edge_true : (n x y : ℕ) (z : ℤ) (w : ℕ) → edge_ok n x y z w ≡ true → EdgeValid n x y z w
unfolding edge_ok
edge_true n x y z w h =
    let p = and_both (ends_ok n x y) (within max_cost z && leb w max_mark) h in
    let q = and_both (within max_cost z) (leb w max_mark) p.1 in
    edge_of n x y z w p.0 q.0 (leb-true w max_mark q.1)

true_edge : (n x y : ℕ) (z : ℤ) (w : ℕ) → EdgeValid n x y z w → edge_ok n x y z w ≡ true
unfolding edge_ok
true_edge n x y z w e =
    rw (ends_of n x y z w e, e.range, le-leb w max_mark e.known)

-- ---- pairs

pub pair_step : (a b : List ℕ) (k x y : ℕ) → pair_met a b (k + 1) x y ≡ pair_met a b k x y || (eqb (get_or a k 0) x && eqb (get_or b k 0) y)
unfolding pair_met
pair_step a b k x y = rw add-one

-- a pair not met is not the pair of any place
pub pair_new : (a b : List ℕ) (k x y : ℕ) → pair_met a b k x y ≡ false → (j : ℕ) → j < k → get_or a j 0 ≡ x → get_or b j 0 ≡ y → ⊥
unfolding pair_met
pair_new a b zero x y h j l p q = absurd (omega arith)
pair_new a b (suc k) x y h j l p q =
    let o = or_none (pair_met a b k x y) (eqb (get_or a k 0) x && eqb (get_or b k 0) y) h in
    by_cases (ltb j k) (λ t. pair_new a b k x y o.0 j (ltb-true j k t) p q)
    (λ t. let e : j ≡ k = omega (arith, ltb-false j k t) in
    let p' : get_or a k 0 ≡ x = (rw e at p) in
    let q' : get_or b k 0 ≡ y = (rw e at q) in
    false≢true (sym o.1 ∙ rw (eq-eqb (get_or a k 0) x p', eq-eqb (get_or b k 0) y q') refl))

pub new_pair : (a b : List ℕ) (k x y : ℕ) → ((j : ℕ) → j < k → get_or a j 0 ≡ x → get_or b j 0 ≡ y → ⊥) → pair_met a b k x y ≡ false
unfolding pair_met
new_pair a b zero x y h = refl
new_pair a b (suc k) x y h =
    rw (new_pair a b k x y (λ j l. h j (omega arith)))
    (by_cases (eqb (get_or a k 0) x)
    (λ t. rw t (ne_eqb (get_or b k 0) y (h k (omega arith) (eqb-true (get_or a k 0) x t))))
    (λ t. rw t))

-- ---- the first k edges

record First (g : Graph) (k : ℕ) : Type 0 where
  each : (j : ℕ) → j < k → EdgeAt g j
  once : (j : ℕ) → j < k → (i : ℕ) → i < j → SamePair g i j → ⊥

first_none : (g : Graph) → First g 0
first_none g = record { each = λ j l. absurd (omega arith); once = λ j l. absurd (omega arith) }

first_more : (g : Graph) (k : ℕ) → First g k → EdgeAt g k → pair_met g.a g.b k (get_or g.a k 0) (get_or g.b k 0) ≡ false
    → First g (k + 1)
first_more g k f e n =
    record {
      each = below_more (λ (j : ℕ). EdgeAt g j) k f.each e;
      once =
          below_more (λ (j : ℕ). (i : ℕ) → i < j → SamePair g i j → ⊥) k f.once
          (λ i l s. pair_new g.a g.b k (get_or g.a k 0) (get_or g.b k 0) n i l s.a s.b);
    }

first-new : (g : Graph) (k j : ℕ) → First g k → j < k → pair_met g.a g.b j (get_or g.a j 0) (get_or g.b j 0) ≡ false
first-new g k j f l =
    new_pair g.a g.b j (get_or g.a j 0) (get_or g.b j 0) (λ i h p q. f.once j l i h (record { a = p; b = q }))

edges_first : (g : Graph) (k : ℕ) → edges_ok g k ≡ true → First g k
unfolding edges_ok
edges_first g zero h = first_none g
edges_first g (suc k) h =
    let t = edge_ok g.n (get_or g.a k 0) (get_or g.b k 0) (get_or g.cost k (pos 0)) (get_or g.mark k 0) in
    let u = pair_met g.a g.b k (get_or g.a k 0) (get_or g.b k 0) in
    let p = and_both (edges_ok g k) (t && not u) h in
    let q = and_both t (not u) p.1 in
    rw (← add-one) (first_more g k (edges_first g k p.0) (edge_true g.n _ _ _ _ q.0) (not-true u q.1))

first_edges : (g : Graph) (k : ℕ) → First g k → edges_ok g k ≡ true
unfolding edges_ok
first_edges g zero f = refl
first_edges g (suc k) f =
    rw (
      first_edges g k (record { each = λ j l. f.each j (omega arith); once = λ j l. f.once j (omega arith) }),
      true_edge g.n (get_or g.a k 0) (get_or g.b k 0) (get_or g.cost k (pos 0)) (get_or g.mark k 0) (f.each k (omega arith)),
      first-new g (suc k) k f (omega arith),
    )

-- ---- a graph

valid-first : (g : Graph) → Valid g → First g g.m
valid-first g v = record { each = v.each; once = λ j l i h. v.once i j h l }

first-valid : (g : Graph) → min_vertices ≤ g.n → g.n ≤ max_vertices → g.m ≤ max_edges → First g g.m → Valid g
first-valid g low high few f =
    record { low = low; high = high; few = few; each = f.each; once = λ i j h l. f.once j l i h }

-- where the test is passed, 'Legs and marks' holds
pub valid_true : (g : Graph) → valid g ≡ true → Valid g
unfolding valid
valid_true g h =
    let p = and_both (leb min_vertices g.n) (leb g.n max_vertices && (leb g.m max_edges && edges_ok g g.m)) h in
    let q = and_both (leb g.n max_vertices) (leb g.m max_edges && edges_ok g g.m) p.1 in
    let r = and_both (leb g.m max_edges) (edges_ok g g.m) q.1 in
    first-valid g (leb-true min_vertices g.n p.0) (leb-true g.n max_vertices q.0) (leb-true g.m max_edges r.0)
    (edges_first g g.m r.1)

-- and where it holds, the test is passed
pub true_valid : (g : Graph) → Valid g → valid g ≡ true
unfolding valid
true_valid g v =
    rw (
      le-leb min_vertices g.n v.low,
      le-leb g.n max_vertices v.high,
      le-leb g.m max_edges v.few,
      first_edges g g.m (valid-first g v),
    )

pub not_valid : (g : Graph) → (Valid g → ⊥) → valid g ≡ false
not_valid g h = by_cases (valid g) (λ e. absurd (h (valid_true g e))) (λ e. e)

-- a graph that is not refused is valid
pub graph_fine : (g : Graph) → graph_fault g ≡ 0 → Valid g
graph_fine g h = by_cases (valid g) (valid_true g) (λ e. absurd (let z : 15 ≡ 0 = (rw e at h) in omega arith))

-- and one that is refused is not, and has the number 15
pub graph_refused : (g : Graph) (r : Refusal) → number r ≡ graph_fault g → (valid g ≡ false) × (number r ≡ 15)
graph_refused g r h =
    by_cases (valid g) (λ e. absurd (let z : number r ≡ 0 = (rw e at h) in omega (arith, positive r))) (λ e. (e, rw e at h))
