-- Which swaps of two edges make a 1-tree of the least one, told by the arrays: both at vertex 1, or the edge that goes out on the circle
-- of the one that comes in, where vertices that required edges join stand for one. Assumes nothing.
use Rattle.std.specs.Prelude.{◌≡◌, ◌≢◌, ◌⊎◌, true, false, List, get_or}
use Rattle.std.proofs.Common.{◌∙◌, sym, ap, inl, inr, arith}
use Rattle.std.proofs.Math.Bool.{true≢false}
use Prim.Native.Nat.{ℕ, suc, ◌<◌}
use borrow.Author.Tests.{eqb-true, eqb-false, eq-eqb, ne_eqb}
use Rattle.lists.specs.Members.{◌∈◌}
use Rattle.lists.specs.Select.{select_in, in_select}
use Rattle.lists.specs.Numbers.{up_to}
use Rattle.graph.specs.declared.Graph.{Graph}
use Rattle.graph.specs.Network.{network}
use Rattle.graph.specs.Places.{network_a, network_b}
use Rattle.graph.specs.Valid as value
use Rattle.tree_theory.specs.OneTree.{OneTree}
use Rattle.tree_theory.specs.Valid.{is_near, is_excluded, needed, far, far_in, in_far}
use Rattle.tree_theory.specs.Optimal.Criteria.{MaySwap, Apart, Place}
use Rattle.tree_theory.specs.Arrays.{bytes, edge_of, of_edge, needed-at, excluded_at}
use Rattle.swaps.specs.Hanging.{Vertex, Child, Splits}
use Rattle.swaps.specs.Visiting.{Rooting, edge_at}
use Rattle.swaps.specs.Rooted.{Other, cut-same, same-cut, edge_above, one_vertex}
use Rattle.swaps.specs.RootedTree.{parts, shape, edge_over, label_of, RootedIn, free_mark}

-- the ends of the edge at place k, and its mark
abbrev pub a_at : Graph → ℕ → ℕ
a_at g k = get_or g.a k 0

abbrev pub b_at : Graph → ℕ → ℕ
b_at g k = get_or g.b k 0

abbrev pub mark_at : Graph → ℕ → ℕ
mark_at g k = get_or g.mark k 0

-- the circle of the edge at place k goes through the edge above v
abbrev pub Through : Graph → List ℕ → Rooting → ℕ → ℕ → Type 0
Through g rep r v k = Splits (shape r.parent r.depth) v (label_of rep (a_at g k)) (label_of rep (b_at g k))

abbrev pub Below : Rooting → ℕ → Type 0
Below r v = Child (shape r.parent r.depth) v

-- both at vertex 1; or neither, and the circle of the one at place k goes through the one at place i
abbrev pub SamePlace : Graph → List ℕ → Rooting → ℕ → ℕ → Type 0
SamePlace g rep r i k = ((a_at g i ≡ 1) × (a_at g k ≡ 1))
    ⊎ ((a_at g i ≢ 1) × (a_at g k ≢ 1) × ((v : ℕ) × Below r v × (edge_at r v ≡ i) × Through g rep r v k))

-- the edge at place k, outside the tree, may take the place of the one at place i
pub record Swaps (g : Graph) (rep : List ℕ) (r : Rooting) (i k : ℕ) : Type 0 where
  pub loose : mark_at g i ≡ 0
  pub allowed : mark_at g k ≡ 0
  pub place : SamePlace g rep r i k

module _ (g : Graph) (v : value.Valid g) (w : List ℕ) (o : OneTree (network g) (bytes w)) where
  -- ---- marks

  not-needed : (k : ℕ) → k < g.m → needed (network g) (suc k) ≡ false → mark_at g k ≢ 1
  not-needed k h e = eqb-false (mark_at g k) 1 (sym (needed-at g k h) ∙ e)

  not_excluded : (k : ℕ) → k < g.m → is_excluded ((network g).mark (suc k)) ≡ false → mark_at g k ≢ 2
  not_excluded k h e = eqb-false (mark_at g k) 2 (sym (excluded_at g k h v) ∙ e)

  free_needed : (k : ℕ) → k < g.m → mark_at g k ≡ 0 → needed (network g) (suc k) ≡ false
  free_needed k h e = needed-at g k h ∙ ne_eqb (mark_at g k) 1 (λ f. omega arith)

  pub free_excluded : (k : ℕ) → k < g.m → mark_at g k ≡ 0 → is_excluded ((network g).mark (suc k)) ≡ false
  free_excluded k h e = excluded_at g k h v ∙ ne_eqb (mark_at g k) 2 (λ f. omega arith)

  -- an edge of the tree that is not required is free
  pub in_free : (k : ℕ) → k < g.m → get_or w k 0 ≡ 1 → mark_at g k ≢ 1 → mark_at g k ≡ 0
  unfolding network
  in_free k h e f = free_mark (mark_at g k) (v.each k h).known f (λ q. true≢false (sym (eq-eqb (get_or w k 0) 1 e)
      ∙ (parts g v w o).avoids (suc k) (of_edge g.m k h) (excluded_at g k h v ∙ eq-eqb (mark_at g k) 2 q)))

  -- and so is one outside that is not excluded
  out_free : (k : ℕ) → k < g.m → get_or w k 0 ≢ 1 → mark_at g k ≢ 2 → mark_at g k ≡ 0
  unfolding network
  out_free k h e f = free_mark (mark_at g k) (v.each k h).known (λ q. true≢false (sym
      ((parts g v w o).keeps (suc k) (of_edge g.m k h) (needed-at g k h ∙ eq-eqb (mark_at g k) 1 q)) ∙ ne_eqb (get_or w k 0) 1 e)) f

  -- ---- places

  near-at : (k : ℕ) → k < g.m → a_at g k ≡ 1 → is_near (network g) (suc k) ≡ true
  near-at k h e = eq-eqb ((network g).a (suc k)) 1 (network_a g k h ∙ e)

  far_at_lem : (k : ℕ) → k < g.m → a_at g k ≢ 1 → is_near (network g) (suc k) ≡ false
  far_at_lem k h e = ne_eqb ((network g).a (suc k)) 1 (λ f. e (sym (network_a g k h) ∙ f))

  at-near : (k : ℕ) → k < g.m → is_near (network g) (suc k) ≡ true → a_at g k ≡ 1
  at-near k h e = sym (network_a g k h) ∙ eqb-true ((network g).a (suc k)) 1 e

  at-far : (k : ℕ) → k < g.m → is_near (network g) (suc k) ≡ false → a_at g k ≢ 1
  at-far k h e f = eqb-false ((network g).a (suc k)) 1 e (network_a g k h ∙ f)

  module _ (rep : List ℕ) (r : Rooting) (t : RootedIn g w rep r) where
    -- the ends of a far edge
    far_ends : (k : ℕ) → k < g.m → a_at g k ≢ 1 → Other (network g) (a_at g k) × Other (network g) (b_at g k)
    unfolding network
    far_ends k h f =
        let e : value.EdgeAt g k = v.each k h in
        ((omega (arith, e.from), omega (arith, e.less, e.to)), (omega (arith, e.from, e.less), e.to))

    -- their labels hang
    pub ends_hang : (k : ℕ) → k < g.m → a_at g k ≢ 1
        → Vertex (shape r.parent r.depth) (label_of rep (a_at g k)) × Vertex (shape r.parent r.depth) (label_of rep (b_at g k))
    ends_hang k h f = let e = far_ends k h f in (t.whole (a_at g k) e.0, t.whole (b_at g k) e.1)

    -- the edge above a label is a free edge of the tree and not at vertex 1
    pub over_in : (u : ℕ) → Below r u
        → (edge_at r u < g.m) × (get_or w (edge_at r u) 0 ≡ 1) × (a_at g (edge_at r u) ≢ 1) × (mark_at g (edge_at r u) ≡ 0)
    unfolding network
    over_in u i = (inside, chosen, at-far (edge_at r u) inside q.1, free)
      where
        p : (edge_over r u ∈ far (network g)) × (bytes w (edge_over r u) ≡ true)
        p = select_in (bytes w) (far (network g)) (edge_over r u) (t.tree u i)

        q : (edge_over r u ∈ up_to g.m) × (is_near (network g) (edge_over r u) ≡ false) ×
            (is_excluded ((network g).mark (edge_over r u)) ≡ false)
        q = far_in (network g) (edge_over r u) p.0

        inside : edge_at r u < g.m
        inside = let m = edge_of g.m (edge_over r u) q.0 in omega (arith, m.1, m.2)

        chosen : get_or w (edge_at r u) 0 ≡ 1
        chosen = eqb-true (get_or w (edge_at r u) 0) 1 p.1

        free : mark_at g (edge_at r u) ≡ 0
        free = in_free (edge_at r u) inside chosen (not-needed (edge_at r u) inside (t.free u i))

    -- and above no other
    pub over_once : (u x : ℕ) → Below r u → Below r x → edge_at r u ≡ edge_at r x → u ≡ x
    over_once u x i j e = one_vertex (λ k. label_of rep ((network g).a k)) (λ k. label_of rep ((network g).b k)) (shape r.parent r.depth)
        (edge_over r) u x (t.hangs.deep u i) (t.hangs.deep x j) (t.ends u i) (t.ends x j) (ap suc e)

    -- every free edge of the tree that is not at vertex 1 is above a label
    pub over_all : (k : ℕ) → k < g.m → get_or w k 0 ≡ 1 → a_at g k ≢ 1 → mark_at g k ≡ 0 → (u : ℕ) × Below r u × (edge_at r u ≡ k)
    unfolding network
    over_all k h e f z = (q.0, q.1, omega (arith, q.2))
      where
        q : (u : ℕ) × Below r u × (edge_over r u ≡ suc k)
        q = edge_above (network g) (bytes w) (label_of rep) (shape r.parent r.depth) (edge_over r) t (suc k)
            (in_select (bytes w) (far (network g)) (suc k)
            (in_far (network g) (suc k) (of_edge g.m k h) (far_at_lem k h f) (free_excluded k h z)) (eq-eqb (get_or w k 0) 1 e))
            (free_needed k h z)

    module _ (i k : ℕ) (hi : i < g.m) (hk : k < g.m) (wi : get_or w i 0 ≡ 1) (wk : get_or w k 0 ≢ 1) where
      pub swaps_may : Swaps g rep r i k → MaySwap (network g) (bytes w) (suc i) (suc k)
      swaps_may s = record { loose = free_needed i hi s.loose; allowed = free_excluded k hk s.allowed; place = go s.place }
        where
          go : SamePlace g rep r i k → Place (network g) (bytes w) (suc i) (suc k)
          go (inl p) = inl (near-at i hi p.0, near-at k hk p.1)
          go (inr p) = inr (far_at_lem i hi p.0, far_at_lem k hk p.1, split)
            where
              split : Apart (network g) (bytes w) (suc i) (suc k)
              split e = p.2.3 (same-cut (network g) (bytes w) (label_of rep) (shape r.parent r.depth) (edge_over r) t p.2.0
                  p.2.1 (a_at g k) (b_at g k)
                  (rw (p.2.2, ← network_a g k hk, ← network_b g k hk) e))

      pub may_swaps : MaySwap (network g) (bytes w) (suc i) (suc k) → Swaps g rep r i k
      may_swaps s = record {
        loose = loose;
        allowed = out_free k hk wk (not_excluded k hk s.allowed);
        place = go s.place;
      }
        where
          loose : mark_at g i ≡ 0
          loose = in_free i hi wi (not-needed i hi s.loose)

          go : Place (network g) (bytes w) (suc i) (suc k) → SamePlace g rep r i k
          go (inl p) = inl (at-near i hi p.0, at-near k hk p.1)
          go (inr p) = inr (at-far i hi p.0, at-far k hk p.1, (u.0, u.1, u.2, through))
            where
              u : (x : ℕ) × Below r x × (edge_at r x ≡ i)
              u = over_all i hi wi (at-far i hi p.0) loose

              ends : Other (network g) (a_at g k) × Other (network g) (b_at g k)
              ends = far_ends k hk (at-far k hk p.1)

              through : Through g rep r u.0 k
              through e = p.2 (rw (network_a g k hk, network_b g k hk, ← u.2)
                  (cut-same (network g) (bytes w) (label_of rep) (shape r.parent r.depth)
                  (edge_over r) t u.0 u.1 (a_at g k) (b_at g k) ends.0 ends.1 e))
