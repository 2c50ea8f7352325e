-- Which edges change places, told by arrays: both at vertex 1; or neither, and the ends of the one outside lie on two sides of the other, which hangs above
-- the deeper of its labels. Assumes nothing.
use Rattle.std.specs.Prelude.{◌≡◌, refl, ◌≢◌, ◌↔◌, Bool, true, false, not, cond, ◌||◌, List, eqb, ltb, ℤ}
use Rattle.std.proofs.Common.{sym, ap, ◌∙◌, subst, inl, inr, true≢false}
use Rattle.std.proofs.lemmas.Bool.{false≢true}
use Prim.Native.Nat.{ℕ, suc, ◌+◌, ◌*◌, ◌<◌, ◌≤◌}
use native.Mathlib.Omega.{arith}
use Rattle.std.proofs.Math.Decide.{ℕ_discrete}
use Rattle.std.proofs.Math.ListN.{get_or}
use borrow.Author.Tests.{eqb-true, eq-eqb, ne_eqb, lt-ltb, le-ltb}
use Rattle.lists.specs.Bools.{bit}
use Rattle.lists.specs.Members.{◌∈◌}
use Rattle.lists.specs.Numbers.{up_to, in_up_to}
use Rattle.integers.specs.Parts.{le_parts}
use Rattle.graph.specs.declared.Graph.{Graph}
use Rattle.graph.specs.Network.{network}
use Rattle.graph.specs.Places.{network_a, network_b}
use Rattle.graph.specs.Valid as value
use Rattle.tree_theory.specs.OneTree.{OneTree, charge}
use Rattle.tree_theory.specs.Arrays.{entry, bytes, of_edge, network-valid}
use Rattle.tree_theory.specs.Optimal.Bound.{Shifted}
use Rattle.tree_theory.specs.Optimal.Exchange.{Minimal}
use Rattle.tree_theory.specs.Scaled.{scaled_by}
use Rattle.tree_theory.specs.Scaling.{valid_scaled, swap_scaled}
use Rattle.swaps.specs.Hanging.{Shape, Vertex, above}
use Rattle.swaps.specs.Visiting.{Rooting, edge_at}
use Rattle.swaps.specs.Rooted.{Joins}
use Rattle.swaps.specs.RootedTree.{RootedIn, Labelled, shape, label_of, edge_over}
use Rattle.swaps.specs.Swaps.{Swaps, SamePlace, Below, Through, a_at, b_at, mark_at, swaps_may, may_swaps, over_all, over_once, ends_hang}
use Rattle.lifting.specs.Lifted.{touches}
use Rattle.lifting.specs.Local.{minimal_charges}
use Rattle.lifting.specs.Worked.{Pair}
use Rattle.lifting.specs.Found.{Context}

-- ---- what code works with

-- the label that hangs deeper
unfoldable pub deeper_of : List ℕ → ℕ → ℕ → ℕ
deeper_of depth p q = cond (ltb (get_or depth p 0) (get_or depth q 0)) q p

-- in rows of 21: whether x hangs at or below v
abbrev pub side_of : List ℕ → ℕ → ℕ → ℕ
side_of sides v x = get_or sides (21 * v + x) 0

abbrev pub Sides : List ℕ → List ℕ → List ℕ → Type 0
Sides parent depth sides = (v x : ℕ) → v < 21 → x < 21 → side_of sides v x ≡ bit (above (shape parent depth) v x)

-- whether the free edge of the tree at place i and the one outside at place k change places
unfoldable pub meets_in : List ℕ → List ℕ → List ℕ → List ℕ → List ℕ → ℕ → ℕ → Bool
unfolding deeper_of
meets_in a from to depth sides i k =
    cond (eqb (get_or a i 0) 1) (eqb (get_or a k 0) 1)
    (cond (eqb (get_or a k 0) 1) false
    (not (eqb (side_of sides (deeper_of depth (get_or from i 0) (get_or to i 0)) (get_or from k 0))
    (side_of sides (deeper_of depth (get_or from i 0) (get_or to i 0)) (get_or to k 0)))))

-- whether the edge at place f is at vertex v
abbrev pub on_in : List ℕ → List ℕ → ℕ → ℕ → Bool
on_in a b v f = eqb (get_or a f 0) v || eqb (get_or b f 0) v

-- the places of the free edges of the tree, and of those outside it
pub record InPlace (g : Graph) (w : List ℕ) (k : ℕ) : Type 0 where
  pub early : k < g.m
  pub chosen : get_or w k 0 ≡ 1
  pub free : mark_at g k ≡ 0

pub record OutPlace (g : Graph) (w : List ℕ) (k : ℕ) : Type 0 where
  pub early : k < g.m
  pub other : get_or w k 0 ≢ 1
  pub free : mark_at g k ≡ 0

-- ---- that they do

differ : (x y : Bool) → (not (eqb (bit x) (bit y)) ≡ true) ↔ (x ≢ y)
differ true true = ((λ h. absurd (false≢true h)), λ h. absurd (h refl))
differ true false = ((λ h. true≢false), λ h. refl)
differ false true = ((λ h. false≢true), λ h. refl)
differ false false = ((λ h. absurd (false≢true h)), λ h. absurd (h refl))

module _ (g : Graph) (vg : value.Valid g) (w : List ℕ) (o : OneTree (network g) (bytes w)) (rep : List ℕ) (r : Rooting) (rooted : RootedIn g w rep r)
    (from to : List ℕ) (labelled : Labelled g rep from to) (sides : List ℕ) (are : Sides r.parent r.depth sides) where
  -- the edge above u joins u to what it hangs on, which is less deep
  over_deeper : (i u : ℕ) → i < g.m → Below r u → edge_at r u ≡ i → deeper_of r.depth (get_or from i 0) (get_or to i 0) ≡ u
  unfolding deeper_of
  over_deeper i u h b e = go (rooted.ends u b)
    where
      deep : get_or r.depth u 0 ≡ suc (get_or r.depth (get_or r.parent u 0) 0)
      deep = rooted.hangs.deep u b

      a_is : label_of rep ((network g).a (edge_over r u)) ≡ get_or from i 0
      a_is = ap (λ (x : ℕ). label_of rep ((network g).a (suc x))) e ∙ ap (label_of rep) (network_a g i h) ∙ sym (labelled.one i h)

      b_is : label_of rep ((network g).b (edge_over r u)) ≡ get_or to i 0
      b_is = ap (λ (x : ℕ). label_of rep ((network g).b (suc x))) e ∙ ap (label_of rep) (network_b g i h) ∙ sym (labelled.two i h)

      go : Joins (λ k. label_of rep ((network g).a k)) (λ k. label_of rep ((network g).b k)) (edge_over r u) u (get_or r.parent u 0)
          → cond (ltb (get_or r.depth (get_or from i 0) 0) (get_or r.depth (get_or to i 0) 0)) (get_or to i 0) (get_or from i 0) ≡ u
      go (inl q) =
          let x : get_or from i 0 ≡ u = sym a_is ∙ q.0 in
          let y : get_or to i 0 ≡ get_or r.parent u 0 = sym b_is ∙ q.1 in
          rw (x, y, le-ltb (get_or r.depth u 0) (get_or r.depth (get_or r.parent u 0) 0) (omega (arith, deep)))
      go (inr q) =
          let x : get_or from i 0 ≡ get_or r.parent u 0 = sym a_is ∙ q.0 in
          let y : get_or to i 0 ≡ u = sym b_is ∙ q.1 in
          rw (x, y, lt-ltb (get_or r.depth (get_or r.parent u 0) 0) (get_or r.depth u 0) (omega (arith, deep)))

  module _ (i k : ℕ) (hi : InPlace g w i) (hk : OutPlace g w k) where
    label : (v : ℕ) → Vertex (shape r.parent r.depth) v → v < 21
    label v h = omega (arith, rooted.hangs.room v h.1)

    far_meets : a_at g i ≢ 1 → a_at g k ≢ 1
        → (meets_in g.a from to r.depth sides i k ≡ true) ↔ ((u : ℕ) × Below r u × (edge_at r u ≡ i) × Through g rep r u k)
    unfolding meets_in
    far_meets fi fk = rw (ne_eqb (a_at g i) 1 fi, ne_eqb (a_at g k) 1 fk, at) (
      (λ h. (u.0, u.1, u.2, two.0 (rw split at h))),
      λ x. rw split (two.1 (subst (λ (y : ℕ). Through g rep r y k) (once x.0 x.1 x.2) x.3)),
    )
      where
        u : (x : ℕ) × Below r x × (edge_at r x ≡ i)
        u = over_all g vg w o rep r rooted i hi.early hi.chosen fi hi.free

        once : (y : ℕ) → Below r y → edge_at r y ≡ i → y ≡ u.0
        once y b e = over_once g vg w o rep r rooted y u.0 b u.1 (e ∙ sym u.2)

        at : deeper_of r.depth (get_or from i 0) (get_or to i 0) ≡ u.0
        at = over_deeper i u.0 hi.early u.1 u.2

        ends : Vertex (shape r.parent r.depth) (label_of rep (a_at g k)) × Vertex (shape r.parent r.depth) (label_of rep (b_at g k))
        ends = ends_hang g vg w o rep r rooted k hk.early fk

        sh : Shape
        sh = shape r.parent r.depth

        split : not (eqb (side_of sides u.0 (get_or from k 0)) (side_of sides u.0 (get_or to k 0)))
            ≡ not (eqb (bit (above (shape r.parent r.depth) u.0 (label_of rep (a_at g k))))
            (bit (above (shape r.parent r.depth) u.0 (label_of rep (b_at g k)))))
        split =
            rw (
              labelled.one k hk.early,
              labelled.two k hk.early,
              are u.0 (label_of rep (a_at g k)) (omega (arith, rooted.hangs.room u.0 u.1.1)) (label (label_of rep (a_at g k)) ends.0),
              are u.0 (label_of rep (b_at g k)) (omega (arith, rooted.hangs.room u.0 u.1.1)) (label (label_of rep (b_at g k)) ends.1),
            )

        two : (not (eqb (bit (above (shape r.parent r.depth) u.0 (label_of rep (a_at g k))))
            (bit (above (shape r.parent r.depth) u.0 (label_of rep (b_at g k))))) ≡ true)
            ↔ Through g rep r u.0 k
        two = differ (above (shape r.parent r.depth) u.0 (label_of rep (a_at g k))) (above (shape r.parent r.depth) u.0 (label_of rep (b_at g k)))

    pub meets_place : (meets_in g.a from to r.depth sides i k ≡ true) ↔ SamePlace g rep r i k
    meets_place = go (ℕ_discrete (a_at g i) 1) (ℕ_discrete (a_at g k) 1)
      where
        near : a_at g i ≡ 1 → meets_in g.a from to r.depth sides i k ≡ eqb (a_at g k) 1
        near e = unfold meets_in in rw (eq-eqb (a_at g i) 1 e)

        mixed : a_at g i ≢ 1 → a_at g k ≡ 1 → meets_in g.a from to r.depth sides i k ≡ false
        mixed n e = unfold meets_in in rw (ne_eqb (a_at g i) 1 n, eq-eqb (a_at g k) 1 e)

        go : Dec (a_at g i ≡ 1) → Dec (a_at g k ≡ 1) → (meets_in g.a from to r.depth sides i k ≡ true) ↔ SamePlace g rep r i k
        go (yes e) (yes f) = ((λ h. inl (e, f)), λ h. near e ∙ eq-eqb (a_at g k) 1 f)
        go (yes e) (no f) = ((λ h. absurd (f (eqb-true (a_at g k) 1 (sym (near e) ∙ h)))), λ h. absurd (none h))
          where
            none : SamePlace g rep r i k → ⊥
            none (inl p) = f p.1
            none (inr p) = p.0 e
        go (no e) (yes f) = ((λ h. absurd (true≢false (sym h ∙ mixed e f))), λ h. absurd (none h))
          where
            none : SamePlace g rep r i k → ⊥
            none (inl p) = e p.0
            none (inr p) = p.1 f
        go (no e) (no f) = ((λ h. inr (e, f, (far_meets e f).0 h)), λ h. back h)
          where
            back : SamePlace g rep r i k → meets_in g.a from to r.depth sides i k ≡ true
            back (inl p) = absurd (e p.0)
            back (inr p) = (far_meets e f).1 p.2

  -- ---- what the loops rest on

  module _ (den : ℕ) (d : ℕ → ℤ) (K : ℕ) (c : List ℕ) (off : Shifted (scaled_by den (network g)) d K (entry c)) (l : Minimal (scaled_by den (network g)) d (bytes w))
      (none : ℕ) (size : (k : ℕ) → k < g.m → (1 ≤ get_or c k 0) × (get_or c k 0 < none)) where
    at_end : (v k : ℕ) → k < g.m → on_in g.a g.b v k ≡ touches (scaled_by den (network g)) v (suc k)
    at_end v k h = rw (network_a g k h, network_b g k h)

    early : (k : ℕ) → suc k ∈ up_to g.m → k < g.m
    early k h = (in_up_to g.m (suc k) h).1

    pub context : Context (scaled_by den (network g)) (entry c) (bytes w) none (InPlace g w) (OutPlace g w) (meets_in g.a from to r.depth sides) (on_in g.a g.b)
    unfolding network
    context = record {
      pair = λ i k hi hk h. record {
        first = of_edge g.m i hi.early;
        second = of_edge g.m k hk.early;
        inside = eq-eqb (get_or w i 0) 1 hi.chosen;
        outside = ne_eqb (get_or w k 0) 1 hk.other;
        may = (swap_scaled den (network g) (bytes w) (suc i) (suc k)).1 (swaps_may g vg w o rep r rooted i k hi.early hk.early hi.chosen hk.other
            (record { loose = hi.free; allowed = hk.free; place = (meets_place i k hi hk).0 h }));
      };
      back = back;
      cheap = λ f h p. omega (
        arith,
        off f p.first,
        off h p.second,
        le_parts (charge (scaled_by den (network g)) d f) (charge (scaled_by den (network g)) d h)
            (minimal_charges (scaled_by den (network g)) (valid_scaled den (network g) (network-valid g vg)) d (bytes w) l f h p.first p.second p.inside
            p.outside p.may),
      );
      size_in = λ i h. size i h.early;
      size_out = λ k h. size k h.early;
      end_in = λ v i h. at_end v i h.early;
      end_out = λ v k h. at_end v k h.early;
    }
      where
        back : (i k : ℕ) → Pair (scaled_by den (network g)) (bytes w) (suc i) (suc k)
            → InPlace g w i × OutPlace g w k × (meets_in g.a from to r.depth sides i k ≡ true)
        back i k p = (hi, hk, (meets_place i k hi hk).1 s.place)
          where
            wi : get_or w i 0 ≡ 1
            wi = eqb-true (get_or w i 0) 1 p.inside

            wk : get_or w k 0 ≢ 1
            wk e = true≢false (sym (eq-eqb (get_or w k 0) 1 e) ∙ p.outside)

            s : Swaps g rep r i k
            s = may_swaps g vg w o rep r rooted i k (early i p.first) (early k p.second) wi wk
                ((swap_scaled den (network g) (bytes w) (suc i) (suc k)).0 p.may)

            hi : InPlace g w i
            hi = record { early = early i p.first; chosen = wi; free = s.loose }

            hk : OutPlace g w k
            hk = record { early = early k p.second; other = wk; free = s.allowed }
