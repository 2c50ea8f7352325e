-- A 1-tree's far edges, merged along the required ones and hung from the lists of the free ones, are a rooted tree: every label hangs,
-- since a 1-tree connects every vertex to vertex 2. Assumes nothing.
use Rattle.std.specs.Prelude.{◌≡◌, refl, ◌≢◌, false, List, get_or}
use Rattle.std.proofs.Common.{◌∙◌, sym, subst, inl, inr}
use Rattle.std.proofs.Math.Path.{ap}
use Rattle.std.proofs.Math.Bool.{true}
use Prim.Native.Nat.{ℕ, zero, suc, ◌-◌, ◌<◌, ◌≤◌, min}
use native.Mathlib.Omega.{arith}
use Rattle.std.proofs.Math.Decide.{ℕ_discrete}
use borrow.Author.Tests.{eqb-true, eqb-false, eq-eqb, ne_eqb}
use Rattle.lists.specs.Members.{◌∈◌}
use Rattle.lists.specs.Select.{select_in, in_select}
use Rattle.lists.specs.Numbers.{up_to}
use Rattle.graph.specs.declared.Graph.{Graph}
use Rattle.graph.specs.Network.{network}
use Rattle.graph.specs.Places.{network_a, network_b}
use Rattle.graph.specs.Valid as value
use Rattle.spanning.specs.Walks.{Walk, walk_trans, walk_sym, walk_respects, label-walk}
use Rattle.spanning.specs.Trees.{minus_apart}
use Rattle.tree_theory.specs.OneTree.{OneTree, away}
use Rattle.tree_theory.specs.Valid.{is_near, is_excluded, needed, far, far_in, in_far, in_others, two_in, distinct-far, far_within, others_in}
use Rattle.tree_theory.specs.Optimal.Link.{Parts, to_parts, away_is}
use Rattle.tree_theory.specs.Arrays.{bytes, edge_of, of_edge, needed-at, excluded_at, network-valid}
use Rattle.tree_theory.specs.Merges.{Merges}
use Rattle.swaps.specs.Grid.{cell}
use Rattle.swaps.specs.TreeTable.{Lists, Inner, End, Ends, TwoEnds, listed}
use Rattle.swaps.specs.Hanging.{Shape, Child}
use Rattle.swaps.specs.Visiting.{Rooting, Rows, Leads, Joined, opposite, Hung, Among, Complete, parent_at, depth_at, edge_at}
use Rattle.swaps.specs.Rooted.{Rooted, Joins, Trip, tied_trip}

-- what the lists say
abbrev pub shape : List ℕ → List ℕ → Shape
shape parent depth = record { parent = λ v. get_or parent v 0; depth = λ v. get_or depth v 0 }

-- the edge above a vertex
abbrev pub edge_over : Rooting → ℕ → ℕ
edge_over r v = suc (edge_at r v)

-- the label of a vertex
abbrev pub label_of : List ℕ → ℕ → ℕ
label_of rep v = get_or rep v 0

-- the lists have the labels of the edges' ends
pub record Labelled (g : Graph) (rep from to : List ℕ) : Type 0 where
  pub one : (k : ℕ) → k < g.m → get_or from k 0 ≡ label_of rep (get_or g.a k 0)
  pub two : (k : ℕ) → k < g.m → get_or to k 0 ≡ label_of rep (get_or g.b k 0)

-- a rooted tree in arrays, of the edges that w has
abbrev pub RootedIn : Graph → List ℕ → List ℕ → Rooting → Type 0
RootedIn g w rep r = Rooted (network g) (bytes w) (label_of rep) (shape r.parent r.depth) (edge_over r)

both_hang : (x y : ℕ) → (1 ≤ x → 1 ≤ y) → (1 ≤ y → 1 ≤ x) → min 1 x ≡ min 1 y
both_hang zero zero f q = refl
both_hang zero (suc y) f q = absurd (let z : 1 ≤ 0 = q (omega arith) in omega arith)
both_hang (suc x) zero f q = absurd (let z : 1 ≤ 0 = f (omega arith) in omega arith)
both_hang (suc x) (suc y) f q = omega arith

-- the lists of edges with two ends can be walked
pub walkable : (g : Graph) (w from to : List ℕ) (t : List (List ℕ)) → value.Valid g → Ends g w from to → Lists g w from to t
    → Rows from to g.n t
unfolding cell
walkable g w from to t v ends table = record { leading = λ x a i f. leads x (table.only x i a f); stops = table.stops }
  where
    leads : (x : ℕ) {i : ℕ} → (k : ℕ) × (k < g.m) × (i ≡ suc k) × Inner g w k × End from to k x → Leads from to g.n x (i - 1)
    leads x q = subst (λ (k : ℕ). Leads from to g.n x k) (omega (arith, q.2)) (go q.4)
      where
        e : TwoEnds g.n from to q.0
        e = ends q.0 q.1 q.3

        go : End from to q.0 x → Leads from to g.n x q.0
        go (inl p) = record {
          room = omega (arith, q.1, v.few);
          joins = inl (p, omega (arith, p));
          among = (omega (arith, p, e.low'), omega (arith, p, e.high'));
        }
        go (inr p) = record {
          room = omega (arith, q.1, v.few);
          joins = inr (omega (arith, p), p);
          among = (omega (arith, p, e.low), omega (arith, p, e.high));
        }

-- a mark that is neither of the two others
pub free_mark : (x : ℕ) → x ≤ 2 → x ≢ 1 → x ≢ 2 → x ≡ 0
free_mark x h a b = omega arith

pub parts : (g : Graph) → value.Valid g → (w : List ℕ) → OneTree (network g) (bytes w) → Parts (network g) (bytes w)
parts g v w o = to_parts (network g) (network-valid g v) (bytes w) o

module _ (g : Graph) (v : value.Valid g) (w : List ℕ) (o : OneTree (network g) (bytes w)) (rep : List ℕ) (labels : Merges g rep)
    (from to : List ℕ) (labelled : Labelled g rep from to) where
  -- required edges are in the set
  kept : (e : ℕ) → e ∈ far (network g) → needed (network g) e ≡ true → bytes w e ≡ true
  kept e m n = (parts g v w o).keeps e (far_in (network g) e m).0 n

  -- a listed edge is a free far edge of the set
  listed_in : (k : ℕ) → k < g.m → Inner g w k → suc k ∈ far (network g)
  unfolding network
  listed_in k h i = in_far (network g) (suc k) (of_edge g.m k h)
      (ne_eqb ((network g).a (suc k)) 1 (λ f. i.far (sym (network_a g k h) ∙ f)))
      (excluded_at g k h v ∙ ne_eqb (get_or g.mark k 0) 2 (λ f. omega (arith, i.free)))

  listed_free : (k : ℕ) → k < g.m → Inner g w k → needed (network g) (suc k) ≡ false
  listed_free k h i = needed-at g k h ∙ ne_eqb (get_or g.mark k 0) 1 (λ f. omega (arith, i.free))

  -- so its ends have two labels: required edges would connect them besides
  pub two_ends : Ends g w from to
  two_ends k h i = record {
    low = omega (arith, labelled.one k h, labels.inside (get_or g.a k 0) two (omega (arith, e.less, e.to, v.high)));
    high = omega (arith, labelled.one k h, labels.below (get_or g.a k 0) (omega (arith, e.less, e.to, v.high)), e.less, e.to);
    low' = omega (arith, labelled.two k h, labels.inside (get_or g.b k 0) (omega (arith, two, e.less)) (omega (arith, e.to, v.high)));
    high' = omega (arith, labelled.two k h, labels.below (get_or g.b k 0) (omega (arith, e.to, v.high)), e.to);
    apart = λ f. minus_apart (network g).a (network g).b (far (network g)) (distinct-far (network g)) (bytes w) (suc k) (listed_in k h i)
        (eq-eqb (get_or w k 0) 1 i.chosen) (parts g v w o).tree.forest
        ((label-walk (network g).a (network g).b _ ((network g).a (suc k)) ((network g).b (suc k))).1 (circle f));
  }
    where
      e : value.EdgeAt g k
      e = v.each k h

      two : 2 ≤ get_or g.a k 0
      two = let f = i.far in omega (arith, e.from)

      trip : (x : ℕ) → x < 21 → Trip (network g) (bytes w) (suc k) x (label_of rep x)
      trip x l = tied_trip (network g) (bytes w) kept (suc k) (listed_free k h i) (labels.linked x l)

      circle : get_or from k 0 ≡ get_or to k 0 → Trip (network g) (bytes w) (suc k) ((network g).a (suc k)) ((network g).b (suc k))
      circle f = rw (network_a g k h, network_b g k h) (walk_trans (network g).a (network g).b
          (rw (sym (labelled.one k h) ∙ f ∙ labelled.two k h) at (trip (get_or g.a k 0) (omega (arith, e.less, e.to, v.high))))
          (walk_sym (network g).a (network g).b (trip (get_or g.b k 0) (omega (arith, e.to, v.high)))))

  module _ (t : List (List ℕ)) (table : Lists g w from to t) (r : Rooting) (h : Hung from to t g.n r)
      (complete : Complete from to t r) where
    -- a far edge stands in the arrays
    far_at_lem : (e : ℕ) → e ∈ far (network g) → (k : ℕ) × (k < g.m) × (e ≡ suc k) × (get_or g.a k 0 ≢ 1) × (get_or g.mark k 0 ≢ 2)
    unfolding network
    far_at_lem e m = (
      q.0,
      q.1,
      q.2,
      (λ f. eqb-false ((network g).a e) 1 j.1 (ap (network g).a q.2 ∙ network_a g q.0 q.1 ∙ f)),
      eqb-false (get_or g.mark q.0 0) 2 (sym (excluded_at g q.0 q.1 v) ∙ rw q.2 at j.2),
    )
      where
        j : (e ∈ up_to g.m) × (is_near (network g) e ≡ false) × (is_excluded ((network g).mark e) ≡ false)
        j = far_in (network g) e m

        q : (k : ℕ) × (k < g.m) × (e ≡ suc k)
        q = edge_of g.m e j.0

    -- with one end of a listed edge hangs the other
    across : (k x y : ℕ) → k < g.m → Inner g w k → 1 ≤ x → End from to k x → opposite from to x k ≡ y → 1 ≤ depth_at r x → 1 ≤ depth_at r y
    across k x y hk i lx e f d =
        subst (λ (z : ℕ). 1 ≤ depth_at r z) (ap (opposite from to x) (omega (arith, s.1)) ∙ f)
        (complete x s.0 d (λ j l. table.packed x s.0 j lx (λ z. omega (arith, s.1)) l))
      where
        s : (j : ℕ) × (listed t x j ≡ suc k)
        s = table.all k hk i x e

    reached : (u : ℕ) → Among g.n u → 1 ≤ depth_at r (label_of rep u)
    unfolding network
    reached u i = omega (
      arith,
      h.root,
      ap (depth_at r) two,
      walk_respects (network g).a (network g).b (λ x. min 1 (depth_at r (label_of rep x))) keeps walk,
    )
      where
        two : label_of rep 2 ≡ 2
        two = omega (arith, labels.below 2 (omega arith), labels.inside 2 (omega arith) (omega arith))

        walk : Walk (network g).a (network g).b (away (network g) (bytes w)) 2 u
        walk = o.joined 2 u (two_in (network g) (network-valid g v)) (in_others (network g) u i.0 i.1)

        keeps : (e : ℕ) → e ∈ away (network g) (bytes w)
            → min 1 (depth_at r (label_of rep ((network g).a e))) ≡ min 1 (depth_at r (label_of rep ((network g).b e)))
        keeps e m = go (far_at_lem e j.0)
          where
            j : (e ∈ far (network g)) × (bytes w e ≡ true)
            j = select_in (bytes w) (far (network g)) e
                (subst (λ (l : List ℕ). e ∈ l) (sym (away_is (network g) (bytes w) (parts g v w o).avoids)) m)

            go : (k : ℕ) × (k < g.m) × (e ≡ suc k) × (get_or g.a k 0 ≢ 1) × (get_or g.mark k 0 ≢ 2)
                → min 1 (depth_at r (label_of rep ((network g).a e))) ≡ min 1 (depth_at r (label_of rep ((network g).b e)))
            go q = rw (q.2, network_a g q.0 q.1, network_b g q.0 q.1) (by (ℕ_discrete (get_or g.mark k 0) 1))
              where
                k : ℕ
                k = q.0

                a : ℕ
                a = label_of rep (get_or g.a q.0 0)

                b : ℕ
                b = label_of rep (get_or g.b q.0 0)

                a_is : get_or from q.0 0 ≡ label_of rep (get_or g.a q.0 0)
                a_is = labelled.one q.0 q.1

                b_is : get_or to q.0 0 ≡ label_of rep (get_or g.b q.0 0)
                b_is = labelled.two q.0 q.1

                by : Dec (get_or g.mark q.0 0 ≡ 1)
                    → min 1 (depth_at r (label_of rep (get_or g.a q.0 0))) ≡ min 1 (depth_at r (label_of rep (get_or g.b q.0 0)))
                by (yes f) = ap (λ (z : ℕ). min 1 (depth_at r z)) (labels.joined q.0 q.1 q.3 f)
                by (no f) = both_hang (depth_at r a) (depth_at r b)
                    (across k a b q.1 inner (omega (arith, ends.low, a_is)) (inl a_is) (omega (arith, a_is, b_is)))
                    (across k b a q.1 inner (omega (arith, ends.low', b_is)) (inr b_is) (omega (arith, a_is, b_is)))
                  where
                    inner : Inner g w q.0
                    inner = record {
                      chosen = eqb-true (get_or w q.0 0) 1 (subst (λ (x : ℕ). bytes w x ≡ true) q.2 j.1);
                      free = free_mark (get_or g.mark q.0 0) (v.each q.0 q.1).known f q.4;
                      far = q.3;
                    }

                    ends : TwoEnds g.n from to q.0
                    ends = two_ends q.0 q.1 inner

    -- the edge above a label stands in the list of its parent
    edge_in : (u : ℕ) → Child (shape r.parent r.depth) u
        → (edge_at r u < g.m) × Inner g w (edge_at r u) × Joined from to (edge_at r u) (parent_at r u) u
    edge_in u i = subst (λ (k : ℕ). (k < g.m) × Inner g w k × Joined from to (edge_at r u) (parent_at r u) u)
        (omega (arith, e.0.1, q.2)) (q.1, q.3, e.1)
      where
        e : ((j : ℕ) × (listed t (parent_at r u) j ≡ suc (edge_at r u))) × Joined from to (edge_at r u) (parent_at r u) u
        e = h.edge u i.0 i.1

        q : (k : ℕ) × (k < g.m) × (listed t (parent_at r u) e.0.0 ≡ suc k) × Inner g w k × End from to k (parent_at r u)
        q = table.only (parent_at r u) e.0.0 (omega (arith, (h.inside (parent_at r u) (h.seen u i.0 i.1)).0))
            (λ z. omega (arith, e.0.1))

    ends_at : (u : ℕ) → Child (shape r.parent r.depth) u
        → Joins (λ e. label_of rep ((network g).a e)) (λ e. label_of rep ((network g).b e)) (edge_over r u) u (parent_at r u)
    ends_at u i = go (edge_in u i).2
      where
        hk : edge_at r u < g.m
        hk = (edge_in u i).0

        a_is : label_of rep ((network g).a (edge_over r u)) ≡ get_or from (edge_at r u) 0
        a_is = ap (label_of rep) (network_a g (edge_at r u) hk) ∙ sym (labelled.one (edge_at r u) hk)

        b_is : label_of rep ((network g).b (edge_over r u)) ≡ get_or to (edge_at r u) 0
        b_is = ap (label_of rep) (network_b g (edge_at r u) hk) ∙ sym (labelled.two (edge_at r u) hk)

        go : Joined from to (edge_at r u) (parent_at r u) u
            → Joins (λ e. label_of rep ((network g).a e)) (λ e. label_of rep ((network g).b e)) (edge_over r u) u (parent_at r u)
        go (inl q) = inr (a_is ∙ q.0, b_is ∙ q.1)
        go (inr q) = inl (a_is ∙ q.0, b_is ∙ q.1)

    pub rooted : RootedIn g w rep r
    unfolding network
    rooted = record {
      hangs = record {
        root = h.root;
        room = λ u i. omega (arith, (h.inside u i).1, v.high);
        inside = λ u i. let q = h.seen u i.0 i.1 in ((h.inside (parent_at r u) q).0, q);
        deep = λ u i. h.deep u i.0 i.1;
      };
      whole = λ u i. (labels.inside u i.0 (omega (arith, i.1, v.high)), reached u i);
      only = λ u i. (h.inside u i).1;
      ends = ends_at;
      tree = λ u i. let q = edge_in u i in in_select (bytes w) (far (network g)) (edge_over r u) (listed_in (edge_at r u) q.0 q.1)
          (eq-eqb (get_or w (edge_at r u) 0) 1 q.1.chosen);
      free = λ u i. let q = edge_in u i in listed_free (edge_at r u) q.0 q.1;
      merged = merged;
      linked = λ u i. labels.linked u (omega (arith, i.1, v.high));
      others = λ e m. let q = far_within (network g) (network-valid g v) e m in (
        others_in (network g) ((network g).a e) q.0,
        others_in (network g) ((network g).b e) q.1,
      );
      keeps = kept;
      forest = (parts g v w o).tree.forest;
    }
      where
        merged : (e : ℕ) → e ∈ far (network g) → needed (network g) e ≡ true → label_of rep ((network g).a e) ≡ label_of rep ((network g).b e)
        merged e m n = go (far_at_lem e m)
          where
            go : (k : ℕ) × (k < g.m) × (e ≡ suc k) × (get_or g.a k 0 ≢ 1) × (get_or g.mark k 0 ≢ 2)
                → label_of rep ((network g).a e) ≡ label_of rep ((network g).b e)
            go q = rw (q.2, network_a g q.0 q.1, network_b g q.0 q.1) (labels.joined q.0 q.1 q.3
                (eqb-true (get_or g.mark q.0 0) 1 (sym (needed-at g q.0 q.1) ∙ rw q.2 at n)))
