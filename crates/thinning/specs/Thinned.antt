-- The network of the kept edges (`thin`), where every edge that is not kept is excluded: a set of edges is a 1-tree of the network exactly
-- where its kept edges, in their new numbers, are one of the thin network; bounds are the same, and so is which of two comes first. So
-- the least 1-tree of the one is that of the other.
use Rattle.std.specs.Prelude.{◌≡◌, refl, Bool, false, ◌&&◌, ℕ, ◌+◌, length, ℤ, pos, ◌-ℤ◌, ◌*ℤ◌}
use Rattle.std.proofs.Math.Path.{sym, ap, subst}
use Rattle.std.proofs.Common.{◌∙◌}
use Rattle.std.proofs.Math.Bool.{true, not}
use mathlib.Core.List.{List, map}
use Rattle.std.proofs.Math.Dec.{eqb}
use Rattle.std.proofs.lemmas.List.{length-map}
use Rattle.lists.specs.Bools.{and_no_left}
use Rattle.lists.specs.Members.{◌∈◌, in_map, of_map}
use Rattle.lists.specs.Select.{select}
use Rattle.lists.specs.Numbers.{up_to}
use Rattle.integers.specs.Sums.{sum_z, sum_map}
use Rattle.graph.specs.Network.{Network, required, excluded}
use Rattle.spanning.specs.Walks.{Walk, stay, along, back}
use Rattle.tree_theory.specs.OneTree.{Edges, OneTree, Least, others, at_one, away, charge, bound}
use Rattle.tree_theory.specs.Agree.{Agree, tree_agree, bound_agree, lacks_second}
use Rattle.tree_theory.specs.Enumeration.{Tree, no_tree, a_tree, least_tree}
use Rattle.tree_theory.specs.LeastTree.{Right, tree_right, tree_found, tree_missing}
use Rattle.thinning.specs.Ranks.{rank, nth, rank_in, nth_of, nth_in, nth-kept, rank_back, Only, down, select-thin, lacks_thin}

-- the kept edges and no other, in their order
abbrev pub thin : Edges → Network → Network
thin c g =
    record {
      n = g.n;
      m = rank c g.m;
      a = λ j. g.a (nth c g.m j);
      b = λ j. g.b (nth c g.m j);
      cost = λ j. g.cost (nth c g.m j);
      mark = λ j. g.mark (nth c g.m j);
    }

-- a set of new numbers, in old ones
abbrev pub spread : Edges → Edges → Edges
spread c r k = c k && r (rank c k)

-- ---- walks

module _ (p q : ℕ → ℕ) (f : ℕ → ℕ) where
  walk_up : {es : List ℕ} {u v : ℕ} → Walk (λ j. p (f j)) (λ j. q (f j)) es u v → Walk p q (map f es) u v
  walk_up stay = stay
  walk_up {es} (along e m h) = along (f e) (in_map f e es m) (walk_up h)
  walk_up {es} (back e m h) = back (f e) (in_map f e es m) (walk_up h)

  walk-down : {es : List ℕ} {u v : ℕ} → Walk p q (map f es) u v → Walk (λ j. p (f j)) (λ j. q (f j)) es u v
  walk-down stay = stay
  walk-down {es} {v = v} (along e m h) = go (of_map f e es m) (walk-down h)
    where
      go : (j : ℕ) × (j ∈ es) × (e ≡ f j) → Walk (λ j. p (f j)) (λ j. q (f j)) es (q e) v → Walk (λ j. p (f j)) (λ j. q (f j)) es (p e) v
      go r w =
          subst (λ (x : ℕ). Walk (λ j. p (f j)) (λ j. q (f j)) es (p x) v) (sym r.2)
          (along r.0 r.1 (subst (λ (x : ℕ). Walk (λ j. p (f j)) (λ j. q (f j)) es (q x) v) r.2 w))
  walk-down {es} {v = v} (back e m h) = go (of_map f e es m) (walk-down h)
    where
      go : (j : ℕ) × (j ∈ es) × (e ≡ f j) → Walk (λ j. p (f j)) (λ j. q (f j)) es (p e) v → Walk (λ j. p (f j)) (λ j. q (f j)) es (q e) v
      go r w =
          subst (λ (x : ℕ). Walk (λ j. p (f j)) (λ j. q (f j)) es (q x) v) (sym r.2)
          (back r.0 r.1 (subst (λ (x : ℕ). Walk (λ j. p (f j)) (λ j. q (f j)) es (p x) v) r.2 w))

-- ---- sets of kept edges

module _ (c : Edges) (g : Network) where
  -- every edge that is not kept is excluded
  abbrev pub RestExcluded : Type 0
  RestExcluded = (k : ℕ) → k ∈ up_to g.m → c k ≡ false → g.mark k ≡ excluded

  pub spread_only : (r : Edges) → Only c g.m (spread c r)
  spread_only r k i e = and_no_left (c k) (r (rank c k)) e

  pub spread-down : (r : Edges) → Agree (rank c g.m) (down c g.m (spread c r)) r
  spread-down r j i = rw (nth-kept c g.m j i, rank_back c g.m j i)

  pub tree_only : RestExcluded → (t : Edges) → OneTree g t → Only c g.m t
  tree_only rest t o k i e = o.avoids k i (rest k i e)

  module _ (t : Edges) (only : Only c g.m t) where
    at_one-thin : at_one g t ≡ map (nth c g.m) (at_one (thin c g) (down c g.m t))
    unfolding at_one
    at_one-thin = select-thin c g.m (λ k. t k && eqb (g.a k) 1) (λ k i e. and_no_left (t k) _ (only k i e))

    away-thin : away g t ≡ map (nth c g.m) (away (thin c g) (down c g.m t))
    unfolding away
    away-thin = select-thin c g.m (λ k. t k && not (eqb (g.a k) 1)) (λ k i e. and_no_left (t k) _ (only k i e))

    pub bound-thin : (d : ℕ → ℤ) → bound g d t ≡ bound (thin c g) d (down c g.m t)
    unfolding bound charge
    bound-thin d =
        ap (λ (z : ℤ). z -ℤ (pos 2 *ℤ sum_z d (up_to g.n)))
        (ap (sum_z (charge g d)) (select-thin c g.m t only)
        ∙ sum_map (charge g d) (nth c g.m) (select (down c g.m t) (up_to (rank c g.m))))

    size-at_one : length (at_one g t) ≡ length (at_one (thin c g) (down c g.m t))
    size-at_one = ap length at_one-thin ∙ length-map (at_one (thin c g) (down c g.m t)) (nth c g.m)

    size-away : length (away g t) ≡ length (away (thin c g) (down c g.m t))
    size-away = ap length away-thin ∙ length-map (away (thin c g) (down c g.m t)) (nth c g.m)

    pub tree-down : OneTree g t → OneTree (thin c g) (down c g.m t)
    unfolding others
    tree-down o = record {
      two = sym size-at_one ∙ o.two;
      rest = ap (λ (z : ℕ). 2 + z) (sym size-away) ∙ o.rest;
      joined = λ u v i j.
          walk-down g.a g.b (nth c g.m) (subst (λ (es : List ℕ). Walk g.a g.b es u v) away-thin (o.joined u v i j));
      keeps = λ j i e. o.keeps (nth c g.m j) (nth_in c g.m j i) e;
      avoids = λ j i e. o.avoids (nth c g.m j) (nth_in c g.m j i) e;
    }

    pub tree-up : RestExcluded → OneTree (thin c g) (down c g.m t) → OneTree g t
    unfolding others
    tree-up rest o = record {
      two = size-at_one ∙ o.two;
      rest = ap (λ (z : ℕ). 2 + z) size-away ∙ o.rest;
      joined = λ u v i j.
          subst (λ (es : List ℕ). Walk g.a g.b es u v) (sym away-thin) (walk_up g.a g.b (nth c g.m) (o.joined u v i j));
      keeps = λ k i e. keep k i e (c k) refl;
      avoids = λ k i e. avoid k i e (c k) refl;
    }
      where
        at : (k : ℕ) → k ∈ up_to g.m → c k ≡ true → nth c g.m (rank c k) ≡ k
        at k i e = nth_of c g.m k i e

        keep : (k : ℕ) → k ∈ up_to g.m → g.mark k ≡ required → (b : Bool) → c k ≡ b → t k ≡ true
        keep k i e true f =
            ap t (sym (at k i f)) ∙ o.keeps (rank c k) (rank_in c g.m k i f) (ap g.mark (at k i f) ∙ e)
        keep k i e false f = let z : required ≡ excluded = sym e ∙ rest k i f in cc

        avoid : (k : ℕ) → k ∈ up_to g.m → g.mark k ≡ excluded → (b : Bool) → c k ≡ b → t k ≡ false
        avoid k i e true f =
            ap t (sym (at k i f)) ∙ o.avoids (rank c k) (rank_in c g.m k i f) (ap g.mark (at k i f) ∙ e)
        avoid k i e false f = only k i f

-- ---- the least 1-tree

module _ (c : Edges) (g : Network) (rest : RestExcluded c g) (r : Edges) where
  pub spread-tree : OneTree (thin c g) r → OneTree g (spread c r)
  spread-tree o =
      tree-up c g (spread c r) (spread_only c g r) rest
      (tree_agree (thin c g) (down c g.m (spread c r)) r (spread-down c g r) o)

  pub spread-bound : (d : ℕ → ℤ) → bound g d (spread c r) ≡ bound (thin c g) d r
  spread-bound d =
      bound-thin c g (spread c r) (spread_only c g r) d
      ∙ bound_agree (thin c g) (down c g.m (spread c r)) r (spread-down c g r) d

  -- THE LEAST 1-TREE IS FOUND AMONG THE KEPT EDGES
  pub spread_least : (d : ℕ → ℤ) → Least (thin c g) d r → Least g d (spread c r)
  spread_least d l = record {
    tree = spread-tree l.tree;
    least = λ s o.
        rw (spread-bound d, bound-thin c g s (tree_only c g rest s o) d)
        (l.least (down c g.m s) (tree-down c g s (tree_only c g rest s o) o));
    first = λ s o e.
        let only = tree_only c g rest s o in
        lacks_thin c g.m s (spread c r) only (spread_only c g r)
        ∙ lacks_second (rank c g.m) (down c g.m s) (down c g.m (spread c r)) r (spread-down c g r)
        ∙ l.first (down c g.m s) (tree-down c g s only o) (sym (bound-thin c g s only d) ∙ e ∙ spread-bound d);
  }

-- what the tree in new numbers says of the tree in old ones, of m edges
abbrev pub Spread : Edges → ℕ → Tree → Tree → Type 0
Spread c m no_tree x = (x ≡ no_tree)
Spread c m (a_tree b r) x = (t : Edges) × (x ≡ a_tree b t) × Agree m t (spread c r)

-- THE TREE OF THE KEPT EDGES IS THE TREE
pub least-thin : (c : Edges) (g : Network) → RestExcluded c g → (d : ℕ → ℤ) → Spread c g.m (least_tree (thin c g) d) (least_tree g d)
least-thin c g rest d = go (least_tree (thin c g) d) (tree_right (thin c g) d)
  where
    go : (x : Tree) → Right (thin c g) d x → Spread c g.m x (least_tree g d)
    go no_tree h = tree_missing g d (λ s o. h (down c g.m s) (tree-down c g s (tree_only c g rest s o) o))
    go (a_tree b r) h =
        let q = tree_found g d (spread c r) (spread_least c g rest r d h.1) in
        (q.0, q.1 ∙ ap (λ (z : ℤ). a_tree z q.0) (spread-bound c g rest r d ∙ sym h.0), q.2)
