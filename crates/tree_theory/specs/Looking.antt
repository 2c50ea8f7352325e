-- At how many edges the loop looks is one number, and counting shows it: edges connect the vertices other than vertex 1 exactly when their rank is two
-- less than the number of all vertices. Assumes nothing.
use Rattle.std.specs.Prelude.{◌≡◌, refl, ◌⊎◌, ◌&&◌, List, [], ◌∷◌, ◌++◌, ℕ, suc, ◌+◌, ◌<◌, ◌≤◌, length, take, ℤ, eqb}
use Rattle.std.proofs.Common.{sym, ap, ◌∙◌, subst, inl, inr, arith}
use Rattle.std.proofs.Math.Bool.{not}
use Rattle.std.proofs.Math.Decide.{dec_le}
use Rattle.std.proofs.lemmas.Bool.{not-true}
use Rattle.lists.specs.Bools.{and_both}
use Rattle.lists.specs.Members.{◌∈◌, in_either, take_in}
use Rattle.lists.specs.Select.{select_in}
use Rattle.lists.specs.Numbers.{up_to}
use Rattle.integers.specs.Parts.{lt_parts}
use Rattle.graph.specs.Network.{Network}
use Rattle.spanning.specs.Components.{rank, Within}
use Rattle.spanning.specs.Connected.{joined_rank, rank_joined}
use Rattle.tree_theory.specs.OneTree.{Edges, others, away}
use Rattle.tree_theory.specs.Valid.{Valid, is_free, is_required, two_in, distinct-others, length-others, far_ends}
use Rattle.tree_theory.specs.Looked.{Connected, required_among, Before, Sorted, InOrder, Looked}

-- ---- one order, one number

module _ (g : Network) (d : ℕ → ℤ) where
  before_asym : (j k : ℕ) → Before g d j k → Before g d k j → ⊥
  before_asym j k (inl h) (inl i) = omega (arith, lt_parts _ _ h, lt_parts _ _ i)
  before_asym j k (inl h) (inr i) = omega (arith, lt_parts _ _ (rw i.0 at h))
  before_asym j k (inr h) (inl i) = omega (arith, lt_parts _ _ (rw h.0 at i))
  before_asym j k (inr h) (inr i) = omega arith

  -- sorted lists of the same edges are the same
  sorted_one : (xs ys : List ℕ) → Sorted g d xs → Sorted g d ys → ((k : ℕ) → k ∈ xs → k ∈ ys) → ((k : ℕ) → k ∈ ys → k ∈ xs) → xs ≡ ys
  sorted_one [] [] s t there back = refl
  sorted_one [] (y ∷ ys) s t there back = absurd (back y (inl refl))
  sorted_one (x ∷ xs) [] s t there back = absurd (there x (inl refl))
  sorted_one (x ∷ xs) (y ∷ ys) s t there back = go first (sorted_one xs ys s.1 t.1)
    where
      first : x ≡ y
      first = at (there x (inl refl)) (back y (inl refl))
        where
          at : (x ≡ y) ⊎ (x ∈ ys) → (y ≡ x) ⊎ (y ∈ xs) → x ≡ y
          at (inl e) m = e
          at (inr i) (inl e) = sym e
          at (inr i) (inr m) = absurd (before_asym x y (s.0 y m) (t.0 x i))

      go : x ≡ y → (((k : ℕ) → k ∈ xs → k ∈ ys) → ((k : ℕ) → k ∈ ys → k ∈ xs) → xs ≡ ys) → x ∷ xs ≡ y ∷ ys
      go e below = rw (e, below (λ k m. left k m (there k (inr m))) (λ k m. right k m (back k (inr m))))
        where
          left : (k : ℕ) → k ∈ xs → (k ≡ y) ⊎ (k ∈ ys) → k ∈ ys
          left k m (inr i) = i
          left k m (inl f) =
              absurd (before_asym x x (subst (Before g d x) (f ∙ sym e) (s.0 k m)) (subst (Before g d x) (f ∙ sym e) (s.0 k m)))

          right : (k : ℕ) → k ∈ ys → (k ≡ x) ⊎ (k ∈ xs) → k ∈ xs
          right k m (inr i) = i
          right k m (inl f) =
              absurd (before_asym y y (subst (Before g d y) (f ∙ e) (t.0 k m)) (subst (Before g d y) (f ∙ e) (t.0 k m)))

  -- THE NUMBER IS FIXED
  pub looked_one : (p q : ℕ) → Looked g d p → Looked g d q → p ≡ q
  looked_one p q x y = go (dec_le (suc p) q) (dec_le (suc q) p)
    where
      same : x.order ≡ y.order
      same = sorted_one x.order y.order x.ordered.sorted y.ordered.sorted
          (λ k m. y.ordered.all k (x.ordered.only k m)) (λ k m. x.ordered.all k (y.ordered.only k m))

      go : Dec (p < q) → Dec (q < p) → p ≡ q
      go (yes h) m =
          absurd (y.shortest p h (rw same at (x.enough (omega (arith, ap length same, y.within)))))
      go (no h) (yes i) =
          absurd (x.shortest q i (rw (sym same) at (y.enough (omega (arith, ap length same, x.within)))))
      go (no h) (no i) = omega arith

-- ---- by counting

module _ (g : Network) (vg : Valid g) where
  -- the edges of a set among the other vertices
  pub away_ends : (t : Edges) (k : ℕ) → k ∈ away g t → (g.a k ∈ others g) × (g.b k ∈ others g)
  unfolding away
  away_ends t k m =
      let i = select_in (λ j. t j && not (eqb (g.a j) 1)) (up_to g.m) k m in
      far_ends g vg k i.0 (not-true _ (and_both (t k) (not (eqb (g.a k) 1)) i.1).1)

  module _ (es : List ℕ) (inside : Within g.a g.b (others g) es) where
    size : length (others g) + 1 ≡ g.n
    size = length-others g (omega (arith, vg.big))

    rank_connected : rank g.a g.b es + 2 ≡ g.n → Connected g es
    rank_connected h = rank_joined g.a g.b (others g) es (distinct-others g) inside 2 (two_in g vg) (omega (arith, size))

    connected_rank : Connected g es → rank g.a g.b es + 2 ≡ g.n
    connected_rank h = omega (arith, joined_rank g.a g.b (others g) es (distinct-others g) inside 2 (two_in g vg) h, size)

  -- the rank of the first q of an order and the required edges
  abbrev pub rank_at : List ℕ → ℕ → ℕ
  rank_at es q = rank g.a g.b (take q es ++ required_among g)

  pub looked_by_rank : (d : ℕ → ℤ) (es : List ℕ) → InOrder g d es → (p : ℕ) → p ≤ length es
      → ((q : ℕ) → q < p → rank_at es q + 2 < g.n) → (p < length es → rank_at es p + 2 ≡ g.n) → Looked g d p
  looked_by_rank d es o p h short full = record {
    order = es;
    ordered = o;
    within = h;
    shortest = λ q l c. omega (arith, short q l, connected_rank _ (inside q) c);
    enough = λ l. rank_connected _ (inside p) (full l);
  }
    where
      inside : (q : ℕ) → Within g.a g.b (others g) (take q es ++ required_among g)
      inside q k m = at (in_either k (take q es) (required_among g) m)
        where
          at : (k ∈ take q es) ⊎ (k ∈ required_among g) → (g.a k ∈ others g) × (g.b k ∈ others g)
          at (inl i) = away_ends (λ j. is_free (g.mark j)) k (o.only k (take_in q es k i))
          at (inr i) = away_ends (λ j. is_required (g.mark j)) k i
