-- Exchange: where one tree has an edge e and another lacks it, some edge of the other may take the place of e in the one, while e takes
-- its place in the other. So of all trees with e, or without, one that differs from the least tree by a single swap is least.
-- Assumes nothing.
use Rattle.std.specs.Prelude.{◌≡◌, ◌≢◌, ◌⊎◌, true, false, List, ◌∷◌, ◌++◌, eqb, length}
use Rattle.std.proofs.Math.Path.{sym, ap}
use Rattle.std.proofs.Common.{◌∙◌, true≢false}
use Rattle.std.proofs.Math.Logic.{inl, inr}
use Rattle.std.proofs.Math.Bool.{not}
use Prim.Native.Nat.{ℕ, suc, ◌+◌}
use native.Mathlib.Omega.{arith}
use Rattle.std.proofs.Math.ListN.{length-append}
use borrow.Author.Tests.{eqb-true, eqb-false, not-true}
use Rattle.lists.specs.Bools.{by_cases, not-not}
use Rattle.lists.specs.Members.{◌∈◌, in_left, in_right, in_either}
use Rattle.lists.specs.Select.{select, select_in, in_select, parts_length}
use Rattle.lists.specs.Distinct.{Distinct, distinct-select}
use Rattle.lists.specs.Same.{Shuffle, shuffle_back, shuffle_in, shuffle_fills}
use Rattle.lists.specs.Sets.{NumberSet, ◌⊕◌, ◌⊖◌, plus_is, minus_other, minus_is, swapped_length}
use Rattle.spanning.specs.Walks.{label, label_edge, walk_respects, label-walk}
use Rattle.spanning.specs.Components.{rank, joins, sub-inside, inside-rank, same_rank}
use Rattle.spanning.specs.Choice.{choose, Dropped, dropped}
use Rattle.spanning.specs.Forests.{Forest, forest_select, joins_forest, greedy, greedy-length, greedy-rank, greedy_all}
use Rattle.spanning.specs.Trees.{Tree, minus_apart, swap-tree}

-- ---- the cut property

-- L tells two sides apart, and e crosses between them; then some edge g of the tree t crosses too, and e can take its place
pub record Crossing (p q : ℕ → ℕ) (all : List ℕ) (L : ℕ → ℕ) (t : NumberSet) (e : ℕ) : Type 0 where
  pub g : ℕ
  pub listed : g ∈ all
  pub taken : t g ≡ true
  pub apart : L (p g) ≢ L (q g)
  pub tree : Tree p q all (t ⊖ g ⊕ e)

-- Of the edges of t that do not cross, e, and then those that cross, the greedy choice drops one, and it is one that crosses.
module _ (p q : ℕ → ℕ) (all : List ℕ) (nd : Distinct all) (L : ℕ → ℕ) (t : NumberSet) (e : ℕ) (tree : Tree p q all t) (me : e ∈ all)
    (te : t e ≡ false) (far : L (p e) ≢ L (q e)) where
  crosses : NumberSet
  crosses k = not (eqb (L (p k)) (L (q k)))

  over : List ℕ
  over = select crosses (select t all)

  over_in : (k : ℕ) → k ∈ over → (k ∈ select t all) × (crosses k ≡ true)
  unfolding over
  over_in k m = select_in crosses (select t all) k m

  inner : List ℕ
  inner = select (λ k. not (crosses k)) (select t all)

  inner_in : (k : ℕ) → k ∈ inner → (k ∈ select t all) × (crosses k ≡ false)
  unfolding inner
  inner_in k m = let i = select_in (λ j. not (crosses j)) (select t all) k m in (i.0, not-true (crosses k) i.1)

  -- e joins what does not cross, so that with e in front it is a forest still
  inner_forest : Forest p q (e ∷ inner)
  unfolding inner crosses
  inner_forest = joins_forest p q e inner apart (forest_select p q (λ k. not (crosses k)) (select t all) tree.forest)
    where
      apart : label p q inner (p e) ≢ label p q inner (q e)
      apart h =
          far (walk_respects p q L (λ k m. eqb-true _ _ (not-not _ (ap not (inner_in k m).1))) ((label-walk p q inner (p e) (q e)).0 h))

  -- ---- the edges in this order

  es : List ℕ
  es = over ++ (e ∷ inner)

  es_in : (k : ℕ) → k ∈ es → (k ≡ e) ⊎ (k ∈ select t all)
  unfolding es
  es_in k m = go (in_either k over (e ∷ inner) m)
    where
      go : (k ∈ over) ⊎ (k ∈ (e ∷ inner)) → (k ≡ e) ⊎ (k ∈ select t all)
      go (inl i) = inr (over_in k i).0
      go (inr (inl f)) = inl f
      go (inr (inr i)) = inr (inner_in k i).0

  in_es : (k : ℕ) → (k ≡ e) ⊎ (k ∈ select t all) → k ∈ es
  unfolding es over inner
  in_es k (inl f) = in_right k over (e ∷ inner) (inl f)
  in_es k (inr m) =
      by_cases (crosses k)
      (λ h. in_left k over (e ∷ inner) (in_select crosses (select t all) k m h))
      (λ h. in_right k over (e ∷ inner) (inr (in_select (λ j. not (crosses j)) (select t all) k m (ap not h))))

  -- one edge more than t has, and the rank of all the edges
  size-es : length es ≡ suc (length (select t all))
  unfolding es over inner
  size-es = simp length-append (omega (arith, parts_length crosses (select t all)))

  rank-es : rank p q es ≡ rank p q all
  unfolding Forest
  rank-es =
      omega (
        arith,
        inside-rank p q (select t all) es (sub-inside p q (select t all) es (λ k m. in_es k (inr m))),
        inside-rank p q es all (sub-inside p q es all (λ k m. listed k (es_in k m))),
        tree.forest,
        tree.size,
      )
    where
      listed : (k : ℕ) → (k ≡ e) ⊎ (k ∈ select t all) → k ∈ all
      listed k (inl f) = rw f me
      listed k (inr i) = (select_in t all k i).0

  -- ---- one of them is dropped

  build : Dropped (joins p q) over (e ∷ inner) → Crossing p q all L t e
  unfolding Forest es greedy crosses
  build x = record {
    g = g;
    listed = m.0;
    taken = m.1;
    apart = eqb-false _ _ (not-true _ (over_in g x.from).1);
    tree = record { forest = ranks ∙ sym size; size = size };
  }
    where
      g : ℕ
      g = x.g

      m : (g ∈ all) × (t g ≡ true)
      m = select_in t all x.g (over_in x.g x.from).0

      s : NumberSet
      s = t ⊖ g ⊕ e

      kept : List ℕ
      kept = choose (joins p q) (over ++ (e ∷ inner))

      size : length (select s all) ≡ rank p q all
      size = swapped_length all nd t g e m.0 me m.1 te ∙ tree.size

      -- what is kept is t less g plus e
      into : (k : ℕ) → k ∈ select s all → k ∈ kept
      into k i = go (plus_is (t ⊖ g) e k (select_in s all k i).1)
        where
          left : k ≢ g → (k ≡ g) ⊎ (k ∈ kept) → k ∈ kept
          left h (inl f) = absurd (h f)
          left h (inr j) = j

          go : (k ≡ e) ⊎ ((t ⊖ g) k ≡ true) → k ∈ kept
          go (inl f) = left (λ h. true≢false (sym m.1 ∙ ap t (sym h ∙ f) ∙ te)) (shuffle_in x.rest k (in_es k (inl f)))
          go (inr h) =
              let j = minus_is t g k h in
              left j.0 (shuffle_in x.rest k (in_es k (inr (in_select t all k (select_in s all k i).0 j.1))))

      same : Shuffle kept (select s all)
      same =
          shuffle_fills (select s all) kept (distinct-select s all nd) into
          (omega (arith, size, greedy-length p q (over ++ (e ∷ inner)), rank-es))

      ranks : rank p q (select s all) ≡ rank p q all
      ranks =
          same_rank p q (select s all) kept (shuffle_in (shuffle_back same)) (shuffle_in same)
          ∙ greedy-rank p q (over ++ (e ∷ inner)) ∙ rank-es

  -- THE CUT PROPERTY
  pub crossing : Crossing p q all L t e
  unfolding es greedy
  crossing =
      build (dropped (joins p q) over (e ∷ inner) (greedy_all p q (e ∷ inner) inner_forest)
      (size-es ∙ ap suc (tree.size ∙ sym rank-es ∙ sym (greedy-length p q es))))

-- ---- symmetric exchange

-- e is in the tree t and not in the tree s; then some g is in s and not in t, and each tree stays one where e and g change places
pub record Traded (p q : ℕ → ℕ) (all : List ℕ) (s t : NumberSet) (e : ℕ) : Type 0 where
  pub g : ℕ
  pub listed : g ∈ all
  pub mine : s g ≡ true
  pub other : t g ≡ false
  pub tree : Tree p q all (s ⊖ g ⊕ e)
  pub tree' : Tree p q all (t ⊖ e ⊕ g)

pub trade : (p q : ℕ → ℕ) (all : List ℕ) → Distinct all → (s t : NumberSet) (e : ℕ) → Tree p q all s → Tree p q all t → e ∈ all
    → s e ≡ false → t e ≡ true → Traded p q all s t e
trade p q all nd s t e ts tt' me se te =
    record { g = x.g; listed = x.listed; mine = x.taken; other = other; tree = x.tree; tree' = tree' }
  where
    -- the two sides are those of t less e
    L : ℕ → ℕ
    L = label p q (select (t ⊖ e) all)

    x : Crossing p q all (label p q (select (t ⊖ e) all)) s e
    x = crossing p q all nd L s e ts me se (minus_apart p q all nd t e me te tt'.forest)

    tree' : Tree p q all (t ⊖ e ⊕ x.g)
    tree' = swap-tree p q all nd t e x.g tt' me x.listed te x.apart

    ne : x.g ≢ e
    ne f = true≢false (sym x.taken ∙ ap s f ∙ se)

    other : t x.g ≡ false
    other =
        by_cases (t x.g)
        (λ h. absurd (x.apart (label_edge p q (select (t ⊖ e) all) x.g
        (in_select (t ⊖ e) all x.g x.listed (minus_other t e x.g ne ∙ h)))))
        (λ h. h)
