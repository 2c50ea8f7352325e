-- The graph of the edges that a node's marks do not exclude, edge by edge: what an edge more adds to it, and that one that is excluded adds
-- nothing. Assumes nothing.
use Rattle.std.specs.Prelude.{◌≡◌, true, false, List, ℕ, suc, ◌<◌, length, get_or, set, replicate, ℤ, pos, refl}
use Rattle.std.proofs.Common.{sym, ap, ◌∙◌, true≢false, arith, length-set, get_or-set_same, get_or-set_other}
use Rattle.std.proofs.Math.Decide.{dec_le, ℕ_discrete}
use Rattle.lists.specs.Fill.{fill-size, fill-at, fill-same, fill_is, replicate_is}
use Rattle.graph.specs.declared.Graph.{Graph}
use Rattle.graph.specs.Edgeless.{edgeless}
use Rattle.graph.specs.Limits.{max_edges}
use Rattle.graph.specs.Network.{place}
use Rattle.graph.specs.Places.{place_at, place_zero}
use Rattle.tree_theory.specs.OneTree.{Edges}
use Rattle.thinning.specs.Ranks.{rank, nth, Kept, rank_yes, rank_most, rank-nth, nth-rank, nth_past, nth_other}
use Rattle.node.specs.Opened.{kept, left_of}

-- the kept edge that has a new place
module _ (c : Edges) (m j : ℕ) (l : j < rank c m) where
  pub old : Kept c m (suc j)
  old = rank-nth c m (suc j) (omega arith) (omega arith)

  pub old-rank : rank c old.place ≡ j
  old-rank = omega (arith, rank_yes c old.place old.kept, old.new)

  pub old-nth : nth c m (suc j) ≡ suc old.place
  old-nth = ap (nth c m) (sym old.new) ∙ nth-rank c m old.place old.low old.kept

-- ---- a list of what the edges have

module _ {A : Type 0} (z : A) (marks : List ℕ) (m : ℕ) (was : List A) where
  pub left-size : length (left_of z marks m was) ≡ max_edges
  unfolding left_of
  left-size = fill-size max_edges (λ j. place z m was (nth (kept marks) m (suc j)))

  pub left-place : (j : ℕ) → j < max_edges → get_or (left_of z marks m was) j z ≡ place z m was (nth (kept marks) m (suc j))
  unfolding left_of
  left-place j b = fill-at max_edges (λ i. place z m was (nth (kept marks) m (suc i))) j z b

module _ {A : Type 0} (z : A) (marks : List ℕ) (l : List A) where
  abbrev c : Edges
  c = kept marks

  pub left_none : left_of z marks 0 l ≡ replicate max_edges z
  left_none =
      sym (replicate_is max_edges z (left_of z marks 0 l) (left-size z marks 0 l)
      (λ i b.
      let none : nth c 0 (suc i) ≡ 0 = unfold nth in refl in
      left-place z marks 0 l i b ∙ ap (place z 0 l) none ∙ place_zero z 0 l))

  -- what stands at an old place
  one_place : (k j : ℕ) → place z (suc k) l (nth c k (suc j)) ≡ place z k l (nth c k (suc j))
  one_place k j = go (dec_le (suc j) (rank c k))
    where
      go : Dec (j < rank c k) → place z (suc k) l (nth c k (suc j)) ≡ place z k l (nth c k (suc j))
      go (yes b) =
          let o = old c k j b in
          let e : nth c k (suc j) ≡ suc o.place = old-nth c k j b in
          ap (place z (suc k) l) e
          ∙ place_at z (suc k) l o.place (omega (arith, o.low))
          ∙ sym (ap (place z k l) e ∙ place_at z k l o.place o.low)
      go (no b) =
          let e : nth c k (suc j) ≡ 0 = nth_past c k (suc j) (omega arith) in
          ap (place z (suc k) l) e ∙ place_zero z (suc k) l ∙ sym (ap (place z k l) e ∙ place_zero z k l)

  -- an edge that is excluded
  pub left_skip : (k : ℕ) → c (suc k) ≡ false → left_of z marks k l ≡ left_of z marks (suc k) l
  unfolding left_of
  left_skip k e =
      fill-same max_edges _ _
      (λ j b. sym (ap (place z (suc k) l) (nth_other c k (suc j) (λ y. absurd (true≢false (sym y ∙ e)))) ∙ one_place k j))

  -- one that is not
  pub left_more : (k f : ℕ) (v : A) → k < max_edges → c (suc k) ≡ true → f ≡ rank c k → v ≡ get_or l k z
      → set (left_of z marks k l) f v ≡ left_of z marks (suc k) l
  unfolding left_of
  left_more k f v b y e is =
      sym (fill_is max_edges (λ j. place z (suc k) l (nth c (suc k) (suc j))) (set (left_of z marks k l) f v) z
      (length-set (left_of z marks k l) f v ∙ left-size z marks k l) (λ i u. at i u (ℕ_discrete i f)))
    where
      at : (i : ℕ) → i < max_edges → Dec (i ≡ f) → place z (suc k) l (nth c (suc k) (suc i)) ≡ get_or (set (left_of z marks k l) f v) i z
      at i u (yes q) =
          let n : suc i ≡ rank c (suc k) = omega (arith, rank_yes c k y) in
          ap (λ (j : ℕ). place z (suc k) l (nth c (suc k) j)) n
          ∙ ap (place z (suc k) l) (nth-rank c (suc k) k (omega arith) y)
          ∙ place_at z (suc k) l k (omega arith)
          ∙ sym (rw q (get_or-set_same (left_of z marks k l) f v z (omega (arith, left-size z marks k l, rank_most c k)) ∙ is))
      at i u (no q) =
          ap (place z (suc k) l) (nth_other c k (suc i) (λ y. omega (arith, rank_yes c k y)))
          ∙ one_place k i
          ∙ sym (get_or-set_other (left_of z marks k l) f i v z q ∙ left-place z marks k l i u)

-- ---- the graph

-- of the first k edges, with a count of edges that is yet to be written
abbrev pub gathered : Graph → ℕ → ℕ → Graph
gathered g m k =
    record {
      n = g.n;
      m = m;
      a = left_of 0 g.mark k g.a;
      b = left_of 0 g.mark k g.b;
      cost = left_of (pos 0) g.mark k g.cost;
      mark = left_of 0 g.mark k g.mark;
    }

-- and with it
abbrev pub left_to : Graph → ℕ → Graph
left_to g k = gathered g (rank (kept g.mark) k) k

module _ (g : Graph) where
  pub gathered_none : edgeless g.n ≡ left_to g 0
  unfolding edgeless rank
  gathered_none = λ i. record {
    n = g.n;
    m = 0;
    a = sym (left_none 0 g.mark g.a) i;
    b = sym (left_none 0 g.mark g.b) i;
    cost = sym (left_none (pos 0) g.mark g.cost) i;
    mark = sym (left_none 0 g.mark g.mark) i;
  }

  pub gathered_skip : (m k : ℕ) → kept g.mark (suc k) ≡ false → gathered g m k ≡ gathered g m (suc k)
  gathered_skip m k e = λ i. record {
    n = g.n;
    m = m;
    a = left_skip 0 g.mark g.a k e i;
    b = left_skip 0 g.mark g.b k e i;
    cost = left_skip (pos 0) g.mark g.cost k e i;
    mark = left_skip 0 g.mark g.mark k e i;
  }

  -- as the loop writes them
  pub gathered_more : (m k f a b mark : ℕ) (cost : ℤ) → k < max_edges → kept g.mark (suc k) ≡ true → f ≡ rank (kept g.mark) k
      → a ≡ get_or g.a k 0 → b ≡ get_or g.b k 0 → cost ≡ get_or g.cost k (pos 0) → mark ≡ get_or g.mark k 0 → (was : Graph) → was ≡ gathered g m k
      → record { n = was.n; m = was.m; a = set was.a f a; b = set was.b f b; cost = set was.cost f cost; mark = set was.mark f mark }
      ≡ gathered g m (suc k)
  gathered_more m k f a b mark cost few y e is_a is_b is_cost is_mark was same =
      (λ i. record {
        n = (same i).n;
        m = (same i).m;
        a = set (same i).a f a;
        b = set (same i).b f b;
        cost = set (same i).cost f cost;
        mark = set (same i).mark f mark;
      })
      ∙ (λ i. record {
        n = g.n;
        m = m;
        a = left_more 0 g.mark g.a k f a few y e is_a i;
        b = left_more 0 g.mark g.b k f b few y e is_b i;
        cost = left_more (pos 0) g.mark g.cost k f cost few y e is_cost i;
        mark = left_more 0 g.mark g.mark k f mark few y e is_mark i;
      })
