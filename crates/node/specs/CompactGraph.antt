-- The graph of the edges that are left: it is valid where the whole graph is, its network is the thin network of crate thinning, and so
-- what the passes of a node come to on it, spread out to all edges, is what they come to.
use Rattle.std.specs.Prelude.{◌≡◌, Bool, List, ℕ, zero, suc, ◌≤◌, ◌<◌, get_or, ℤ, pos}
use Rattle.std.proofs.Math.Path.{refl, sym, ap}
use Rattle.std.proofs.Common.{◌∙◌, subst, arith, eqb-true}
use Rattle.std.proofs.Math.Bool.{true}
use Rattle.std.proofs.lemmas.Bool.{not-false}
use Rattle.std.proofs.Math.Decide.{dec_le}
use Rattle.std.proofs.Math.ListN.{get_or-eq_default}
use Rattle.integers.specs.Range.{within}
use Rattle.graph.specs.declared.Graph.{Graph}
use Rattle.graph.specs.Limits.{max_edges, max_cost}
use Rattle.graph.specs.Network.{Network, free, excluded, mark_of, place, network}
use Rattle.graph.specs.Places.{place_at, place_zero, place_past}
use Rattle.graph.specs.Valid.{Valid}
use Rattle.tree_theory.specs.OneTree.{Edges}
use Rattle.tree_theory.specs.Scaled.{scaled_by}
use Rattle.machine.specs.Machine.{Marks, passes}
use Rattle.thinning.specs.Ranks.{rank, nth, rank_yes, rank_most, rank_mono, rank_less, nth-rank, nth_zero, nth_past}
use Rattle.thinning.specs.Thinned.{thin}
use Rattle.compaction.specs.Spread.{spread_marks, spread_opened, spread_is}
use Rattle.compaction.specs.Passes.{passes-thin}
use Rattle.node.specs.Marks.{marks_in, marks-size, marks-at, Padded}
use Rattle.node.specs.Opened.{kept, left_of, left}
use Rattle.node.specs.Compacting.{left-size, left-place, old, old-rank, old-nth}

-- ---- what a kept edge has

module _ {A : Type 0} (z : A) (marks : List ℕ) (m : ℕ) (was : List A) where
  abbrev c : Edges
  c = kept marks

  -- one at a new place has what stood at its old one
  pub left_at : (j : ℕ) (l : j < rank c m) → j < max_edges → get_or (left_of z marks m was) j z ≡ get_or was (old c m j l).place z
  left_at j l b =
      left-place z marks m was j b
      ∙ ap (place z m was) (old-nth c m j l)
      ∙ place_at z m was (old c m j l).place (old c m j l).low

  pub left_past : (j : ℕ) → rank c m ≤ j → get_or (left_of z marks m was) j z ≡ z
  left_past j h = go (dec_le (suc j) max_edges)
    where
      go : Dec (j < max_edges) → get_or (left_of z marks m was) j z ≡ z
      go (yes b) = left-place z marks m was j b ∙ ap (place z m was) (nth_past c m (suc j) (omega arith)) ∙ place_zero z m was
      go (no b) = get_or-eq_default (left_of z marks m was) z (omega (arith, left-size z marks m was))

  place-thin : rank c m ≤ max_edges → (j : ℕ) → place z (rank c m) (left_of z marks m was) j ≡ place z m was (nth c m j)
  place-thin few zero = place_zero z (rank c m) (left_of z marks m was) ∙ sym (ap (place z m was) (nth_zero c m) ∙ place_zero z m was)
  place-thin few (suc j) = go (dec_le (suc j) (rank c m))
    where
      go : Dec (j < rank c m) → place z (rank c m) (left_of z marks m was) (suc j) ≡ place z m was (nth c m (suc j))
      go (yes l) = place_at z (rank c m) (left_of z marks m was) j l ∙ left-place z marks m was j (omega arith)
      go (no l) =
          place_past z (rank c m) (left_of z marks m was) j (omega arith)
          ∙ sym (ap (place z m was) (nth_past c m (suc j) (omega arith)) ∙ place_zero z m was)

-- new places are in the order of the old ones
pub old-up : (c : Edges) (m i : ℕ) (k : i < rank c m) (j : ℕ) (l : j < rank c m) → i < j → (old c m i k).place < (old c m j l).place
old-up c m i k j l b = go (dec_le (suc (old c m i k).place) (old c m j l).place)
  where
    go : Dec ((old c m i k).place < (old c m j l).place) → (old c m i k).place < (old c m j l).place
    go (yes p) = p
    go (no p) =
        absurd (omega (arith, rank_mono c (old c m j l).place (old c m i k).place (omega arith), old-rank c m i k, old-rank c m j l))

module _ (g : Graph) where
  abbrev e : Edges
  e = kept g.mark

  pub left_few : g.m ≤ max_edges → rank e g.m ≤ max_edges
  left_few h = omega (arith, rank_most e g.m)

  pub left-padded : Padded (left g).m (left g).mark
  left-padded = record { size = left-size 0 g.mark g.m g.mark; past = left_past 0 g.mark g.m g.mark }

  -- ---- it is valid

  pub left-valid : Valid g → Valid (left g)
  left-valid v = record {
    low = v.low;
    high = v.high;
    few = few;
    each = λ j l.
        let b : j < max_edges = omega (arith, few) in
        let o = old e g.m j l in
        let was = v.each o.place o.low in
        record {
          from = omega (arith, was.from, left_at 0 g.mark g.m g.a j l b);
          less = omega (arith, was.less, left_at 0 g.mark g.m g.a j l b, left_at 0 g.mark g.m g.b j l b);
          to = omega (arith, was.to, left_at 0 g.mark g.m g.b j l b);
          range = subst (λ (z : ℤ). within max_cost z ≡ true) (sym (left_at (pos 0) g.mark g.m g.cost j l b)) was.range;
          known = omega (arith, was.known, left_at 0 g.mark g.m g.mark j l b);
        };
    once = λ i j b l s.
        let k : i < rank e g.m = omega arith in
        let p : i < max_edges = omega (arith, few) in
        let q : j < max_edges = omega (arith, few) in
        v.once (old e g.m i k).place (old e g.m j l).place (old-up e g.m i k j l b) (old e g.m j l).low (record {
          a = sym (left_at 0 g.mark g.m g.a i k p) ∙ s.a ∙ left_at 0 g.mark g.m g.a j l q;
          b = sym (left_at 0 g.mark g.m g.b i k p) ∙ s.b ∙ left_at 0 g.mark g.m g.b j l q;
        });
  }
    where
      few : rank e g.m ≤ max_edges
      few = left_few v.few

  -- ---- its network is thin

  module _ (few : rank e g.m ≤ max_edges) where
    network-thin : network (left g) ≡ thin e (network g)
    unfolding network
    network-thin = λ i. record {
      n = g.n;
      m = rank e g.m;
      a = λ j. place-thin 0 g.mark g.m g.a few j i;
      b = λ j. place-thin 0 g.mark g.m g.b few j i;
      cost = λ j. place-thin (pos 0) g.mark g.m g.cost few j i;
      mark = λ j. mark_of (place-thin 0 g.mark g.m g.mark few j i);
    }

    -- ---- its marks

    marks-spread : marks_in g.m g.mark ≡ spread_marks e g.m (marks_in (left g).m (left g).mark)
    marks-spread =
        spread_is e g.m excluded free (marks_in g.m g.mark) (marks_in (left g).m (left g).mark) (marks-size g.m g.mark)
        (λ i l y.
        let new : rank e i < rank e g.m = rank_less e i g.m l y in
        let same : get_or (left_of 0 g.mark g.m g.mark) (rank e i) 0 ≡ get_or g.mark i 0 =
        left-place 0 g.mark g.m g.mark (rank e i) (omega arith)
        ∙ ap (place 0 g.m g.mark) (ap (nth e g.m) (sym (rank_yes e i y)) ∙ nth-rank e g.m i l y)
        ∙ place_at 0 g.m g.mark i l in
        marks-at g.m g.mark i l
        ∙ ap mark_of (sym same)
        ∙ sym (marks-at (left g).m (left g).mark (rank e i) new))
        (λ i l y. marks-at g.m g.mark i l ∙ ap mark_of (eqb-true (get_or g.mark i 0) 2 (not-false _ y)) ∙ unfold mark_of in refl)

    -- WHAT THE PASSES COME TO
    pub left-passes : (lifting : Bool) (den : ℕ) (d : List ℤ) (step : ℕ) (upper : ℤ) (k : ℕ)
        → spread_opened e g.m (passes lifting (scaled_by den (network (left g))) step upper k d (marks_in (left g).m (left g).mark))
        ≡ passes lifting (scaled_by den (network g)) step upper k d (marks_in g.m g.mark)
    unfolding network
    left-passes lifting den d step upper k =
        ap (λ (f : Network). spread_opened e g.m (passes lifting (scaled_by den f) step upper k d y)) network-thin
        ∙ sym (passes-thin e (scaled_by den (network g)) lifting step upper k d y (marks-size (left g).m (left g).mark))
        ∙ ap (λ (x : Marks). passes lifting (scaled_by den (network g)) step upper k d x) (sym marks-spread)
      where
        y : Marks
        y = marks_in (left g).m (left g).mark
