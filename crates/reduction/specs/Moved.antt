-- The graph of the vertices that are afloat, as code makes it in arrays: each edge of the graph under its own number, with its ends in new numbers, or
-- excluded and put between vertices 1 and 2 where it touches a vertex ashore (`Moved`). Its network is the reduced network.
use Rattle.std.specs.Prelude.{◌≡◌, refl, Bool, true, false, cond, ◌||◌, ℕ, zero, suc, ◌<◌, ◌≤◌, get_or, pos}
use Rattle.std.proofs.Common.{sym, ap, ap₂, ◌∙◌, arith}
use Rattle.std.proofs.Math.Decide.{dec_le}
use Rattle.graph.specs.declared.Graph.{Graph}
use Rattle.graph.specs.Network.{excluded, mark_of, place, network}
use Rattle.graph.specs.Places.{place_at, place_zero, place_past, network_a, network_b, network_mark}
use Rattle.thinning.specs.Ranks.{rank}
use Rattle.afloat.specs.Over.{Ashore, active, touched, mark_over}
use Rattle.afloat.specs.Reduced.{reduced}

-- what becomes of the edge at place k
abbrev pub moved_a : Ashore → Graph → ℕ → ℕ
moved_a s g k = cond (touched s (network g) (suc k)) 1 (rank (active s) (get_or g.a k 0))

abbrev pub moved_b : Ashore → Graph → ℕ → ℕ
moved_b s g k = cond (touched s (network g) (suc k)) 2 (rank (active s) (get_or g.b k 0))

abbrev pub moved_mark : Ashore → Graph → ℕ → ℕ
moved_mark s g k = cond (touched s (network g) (suc k)) 2 (get_or g.mark k 0)

-- edges 1 to k of g are moved in r, and nothing else
pub record MovedEdges (s : Ashore) (g : Graph) (k : ℕ) (r : Graph) : Type 0 where
  pub n : r.n ≡ g.n
  pub m : r.m ≡ g.m
  pub cost : r.cost ≡ g.cost
  pub a : (j : ℕ) → j < k → get_or r.a j 0 ≡ moved_a s g j
  pub b : (j : ℕ) → j < k → get_or r.b j 0 ≡ moved_b s g j
  pub mark : (j : ℕ) → j < k → get_or r.mark j 0 ≡ moved_mark s g j
  pub later_a : (j : ℕ) → k ≤ j → get_or r.a j 0 ≡ get_or g.a j 0
  pub later_b : (j : ℕ) → k ≤ j → get_or r.b j 0 ≡ get_or g.b j 0
  pub later_mark : (j : ℕ) → k ≤ j → get_or r.mark j 0 ≡ get_or g.mark j 0

-- r has the edges of g, with their ends moved
pub record MovedEnds (s : Ashore) (g r : Graph) : Type 0 where
  pub n : r.n ≡ rank (active s) g.n
  pub m : r.m ≡ g.m
  pub cost : r.cost ≡ g.cost
  pub a : (j : ℕ) → j < g.m → get_or r.a j 0 ≡ moved_a s g j
  pub b : (j : ℕ) → j < g.m → get_or r.b j 0 ≡ moved_b s g j

-- and with them their marks: r is the graph of the vertices that are afloat. Past the edges, where nothing counts, stands what stood there
pub record Moved (s : Ashore) (g r : Graph) : Type 0 where
  pub ends : MovedEnds s g r
  pub mark : (j : ℕ) → j < g.m → get_or r.mark j 0 ≡ moved_mark s g j
  pub past_a : (j : ℕ) → g.m ≤ j → get_or r.a j 0 ≡ get_or g.a j 0
  pub past_b : (j : ℕ) → g.m ≤ j → get_or r.b j 0 ≡ get_or g.b j 0
  pub past_mark : (j : ℕ) → g.m ≤ j → get_or r.mark j 0 ≡ get_or g.mark j 0

module _ (s : Ashore) (zeroth : s 0 ≡ false) (g r : Graph) (h : Moved s g r) where
  -- past the edges is nothing, there and here
  none_touched : (k : ℕ) → (network g).a k ≡ 0 → (network g).b k ≡ 0 → touched s (network g) k ≡ false
  none_touched k p q = ap₂ ◌||◌ (ap s p ∙ zeroth) (ap s q ∙ zeroth)

  none_end : (k z v : ℕ) → touched s (network g) k ≡ false → v ≡ 0 → 0 ≡ cond (touched s (network g) k) z (rank (active s) v)
  none_end k z v e q =
      sym (ap (λ (b : Bool). cond b z (rank (active s) v)) e ∙ ap (rank (active s)) q ∙ unfold rank in refl)

  -- ITS NETWORK IS THE REDUCED ONE
  pub moved_network : network r ≡ reduced s (network g)
  moved_network = λ i. unfold network in record {
    n = h.ends.n i;
    m = h.ends.m i;
    a = λ k. a k i;
    b = λ k. b k i;
    cost = λ k. cost k i;
    mark = λ k. mark k i;
  }
    where
      out_a : (k : ℕ) → g.m ≤ k → (network g).a (suc k) ≡ 0
      out_a k l = unfold network in place_past 0 g.m g.a k l

      out_b : (k : ℕ) → g.m ≤ k → (network g).b (suc k) ≡ 0
      out_b k l = unfold network in place_past 0 g.m g.b k l

      zero_a : (network g).a 0 ≡ 0
      zero_a = unfold network in place_zero 0 g.m g.a

      zero_b : (network g).b 0 ≡ 0
      zero_b = unfold network in place_zero 0 g.m g.b

      a : (k : ℕ) → place 0 r.m r.a k ≡ (reduced s (network g)).a k
      a zero = place_zero 0 r.m r.a ∙ none_end 0 1 _ (none_touched 0 zero_a zero_b) zero_a
      a (suc k) = go (dec_le (suc k) g.m)
        where
          go : Dec (k < g.m) → place 0 r.m r.a (suc k) ≡ (reduced s (network g)).a (suc k)
          go (yes l) =
              place_at 0 r.m r.a k (omega (arith, h.ends.m)) ∙ h.ends.a k l
              ∙ ap (λ (z : ℕ). cond (touched s (network g) (suc k)) 1 (rank (active s) z)) (sym (network_a g k l))
          go (no l) =
              place_past 0 r.m r.a k (omega (arith, h.ends.m))
              ∙ none_end (suc k) 1 _ (none_touched (suc k) (out_a k (omega arith)) (out_b k (omega arith))) (out_a k (omega arith))

      b : (k : ℕ) → place 0 r.m r.b k ≡ (reduced s (network g)).b k
      b zero = place_zero 0 r.m r.b ∙ none_end 0 2 _ (none_touched 0 zero_a zero_b) zero_b
      b (suc k) = go (dec_le (suc k) g.m)
        where
          go : Dec (k < g.m) → place 0 r.m r.b (suc k) ≡ (reduced s (network g)).b (suc k)
          go (yes l) =
              place_at 0 r.m r.b k (omega (arith, h.ends.m)) ∙ h.ends.b k l
              ∙ ap (λ (z : ℕ). cond (touched s (network g) (suc k)) 2 (rank (active s) z)) (sym (network_b g k l))
          go (no l) =
              place_past 0 r.m r.b k (omega (arith, h.ends.m))
              ∙ none_end (suc k) 2 _ (none_touched (suc k) (out_a k (omega arith)) (out_b k (omega arith))) (out_b k (omega arith))

      cost : (k : ℕ) → place (pos 0) r.m r.cost k ≡ (network g).cost k
      cost k = λ i. unfold network in place (pos 0) (h.ends.m i) (h.ends.cost i) k

      left_mark : (k : ℕ) (z : ℕ) → touched s (network g) k ≡ false → z ≡ place 0 g.m g.mark k → mark_of z ≡ mark_over s (network g) k
      left_mark k z e q =
          ap mark_of q
          ∙ sym (ap (λ (b : Bool). cond b excluded ((network g).mark k)) e ∙ unfold network in refl)

      mark : (k : ℕ) → mark_of (place 0 r.m r.mark k) ≡ mark_over s (network g) k
      mark zero =
          left_mark 0 _ (none_touched 0 zero_a zero_b) (place_zero 0 r.m r.mark ∙ sym (place_zero 0 g.m g.mark))
      mark (suc k) = go (dec_le (suc k) g.m)
        where
          at : (b : Bool) → mark_of (cond b 2 (get_or g.mark k 0)) ≡ cond b excluded (mark_of (get_or g.mark k 0))
          at true = unfold mark_of in refl
          at false = refl

          go : Dec (k < g.m) → mark_of (place 0 r.m r.mark (suc k)) ≡ mark_over s (network g) (suc k)
          go (yes l) =
              ap mark_of (place_at 0 r.m r.mark k (omega (arith, h.ends.m)) ∙ h.mark k l)
              ∙ at (touched s (network g) (suc k))
              ∙ sym (ap (λ (x : _). cond (touched s (network g) (suc k)) excluded x) (network_mark g k l))
          go (no l) =
              left_mark (suc k) _ (none_touched (suc k) (out_a k (omega arith)) (out_b k (omega arith)))
              (place_past 0 r.m r.mark k (omega (arith, h.ends.m)) ∙ sym (place_past 0 g.m g.mark k (omega arith)))
