-- A graph value of the kept edges over the active vertices, as a program makes it from arrays: it is valid, and its network is the compact network.
-- So every function that is proved of valid graphs serves it, and what it finds is so over the active vertices.
use Rattle.std.specs.Prelude.{◌≡◌, Bool, true, false, ◌||◌, List, pos}
use Rattle.std.proofs.Math.Path.{refl, sym, ap}
use Rattle.std.proofs.Common.{◌∙◌, subst}
use Rattle.std.proofs.Math.Bool.{cond}
use Prim.Native.Nat.{ℕ, zero, suc, ◌<◌}
use native.Mathlib.Omega.{arith}
use Rattle.std.proofs.Math.Decide.{dec_le}
use Rattle.std.proofs.Math.ListN.{get_or}
use Rattle.lists.specs.Members.{◌∈◌}
use Rattle.lists.specs.Numbers.{up_to}
use Rattle.integers.specs.Range.{within}
use Rattle.graph.specs.declared.Graph.{Graph}
use Rattle.graph.specs.Limits.{max_cost}
use Rattle.graph.specs.Network.{excluded, mark_of, place, network}
use Rattle.graph.specs.Places.{place_at, place_zero, place_past, network_a, network_b}
use Rattle.graph.specs.Valid as value
use Rattle.tree_theory.specs.OneTree.{Edges}
use Rattle.tree_theory.specs.Arrays.{of_edge}
use Rattle.tree_theory.specs.Valid.{Valid}
use Rattle.thinning.specs.Ranks.{rank, nth, Kept, rank_yes, rank_most, rank_mono, rank-nth, nth-rank, nth_zero, nth_past}
use Rattle.afloat.specs.Over.{Ashore, active, touched, mark_over}
use Rattle.afloat.specs.Reduced.{reduced, Fit, count_is, a_live, b_live, live_same}
use Rattle.afloat.specs.Compact.{Keeping, compact, compact-valid}

-- each kept edge stands at its new place with its ends in new numbers, its cost and its mark
pub record Renumbered (s : Ashore) (c : Edges) (g r : Graph) : Type 0 where
  pub n : r.n ≡ rank (active s) g.n
  pub m : r.m ≡ rank c g.m
  pub a : (i : ℕ) → i < g.m → c (suc i) ≡ true → get_or r.a (rank c i) 0 ≡ rank (active s) (get_or g.a i 0)
  pub b : (i : ℕ) → i < g.m → c (suc i) ≡ true → get_or r.b (rank c i) 0 ≡ rank (active s) (get_or g.b i 0)
  pub cost : (i : ℕ) → i < g.m → c (suc i) ≡ true → get_or r.cost (rank c i) (pos 0) ≡ get_or g.cost i (pos 0)
  pub mark : (i : ℕ) → i < g.m → c (suc i) ≡ true → get_or r.mark (rank c i) 0 ≡ get_or g.mark i 0

module _ (s : Ashore) (zeroth : s 0 ≡ false) (c : Edges) (g r : Graph) (v : value.Valid g) (f : Fit s (network g))
    (keeping : Keeping s (network g) c) (h : Renumbered s c g r) where
  -- ---- the old place of a new one

  module _ (j : ℕ) (l : j < r.m) where
    old : Kept c g.m (suc j)
    old = rank-nth c g.m (suc j) (omega arith) (omega (arith, h.m))

    old-rank : rank c old.place ≡ j
    old-rank = omega (arith, rank_yes c old.place old.kept, old.new)

    old-nth : nth c g.m (suc j) ≡ suc old.place
    old-nth = ap (nth c g.m) (sym old.new) ∙ nth-rank c g.m old.place old.low old.kept

    old_in : suc old.place ∈ up_to (network g).m
    old_in = unfold network in of_edge g.m old.place old.low

    old_free : touched s (network g) (suc old.place) ≡ false
    old_free = keeping.free (suc old.place) old_in old.kept

    -- what stands at a new place
    at : {A : Type 0} (z : A) (w : List A) (x : ℕ → A)
        → ((i : ℕ) → i < g.m → c (suc i) ≡ true → get_or w (rank c i) z ≡ x i) → get_or w j z ≡ x old.place
    at z w x q = ap (λ (i : ℕ). get_or w i z) (sym old-rank) ∙ q old.place old.low old.kept

    at_a_lem : get_or r.a j 0 ≡ rank (active s) (get_or g.a old.place 0)
    at_a_lem = at 0 r.a (λ i. rank (active s) (get_or g.a i 0)) h.a

    at_b : get_or r.b j 0 ≡ rank (active s) (get_or g.b old.place 0)
    at_b = at 0 r.b (λ i. rank (active s) (get_or g.b i 0)) h.b

  -- ---- its network

  -- an edge number that is none
  none_a : (network g).a 0 ≡ 0
  unfolding network
  none_a = place_zero 0 g.m g.a

  none_b : (network g).b 0 ≡ 0
  unfolding network
  none_b = place_zero 0 g.m g.b

  none_touched : touched s (network g) 0 ≡ false
  none_touched =
      ap (λ (z : ℕ). s z || s ((network g).b 0)) none_a ∙ ap (λ (z : ℕ). s 0 || s z) none_b ∙ ap (λ (b : Bool). b || b) zeroth

  none_end : (y : ℕ → ℕ) → y 0 ≡ 0 → (z : ℕ) → cond (touched s (network g) 0) z (rank (active s) (y 0)) ≡ 0
  none_end y e z =
      ap (λ (b : Bool). cond b z (rank (active s) (y 0))) none_touched ∙ ap (rank (active s)) e ∙ unfold rank in refl

  -- an array of r against a function of the old edge numbers
  along : {A : Type 0} (z : A) (w : List A) (y : ℕ → A) → y 0 ≡ z → ((j : ℕ) (l : j < r.m) → get_or w j z ≡ y (suc (old j l).place))
      → (j : ℕ) → place z r.m w j ≡ y (nth c g.m j)
  along z w y e q zero = place_zero z r.m w ∙ sym (ap y (nth_zero c g.m) ∙ e)
  along z w y e q (suc j) = go (dec_le (suc j) r.m)
    where
      go : Dec (j < r.m) → place z r.m w (suc j) ≡ y (nth c g.m (suc j))
      go (yes l) = place_at z r.m w j l ∙ q j l ∙ ap y (sym (old-nth j l))
      go (no l) =
          place_past z r.m w j (omega arith)
          ∙ sym (ap y (nth_past c g.m (suc j) (omega (arith, h.m))) ∙ e)

  -- ITS NETWORK IS THE COMPACT ONE
  pub renumbered_network : network r ≡ compact s c (network g)
  renumbered_network = λ i. unfold network in record {
    n = h.n i;
    m = h.m i;
    a = λ j. a j i;
    b = λ j. b j i;
    cost = λ j. cost j i;
    mark = λ j. mark j i;
  }
    where
      a : (j : ℕ) → place 0 r.m r.a j ≡ (reduced s (network g)).a (nth c g.m j)
      a =
          along 0 r.a (reduced s (network g)).a (none_end (network g).a none_a 1)
          (λ j l.
          at_a_lem j l
          ∙ ap (rank (active s)) (sym (network_a g (old j l).place (old j l).low))
          ∙ sym (ap (λ (b : Bool). cond b 1 (rank (active s) ((network g).a (suc (old j l).place)))) (old_free j l)))

      b : (j : ℕ) → place 0 r.m r.b j ≡ (reduced s (network g)).b (nth c g.m j)
      b =
          along 0 r.b (reduced s (network g)).b (none_end (network g).b none_b 2)
          (λ j l.
          at_b j l
          ∙ ap (rank (active s)) (sym (network_b g (old j l).place (old j l).low))
          ∙ sym (ap (λ (b : Bool). cond b 2 (rank (active s) ((network g).b (suc (old j l).place)))) (old_free j l)))

      cost : (j : ℕ) → place (pos 0) r.m r.cost j ≡ (network g).cost (nth c g.m j)
      cost =
          along (pos 0) r.cost (network g).cost (unfold network in place_zero (pos 0) g.m g.cost)
          (λ j l.
          at j l (pos 0) r.cost (λ i. get_or g.cost i (pos 0)) h.cost
          ∙ sym (unfold network in place_at (pos 0) g.m g.cost (old j l).place (old j l).low))

      bytes : (j : ℕ) → place 0 r.m r.mark j ≡ place 0 g.m g.mark (nth c g.m j)
      bytes =
          along 0 r.mark (place 0 g.m g.mark) (place_zero 0 g.m g.mark)
          (λ j l.
          at j l 0 r.mark (λ i. get_or g.mark i 0) h.mark
          ∙ sym (place_at 0 g.m g.mark (old j l).place (old j l).low))

      mark : (j : ℕ) → mark_of (place 0 r.m r.mark j) ≡ mark_over s (network g) (nth c g.m j)
      mark j = ap mark_of (bytes j) ∙ go j
        where
          untouched : (j : ℕ) → touched s (network g) (nth c g.m j) ≡ false
          untouched zero = ap (touched s (network g)) (nth_zero c g.m) ∙ none_touched
          untouched (suc j) = pick (dec_le (suc j) r.m)
            where
              pick : Dec (j < r.m) → touched s (network g) (nth c g.m (suc j)) ≡ false
              pick (yes l) = ap (touched s (network g)) (old-nth j l) ∙ old_free j l
              pick (no l) = ap (touched s (network g)) (nth_past c g.m (suc j) (omega (arith, h.m))) ∙ none_touched

          go : (j : ℕ) → mark_of (place 0 g.m g.mark (nth c g.m j)) ≡ mark_over s (network g) (nth c g.m j)
          go j =
              sym (ap (λ (b : Bool). cond b excluded ((network g).mark (nth c g.m j))) (untouched j) ∙ unfold network in refl)

  -- ---- it is valid

  -- new places are in the order of the old ones
  old-up : (i : ℕ) (k : i < r.m) (j : ℕ) (l : j < r.m) → i < j → (old i k).place < (old j l).place
  old-up i k j l b = go (dec_le (suc (old i k).place) (old j l).place)
    where
      go : Dec ((old i k).place < (old j l).place) → (old i k).place < (old j l).place
      go (yes p) = p
      go (no p) =
          absurd (omega (arith, rank_mono c (old j l).place (old i k).place (omega arith), old-rank i k, old-rank j l))

  network_ok : Valid (network r)
  network_ok = subst Valid (sym renumbered_network) (compact-valid s (network g) f c keeping)

  -- AND IT IS VALID
  pub renumbered_valid : value.Valid r
  renumbered_valid = record {
    low = unfold network in (omega (arith, h.n, f.three, count_is s g.n));
    high = omega (arith, h.n, rank_most (active s) g.n, v.high);
    few = omega (arith, h.m, rank_most c g.m, v.few);
    each = λ j l.
        let i : suc j ∈ up_to (network r).m = unfold network in of_edge r.m j l in
        record {
          from = omega (arith, network_ok.low (suc j) i, network_a r j l);
          less = omega (arith, network_ok.apart (suc j) i, network_a r j l, network_b r j l);
          to = unfold network in (omega (arith, network_ok.high (suc j) i, network_b r j l));
          range =
              ap (within max_cost) (at j l (pos 0) r.cost (λ i. get_or g.cost i (pos 0)) h.cost)
              ∙ (v.each (old j l).place (old j l).low).range;
          known = omega (arith, (v.each (old j l).place (old j l).low).known, at j l 0 r.mark (λ i. get_or g.mark i 0) h.mark);
        };
    once = λ i j b l q.
        let k : i < r.m = omega arith in
        v.once (old i k).place (old j l).place (old-up i k j l b) (old j l).low (record {
          a = same_a i k j l (sym (at_a_lem i k) ∙ q.a ∙ at_a_lem j l);
          b = same_b i k j l (sym (at_b i k) ∙ q.b ∙ at_b j l);
        });
  }
    where
      same_a : (i : ℕ) (k : i < r.m) (j : ℕ) (l : j < r.m)
          → rank (active s) (get_or g.a (old i k).place 0) ≡ rank (active s) (get_or g.a (old j l).place 0)
          → get_or g.a (old i k).place 0 ≡ get_or g.a (old j l).place 0
      same_a i k j l e =
          let x = network_a g (old i k).place (old i k).low in
          let y = network_a g (old j l).place (old j l).low in
          sym x
          ∙ live_same s (network g) f _ _ (a_live s (network g) f _ (old_in i k) (old_free i k))
          (a_live s (network g) f _ (old_in j l) (old_free j l))
          (ap (rank (active s)) x ∙ e ∙ ap (rank (active s)) (sym y))
          ∙ y

      same_b : (i : ℕ) (k : i < r.m) (j : ℕ) (l : j < r.m)
          → rank (active s) (get_or g.b (old i k).place 0) ≡ rank (active s) (get_or g.b (old j l).place 0)
          → get_or g.b (old i k).place 0 ≡ get_or g.b (old j l).place 0
      same_b i k j l e =
          let x = network_b g (old i k).place (old i k).low in
          let y = network_b g (old j l).place (old j l).low in
          sym x
          ∙ live_same s (network g) f _ _ (b_live s (network g) f _ (old_in i k) (old_free i k))
          (b_live s (network g) f _ (old_in j l) (old_free j l))
          (ap (rank (active s)) x ∙ e ∙ ap (rank (active s)) (sym y))
          ∙ y
