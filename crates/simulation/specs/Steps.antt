-- One step of each loop, as its code makes it: of the walk along a list of edges, and of the sailing. Assumes nothing.
use Rattle.std.specs.Prelude.{◌≡◌, refl, Bool, true, false, cond, ◌&&◌, List, ℕ, suc, ◌+◌, ◌-◌, ◌*◌, ◌≤◌, ◌<◌, eqb, leb, length, get_or, set, take, drop, ℤ, pos, ◌+ℤ◌, Option, Some, None}
use Rattle.std.proofs.Math.Path.{sym, ap}
use Rattle.std.proofs.Common.{◌∙◌, subst, add-one, get_or-set_same}
use native.Mathlib.Omega.{arith}
use Rattle.std.proofs.Math.Seq.{get_or-set_other, take-length}
use borrow.Author.Count.{below_more}
use borrow.Author.Tests.{le-leb, lt-leb, leb-true, leb-false, eq-eqb, ne_eqb}
use Rattle.lists.specs.Bools.{by_cases, and_both}
use Rattle.lists.specs.Sets.{NumberSet}
use Rattle.integers.specs.Range.{InRange}
use Rattle.graph.specs.Limits.{max_cost}
use Rattle.graph.specs.declared.Graph.{Graph}
use Rattle.graph.specs.Network.{Network, network}
use Rattle.graph.specs.Places.{network_a, network_b}
use Rattle.tree_theory.specs.Valid.{Valid}
use Rattle.sailing.specs.Draws.{max_spread, next, after, delay}
use Rattle.sailing.specs.Orders.{listed, touches, other_end, goes_on, walk, in_sailing_order}
use Rattle.sailing.specs.Walking.{listed_in, walk_on, walk_off, walk_end, walk_same, flag_more}
use Rattle.sailing.specs.Times.{times_from, total}
use Rattle.sailing.specs.Totals.{times-size, time_at, times_are, total-place, add_range}

-- ---- the walk

-- where edge k leads from u: nowhere if it is no edge, or does not touch u
unfoldable pub leads_to : Network → ℕ → ℕ → Option ℕ
unfolding listed touches other_end
leads_to g k u = cond (listed g k && touches g k u) (Some (other_end g k u)) None

module _ (g : Network) (k u : ℕ) where
  pub leads_not : (listed g k && touches g k u) ≡ false → leads_to g k u ≡ None
  unfolding leads_to
  leads_not h = rw h

  pub leads_there : (listed g k && touches g k u) ≡ true → leads_to g k u ≡ Some (other_end g k u)
  unfolding leads_to
  leads_there h = rw h

  -- where it leads nowhere, the walk does not go on
  pub stuck : (met : NumberSet) → leads_to g k u ≡ None → goes_on g met u k ≡ false
  unfolding goes_on
  stuck met e =
      by_cases (listed g k)
      (λ l. by_cases (touches g k u)
      (λ t. let there = leads_there (rw (l, t)) in cc)
      (λ t. rw (l, t)))
      (λ l. rw l)

  module _ (v : ℕ) (e : leads_to g k u ≡ Some v) where
    goes : (listed g k ≡ true) × (touches g k u ≡ true) × (other_end g k u ≡ v)
    goes =
        by_cases (listed g k && touches g k u)
        (λ t. let p = and_both (listed g k) (touches g k u) t in
        let there = leads_there t in (p.0, p.1, cc))
        (λ t. let nowhere = leads_not t in cc)

    -- it is a vertex
    pub leads_most : Valid g → v ≤ g.n
    unfolding other_end
    leads_most valid =
        let i = listed_in g k goes.0 in
        let apart = valid.apart k i in
        let high = valid.high k i in
        by_cases (eqb (g.a k) u)
        (λ t. let there : g.b k ≡ v = (rw t at goes.2) in omega (arith, there, high))
        (λ t. let there : g.a k ≡ v = (rw t at goes.2) in omega (arith, there, apart, high))

    -- where the vertex was come to before, the walk does not go on either
    pub come_to_again : (met : NumberSet) → met v ≡ true → goes_on g met u k ≡ false
    unfolding goes_on
    come_to_again met b = rw (goes.0, goes.1, goes.2, b)

    -- elsewhere it does, to that vertex
    pub leads_on : (met : NumberSet) → met v ≡ false → (goes_on g met u k ≡ true) × (other_end g k u ≡ v)
    unfolding goes_on
    leads_on met b = (rw (goes.0, goes.1, goes.2, b), goes.2)

-- the same, by the arrays of a graph value
module _ (g : Graph) (k u : ℕ) where
  pub leads_not_listed : (1 ≤ k → k ≤ g.m → ⊥) → leads_to (network g) k u ≡ None
  unfolding listed network
  leads_not_listed h =
      leads_not (network g) k u
      (by_cases (leb 1 k) (λ l. rw (l, lt-leb k g.m (not_le (h (leb-true 1 k l))))) (λ l. rw l))
    where
      not_le : (k ≤ g.m → ⊥) → g.m < k
      not_le n = by_cases (leb k g.m) (λ t. absurd (n (leb-true k g.m t))) (λ t. leb-false k g.m t)

  module _ (least : 1 ≤ k) (most : k ≤ g.m) where
    a_at_lem : (network g).a k ≡ get_or g.a (k - 1) 0
    a_at_lem = subst (λ (x : ℕ). (network g).a x ≡ get_or g.a (k - 1) 0) (omega arith) (network_a g (k - 1) (omega arith))

    b_at : (network g).b k ≡ get_or g.b (k - 1) 0
    b_at = subst (λ (x : ℕ). (network g).b x ≡ get_or g.b (k - 1) 0) (omega arith) (network_b g (k - 1) (omega arith))

    is_listed : listed (network g) k ≡ true
    unfolding listed network
    is_listed = rw (le-leb 1 k least, le-leb k g.m most)

    pub leads_from_a : get_or g.a (k - 1) 0 ≡ u → leads_to (network g) k u ≡ Some (get_or g.b (k - 1) 0)
    unfolding touches other_end
    leads_from_a e =
        leads_there (network g) k u (rw (is_listed, eq-eqb ((network g).a k) u (a_at_lem ∙ e)))
        ∙ rw (eq-eqb ((network g).a k) u (a_at_lem ∙ e)) (ap (λ (v : ℕ). Some v) b_at)

    pub leads_from_b : ¬ (get_or g.a (k - 1) 0 ≡ u) → get_or g.b (k - 1) 0 ≡ u → leads_to (network g) k u ≡ Some (get_or g.a (k - 1) 0)
    unfolding touches other_end
    leads_from_b n e =
        leads_there (network g) k u (rw (is_listed, ne_eqb ((network g).a k) u (λ h. n (sym a_at_lem ∙ h)), eq-eqb ((network g).b k) u (b_at ∙ e)))
        ∙ rw (ne_eqb ((network g).a k) u (λ h. n (sym a_at_lem ∙ h))) (ap (λ (v : ℕ). Some v) a_at_lem)

    pub leads_nowhere : ¬ (get_or g.a (k - 1) 0 ≡ u) → ¬ (get_or g.b (k - 1) 0 ≡ u) → leads_to (network g) k u ≡ None
    unfolding touches
    leads_nowhere n o =
        leads_not (network g) k u
        (rw (is_listed, ne_eqb ((network g).a k) u (λ h. n (sym a_at_lem ∙ h)), ne_eqb ((network g).b k) u (λ h. o (sym b_at ∙ h))))

-- the vertices that flags say were come to
abbrev pub flagged : List Bool → NumberSet
flagged flags v = get_or flags v false

-- what the walk says from place i on is what it says of the whole list
abbrev pub WalkedTo : Network → List ℕ → List Bool → ℕ → ℕ → Type 0
WalkedTo g ks flags u i = walk g (flagged flags) u (drop i ks) ≡ walk g (λ v. false) 1 ks

module _ (g : Network) (ks : List ℕ) (size : length ks ≡ g.n) where
  -- the test, by the walk
  pub walk_is : in_sailing_order g ks ≡ walk g (λ v. false) 1 ks
  unfolding in_sailing_order
  walk_is = rw (eq-eqb (length ks) g.n size)

  pub walked_all : (flags : List Bool) (u : ℕ) → WalkedTo g ks flags u (length ks) → in_sailing_order g ks ≡ eqb u 1
  walked_all flags u so_far = walk_is ∙ sym so_far ∙ walk_end g ks (flagged flags) u

module _ (g : Network) (ks : List ℕ) (flags : List Bool) (u i : ℕ) (h : i < length ks) (so_far : WalkedTo g ks flags u i) where
  pub walk_stops : goes_on g (flagged flags) u (get_or ks i 0) ≡ false → walk g (λ v. false) 1 ks ≡ false
  walk_stops off = sym so_far ∙ walk_off g ks (flagged flags) u i h off

  pub walk_goes : (v : ℕ) → goes_on g (flagged flags) u (get_or ks i 0) ≡ true → other_end g (get_or ks i 0) u ≡ v → v < length flags
      → WalkedTo g ks (set flags v true) v (i + 1)
  walk_goes v on there small =
      walk_same g (drop (i + 1) ks) (flagged (set flags v true)) _ v (flag_more flags v small)
      ∙ sym (rw there at (walk_on g ks (flagged flags) u i h on)) ∙ so_far

-- ---- the sailing

-- an edge's cost, as an array has it
abbrev pub cost_in : List ℤ → ℕ → ℤ
cost_in costs k = get_or costs (k - 1) (pos 0)

-- the first i edges are sailed
pub record SailedTo (costs : List ℤ) (ks : List ℕ) (student e i : ℕ) (times : List ℤ) (sum : ℤ) (s : ℕ) : Type 0 where
  pub state : s ≡ after i student
  pub each : (j : ℕ) → j < i → get_or times j (pos 0) ≡ get_or (times_from (cost_in costs) e student ks) j (pos 0)
  pub sum_is : sum ≡ total (take i (times_from (cost_in costs) e student ks))
  pub range : InRange ((max_cost + max_spread) * i) sum

module _ (costs : List ℤ) (ks : List ℕ) (student e : ℕ) where
  abbrev all_times : List ℤ
  all_times = times_from (cost_in costs) e student ks

  pub sailed_none : (times : List ℤ) → SailedTo costs ks student e 0 times (pos 0) student
  unfolding after total
  sailed_none times = record { state = refl; each = λ j h. absurd (omega arith); sum_is = refl; range = record { high = omega arith; low = omega arith } }

  pub sailed_next : (i : ℕ) (times : List ℤ) (sum t : ℤ) (s s' : ℕ) → i < length ks → i < length times
      → SailedTo costs ks student e i times sum s → s' ≡ next s → t ≡ cost_in costs (get_or ks i 0) +ℤ delay e s'
      → InRange (max_cost + max_spread) t → SailedTo costs ks student e (i + 1) (set times i t) (sum +ℤ t) s'
  unfolding after
  sailed_next i times sum t s s' h room so_far drawn is small = record {
    state = state-next;
    each = below_more _ i (λ j l. get_or-set_other times i j t (pos 0) (λ q. omega arith) ∙ so_far.each j l)
        (get_or-set_same times i t (pos 0) room ∙ at_i);
    sum_is = ap (λ (z : ℤ). z +ℤ t) so_far.sum_is ∙ ap (λ (z : ℤ). total (take i all_times) +ℤ z) at_i ∙ sym (total-place all_times i (omega (arith, h, times-size (cost_in costs) e student ks)));
    range = more (add_range _ _ sum t so_far.range small);
  }
    where
      state-next : s' ≡ after (i + 1) student
      state-next = rw (add-one) (drawn ∙ ap next so_far.state)

      at_i : t ≡ get_or all_times i (pos 0)
      at_i = is ∙ ap (λ (x : ℕ). cost_in costs (get_or ks i 0) +ℤ delay e x) (drawn ∙ ap next so_far.state) ∙ sym (time_at (cost_in costs) e student ks i h)

      more : InRange ((max_cost + max_spread) * i + (max_cost + max_spread)) (sum +ℤ t) → InRange ((max_cost + max_spread) * (i + 1)) (sum +ℤ t)
      more r = record { high = omega (arith, r.high); low = omega (arith, r.low) }

  -- all are
  pub sailed_all : (cost : ℕ → ℤ) (times : List ℤ) (sum : ℤ) (s : ℕ) → length times ≡ length ks
      → ((i : ℕ) → i < length ks → cost (get_or ks i 0) ≡ cost_in costs (get_or ks i 0))
      → SailedTo costs ks student e (length ks) times sum s
      → (sum ≡ total (times_from cost e student ks)) × (s ≡ after (length ks) student) × (times ≡ times_from cost e student ks)
  sailed_all cost times sum s size same done = (
    done.sum_is ∙ ap total (whole ∙ sym alike),
    done.state,
    times_are cost e student ks times size
        (λ i l. done.each i l ∙ time_at (cost_in costs) e student ks i l ∙ ap (λ (z : ℤ). z +ℤ delay e (after (suc i) student)) (sym (same i l))),
  )
    where
      whole : take (length ks) all_times ≡ all_times
      whole = ap (λ (n : ℕ). take n all_times) (sym (times-size (cost_in costs) e student ks)) ∙ take-length all_times

      alike : times_from cost e student ks ≡ all_times
      alike =
          times_are (cost_in costs) e student ks (times_from cost e student ks) (times-size cost e student ks)
          (λ i l. time_at cost e student ks i l ∙ ap (λ (z : ℤ). z +ℤ delay e (after (suc i) student)) (same i l))
