-- What the loops of lifting leave are the rulings with lifting: from the best changes, the least costs and the degrees that they find. Assumes nothing.
use Rattle.std.specs.Prelude.{◌≡◌, refl, ◌≢◌, Bool, true, false, not, cond, List, ℕ, zero, suc, ◌<◌, length, get_or, eqb, ℤ, pos}
use Rattle.std.proofs.Common.{◌∙◌, sym, ap, subst, arith, eq-eqb, ne_eqb, eqb-true, true≢false}
use Rattle.std.proofs.Math.Decide.{ℕ_discrete, dec_le}
use Rattle.std.proofs.Math.ListN.{get_or-eq_default}
use Rattle.lists.specs.Bools.{and_both}
use Rattle.lists.specs.FilledFrom.{Updated}
use Rattle.integers.specs.Range.{InRange}
use Rattle.graph.specs.declared.Graph.{Graph}
use Rattle.graph.specs.Limits.{max_multiplier}
use Rattle.graph.specs.Network.{Network, network}
use Rattle.graph.specs.Places.{network_a, network_b}
use Rattle.tree_theory.specs.Enumeration.{Ruling, keeps, forces, bars, was_required, was_excluded, ruling}
use Rattle.tree_theory.specs.Rulings.{rules_required, rules_excluded}
use Rattle.tree_theory.specs.Optimal.Exchange.{least_minimal}
use Rattle.tree_theory.specs.Scaled.{scaled_by}
use Rattle.tree_theory.specs.Scaling.{valid_scaled}
use Rattle.tree_theory.specs.Inputs.{multiplier}
use Rattle.tree_theory.specs.Arrays.{entry, bytes, in_edge, mark_required, mark_excluded, network-valid}
use Rattle.greedy.specs.Charged.{no_charge, offset, offs}
use Rattle.greedy.specs.Fits.{none_exceeds}
use Rattle.swaps.specs.RootedTree.{Labelled, free_mark}
use Rattle.swaps.specs.Swaps.{mark_at}
use Rattle.tours.specs.Tours.{degree}
use Rattle.tours.specs.Counted.{DegreesTo, degree_all}
use Rattle.lifting.specs.Lifted.{ruling_with}
use Rattle.lifting.specs.Rulings.{unlifted, ruled_stays}
use Rattle.lifting.specs.Allowed.{alone}
use Rattle.lifting.specs.Folds.{least_to, Listed}
use Rattle.lifting.specs.Found.{Context, top_of, place_of, top_at, low_at}
use Rattle.lifting.specs.Meeting.{on_in, InPlace, OutPlace, context}
use Rattle.lifting.specs.Verdict.{end_move, room_of, decides}
use Rattle.lifting.specs.Loops.{belongs, PlacesTo}
use Rattle.lifting.proofs.Verdict.{lifts_inside, lifts_outside}
use Rattle.onetree.specs.declared.rooted.LeastTree.{LeastTree}
use Rattle.onetree.specs.declared.picks.Pick.{Pick}
use Rattle.onetree.specs.declared.picks.Swapping.{Swapping}
use Rattle.onetree.specs.declared.lifts.Lifting.{Lifting}
use Rattle.onetree.specs.Answers.{ruling_byte}
use Rattle.onetree.specs.Verdicts.{Judgement}
use Rattle.onetree.specs.HungTree.{rooting_of}
use Rattle.onetree.specs.Outside.{Ready}
use Rattle.onetree.specs.Ruled.{ListsFit, RuledBy}
use Rattle.onetree.specs.Picks.{no_pick, belongs_at, side_table, sides_are, meets_by, cost_by, PickBy, PicksTo}
use Rattle.onetree.specs.Lifts.{lows_of, shift_by, tried_by, lifted_at}

-- what the last loop rests on: s tells which edges change places; ins and outs are the places of the free edges of the tree and of those outside it
pub record ReadyToLift (l : Lifting) (s : Swapping) (ins outs : List ℕ) (old : List ℕ) : Type 0 where
  pub same : s.tree ≡ l.tree
  pub dearest : ℕ
  pub cheapest : ℕ
  pub ready : Ready l.tree.graph.now l.tree.lists.now.tree l.tree.lists.now.charges l.tree.lists.now.labels (rooting_of s.hung.now) s.hung.now.weight
      dearest cheapest
  pub labelled : Labelled l.tree.graph.now l.tree.lists.now.labels s.ends.now.from s.ends.now.to
  pub inner : PlacesTo (belongs_at l.tree.graph.now.mark l.tree.lists.now.tree true) ins l.tree.graph.now.m
  pub outer : PlacesTo (belongs_at l.tree.graph.now.mark l.tree.lists.now.tree false) outs l.tree.graph.now.m
  pub none : List Pick
  pub half : List Pick
  pub picks_out : PicksTo s false outs ins none half l.fall.now (length outs)
  pub picks_in : PicksTo s true ins outs half l.picks.now l.rise.now (length ins)
  pub degrees : DegreesTo l.tree.graph.now.m l.tree.graph.now l.tree.lists.now.tree l.degrees.now
  pub fits : ListsFit l.tree.graph.now l.tree.lists.now l.multipliers.now l.slack
  pub ruled : RuledBy false l.tree.graph.now l.multipliers.now l.tree.lists.now.tree l.tree.lists.now.charges l.slack old

-- ---- bytes of rulings

keeps_byte : (x : Ruling) → ruling_byte x ≡ 0 → x ≡ keeps
keeps_byte keeps e = refl
keeps_byte forces e = absurd (omega (arith, e))
keeps_byte bars e = absurd (omega (arith, e))
keeps_byte was_required e = absurd (omega (arith, e))
keeps_byte was_excluded e = absurd (omega (arith, e))

forces_byte : (b : Bool) → ruling_byte (cond b forces keeps) ≡ cond b 1 0
forces_byte true = refl
forces_byte false = refl

bars_byte : (b : Bool) → ruling_byte (cond b bars keeps) ≡ cond b 2 0
bars_byte true = refl
bars_byte false = refl

-- ---- the least of a list goes by the numbers of what is listed

least_cong : (none : ℕ) (test : ℕ → Bool) (x y : ℕ → ℕ) (list : List ℕ) (n : ℕ) → ((i : ℕ) → i < n → x (get_or list i 0) ≡ y (get_or list i 0))
    → least_to none test x list n ≡ least_to none test y list n
unfolding least_to
least_cong none test x y list zero h = refl
least_cong none test x y list (suc n) h = rw (h n (omega arith), least_cong none test x y list n (λ i l. h i (omega arith)))

-- ---- places

in_place : (g : Graph) (w : List ℕ) (k : ℕ) → k < g.m → belongs_at g.mark w true k ≡ true → InPlace g w k
unfolding belongs
in_place g w k h e =
    let b = and_both (eqb (get_or g.mark k 0) 0) (eqb (get_or w k 0) 1) e in
    record { early = h; chosen = eqb-true (get_or w k 0) 1 b.1; free = eqb-true (get_or g.mark k 0) 0 b.0 }

out_place : (g : Graph) (w : List ℕ) (k : ℕ) → k < g.m → belongs_at g.mark w false k ≡ true → OutPlace g w k
unfolding belongs
out_place g w k h e =
    let b = and_both (eqb (get_or g.mark k 0) 0) (not (eqb (get_or w k 0) 1)) e in
    record { early = h; other = λ q. true≢false (sym b.1 ∙ rw (eq-eqb (get_or w k 0) 1 q)); free = eqb-true (get_or g.mark k 0) 0 b.0 }

place_in : (g : Graph) (w : List ℕ) (k : ℕ) → InPlace g w k → belongs_at g.mark w true k ≡ true
unfolding belongs
place_in g w k p = rw (eq-eqb (get_or g.mark k 0) 0 p.free, eq-eqb (get_or w k 0) 1 p.chosen)

place_out : (g : Graph) (w : List ℕ) (k : ℕ) → OutPlace g w k → belongs_at g.mark w false k ≡ true
unfolding belongs
place_out g w k p = rw (eq-eqb (get_or g.mark k 0) 0 p.free, ne_eqb (get_or w k 0) 1 p.other)

-- a list of places of a test is one of whatever the test tells
listed_as : (P : ℕ → Type 0) (test : ℕ → Bool) (list : List ℕ) (m : ℕ) → PlacesTo test list m → ((k : ℕ) → k < m → test k ≡ true → P k)
    → ((k : ℕ) → P k → (k < m) × (test k ≡ true)) → Listed P list (length list)
listed_as P test list m l there back = record {
  each = λ i h. let r = l.each i h in there (get_or list i 0) r.0 r.1;
  all = λ f p. let r = back f p in l.all f r.0 r.1;
  rising = l.rising;
}

-- every multiplier is in its range, that of no vertex too
ranged_at : (m : ℕ) (d : List ℤ) → ((k : ℕ) → k < length d → InRange m (get_or d k (pos 0))) → (v : ℕ) → InRange m (multiplier d v)
unfolding multiplier
ranged_at m d h zero = record { high = omega arith; low = omega arith }
ranged_at m d h (suc k) = go (dec_le (suc k) (length d))
  where
    go : Dec (k < length d) → InRange m (get_or d k (pos 0))
    go (yes l) = h k l
    go (no l) = rw (get_or-eq_default d (pos 0) {n = k} (omega (arith, l))) (record { high = omega arith; low = omega arith })

-- a byte that is not 'keep' stays
lifted_other : (l : Lifting) (old k : ℕ) → old ≢ 0 → lifted_at l old k ≡ old
unfolding lifted_at
lifted_other l old k n = rw (ne_eqb old 0 n)

-- lifting by this 1-tree
abbrev of_tree : Lifting → LeastTree → Lifting
of_tree l t = record {
  tree = t;
  multipliers = l.multipliers;
  slack = l.slack;
  picks = l.picks;
  degrees = l.degrees;
  rise = l.rise;
  fall = l.fall;
}

module _ (l : Lifting) (s : Swapping) (ins outs old : List ℕ) (r : ReadyToLift (of_tree l s.tree) s ins outs old) where
  abbrev g : Graph
  g = s.tree.graph.now

  abbrev w : List ℕ
  w = s.tree.lists.now.tree

  abbrev c : List ℕ
  c = s.tree.lists.now.charges

  abbrev d : List ℤ
  d = l.multipliers.now

  abbrev on : ℕ → ℕ → Bool
  on = on_in g.a g.b

  abbrev here : Lifting
  here = of_tree l s.tree

  abbrev pick_at : ℕ → Pick
  pick_at k = get_or l.picks.now k no_pick

  -- what a change costs an edge, of either side
  abbrev cost : ℕ → ℕ
  cost k = cond (eqb (get_or w k 0) 1) (cost_by s true outs k) (cost_by s false ins k)

  ins_are : Listed (InPlace g w) ins (length ins)
  ins_are = listed_as (InPlace g w) (belongs_at g.mark w true) ins g.m r.inner (in_place g w) (λ k p. (p.early, place_in g w k p))

  outs_are : Listed (OutPlace g w) outs (length outs)
  outs_are = listed_as (OutPlace g w) (belongs_at g.mark w false) outs g.m r.outer (out_place g w) (λ k p. (p.early, place_out g w k p))

  cost_in : (f : ℕ) → InPlace g w f → cost f ≡ cost_by s true outs f
  cost_in f p = rw (eq-eqb (get_or w f 0) 1 p.chosen)

  cost_out : (f : ℕ) → OutPlace g w f → cost f ≡ cost_by s false ins f
  cost_out f p = rw (ne_eqb (get_or w f 0) 1 p.other)

  -- ---- the best of both sides

  best_in : (k : ℕ) → InPlace g w k → PickBy s true outs k (pick_at k)
  best_in k p = subst (λ (x : ℕ). PickBy s true outs x (pick_at x)) u.2 (r.picks_in.picked u.0 u.1)
    where
      u : (i : ℕ) × (i < length ins) × (get_or ins i 0 ≡ k)
      u = ins_are.all k p

  best_out : (k : ℕ) → OutPlace g w k → PickBy s false ins k (pick_at k)
  best_out k p = rw same (subst (λ (x : ℕ). PickBy s false ins x (get_or r.half x no_pick)) u.2 (r.picks_out.picked u.0 u.1))
    where
      u : (i : ℕ) × (i < length outs) × (get_or outs i 0 ≡ k)
      u = outs_are.all k p

      same : pick_at k ≡ get_or r.half k no_pick
      same = r.picks_in.rest k (λ i h e. p.other (subst (InPlace g w) e (ins_are.each i h)).chosen)

  -- ---- the least costs at a vertex

  lows_in : (v : ℕ) → v < 21 → get_or l.rise.now v 0 ≡ low_at no_charge on cost ins (length ins) v
  lows_in v h =
      r.picks_in.low v h
      ∙ sym (least_cong no_charge (on v) cost (cost_by s true outs) ins (length ins) (λ i h. cost_in (get_or ins i 0) (ins_are.each i h)))

  lows_out : (v : ℕ) → v < 21 → get_or l.fall.now v 0 ≡ low_at no_charge on cost outs (length outs) v
  lows_out v h =
      r.picks_out.low v h
      ∙ sym (least_cong no_charge (on v) cost (cost_by s false ins) outs (length outs) (λ i h. cost_out (get_or outs i 0) (outs_are.each i h)))

  module _ (den : ℕ) (z : ℤ) (j : Judgement den g w c l.slack d z) where
    abbrev net : Network
    net = scaled_by den (network g)

    degrees : (v : ℕ) → v < 21 → get_or l.degrees.now v 0 ≡ degree net (bytes w) v
    unfolding degree
    degrees v h = r.degrees.at v h ∙ degree_all g w v

    around : Context net (entry c) (bytes w) no_charge (InPlace g w) (OutPlace g w) (meets_by s) on
    around = context g r.ready.valid w r.ready.tree s.tree.lists.now.labels (rooting_of s.hung.now) r.ready.rooted s.ends.now.from s.ends.now.to r.labelled
        (side_table s.hung.now.parent s.hung.now.depth) (sides_are s.hung.now.parent s.hung.now.depth) den (multiplier d) offset c (offs den g d c j.charged) (least_minimal j.least) no_charge
        (λ k h. ((j.charged k h).low, omega (arith, none_exceeds (get_or c k 0) l.slack (j.charged k h).high j.small)))

    module _ (k : ℕ) (hk : k < g.m) where
      a_is : get_or g.a k 0 < 21
      a_is = omega (arith, (r.ready.valid.each k hk).less, (r.ready.valid.each k hk).to, r.ready.valid.high)

      b_is : get_or g.b k 0 < 21
      b_is = omega (arith, (r.ready.valid.each k hk).to, r.ready.valid.high)

      -- of one side: others has the edges of the other
      module _ (inside : Bool) (others : List ℕ) (best : PickBy s inside others k (pick_at k))
          (lows : (v : ℕ) → v < 21 → get_or (lows_of l inside) v 0 ≡ low_at no_charge on cost others (length others) v)
          (cost_is : cost k ≡ cost_by s inside others k) where
        abbrev place : ℕ
        place = place_of no_charge (entry c) (meets_by s) inside others (length others) k

        abbrev top : ℕ
        top = top_of no_charge (entry c) (meets_by s) inside others (length others) k

        -- how far the end i moves
        abbrev move_by : ℕ → ℕ → ℕ
        move_by i j = end_move inside i j (on i place) (degree net (bytes w) i) (room_of inside (multiplier d i))
            (low_at no_charge on cost others (length others) i) top
            (top_at no_charge (entry c) (meets_by s) on inside others (length others) i k)

        moves_by : (i j at : ℕ) → i < 21 → at ≡ top_at no_charge (entry c) (meets_by s) on inside others (length others) i k
            → shift_by here inside i j (pick_at k) at ≡ move_by i j
        unfolding shift_by
        moves_by i j at h e = rw (best.is_place, best.is_top, degrees i h, lows i h, e)

        -- and what is then decided
        tries_by : tried_by here inside k
            ≡ decides inside l.slack (cost k) (move_by (net.a (suc k)) (net.b (suc k))) (degree net (bytes w) (net.a (suc k)))
            (move_by (net.b (suc k)) (net.a (suc k))) (degree net (bytes w) (net.b (suc k)))
        unfolding tried_by
        tries_by =
            rw (
              network_a g k hk,
              network_b g k hk,
              cost_is,
              moves_by (get_or g.a k 0) (get_or g.b k 0) (pick_at k).at_a a_is best.is_a,
              moves_by (get_or g.b k 0) (get_or g.a k 0) (pick_at k).at_b b_is best.is_b,
              best.is_top,
              degrees (get_or g.a k 0) a_is,
              degrees (get_or g.b k 0) b_is,
            )

      -- ---- its byte

      -- the ordinary one
      is : get_or old k 0 ≡ ruling_byte (ruling net (multiplier d) z (suc k))
      is = r.ruled.each den z j k hk ∙ ap ruling_byte (unlifted net (multiplier d) z (suc k))

      -- an edge that the ordinary pass keeps is free
      free : get_or old k 0 ≡ 0 → mark_at g k ≡ 0
      free e = free_mark (mark_at g k) (r.ready.valid.each k hk).known
          (λ q.
          let y : get_or old k 0 ≡ 3 =
          is ∙ ap ruling_byte (rules_required net (multiplier d) z (suc k) (in_edge g k hk) (mark_required g k hk q)) in
          omega (arith, y, e))
          (λ q.
          let y : get_or old k 0 ≡ 4 =
          is ∙ ap ruling_byte (rules_excluded net (multiplier d) z (suc k) (in_edge g k hk) (mark_excluded g k hk q)) in
          omega (arith, y, e))

      kept : get_or old k 0 ≡ 0 → ruling net (multiplier d) z (suc k) ≡ keeps
      kept e = keeps_byte (ruling net (multiplier d) z (suc k)) (sym is ∙ e)

      -- what lifting makes of it, in the tree and outside it
      byte_in : get_or old k 0 ≡ 0 → InPlace g w k
          → lifted_at here (get_or old k 0) k ≡ ruling_byte (ruling_with true net (multiplier d) z (suc k))
      unfolding lifted_at
      byte_in e p = rw (eq-eqb (get_or old k 0) 0 e, eq-eqb (get_or w k 0) 1 p.chosen)
          (sym (ap ruling_byte lift ∙ forces_byte (tried_by here true k)))
        where
          lift : ruling_with true net (multiplier d) z (suc k) ≡ cond (tried_by here true k) forces keeps
          lift = rw (tries_by true outs (best_in k p) lows_out (cost_in k p))
              (lifts_inside net (valid_scaled den (network g) (network-valid g r.ready.valid)) (multiplier d) offset (entry c)
              (offs den g d c j.charged) (bytes w) j.least z l.slack j.within no_charge (omega arith) (InPlace g w) (OutPlace g w) (meets_by s)
              on around ins outs (length ins) (length outs) ins_are outs_are cost cost_in cost_out k (in_edge g k hk)
              (alone g r.ready.valid k hk) (ranged_at max_multiplier d r.fits.ranged) (kept e) p (eq-eqb (get_or w k 0) 1 p.chosen))

      byte_out : get_or old k 0 ≡ 0 → OutPlace g w k
          → lifted_at here (get_or old k 0) k ≡ ruling_byte (ruling_with true net (multiplier d) z (suc k))
      unfolding lifted_at
      byte_out e p = rw (eq-eqb (get_or old k 0) 0 e, ne_eqb (get_or w k 0) 1 p.other)
          (sym (ap ruling_byte lift ∙ bars_byte (tried_by here false k)))
        where
          lift : ruling_with true net (multiplier d) z (suc k) ≡ cond (tried_by here false k) bars keeps
          lift = rw (tries_by false ins (best_out k p) lows_in (cost_out k p))
              (lifts_outside net (valid_scaled den (network g) (network-valid g r.ready.valid)) (multiplier d) offset (entry c)
              (offs den g d c j.charged) (bytes w) j.least z l.slack j.within no_charge (omega arith) (InPlace g w) (OutPlace g w) (meets_by s)
              on around ins outs (length ins) (length outs) ins_are outs_are cost cost_in cost_out k (in_edge g k hk)
              (alone g r.ready.valid k hk) (ranged_at max_multiplier d r.fits.ranged) (kept e) p (ne_eqb (get_or w k 0) 1 p.other))

      byte : lifted_at here (get_or old k 0) k ≡ ruling_byte (ruling_with true net (multiplier d) z (suc k))
      byte = go (ℕ_discrete (get_or old k 0) 0) (ℕ_discrete (get_or w k 0) 1)
        where
          go : Dec (get_or old k 0 ≡ 0) → Dec (get_or w k 0 ≡ 1)
              → lifted_at here (get_or old k 0) k ≡ ruling_byte (ruling_with true net (multiplier d) z (suc k))
          go (yes e) (yes i) = byte_in e (record { early = hk; chosen = i; free = free e })
          go (yes e) (no o) = byte_out e (record { early = hk; other = o; free = free e })
          go (no n) i = lifted_other here (get_or old k 0) k n ∙ is
              ∙ sym (ap ruling_byte (ruled_stays net (multiplier d) z (suc k) (λ q. n (is ∙ ap ruling_byte q))))

  -- the rulings, where both have one 1-tree
  lifted_here : (res : List ℕ) → Updated (λ k. lifted_at here (get_or old k 0) k) old res g.m → RuledBy true g d w c l.slack res
  lifted_here res u = record {
    each = λ den z j k hk. u.done k hk ∙ byte den z j k hk;
    past = λ k h. u.rest k h ∙ r.ruled.past k h;
  }

-- THE RULINGS WITH LIFTING
pub lifted_by : (l : Lifting) (s : Swapping) (ins outs old res : List ℕ) → ReadyToLift l s ins outs old
    → Updated (λ k. lifted_at l (get_or old k 0) k) old res l.tree.graph.now.m
    → RuledBy true l.tree.graph.now l.multipliers.now l.tree.lists.now.tree l.tree.lists.now.charges l.slack res
lifted_by l s ins outs old res r u =
    subst (λ (t : LeastTree). ReadyToLift (of_tree l t) s ins outs old
    → Updated (λ k. lifted_at (of_tree l t) (get_or old k 0) k) old res t.graph.now.m
    → RuledBy true t.graph.now l.multipliers.now t.lists.now.tree t.lists.now.charges l.slack res)
    r.same (λ q v. lifted_here l s ins outs old q res v) r u
