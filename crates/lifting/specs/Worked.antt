-- How a program works a change out: by the natural numbers that it keeps for the charges of the pass, over the pairs of edges that may change places. What it
-- finds so is the support, the replacement, the rise and the fall of Lifted; and the two sums that then decide. Assumes nothing.
use Rattle.std.specs.Prelude.{◌≡◌, ◌≢◌, ◌↔◌, ◌⊎◌, true, false, ℕ, ◌+◌, ◌*◌, ◌<◌, ◌≤◌, ℤ, pos, ◌+ℤ◌, ◌-ℤ◌, ◌≤ℤ◌}
use Rattle.std.proofs.Common.{sym, ap, ◌∙◌, subst, inl, inr, arith}
use mathlib.Core.Logic.Iff.{trans}
use Rattle.lists.specs.Members.{◌∈◌}
use Rattle.lists.specs.Numbers.{up_to}
use Rattle.integers.specs.Parts.{up, dn, add_parts, le_parts, parts_le}
use Rattle.integers.specs.Differences.{sub_parts}
use Rattle.integers.specs.Order.{le_antisym}
use Rattle.integers.specs.Range.{InRange}
use Rattle.graph.specs.Limits.{max_multiplier}
use Rattle.graph.specs.Network.{Network}
use Rattle.tree_theory.specs.OneTree.{Edges, charge, bound, Barred, Forced}
use Rattle.tree_theory.specs.Valid.{Valid}
use Rattle.tree_theory.specs.Optimal.Bound.{Shifted}
use Rattle.tree_theory.specs.Optimal.Exchange.{Minimal}
use Rattle.tree_theory.specs.Optimal.Criteria.{MaySwap}
use Rattle.swaps.specs.Slack.{SlackIs}
use Rattle.tours.specs.Tours.{degree}
use Rattle.lifting.specs.Lifted.{touches, rises, falls, rise, fall, raised, lowered}
use Rattle.lifting.specs.Plain.{Giver, Taker, IsSupport, IsReplacement, HoldsRise, HoldsFall}
use Rattle.lifting.specs.Chosen.{rise_is, rise-not, fall_is, fall-not}
use Rattle.lifting.specs.Moves.{Alone}
use Rattle.lifting.specs.Exactly.{tree_may, may_giver, may_taker, raised_exactly, lowered_exactly}
use Rattle.lifting.specs.InNumbers.{number-le, raise-number, fall-number}

-- f of t and h outside it may change places
pub record Pair (g : Network) (t : Edges) (f h : ℕ) : Type 0 where
  pub first : f ∈ up_to g.m
  pub second : h ∈ up_to g.m
  pub inside : t f ≡ true
  pub outside : t h ≡ false
  pub may : MaySwap g t f h

-- s is the dearest that may give way to e, and the lowest-numbered of equals
pub record BestGiver (g : Network) (c : ℕ → ℕ) (t : Edges) (e s : ℕ) : Type 0 where
  pub pair : Pair g t s e
  pub most : (f : ℕ) → Pair g t f e → c f ≤ c s
  pub lowest : (f : ℕ) → Pair g t f e → c f ≡ c s → s ≤ f

-- r is the cheapest that may take the place of e, likewise
pub record BestTaker (g : Network) (c : ℕ → ℕ) (t : Edges) (e r : ℕ) : Type 0 where
  pub pair : Pair g t e r
  pub least : (h : ℕ) → Pair g t e h → c r ≤ c h
  pub lowest : (h : ℕ) → Pair g t e h → c h ≡ c r → r ≤ h

-- v is the least of what holds a rise of the end i of e, whose support is s: in the numbers c
pub record LeastRise (g : Network) (d : ℕ → ℤ) (c : ℕ → ℕ) (t : Edges) (e s i j v : ℕ) : Type 0 where
  pub room : up (d i) + v ≤ max_multiplier + dn (d i)
  pub replaced : (f r : ℕ) → touches g i f ≡ true → BestTaker g c t f r → v + c f ≤ c r
  pub supported : j ≢ 1 → (f : ℕ) → touches g i f ≡ true → Pair g t f e → v + c f ≤ c s
  pub one : (up (d i) + v ≡ max_multiplier + dn (d i))
      ⊎ (((f : ℕ) × (r : ℕ) × (touches g i f ≡ true) × BestTaker g c t f r × (v + c f ≡ c r))
      ⊎ ((j ≢ 1) × ((f : ℕ) × (touches g i f ≡ true) × Pair g t f e × (v + c f ≡ c s))))

-- and of a fall, where its replacement is r
pub record LeastFall (g : Network) (d : ℕ → ℤ) (c : ℕ → ℕ) (t : Edges) (e r i j v : ℕ) : Type 0 where
  pub room : dn (d i) + v ≤ max_multiplier + up (d i)
  pub reduced : (h s : ℕ) → touches g i h ≡ true → BestGiver g c t h s → v + c s ≤ c h
  pub replaceable : j ≢ 1 → (h : ℕ) → touches g i h ≡ true → Pair g t e h → v + c r ≤ c h
  pub one : (dn (d i) + v ≡ max_multiplier + up (d i))
      ⊎ (((h : ℕ) × (s : ℕ) × (touches g i h ≡ true) × BestGiver g c t h s × (v + c s ≡ c h))
      ⊎ ((j ≢ 1) × ((h : ℕ) × (touches g i h ≡ true) × Pair g t e h × (v + c r ≡ c h))))

-- how far the end i of e moves: v, by the support s, or by the replacement r
abbrev pub RisesBy : Network → (ℕ → ℤ) → (ℕ → ℕ) → Edges → ℕ → ℕ → ℕ → ℕ → ℕ → Type 0
RisesBy g d c t e s i j v = ((rises g t s i ≡ true) × LeastRise g d c t e s i j v) ⊎ ((rises g t s i ≡ false) × (v ≡ 0))

abbrev pub FallsBy : Network → (ℕ → ℤ) → (ℕ → ℕ) → Edges → ℕ → ℕ → ℕ → ℕ → ℕ → Type 0
FallsBy g d c t e r i j v = ((falls g t r i ≡ true) × LeastFall g d c t e r i j v) ⊎ ((falls g t r i ≡ false) × (v ≡ 0))

-- ---- numbers

-- v + p ≤ q of numbers, for the charges that they stand for
under_diff : (v p q K : ℕ) (x y : ℤ) → up x + K ≡ p + dn x → up y + K ≡ q + dn y → v + p ≤ q → pos v ≤ℤ (y -ℤ x)
under_diff v p q K x y hx hy h = parts_le (pos v) (y -ℤ x) (omega (arith, sub_parts y x))

at_diff : (v p q K : ℕ) (x y : ℤ) → up x + K ≡ p + dn x → up y + K ≡ q + dn y → v + p ≡ q → pos v ≡ y -ℤ x
at_diff v p q K x y hx hy h =
    le_antisym (pos v) (y -ℤ x) (parts_le (pos v) (y -ℤ x) (omega (arith, sub_parts y x))) (parts_le (y -ℤ x) (pos v) (omega (arith, sub_parts y x)))

at_room : (v M : ℕ) (z : ℤ) → up z + v ≡ M + dn z → pos v ≡ pos M -ℤ z
at_room v M z h =
    le_antisym (pos v) (pos M -ℤ z) (parts_le (pos v) (pos M -ℤ z) (omega (arith, sub_parts (pos M) z)))
    (parts_le (pos M -ℤ z) (pos v) (omega (arith, sub_parts (pos M) z)))

under-room : (v M : ℕ) (z : ℤ) → up z + v ≤ M + dn z → pos v ≤ℤ (pos M -ℤ z)
under-room v M z h = parts_le (pos v) (pos M -ℤ z) (omega (arith, sub_parts (pos M) z))

at_floor : (v M : ℕ) (z : ℤ) → dn z + v ≡ M + up z → pos v ≡ z +ℤ pos M
at_floor v M z h =
    le_antisym (pos v) (z +ℤ pos M) (parts_le (pos v) (z +ℤ pos M) (omega (arith, add_parts z (pos M))))
    (parts_le (z +ℤ pos M) (pos v) (omega (arith, add_parts z (pos M))))

under_floor : (v M : ℕ) (z : ℤ) → dn z + v ≤ M + up z → pos v ≤ℤ (z +ℤ pos M)
under_floor v M z h = parts_le (pos v) (z +ℤ pos M) (omega (arith, add_parts z (pos M)))

module _ (g : Network) (vg : Valid g) (d : ℕ → ℤ) (K : ℕ) (c : ℕ → ℕ) (off : Shifted g d K c) (t : Edges) (l : Minimal g d t) where
  -- ---- pairs are givers and takers

  pair_giver : (f h : ℕ) → Pair g t f h → Giver g t h f
  pair_giver f h p = may_giver g vg d t l f h p.first p.second p.inside p.outside p.may

  pair_taker : (f h : ℕ) → Pair g t f h → Taker g t f h
  pair_taker f h p = may_taker g vg d t l f h p.first p.second p.inside p.outside p.may

  giver_pair : (f h : ℕ) → h ∈ up_to g.m → t h ≡ false → Giver g t h f → Pair g t f h
  giver_pair f h mh th r = record {
    first = r.listed;
    second = mh;
    inside = r.inside;
    outside = th;
    may = tree_may g vg d t l f h r.listed mh r.inside th r.tree;
  }

  taker_pair : (f h : ℕ) → f ∈ up_to g.m → t f ≡ true → Taker g t f h → Pair g t f h
  taker_pair f h mf tf r = record {
    first = mf;
    second = r.listed;
    inside = tf;
    outside = r.outside;
    may = tree_may g vg d t l f h mf r.listed tf r.outside r.tree;
  }

  level : (f h : ℕ) → f ∈ up_to g.m → h ∈ up_to g.m → charge g d f ≡ charge g d h → c f ≡ c h
  level f h mf mh e = omega (arith, off f mf, off h mh, ap up e, ap dn e)

  level_back : (f h : ℕ) → f ∈ up_to g.m → h ∈ up_to g.m → c f ≡ c h → charge g d f ≡ charge g d h
  level_back f h mf mh e =
      le_antisym (charge g d f) (charge g d h) (number-le g d K c off f h mf mh (omega arith)) (number-le g d K c off h f mh mf (omega arith))

  charge-le : (f h : ℕ) → f ∈ up_to g.m → h ∈ up_to g.m → charge g d f ≤ℤ charge g d h → c f ≤ c h
  charge-le f h mf mh e = omega (arith, off f mf, off h mh, le_parts (charge g d f) (charge g d h) e)

  -- ---- the best are the support and the replacement

  pub best-support : (e s : ℕ) → BestGiver g c t e s → IsSupport g d t e s
  best-support e s b =
      let p : Pair g t s e = b.pair in
      record {
        giver = pair_giver s e p;
        dearest = λ f r. let q : Pair g t f e = giver_pair f e p.second p.outside r in number-le g d K c off f s q.first p.first (b.most f q);
        lowest = λ f r z. let q : Pair g t f e = giver_pair f e p.second p.outside r in b.lowest f q (level f s q.first p.first z);
      }

  pub best-replacement : (e r : ℕ) → BestTaker g c t e r → IsReplacement g d t e r
  best-replacement e r b =
      let p : Pair g t e r = b.pair in
      record {
        taker = pair_taker e r p;
        cheapest = λ h k. let q : Pair g t e h = taker_pair e h p.first p.inside k in number-le g d K c off r h p.second q.second (b.least h q);
        lowest = λ h k z. let q : Pair g t e h = taker_pair e h p.first p.inside k in b.lowest h q (level h r q.second p.second z);
      }

  pub support-best : (e s : ℕ) → e ∈ up_to g.m → t e ≡ false → IsSupport g d t e s → BestGiver g c t e s
  support-best e s me te b =
      let p : Pair g t s e = giver_pair s e me te b.giver in
      record {
        pair = p;
        most = λ f q. charge-le f s q.first p.first (b.dearest f (pair_giver f e q));
        lowest = λ f q z. b.lowest f (pair_giver f e q) (level_back f s q.first p.first z);
      }

  pub replacement-best : (e r : ℕ) → e ∈ up_to g.m → t e ≡ true → IsReplacement g d t e r → BestTaker g c t e r
  replacement-best e r me te b =
      let p : Pair g t e r = taker_pair e r me te b.taker in
      record {
        pair = p;
        least = λ h q. charge-le r h p.second q.second (b.cheapest h (pair_taker e h q));
        lowest = λ h q z. b.lowest h (pair_taker e h q) (level_back h r q.second p.second z);
      }

  -- ---- the change of an end

  pub rise_worked : (e s i j v : ℕ) → BestGiver g c t e s → RisesBy g d c t e s i j v → rise g d t e i j ≡ pos v
  rise_worked e s i j v b (inr (r, z)) = rise-not g d t e s i j (best-support e s b) r ∙ ap pos (sym z)
  rise_worked e s i j v b (inl (r, w)) =
      le_antisym (rise g d t e i j) (pos v) (least (pos v) (is w.one)) (over (rise g d t e i j) itself)
    where
      p : Pair g t s e
      p = b.pair

      itself : HoldsRise g d t e s i j (rise g d t e i j)
      itself = (rise_is g d t e s i j (best-support e s b) r).itself

      least : (x : ℤ) → HoldsRise g d t e s i j x → rise g d t e i j ≤ℤ x
      least = (rise_is g d t e s i j (best-support e s b) r).least

      is : (up (d i) + v ≡ max_multiplier + dn (d i))
          ⊎ (((f : ℕ) × (r : ℕ) × (touches g i f ≡ true) × BestTaker g c t f r × (v + c f ≡ c r))
          ⊎ ((j ≢ 1) × ((f : ℕ) × (touches g i f ≡ true) × Pair g t f e × (v + c f ≡ c s))))
          → HoldsRise g d t e s i j (pos v)
      is (inl h) = inl (at_room v max_multiplier (d i) h)
      is (inr (inl (f, y, k, x, h))) =
          let q : Pair g t f y = x.pair in
          inr (inl (record {
            f = f;
            listed = q.first;
            inside = q.inside;
            loose = (pair_giver f y q).loose;
            end = k;
            r = y;
            replacement = best-replacement f y x;
            is = at_diff v (c f) (c y) K (charge g d f) (charge g d y) (off f q.first) (off y q.second) h;
          }))
      is (inr (inr (n, (f, k, q, h)))) =
          inr (inr (
            n,
            record {
              f = f;
              giver = pair_giver f e q;
              end = k;
              is = at_diff v (c f) (c s) K (charge g d f) (charge g d s) (off f q.first) (off s p.first) h;
            },
          ))

      over : (x : ℤ) → HoldsRise g d t e s i j x → pos v ≤ℤ x
      over x (inl h) = subst (λ (y : ℤ). pos v ≤ℤ y) (sym h) (under-room v max_multiplier (d i) w.room)
      over x (inr (inl h)) =
          let y : BestTaker g c t h.f h.r = replacement-best h.f h.r h.listed h.inside h.replacement in
          subst (λ (y : ℤ). pos v ≤ℤ y) (sym h.is)
          (under_diff v (c h.f) (c h.r) K (charge g d h.f) (charge g d h.r) (off h.f h.listed) (off h.r y.pair.second)
          (w.replaced h.f h.r h.end y))
      over x (inr (inr (n, h))) =
          let q : Pair g t h.f e = giver_pair h.f e p.second p.outside h.giver in
          subst (λ (y : ℤ). pos v ≤ℤ y) (sym h.is)
          (under_diff v (c h.f) (c s) K (charge g d h.f) (charge g d s) (off h.f q.first) (off s p.first) (w.supported n h.f h.end q))

  pub fall_worked : (e r i j v : ℕ) → BestTaker g c t e r → FallsBy g d c t e r i j v → fall g d t e i j ≡ pos v
  fall_worked e r i j v b (inr (f, z)) = fall-not g d t e r i j (best-replacement e r b) f ∙ ap pos (sym z)
  fall_worked e r i j v b (inl (k, w)) =
      le_antisym (fall g d t e i j) (pos v) (least (pos v) (is w.one)) (over (fall g d t e i j) itself)
    where
      p : Pair g t e r
      p = b.pair

      itself : HoldsFall g d t e r i j (fall g d t e i j)
      itself = (fall_is g d t e r i j (best-replacement e r b) k).itself

      least : (x : ℤ) → HoldsFall g d t e r i j x → fall g d t e i j ≤ℤ x
      least = (fall_is g d t e r i j (best-replacement e r b) k).least

      is : (dn (d i) + v ≡ max_multiplier + up (d i))
          ⊎ (((h : ℕ) × (s : ℕ) × (touches g i h ≡ true) × BestGiver g c t h s × (v + c s ≡ c h))
          ⊎ ((j ≢ 1) × ((h : ℕ) × (touches g i h ≡ true) × Pair g t e h × (v + c r ≡ c h))))
          → HoldsFall g d t e r i j (pos v)
      is (inl h) = inl (at_floor v max_multiplier (d i) h)
      is (inr (inl (h, s, k, x, q))) =
          let y : Pair g t s h = x.pair in
          inr (inl (record {
            h = h;
            listed = y.second;
            outside = y.outside;
            allowed = (pair_taker s h y).allowed;
            end = k;
            s = s;
            support = best-support h s x;
            is = at_diff v (c s) (c h) K (charge g d s) (charge g d h) (off s y.first) (off h y.second) q;
          }))
      is (inr (inr (n, (h, k, q, x)))) =
          inr (inr (
            n,
            record {
              h = h;
              taker = pair_taker e h q;
              end = k;
              is = at_diff v (c r) (c h) K (charge g d r) (charge g d h) (off r p.second) (off h q.second) x;
            },
          ))

      over : (x : ℤ) → HoldsFall g d t e r i j x → pos v ≤ℤ x
      over x (inl h) = subst (λ (y : ℤ). pos v ≤ℤ y) (sym h) (under_floor v max_multiplier (d i) w.room)
      over x (inr (inl q)) =
          let y : BestGiver g c t q.h q.s = support-best q.h q.s q.listed q.outside q.support in
          subst (λ (y : ℤ). pos v ≤ℤ y) (sym q.is)
          (under_diff v (c q.s) (c q.h) K (charge g d q.s) (charge g d q.h) (off q.s y.pair.first) (off q.h q.listed)
          (w.reduced q.h q.s q.end y))
      over x (inr (inr (n, q))) =
          let y : Pair g t e q.h = taker_pair e q.h p.first p.inside q.taker in
          subst (λ (y : ℤ). pos v ≤ℤ y) (sym q.is)
          (under_diff v (c r) (c q.h) K (charge g d r) (charge g d q.h) (off r p.second) (off q.h y.second) (w.replaceable n q.h q.end y))

  -- ---- the two sums

  module _ (z : ℤ) (slack : ℕ) (within : SlackIs z (bound g d t) slack) (e : ℕ) (me : e ∈ up_to g.m) (alone : Alone g e)
      (low : InRange max_multiplier (d (g.a e))) (high : InRange max_multiplier (d (g.b e))) (x y : ℕ) where
    -- OUTSIDE t
    pub raised_worked : (s : ℕ) → BestGiver g c t e s → RisesBy g d c t e s (g.a e) (g.b e) x → RisesBy g d c t e s (g.b e) (g.a e) y
        → Barred g (raised g d t e) z e ↔ (slack + c s + (x + y) < c e + (x * degree g t (g.a e) + y * degree g t (g.b e)))
    raised_worked s b hx hy =
        trans
        (rw (rise_worked e s (g.a e) (g.b e) x b hx, rise_worked e s (g.b e) (g.a e) y b hy) at
        (raised_exactly g vg d t l e me alone low high b.pair.outside s (best-support e s b) z))
        (raise-number g d K c off t z slack within e me x y s b.pair.first)

    -- IN t
    pub lowered_worked : (r : ℕ) → BestTaker g c t e r → FallsBy g d c t e r (g.a e) (g.b e) x → FallsBy g d c t e r (g.b e) (g.a e) y
        → Forced g (lowered g d t e) z e ↔ (slack + c e + (x * degree g t (g.a e) + y * degree g t (g.b e)) < c r + (3 * x + 3 * y))
    lowered_worked r b hx hy =
        trans
        (rw (fall_worked e r (g.a e) (g.b e) x b hx, fall_worked e r (g.b e) (g.a e) y b hy) at
        (lowered_exactly g vg d t l e me alone low high b.pair.inside r (best-replacement e r b) z))
        (fall-number g d K c off t z slack within e me x y r b.pair.second)
