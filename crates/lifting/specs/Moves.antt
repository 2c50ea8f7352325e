-- Multipliers lifted for one edge (source document 000, section 4.1): raised at both ends of an edge outside a minimal 1-tree, lowered at
-- both ends of one in it. As long as no end moves further than the costs of the pass allow, the 1-tree stays minimal and the edge keeps
-- its support, or its replacement; so whether it is barred, or forced, under the lifted multipliers is one sum.
use Rattle.std.specs.Prelude.{◌≡◌, refl, ◌≢◌, ◌↔◌, Bool, true, false, ℕ, ◌+◌, ◌*◌, ◌≤◌, eqb, ℤ, pos, neg_ℤ, ◌+ℤ◌, ◌-ℤ◌, ◌*ℤ◌, ◌≤ℤ◌, ◌<ℤ◌}
use Rattle.std.proofs.Common.{sym, ◌∙◌, eq-eqb}
use Rattle.std.proofs.Math.Path.{ap}
use Rattle.std.proofs.Math.Bool.{true≢false}
use native.Mathlib.Omega.{arith}
use Rattle.lists.specs.Bools.{or_left, or_right}
use Rattle.lists.specs.Members.{◌∈◌}
use Rattle.lists.specs.Numbers.{up_to, up_to_in}
use Rattle.integers.specs.Parts.{IsDiff, up, dn, add_parts, eq_of_parts, neg-up, neg-dn, le_parts, parts_le}
use Rattle.integers.specs.Differences.{sub_parts, sub_is}
use Rattle.graph.specs.Network.{Network}
use Rattle.tree_theory.specs.OneTree.{Edges, charge, bound, Barred, Forced}
use Rattle.tree_theory.specs.Valid.{Valid}
use Rattle.tree_theory.specs.Optimal.Exchange.{Minimal}
use Rattle.tree_theory.specs.Optimal.Criteria.{MaySwap}
use Rattle.lifting.specs.Local.{by_charges, minimal_charges}
use Rattle.tours.specs.Tours.{degree}
use Rattle.lifting.specs.Lifted.{touches}
use Rattle.lifting.specs.Changed.{mul_diff, times, Changed, charge_changed, bound_changed}
use Rattle.lifting.specs.Supports.{Support, Replacement, barred_support, forced_replacement}

-- ---- what the two changes are held to, under the multipliers d of the pass

-- no other edge joins the two ends of e: "no pair twice"
abbrev pub Alone : Network → ℕ → Type 0
Alone g e = (f : ℕ) → f ∈ up_to g.m → touches g (g.a e) f ≡ true → touches g (g.b e) f ≡ true → f ≡ e

-- vertex v may rise by x for the edge e outside t, whose support is s: x is at most
pub record MayRise (g : Network) (d : ℕ → ℤ) (t : Edges) (e s v x : ℕ) : Type 0 where
  -- the replacement cost of each edge of t at v (line I1),
  pub replaced : (f h : ℕ) → f ∈ up_to g.m → h ∈ up_to g.m → t f ≡ true → t h ≡ false → touches g v f ≡ true → MaySwap g t f h
      → (charge g d f +ℤ pos x) ≤ℤ charge g d h
  -- and how far below the support each edge at v is that may give way to e (line I2), itself among them: so the support is not at v,
  -- or x is 0
  pub supported : (f : ℕ) → f ∈ up_to g.m → t f ≡ true → touches g v f ≡ true → MaySwap g t f e
      → (charge g d f +ℤ pos x) ≤ℤ charge g d s

-- vertex v may fall by x for the edge e of t, whose replacement is r: x is at most
pub record MayFall (g : Network) (d : ℕ → ℤ) (t : Edges) (e r v x : ℕ) : Type 0 where
  -- the reduced cost of each edge outside t at v (line D1),
  pub reduced : (f h : ℕ) → f ∈ up_to g.m → h ∈ up_to g.m → t f ≡ true → t h ≡ false → touches g v h ≡ true → MaySwap g t f h
      → (charge g d f +ℤ pos x) ≤ℤ charge g d h
  -- and how far above the replacement each edge at v is that may take the place of e (line D2), itself among them
  pub replaceable : (f : ℕ) → f ∈ up_to g.m → t f ≡ false → touches g v f ≡ true → MaySwap g t e f
      → (charge g d r +ℤ pos x) ≤ℤ charge g d f

-- ---- in natural numbers

-- x where the test holds
abbrev part : Bool → ℕ → ℕ
part true x = x
part false x = 0

times_more : (b : Bool) (x : ℕ) → IsDiff (times b (pos x)) (part b x) 0
times_more true x = omega arith
times_more false x = omega arith

times-less : (b : Bool) (x : ℕ) → IsDiff (times b (neg_ℤ (pos x))) 0 (part b x)
times-less true x = omega (arith, neg-up (pos x), neg-dn (pos x))
times-less false x = omega arith

-- −x · z, where z is a − b
neg_diff : (x : ℕ) (z : ℤ) (a b : ℕ) → IsDiff z a b → IsDiff (neg_ℤ (pos x) *ℤ z) (x * b) (x * a)
neg_diff x z a b h =
    omega (arith, rw (neg-up (pos x), neg-dn (pos x)) at (mul_diff (neg_ℤ (pos x)) z a b h))

-- p grows by x where a holds and by y where b does, never both, and stays at most q
held : (a b : Bool) (p q : ℤ) (x y : ℕ) → (a ≡ true → b ≡ true → ⊥) → (a ≡ true → (p +ℤ pos x) ≤ℤ q) → (b ≡ true → (p +ℤ pos y) ≤ℤ q)
    → p ≤ℤ q → up p + (part a x + part b y) + dn q ≤ up q + dn p
held true true p q x y n h k l = absurd (n refl refl)
held true false p q x y n h k l = omega (arith, le_parts (p +ℤ pos x) q (h refl), add_parts p (pos x))
held false true p q x y n h k l = omega (arith, le_parts (p +ℤ pos y) q (k refl), add_parts p (pos y))
held false false p q x y n h k l = omega (arith, le_parts p q l)

-- ---- the ends of an edge

module _ (g : Network) (vg : Valid g) (e : ℕ) (me : e ∈ up_to g.m) where
  pub ends_apart : g.a e ≢ g.b e
  ends_apart q = omega (arith, vg.apart e me)

  first_end : g.a e ∈ up_to g.n
  first_end = up_to_in g.n (g.a e) (vg.low e me) (omega (arith, vg.apart e me, vg.high e me))

  second_end : g.b e ∈ up_to g.n
  second_end = up_to_in g.n (g.b e) (omega (arith, vg.low e me, vg.apart e me)) (vg.high e me)

pub touches-first : (g : Network) (e : ℕ) → touches g (g.a e) e ≡ true
touches-first g e = or_left (eqb (g.a e) (g.a e)) (eqb (g.b e) (g.a e)) (eq-eqb (g.a e) (g.a e) refl)

pub touches-second : (g : Network) (e : ℕ) → touches g (g.b e) e ≡ true
touches-second g e = or_right (eqb (g.a e) (g.b e)) (eqb (g.b e) (g.b e)) (eq-eqb (g.b e) (g.b e) refl)

-- how much more an edge k at the ends of e costs where the one end costs x more and the other y
extra : Network → ℕ → ℕ → ℕ → ℕ → ℕ
extra g e x y k = part (touches g (g.a e) k) x + part (touches g (g.b e) k) y

own_extra : (g : Network) (e x y : ℕ) → extra g e x y e ≡ x + y
unfolding extra
own_extra g e x y = rw (touches-first g e, touches-second g e)

-- ---- an edge outside the 1-tree

raised_ring : (B B' E E' S S' : ℤ) (x y n k : ℕ)
    → B' ≡ (B +ℤ (pos x *ℤ (pos n -ℤ pos 2))) +ℤ (pos y *ℤ (pos k -ℤ pos 2))
    → up E' + dn E ≡ up E + (x + y) + dn E'
    → up S' + dn S ≡ up S + 0 + dn S'
    → B' +ℤ (E' -ℤ S') ≡ ((B +ℤ (E -ℤ S)) +ℤ (pos x *ℤ (pos n -ℤ pos 1))) +ℤ (pos y *ℤ (pos k -ℤ pos 1))
raised_ring B B' E E' S S' x y n k b e s =
    eq_of_parts (B' +ℤ (E' -ℤ S')) (((B +ℤ (E -ℤ S)) +ℤ (pos x *ℤ (pos n -ℤ pos 1))) +ℤ (pos y *ℤ (pos k -ℤ pos 1)))
    (omega (
      arith,
      ap up b,
      ap dn b,
      add_parts B (pos x *ℤ (pos n -ℤ pos 2)),
      add_parts (B +ℤ (pos x *ℤ (pos n -ℤ pos 2))) (pos y *ℤ (pos k -ℤ pos 2)),
      mul_diff (pos x) (pos n -ℤ pos 2) n 2 (sub_is n 2),
      mul_diff (pos y) (pos k -ℤ pos 2) k 2 (sub_is k 2),
      mul_diff (pos x) (pos n -ℤ pos 1) n 1 (sub_is n 1),
      mul_diff (pos y) (pos k -ℤ pos 1) k 1 (sub_is k 1),
      sub_parts E' S',
      add_parts B' (E' -ℤ S'),
      sub_parts E S,
      add_parts B (E -ℤ S),
      add_parts (B +ℤ (E -ℤ S)) (pos x *ℤ (pos n -ℤ pos 1)),
      add_parts ((B +ℤ (E -ℤ S)) +ℤ (pos x *ℤ (pos n -ℤ pos 1))) (pos y *ℤ (pos k -ℤ pos 1)),
    ))

module _ (g : Network) (vg : Valid g) (d d' : ℕ → ℤ) (t : Edges) (l : Minimal g d t) (e : ℕ) (me : e ∈ up_to g.m) (te : t e ≡ false)
    (alone : Alone g e) (s : ℕ) (sup : Support g d t e s) (x y : ℕ) (ch : Changed d d' (g.a e) (g.b e) (pos x) (pos y))
    (rx : MayRise g d t e s (g.a e) x) (ry : MayRise g d t e s (g.b e) y) where
  raised : (k : ℕ) → k ∈ up_to g.m
      → up (charge g d' k) + dn (charge g d k) ≡ up (charge g d k) + extra g e x y k + dn (charge g d' k)
  unfolding extra
  raised k m =
      let c = charge_changed d d' (g.a e) (g.b e) (pos x) (pos y) (ends_apart g vg e me) ch g vg k m in
      omega (
        arith,
        ap up c,
        ap dn c,
        add_parts (charge g d k) (times (touches g (g.a e) k) (pos x)),
        add_parts (charge g d k +ℤ times (touches g (g.a e) k) (pos x)) (times (touches g (g.b e) k) (pos y)),
        times_more (touches g (g.a e) k) x,
        times_more (touches g (g.b e) k) y,
      )

  -- an edge f of t stays at most q, where it was and each end is held to that
  below : (f : ℕ) → f ∈ up_to g.m → t f ≡ true → (q : ℤ)
      → (touches g (g.a e) f ≡ true → (charge g d f +ℤ pos x) ≤ℤ q) → (touches g (g.b e) f ≡ true → (charge g d f +ℤ pos y) ≤ℤ q)
      → charge g d f ≤ℤ q → up (charge g d f) + extra g e x y f + dn q ≤ up q + dn (charge g d f)
  unfolding extra
  below f mf tf q =
      held (touches g (g.a e) f) (touches g (g.b e) f) (charge g d f) q x y
      (λ i j. true≢false (sym tf ∙ ap t (alone f mf i j) ∙ te))

  -- THE 1-TREE STAYS MINIMAL
  pub raised_minimal : Minimal g d' t
  raised_minimal = by_charges g vg d' t l.tree charges
    where
      charges : (f h : ℕ) → f ∈ up_to g.m → h ∈ up_to g.m → t f ≡ true → t h ≡ false → MaySwap g t f h
          → charge g d' f ≤ℤ charge g d' h
      charges f h mf mh tf th may =
          parts_le (charge g d' f) (charge g d' h)
          (omega (
            arith,
            raised f mf,
            raised h mh,
            below f mf tf (charge g d h) (λ i. rx.replaced f h mf mh tf th i may) (λ i. ry.replaced f h mf mh tf th i may)
                (minimal_charges g vg d t l f h mf mh tf th may),
          ))

  under : (f : ℕ) → f ∈ up_to g.m → t f ≡ true → MaySwap g t f e
      → up (charge g d f) + extra g e x y f + dn (charge g d s) ≤ up (charge g d s) + dn (charge g d f)
  under f mf tf may =
      below f mf tf (charge g d s) (λ i. rx.supported f mf tf i may) (λ i. ry.supported f mf tf i may) (sup.most f mf tf may)

  -- THE SUPPORT STAYS ONE
  pub raised-support : Support g d' t e s
  raised-support = record { listed = sup.listed; inside = sup.inside; may = sup.may; most = most }
    where
      most : (f : ℕ) → f ∈ up_to g.m → t f ≡ true → MaySwap g t f e → charge g d' f ≤ℤ charge g d' s
      most f mf tf may =
          parts_le (charge g d' f) (charge g d' s) (omega (arith, raised f mf, raised s sup.listed, under f mf tf may))

  -- and costs what it did
  still : extra g e x y s ≡ 0
  still = omega (arith, under s sup.listed sup.inside sup.may)

  raised_sum : bound g d' t +ℤ (charge g d' e -ℤ charge g d' s)
      ≡ ((bound g d t +ℤ (charge g d e -ℤ charge g d s)) +ℤ (pos x *ℤ (pos (degree g t (g.a e)) -ℤ pos 1)))
      +ℤ (pos y *ℤ (pos (degree g t (g.b e)) -ℤ pos 1))
  raised_sum =
      raised_ring (bound g d t) (bound g d' t) (charge g d e) (charge g d' e) (charge g d s) (charge g d' s) x y
      (degree g t (g.a e)) (degree g t (g.b e))
      (bound_changed d d' (g.a e) (g.b e) (pos x) (pos y) (ends_apart g vg e me) ch g vg (first_end g vg e me) (second_end g vg e me) t)
      (omega (arith, raised e me, own_extra g e x y))
      (omega (arith, raised s sup.listed, still))

  -- BARRED under the raised multipliers
  pub raised_barred : (z : ℤ) → Barred g d' z e
      ↔ (z <ℤ (((bound g d t +ℤ (charge g d e -ℤ charge g d s)) +ℤ (pos x *ℤ (pos (degree g t (g.a e)) -ℤ pos 1)))
      +ℤ (pos y *ℤ (pos (degree g t (g.b e)) -ℤ pos 1))))
  raised_barred z = rw (← raised_sum) (barred_support g vg d' t raised_minimal z e me te s raised-support)

-- ---- an edge of the 1-tree

lowered_ring : (B B' E E' R R' : ℤ) (x y n k : ℕ)
    → B' ≡ (B +ℤ (neg_ℤ (pos x) *ℤ (pos n -ℤ pos 2))) +ℤ (neg_ℤ (pos y) *ℤ (pos k -ℤ pos 2))
    → up E + dn E' ≡ up E' + (x + y) + dn E
    → up R + dn R' ≡ up R' + 0 + dn R
    → B' +ℤ (R' -ℤ E') ≡ ((B +ℤ (R -ℤ E)) +ℤ (pos x *ℤ (pos 3 -ℤ pos n))) +ℤ (pos y *ℤ (pos 3 -ℤ pos k))
lowered_ring B B' E E' R R' x y n k b e r =
    eq_of_parts (B' +ℤ (R' -ℤ E')) (((B +ℤ (R -ℤ E)) +ℤ (pos x *ℤ (pos 3 -ℤ pos n))) +ℤ (pos y *ℤ (pos 3 -ℤ pos k)))
    (omega (
      arith,
      ap up b,
      ap dn b,
      add_parts B (neg_ℤ (pos x) *ℤ (pos n -ℤ pos 2)),
      add_parts (B +ℤ (neg_ℤ (pos x) *ℤ (pos n -ℤ pos 2))) (neg_ℤ (pos y) *ℤ (pos k -ℤ pos 2)),
      neg_diff x (pos n -ℤ pos 2) n 2 (sub_is n 2),
      neg_diff y (pos k -ℤ pos 2) k 2 (sub_is k 2),
      mul_diff (pos x) (pos 3 -ℤ pos n) 3 n (sub_is 3 n),
      mul_diff (pos y) (pos 3 -ℤ pos k) 3 k (sub_is 3 k),
      sub_parts R' E',
      add_parts B' (R' -ℤ E'),
      sub_parts R E,
      add_parts B (R -ℤ E),
      add_parts (B +ℤ (R -ℤ E)) (pos x *ℤ (pos 3 -ℤ pos n)),
      add_parts ((B +ℤ (R -ℤ E)) +ℤ (pos x *ℤ (pos 3 -ℤ pos n))) (pos y *ℤ (pos 3 -ℤ pos k)),
    ))

module _ (g : Network) (vg : Valid g) (d d' : ℕ → ℤ) (t : Edges) (l : Minimal g d t) (e : ℕ) (me : e ∈ up_to g.m) (te : t e ≡ true)
    (alone : Alone g e) (r : ℕ) (rep : Replacement g d t e r) (x y : ℕ)
    (ch : Changed d d' (g.a e) (g.b e) (neg_ℤ (pos x)) (neg_ℤ (pos y)))
    (fx : MayFall g d t e r (g.a e) x) (fy : MayFall g d t e r (g.b e) y) where
  lowered : (k : ℕ) → k ∈ up_to g.m
      → up (charge g d k) + dn (charge g d' k) ≡ up (charge g d' k) + extra g e x y k + dn (charge g d k)
  unfolding extra
  lowered k m =
      let c = charge_changed d d' (g.a e) (g.b e) (neg_ℤ (pos x)) (neg_ℤ (pos y)) (ends_apart g vg e me) ch g vg k m in
      omega (
        arith,
        ap up c,
        ap dn c,
        add_parts (charge g d k) (times (touches g (g.a e) k) (neg_ℤ (pos x))),
        add_parts (charge g d k +ℤ times (touches g (g.a e) k) (neg_ℤ (pos x))) (times (touches g (g.b e) k) (neg_ℤ (pos y))),
        times-less (touches g (g.a e) k) x,
        times-less (touches g (g.b e) k) y,
      )

  -- an edge h outside t stays at least q, where it was and each end is held to that
  above : (h : ℕ) → h ∈ up_to g.m → t h ≡ false → (q : ℤ)
      → (touches g (g.a e) h ≡ true → (q +ℤ pos x) ≤ℤ charge g d h) → (touches g (g.b e) h ≡ true → (q +ℤ pos y) ≤ℤ charge g d h)
      → q ≤ℤ charge g d h → up q + extra g e x y h + dn (charge g d h) ≤ up (charge g d h) + dn q
  unfolding extra
  above h mh th q =
      held (touches g (g.a e) h) (touches g (g.b e) h) q (charge g d h) x y
      (λ i j. true≢false (sym te ∙ ap t (sym (alone h mh i j)) ∙ th))

  -- THE 1-TREE STAYS MINIMAL
  pub lowered_minimal : Minimal g d' t
  lowered_minimal = by_charges g vg d' t l.tree charges
    where
      charges : (f h : ℕ) → f ∈ up_to g.m → h ∈ up_to g.m → t f ≡ true → t h ≡ false → MaySwap g t f h
          → charge g d' f ≤ℤ charge g d' h
      charges f h mf mh tf th may =
          parts_le (charge g d' f) (charge g d' h)
          (omega (
            arith,
            lowered f mf,
            lowered h mh,
            above h mh th (charge g d f) (λ i. fx.reduced f h mf mh tf th i may) (λ i. fy.reduced f h mf mh tf th i may)
                (minimal_charges g vg d t l f h mf mh tf th may),
          ))

  over : (f : ℕ) → f ∈ up_to g.m → t f ≡ false → MaySwap g t e f
      → up (charge g d r) + extra g e x y f + dn (charge g d f) ≤ up (charge g d f) + dn (charge g d r)
  over f mf tf may =
      above f mf tf (charge g d r) (λ i. fx.replaceable f mf tf i may) (λ i. fy.replaceable f mf tf i may) (rep.least f mf tf may)

  -- THE REPLACEMENT STAYS ONE
  pub lowered-replacement : Replacement g d' t e r
  lowered-replacement = record { listed = rep.listed; outside = rep.outside; may = rep.may; least = least }
    where
      least : (f : ℕ) → f ∈ up_to g.m → t f ≡ false → MaySwap g t e f → charge g d' r ≤ℤ charge g d' f
      least f mf tf may =
          parts_le (charge g d' r) (charge g d' f) (omega (arith, lowered f mf, lowered r rep.listed, over f mf tf may))

  -- and costs what it did
  unmoved : extra g e x y r ≡ 0
  unmoved = omega (arith, over r rep.listed rep.outside rep.may)

  lowered_sum : bound g d' t +ℤ (charge g d' r -ℤ charge g d' e)
      ≡ ((bound g d t +ℤ (charge g d r -ℤ charge g d e)) +ℤ (pos x *ℤ (pos 3 -ℤ pos (degree g t (g.a e)))))
      +ℤ (pos y *ℤ (pos 3 -ℤ pos (degree g t (g.b e))))
  lowered_sum =
      lowered_ring (bound g d t) (bound g d' t) (charge g d e) (charge g d' e) (charge g d r) (charge g d' r) x y
      (degree g t (g.a e)) (degree g t (g.b e))
      (bound_changed d d' (g.a e) (g.b e) (neg_ℤ (pos x)) (neg_ℤ (pos y)) (ends_apart g vg e me) ch g vg
      (first_end g vg e me) (second_end g vg e me) t)
      (omega (arith, lowered e me, own_extra g e x y))
      (omega (arith, lowered r rep.listed, unmoved))

  -- FORCED under the lowered multipliers
  pub lowered_forced : (z : ℤ) → Forced g d' z e
      ↔ (z <ℤ (((bound g d t +ℤ (charge g d r -ℤ charge g d e)) +ℤ (pos x *ℤ (pos 3 -ℤ pos (degree g t (g.a e)))))
      +ℤ (pos y *ℤ (pos 3 -ℤ pos (degree g t (g.b e))))))
  lowered_forced z = rw (← lowered_sum) (forced_replacement g vg d' t lowered_minimal z e me te r lowered-replacement)
