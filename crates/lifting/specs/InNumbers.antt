-- Lifted multipliers as a program compares them: by the natural numbers that it keeps for the charges of the pass, and by the slack of the
-- pass, which is how far the bound lies below the ceiling. Nothing is worked out anew under the lifted multipliers.
use Rattle.std.specs.Prelude.{◌≡◌, ◌↔◌, true, false, ℕ, ◌+◌, ◌*◌, ◌<◌, ◌≤◌, ℤ, pos, neg_ℤ, ◌+ℤ◌, ◌-ℤ◌, ◌*ℤ◌, ◌≤ℤ◌, ◌<ℤ◌}
use Rattle.std.proofs.Common.{arith}
use mathlib.Core.Logic.Iff.{trans}
use Rattle.lists.specs.Members.{◌∈◌}
use Rattle.lists.specs.Numbers.{up_to}
use Rattle.integers.specs.Parts.{IsDiff, add_parts, parts_le, lt_parts, parts_lt}
use Rattle.integers.specs.Differences.{sub_parts, sub_is}
use Rattle.graph.specs.Network.{Network}
use Rattle.tree_theory.specs.OneTree.{Edges, charge, bound, Barred, Forced}
use Rattle.tree_theory.specs.Valid.{Valid}
use Rattle.tree_theory.specs.Optimal.Bound.{Shifted}
use Rattle.tree_theory.specs.Optimal.Exchange.{Minimal}
use Rattle.swaps.specs.Slack.{SlackIs}
use Rattle.tours.specs.Tours.{degree}
use Rattle.lifting.specs.Changed.{mul_diff, Changed}
use Rattle.lifting.specs.Supports.{Support, Replacement}
use Rattle.lifting.specs.Moves.{Alone, MayRise, MayFall, raised_barred, lowered_forced}

-- ---- the conditions

module _ (g : Network) (d : ℕ → ℤ) (K : ℕ) (c : ℕ → ℕ) (off : Shifted g d K c) where
  pub number-le : (f h : ℕ) → f ∈ up_to g.m → h ∈ up_to g.m → c f ≤ c h → charge g d f ≤ℤ charge g d h
  number-le f h mf mh l = parts_le (charge g d f) (charge g d h) (omega (arith, off f mf, off h mh))

  pub number_sum : (f h x : ℕ) → f ∈ up_to g.m → h ∈ up_to g.m → c f + x ≤ c h → (charge g d f +ℤ pos x) ≤ℤ charge g d h
  number_sum f h x mf mh l =
      parts_le (charge g d f +ℤ pos x) (charge g d h) (omega (arith, off f mf, off h mh, add_parts (charge g d f) (pos x)))

-- ---- the sums

-- z below (b + (p − q)) + X + Y
pub total : (b p q X Y : ℤ) (K cp cq : ℕ) → IsDiff p cp K → IsDiff q cq K → (x₁ x₂ y₁ y₂ : ℕ) → IsDiff X x₁ x₂ → IsDiff Y y₁ y₂
    → (z : ℤ) (slack : ℕ) → SlackIs z b slack
    → (z <ℤ (((b +ℤ (p -ℤ q)) +ℤ X) +ℤ Y)) ↔ (slack + cq + (x₂ + y₂) < cp + (x₁ + y₁))
total b p q X Y K cp cq hp hq x₁ x₂ y₁ y₂ hx hy z slack w = (
  (λ l. omega (
    arith,
    lt_parts z (((b +ℤ (p -ℤ q)) +ℤ X) +ℤ Y) l,
    sub_parts p q,
    add_parts b (p -ℤ q),
    add_parts (b +ℤ (p -ℤ q)) X,
    add_parts ((b +ℤ (p -ℤ q)) +ℤ X) Y,
  )),
  λ l. parts_lt z (((b +ℤ (p -ℤ q)) +ℤ X) +ℤ Y)
      (omega (
        arith,
        sub_parts p q,
        add_parts b (p -ℤ q),
        add_parts (b +ℤ (p -ℤ q)) X,
        add_parts ((b +ℤ (p -ℤ q)) +ℤ X) Y,
      )),
)

pub less_one : (x n : ℕ) → IsDiff (pos x *ℤ (pos n -ℤ pos 1)) (x * n) x
less_one x n = omega (arith, mul_diff (pos x) (pos n -ℤ pos 1) n 1 (sub_is n 1))

pub from_three : (x n : ℕ) → IsDiff (pos x *ℤ (pos 3 -ℤ pos n)) (3 * x) (x * n)
from_three x n = omega (arith, mul_diff (pos x) (pos 3 -ℤ pos n) 3 n (sub_is 3 n))

-- an edge e outside t: what s and the two raises leave, beside the slack
module _ (g : Network) (d : ℕ → ℤ) (K : ℕ) (c : ℕ → ℕ) (off : Shifted g d K c) (t : Edges) (z : ℤ) (slack : ℕ)
    (within : SlackIs z (bound g d t) slack) (e : ℕ) (me : e ∈ up_to g.m) (x y : ℕ) where
  pub raise-number : (s : ℕ) → s ∈ up_to g.m
      → (z <ℤ (((bound g d t +ℤ (charge g d e -ℤ charge g d s)) +ℤ (pos x *ℤ (pos (degree g t (g.a e)) -ℤ pos 1)))
      +ℤ (pos y *ℤ (pos (degree g t (g.b e)) -ℤ pos 1))))
      ↔ (slack + c s + (x + y) < c e + (x * degree g t (g.a e) + y * degree g t (g.b e)))
  raise-number s ms =
      total (bound g d t) (charge g d e) (charge g d s) (pos x *ℤ (pos (degree g t (g.a e)) -ℤ pos 1))
      (pos y *ℤ (pos (degree g t (g.b e)) -ℤ pos 1)) K (c e) (c s) (off e me) (off s ms)
      (x * degree g t (g.a e)) x (y * degree g t (g.b e)) y (less_one x (degree g t (g.a e))) (less_one y (degree g t (g.b e)))
      z slack within

  -- and e in t: r and the two falls
  pub fall-number : (r : ℕ) → r ∈ up_to g.m
      → (z <ℤ (((bound g d t +ℤ (charge g d r -ℤ charge g d e)) +ℤ (pos x *ℤ (pos 3 -ℤ pos (degree g t (g.a e)))))
      +ℤ (pos y *ℤ (pos 3 -ℤ pos (degree g t (g.b e))))))
      ↔ (slack + c e + (x * degree g t (g.a e) + y * degree g t (g.b e)) < c r + (3 * x + 3 * y))
  fall-number r mr =
      total (bound g d t) (charge g d r) (charge g d e) (pos x *ℤ (pos 3 -ℤ pos (degree g t (g.a e))))
      (pos y *ℤ (pos 3 -ℤ pos (degree g t (g.b e)))) K (c r) (c e) (off r mr) (off e me)
      (3 * x) (x * degree g t (g.a e)) (3 * y) (y * degree g t (g.b e)) (from_three x (degree g t (g.a e)))
      (from_three y (degree g t (g.b e))) z slack within

module _ (g : Network) (vg : Valid g) (d d' : ℕ → ℤ) (K : ℕ) (c : ℕ → ℕ) (off : Shifted g d K c) (t : Edges) (l : Minimal g d t) (z : ℤ)
    (slack : ℕ) (within : SlackIs z (bound g d t) slack) (e : ℕ) (me : e ∈ up_to g.m) (alone : Alone g e) (x y : ℕ) where
  -- BARRED, in numbers: what the support and the two raises leave is above the slack
  pub raised-number : t e ≡ false → (s : ℕ) → Support g d t e s → Changed d d' (g.a e) (g.b e) (pos x) (pos y)
      → MayRise g d t e s (g.a e) x → MayRise g d t e s (g.b e) y
      → Barred g d' z e ↔ (slack + c s + (x + y) < c e + (x * degree g t (g.a e) + y * degree g t (g.b e)))
  raised-number te s sup ch rx ry =
      trans (raised_barred g vg d d' t l e me te alone s sup x y ch rx ry z) (raise-number g d K c off t z slack within e me x y s sup.listed)

  -- FORCED, in numbers
  pub lowered-number : t e ≡ true → (r : ℕ) → Replacement g d t e r → Changed d d' (g.a e) (g.b e) (neg_ℤ (pos x)) (neg_ℤ (pos y))
      → MayFall g d t e r (g.a e) x → MayFall g d t e r (g.b e) y
      → Forced g d' z e ↔ (slack + c e + (x * degree g t (g.a e) + y * degree g t (g.b e)) < c r + (3 * x + 3 * y))
  lowered-number te r rep ch fx fy =
      trans (lowered_forced g vg d d' t l e me te alone r rep x y ch fx fy z) (fall-number g d K c off t z slack within e me x y r rep.listed)
