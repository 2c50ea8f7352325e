-- Bars and forces told by the slack, which is how far the least bound lies below the ceiling: a swap keeps within the ceiling iff it adds
-- no more than the slack. Neither the offset of the charges nor the multipliers' sum plays a part. Assumes nothing.
use Rattle.std.specs.Prelude.{◌≡◌, ◌↔◌, true, false, ℕ, ◌+◌, ◌*◌, ◌<◌, ℤ, ◌<ℤ◌}
use Rattle.std.proofs.Common.{arith}
use Rattle.lists.specs.Members.{◌∈◌}
use Rattle.lists.specs.Select.{select}
use Rattle.lists.specs.Numbers.{up_to}
use Rattle.lists.specs.Weights.{weight}
use Rattle.integers.specs.Parts.{IsDiff, up, dn, diff_self, lt_parts}
use Rattle.graph.specs.Network.{Network}
use Rattle.tree_theory.specs.OneTree.{Edges, bound, Barred, Forced}
use Rattle.tree_theory.specs.Valid.{Valid}
use Rattle.tree_theory.specs.Optimal.Link.{to_parts}
use Rattle.tree_theory.specs.Optimal.Bound.{Shifted, twice_all, bound_diff}
use Rattle.tree_theory.specs.Optimal.Exchange.{Minimal, barred_in, forced_out}
use Rattle.tree_theory.specs.Optimal.Criteria.{MaySwap, SwapAbove, barred_number, forced_number}

-- the ceiling is the slack above the bound
abbrev pub SlackIs : ℤ → ℤ → ℕ → Type 0
SlackIs ceiling b slack = (up ceiling + dn b ≡ slack + up b + dn ceiling)

module _ (g : Network) (vg : Valid g) (d : ℕ → ℤ) (K : ℕ) (c : ℕ → ℕ) (off : Shifted g d K c) (s : Edges) (least : Minimal g d s) (z : ℤ)
    (slack : ℕ) (within : SlackIs z (bound g d s) slack) (e : ℕ) (me : e ∈ up_to g.m) where
  level : IsDiff (bound g d s) (weight c (select s (up_to g.m)) + dn (twice_all g d)) (K * g.n + up (twice_all g d))
  level = bound_diff g d K c off s (to_parts g vg s least.tree)

  pub barred_slack : s e ≡ false
      → Barred g d z e ↔ ((f : ℕ) → f ∈ up_to g.m → s f ≡ true → MaySwap g s f e → slack + c f < c e)
  barred_slack out = ((λ b f m i w. omega (arith, level, n.0 b f m i w)), λ h. n.1 (λ f m i w. omega (arith, level, h f m i w)))
    where
      n : Barred g d z e ↔ ((f : ℕ) → f ∈ up_to g.m → s f ≡ true → MaySwap g s f e → SwapAbove g d K c s (up z) (dn z) f e)
      n = barred_number g vg d K c off s least z (up z) (dn z) (diff_self z) e me out

  pub forced_slack : s e ≡ true
      → Forced g d z e ↔ ((f : ℕ) → f ∈ up_to g.m → s f ≡ false → MaySwap g s e f → slack + c e < c f)
  forced_slack inn = ((λ b f m i w. omega (arith, level, n.0 b f m i w)), λ h. n.1 (λ f m i w. omega (arith, level, h f m i w)))
    where
      n : Forced g d z e ↔ ((f : ℕ) → f ∈ up_to g.m → s f ≡ false → MaySwap g s e f → SwapAbove g d K c s (up z) (dn z) e f)
      n = forced_number g vg d K c off s least z (up z) (dn z) (diff_self z) e me inn

  not_over : z <ℤ bound g d s → ⊥
  not_over l = omega (arith, lt_parts z (bound g d s) l)

  -- the minimal 1-tree itself is within the ceiling: so no edge of it is barred, and none outside it is forced
  pub not_barred_in : s e ≡ true → ¬ Barred g d z e
  not_barred_in i b = not_over ((barred_in g vg d K c off s least z e i).0 b)

  pub not_forced_out : s e ≡ false → ¬ Forced g d z e
  not_forced_out i f = not_over ((forced_out g vg d K c off s least z e i).0 f)
