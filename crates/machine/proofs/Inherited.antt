-- Where no pass follows the first of a node, every node has the opening's multipliers (`no_sweeps`). Assumes nothing.
use Rattle.std.specs.Prelude.{◌≡◌, ◌⊎◌, Bool, ℤ}
use Rattle.std.proofs.Math.Path.{refl, ap}
use Rattle.std.proofs.Common.{sym, ◌∙◌, subst, inl, inr}
use mathlib.Core.List.{List, ◌∷◌}
use Prim.Native.Nat.{ℕ, ◌<◌}
use Rattle.lists.specs.Members.{◌∈◌}
use Rattle.graph.specs.Limits.{max_count}
use Rattle.graph.specs.Network.{Network}
use Rattle.tree_theory.specs.Inputs.{multiplier}
use Rattle.tree_theory.specs.Scaled.{scaled_by}
use Rattle.integers.specs.Multiples.{◌times◌}
use Rattle.machine.specs.Outcomes.{closes, finds, splits}
use Rattle.machine.specs.Machine.{Marks, Node, with_marks, pass, Opened, branch}
use Rattle.machine.specs.Machine.{passes, lifts, active_network, active_multipliers, Progress, opened_on, open_node, settled, open_top, ran}
use Rattle.machine.specs.Runs.{ran_keeps}
use Rattle.machine.specs.Inherited.{Halves, branch_halves, concluded_halves, Unmoved}

module _ (lifting : Bool) (g : Network) (step : ℕ) (upper : ℤ) where
  -- one pass gains nothing
  pass_halves : (d : List ℤ) (x : Marks) → Halves (λ e. e ≡ d) (passes lifting g step upper 0 d x)
  unfolding passes
  pass_halves d x =
      concluded_halves (λ e. e ≡ d) g.m (pass lifting (with_marks g x) (multiplier d) upper) (λ t y. branch d y)
      (λ t y. branch_halves (λ e. e ≡ d) d refl y)

top_unmoved : (s : Progress) (x : Node) (rest : List Node) → s.stack ≡ x ∷ rest → s.count < max_count → Unmoved s
    → Unmoved (open_top s (x ∷ rest))
unfolding open_top settled open_node opened_on
top_unmoved s x rest e l h =
    let lifting = lifts s.opening.settings in
    let scaled = scaled_by s.opening.settings.denominator (active_network s.opening) in
    let upper = s.opening.settings.denominator times s.upper in
    go (open_node s.opening s.upper x)
    (subst (λ (k : ℕ). Halves (λ d. d ≡ x.multipliers) (passes lifting scaled s.opening.settings.step upper k x.multipliers x.marks))
    (sym h.sweeps) (pass_halves lifting scaled s.opening.settings.step upper x.multipliers x.marks))
  where
    waits : (y : Node) → y ∈ (x ∷ rest) → y.multipliers ≡ active_multipliers s.opening
    waits y m = h.each y (subst (λ (st : List Node). y ∈ st) (sym e) m)

    go : (out : Opened) → Halves (λ d. d ≡ x.multipliers) out → Unmoved (settled s rest out)
    go closes k = record { sweeps = h.sweeps; each = λ y m. waits y (inr m) }
    go (finds r) k = record { sweeps = h.sweeps; each = λ y m. waits y (inr m) }
    go (splits out into) k = record { sweeps = h.sweeps; each = λ y m. each y m }
      where
        each : (y : Node) → (y ≡ into) ⊎ ((y ≡ out) ⊎ (y ∈ rest)) → y.multipliers ≡ active_multipliers s.opening
        each y (inl q) = ap (λ (z : Node). z.multipliers) q ∙ k.0 ∙ waits x (inl refl)
        each y (inr (inl q)) = ap (λ (z : Node). z.multipliers) q ∙ k.1 ∙ k.0 ∙ waits x (inl refl)
        each y (inr (inr m)) = waits y (inr m)

pub no_sweeps : (budget : ℕ) (s : Progress) → Unmoved s → Unmoved (ran budget s)
no_sweeps = ran_keeps Unmoved top_unmoved
