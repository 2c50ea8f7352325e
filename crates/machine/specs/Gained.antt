-- What a pass's gains leave of the multipliers: as many, in their range, and vertex 1's as it was. Assumes nothing.
use Rattle.std.specs.Prelude.{◌≡◌, true, cond, List, leb, length, get_or, ℤ, pos, ◌+ℤ◌, ◌-ℤ◌, ◌*ℤ◌}
use Rattle.std.proofs.Common.{◌∙◌, arith}
use Prim.Native.Nat.{ℕ, zero, suc, ◌≤◌, ◌<◌}
use borrow.Author.Tests.{lt-leb}
use Rattle.lists.specs.Bools.{and_right}
use Rattle.lists.specs.All.{every_of}
use Rattle.lists.specs.Rows.{row-size, row_at}
use Rattle.integers.specs.Parts.{eq_of_parts}
use Rattle.integers.specs.Range.{InRange, within, within_range, clamp, clamp_range}
use Rattle.graph.specs.Limits.{max_multiplier}
use Rattle.graph.specs.Network.{Network}
use Rattle.tree_theory.specs.OneTree.{Edges}
use Rattle.tree_theory.specs.Inputs.{multiplier, multipliers_fit}
use Rattle.tree_theory.specs.Multipliers.{fit_ranged, ranged_fit}
use Rattle.tours.specs.Tours.{degree}
use Rattle.machine.specs.Machine.{gained}
use Rattle.machine.specs.Kept.{FitFor}

pub fit-first : (d : List ℤ) → multipliers_fit d ≡ true → multiplier d 1 ≡ pos 0
unfolding multipliers_fit
fit-first d h =
    let r = within_range 0 (multiplier d 1) (and_right (every_of (within max_multiplier) d) (within 0 (multiplier d 1)) h) in
    eq_of_parts (multiplier d 1) (pos 0) (omega (arith, r.high, r.low))

module _ (g : Network) (low : 1 ≤ g.n) (step : ℕ) (t : Edges) (d : List ℤ) (f : FitFor g.n d) where
  -- a vertex's multiplier after the pass
  after : ℕ → ℤ
  after v =
      cond (leb v 1) (multiplier d v)
      (clamp max_multiplier (multiplier d v +ℤ (pos step *ℤ (pos (degree g t v) -ℤ pos 2))))

  size : length (gained g step t d) ≡ g.n
  unfolding gained after
  size = row-size g.n after

  at : (k : ℕ) → k < g.n → get_or (gained g step t d) k (pos 0) ≡ after (suc k)
  unfolding gained after
  at k h = row_at g.n after k (pos 0) h

  first : get_or (gained g step t d) 0 (pos 0) ≡ get_or d 0 (pos 0)
  unfolding after multiplier
  first = at 0 low

  ranged : (k : ℕ) → k < g.n → InRange max_multiplier (get_or (gained g step t d) k (pos 0))
  unfolding after
  ranged zero h = rw first (fit_ranged d f.fits 0 (omega (arith, f.long)))
  ranged (suc k) h = rw (at (suc k) h, lt-leb (suc (suc k)) 1 (omega arith)) (clamp_range max_multiplier _)

  pub gained_fits : FitFor g.n (gained g step t d)
  gained_fits = record {
    long = size;
    fits =
        ranged_fit (gained g step t d) (λ k h. ranged k (omega (arith, size)))
        (unfold multiplier in first ∙ fit-first d f.fits);
  }
