-- The list of the active vertices' multipliers is such as a call accepts, where the whole list is: each is one of the whole list's, and the first
-- is vertex 1's.
use Rattle.std.specs.Prelude.{◌≡◌, true, List, length, get_or, ℤ, pos}
use Rattle.std.proofs.Common.{ap, ◌∙◌, arith}
use Prim.Native.Nat.{ℕ, suc, ◌<◌}
use Rattle.lists.specs.Bools.{and_right}
use Rattle.lists.specs.All.{every_of}
use Rattle.lists.specs.Numbers.{up_to_in, in_up_to}
use Rattle.lists.specs.Rows.{row_at}
use Rattle.integers.specs.Parts.{eq_of_parts}
use Rattle.integers.specs.Range.{InRange, within, within_range}
use Rattle.graph.specs.Limits.{max_multiplier}
use Rattle.graph.specs.Network.{Network}
use Rattle.tree_theory.specs.Inputs.{multiplier, multipliers_fit}
use Rattle.tree_theory.specs.Multipliers.{fit_ranged, ranged_fit, multiplier_range}
use Rattle.thinning.specs.Ranks.{rank, nth, nth_in}
use Rattle.afloat.specs.Over.{Ashore, active}
use Rattle.afloat.specs.Reduced.{Fit, nth-one}
use Rattle.afloat.specs.Lists.{reduced_list, list_multiplier, reduced-size}

first_zero : (d : List ℤ) → multipliers_fit d ≡ true → multiplier d 1 ≡ pos 0
unfolding multipliers_fit
first_zero d h =
    let r = within_range 0 (multiplier d 1) (and_right (every_of (within max_multiplier) d) (within 0 (multiplier d 1)) h) in
    eq_of_parts (multiplier d 1) (pos 0) (omega (arith, r.high, r.low))

module _ (s : Ashore) (g : Network) (f : Fit s g) (d : List ℤ) (size : length d ≡ g.n) (fits : multipliers_fit d ≡ true) where
  ranged : (k : ℕ) → k < length (reduced_list s g.n d) → InRange max_multiplier (get_or (reduced_list s g.n d) k (pos 0))
  unfolding reduced_list
  ranged k h =
      let l : k < rank (active s) g.n = omega (arith, h, reduced-size s g.n d) in
      let r = in_up_to g.n (nth (active s) g.n (suc k)) (nth_in (active s) g.n (suc k) (up_to_in (rank (active s) g.n) (suc k) (omega arith) l)) in
      rw (row_at (rank (active s) g.n) (λ j. multiplier d (nth (active s) g.n j)) k (pos 0) l)
      (multiplier_range d (fit_ranged d fits) (nth (active s) g.n (suc k)) r.0 (omega (arith, r.1, size)))

  pub reduced_fits : multipliers_fit (reduced_list s g.n d) ≡ true
  reduced_fits =
      ranged_fit (reduced_list s g.n d) ranged
      (list_multiplier s g.n d 1 ∙ ap (multiplier d) (nth-one s g f) ∙ first_zero d fits)
