-- A free edge marked otherwise leaves one free edge less.
use Rattle.std.specs.Prelude.{◌≡◌, false, List, ℕ, suc, ◌≤◌}
use Rattle.std.proofs.Common.{arith}
use Rattle.bits.specs.Rows.{digit}
use Rattle.bits.specs.Marking.{with_bit}
use Rattle.bits.proofs.Marking.{with_ones}
use Rattle.bits.specs.Pairs.{Pair}
use Rattle.bits.proofs.Pairs.{ones_most}
use Rattle.machine.specs.Machine.{frees}
use Rattle.mark_rows.specs.MarkRows.{marks_in_pair}
use Rattle.mark_rows.proofs.TwoRows.{frees_pair}
use Rattle.mark_rows.specs.Remarking.{required_pair}

module _ (W m : ℕ) (r s : List ℕ) (p : Pair W m r s) (k : ℕ) (l : 1 ≤ k) (u : k ≤ m)
    (c : digit r k ≡ false) (e : digit s k ≡ false) where
  -- one free edge less
  pub one_less : suc (frees (marks_in_pair m (with_bit r k) s)) ≡ frees (marks_in_pair m r s)
  one_less =
      omega (
        arith,
        frees_pair W m r s p,
        frees_pair W m (with_bit r k) s (required_pair W m r s p k l u c e),
        with_ones W r p.first k l (omega (arith, p.within)) c,
        ones_most W m (with_bit r k) s (required_pair W m r s p k l u c e),
      )
