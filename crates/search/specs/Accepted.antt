-- An opening that the machine's state may hold is one without a fault: none of 15, 11, 12, 13, 14, 32, 35 applies. So the check of a record need
-- only ask for the fault, and for lifting as it is stored. Assumes nothing.
use Rattle.std.specs.Prelude.{◌≡◌, refl, true, not, ℕ, zero, suc, ◌≤◌, eqb, length, ℤ}
use Rattle.std.proofs.Common.{subst, arith, eq-eqb, le-leb}
use Rattle.lists.specs.Bools.{bit}
use Rattle.integers.specs.Range.{InRange, within_range, range_within}
use Rattle.graph.specs.Limits.{max_ceiling, max_sweeps, max_step, max_denominator}
use Rattle.graph.specs.Meaning.{true_valid}
use Rattle.tree_theory.specs.Inputs.{ceiling_fits, denominator_fits, denominator_fault}
use Rattle.afloat.specs.Inputs.{fits_fault}
use Rattle.machine.specs.Machine.{Opening, tidy, held}
use Rattle.machine.specs.Calls.{fault}
use Rattle.machine.specs.Trimmed.{Trim, trim_trimmed}
use Rattle.machine.specs.Kept.{Accepted}
use Rattle.machine.specs.Preserved.{accepts-held}

pub fits_range : (z : ℤ) → ceiling_fits z ≡ true → InRange max_ceiling z
unfolding ceiling_fits
fits_range z h = within_range max_ceiling z h

pub range_fits : (z : ℤ) → InRange max_ceiling z → ceiling_fits z ≡ true
unfolding ceiling_fits
range_fits z h = range_within max_ceiling z h

pub range_denominator : (q : ℕ) → (1 ≤ q) × (q ≤ max_denominator) → denominator_fault q ≡ 0
unfolding denominator_fault denominator_fits
range_denominator q h = rw (le-leb 1 q h.0, le-leb q max_denominator h.1)

pub accepted_fault : (o : Opening) → Accepted o → fault o ≡ 0
unfolding fault
accepted_fault o a =
    rw (
      true_valid o.graph a.valid,
      eq-eqb (length o.multipliers) o.graph.n a.long,
      eq-eqb (length o.ashore) o.graph.n a.ashore_long,
      a.multipliers,
      range_fits o.settings.ceiling a.ceiling,
      le-leb o.settings.sweeps max_sweeps a.sweeps,
      le-leb o.settings.step max_step a.step,
      range_denominator o.settings.denominator a.denominator,
    )
    (fits_fault o.ashore o.graph.n a.ashore_fit)

-- lifting that is 0 or 1 is stored as it is
tidy_bit : (k : ℕ) → k ≤ 1 → bit (not (eqb k 0)) ≡ k
tidy_bit zero h = refl
tidy_bit (suc zero) h = refl
tidy_bit (suc (suc k)) h = absurd (omega arith)

-- what the state holds of an opening is that opening, where its graph has nothing past its edges and its lifting is 0 or 1
pub held_same : (o : Opening) → Trim o.graph → o.settings.lifting ≤ 1 → held o ≡ o
unfolding held tidy
held_same o t b = λ i. record {
  graph = trim_trimmed o.graph t i;
  multipliers = o.multipliers;
  ashore = o.ashore;
  settings = record {
    ceiling = o.settings.ceiling;
    sweeps = o.settings.sweeps;
    step = o.settings.step;
    denominator = o.settings.denominator;
    lifting = tidy_bit o.settings.lifting b i;
  };
}

pub fault_accepted : (o : Opening) → Trim o.graph → o.settings.lifting ≤ 1 → fault o ≡ 0 → Accepted o
fault_accepted o t b h = subst Accepted (held_same o t b) (accepts-held o h)
