-- An accepted opening and the state at its start are such as a record of fixed size can hold; show leaves the state. (So is every state that a
-- call leaves: proofs/Preserved.)
use Rattle.std.specs.Prelude.{◌≡◌, refl, Bool, true, false, not, cond, ◌&&◌, List, ◌∷◌, eqb, leb, length}
use Rattle.std.proofs.Common.{ap, ◌∙◌, arith, eqb-true, leb-true}
use Prim.Native.Nat.{ℕ, zero, suc, ◌<◌}
use Rattle.std.proofs.lemmas.Bool.{not-false}
use Rattle.lists.specs.Bools.{by_cases, and_both, cond_zero, bit_most}
use Rattle.lists.specs.Rows.{row-size, row_at}
use Rattle.integers.specs.Range.{within_range}
use Rattle.graph.specs.Limits.{max_ceiling, max_sweeps, max_step, max_count}
use Rattle.graph.specs.Network.{Network, free, excluded, network}
use Rattle.graph.specs.Valid as value
use Rattle.graph.specs.Meaning.{valid_true}
use Rattle.tree_theory.specs.Inputs.{multipliers_fit, ceiling_fits, denominator_fault, or_else}
use Rattle.tree_theory.specs.Accepted.{denominator_range}
use Rattle.afloat.specs.Over.{ashore_fault}
use Rattle.afloat.specs.Inputs.{fault_fits}
use Rattle.machine.specs.Outcomes.{Incumbent, no_tour, a_tour}
use Rattle.machine.specs.Machine.{Node, marks_of, active_network}
use Rattle.machine.specs.Machine.{Opening, trimmed, lifts, tidy, held, Progress, State, no_search, searching, begin, finished}
use Rattle.machine.specs.Calls.{fault, tell, show, shown_by, step}
use Rattle.machine.specs.Trimmed.{trimmed_trim, trimmed-valid}
use Rattle.machine.specs.Kept.{Accepted, Off, touching, Kept}
use Rattle.machine.specs.Active.{active_multipliers_fit}

-- ---- one node more

module _ (s : Progress) (h : Kept s) (x : Node) (rest : List Node) (e : s.stack ≡ x ∷ rest) (l : s.count < max_count) where
  g : Network
  g = active_network s.opening

-- ---- an opening

-- neither of two faults
or_else_zero : (e f : ℕ) → or_else e f ≡ 0 → (e ≡ 0) × (f ≡ 0)
or_else_zero zero f h = (refl, h)
or_else_zero (suc e) f h = absurd (let z : suc e ≡ 0 = h in omega arith)

-- no fault: what each test tells
pub accepts-held : (o : Opening) → fault o ≡ 0 → Accepted (held o)
unfolding fault held tidy ceiling_fits trimmed
accepts-held o h =
    let e15 = cond_zero (not (value.valid o.graph)) 15 _ (omega arith) h in
    let e11 = cond_zero (not (eqb (length o.multipliers) o.graph.n && eqb (length o.ashore) o.graph.n)) 11 _ (omega arith) e15.1 in
    let e12 = cond_zero (not (multipliers_fit o.multipliers)) 12 _ (omega arith) e11.1 in
    let e13 = cond_zero (not (ceiling_fits o.settings.ceiling)) 13 _ (omega arith) e12.1 in
    let e14 = cond_zero (not (leb o.settings.sweeps max_sweeps && leb o.settings.step max_step)) 14 _ (omega arith) e13.1 in
    let last = or_else_zero (denominator_fault o.settings.denominator) (ashore_fault o.ashore o.graph.n) e14.1 in
    let sizes = and_both (eqb (length o.multipliers) o.graph.n) (eqb (length o.ashore) o.graph.n) (not-false _ e11.0) in
    let both = and_both (leb o.settings.sweeps max_sweeps) (leb o.settings.step max_step) (not-false _ e14.0) in
    record {
      trim = trimmed_trim o.graph;
      valid = trimmed-valid o.graph (valid_true o.graph (not-false _ e15.0));
      long = eqb-true (length o.multipliers) o.graph.n sizes.0;
      multipliers = not-false _ e12.0;
      ashore_long = eqb-true (length o.ashore) o.graph.n sizes.1;
      ashore_fit = fault_fits o.ashore o.graph.n last.1;
      ceiling = within_range max_ceiling o.settings.ceiling (not-false _ e13.0);
      sweeps = leb-true o.settings.sweeps max_sweeps both.0;
      step = leb-true o.settings.step max_step both.1;
      denominator = denominator_range o.settings.denominator last.0;
      lifting = bit_most (lifts o.settings);
    }

-- the first node excludes what touches an inactive vertex
first_off : (o : Opening) → Off o.graph.m (touching o) (marks_of (active_network o))
unfolding marks_of network
first_off o k b e =
    row_at o.graph.m (active_network o).mark k free b ∙ ap (λ (x : Bool). cond x excluded ((network o.graph).mark (suc k))) e

pub begin-kept : (o : Opening) → Accepted o → Kept (begin o)
unfolding begin marks_of network
begin-kept o a = record {
  opening = a;
  upper = a.ceiling;
  depth = omega arith;
  nodes = (
    record {
      long = row-size o.graph.m (active_network o).mark;
      multipliers = active_multipliers_fit o a;
      required = omega arith;
    },
    tt,
  );
  struck = (first_off o, tt);
  sized = tt;
  count = omega arith;
}

-- "Tell and show leave the state as it is"
pub tell_leaves : (st : State) → (step st tell).state ≡ st
unfolding step
tell_leaves no_search = refl
tell_leaves (searching p) = refl

pub show_state : (s : Progress) (l : List ℕ) (b : Bool) (i : Incumbent (List Bool)) → (shown_by s l b i).state ≡ searching s
unfolding shown_by
show_state s l false i = refl
show_state s l true no_tour = refl
show_state s l true (a_tour r) =
    by_cases (eqb (length l) s.opening.graph.m) (λ e. rw e) (λ e. rw e)

pub show_leaves : (st : State) (l : List ℕ) → (step st (show l)).state ≡ st
unfolding step
show_leaves no_search l = refl
show_leaves (searching p) l = show_state p l (finished p) p.incumbent
