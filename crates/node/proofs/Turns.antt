-- The ends of a turn of a node that is not refused, as the code comes to them, over the bytes of the node's marks and the multipliers so far
-- (`AtPass`); and then of a node that may be refused (`AtTurn`). Rests on the passes' definition alone.
use Rattle.std.specs.Prelude.{◌≡◌, refl, Bool, ℕ, zero, suc, ◌-◌, ◌≤◌, ◌<◌, ℤ, pos, Result, Ok, Err}
use Rattle.std.proofs.Math.Path.{sym, ap}
use Rattle.std.proofs.Common.{◌∙◌, subst, inr, arith}
use mathlib.Core.List.{List}
use Rattle.std.proofs.Math.ListN.{get_or}
use Rattle.lists.specs.Rows.{row}
use Rattle.lists.specs.Fill.{fit, fit-size, fit_at}
use Rattle.integers.specs.Range.{InRange}
use Rattle.graph.specs.declared.Graph.{Graph}
use Rattle.graph.specs.declared.refusals.Refusal.{Refusal}
use Rattle.graph.specs.Refusals.{number, not-zero}
use Rattle.graph.specs.Limits.{max_vertices, max_edges, max_multiplier, max_step}
use Rattle.graph.specs.Network.{Network, network}
use Rattle.graph.specs.Valid.{Valid}
use Rattle.tree_theory.specs.Scaled.{scaled_by}
use Rattle.tree_theory.specs.Inputs.{multiplier, multipliers_fit}
use Rattle.tree_theory.specs.Multipliers.{fit_ranged}
use Rattle.machine.specs.declared.Settings.{Settings}
use Rattle.machine.specs.Outcomes.{closes}
use Rattle.tours.specs.Tours as T
use Rattle.machine.specs.Machine as M
use Rattle.machine.specs.Machine.{Marks, with_marks, Pass, shut, found, unclosed, pass, gained, branch, concluded, passes}
use Rattle.node.specs.Given.{fault}
use Rattle.machine.specs.Kept.{FitFor}
use Rattle.machine.specs.Gained.{gained_fits}
use Rattle.node.specs.Gains.{GainsTo, gains_is}
use Rattle.node.specs.declared.passes.Verdict.{Verdict}
use Rattle.node.specs.declared.passes.Verdict.TheVariants as verdict
use Rattle.node.specs.Faults.{fault-fit}
use Rattle.node.specs.OnePass.{FoundAs, RuledAs, tree_bytes, VerdictIs}
use Rattle.node.specs.Opened.{places, taken}
use Rattle.node.specs.Marks.{with_bytes, Padded}
use Rattle.node.specs.Passes.{network-marks, FoundIn, Pending, later, AtPass}
use Rattle.node.specs.Refusing.{outcome, AtTurn, AtPassOf, turn_padded, turn_refused, turn_accepted}

turn : (lifting : Bool) (g : Network) (step : ℕ) (upper : ℤ) (left : ℕ) (d : List ℤ) (x : Marks)
    → passes lifting g step upper left d x ≡ concluded g.m (pass lifting (with_marks g x) (multiplier d) upper) (later lifting g step upper left d)
unfolding passes
turn lifting g step upper zero d x = refl
turn lifting g step upper (suc left) d x = refl

module _ (lifting : Bool) (den : ℕ) (g : Graph) (valid : Valid g) (step : ℕ) (upper : ℤ) (out : M.Opened) (left : ℕ) (x : List ℕ) (d : List ℤ)
    (s : AtPass lifting den g step upper out left x d) where
  abbrev h : Graph
  h = with_bytes g x

  -- the machine's pass is the one that the code makes
  pass_is : (p : Pass) → pass lifting (scaled_by den (network h)) (multiplier (fit g.n (pos 0) d)) upper ≡ p
      → out ≡ concluded g.m p (later lifting (scaled_by den (network g)) step upper left (fit g.n (pos 0) d))
  unfolding network with_marks
  pass_is p e =
      sym s.comes
      ∙ turn lifting (scaled_by den (network g)) step upper left (fit g.n (pos 0) d) s.marks
      ∙ ap (λ (q : Pass). concluded g.m q (later lifting (scaled_by den (network g)) step upper left (fit g.n (pos 0) d))) same
    where
      same : pass lifting (with_marks (scaled_by den (network g)) s.marks) (multiplier (fit g.n (pos 0) d)) upper ≡ p
      same =
          ap (λ (f : Network). pass lifting (scaled_by den f) (multiplier (fit g.n (pos 0) d)) upper)
          (sym (network-marks g s.marks valid.few s.long) ∙ ap (λ (y : List ℕ). network (with_bytes g y)) (sym s.bytes))
          ∙ e

  pub turn_shut : pass lifting (scaled_by den (network h)) (multiplier (fit g.n (pos 0) d)) upper ≡ shut → out ≡ closes
  turn_shut e = pass_is shut e

  pub turn_found : (w : List ℕ) → FoundAs lifting den h (fit g.n (pos 0) d) upper w → FoundIn out w
  unfolding tree_bytes
  turn_found w f = record { tour = row g.m f.tour; is = pass_is (found f.tour) f.is; bytes = f.bytes }

  module _ (w degrees : List ℕ) (r : RuledAs lifting den h (fit g.n (pos 0) d) upper w degrees) where
    goes_on_lem : out ≡ later lifting (scaled_by den (network g)) step upper left (fit g.n (pos 0) d) r.tree r.marks
    goes_on_lem = pass_is (unclosed r.tree r.marks) r.is

    -- after the last pass
    pub turn_last : left ≡ 0 → (last : List ℤ) → last ≡ places (fit g.n (pos 0) d) → Pending g.m out w last
    turn_last z last e = record {
      marks = r.marks;
      multipliers = fit g.n (pos 0) d;
      long = r.long;
      comes = goes_on_lem ∙ ap (λ (i : ℕ). later lifting (scaled_by den (network g)) step upper i (fit g.n (pos 0) d) r.tree r.marks) z;
      bytes = r.bytes;
      told = e;
    }

    module _ (next : List ℤ) (gains : GainsTo g.n step degrees d next) (less : ℕ) (e : left ≡ suc less) where
      degree_now : (v : ℕ) → 1 ≤ v → v ≤ g.n → get_or degrees v 0 ≡ T.degree (scaled_by den (network g)) r.tree v
      unfolding T.degree network
      degree_now v a b = r.degree v a b

      pub turn_next : AtPass lifting den g step upper out less w next
      turn_next = record {
        marks = r.marks;
        long = r.long;
        bytes = r.bytes;
        fits = ap multipliers_fit gained_now ∙ again.fits;
        comes =
            ap (λ (l : List ℤ). passes lifting (scaled_by den (network g)) step upper less l r.marks) gained_now
            ∙ sym (goes_on_lem ∙ ap (λ (i : ℕ). later lifting (scaled_by den (network g)) step upper i (fit g.n (pos 0) d) r.tree r.marks) e);
      }
        where
          gained_now : fit g.n (pos 0) next ≡ gained (scaled_by den (network g)) step r.tree (fit g.n (pos 0) d)
          gained_now = unfold network in gains_is (scaled_by den (network g)) step r.tree degrees d next gains degree_now

          again : FitFor g.n (gained (scaled_by den (network g)) step r.tree (fit g.n (pos 0) d))
          again =
              unfold network in gained_fits (scaled_by den (network g)) (omega (arith, valid.low)) step r.tree (fit g.n (pos 0) d)
              (record { long = fit-size g.n (pos 0) d; fits = s.fits })

-- ---- a turn of the code, by its verdict, on the graph `now`, of which the marks alone have changed

-- what a turn comes to that leaves the node unclosed: the end of the passes, or the start of the next turn
pub record Turned (g : Graph) (first : List ℤ) (settings : Settings) (left : ℕ) (d : List ℤ) (w degrees : List ℕ) (live : ℕ) : Type 0 where
  pub fine : fault (taken g first settings) ≡ 0
  pub some : 1 ≤ g.n
  pub high : g.n ≤ max_vertices
  pub step : settings.step ≤ max_step
  pub ranged : (i : ℕ) → i < g.n → InRange max_multiplier (get_or d i (pos 0))
  pub last : left ≡ 0 → Pending g.m (outcome (taken g first settings)) w (places (fit g.n (pos 0) d))
  pub next : 0 < left → (e : List ℤ) → GainsTo g.n settings.step degrees d e → AtTurn g first settings (left - 1) w e
  pub few : live ≤ max_edges

module _ (g : Graph) (first : List ℤ) (settings : Settings) (padded : Padded g.m g.mark) (left : ℕ) (now : Graph) (d : List ℤ)
    (same : now ≡ with_bytes g now.mark) (s : AtTurn g first settings left now.mark d) where
  verdict_at : (a : Result Verdict Refusal) (w : List ℕ) → VerdictIs (taken now d settings) a w
      → VerdictIs (taken (with_bytes g now.mark) d settings) a w
  verdict_at a w h = subst (λ (x : Graph). VerdictIs (taken x d settings) a w) same h

  pub at_padded : Padded now.m now.mark
  at_padded = subst (λ (x : Graph). Padded x.m x.mark) (sym same) (turn_padded g first settings padded left now.mark d s)

  pub at_refused : (r : Refusal) (w : List ℕ) → VerdictIs (taken now d settings) (Err r) w → fault (taken g first settings) ≡ number r
  at_refused r w h =
      let v = verdict_at (Err r) w h in
      turn_refused g first settings padded left now.mark d s (number r) v.0 (not-zero r)

  accepted : fault (taken (with_bytes g now.mark) d settings) ≡ 0
      → (fault (taken g first settings) ≡ 0) × AtPassOf g first settings left now.mark d
  accepted = turn_accepted g first settings padded left now.mark d s

  pub at_shut : (w : List ℕ) → VerdictIs (taken now d settings) (Ok verdict.Shut) w
      → (fault (taken g first settings) ≡ 0) × (outcome (taken g first settings) ≡ closes)
  at_shut w h =
      let v = verdict_at (Ok verdict.Shut) w h in
      let t = accepted v.0 in
      (t.0, turn_shut _ _ g (fault-fit _ t.0).valid _ _ _ left now.mark d t.1 v.1)

  pub at_found : (w : List ℕ) → VerdictIs (taken now d settings) (Ok verdict.Found) w
      → (fault (taken g first settings) ≡ 0) × FoundIn (outcome (taken g first settings)) w
  at_found w h =
      let v = verdict_at (Ok verdict.Found) w h in
      let t = accepted v.0 in
      (t.0, turn_found _ _ g (fault-fit _ t.0).valid _ _ _ left now.mark d t.1 w v.1)

  pub at_ruled : (live : ℕ) (degrees w : List ℕ) → VerdictIs (taken now d settings) (Ok (verdict.Ruled live degrees)) w
      → Turned g first settings left d w degrees live
  at_ruled live degrees w h =
      let v = verdict_at (Ok (verdict.Ruled live degrees)) w h in
      let t = accepted v.0 in
      let f = fault-fit _ t.0 in
      record {
        fine = t.0;
        some = omega (arith, f.valid.low);
        high = f.valid.high;
        step = f.step;
        ranged = λ i b.
            rw (← fit_at g.n (pos 0) d i b) (fit_ranged (fit g.n (pos 0) d) t.1.fits i (omega (arith, fit-size g.n (pos 0) d)));
        last = λ z. turn_last _ _ g f.valid _ _ _ left now.mark d t.1 w degrees v.1 z _ refl;
        next = λ z e gains. inr (t.0, turn_next _ _ g f.valid _ _ _ left now.mark d t.1 w degrees v.1 e gains (left - 1) (omega arith));
        few = v.2;
      }
