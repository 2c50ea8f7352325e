-- A node that may be refused: what is promised by its fault, and its first turn, in which nothing is known of it yet (`AtTurn`): what a
-- pass refuses then is the node's fault, and a pass that refuses nothing shows that it has none.
use Rattle.std.specs.Prelude.{◌≡◌, ◌≢◌, ◌⊎◌, List, ℤ, pos, Result, Ok, Err}
use Rattle.std.proofs.Math.Path.{refl}
use Rattle.std.proofs.Common.{sym, ap, ◌∙◌, subst, ⊎_elim, arith}
use Prim.Native.Nat.{ℕ, zero, suc}
use Rattle.lists.specs.Fill.{fit-size}
use Rattle.graph.specs.declared.Graph.{Graph}
use Rattle.graph.specs.declared.refusals.Refusal.{Refusal}
use Rattle.graph.specs.Refusals.{number}
use Rattle.graph.specs.Network.{network}
use Rattle.tree_theory.specs.Scaled.{scaled_by}
use Rattle.machine.specs.declared.Settings.{Settings}
use Rattle.machine.specs.Outcomes.{closes, finds, splits}
use Rattle.machine.specs.Machine as M
use Rattle.machine.specs.Machine.{lifts, opened_on, passes}
use Rattle.node.specs.Given.{Given, fault}
use Rattle.node.specs.declared.Workspace.{Workspace}
use Rattle.node.specs.declared.passes.Ending.{Ending}
use Rattle.node.specs.declared.passes.Ending.TheVariants as ending
use Rattle.node.specs.Marks.{with_bytes, marks_in, Padded, bytes-padded, marks_back}
use Rattle.node.specs.Opened.{refused, refuses, opened_as, taken, opens_by}
use Rattle.node.specs.Faults.{fault-fit, fit-fault}
use Rattle.node.specs.OnePass.{top_of}
use Rattle.node.specs.Passes.{FoundIn, Pending, AtPass, at_first, at-valid}

-- what the node comes to, where it has no fault
abbrev pub outcome : Given → M.Opened
outcome o =
    passes (lifts o.settings) (scaled_by o.settings.denominator (network o.graph)) o.settings.step (top_of o) o.settings.sweeps o.multipliers
    (marks_in o.graph.m o.graph.mark)

-- the machine's opening of a node refuses nothing
pub never_refused : (out : M.Opened) (k : ℕ) → (opened_as out).fate ≡ refused k → ⊥
unfolding opened_as
never_refused closes k e = cc
never_refused (finds r) k e = cc
never_refused (splits x y) k e = cc

module _ (o : Given) (node : Workspace) where
  pub opens-refused : (k : ℕ) → k ≢ 0 → refuses k node ≡ opens_by k o node
  unfolding opens_by
  opens-refused zero n = absurd (n refl)
  opens-refused (suc k) n = refl

  pub opens_accepted : (k : ℕ) → k ≡ 0 → opened_as (outcome o) ≡ opens_by k o node
  unfolding opens_by opened_on
  opens_accepted zero e = refl
  opens_accepted (suc k) e = absurd (omega arith)

-- what the passes of a node show by their ending: it is refused with its fault, or has none and comes to what the machine's does
abbrev pub EndsAs : Given → Result Ending Refusal → List ℕ → List ℤ → List ℤ → Type 0
EndsAs o (Err r) w was last = (fault o ≡ number r) × (last ≡ was)
EndsAs o (Ok ending.Shut) w was last = (fault o ≡ 0) × (outcome o ≡ closes)
EndsAs o (Ok ending.Found) w was last = (fault o ≡ 0) × FoundIn (outcome o) w
EndsAs o (Ok ending.Unclosed) w was last = (fault o ≡ 0) × Pending o.graph.m (outcome o) w last

-- ---- a turn of the loop

module _ (g : Graph) (first : List ℤ) (settings : Settings) where
  abbrev given : Given
  given = taken g first settings

  -- its passes, in a turn of the loop
  abbrev pub AtPassOf : ℕ → List ℕ → List ℤ → Type 0
  AtPassOf left x d = AtPass (lifts settings) settings.denominator g settings.step (top_of given) (outcome given) left x d

  -- nothing is done yet, or the node has no fault
  abbrev pub AtTurn : ℕ → List ℕ → List ℤ → Type 0
  AtTurn left x d = ((left ≡ settings.sweeps) × (x ≡ g.mark) × (d ≡ first)) ⊎ ((fault given ≡ 0) × AtPassOf left x d)

  -- the opening that a turn's pass is given
  abbrev pub taken_at : List ℕ → List ℤ → Given
  taken_at x d = taken (with_bytes g x) d settings

  module _ (padded : Padded g.m g.mark) (left : ℕ) (x : List ℕ) (d : List ℤ) (s : AtTurn left x d) where
    pub turn_padded : Padded g.m x
    turn_padded = ⊎_elim (λ r. subst (Padded g.m) (sym r.1) padded)
        (λ r. subst (Padded g.m) (sym r.1.bytes) (bytes-padded g.m r.1.marks r.1.long)) s

    -- in the first turn it is the node's own opening
    first_taken : (x ≡ g.mark) → (d ≡ first) → taken_at x d ≡ given
    first_taken a b = λ i. taken_at (a i) (b i)

    -- later ones refuse nothing
    later-fit : fault given ≡ 0 → AtPassOf left x d → fault (taken_at x d) ≡ 0
    later-fit z t =
        let f = fault-fit given z in
        fit-fault (taken_at x d) (record {
          valid = at-valid (lifts settings) settings.denominator g f.valid settings.step (top_of given) (outcome given) left x d t;
          long = fit-size g.n (pos 0) d;
          multipliers = t.fits;
          ceiling = f.ceiling;
          sweeps = f.sweeps;
          step = f.step;
          denominator = f.denominator;
        })

    pub turn_refused : (k : ℕ) → fault (taken_at x d) ≡ k → k ≢ 0 → fault given ≡ k
    turn_refused k e n = ⊎_elim
        (λ r. sym (ap fault (first_taken r.1 r.2)) ∙ e)
        (λ r. absurd (n (sym e ∙ later-fit r.0 r.1))) s

    pub turn_accepted : fault (taken_at x d) ≡ 0 → (fault given ≡ 0) × AtPassOf left x d
    turn_accepted e = ⊎_elim
        (λ r.
        let z : fault given ≡ 0 = sym (ap fault (first_taken r.1 r.2)) ∙ e in
        let f = fault-fit given z in
        let start =
        at_first (lifts settings) settings.denominator g first settings.step (top_of given) settings.sweeps (marks_back g f.valid padded) f.multipliers
        in
        (z, begun r start))
        (λ r. r) s
      where
        begun : (left ≡ settings.sweeps) × (x ≡ g.mark) × (d ≡ first) → AtPassOf settings.sweeps g.mark first → AtPassOf left x d
        begun r t =
            subst (λ (i : ℕ). AtPassOf i x d) (sym r.0)
            (subst (λ (y : List ℕ). AtPassOf settings.sweeps y d) (sym r.1)
            (subst (λ (y : List ℤ). AtPassOf settings.sweeps g.mark y) (sym r.2) t))
