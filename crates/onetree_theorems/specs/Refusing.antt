-- The first number that applies, once for all calls: where tests decide what is asked, in its order, the fault that they give is the first.
-- And the tests of these calls. Assumes nothing.
use Rattle.std.specs.Prelude.{◌≡◌, ◌↔◌, ◌⊎◌, Bool, true, false, not, cond, ◌&&◌, List, [], ◌∷◌, ℕ, suc, ◌<◌, ◌≤◌, eqb, leb, length, get_or, ℤ}
use Rattle.std.proofs.Math.Path.{refl}
use Rattle.std.proofs.Common.{sym, ◌∙◌, inl, inr, arith, eqb-true, eq-eqb, ne_eqb, true≢false, leb-true, le-leb}
use Rattle.std.proofs.lemmas.Bool.{false≢true, not-true}
use Rattle.lists.specs.All.{every_of, each-passes, at-passes}
use Rattle.lists.specs.Bools.{Says, and_both}
use Rattle.integers.specs.Range.{InRange, within, within_range, range_within}
use Rattle.graph.specs.declared.Graph.{Graph}
use Rattle.graph.specs.Limits.{max_ceiling, max_sweeps, max_step, max_denominator}
use Rattle.graph.specs.Valid.{Valid, valid}
use Rattle.graph.specs.Meaning.{valid_true, true_valid}
use Rattle.tree_theory.specs.Inputs.{multiplier, multipliers_fit, ceiling_fits, denominator_fits, denominator_fault, or_else}
use Rattle.tree_theory.specs.Multipliers.{fit_ranged, ranged_fit, multiplier_range}
use Rattle.afloat.specs.Over.{ashore, active_count, ashore_fits, ashore_fault}
use Rattle.reduction.specs.Answers.{input_fault_over, tree_fault_over, rule_fault_over}
use Rattle.machine.specs.Machine.{Opening}
use Rattle.machine.specs.Calls.{fault}
use Rattle.machine.specs.Gained.{fit-first}
use Rattle.onetree_theorems.specs.Calls.{Asked, First, Fine, LengthsFit, MultipliersFit, DenominatorFits, AshoreFits, tree_asks, rule_asks, opening_asks}

-- ---- tests in order

-- a test that decides each thing asked, and a number above 0
abbrev pub Tests : List Asked → Type 0
Tests [] = Unit {0}
Tests (x ∷ xs) = (t : Bool) × Says t x.1 × (0 < x.0) × Tests xs

unfoldable pub fault_by : (xs : List Asked) → Tests xs → ℕ
fault_by [] t = 0
fault_by (x ∷ xs) t = cond (not t.0) x.0 (fault_by xs t.3)

pub fault-first : (xs : List Asked) (t : Tests xs) (e : ℕ) → fault_by xs t ≡ suc e → First xs (suc e)
unfolding fault_by
fault-first [] t e h = absurd (let z : 0 ≡ suc e = h in omega arith)
fault-first (x ∷ xs) t e h = go t.0 t.1 h (fault-first xs t.3 e)
  where
    go : (b : Bool) → Says b x.1 → cond (not b) x.0 (fault_by xs t.3) ≡ suc e
        → (fault_by xs t.3 ≡ suc e → First xs (suc e)) → ((¬ x.1) × (suc e ≡ x.0)) ⊎ (x.1 × First xs (suc e))
    go true s k below = inr (s, below k)
    go false s k below = inl (s, sym k)

pub first-fault : (xs : List Asked) (t : Tests xs) (e : ℕ) → First xs e → (fault_by xs t ≡ e) × (0 < e)
unfolding fault_by
first-fault [] t e f = absurd f
first-fault (x ∷ xs) t e f = go t.0 t.1 f (first-fault xs t.3 e)
  where
    go : (b : Bool) → Says b x.1 → ((¬ x.1) × (e ≡ x.0)) ⊎ (x.1 × First xs e)
        → (First xs e → (fault_by xs t.3 ≡ e) × (0 < e)) → (cond (not b) x.0 (fault_by xs t.3) ≡ e) × (0 < e)
    go true s (inl n) below = absurd (n.0 s)
    go true s (inr r) below = below r.1
    go false s (inl n) below = (sym n.1, omega (arith, n.1, t.2))
    go false s (inr r) below = absurd (s r.0)

pub fault_none : (xs : List Asked) (t : Tests xs) → (fault_by xs t ≡ 0) ↔ Fine xs
unfolding fault_by
fault_none [] t = ((λ e. tt), λ f. refl)
fault_none (x ∷ xs) t = go t.0 t.1 (fault_none xs t.3)
  where
    go : (b : Bool) → Says b x.1 → (fault_by xs t.3 ≡ 0) ↔ Fine xs → (cond (not b) x.0 (fault_by xs t.3) ≡ 0) ↔ (x.1 × Fine xs)
    go true s below = ((λ e. (s, below.0 e)), λ f. below.1 f.1)
    go false s below = ((λ e. absurd (let z : suc 0 ≤ 0 = omega (arith, e, t.2) in omega arith)), λ f. absurd (s f.0))

-- ---- what each test decides

pub decides : (b : Bool) {P : Type 0} → (b ≡ true → P) → (P → b ≡ true) → Says b P
decides true f k = f refl
decides false f k = λ p. false≢true (k p)

abbrev pub lengths_fit : Graph → List ℤ → List ℕ → ℕ → Bool
lengths_fit g d l len = (eqb (length d) g.n && eqb (length l) g.n) && eqb len g.m

pub lengths : (g : Graph) (d : List ℤ) (l : List ℕ) (len : ℕ) → Says (lengths_fit g d l len) (LengthsFit g d l len)
lengths g d l len =
    decides (lengths_fit g d l len)
    (λ e. let b = and_both (eqb (length d) g.n && eqb (length l) g.n) (eqb len g.m) e in
    let c = and_both (eqb (length d) g.n) (eqb (length l) g.n) b.0 in
    record { multipliers = eqb-true (length d) g.n c.0; listed = eqb-true (length l) g.n c.1; lent = eqb-true len g.m b.1 })
    (λ f. rw (eq-eqb (length d) g.n f.multipliers, eq-eqb (length l) g.n f.listed, eq-eqb len g.m f.lent))

pub multipliers : (d : List ℤ) → Says (multipliers_fit d) (MultipliersFit d)
unfolding multiplier
multipliers d =
    decides (multipliers_fit d)
    (λ e. record { range = multiplier_range d (fit_ranged d e); first = fit-first d e })
    (λ f. ranged_fit d (λ k l. f.range (suc k) (omega arith) l) f.first)

ceilings : (z : ℤ) → Says (ceiling_fits z) (InRange max_ceiling z)
unfolding ceiling_fits
ceilings z = decides (within max_ceiling z) (within_range max_ceiling z) (range_within max_ceiling z)

pub graphs : (g : Graph) → Says (valid g) (Valid g)
graphs g = decides (valid g) (valid_true g) (true_valid g)

sweeps : (x y : ℕ) → Says (leb x max_sweeps && leb y max_step) ((x ≤ max_sweeps) × (y ≤ max_step))
sweeps x y =
    decides (leb x max_sweeps && leb y max_step)
    (λ e. let b = and_both (leb x max_sweeps) (leb y max_step) e in (leb-true x max_sweeps b.0, leb-true y max_step b.1))
    (λ f. rw (le-leb x max_sweeps f.0, le-leb y max_step f.1))

pub denominators : (q : ℕ) → Says (denominator_fits q) (DenominatorFits q)
unfolding denominator_fits
denominators q =
    decides (leb 1 q && leb q max_denominator)
    (λ e. let b = and_both (leb 1 q) (leb q max_denominator) e in record { low = leb-true 1 q b.0; high = leb-true q max_denominator b.1 })
    (λ f. rw (le-leb 1 q f.low, le-leb q max_denominator f.high))

pub ashores : (l : List ℕ) (n : ℕ) → Says (ashore_fits l n) (AshoreFits l n)
unfolding ashore_fits ashore
ashores l n =
    decides (ashore_fits l n)
    (λ e. let a = and_both (every_of low l) (not (eqb (get_or l 0 0) 1) && leb 3 (active_count (ashore l) n)) e in
    let b = and_both (not (eqb (get_or l 0 0) 1)) (leb 3 (active_count (ashore l) n)) a.1 in
    record {
      bytes = λ i h. leb-true (get_or l i 0) 1 (at-passes low 0 l i h a.0);
      one = λ z. true≢false (sym (eq-eqb (get_or l 0 0) 1 z) ∙ not-true (eqb (get_or l 0 0) 1) b.0);
      three = leb-true 3 (active_count (ashore l) n) b.1;
    })
    (λ f. rw (
      each-passes low 0 l (λ i h. le-leb (get_or l i 0) 1 (f.bytes i h)),
      ne_eqb (get_or l 0 0) 1 f.one,
      le-leb 3 (active_count (ashore l) n) f.three,
    ))
  where
    low : ℕ → Bool
    low b = leb b 1

opening-length : (o : Opening)
    → Says (eqb (length o.multipliers) o.graph.n && eqb (length o.ashore) o.graph.n)
    ((length o.multipliers ≡ o.graph.n) × (length o.ashore ≡ o.graph.n))
opening-length o =
    decides (eqb (length o.multipliers) o.graph.n && eqb (length o.ashore) o.graph.n)
    (λ e. let b = and_both (eqb (length o.multipliers) o.graph.n) (eqb (length o.ashore) o.graph.n) e in
    (eqb-true (length o.multipliers) o.graph.n b.0, eqb-true (length o.ashore) o.graph.n b.1))
    (λ f. rw (eq-eqb (length o.multipliers) o.graph.n f.0, eq-eqb (length o.ashore) o.graph.n f.1))

-- a fault and then another are two tests
pub in_order : (b : Bool) (n f : ℕ) → or_else (cond (not b) (suc n) 0) f ≡ cond (not b) (suc n) f
in_order true n f = refl
in_order false n f = refl

-- ---- the calls

module _ (g : Graph) (d : List ℤ) (l : List ℕ) (q len : ℕ) where
  pub tree_tests : Tests (tree_asks g d l q len)
  tree_tests = (
    valid g,
    graphs g,
    omega arith,
    (
      lengths_fit g d l len,
      lengths g d l len,
      omega arith,
      (
        multipliers_fit d,
        multipliers d,
        omega arith,
        (
          denominator_fits q,
          denominators q,
          omega arith,
          (ashore_fits l g.n, ashores l g.n, omega arith, tt),
        ),
      ),
    ),
  )

  -- the last two in order
  last_two : or_else (denominator_fault q) (ashore_fault l g.n) ≡ cond (not (denominator_fits q)) 32 (cond (not (ashore_fits l g.n)) 35 0)
  unfolding denominator_fault ashore_fault
  last_two = in_order (denominator_fits q) 31 (cond (not (ashore_fits l g.n)) 35 0)

  pub tree-fault : tree_fault_over g d l q len ≡ fault_by (tree_asks g d l q len) tree_tests
  unfolding tree_fault_over input_fault_over tree_tests fault_by
  tree-fault = λ i. cond (not (valid g)) 15 (cond (not (lengths_fit g d l len)) 11 (cond (not (multipliers_fit d)) 12 (last_two i)))

  pub rule_tests : (ceiling : ℤ) → Tests (rule_asks g d l ceiling q len)
  rule_tests ceiling = (
    valid g,
    graphs g,
    omega arith,
    (
      lengths_fit g d l len,
      lengths g d l len,
      omega arith,
      (
        multipliers_fit d,
        multipliers d,
        omega arith,
        (
          ceiling_fits ceiling,
          ceilings ceiling,
          omega arith,
          (
            denominator_fits q,
            denominators q,
            omega arith,
            (ashore_fits l g.n, ashores l g.n, omega arith, tt),
          ),
        ),
      ),
    ),
  )

  pub rule_fault_lem : (ceiling : ℤ) → rule_fault_over g d l ceiling q len ≡ fault_by (rule_asks g d l ceiling q len) (rule_tests ceiling)
  unfolding rule_fault_over input_fault_over rule_tests fault_by
  rule_fault_lem ceiling = λ i.
      cond (not (valid g)) 15
      (cond (not (lengths_fit g d l len)) 11
      (cond (not (multipliers_fit d)) 12
      (cond (not (ceiling_fits ceiling)) 13
      (last_two i))))

module _ (o : Opening) where
  pub opening_tests : Tests (opening_asks o)
  opening_tests = (
    valid o.graph,
    graphs o.graph,
    omega arith,
    (
      eqb (length o.multipliers) o.graph.n && eqb (length o.ashore) o.graph.n,
      opening-length o,
      omega arith,
      (
        multipliers_fit o.multipliers,
        multipliers o.multipliers,
        omega arith,
        (
          ceiling_fits o.settings.ceiling,
          ceilings o.settings.ceiling,
          omega arith,
          (
            leb o.settings.sweeps max_sweeps && leb o.settings.step max_step,
            sweeps o.settings.sweeps o.settings.step,
            omega arith,
            (
              denominator_fits o.settings.denominator,
              denominators o.settings.denominator,
              omega arith,
              (ashore_fits o.ashore o.graph.n, ashores o.ashore o.graph.n, omega arith, tt),
            ),
          ),
        ),
      ),
    ),
  )

  pub opening-fault : fault o ≡ fault_by (opening_asks o) opening_tests
  unfolding fault denominator_fault ashore_fault opening_tests fault_by
  opening-fault = λ i.
      cond (not (valid o.graph)) 15
      (cond (not (eqb (length o.multipliers) o.graph.n && eqb (length o.ashore) o.graph.n)) 11
      (cond (not (multipliers_fit o.multipliers)) 12
      (cond (not (ceiling_fits o.settings.ceiling)) 13
      (cond (not (leb o.settings.sweeps max_sweeps && leb o.settings.step max_step)) 14
      (in_order (denominator_fits o.settings.denominator) 31 (cond (not (ashore_fits o.ashore o.graph.n)) 35 0) i)))))
