-- The refusals of a simulation, in their order: which fault it is, test by test; what is known where there is none; the answer and the lent list
-- by the fault. Assumes nothing.
use Rattle.std.specs.Prelude.{◌≡◌, Bool, true, false, not, cond, ◌&&◌, List, eqb, leb, length, ℤ}
use Rattle.std.proofs.Math.Path.{refl}
use Rattle.std.proofs.Common.{sym, ◌∙◌, arith, leb-true, eqb-true}
use Prim.Native.Nat.{ℕ, zero, suc, ◌≤◌, ◌<◌}
use Rattle.lists.specs.Bools.{by_cases, and_both}
use Rattle.graph.specs.declared.Graph.{Graph}
use Rattle.graph.specs.Network.{network}
use Rattle.graph.specs.Valid.{Valid, valid}
use Rattle.graph.specs.Meaning.{valid_true}
use Rattle.sailing.specs.Draws.{max_student, max_spread, after}
use Rattle.sailing.specs.Orders.{in_sailing_order}
use Rattle.sailing.specs.Times.{total}
use Rattle.sailing.specs.Simulation.{sailed, refused, simulation_fault, times_of, reply_by, simulation_reply, leaves_by, simulation_leaves}

-- the tests, in order
abbrev pub sizes_fit : Graph → List ℕ → ℕ → Bool
sizes_fit g ks len = eqb (length ks) g.n && eqb len g.n

abbrev pub numbers_fit : ℕ → ℕ → Bool
numbers_fit student e = leb e max_spread && leb student max_student

module _ (g : Graph) (ks : List ℕ) (student e len : ℕ) where
  pub fault-graph : valid g ≡ false → simulation_fault g ks student e len ≡ 15
  unfolding simulation_fault
  fault-graph v = rw v

  pub fault-length : valid g ≡ true → sizes_fit g ks len ≡ false → simulation_fault g ks student e len ≡ 11
  unfolding simulation_fault
  fault-length v l = rw (v, l)

  pub fault_order : valid g ≡ true → sizes_fit g ks len ≡ true → in_sailing_order (network g) ks ≡ false → simulation_fault g ks student e len ≡ 36
  unfolding simulation_fault
  fault_order v l o = rw (v, l, o)

  pub fault_numbers : valid g ≡ true → sizes_fit g ks len ≡ true → in_sailing_order (network g) ks ≡ true → numbers_fit student e ≡ false
      → simulation_fault g ks student e len ≡ 37
  unfolding simulation_fault
  fault_numbers v l o f = rw (v, l, o, f)

  pub fault_none : valid g ≡ true → sizes_fit g ks len ≡ true → in_sailing_order (network g) ks ≡ true → numbers_fit student e ≡ true
      → simulation_fault g ks student e len ≡ 0
  unfolding simulation_fault
  fault_none v l o f = rw (v, l, o, f)

-- what is known where there is no fault
pub record Faultless (g : Graph) (ks : List ℕ) (student e len : ℕ) : Type 0 where
  pub is_valid : Valid g
  pub edges_size : length ks ≡ g.n
  pub times-size : len ≡ g.n
  pub in_order : in_sailing_order (network g) ks ≡ true
  pub spread_fits : e ≤ max_spread
  pub student_fits : student ≤ max_student

pub no_fault : (g : Graph) (ks : List ℕ) (student e len : ℕ) → simulation_fault g ks student e len ≡ 0 → Faultless g ks student e len
no_fault g ks student e len none =
    by_cases (valid g)
    (λ v. by_cases (sizes_fit g ks len)
    (λ l. by_cases (in_sailing_order (network g) ks)
    (λ o. by_cases (numbers_fit student e)
    (λ f. let sizes = and_both (eqb (length ks) g.n) (eqb len g.n) l in
    let numbers = and_both (leb e max_spread) (leb student max_student) f in
    record {
      is_valid = valid_true g v;
      edges_size = eqb-true (length ks) g.n sizes.0;
      times-size = eqb-true len g.n sizes.1;
      in_order = o;
      spread_fits = leb-true e max_spread numbers.0;
      student_fits = leb-true student max_student numbers.1;
    })
    (λ f. absurd (differ 37 (fault_numbers g ks student e len v l o f) (omega arith))))
    (λ o. absurd (differ 36 (fault_order g ks student e len v l o) (omega arith))))
    (λ l. absurd (differ 11 (fault-length g ks student e len v l) (omega arith))))
    (λ v. absurd (differ 15 (fault-graph g ks student e len v) (omega arith)))
  where
    differ : (x : ℕ) → simulation_fault g ks student e len ≡ x → 0 < x → ⊥
    differ x f h = let z : 0 ≡ x = sym none ∙ f in let w : 0 < x = h in omega arith

-- ---- the reply and the lent list, by the fault

module _ (g : Graph) (ks : List ℕ) (student e : ℕ) where
  pub reply-refused : (len f : ℕ) → simulation_fault g ks student e len ≡ f → ¬ (f ≡ 0) → simulation_reply g ks student e len ≡ refused f 0
  unfolding simulation_reply reply_by
  reply-refused len f is h = rw is (go f h)
    where
      go : (f : ℕ) → ¬ (f ≡ 0) → reply_by g ks student e f ≡ refused f 0
      go zero h = absurd (h refl)
      go (suc f) h = refl

  pub refused-leaves : (times : List ℤ) (f : ℕ) → simulation_fault g ks student e (length times) ≡ f → ¬ (f ≡ 0)
      → simulation_leaves g ks student e times ≡ times
  unfolding simulation_leaves leaves_by
  refused-leaves times f is h = rw is (go f h)
    where
      go : (f : ℕ) → ¬ (f ≡ 0) → leaves_by g ks student e times f ≡ times
      go zero h = absurd (h refl)
      go (suc f) h = refl

  pub reply_sailed : (len : ℕ) → simulation_fault g ks student e len ≡ 0
      → simulation_reply g ks student e len ≡ sailed (total (times_of g ks student e)) (after (length ks) student)
  unfolding simulation_reply reply_by
  reply_sailed len is = rw is

  pub sailed_leaves : (times : List ℤ) → simulation_fault g ks student e (length times) ≡ 0
      → simulation_leaves g ks student e times ≡ times_of g ks student e
  unfolding simulation_leaves leaves_by
  sailed_leaves times is = rw is
