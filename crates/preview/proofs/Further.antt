-- Laws that no proof cites today: the fault of a preview, test by test, and what is known where there is none. Assumes nothing.
use Rattle.std.specs.Prelude.{◌≡◌, refl, Bool, true, false, ◌&&◌, ◌||◌, List, ℕ, ◌≤◌, eqb, leb, length, ℤ}
use Rattle.std.proofs.Common.{◌∙◌, arith, leb-true, eqb-true}
use Rattle.graph.specs.declared.Graph.{Graph}
use Rattle.graph.specs.Valid.{Valid, valid}
use Rattle.tree_theory.specs.Inputs.{multipliers_fit, denominator_fits, denominator_fault}
use Rattle.tree_theory.specs.Accepted.{else_next, else_none, passed}
use Rattle.afloat.specs.Over.{ashore_fault}
use Rattle.reduction.specs.Answers.{input_fault_over, tree_fault_over}
use Rattle.reduction.specs.Accepting.{tree_accepted}
use Rattle.preview.specs.Preview.{can_be_marked, is_free_edge, preview_fault}

-- the lists have their lengths: l is the list of the vertices that are ashore, len the lent list's length
abbrev pub lengths_fit : Graph → List ℤ → List ℕ → ℕ → Bool
lengths_fit g d l len = (eqb (length d) g.n && eqb (length l) g.n) && eqb len g.m

module _ (g : Graph) (d : List ℤ) (l : List ℕ) (q k mark len : ℕ) where
  pub fault-graph : valid g ≡ false → preview_fault g d l q k mark len ≡ 15
  unfolding preview_fault tree_fault_over input_fault_over
  fault-graph v = rw v

  pub fault-length : valid g ≡ true → lengths_fit g d l len ≡ false → preview_fault g d l q k mark len ≡ 11
  unfolding preview_fault tree_fault_over input_fault_over
  fault-length v e = rw (v, e)

  pub fault_multipliers : valid g ≡ true → lengths_fit g d l len ≡ true → multipliers_fit d ≡ false → preview_fault g d l q k mark len ≡ 12
  unfolding preview_fault tree_fault_over input_fault_over
  fault_multipliers v e f = rw (v, e, f)

  pub fault_denominator : valid g ≡ true → lengths_fit g d l len ≡ true → multipliers_fit d ≡ true → denominator_fits q ≡ false
      → preview_fault g d l q k mark len ≡ 32
  unfolding preview_fault tree_fault_over input_fault_over denominator_fault
  fault_denominator v e f n = rw (v, e, f, n)

  -- where these fit, and the list says which vertices are ashore, the tree call refuses nothing
  pub fault_tree : valid g ≡ true → lengths_fit g d l len ≡ true → multipliers_fit d ≡ true → denominator_fits q ≡ true → ashore_fault l g.n ≡ 0
      → tree_fault_over g d l q len ≡ 0
  unfolding tree_fault_over input_fault_over denominator_fault
  fault_tree v e f n a = rw (v, e, f, n, a)

  pub fault_mark : tree_fault_over g d l q len ≡ 0 → can_be_marked g k mark ≡ false → preview_fault g d l q k mark len ≡ 30
  unfolding preview_fault
  fault_mark e c = else_next _ _ e ∙ rw c refl

  pub fault_free : tree_fault_over g d l q len ≡ 0 → can_be_marked g k mark ≡ true → is_free_edge g k ≡ false → preview_fault g d l q k mark len ≡ 31
  unfolding preview_fault
  fault_free e c f = else_next _ _ e ∙ rw (c, f) refl

  pub fault_none : tree_fault_over g d l q len ≡ 0 → can_be_marked g k mark ≡ true → is_free_edge g k ≡ true → preview_fault g d l q k mark len ≡ 0
  unfolding preview_fault
  fault_none e c f = else_next _ _ e ∙ rw (c, f) refl

-- an edge that can be marked is one, and the mark is 1 or 2
pub marked_fits : (g : Graph) (k mark : ℕ) → can_be_marked g k mark ≡ true → (1 ≤ k) × (k ≤ g.m) × (mark ≤ 2)
marked_fits g k mark c = go (leb 1 k) (leb k g.m) (eqb mark 1) (eqb mark 2) refl refl refl refl c
  where
    no : false ≡ true → ⊥
    no e = let z : ◌≡◌ {A = ℕ} 0 1 = cc in omega arith

    go : (p q r s : Bool) → leb 1 k ≡ p → leb k g.m ≡ q → eqb mark 1 ≡ r → eqb mark 2 ≡ s → ((p && q) && (r || s)) ≡ true
        → (1 ≤ k) × (k ≤ g.m) × (mark ≤ 2)
    go true true true s e f h i c = (leb-true 1 k e, leb-true k g.m f, omega (arith, eqb-true mark 1 h))
    go true true false true e f h i c = (leb-true 1 k e, leb-true k g.m f, omega (arith, eqb-true mark 2 i))
    go true true false false e f h i c = absurd (no c)
    go true false r s e f h i c = absurd (no c)
    go false q r s e f h i c = absurd (no c)

-- what is known where there is no fault
pub record Faultless (g : Graph) (k mark : ℕ) : Type 0 where
  pub is_valid : Valid g
  pub least : 1 ≤ k
  pub most : k ≤ g.m
  pub is_mark : mark ≤ 2

pub no_fault : (g : Graph) (d : List ℤ) (l : List ℕ) (q k mark len : ℕ) → preview_fault g d l q k mark len ≡ 0 → Faultless g k mark
unfolding preview_fault
no_fault g d l q k mark len e =
    let a = else_none _ _ e in
    let c = passed (can_be_marked g k mark) 30 _ (omega arith) a.1 in
    let m = marked_fits g k mark c.0 in
    record { is_valid = (tree_accepted g d l len q a.0).0.valid; least = m.0; most = m.1; is_mark = m.2 }
