-- The faults of the calls in their order, and what is known where there is none.
use Rattle.std.specs.Prelude.{◌≡◌, ◌≢◌, refl, Bool, true, false, not, cond, ◌&&◌, List, ℕ, ◌≤◌, eqb, length, ℤ}
use Rattle.std.proofs.Common.{◌∙◌, sym, arith, eqb-true}
use Rattle.lists.specs.Bools.{and_both}
use Rattle.graph.specs.declared.Graph.{Graph}
use Rattle.graph.specs.Valid as value
use Rattle.graph.specs.Meaning.{valid_true}
use Rattle.tree_theory.specs.Inputs.{multipliers_fit, ceiling_fits, denominator_fault, or_else}
use Rattle.tree_theory.specs.Accepted.{else_first, else_next, else_none, passed}
use Rattle.afloat.specs.Over.{ashore_fault}
use Rattle.onetree.specs.Answers.{Reply, refused}
use Rattle.onetree.specs.TreeCall.{fault-replies, fault-leaves}
use Rattle.reduction.specs.Answers.{input_fault_over, tree_fault_over, tree_reply_over, tree_leaves_over, rule_fault_over, rule_reply_over, rule_leaves_over}

-- multipliers that a graph's vertices may have
pub record MultipliersFit (g : Graph) (d : List ℤ) : Type 0 where
  pub long : length d ≡ g.n
  pub fit : multipliers_fit d ≡ true

-- what a call with the list may rely on
pub record AcceptedOver (g : Graph) (d : List ℤ) (l : List ℕ) (len : ℕ) : Type 0 where
  pub valid : value.Valid g
  pub multipliers : MultipliersFit g d
  pub listed : length l ≡ g.n
  pub lent : len ≡ g.m

module _ (g : Graph) (d : List ℤ) (l : List ℕ) (len : ℕ) where
  pub accepted_over : input_fault_over g d l len 0 ≡ 0 → AcceptedOver g d l len
  unfolding input_fault_over
  accepted_over h =
      let p = passed (value.valid g) 15 _ (omega arith) h in
      let q = passed ((eqb (length d) g.n && eqb (length l) g.n) && eqb len g.m) 11 _ (omega arith) p.1 in
      let r = passed (multipliers_fit d) 12 0 (omega arith) q.1 in
      let lengths = and_both (eqb (length d) g.n && eqb (length l) g.n) (eqb len g.m) q.0 in
      let lists = and_both (eqb (length d) g.n) (eqb (length l) g.n) lengths.0 in
      record {
        valid = valid_true g p.0;
        multipliers = record { long = eqb-true (length d) g.n lists.0; fit = r.0 };
        listed = eqb-true (length l) g.n lists.1;
        lent = eqb-true len g.m lengths.1;
      }

  -- what is left to test comes after the input
  three : (a b c : Bool) (left : ℕ) → cond (not a) 15 (cond (not b) 11 (cond (not c) 12 left)) ≡ or_else
      (cond (not a) 15 (cond (not b) 11 (cond (not c) 12 0))) left
  three false b c left = refl
  three true false c left = refl
  three true true false left = refl
  three true true true left = refl

  input_then : (left : ℕ) → input_fault_over g d l len left ≡ or_else (input_fault_over g d l len 0) left
  unfolding input_fault_over
  input_then left = three (value.valid g) ((eqb (length d) g.n && eqb (length l) g.n) && eqb len g.m) (multipliers_fit d) left

  -- ---- the first fault

  pub first_of : (left n : ℕ) → n ≡ input_fault_over g d l len 0 → 1 ≤ n → n ≡ input_fault_over g d l len left
  first_of left n h p = h ∙ sym (input_then left ∙ else_first _ left (λ e. omega (arith, h, e)))

  pub next_of : (left n : ℕ) → n ≡ left → 0 ≡ input_fault_over g d l len 0 → n ≡ input_fault_over g d l len left
  next_of left n h e = h ∙ sym (input_then left ∙ else_next _ left (sym e))

  else_is : (e f n : ℕ) → n ≡ e → 1 ≤ n → n ≡ or_else e f
  else_is e f n h p = h ∙ sym (else_first e f (λ i. omega (arith, h, i)))

  then_is : (e f n : ℕ) → n ≡ f → 0 ≡ e → n ≡ or_else e f
  then_is e f n h p = h ∙ sym (else_next e f (sym p))

  -- where a tree call has none
  pub tree_accepted : (q : ℕ) → tree_fault_over g d l q len ≡ 0 → AcceptedOver g d l len × (denominator_fault q ≡ 0) × (ashore_fault l g.n ≡ 0)
  unfolding tree_fault_over
  tree_accepted q h =
      let a = else_none _ _ (sym (input_then _) ∙ h) in
      let b = else_none _ _ a.1 in
      (accepted_over a.0, b.0, b.1)

  module _ (q n : ℕ) where
    pub tree_first : n ≡ input_fault_over g d l len 0 → 1 ≤ n → n ≡ tree_fault_over g d l q len
    unfolding tree_fault_over
    tree_first h p = first_of _ n h p

    pub tree_second : n ≡ denominator_fault q → 1 ≤ n → 0 ≡ input_fault_over g d l len 0 → n ≡ tree_fault_over g d l q len
    unfolding tree_fault_over
    tree_second h p e = next_of _ n (else_is _ _ n h p) e

    pub tree_third : n ≡ ashore_fault l g.n → 0 ≡ denominator_fault q → 0 ≡ input_fault_over g d l len 0 → n ≡ tree_fault_over g d l q len
    unfolding tree_fault_over
    tree_third h p e = next_of _ n (then_is _ _ n h p) e

    module _ (ceiling : ℤ) where
      pub rule_first : n ≡ input_fault_over g d l len 0 → 1 ≤ n → n ≡ rule_fault_over g d l ceiling q len
      unfolding rule_fault_over
      rule_first h p = first_of _ n h p

      over_ceiling : (b : Bool) (x : ℕ) → n ≡ cond (not b) 13 0 → 1 ≤ n → n ≡ cond (not b) 13 x
      over_ceiling true x h p = absurd (omega arith)
      over_ceiling false x h p = h

      under_ceiling : (b : Bool) (x : ℕ) → n ≡ x → ◌≡◌ {A = ℕ} 0 (cond (not b) 13 0) → n ≡ cond (not b) 13 x
      under_ceiling true x h e = h
      under_ceiling false x h e = absurd (omega arith)

      pub rule_second : n ≡ cond (not (ceiling_fits ceiling)) 13 0 → 1 ≤ n → 0 ≡ input_fault_over g d l len 0 → n ≡ rule_fault_over g d l ceiling q len
      unfolding rule_fault_over
      rule_second h p e = next_of _ n (over_ceiling (ceiling_fits ceiling) _ h p) e

      module _ (c : ◌≡◌ {A = ℕ} 0 (cond (not (ceiling_fits ceiling)) 13 0)) where
        pub rule_third : n ≡ denominator_fault q → 1 ≤ n → 0 ≡ input_fault_over g d l len 0 → n ≡ rule_fault_over g d l ceiling q len
        unfolding rule_fault_over
        rule_third h p e = next_of _ n (under_ceiling (ceiling_fits ceiling) _ (else_is _ _ n h p) c) e

        pub rule_fourth : n ≡ ashore_fault l g.n → 0 ≡ denominator_fault q → 0 ≡ input_fault_over g d l len 0 → n ≡ rule_fault_over g d l ceiling q len
        unfolding rule_fault_over
        rule_fourth h p e = next_of _ n (under_ceiling (ceiling_fits ceiling) _ (then_is _ _ n h p) c) e

-- ---- the calls by their fault: the reply r, and the list that is left

pub record TreeCallOver (g : Graph) (d : List ℤ) (l : List ℕ) (q : ℕ) (out : List ℕ) (r : Reply) (after : List ℕ) : Type 0 where
  pub reply : r ≡ tree_reply_over g d l q (length out)
  pub left : after ≡ tree_leaves_over g d l q out

pub record RuleCallOver (g : Graph) (d : List ℤ) (l : List ℕ) (ceiling : ℤ) (q : ℕ) (out : List ℕ) (r : Reply) (after : List ℕ) : Type 0 where
  pub reply : r ≡ rule_reply_over g d l ceiling q (length out)
  pub left : after ≡ rule_leaves_over g d l ceiling q out

module _ (g : Graph) (d : List ℤ) (l : List ℕ) (q : ℕ) (out : List ℕ) (f : ℕ) (n : f ≢ 0) where
  pub tree_refused : f ≡ tree_fault_over g d l q (length out) → TreeCallOver g d l q out (refused f 0) out
  unfolding tree_reply_over tree_leaves_over
  tree_refused e = rw e (record {
    reply = sym (fault-replies (tree_fault_over g d l q (length out)) _ (λ z. n (e ∙ z)));
    left = sym (fault-leaves (tree_fault_over g d l q (length out)) out _ (λ z. n (e ∙ z)));
  })

  pub rule_refused : (ceiling : ℤ) → f ≡ rule_fault_over g d l ceiling q (length out) → RuleCallOver g d l ceiling q out (refused f 0) out
  unfolding rule_reply_over rule_leaves_over
  rule_refused ceiling e = rw e (record {
    reply = sym (fault-replies (rule_fault_over g d l ceiling q (length out)) _ (λ z. n (e ∙ z)));
    left = sym (fault-leaves (rule_fault_over g d l ceiling q (length out)) out _ (λ z. n (e ∙ z)));
  })
