-- "with none ashore they read as before": where the list has a 0 for each vertex, the faults of the calls are the former ones, and the tree and the
-- rulings are those of the network itself.
use Rattle.std.specs.Prelude.{◌≡◌, refl, Bool, true, false, not, cond, ◌&&◌, List, [], ◌∷◌, ℕ, zero, suc, eqb, leb, length, get_or, replicate, ℤ}
use Rattle.std.specs.List.{list_all}
use Rattle.std.proofs.Common.{◌∙◌, sym, ap, arith, eqb-true, eq-eqb}
use Rattle.lists.specs.All.{every_of, every_is, at-passes}
use Rattle.lists.specs.Bools.{and_both, by_cases}
use Rattle.lists.specs.Fill.{replicate_is}
use Rattle.std.proofs.lemmas.List.{length-replicate}
use Rattle.integers.specs.Multiples.{◌times◌}
use Rattle.graph.specs.declared.Graph.{Graph}
use Rattle.graph.specs.Network.{network}
use Rattle.graph.specs.Valid.{valid}
use Rattle.graph.specs.Meaning.{valid_true}
use Rattle.tree_theory.specs.Inputs.{multiplier, multipliers_fit, ceiling_fits, denominator_fault, or_else, input_fault}
use Rattle.tree_theory.specs.Enumeration.{least_tree, ruling}
use Rattle.tree_theory.specs.Scaled.{scaled_by}
use Rattle.afloat.specs.Over.{ashore, ashore_fits, ashore_fault}
use Rattle.afloat.specs.Inputs.{none_ashore, none_fault}
use Rattle.afloat.specs.NoneAshore.{count_none, least_tree_none, ruling_none}
use Rattle.onetree.specs.Answers.{tree_fault, rule_fault}
use Rattle.reduction.specs.Answers.{input_fault_over, tree_fault_over, rule_fault_over, tree_of, rulings_of}
use Rattle.reduction.specs.Listed.{none_listed, all_zero}

-- as code finds it
pub none_is : (l : List ℕ) (n : ℕ) → none_listed l n ≡ true → replicate n 0 ≡ l
none_is l n h =
    let b = and_both (eqb (length l) n) _ h in
    let long = eqb-true (length l) n b.0 in
    replicate_is n 0 l long (λ i k.
    eqb-true (get_or l i 0) 0 (at-passes (λ x. eqb x 0) 0 l i (omega (arith, long)) (every_is (λ x. eqb x 0) l ∙ b.1)))

-- a list of zeros, of any length, fits where there are three vertices
zeros_low : (l : List ℕ) → list_all (λ b. eqb b 0) l ≡ true → every_of (λ b. leb b 1) l ≡ true
unfolding every_of
zeros_low [] h = refl
zeros_low (b ∷ l) h = let p = and_both (eqb b 0) (list_all (λ x. eqb x 0) l) h in rw (eqb-true b 0 p.0, zeros_low l p.1)

zero_byte : (l : List ℕ) → list_all (λ b. eqb b 0) l ≡ true → (j : ℕ) → get_or l j 0 ≡ 0
zero_byte [] h j = refl
zero_byte (b ∷ l) h zero = eqb-true b 0 (and_both (eqb b 0) (list_all (λ x. eqb x 0) l) h).0
zero_byte (b ∷ l) h (suc j) = zero_byte l (and_both (eqb b 0) (list_all (λ x. eqb x 0) l) h).1 j

zeros_none : (l : List ℕ) → list_all (λ b. eqb b 0) l ≡ true → (v : ℕ) → ashore l v ≡ false
unfolding ashore
zeros_none l h zero = refl
zeros_none l h (suc j) = rw (zero_byte l h j)

pub zeros_fit : (l : List ℕ) (n : ℕ) → all_zero l ≡ true → ashore_fits l n ≡ leb 3 n
unfolding ashore_fits
zeros_fit l n h =
    rw (zeros_low l h, zeros_none l h 1, count_none (ashore l) (zeros_none l h) n)

module _ (g : Graph) (d : List ℤ) where
  abbrev zeros : List ℕ
  zeros = replicate g.n 0

  -- THE FAULTS
  same_input : (len left other : ℕ) → (valid g ≡ true → left ≡ other) → input_fault_over g d zeros len left ≡ input_fault g d len other
  unfolding input_fault_over input_fault
  same_input len left other e =
      by_cases (valid g)
      (λ v. rw (v, eq-eqb (length zeros) g.n (length-replicate g.n 0), e v) (either (eqb (length d) g.n) (eqb len g.m) other))
      (λ v. rw v)
    where
      either : (a b : Bool) (x : ℕ)
          → cond (not ((a && true) && b)) 11 (cond (not (multipliers_fit d)) 12 x) ≡ cond (not (a && b)) 11 (cond (not (multipliers_fit d)) 12 x)
      either true b x = refl
      either false b x = refl

  none_else : (e f : ℕ) → f ≡ 0 → or_else e f ≡ e
  none_else zero f h = h
  none_else (suc e) f h = refl

  no_ashore : (q : ℕ) → valid g ≡ true → or_else (denominator_fault q) (ashore_fault zeros g.n) ≡ denominator_fault q
  no_ashore q v = none_else (denominator_fault q) (ashore_fault zeros g.n) (none_fault g.n (valid_true g v).low)

  pub tree_fault_none : (q len : ℕ) → tree_fault_over g d zeros q len ≡ tree_fault g d q len
  unfolding tree_fault_over tree_fault
  tree_fault_none q len = same_input len _ _ (no_ashore q)

  pub rule_fault_none : (ceiling : ℤ) (q len : ℕ) → rule_fault_over g d zeros ceiling q len ≡ rule_fault g d ceiling q len
  unfolding rule_fault_over rule_fault
  rule_fault_none ceiling q len = same_input len _ _ (λ v. ap (cond (not (ceiling_fits ceiling)) 13) (no_ashore q v))

  -- THE TREE AND THE RULINGS
  pub tree_of_none : (q : ℕ) → tree_of g d zeros q ≡ least_tree (scaled_by q (network g)) (multiplier d)
  tree_of_none q = least_tree_none (ashore zeros) (none_ashore g.n) (scaled_by q (network g)) (multiplier d)

  pub rulings_none : (ceiling : ℤ) (q : ℕ) → rulings_of g d zeros ceiling q ≡ ruling (scaled_by q (network g)) (multiplier d) (q times ceiling)
  rulings_none ceiling q = λ i k. ruling_none (ashore zeros) (none_ashore g.n) (scaled_by q (network g)) (multiplier d) (q times ceiling) k i
