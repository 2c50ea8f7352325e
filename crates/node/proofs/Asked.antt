-- What is refused before a pass is made, test by test, and what a pass leaves that is refused: all that it is lent.
use Rattle.std.specs.Prelude.{◌≡◌, refl, ◌≢◌, Bool, true, false, not, cond, ◌&&◌, List, [], ◌∷◌, map, ℕ, zero, suc, ◌≤◌, leb, eqb, length, take, min, ℤ, pos, Option, Result, Ok, Err, OnErr}
use Rattle.std.proofs.Common.{sym, ap, ◌∙◌, arith, eqb-true}
use Rattle.std.proofs.Math.Decide.{dec_le}
use borrow.Author.Tests.{eq-eqb}
use Rattle.lists.specs.Bools.{by_cases}
use Rattle.lists.specs.Fill.{fit}
use Rattle.lists.specs.Filling.{take-fit}
use Rattle.integers.specs.Multiples.{◌times◌}
use Rattle.graph.specs.declared.Graph.{Graph}
use Rattle.graph.specs.declared.refusals.Refusal.{Refusal}
use Rattle.graph.specs.Refusals.{number}
use Rattle.graph.specs.Limits.{max_sweeps, max_step}
use Rattle.graph.specs.Network.{network}
use Rattle.graph.specs.Valid.{valid}
use Rattle.graph.specs.Meaning.{not_valid}
use Rattle.tree_theory.specs.Inputs.{multiplier, or_else, input_fault, multipliers_fit, ceiling_fits, denominator_fits, denominator_fault}
use Rattle.tree_theory.specs.Accepted.{else_first, else_next}
use Rattle.tree_theory.specs.Scaled.{scaled_by}
use Rattle.tree_theory.specs.Enumeration.{least_tree}
use Rattle.greedy.specs.declared.Found.{Found}
use Rattle.onetree.specs.declared.PassLists.{PassLists}
use Rattle.onetree.specs.declared.rulings.Ruling as code
use Rattle.onetree.specs.declared.rulings.Ruling.TheVariants as variant
use Rattle.onetree.specs.Answers.{HintAfter, WeighedAfter, refused, pass_meaning, byte_of, ruling_bytes, rule_fault, rule_reply, leaves, pass_tree, pass_rulings}
use Rattle.machine.specs.declared.Settings.{Settings}
use Rattle.machine.specs.Machine.{lifts}
use Rattle.node.specs.Given.{Given, fault}
use Rattle.node.specs.Opened.{taken}
use Rattle.node.specs.Faults.{settings_fault, lastly, fault-fit}
use Rattle.node.specs.Passing.{refusal-fault, says_no_number, TreeIs, tree_is}

-- ---- before a pass

-- the ceiling's own fault
abbrev pub ceiling_fault : ℤ → ℕ
ceiling_fault ceiling = cond (not (ceiling_fits ceiling)) 13 0

module _ (o : Given) where
  abbrev input : ℕ
  input = input_fault o.graph o.multipliers o.graph.m 0

  abbrev asked : ℕ
  asked = settings_fault o.settings.sweeps o.settings.step

  -- the fault of an opening, as its tests follow one another
  in_turn : fault o ≡ or_else input (or_else (ceiling_fault o.settings.ceiling) (or_else asked (denominator_fault o.settings.denominator)))
  unfolding fault input_fault denominator_fault
  in_turn =
      rw (eq-eqb o.graph.m o.graph.m refl)
      (go (valid o.graph) (eqb (length o.multipliers) o.graph.n) (multipliers_fit o.multipliers) (ceiling_fits o.settings.ceiling)
      (denominator_fits o.settings.denominator) (leb o.settings.sweeps max_sweeps && leb o.settings.step max_step))
    where
      go : (v l f c d s : Bool)
          → cond (not v) 15 (cond (not l) 11 (cond (not f) 12 (cond (not c) 13 (cond (not s) 14 (cond (not d) 32 0)))))
          ≡ or_else (cond (not v) 15 (cond (not (l && true)) 11 (cond (not f) 12 0)))
          (or_else (cond (not c) 13 0) (or_else (cond (not s) 14 0) (cond (not d) 32 0)))
      go false l f c d s = refl
      go true false f c d s = refl
      go true true false c d s = refl
      go true true true false d s = refl
      go true true true true d false = refl
      go true true true true d true = refl

  pub input_first : input ≢ 0 → fault o ≡ input
  input_first n = in_turn ∙ else_first input _ n

  module _ (fine : input ≡ 0) where
    pub ceiling_next : ceiling_fault o.settings.ceiling ≢ 0 → fault o ≡ ceiling_fault o.settings.ceiling
    ceiling_next n = in_turn ∙ else_next input _ fine ∙ else_first (ceiling_fault o.settings.ceiling) _ n

    pub settings_next : ceiling_fault o.settings.ceiling ≡ 0 → asked ≢ 0 → fault o ≡ asked
    settings_next z n =
        in_turn ∙ else_next input _ fine ∙ else_next (ceiling_fault o.settings.ceiling) _ z ∙ else_first asked _ n

-- ---- the multipliers that are lent

lent : (n : ℕ) (d : List ℤ) → length d ≡ 20 → n ≤ 20 → take (min n 20) d ≡ fit n (pos 0) d
lent n d long few =
    let e : min n 20 ≡ n = omega arith in
    ap (λ (i : ℕ). take i d) e ∙ take-fit n (pos 0) d (omega (arith, long))

-- a graph of too many vertices is refused with whatever multipliers
module _ (g : Graph) (d : List ℤ) (long : length d ≡ 20) where
  many : (g.n ≤ 20 → ⊥) → (x : List ℤ) → input_fault g x g.m 0 ≡ 15
  unfolding input_fault
  many high x = rw (not_valid g (λ v. high v.high)) refl

  pub input_lent : input_fault g (take (min g.n 20) d) g.m 0 ≡ input_fault g (fit g.n (pos 0) d) g.m 0
  input_lent = go (dec_le g.n 20)
    where
      go : Dec (g.n ≤ 20) → input_fault g (take (min g.n 20) d) g.m 0 ≡ input_fault g (fit g.n (pos 0) d) g.m 0
      go (yes h) = ap (λ (x : List ℤ). input_fault g x g.m 0) (lent g.n d long h)
      go (no h) = many h _ ∙ sym (many h _)

  module _ (ceiling : ℤ) (q k : ℕ) where
    too_many : (g.n ≤ 20 → ⊥) → (x : List ℤ) → rule_reply g x ceiling q k ≡ refused 15 0
    unfolding rule_reply rule_fault input_fault
    too_many high x = rw (not_valid g (λ v. high v.high)) refl

    replied : rule_reply g (take (min g.n 20) d) ceiling q k ≡ rule_reply g (fit g.n (pos 0) d) ceiling q k
    replied = go (dec_le g.n 20)
      where
        go : Dec (g.n ≤ 20) → rule_reply g (take (min g.n 20) d) ceiling q k ≡ rule_reply g (fit g.n (pos 0) d) ceiling q k
        go (yes h) = ap (λ (x : List ℤ). rule_reply g x ceiling q k) (lent g.n d long h)
        go (no h) = too_many h _ ∙ sym (too_many h _)

-- ---- a pass, where the settings fit

-- what it refuses comes as it is
as_refused : (k sweeps step : ℕ) → settings_fault sweeps step ≡ 0 → lastly k sweeps step ≡ k
as_refused k sweeps step z = rw z (by_cases (eqb k 32) (λ e. rw e (sym (eqb-true k 32 e))) (λ e. rw e (none k)))
  where
    none : (k : ℕ) → or_else k 0 ≡ k
    none zero = refl
    none (suc k) = refl

-- what is refused has a fault
fault_of_refused : (g : Graph) (d : List ℤ) (ceiling : ℤ) (q k : ℕ) → refused k 0 ≡ rule_reply g d ceiling q g.m → rule_fault g d ceiling q g.m ≢ 0
unfolding rule_reply
fault_of_refused g d ceiling q k said z =
    says_no_number k 0 (q times ceiling) (least_tree (scaled_by q (network g)) (multiplier d)) (rw z at said)

refused_leaves : (k : ℕ) (out after : List ℕ) → k ≢ 0 → leaves k out after ≡ out
refused_leaves zero out after n = absurd (n refl)
refused_leaves (suc k) out after n = refl

-- rulings by their bytes
ruling_of : ℕ → code.Ruling
ruling_of zero = variant.Keep
ruling_of (suc zero) = variant.Force
ruling_of (suc (suc zero)) = variant.Bar
ruling_of (suc (suc (suc zero))) = variant.WasRequired
ruling_of (suc (suc (suc (suc k)))) = variant.WasExcluded

again : (r : code.Ruling) → ruling_of (byte_of r) ≡ r
unfolding ruling_of
again variant.Keep = refl
again variant.Force = refl
again variant.Bar = refl
again variant.WasRequired = refl
again variant.WasExcluded = refl

rulings_again : (l : List code.Ruling) → map ruling_of (ruling_bytes l) ≡ l
rulings_again [] = refl
rulings_again (r ∷ l) = λ i. again r i ∷ rulings_again l i

same_rulings : (x y : List code.Ruling) → ruling_bytes x ≡ ruling_bytes y → x ≡ y
same_rulings x y e = sym (rulings_again x) ∙ ap (map ruling_of) e ∙ rulings_again y

module _ (g : Graph) (d : List ℤ) (long : length d ≡ 20) (settings : Settings) (fit_settings : settings_fault settings.sweeps settings.step ≡ 0) where
  abbrev o : Given
  o = taken g d settings

  abbrev front : List ℤ
  front = take (min g.n 20) d

  -- what the code of a pass has to show
  pub told : (tree rulings before_tree before_rulings : List ℕ)
      → tree ≡ pass_tree g front settings.ceiling settings.denominator before_tree
      → rulings ≡ pass_rulings g front settings.ceiling settings.denominator (lifts settings) before_rulings
      → (r : Result (Option Found) Refusal) → pass_meaning r ≡ rule_reply g front settings.ceiling settings.denominator g.m
      → (out order : List ℕ) → HintAfter r g.mark g.m out order → TreeIs o r tree rulings
  told tree rulings before_tree before_rulings is_tree is_rulings (Err r) said out order hint =
      refusal-fault o (Err r) (said ∙ replied g d long _ _ _) ∙ as_refused (number r) settings.sweeps settings.step fit_settings
  told tree rulings before_tree before_rulings is_tree is_rulings (Ok x) said out order hint =
      let fine : fault o ≡ 0 = refusal-fault o (Ok x) (said ∙ replied g d long _ _ _) ∙ fit_settings in
      let e = lent g.n d long (fault-fit o fine).valid.high in
      tree_is o fine _ _ before_tree before_rulings x (rw e at said) (rw e at is_tree) (rw e at is_rulings) _ _ _ hint

  -- and all that it is lent comes back as it was, where it refuses
  pub given_back : (before after : PassLists) → after.least.tree ≡ pass_tree g front settings.ceiling settings.denominator before.least.tree
      → ruling_bytes after.rulings ≡ pass_rulings g front settings.ceiling settings.denominator (lifts settings) (ruling_bytes before.rulings)
      → (r : Result (Option Found) Refusal) → pass_meaning r ≡ rule_reply g front settings.ceiling settings.denominator g.m
      → HintAfter r g.mark g.m before.least.order after.least.order
      → WeighedAfter settings.denominator g front before.least r after.least → OnErr r (after ≡ before)
  unfolding pass_tree pass_rulings
  given_back before after tree rulings (Ok x) said hint weighed = tt
  given_back before after tree rulings (Err r) said hint weighed =
      let faulty = fault_of_refused g front settings.ceiling settings.denominator (number r) said in
      let same_tree = tree ∙ refused_leaves (rule_fault g front settings.ceiling settings.denominator g.m) _ _ faulty in
      let same =
      same_rulings after.rulings before.rulings
      (rulings ∙ refused_leaves (rule_fault g front settings.ceiling settings.denominator g.m) _ _ faulty)
      in
      λ i. record {
        least = record { tree = same_tree i; charges = weighed.0 i; order = hint i; labels = weighed.1 i };
        rulings = same i;
      }
