-- The first n of each list are those of the opening that the record holds.
use Rattle.std.specs.Prelude.{Result, Ok, Err}
use Rattle.std.specs.Result.{is_ok}
use Rattle.graph.specs.declared.refusals.Refusal.{Refusal}
use Rattle.graph.specs.Refusals.{fault_of, positive}
use Rattle.lists.specs.Bools.{Says, says_yes}
use Rattle.std.proofs.Common.{Bool, true, false, true≢false, ◌≡◌, ◌≤◌, ◌<◌, ℕ, zero, suc, List, ℤ, pos, take, replicate, length, refl, sym, ap, ap₂, ◌∙◌, rules, arith, get_or-take}
use Rattle.std.proofs.lemmas.List.{length-take}
use Rattle.lists.specs.Fill.{fit, replicate_is}
use Rattle.lists.specs.Filling.{take-fit}
use Rattle.machine.specs.Calls.{fault}
use Rattle.search.specs.Record.{opening_in}
use Rattle.machine.specs.Machine.{Opening, opening_of}
use Rattle.graph.specs.Meaning.{not_valid}
use Rattle.search.specs.Checks.Loops.{says_holds, says_fails}
use Rattle.tree_theory.specs.Inputs.{or_else}
use Rattle.afloat.specs.Over.{ashore_fault}
use Rattle.afloat.specs.Inputs.{none_fault}
use Rattle.search.specs.Begun.{given_fault, fault_is, given_valid}
use Rattle.search.specs.Canonical.{NoneAshore}
use Rattle.search.specs.declared.Search.{Search}
use Rattle.search.proofs.Search.opening_fits.Goals as goal

held : (s : Search) (n : ℕ) → n ≤ 20 → n ≡ s.graph.n → length s.multipliers ≡ 20 → length s.ashore ≡ 20
    → fault (opening_of s.graph (take n s.multipliers) (take n s.ashore) s.settings) ≡ fault (opening_in s)
unfolding opening_in
held s n few e long list =
    ap₂ (λ (d : List ℤ) (l : List ℕ). fault (opening_of s.graph d l s.settings))
    (take-fit n (pos 0) s.multipliers (omega (arith, few, long)) ∙ ap (λ (k : ℕ). fit k (pos 0) s.multipliers) e)
    (take-fit n 0 s.ashore (omega (arith, few, list)) ∙ ap (λ (k : ℕ). fit k 0 s.ashore) e)

too_many : (o : Opening) → 20 < o.graph.n → fault o ≡ 15
unfolding fault
too_many o h = rw (not_valid o.graph (λ v. omega (arith, v.high)))

says_ok : {T : Type 0} (r : Result T Refusal) (b : Bool) (x : ℕ) → b ≡ is_ok r → fault_of r ≡ x → Says b (x ≡ 0)
says_ok (Ok _) true x e f = sym f
says_ok (Ok _) false x e f = absurd (true≢false (sym e))
says_ok (Err q) true x e f = absurd (true≢false e)
says_ok (Err q) false x e f = λ z. omega (arith, positive q, f, z)

first_zero : (e f : ℕ) → or_else e f ≡ 0 → e ≡ 0
first_zero zero f h = refl
first_zero (suc e) f h = h

past_zero : (e f : ℕ) → e ≡ 0 → f ≡ or_else e f
past_zero zero f h = refl
past_zero (suc e) f h = absurd (omega (arith, h))

-- the list as it is lent, where none is ashore
zeros : (s : Search) (n : ℕ) → n ≤ 20 → length s.ashore ≡ 20 → NoneAshore s → replicate n 0 ≡ take n s.ashore
zeros s n few long z =
    replicate_is n 0 (take n s.ashore) (omega (arith, length-take n s.ashore))
    (λ i b. get_or-take n s.ashore i 0 b ∙ z i (omega (arith, b, few)) (omega arith))

-- the arguments that the record lends
abbrev lent : Search → ℕ → Opening
lent s n = opening_of s.graph (take n s.multipliers) (take n s.ashore) s.settings

none_fits : (s : Search) (n : ℕ) → n ≤ 20 → n ≡ s.graph.n → length s.ashore ≡ 20 → NoneAshore s → given_fault (lent s n) ≡ 0 → fault (lent s n) ≡ 0
none_fits s n few e long z h =
    fault_is (lent s n)
    ∙ sym (past_zero (given_fault (lent s n)) (ashore_fault (take n s.ashore) s.graph.n) h)
    ∙ ap₂ ashore_fault (sym (zeros s n few long z)) (sym e)
    ∙ none_fault n (omega (arith, e, (given_valid (lent s n) h).low))

pub returns-then-n-gt-MAX_VERTICES : goal.returns-then-n-gt-MAX_VERTICES
unfolding opening_in
returns-then-n-gt-MAX_VERTICES c =
    let s : Search = c.args.self.now in
    λ z. absurd (omega (arith, z, too_many (opening_in s) (omega (arith, c.from-n.ensures, c.if-n-gt-MAX_VERTICES.true))))

pub returns-else-is_ok : goal.returns-else-is_ok
returns-else-is_ok c =
    let s : Search = c.args.self.now in
    let long : length s.multipliers ≡ 20 = search (rules, c.well_formed) in
    let list : length s.ashore ≡ 20 = search (rules, c.well_formed) in
    let o = lent s c.from-n.result in
    says_fails c.is_ok.result (says_ok c.given_fault.result c.is_ok.result _ c.is_ok.ensures.value c.given_fault.ensures) c.if-is_ok.false
    (λ z. first_zero (given_fault o) (ashore_fault o.ashore o.graph.n)
    (sym (fault_is o) ∙ held s _ (omega (arith, c.if-n-gt-MAX_VERTICES.false)) c.from-n.ensures long list ∙ z))

pub returns-then-none : goal.returns-then-none
returns-then-none c =
    let s : Search = c.args.self.now in
    let long : length s.multipliers ≡ 20 = search (rules, c.well_formed) in
    let list : length s.ashore ≡ 20 = search (rules, c.well_formed) in
    let few : c.from-n.result ≤ 20 = omega (arith, c.if-n-gt-MAX_VERTICES.false) in
    says_holds c.args.none c.if-none.true
    (sym (held s _ few c.from-n.ensures long list)
    ∙ none_fits s _ few c.from-n.ensures list (says_yes c.args.none c.requires.none c.if-none.true)
    (says_yes c.is_ok.result (says_ok c.given_fault.result c.is_ok.result _ c.is_ok.ensures.value c.given_fault.ensures) c.if-is_ok.true))

pub returns-else-none : goal.returns-else-none
returns-else-none c =
    let s : Search = c.args.self.now in
    let long : length s.multipliers ≡ 20 = search (rules, c.well_formed) in
    let list : length s.ashore ≡ 20 = search (rules, c.well_formed) in
    let o = lent s c.from-n.result in
    let h = says_yes c.is_ok.result (says_ok c.given_fault.result c.is_ok.result _ c.is_ok.ensures.value c.given_fault.ensures) c.if-is_ok.true in
    says_ok c.ashore_fault.result c.is_ok-else-none.result _ c.is_ok-else-none.ensures.value
    (c.ashore_fault.ensures
    ∙ ap (ashore_fault o.ashore) c.from-n.ensures
    ∙ past_zero (given_fault o) (ashore_fault o.ashore o.graph.n) h
    ∙ sym (fault_is o)
    ∙ held s _ (omega (arith, c.if-n-gt-MAX_VERTICES.false)) c.from-n.ensures long list)
