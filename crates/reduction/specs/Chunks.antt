-- A list of bytes read eight at a time: a word is 0 exactly where its eight bytes are, and a list is where its words and what is left are. Assumes nothing.
use Rattle.std.specs.Prelude.{◌≡◌, refl, Bool, true, false, ◌&&◌, List, [], ◌∷◌, ℕ, zero, suc, ◌+◌, ◌*◌, ◌≤◌, eqb, length, take, drop}
use Rattle.std.specs.Int.{w64, from_le_bytes}
use Rattle.std.specs.List.{list_all}
use Rattle.std.specs.Simd.{first_chunks}
use Rattle.std.proofs.Common.{◌∙◌, sym, ap, ap₂, arith, eqb-true, eq-eqb, drop-drop}
use Rattle.std.proofs.lemmas.List.{length-drop, length-take}
use Rattle.lists.specs.Bools.{and_both, by_cases}
use Rattle.reduction.specs.Listed.{all_zero}

-- as code reads eight bytes
abbrev pub zero_word : List ℕ → Bool
zero_word w = eqb (from_le_bytes w64 w) 0

alike : (x y : Bool) → (x ≡ true → y ≡ true) → (y ≡ true → x ≡ true) → x ≡ y
alike true y f g = sym (f refl)
alike false y f g = by_cases y (λ h. g h ∙ sym h) (λ h. sym h)

word_is : (w : List ℕ) → length w ≡ 8 → zero_word w ≡ all_zero w
word_is [] h = absurd (omega (arith, h))
word_is (a ∷ []) h = absurd (omega (arith, h))
word_is (a ∷ b ∷ []) h = absurd (omega (arith, h))
word_is (a ∷ b ∷ c ∷ []) h = absurd (omega (arith, h))
word_is (a ∷ b ∷ c ∷ d ∷ []) h = absurd (omega (arith, h))
word_is (a ∷ b ∷ c ∷ d ∷ e ∷ []) h = absurd (omega (arith, h))
word_is (a ∷ b ∷ c ∷ d ∷ e ∷ f ∷ []) h = absurd (omega (arith, h))
word_is (a ∷ b ∷ c ∷ d ∷ e ∷ f ∷ g ∷ []) h = absurd (omega (arith, h))
word_is (a ∷ b ∷ c ∷ d ∷ e ∷ f ∷ g ∷ i ∷ []) h = alike _ _
    (λ z.
    let n = eqb-true (from_le_bytes w64 (a ∷ b ∷ c ∷ d ∷ e ∷ f ∷ g ∷ i ∷ [])) 0 z in
    rw (
      eq-eqb a 0 (omega (arith, n)),
      eq-eqb b 0 (omega (arith, n)),
      eq-eqb c 0 (omega (arith, n)),
      eq-eqb d 0 (omega (arith, n)),
      eq-eqb e 0 (omega (arith, n)),
      eq-eqb f 0 (omega (arith, n)),
      eq-eqb g 0 (omega (arith, n)),
      eq-eqb i 0 (omega (arith, n)),
    ) refl)
    (λ z.
    let pa = and_both (eqb a 0) _ z in
    let pb = and_both (eqb b 0) _ pa.1 in
    let pc = and_both (eqb c 0) _ pb.1 in
    let pd = and_both (eqb d 0) _ pc.1 in
    let pe = and_both (eqb e 0) _ pd.1 in
    let pf = and_both (eqb f 0) _ pe.1 in
    let pg = and_both (eqb g 0) _ pf.1 in
    let pi = and_both (eqb i 0) _ pg.1 in
    eq-eqb (from_le_bytes w64 (a ∷ b ∷ c ∷ d ∷ e ∷ f ∷ g ∷ i ∷ [])) 0
    (omega (
      arith,
      eqb-true a 0 pa.0,
      eqb-true b 0 pb.0,
      eqb-true c 0 pc.0,
      eqb-true d 0 pd.0,
      eqb-true e 0 pe.0,
      eqb-true f 0 pf.0,
      eqb-true g 0 pg.0,
      eqb-true i 0 pi.0,
    )))
word_is (a ∷ b ∷ c ∷ d ∷ e ∷ f ∷ g ∷ i ∷ j ∷ w) h = absurd (omega (arith, h))

cut : (n : ℕ) (l : List ℕ) → all_zero l ≡ all_zero (take n l) && all_zero (drop n l)
cut zero l = refl
cut (suc n) [] = refl
cut (suc n) (x ∷ l) = by_cases (eqb x 0) (λ t. rw t (cut n l)) (λ t. rw t refl)

grouped : (a b c : Bool) → (a && b) && c ≡ a && (b && c)
grouped true b c = refl
grouped false b c = refl

-- the words, and what is left of the list behind them
pub zeros_in : (k n : ℕ) (l : List ℕ) → n ≡ 8 * k → n ≤ length l → list_all zero_word (first_chunks 8 k l) && all_zero (drop n l) ≡ all_zero l
zeros_in zero n l e h = rw e refl
zeros_in (suc k) n l e h =
    let here = word_is (take 8 l) (omega (arith, length-take 8 l, e, h)) in
    let there = zeros_in k (8 * k) (drop 8 l) refl (omega (arith, length-drop 8 l, e, h)) in
    let rest : drop n l ≡ drop (8 * k) (drop 8 l) = ap (λ (j : ℕ). drop j l) (omega (arith, e)) ∙ sym (drop-drop (8 * k) 8 l) in
    grouped (zero_word (take 8 l)) (list_all zero_word (first_chunks 8 k (drop 8 l))) (all_zero (drop n l))
    ∙ ap₂ ◌&&◌ here (ap (λ (d : List ℕ). list_all zero_word (first_chunks 8 k (drop 8 l)) && all_zero d) rest ∙ there)
    ∙ sym (cut 8 l)
