-- By the highest-numbered edge in which the two differ, if there is one.
use Rattle.std.proofs.Common.{◌≡◌, refl, ℕ, zero, suc, ◌<◌, List, get_or, eqb, Bool, true, false, sym, ap, ◌∙◌, arith, rules}
use Rattle.std.specs.Prelude.{Option, Some, None, MatchOption}
use Rattle.std.proofs.Math.Decide.{ℕ_discrete}
use Rattle.tree_theory.specs.OneTree.{lacks_first, unless}
use Rattle.tree_theory.specs.Arrays.{bytes}
use Rattle.search.specs.Runs.Keeping.{first_none, first_more}
use Rattle.search.proofs.keeping.comes_first.Goals as goal

module _ (f b : List ℕ) where
  abbrev one : List ℕ → ℕ → Bool
  one l j = eqb (get_or l j 0) 1

  abbrev Same : ℕ → Type 0
  Same j = one f j ≡ one b j

  decides : (x y r : Bool) → ¬ (x ≡ y) → unless x y r ≡ y
  decides true true r e = absurd (e refl)
  decides false false r e = absurd (e refl)
  decides true false r e = refl
  decides false true r e = refl

  passes : (x y r : Bool) → x ≡ y → unless x y r ≡ r
  passes true true r e = refl
  passes false false r e = refl
  passes true false r e = cc
  passes false true r e = cc

  -- m edges, of which those from edge k + 1 on, if it is given, do not differ
  none : (m : ℕ) → ((j : ℕ) → j < m → Same j) → lacks_first m (bytes f) (bytes b) ≡ false
  none zero h = first_none (bytes f) (bytes b)
  none (suc m) h = ap (λ (j : ℕ). lacks_first j (bytes f) (bytes b)) (omega arith) ∙ first_more m f b ∙ passes _ _ _ (h m (omega arith)) ∙ none m (λ j l. h j (omega arith))

  some : (m k : ℕ) → k < m → ¬ Same k → ((j : ℕ) → k < j → j < m → Same j) → lacks_first m (bytes f) (bytes b) ≡ one b k
  some zero k l d h = absurd (omega arith)
  some (suc m) k l d h = ap (λ (j : ℕ). lacks_first j (bytes f) (bytes b)) (omega arith) ∙ first_more m f b
      ∙ go (λ n. some m k (omega (arith, n, l)) d (λ j a c. h j a (omega arith))) (ℕ_discrete k m)
    where
      go : (¬ (k ≡ m) → lacks_first m (bytes f) (bytes b) ≡ one b k) → Dec (k ≡ m) → unless (one f m) (one b m) (lacks_first m (bytes f) (bytes b)) ≡ one b k
      go rest (yes e) = decides _ _ _ (λ s. d (ap (one f) e ∙ s ∙ ap (one b) (sym e))) ∙ ap (one b) (sym e)
      go rest (no n) = passes _ _ _ (h m (omega (arith, n, l)) (omega arith)) ∙ rest n

  by_option : (m : ℕ) (o : Option ℕ) (r : Bool) → MatchOption o ((j : ℕ) → j < m → Same j) (λ k. (k < m) × ¬ Same k × ((j : ℕ) → k < j → j < m → Same j))
      → MatchOption o (r ≡ false) (λ k. r ≡ one b k) → r ≡ lacks_first m (bytes f) (bytes b)
  by_option m None r d s = s ∙ sym (none m d)
  by_option m (Some k) r d s = s ∙ sym (some m k d.0 d.1 d.2)

pub returns : goal.returns
returns c = by_option c.args.f.now c.args.b.now c.args.m c.last_difference.result c.is_some_and.result c.last_difference.ensures (search rules)
