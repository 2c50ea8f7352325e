-- The table in which the check notes the pairs met: a pair's place, and that the table always says what `pair_met` says. Assumes nothing.
use Rattle.std.specs.Prelude.{ℕ, ◌+◌, ◌*◌, ◌<◌, ◌≤◌, ◌≡◌, Bool, true, false, ◌&&◌, List, length, get_or, set, replicate, eqb}
use Rattle.std.proofs.Common.{sym, ap, ◌∙◌, arith, add-one, get_or-set_same, get_or-set_other, eqb-true, eq-eqb}
use Rattle.std.proofs.Math.Bool.{or-false}
use Rattle.std.proofs.lemmas.Bool.{eqb-false}
use Rattle.lists.specs.Bools.{by_cases, and_both, or_right}
use Rattle.lists.specs.Fill.{replicate-at}
use Rattle.graph.specs.Limits.{max_vertices}
use Rattle.graph.specs.Valid.{pair_met}

-- a row of 21 for each first end: no two pairs of vertices have one place
abbrev pub place_of : ℕ → ℕ → ℕ
place_of x y = x * 21 + y

-- in the table's own words for yes and no: Booleans, or 1 and 0
module _ {A : Type 0} (say : Bool → A) where
  -- the table says yes of each pair that is among the first k, and no of the others
  unfoldable pub Noted : List ℕ → List ℕ → ℕ → List A → Type 0
  Noted a b k met = (x y : ℕ) → y ≤ max_vertices → get_or met (place_of x y) (say false) ≡ say (pair_met a b k x y)

  pub noted_none : (a b : List ℕ) (n : ℕ) → Noted a b 0 (replicate n (say false))
  unfolding Noted pair_met
  noted_none a b n = λ x y h. replicate-at n (say false) (place_of x y)

  pub noted-at : (a b : List ℕ) (k : ℕ) (met : List A) (x y : ℕ) → Noted a b k met → y ≤ max_vertices
      → get_or met (place_of x y) (say false) ≡ say (pair_met a b k x y)
  unfolding Noted
  noted-at a b k met x y n h = n x y h

  -- the pair at k is noted
  pub noted_more : (a b : List ℕ) (k : ℕ) (met : List A) → place_of (get_or a k 0) (get_or b k 0) < length met → get_or b k 0 ≤ max_vertices
      → Noted a b k met → Noted a b (k + 1) (set met (place_of (get_or a k 0) (get_or b k 0)) (say true))
  unfolding Noted pair_met
  noted_more a b k met l h n =
      λ x y u.
      let p = place_of (get_or a k 0) (get_or b k 0) in
      by_cases (eqb (place_of x y) p)
      (λ e. let q : place_of x y ≡ p = eqb-true (place_of x y) p e in
      let c : get_or a k 0 ≡ x = omega arith in
      let d : get_or b k 0 ≡ y = omega arith in
      rw (add-one, q) (get_or-set_same met p (say true) (say false) l
      ∙ ap say (sym (or_right (pair_met a b k x y) _ (rw (eq-eqb (get_or a k 0) x c, eq-eqb (get_or b k 0) y d))))))
      (λ e. let q = eqb-false (place_of x y) p e in
      let r : eqb (get_or a k 0) x && eqb (get_or b k 0) y ≡ false = other (get_or a k 0) (get_or b k 0) x y q in
      rw (add-one, r) (get_or-set_other met p (place_of x y) (say true) (say false) q ∙ n x y u ∙ ap say (sym (or-false (pair_met a b k x y)))))
    where
      other : (c d x y : ℕ) → (place_of x y ≡ place_of c d → ⊥) → eqb c x && eqb d y ≡ false
      other c d x y q =
          by_cases (eqb c x && eqb d y)
          (λ e. let t = and_both (eqb c x) (eqb d y) e in
          absurd (q (rw (eqb-true c x t.0, eqb-true d y t.1))))
          (λ e. e)
