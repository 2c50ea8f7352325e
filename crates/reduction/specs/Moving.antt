-- One edge more is moved: by the new numbers of its ends it is told whether it touches a vertex ashore.
use Rattle.std.specs.Prelude.{◌≡◌, refl, Bool, true, false, cond, ◌||◌, List, ℕ, zero, suc, ◌+◌, ◌<◌, ◌≤◌, eqb, length, get_or, set}
use Rattle.std.proofs.Common.{◌∙◌, sym, ap, ap₂, true≢false, eqb-true, eq-eqb, arith, get_or-set_same, get_or-set_other}
use Rattle.std.proofs.Math.Decide.{ℕ_discrete}
use Rattle.lists.specs.Bools.{by_cases, or_none}
use Rattle.graph.specs.declared.Graph.{Graph}
use Rattle.graph.specs.Limits.{max_edges}
use Rattle.graph.specs.Network.{network}
use Rattle.graph.specs.Places.{network_a, network_b}
use Rattle.graph.specs.Valid.{Valid}
use Rattle.thinning.specs.Ranks.{rank, rank_yes}
use Rattle.afloat.specs.Over.{Ashore, active, touched}
use Rattle.afloat.specs.Reduced.{active_of}
use Rattle.reduction.specs.Numbers.{number_of, Numbered}
use Rattle.reduction.specs.Moved.{moved_a, moved_b, moved_mark, MovedEdges, Moved}

-- a vertex that is afloat has a number
number_some : (s : Ashore) (v : ℕ) → 1 ≤ v → s v ≡ false → 1 ≤ number_of s v
number_some s v h e = omega (arith, ap (λ (b : Bool). cond b 0 (rank (active s) v)) e, some v h e)
  where
    some : (v : ℕ) → 1 ≤ v → s v ≡ false → 1 ≤ rank (active s) v
    some (suc v) h e = omega (arith, rank_yes (active s) v (active_of s (suc v) e))
    some zero h e = absurd (omega arith)

module _ (s : Ashore) (g : Graph) (v : Valid g) (numbers : List ℕ) (h : Numbered s g.n numbers) (k : ℕ) (l : k < g.m) where
  number_a : get_or numbers (get_or g.a k 0) 0 ≡ number_of s (get_or g.a k 0)
  number_a = h.each (get_or g.a k 0) (omega (arith, (v.each k l).less, (v.each k l).to))

  number_b : get_or numbers (get_or g.b k 0) 0 ≡ number_of s (get_or g.b k 0)
  number_b = h.each (get_or g.b k 0) (v.each k l).to

  touched_is : touched s (network g) (suc k) ≡ s (get_or g.a k 0) || s (get_or g.b k 0)
  touched_is = ap₂ ◌||◌ (ap s (network_a g k l)) (ap s (network_b g k l))

  none_ashore : (x : ℕ) → 1 ≤ x → number_of s x ≡ 0 → s x ≡ true
  none_ashore x p e = by_cases (s x) (λ q. q) (λ q. absurd (omega (arith, e, number_some s x p q)))

  -- an end without a number
  pub told_touched : (x y : ℕ) → x ≡ get_or numbers (get_or g.a k 0) 0 → y ≡ get_or numbers (get_or g.b k 0) 0
      → eqb x 0 || eqb y 0 ≡ true → touched s (network g) (suc k) ≡ true
  told_touched x y p q e =
      by_cases (eqb x 0) (λ i. told_a (sym p ∙ eqb-true x 0 i))
      (λ i. told_b (sym q ∙ eqb-true y 0 (sym (ap (λ (b : Bool). b || eqb y 0) i) ∙ e)))
    where
      either : (b : Bool) → b || true ≡ true
      either true = refl
      either false = refl

      low : 1 ≤ get_or g.b k 0
      low = omega (arith, (v.each k l).from, (v.each k l).less)

      told_a : get_or numbers (get_or g.a k 0) 0 ≡ 0 → touched s (network g) (suc k) ≡ true
      told_a i = touched_is ∙ ap (λ (b : Bool). b || s (get_or g.b k 0)) (none_ashore _ (v.each k l).from (sym number_a ∙ i))

      told_b : get_or numbers (get_or g.b k 0) 0 ≡ 0 → touched s (network g) (suc k) ≡ true
      told_b i = touched_is ∙ ap (λ (b : Bool). s (get_or g.a k 0) || b) (none_ashore _ low (sym number_b ∙ i)) ∙ either (s (get_or g.a k 0))

  -- both have one
  number_true : (x : ℕ) → s x ≡ true → number_of s x ≡ 0
  number_true x e = ap (λ (b : Bool). cond b 0 (rank (active s) x)) e

  pub told_free : (x y : ℕ) → x ≡ get_or numbers (get_or g.a k 0) 0 → y ≡ get_or numbers (get_or g.b k 0) 0
      → eqb x 0 || eqb y 0 ≡ false
      → (touched s (network g) (suc k) ≡ false) × (x ≡ rank (active s) (get_or g.a k 0)) × (y ≡ rank (active s) (get_or g.b k 0))
  told_free x y p q e =
      (touched_is ∙ ap₂ ◌||◌ free_a free_b, p ∙ number_a ∙ number_false _ free_a, q ∙ number_b ∙ number_false _ free_b)
    where
      none : (x : ℕ) → eqb x 0 ≡ false → x ≡ 0 → ⊥
      none x i j = true≢false (sym (eq-eqb x 0 j) ∙ i)

      apart : (eqb x 0 ≡ false) × (eqb y 0 ≡ false)
      apart = or_none (eqb x 0) (eqb y 0) e

      free_a : s (get_or g.a k 0) ≡ false
      free_a = by_cases (s (get_or g.a k 0)) (λ i. absurd (none x apart.0 (p ∙ number_a ∙ number_true _ i))) (λ i. i)

      free_b : s (get_or g.b k 0) ≡ false
      free_b = by_cases (s (get_or g.b k 0)) (λ i. absurd (none y apart.1 (q ∙ number_b ∙ number_true _ i))) (λ i. i)

      number_false : (x : ℕ) → s x ≡ false → number_of s x ≡ rank (active s) x
      number_false x i = ap (λ (b : Bool). cond b 0 (rank (active s) x)) i

-- ---- one edge more

module _ (s : Ashore) (g r : Graph) (k : ℕ) (few : k < max_edges) (h : MovedEdges s g k r)
    (long : (length r.a ≡ max_edges) × (length r.b ≡ max_edges) × (length r.mark ≡ max_edges)) where
  one_more : (f : ℕ → ℕ) (w : List ℕ) (x : ℕ) → length w ≡ max_edges → x ≡ f k → ((j : ℕ) → j < k → get_or w j 0 ≡ f j)
      → (j : ℕ) → j < k + 1 → get_or (set w k x) j 0 ≡ f j
  one_more f w x long e before j b = go (ℕ_discrete j k)
    where
      go : Dec (j ≡ k) → get_or (set w k x) j 0 ≡ f j
      go (yes q) = rw q (get_or-set_same w k x 0 (omega (arith, long)) ∙ e)
      go (no q) = get_or-set_other w k j x 0 q ∙ before j (omega arith)

  own : (f : ℕ → ℕ) (w : List ℕ) → get_or w k 0 ≡ f k → ((j : ℕ) → j < k → get_or w j 0 ≡ f j)
      → (j : ℕ) → j < k + 1 → get_or w j 0 ≡ f j
  own f w e before j b = go (ℕ_discrete j k)
    where
      go : Dec (j ≡ k) → get_or w j 0 ≡ f j
      go (yes q) = rw q e
      go (no q) = before j (omega arith)

  pub moved_touched : touched s (network g) (suc k) ≡ true
      → MovedEdges s g (k + 1) (record { n = r.n; m = r.m; cost = r.cost; a = set r.a k 1; b = set r.b k 2; mark = set r.mark k 2 })
  moved_touched e = record {
    n = h.n;
    m = h.m;
    cost = h.cost;
    a = one_more (moved_a s g) r.a 1 long.0 (sym (ap (λ (b : Bool). cond b 1 (rank (active s) (get_or g.a k 0))) e)) h.a;
    b = one_more (moved_b s g) r.b 2 long.1 (sym (ap (λ (b : Bool). cond b 2 (rank (active s) (get_or g.b k 0))) e)) h.b;
    mark = one_more (moved_mark s g) r.mark 2 long.2 (sym (ap (λ (b : Bool). cond b 2 (get_or g.mark k 0)) e)) h.mark;
    later_a = λ j b. get_or-set_other r.a k j 1 0 (omega arith) ∙ h.later_a j (omega arith);
    later_b = λ j b. get_or-set_other r.b k j 2 0 (omega arith) ∙ h.later_b j (omega arith);
    later_mark = λ j b. get_or-set_other r.mark k j 2 0 (omega arith) ∙ h.later_mark j (omega arith);
  }

  pub moved_free : (x y : ℕ) → touched s (network g) (suc k) ≡ false → x ≡ rank (active s) (get_or g.a k 0)
      → y ≡ rank (active s) (get_or g.b k 0)
      → MovedEdges s g (k + 1) (record { n = r.n; m = r.m; cost = r.cost; a = set r.a k x; b = set r.b k y; mark = r.mark })
  moved_free x y e p q = record {
    n = h.n;
    m = h.m;
    cost = h.cost;
    a = one_more (moved_a s g) r.a x long.0 (p ∙ sym (ap (λ (b : Bool). cond b 1 (rank (active s) (get_or g.a k 0))) e)) h.a;
    b = one_more (moved_b s g) r.b y long.1 (q ∙ sym (ap (λ (b : Bool). cond b 2 (rank (active s) (get_or g.b k 0))) e)) h.b;
    mark = own (moved_mark s g) r.mark (h.later_mark k (omega arith) ∙ sym (ap (λ (b : Bool). cond b 2 (get_or g.mark k 0)) e)) h.mark;
    later_a = λ j b. get_or-set_other r.a k j x 0 (omega arith) ∙ h.later_a j (omega arith);
    later_b = λ j b. get_or-set_other r.b k j y 0 (omega arith) ∙ h.later_b j (omega arith);
    later_mark = λ j b. h.later_mark j (omega arith);
  }

-- before the first; and after the last, once the vertices are counted
pub moved_none : (s : Ashore) (g : Graph) → MovedEdges s g 0 g
moved_none s g = record {
  n = refl;
  m = refl;
  cost = refl;
  a = λ j h. absurd (omega arith);
  b = λ j h. absurd (omega arith);
  mark = λ j h. absurd (omega arith);
  later_a = λ j h. refl;
  later_b = λ j h. refl;
  later_mark = λ j h. refl;
}

pub moved_all : (s : Ashore) (g r : Graph) (k n : ℕ) → k ≡ g.m → n ≡ rank (active s) g.n → MovedEdges s g k r
    → Moved s g (record { n = n; m = r.m; cost = r.cost; a = r.a; b = r.b; mark = r.mark })
moved_all s g r k n e f h = record {
  ends = record { n = f; m = h.m; cost = h.cost; a = λ j b. h.a j (omega (arith, e)); b = λ j b. h.b j (omega (arith, e)) };
  mark = λ j b. h.mark j (omega (arith, e));
  past_a = λ j b. h.later_a j (omega (arith, e));
  past_b = λ j b. h.later_b j (omega (arith, e));
  past_mark = λ j b. h.later_mark j (omega (arith, e));
}
