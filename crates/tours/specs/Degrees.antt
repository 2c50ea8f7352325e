-- In a tour every vertex touches two edges: half of what lets code test for a tour by degrees. TwoEach has the other half.
use Rattle.std.specs.Prelude.{◌≡◌, refl, Bool, true, false, cond, ◌&&◌, ◌||◌, List, [], ◌∷◌, ℕ, zero, suc, ◌<◌, eqb, length, ℤ, pos, ◌*ℤ◌}
use Rattle.std.proofs.Common.{sym, ap, ◌∙◌, inl, inr, arith, eqb-true, eq-eqb, ne_eqb}
use Rattle.lists.specs.Members.{◌∈◌}
use Rattle.lists.specs.Select.{keep, select, select_cong}
use Rattle.lists.specs.Numbers.{up_to, in_up_to}
use Rattle.integers.specs.Sums.{sum_z}
use Rattle.graph.specs.Network.{Network}
use Rattle.tree_theory.specs.OneTree.{Edges}
use Rattle.tree_theory.specs.Agree.{Agree}
use Rattle.tree_theory.specs.Valid.{Valid}
use Rattle.tours.specs.Tours.{degree, Tour}
use Rattle.tours.specs.Trips.{at_ends}
use Rattle.tours.specs.TourTree.{twice_each}

-- a set counts only as far as the edges go
pub degree_agree : (g : Network) (s t : Edges) → Agree g.m s t → (v : ℕ) → degree g s v ≡ degree g t v
unfolding degree
degree_agree g s t same v =
    ap length (select_cong _ _ (up_to g.m) (λ k m. ap (λ (b : Bool). b && (eqb (g.a k) v || eqb (g.b k) v)) (same k m)))

-- one at v, nothing elsewhere
one_at : ℕ → ℕ → ℤ
one_at v u = cond (eqb u v) (pos 1) (pos 0)

none_above : (v n : ℕ) → n < v → sum_z (one_at v) (up_to n) ≡ pos 0
unfolding sum_z up_to one_at
none_above v zero h = refl
none_above v (suc n) h = rw (ne_eqb (suc n) v (omega arith), none_above v n (omega arith))

one_among : (v n : ℕ) → v ∈ up_to n → sum_z (one_at v) (up_to n) ≡ pos 1
unfolding sum_z up_to one_at
one_among v zero m = absurd m
one_among v (suc n) (inl e) = rw (eq-eqb (suc n) v (sym e), none_above v n (omega arith))
one_among v (suc n) (inr m) = rw (ne_eqb (suc n) v (omega (arith, (in_up_to n v m).1)), one_among v n m)

-- the ends that are v, counted, are the edges that touch v
touch_sum : (g : Network) (t : Edges) (v : ℕ) (es : List ℕ) → ((k : ℕ) → k ∈ es → g.a k < g.b k)
    → sum_z (at_ends g t (one_at v)) (select t es) ≡ pos (length (select (λ k. t k && (eqb (g.a k) v || eqb (g.b k) v)) es))
unfolding sum_z select one_at
touch_sum g t v [] h = refl
touch_sum g t v (e ∷ es) h = go (t e) (eqb (g.a e) v) (eqb (g.b e) v) refl refl (touch_sum g t v es (λ k m. h k (inr m)))
  where
    rest : List ℕ
    rest = select (λ k. t k && (eqb (g.a k) v || eqb (g.b k) v)) es

    sum : List ℕ → ℤ
    sum = sum_z (at_ends g t (one_at v))

    go : (b x y : Bool) → eqb (g.a e) v ≡ x → eqb (g.b e) v ≡ y → sum (select t es) ≡ pos (length rest)
        → sum (keep b e (select t es)) ≡ pos (length (keep (b && (x || y)) e rest))
    go false x y p q i = i
    go true true true p q i =
        absurd (let l : g.a e < g.b e = h e (inl refl) in omega (arith, eqb-true (g.a e) v p, eqb-true (g.b e) v q))
    go true true false p q i = rw (p, q, i) (ap pos (omega arith))
    go true false true p q i = rw (p, q, i) (ap pos (omega arith))
    go true false false p q i = rw (p, q, i) (ap pos (omega arith))

-- A TOUR'S DEGREES ARE TWO
pub tour_degree : (g : Network) → Valid g → (t : Edges) → Tour g t → (v : ℕ) → v ∈ up_to g.n → degree g t v ≡ 2
unfolding degree
tour_degree g vg t o v m = pos-same _ 2 counted
  where
    pos-same : (x y : ℕ) → pos x ≡ pos y → x ≡ y
    pos-same x y h = cc

    counted : pos (degree g t v) ≡ pos 2
    counted =
        sym (touch_sum g t v (up_to g.m) vg.apart)
        ∙ twice_each g vg t o (one_at v)
        ∙ ap (λ (z : ℤ). pos 2 *ℤ z) (one_among v g.n m)
