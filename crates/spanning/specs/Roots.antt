-- Roots: vertices that carry their own label, one for each component. How many of the listed vertices are roots, and that joining two
-- components leaves one fewer. Assumes nothing.
use Rattle.std.specs.Prelude.{◌≡◌, refl, ◌≢◌, ◌↔◌, List, [], ◌∷◌, ℕ, suc, ◌+◌, ◌≤◌, min, max, eqb, length}
use Rattle.std.proofs.Common.{sym, ◌∙◌, inl, inr, arith, eqb-true, eq-eqb, ne_eqb}
use Rattle.std.proofs.Math.Decide.{dec_le, ℕ_discrete}
use Rattle.lists.specs.Bools.{bit, by_cases}
use Rattle.lists.specs.Members.{◌∈◌}
use Rattle.lists.specs.Distinct.{Distinct}
use Rattle.spanning.specs.Walks.{relabel, Relabelled, relabel_is}

unfoldable pub roots : List ℕ → (ℕ → ℕ) → ℕ
roots [] L = 0
roots (v ∷ vs) L = bit (eqb (L v) v) + roots vs L

bit_mono : (a b : ℕ) (v : ℕ) → (a ≡ v → b ≡ v) → bit (eqb a v) ≤ bit (eqb b v)
bit_mono a b v h =
    by_cases (eqb a v) (λ e. rw (e, eq-eqb b v (h (eqb-true a v e))) (omega arith)) (λ e. rw e (omega arith))

pub roots_mono : (vs : List ℕ) (L K : ℕ → ℕ) → ((v : ℕ) → v ∈ vs → L v ≡ v → K v ≡ v) → roots vs L ≤ roots vs K
unfolding roots
roots_mono [] L K h = omega arith
roots_mono (v ∷ vs) L K h = omega (arith, bit_mono (L v) (K v) v (h v (inl refl)), roots_mono vs L K (λ u m. h u (inr m)))

pub roots_all : (vs : List ℕ) → roots vs (λ v. v) ≡ length vs
unfolding roots
roots_all [] = refl
roots_all (v ∷ vs) = rw (eq-eqb v v refl, roots_all vs) (omega arith)

-- one root fewer
roots-drop : (vs : List ℕ) (L K : ℕ → ℕ) (r : ℕ) → Distinct vs → r ∈ vs → L r ≡ r → K r ≢ r
    → ((v : ℕ) → v ∈ vs → v ≢ r → (L v ≡ v) ↔ (K v ≡ v)) → roots vs L ≡ suc (roots vs K)
unfolding roots
roots-drop [] L K r d m l k s = absurd m
roots-drop (v ∷ vs) L K r d (inl e) l k s =
    rw (eq-eqb (L v) v (rw (← e) l), ne_eqb (K v) v (rw (← e) k))
    (omega (arith, roots_mono vs L K (λ u m. (s u (inr m) (other u m)).0), roots_mono vs K L (λ u m. (s u (inr m) (other u m)).1)))
  where
    other : (u : ℕ) → u ∈ vs → u ≢ r
    other u m f = d.0 (rw (← e) (rw (← f) m))
roots-drop (v ∷ vs) L K r d (inr m) l k s =
    omega (
      arith,
      bit_mono (L v) (K v) v (s v (inl refl) other).0,
      bit_mono (K v) (L v) v (s v (inl refl) other).1,
      roots-drop vs L K r d.1 m l k (λ u i. s u (inr i)),
    )
  where
    other : v ≢ r
    other f = d.0 (rw f m)

-- ---- one root or more

pub some_root : (vs : List ℕ) (L : ℕ → ℕ) (r : ℕ) → r ∈ vs → L r ≡ r → 1 ≤ roots vs L
unfolding roots
some_root [] L r m e = absurd m
some_root (v ∷ vs) L r (inl f) e = rw (eq-eqb (L v) v (rw (← f) e)) (omega arith)
some_root (v ∷ vs) L r (inr m) e = omega (arith, some_root vs L r m e)

pub two-roots : (vs : List ℕ) (L : ℕ → ℕ) (r s : ℕ) → r ∈ vs → s ∈ vs → L r ≡ r → L s ≡ s → r ≢ s → 2 ≤ roots vs L
unfolding roots
two-roots [] L r s m i e f ne = absurd m
two-roots (v ∷ vs) L r s (inl m) (inl i) e f ne = absurd (ne (m ∙ sym i))
two-roots (v ∷ vs) L r s (inl m) (inr i) e f ne = rw (eq-eqb (L v) v (rw (← m) e)) (omega (arith, some_root vs L s i f))
two-roots (v ∷ vs) L r s (inr m) (inl i) e f ne = rw (eq-eqb (L v) v (rw (← i) f)) (omega (arith, some_root vs L r m e))
two-roots (v ∷ vs) L r s (inr m) (inr i) e f ne = omega (arith, two-roots vs L r s m i e f ne)

no_root : (vs : List ℕ) (L : ℕ → ℕ) → ((v : ℕ) → v ∈ vs → L v ≢ v) → roots vs L ≡ 0
unfolding roots
no_root [] L h = refl
no_root (v ∷ vs) L h = rw (ne_eqb (L v) v (h v (inl refl)), no_root vs L (λ u m. h u (inr m)))

-- where every vertex has the same label, no two are roots
pub one_root : (vs : List ℕ) (L : ℕ → ℕ) → Distinct vs → ((u v : ℕ) → u ∈ vs → v ∈ vs → L u ≡ L v) → roots vs L ≤ 1
unfolding roots
one_root [] L d h = omega arith
one_root (v ∷ vs) L d h = go (ℕ_discrete (L v) v) (one_root vs L d.1 (λ u w m i. h u w (inr m) (inr i)))
  where
    go : Dec (L v ≡ v) → roots vs L ≤ 1 → bit (eqb (L v) v) + roots vs L ≤ 1
    go (yes e) below = rw (eq-eqb (L v) v e, no_root vs L other) (omega arith)
      where
        other : (u : ℕ) → u ∈ vs → L u ≢ u
        other u m f = d.0 (rw (sym e ∙ h v u (inl refl) (inr m) ∙ f) m)
    go (no e) below = rw (ne_eqb (L v) v e) (omega arith)

-- ---- joining two components

-- what holds of both numbers holds of the larger, and of the smaller
pub of_max : (P : ℕ → Type 0) (x y : ℕ) → P x → P y → P (max x y)
of_max P x y hx hy = go (dec_le x y)
  where
    go : Dec (x ≤ y) → P (max x y)
    go (yes h) = let e : max x y ≡ y = omega arith in rw e hy
    go (no h) = let e : max x y ≡ x = omega arith in rw e hx

pub of_min : (P : ℕ → Type 0) (x y : ℕ) → P x → P y → P (min x y)
of_min P x y hx hy = go (dec_le x y)
  where
    go : Dec (x ≤ y) → P (min x y)
    go (yes h) = let e : min x y ≡ x = omega arith in rw e hx
    go (no h) = let e : min x y ≡ y = omega arith in rw e hy

pub relabel_in : (vs : List ℕ) (x y z : ℕ) → x ∈ vs → y ∈ vs → z ∈ vs → relabel x y z ∈ vs
relabel_in vs x y z mx my mz = go (relabel_is x y z)
  where
    go : Relabelled x y z (relabel x y z) → relabel x y z ∈ vs
    go (inl h) = rw h.1 (of_min (λ v. v ∈ vs) x y mx my)
    go (inr h) = rw h.1 mz

-- given by their roots x and y: the larger is a root no more
pub join_drop : (vs : List ℕ) (L : ℕ → ℕ) (x y : ℕ) → Distinct vs → x ∈ vs → y ∈ vs → L x ≡ x → L y ≡ y → x ≢ y
    → roots vs L ≡ suc (roots vs (λ v. relabel x y (L v)))
join_drop vs L x y d mx my lx ly ne =
    roots-drop vs L (λ v. relabel x y (L v)) (max x y) d (of_max (λ v. v ∈ vs) x y mx my) high (rw high (fall (relabel_is x y (max x y))))
    (λ v m h. (there v h, here v h (relabel_is x y (L v))))
  where
    high : L (max x y) ≡ max x y
    high = of_max (λ v. L v ≡ v) x y lx ly

    fall : Relabelled x y (max x y) (relabel x y (max x y)) → relabel x y (max x y) ≢ max x y
    fall (inl h) = omega arith
    fall (inr h) = absurd (h.0 refl)

    there : (v : ℕ) → v ≢ max x y → L v ≡ v → relabel x y (L v) ≡ v
    there v h e = rw e (go (relabel_is x y v))
      where
        go : Relabelled x y v (relabel x y v) → relabel x y v ≡ v
        go (inl k) = absurd (h k.0)
        go (inr k) = k.1

    here : (v : ℕ) → v ≢ max x y → Relabelled x y (L v) (relabel x y (L v)) → relabel x y (L v) ≡ v → L v ≡ v
    here v h (inl k) e = let f : v ≡ min x y = omega arith in rw f (of_min (λ u. L u ≡ u) x y lx ly)
    here v h (inr k) e = omega arith
