-- Walks along edges, and labels: each vertex is labelled with the least vertex that a walk leads to, so that two vertices have one
-- label exactly where a walk connects them. Edges and vertices are numbers; the edge k joins p k and q k.
-- A list of edges is read from its end: the edges behind e were looked at before e. Assumes nothing.
use Rattle.std.specs.Prelude.{◌≡◌, refl, ◌≢◌, ◌↔◌, ◌⊎◌, cond, eqb}
use Rattle.std.proofs.Common.{sym, ◌∙◌, subst₂, inl, inr, eqb-true}
use Rattle.std.proofs.Math.Path.{ap}
use mathlib.Core.List.{List, [], ◌∷◌}
use Prim.Native.Nat.{ℕ, ◌≤◌, min, max}
use native.Mathlib.Omega.{arith}
use Rattle.std.proofs.Math.Decide.{dec_le}
use Rattle.std.proofs.lemmas.Bool.{eqb-false}
use Rattle.lists.specs.Bools.{by_cases}
use Rattle.lists.specs.Members.{◌∈◌}

-- ---- joining two labels

-- the label z after the components labelled x and y are joined: the smaller label wins
unfoldable pub relabel : ℕ → ℕ → ℕ → ℕ
relabel x y z = cond (eqb z (max x y)) (min x y) z

-- its two cases, in a form that `omega` reads
abbrev pub Relabelled : ℕ → ℕ → ℕ → ℕ → Type 0
Relabelled x y z r = ((z ≡ max x y) × (r ≡ min x y)) ⊎ ((z ≢ max x y) × (r ≡ z))

pub relabel_is : (x y z : ℕ) → Relabelled x y z (relabel x y z)
unfolding relabel
relabel_is x y z =
    by_cases (eqb z (max x y))
    (λ e. inl (eqb-true z (max x y) e, rw e))
    (λ e. inr (eqb-false z (max x y) e, rw e))

pub relabel-le : (x y z : ℕ) → relabel x y z ≤ z
relabel-le x y z = go (relabel_is x y z)
  where
    go : Relabelled x y z (relabel x y z) → relabel x y z ≤ z
    go (inl h) = omega arith
    go (inr h) = omega arith

-- the two joined labels come out equal
pub relabel_ends : (x y : ℕ) → relabel x y x ≡ relabel x y y
relabel_ends x y = go (relabel_is x y x) (relabel_is x y y)
  where
    go : Relabelled x y x (relabel x y x) → Relabelled x y y (relabel x y y) → relabel x y x ≡ relabel x y y
    go (inl h) (inl k) = omega arith
    go (inl h) (inr k) = omega arith
    go (inr h) (inl k) = omega arith
    go (inr h) (inr k) = omega arith

pub relabel-same : (x z : ℕ) → relabel x x z ≡ z
relabel-same x z = go (relabel_is x x z)
  where
    go : Relabelled x x z (relabel x x z) → relabel x x z ≡ z
    go (inl h) = omega arith
    go (inr h) = omega arith

module _ (p q : ℕ → ℕ) where
  -- ---- walks

  pub data Walk (es : List ℕ) : ℕ → ℕ → Type 0 where
    stay : {v : ℕ} → Walk es v v
    along : {v : ℕ} (e : ℕ) → e ∈ es → Walk es (q e) v → Walk es (p e) v
    back : {v : ℕ} (e : ℕ) → e ∈ es → Walk es (p e) v → Walk es (q e) v

  pub walk_trans : {es : List ℕ} {u v w : ℕ} → Walk es u v → Walk es v w → Walk es u w
  walk_trans stay k = k
  walk_trans (along e m h) k = along e m (walk_trans h k)
  walk_trans (back e m h) k = back e m (walk_trans h k)

  pub walk_sym : {es : List ℕ} {u v : ℕ} → Walk es u v → Walk es v u
  walk_sym stay = stay
  walk_sym (along e m h) = walk_trans (walk_sym h) (back e m stay)
  walk_sym (back e m h) = walk_trans (walk_sym h) (along e m stay)

  pub walk_mono : {es fs : List ℕ} {u v : ℕ} → ((e : ℕ) → e ∈ es → e ∈ fs) → Walk es u v → Walk fs u v
  walk_mono s stay = stay
  walk_mono s (along e m h) = along e (s e m) (walk_mono s h)
  walk_mono s (back e m h) = back e (s e m) (walk_mono s h)

  -- what every edge respects, a walk respects
  pub walk_respects : {es : List ℕ} {u v : ℕ} (f : ℕ → ℕ) → ((e : ℕ) → e ∈ es → f (p e) ≡ f (q e)) → Walk es u v → f u ≡ f v
  walk_respects f s stay = refl
  walk_respects f s (along e m h) = s e m ∙ walk_respects f s h
  walk_respects f s (back e m h) = sym (s e m) ∙ walk_respects f s h

  -- ---- labels

  -- the label of the vertex v among the listed edges: v itself where there are none
  unfoldable pub label : List ℕ → ℕ → ℕ
  label [] v = v
  label (e ∷ es) v = relabel (label es (p e)) (label es (q e)) (label es v)

  pub label-le : (es : List ℕ) (v : ℕ) → label es v ≤ v
  unfolding label
  label-le [] v = omega arith
  label-le (e ∷ es) v = omega (arith, label-le es v, relabel-le (label es (p e)) (label es (q e)) (label es v))

  -- the ends of a listed edge have one label
  pub label_edge : (es : List ℕ) (e : ℕ) → e ∈ es → label es (p e) ≡ label es (q e)
  unfolding label
  label_edge [] e m = absurd m
  label_edge (x ∷ es) e (inl h) = rw h (relabel_ends (label es (p x)) (label es (q x)))
  label_edge (x ∷ es) e (inr m) = ap (λ (z : ℕ). relabel (label es (p x)) (label es (q x)) z) (label_edge es e m)

  -- an edge within a component changes no label
  pub label_idle : (es : List ℕ) (e : ℕ) → label es (p e) ≡ label es (q e) → (v : ℕ) → label (e ∷ es) v ≡ label es v
  unfolding label
  label_idle es e h v = rw h (relabel-same (label es (q e)) (label es v))

  -- a walk leads from each vertex to its label
  walk-label-step : (e : ℕ) (es : List ℕ) (v : ℕ) → ((u : ℕ) → Walk es u (label es u)) → Walk (e ∷ es) v (label (e ∷ es) v)
  unfolding label
  walk-label-step e es v below = go (relabel_is x y z)
    where
      x : ℕ
      x = label es (p e)

      y : ℕ
      y = label es (q e)

      z : ℕ
      z = label es v

      up : (u : ℕ) → Walk (e ∷ es) u (label es u)
      up u = walk_mono (λ d m. inr m) (below u)

      across : Walk (e ∷ es) x y
      across = walk_trans (walk_sym (up (p e))) (along e (inl refl) (up (q e)))

      down : {m M : ℕ} → max x y ≡ M → min x y ≡ m → Walk (e ∷ es) M m
      down {m} {M} e_m em = ends (dec_le x y)
        where
          ends : Dec (x ≤ y) → Walk (e ∷ es) M m
          ends (yes h) = subst₂ (λ (a b : ℕ). Walk (e ∷ es) a b) (omega arith) (omega arith) (walk_sym across)
          ends (no h) = subst₂ (λ (a b : ℕ). Walk (e ∷ es) a b) (omega arith) (omega arith) across

      go : Relabelled x y z (relabel x y z) → Walk (e ∷ es) v (relabel x y z)
      go (inl h) = rw h.1 (walk_trans (up v) (rw h.0 (down refl refl)))
      go (inr h) = rw h.1 (up v)

  pub walk-label : (es : List ℕ) (v : ℕ) → Walk es v (label es v)
  unfolding label
  walk-label [] v = stay
  walk-label (e ∷ es) v = walk-label-step e es v (λ u. walk-label es u)

  pub label_idem : (es : List ℕ) (v : ℕ) → label es (label es v) ≡ label es v
  label_idem es v = sym (walk_respects (label es) (label_edge es) (walk-label es v))

  -- ONE LABEL, ONE COMPONENT
  pub label-walk : (es : List ℕ) (u v : ℕ) → (label es u ≡ label es v) ↔ Walk es u v
  label-walk es u v = (
    λ h. walk_trans (walk-label es u) (rw h (walk_sym (walk-label es v))),
    λ w. walk_respects (label es) (label_edge es) w,
  )
