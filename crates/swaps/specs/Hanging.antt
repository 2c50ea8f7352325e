-- A tree that hangs on vertex 2: which vertices stand above which. An edge outside closes a circle with the edges
-- above those vertices that stand above one of its ends and not above the other. Assumes nothing.
use Rattle.std.specs.Prelude.{◌≡◌, refl, ◌≢◌, ◌⊎◌, Bool, true, false, ◌||◌, eqb}
use Rattle.std.proofs.Common.{◌∙◌, sym, ap, subst, inl, inr, arith}
use Rattle.std.proofs.lemmas.Bool.{false≢true}
use Prim.Native.Nat.{ℕ, zero, suc, ◌-◌, ◌<◌, ◌≤◌}
use Rattle.std.proofs.Math.Decide.{ℕ_discrete}
use borrow.Author.Tests.{eqb-true, eq-eqb, ne_eqb}
use Rattle.lists.specs.Bools.{by_cases, or_case}

-- what each vertex hangs on, and how deep it hangs: 0 for a number that is no vertex of the tree
pub record Shape : Type 0 where
  pub parent : ℕ → ℕ
  pub depth : ℕ → ℕ

-- a vertex of the tree, and one below the root
abbrev pub Vertex : Shape → ℕ → Type 0
Vertex t v = (2 ≤ v) × (1 ≤ t.depth v)

abbrev pub Child : Shape → ℕ → Type 0
Child t v = (3 ≤ v) × (1 ≤ t.depth v)

-- every vertex but the root hangs one deeper than its parent
pub record Hangs (t : Shape) : Type 0 where
  pub root : t.depth 2 ≡ 1
  pub room : (v : ℕ) → 1 ≤ t.depth v → v ≤ 20
  pub inside : (v : ℕ) → Child t v → Vertex t (t.parent v)
  pub deep : (v : ℕ) → Child t v → t.depth v ≡ suc (t.depth (t.parent v))

-- v is one of the first k vertices on the way from x to the root
unfoldable pub on_way : (ℕ → ℕ) → ℕ → ℕ → ℕ → Bool
on_way parent zero v x = false
on_way parent (suc k) v x = eqb v x || on_way parent k v (parent x)

-- v is x or stands above it
abbrev pub above : Shape → ℕ → ℕ → Bool
above t v x = on_way t.parent (t.depth x) v x

-- the edge above v is on the circle that an edge from p to q closes
abbrev pub Splits : Shape → ℕ → ℕ → ℕ → Type 0
Splits t v p q = above t v p ≢ above t v q

pub splits_sym : (t : Shape) (v p q : ℕ) → Splits t v p q → Splits t v q p
splits_sym t v p q f e = f (sym e)

module _ (t : Shape) (h : Hangs t) where
  pub above_step : (v x : ℕ) → Child t x → above t v x ≡ eqb v x || above t v (t.parent x)
  unfolding on_way
  above_step v x i = rw (h.deep x i)

  -- the parent stands below the same vertices as x does, but for x itself
  pub above_parent : (v x : ℕ) → Child t x → v ≢ x → above t v x ≡ above t v (t.parent x)
  above_parent v x i f = rw (ne_eqb v x f) at (above_step v x i)

  pub above_root : (v : ℕ) → above t v 2 ≡ eqb v 2 || false
  unfolding on_way
  above_root v = rw h.root

  pub above_self : (x : ℕ) → Vertex t x → above t x x ≡ true
  unfolding on_way
  above_self x i = let e : t.depth x ≡ suc (t.depth x - 1) = omega (arith, i.1) in rw (e, eq-eqb x x refl)

  -- what stands above is less deep
  higher : (k v x : ℕ) → t.depth x ≡ k → Vertex t x → above t v x ≡ true → (v ≡ x) ⊎ (t.depth v < t.depth x)
  higher zero v x e i u = absurd (omega (arith, i.1))
  higher (suc k) v x e i u =
      go (ℕ_discrete x 2) (λ j. higher k v (t.parent x) (omega (arith, h.deep x j, e)) (h.inside x j))
    where
      go : Dec (x ≡ 2) → (Child t x → above t v (t.parent x) ≡ true → (v ≡ t.parent x) ⊎ (t.depth v < t.depth (t.parent x)))
          → (v ≡ x) ⊎ (t.depth v < t.depth x)
      go (yes f) below = two (or_case (eqb v 2) false (sym (above_root v) ∙ subst (λ (y : ℕ). above t v y ≡ true) f u))
        where
          two : (eqb v 2 ≡ true) ⊎ (false ≡ true) → (v ≡ x) ⊎ (t.depth v < t.depth x)
          two (inl q) = inl (eqb-true v 2 q ∙ sym f)
          two (inr q) = absurd (false≢true q)
      go (no f) below = one (or_case (eqb v x) (above t v (t.parent x)) (sym (above_step v x j) ∙ u))
        where
          j : Child t x
          j = (omega (arith, i.0), i.1)

          over : (v ≡ t.parent x) ⊎ (t.depth v < t.depth (t.parent x)) → t.depth v < t.depth x
          over (inl q) = rw q (omega (arith, h.deep x j))
          over (inr q) = omega (arith, h.deep x j)

          one : (eqb v x ≡ true) ⊎ (above t v (t.parent x) ≡ true) → (v ≡ x) ⊎ (t.depth v < t.depth x)
          one (inl q) = inl (eqb-true v x q)
          one (inr q) = inr (over (below j q))

  -- so a vertex does not stand above another that is no deeper
  pub not-above : (v x : ℕ) → Vertex t x → v ≢ x → t.depth x ≤ t.depth v → above t v x ≡ false
  not-above v x i f d = by_cases (above t v x) (λ e. absurd (no_way (higher (t.depth x) v x refl i e))) (λ e. e)
    where
      no_way : (v ≡ x) ⊎ (t.depth v < t.depth x) → ⊥
      no_way (inl e) = f e
      no_way (inr l) = omega arith

  pub not_parent : (x : ℕ) → Child t x → above t x (t.parent x) ≡ false
  not_parent x i = not-above x (t.parent x) (h.inside x i) (λ e. omega (arith, h.deep x i, ap t.depth e))
      (omega (arith, h.deep x i))
