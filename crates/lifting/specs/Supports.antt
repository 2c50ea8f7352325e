-- The best of the swaps that bring an edge into a minimal 1-tree, and of those that take one out: the support, the dearest edge that
-- may give way, and the replacement, the cheapest that may take the place. The edge is barred, or forced, exactly when this one swap is
-- above the ceiling.
use Rattle.std.specs.Prelude.{◌≡◌, ◌↔◌, true, false, ◌∷◌, ℕ, ℤ, pos, ◌+ℤ◌, ◌-ℤ◌, ◌*ℤ◌, ◌≤ℤ◌, ◌<ℤ◌}
use Rattle.std.proofs.Common.{sym, ap, ◌∙◌, arith}
use Rattle.std.specs.Int.Signed.{≤ℤ_refl}
use Rattle.lists.specs.Members.{◌∈◌}
use Rattle.lists.specs.Select.{select}
use Rattle.lists.specs.Numbers.{up_to, distinct-up_to}
use Rattle.lists.specs.Same.{Shuffle}
use Rattle.lists.specs.Sets.{◌⊕◌, ◌⊖◌, minus_false, select_plus, select_minus}
use Rattle.integers.specs.Parts.{add_parts, eq_of_parts, le_parts, lt_parts, parts_lt}
use Rattle.integers.specs.Differences.{sub_parts}
use Rattle.integers.specs.Sums.{sum_z, sum_shuffle}
use Rattle.graph.specs.Network.{Network}
use Rattle.tree_theory.specs.OneTree.{Edges, OneTree, charge, bound, Barred, Forced}
use Rattle.tree_theory.specs.Valid.{Valid}
use Rattle.tree_theory.specs.Optimal.Exchange.{Minimal, barred_iff, forced_iff}
use Rattle.tree_theory.specs.Optimal.Criteria.{MaySwap, tree_swap}
use Rattle.lifting.specs.Local.{shift, shifted, is_shifted}

-- ---- what a swap does to the bound

swap_ring : (p q r D : ℤ) → (q +ℤ r) -ℤ D ≡ ((p +ℤ r) -ℤ D) +ℤ (q -ℤ p)
swap_ring p q r D =
    eq_of_parts ((q +ℤ r) -ℤ D) (((p +ℤ r) -ℤ D) +ℤ (q -ℤ p))
    (omega (
      arith,
      add_parts q r,
      sub_parts (q +ℤ r) D,
      add_parts p r,
      sub_parts (p +ℤ r) D,
      sub_parts q p,
      add_parts ((p +ℤ r) -ℤ D) (q -ℤ p),
    ))

-- e for f in t, of any set t
pub swap-bound : (g : Network) (d : ℕ → ℤ) (t : Edges) (f e : ℕ) → f ∈ up_to g.m → e ∈ up_to g.m → t f ≡ true → t e ≡ false
    → bound g d (t ⊖ f ⊕ e) ≡ bound g d t +ℤ (charge g d e -ℤ charge g d f)
unfolding bound sum_z
swap-bound g d t f e mf me tf te =
    ap (λ (z : ℤ). z -ℤ twice) (sum_shuffle (charge g d) new)
    ∙ swap_ring (charge g d f) (charge g d e) (sum_z (charge g d) (select (t ⊖ f) (up_to g.m))) twice
    ∙ ap (λ (z : ℤ). (z -ℤ twice) +ℤ (charge g d e -ℤ charge g d f)) (sym (sum_shuffle (charge g d) old))
  where
    twice : ℤ
    twice = pos 2 *ℤ sum_z d (up_to g.n)

    new : Shuffle (select (t ⊖ f ⊕ e) (up_to g.m)) (e ∷ select (t ⊖ f) (up_to g.m))
    new = select_plus (t ⊖ f) e (up_to g.m) (distinct-up_to g.m) me (minus_false t f e te)

    old : Shuffle (select t (up_to g.m)) (f ∷ select (t ⊖ f) (up_to g.m))
    old = select_minus t f (up_to g.m) (distinct-up_to g.m) mf tf

-- ---- supports and replacements

-- s is the dearest edge of t that e, outside t, may take the place of, or one of the dearest
pub record Support (g : Network) (d : ℕ → ℤ) (t : Edges) (e s : ℕ) : Type 0 where
  pub listed : s ∈ up_to g.m
  pub inside : t s ≡ true
  pub may : MaySwap g t s e
  pub most : (f : ℕ) → f ∈ up_to g.m → t f ≡ true → MaySwap g t f e → charge g d f ≤ℤ charge g d s

-- r is the cheapest edge outside t that may take the place of e, in t, or one of the cheapest
pub record Replacement (g : Network) (d : ℕ → ℤ) (t : Edges) (e r : ℕ) : Type 0 where
  pub listed : r ∈ up_to g.m
  pub outside : t r ≡ false
  pub may : MaySwap g t e r
  pub least : (f : ℕ) → f ∈ up_to g.m → t f ≡ false → MaySwap g t e f → charge g d r ≤ℤ charge g d f

-- z below b + (p − q), where q ≤ q' or p' ≤ p
more-above : (z b p p' q q' : ℤ) → p ≤ℤ p' → q' ≤ℤ q → z <ℤ (b +ℤ (p -ℤ q)) → z <ℤ (b +ℤ (p' -ℤ q'))
more-above z b p p' q q' h k l =
    parts_lt z (b +ℤ (p' -ℤ q'))
    (omega (
      arith,
      le_parts p p' h,
      le_parts q' q k,
      lt_parts z (b +ℤ (p -ℤ q)) l,
      sub_parts p q,
      sub_parts p' q',
      add_parts b (p -ℤ q),
      add_parts b (p' -ℤ q'),
    ))

module _ (g : Network) (vg : Valid g) (d : ℕ → ℤ) (t : Edges) (l : Minimal g d t) (z : ℤ) (e : ℕ) (me : e ∈ up_to g.m) where
  -- BARRED, by charges: every swap that brings e in is above the ceiling
  pub barred_charges : t e ≡ false
      → Barred g d z e
      ↔ ((f : ℕ) → f ∈ up_to g.m → t f ≡ true → MaySwap g t f e → z <ℤ (bound g d t +ℤ (charge g d e -ℤ charge g d f)))
  barred_charges te = (
    (λ b f mf tf may. rw (swap-bound g d t f e mf me tf te) at
        (i.0 b f mf tf ((tree_swap g vg t l.tree f e mf me tf te).0 may))),
    λ h. i.1 (λ f mf tf o. rw (swap-bound g d t f e mf me tf te)
        (h f mf tf ((tree_swap g vg t l.tree f e mf me tf te).1 o))),
  )
    where
      i : Barred g d z e ↔ ((f : ℕ) → f ∈ up_to g.m → t f ≡ true → OneTree g (t ⊖ f ⊕ e) → z <ℤ bound g d (t ⊖ f ⊕ e))
      i = barred_iff g vg d (shift g d) (shifted g d) (is_shifted g d) t l z e me te

  -- FORCED, by charges: every swap that takes e out is above the ceiling
  pub forced_charges : t e ≡ true
      → Forced g d z e
      ↔ ((f : ℕ) → f ∈ up_to g.m → t f ≡ false → MaySwap g t e f → z <ℤ (bound g d t +ℤ (charge g d f -ℤ charge g d e)))
  forced_charges te = (
    (λ b f mf tf may. rw (swap-bound g d t e f me mf te tf) at
        (i.0 b f mf tf ((tree_swap g vg t l.tree e f me mf te tf).0 may))),
    λ h. i.1 (λ f mf tf o. rw (swap-bound g d t e f me mf te tf)
        (h f mf tf ((tree_swap g vg t l.tree e f me mf te tf).1 o))),
  )
    where
      i : Forced g d z e ↔ ((f : ℕ) → f ∈ up_to g.m → t f ≡ false → OneTree g (t ⊖ e ⊕ f) → z <ℤ bound g d (t ⊖ e ⊕ f))
      i = forced_iff g vg d (shift g d) (shifted g d) (is_shifted g d) t l z e me te

  -- BARRED, by the support
  pub barred_support : t e ≡ false → (s : ℕ) → Support g d t e s
      → Barred g d z e ↔ (z <ℤ (bound g d t +ℤ (charge g d e -ℤ charge g d s)))
  barred_support te s p =
      let i = barred_charges te in (
        (λ b. i.0 b s p.listed p.inside p.may),
        λ h. i.1 (λ f mf tf may. more-above z (bound g d t) (charge g d e) (charge g d e) (charge g d s) (charge g d f)
            (≤ℤ_refl (charge g d e)) (p.most f mf tf may) h),
      )

  -- FORCED, by the replacement
  pub forced_replacement : t e ≡ true → (r : ℕ) → Replacement g d t e r
      → Forced g d z e ↔ (z <ℤ (bound g d t +ℤ (charge g d r -ℤ charge g d e)))
  forced_replacement te r p =
      let i = forced_charges te in (
        (λ b. i.0 b r p.listed p.outside p.may),
        λ h. i.1 (λ f mf tf may. more-above z (bound g d t) (charge g d r) (charge g d f) (charge g d e) (charge g d e)
            (p.least f mf tf may) (≤ℤ_refl (charge g d e)) h),
      )
