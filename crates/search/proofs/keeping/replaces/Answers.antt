-- The definition's two tests are those of the comparison; signed locals are held as their bits.
use Rattle.std.proofs.Common.{◌≡◌, refl, ℕ, ℤ, List, Bool, true, false, cond, Less, Equal, Greater, int_cmp, ap, ◌∙◌}
use Rattle.std.specs.declared.cmp.Ordering.{Ordering}
use Rattle.std.specs.Int.Signed.{lt_z}
use mir.Facts.{to_z-of_z}
use Rattle.integers.specs.Words.{back64}
use Rattle.tree_theory.specs.OneTree.{lacks_first}
use Rattle.tree_theory.specs.Arrays.{bytes}
use Rattle.search.specs.Runs.Keeping.{replaces_by}
use Rattle.search.proofs.keeping.replaces.Goals as goal

abbrev by : Ordering → Bool → Bool
by Less r = true
by Equal r = r
by Greater r = false

by_tests : (p q r : Bool) → by (cond p Less (cond q Greater Equal)) r ≡ cond p true (cond q false r)
by_tests true q r = refl
by_tests false true r = refl
by_tests false false r = refl

by_costs : (m : ℕ) (x y : ℤ) (f b : List ℕ) (o : Ordering) → o ≡ int_cmp x y → by o (lacks_first m (bytes f) (bytes b)) ≡ replaces_by m x y f b
unfolding replaces_by
by_costs m x y f b o e = let r = lacks_first m (bytes f) (bytes b) in ap (λ (z : Ordering). by z r) e ∙ by_tests (lt_z x y) (lt_z y x) r

-- the two costs as they are read, and the order of the edges' numbers
told : (m n : ℕ) (x y u : ℤ) (f b : List ℕ) (r : Bool) (o : Ordering) → m ≡ n → y ≡ u → r ≡ by o (lacks_first m (bytes f) (bytes b)) → o ≡ int_cmp x y
    → r ≡ replaces_by n x u f b
told m n x y u f b r o e p s q = s ∙ by_costs m x y f b o q ∙ (λ i. replaces_by (e i) x (p i) f b)

pub returns-in-Less : goal.returns-in-Less
returns-in-Less c =
    let a = c.args in
    told c.from-m.result _ a.x c.tour_cost.result _ a.f.now a.b.now true Less c.from-m.ensures c.tour_cost.ensures.0 refl
    (rw (to_z-of_z c.ranges.x, back64 _ c.tour_cost.type_inv) at c.in-Less.ensures)

pub returns-in-Equal : goal.returns-in-Equal
returns-in-Equal c =
    let a = c.args in
    told c.from-m.result _ a.x c.tour_cost.result _ a.f.now a.b.now _ Equal c.from-m.ensures c.tour_cost.ensures.0 c.comes_first.ensures
    (rw (to_z-of_z c.ranges.x, back64 _ c.tour_cost.type_inv) at c.in-Equal.ensures)

pub returns-in-Greater : goal.returns-in-Greater
returns-in-Greater c =
    let a = c.args in
    told c.from-m.result _ a.x c.tour_cost.result _ a.f.now a.b.now false Greater c.from-m.ensures c.tour_cost.ensures.0 refl
    (rw (to_z-of_z c.ranges.x, back64 _ c.tour_cost.type_inv) at c.in-Greater.ensures)
