-- The tours of a node as a problem of branch and bound: which of two found tours is kept, and that it comes before the other.
use Rattle.std.specs.Prelude.{◌≡◌, ◌⊎◌, Bool, ℤ, ◌≤ℤ◌, ◌<ℤ◌}
use Rattle.std.proofs.Math.Path.{refl, ap, subst, subst⁻¹}
use Rattle.std.proofs.Common.{sym, ◌∙◌, true≢false}
use Rattle.std.proofs.Math.Logic.{inl, inr}
use Rattle.std.proofs.Math.Bool.{true, false, cond}
use Rattle.std.proofs.lemmas.Bool.{false≢true}
use mathlib.Core.List.{List}
use Rattle.std.specs.Int.Signed.{lt_z, ≤ℤ_refl, <ℤ-≤ℤ_trans}
use Rattle.lists.specs.Bools.{by_cases}
use Rattle.integers.specs.Order.{le_antisym, lt-le, test_lt, test_not_lt}
use Rattle.graph.specs.Network.{Network}
use Rattle.tree_theory.specs.OneTree.{Edges, lacks_first}
use Rattle.tours.specs.Tours.{cost}
use Rattle.machine.specs.Machine.{Node, frees, edges_of, cost_of, lowered, replaces, better}
use Rattle.machine.specs.Laws.BranchAndBound.{Problem}
use Rattle.machine.specs.Laws.Firsts.{lacks_once, lacks_past}
use Rattle.machine.specs.Laws.NodeTours.{Inside, Before, NotBefore, before_reaches, lowered_tighter}

module _ (g : Network) where
  not_reaches : (s t : Edges) → NotBefore g s t → cost g t ≤ℤ cost g s
  not_reaches s t (inl h) = lt-le (cost g t) (cost g s) h
  not_reaches s t (inr h) = rw h.0 (≤ℤ_refl _)

  before_once : (s t : Edges) → Before g s t → NotBefore g t s
  before_once s t (inl h) = inl h
  before_once s t (inr h) = inr (sym h.0, lacks_once g.m s t h.1)

  -- what comes before b comes before every f that does not
  before_past : (t b f : Edges) → Before g t b → NotBefore g f b → Before g t f
  before_past t b f (inl h) k = inl (<ℤ-≤ℤ_trans h (not_reaches f b k))
  before_past t b f (inr h) (inl k) = inl (subst⁻¹ (λ (z : ℤ). z <ℤ cost g f) h.0 k)
  before_past t b f (inr h) (inr k) = inr (h.0 ∙ sym k.0, lacks_past g.m t b f h.1 k.1)

  -- a found tour replaces the incumbent exactly where it comes before it
  module _ (f b : List Bool) where
    x : ℤ
    x = cost g (edges_of f)

    y : ℤ
    y = cost g (edges_of b)

    does : replaces g f b ≡ true → Before g (edges_of f) (edges_of b)
    unfolding replaces cost_of x y
    does = go (lt_z x y) (lt_z y x) refl refl
      where
        go : (l r : Bool) → lt_z x y ≡ l → lt_z y x ≡ r → cond l true (cond r false (lacks_first g.m (edges_of f) (edges_of b))) ≡ true
            → Before g (edges_of f) (edges_of b)
        go true r e k h = inl (test_lt x y e)
        go false true e k h = absurd (false≢true h)
        go false false e k h = inr (le_antisym x y (test_not_lt y x k) (test_not_lt x y e), h)

    does_not : replaces g f b ≡ false → NotBefore g (edges_of f) (edges_of b)
    unfolding replaces cost_of x y
    does_not = go (lt_z x y) (lt_z y x) refl refl
      where
        go : (l r : Bool) → lt_z x y ≡ l → lt_z y x ≡ r → cond l true (cond r false (lacks_first g.m (edges_of f) (edges_of b))) ≡ false
            → NotBefore g (edges_of f) (edges_of b)
        go true r e k h = absurd (true≢false h)
        go false true e k h = inl (test_lt y x k)
        go false false e k h = inr (le_antisym x y (test_not_lt y x k) (test_not_lt x y e), h)

  -- the tour that is kept of two, and why
  abbrev Choice : List Bool → List Bool → Type 0
  Choice b f =
      ((better g b f ≡ f) × Before g (edges_of f) (edges_of b)) ⊎ ((better g b f ≡ b) × NotBefore g (edges_of f) (edges_of b))

  choice : (b f : List Bool) → Choice b f
  unfolding better
  choice b f = by_cases (replaces g f b) (λ e. inl (rw e, does f b e)) (λ e. inr (rw e, does_not f b e))

  pub better_is : (b f : List Bool) → (better g b f ≡ b) ⊎ (better g b f ≡ f)
  better_is b f = go (choice b f)
    where
      go : Choice b f → (better g b f ≡ b) ⊎ (better g b f ≡ f)
      go (inl h) = inr h.0
      go (inr h) = inl h.0

  -- what comes before the one that is kept comes before both
  pub better-first : (b f : List Bool) (t : Edges) → Before g t (edges_of (better g b f)) → Before g t (edges_of b) × Before g t (edges_of f)
  better-first b f t h = go (choice b f)
    where
      go : Choice b f → Before g t (edges_of b) × Before g t (edges_of f)
      go (inl c) =
          let k : Before g t (edges_of f) = subst (λ (r : List Bool). Before g t (edges_of r)) c.0 h in
          (before_past t (edges_of f) (edges_of b) k (before_once (edges_of f) (edges_of b) c.1), k)
      go (inr c) =
          let k : Before g t (edges_of b) = subst (λ (r : List Bool). Before g t (edges_of r)) c.0 h in
          (k, before_past t (edges_of b) (edges_of f) k c.1)

  -- a found tour that costs no more than the incumbent is as dear as the one that is kept
  pub better_level : (b f : List Bool) → cost g (edges_of f) ≤ℤ lowered g b → lowered g (better g b f) ≡ lowered g f
  unfolding lowered cost_of
  better_level b f h = go (choice b f)
    where
      go : Choice b f → cost g (edges_of (better g b f)) ≡ cost g (edges_of f)
      go (inl c) = ap (λ (r : List Bool). cost g (edges_of r)) c.0
      go (inr c) =
          ap (λ (r : List Bool). cost g (edges_of r)) c.0
          ∙ le_antisym (cost g (edges_of b)) (cost g (edges_of f)) (not_reaches (edges_of f) (edges_of b) c.1) h

abbrev pub tours : Network → Problem
tours g = record {
  Node = Node;
  Tour = Edges;
  Form = List Bool;
  tour = edges_of;
  In = λ t x. Inside g t x.marks;
  size = λ x. frees x.marks;
  Bound = ℤ;
  Within = λ t u. cost g t ≤ℤ u;
  lowered = lowered g;
  Before = λ t r. Before g t (edges_of r);
  reaches = before_reaches g;
  tighter = lowered_tighter g;
  pick = better g;
  picks = better_is g;
  pick_first = better-first g;
  pick_level = better_level g;
}
