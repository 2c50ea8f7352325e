-- THE GENERAL THEOREM of branch and bound, over any nodes, tours and bounds, and any order of the tours. Where every opening obeys three
-- laws, a search of a node holds the first of its tours once its stack is empty. Nothing is said of how a node is opened: another opening
-- has to obey the laws, and the theorem stays. Assumes nothing.
use Rattle.std.specs.Prelude.{◌≡◌, refl, ◌⊎◌, List, [], ◌∷◌}
use Rattle.std.proofs.Common.{sym, subst, inl, inr}
use Rattle.std.proofs.Math.Path.{subst⁻¹}
use Prim.Native.Nat.{ℕ}
use Rattle.lists.specs.Members.{◌∈◌}
use Rattle.machine.specs.Outcomes.{Outcome, closes, finds, splits, Incumbent, no_tour, a_tour, best_of, next_stack, next_incumbent}
use Rattle.machine.specs.Outcomes.{next_upper}
use Rattle.machine.specs.Laws.BranchAndBound.{Problem, Lawful, Reached, start, next, Optimal}

module _ (p : Problem) where
  module _ (root : p.Node) (ceiling : p.Bound) where
    -- ---- the invariant: the incumbent is a tour of root within the ceiling, and the upper bound is what it leaves;
    -- each tour of root that is looked for is in a node of the stack

    abbrev Known : p.Bound → Incumbent p.Form → Type 0
    Known u no_tour = (u ≡ ceiling)
    Known u (a_tour f) = p.In (p.tour f) root × p.Within (p.tour f) ceiling × (u ≡ p.lowered f)

    abbrev Some : p.Tour → List p.Node → Type 0
    Some t xs = (x : p.Node) × (x ∈ xs) × p.In t x

    -- what is still looked for: any tour within the bound, or one that comes before the incumbent;
    abbrev Sought : p.Tour → p.Bound → Incumbent p.Form → Type 0
    Sought t u no_tour = p.Within t u
    Sought t u (a_tour b) = p.Before t b

    record Sound (u : p.Bound) (stack : List p.Node) (best : Incumbent p.Form) : Type 0 where
      known : Known u best
      covers : (t : p.Tour) → p.In t root → Sought t u best → Some t stack
      inside : (x : p.Node) → x ∈ stack → (t : p.Tour) → p.In t x → p.In t root

    -- either is within the upper bound
    sought_within : (u : p.Bound) (best : Incumbent p.Form) → Known u best → (t : p.Tour) → Sought t u best → p.Within t u
    sought_within u no_tour k t s = s
    sought_within u (a_tour b) k t s = subst⁻¹ (λ (z : p.Bound). p.Within t z) k.2 (p.reaches b t s)

    sound_start : Sound ceiling (root ∷ []) no_tour
    sound_start = record { known = refl; covers = λ t i w. (root, inl refl, i); inside = λ x m t i. only x m t i }
      where
        only : (x : p.Node) → (x ≡ root) ⊎ ⊥ → (t : p.Tour) → p.In t x → p.In t root
        only x (inl e) t i = subst (λ (y : p.Node). p.In t y) e i
        only x (inr e) t i = absurd e

    -- a tour of one of the nodes is one of the top node's or of one below
    top-or-below : (t : p.Tour) (x : p.Node) (xs : List p.Node) → Some t (x ∷ xs) → p.In t x ⊎ Some t xs
    top-or-below t x xs r = go r.1
      where
        go : (r.0 ≡ x) ⊎ (r.0 ∈ xs) → p.In t x ⊎ Some t xs
        go (inl e) = inl (subst (λ (y : p.Node). p.In t y) e r.2)
        go (inr m) = inr (r.0, m, r.2)

    -- what a found tour leaves of what is known
    known_next : (u : p.Bound) (best : Incumbent p.Form) (f : p.Form) → Known u best → p.In (p.tour f) root → p.Within (p.tour f) u
        → Known (p.lowered f) (best_of p.pick best f)
    known_next u no_tour f k i w = (i, subst (λ (z : p.Bound). p.Within (p.tour f) z) k w, refl)
    known_next u (a_tour b) f k i w = (both.0, both.1, sym (p.pick_level b f level))
      where
        level : p.Within (p.tour f) (p.lowered b)
        level = subst (λ (z : p.Bound). p.Within (p.tour f) z) k.2 w

        both : p.In (p.tour (p.pick b f)) root × p.Within (p.tour (p.pick b f)) ceiling
        both = go (p.picks b f)
          where
            go : (p.pick b f ≡ b) ⊎ (p.pick b f ≡ f) → p.In (p.tour (p.pick b f)) root × p.Within (p.tour (p.pick b f)) ceiling
            go (inl e) = subst⁻¹ (λ (z : p.Form). p.In (p.tour z) root × p.Within (p.tour z) ceiling) e (k.0, k.1)
            go (inr e) =
                subst⁻¹ (λ (z : p.Form). p.In (p.tour z) root × p.Within (p.tour z) ceiling) e
                (i, p.tighter b ceiling (p.tour f) k.1 level)

    -- what is still looked for after a found tour was looked for before, and is before the found one
    sought_next : (u : p.Bound) (best : Incumbent p.Form) (f : p.Form) → p.Within (p.tour f) u → (v : p.Bound) (t : p.Tour)
        → Sought t v (best_of p.pick best f) → Sought t u best × p.Before t f
    sought_next u no_tour f w v t s = (p.tighter f u t w (p.reaches f t s), s)
    sought_next u (a_tour b) f w v t s = p.pick_first b f t s

    sound-next : (u : p.Bound) (x : p.Node) (xs : List p.Node) (best : Incumbent p.Form) (o : Outcome p.Node p.Form)
        → Sound u (x ∷ xs) best → Lawful p u x o
        → Sound (next_upper p.lowered u o) (next_stack xs o) (next_incumbent p.pick best o)
    sound-next u x xs best closes s l = record {
      known = s.known;
      covers = λ t i w. go t (sought_within u best s.known t w) (top-or-below t x xs (s.covers t i w));
      inside = λ y m. s.inside y (inr m);
    }
      where
        go : (t : p.Tour) → p.Within t u → p.In t x ⊎ Some t xs → Some t xs
        go t w (inl i) = absurd (l t i w)
        go t w (inr r) = r
    sound-next u x xs best (finds f) s l = record {
      known = known_next u best f s.known (s.inside x (inl refl) (p.tour f) l.inside) l.within;
      covers = λ t i w.
          let q = sought_next u best f l.within (p.lowered f) t w in go t q.1 (top-or-below t x xs (s.covers t i q.0));
      inside = λ y m. s.inside y (inr m);
    }
      where
        go : (t : p.Tour) → p.Before t f → p.In t x ⊎ Some t xs → Some t xs
        go t w (inl i) = absurd (l.least t i w)
        go t w (inr r) = r
    sound-next u x xs best (splits out into) s l = record {
      known = s.known;
      covers = λ t i w. go t (sought_within u best s.known t w) (top-or-below t x xs (s.covers t i w));
      inside = λ y m t i. within y m t i;
    }
      where
        within : (y : p.Node) → (y ≡ into) ⊎ ((y ≡ out) ⊎ (y ∈ xs)) → (t : p.Tour) → p.In t y → p.In t root
        within y (inl e) t i = s.inside x (inl refl) t (l.of_into t (subst (λ (z : p.Node). p.In t z) e i))
        within y (inr (inl e)) t i = s.inside x (inl refl) t (l.of_out t (subst (λ (z : p.Node). p.In t z) e i))
        within y (inr (inr m)) t i = s.inside y (inr m) t i

        go : (t : p.Tour) → p.Within t u → p.In t x ⊎ Some t xs → Some t (into ∷ out ∷ xs)
        go t w (inr r) = (r.0, inr (inr r.1), r.2)
        go t w (inl i) = half (l.loses t i w)
          where
            half : p.In t out ⊎ p.In t into → Some t (into ∷ out ∷ xs)
            half (inl j) = (out, inr (inl refl), j)
            half (inr j) = (into, inl refl, j)

    sound : {u : p.Bound} {stack : List p.Node} {best : Incumbent p.Form} {count : ℕ}
        → Reached p root ceiling u stack best count → Sound u stack best
    sound start = sound_start
    sound (next {u = u} {x = x} {xs = xs} {best = best} o l r) = sound-next u x xs best o (sound r) l

    optimal : (u : p.Bound) (best : Incumbent p.Form) → Sound u [] best → Optimal p root ceiling best
    optimal u no_tour s = λ t i w. (s.covers t i (rw s.known w)).1
    optimal u (a_tour f) s = record {
      inside = s.known.0;
      within = s.known.1;
      least = λ t i w. (s.covers t i w).1;
    }

    -- THE OPTIMUM: a search whose stack is empty is at the optimum
    pub optimum : {u : p.Bound} {best : Incumbent p.Form} {count : ℕ} → Reached p root ceiling u [] best count
        → Optimal p root ceiling best
    optimum {u} {best} r = optimal u best (sound r)
