-- Membership by places, which are counted from 0: in the first places of a list, and in the last w of one. Assumes nothing.
use Rattle.std.specs.Prelude.{◌≡◌, List, ℕ, ◌+◌, ◌-◌, ◌<◌, ◌≤◌, length, get_or, take, drop, ℤ, pos}
use Rattle.std.proofs.Common.{ap, ◌∙◌, subst, arith, length-drop, length-take-le, get_or-drop}
use Rattle.std.proofs.lemmas.List.{get_or-take}
use Rattle.lists.specs.Members.{◌∈◌}
use Rattle.lists.specs.MembersAt.{at_in, in_at}
use Rattle.recent.specs.Costs.{latest}

module _ {A : Type 0} where
  -- of the first n places
  pub at_take : (n : ℕ) (l : List A) (i : ℕ) (z : A) → i < n → n ≤ length l → get_or l i z ∈ take n l
  at_take n l i z h k = rw (← get_or-take n l i z h) (at_in (take n l) i z (omega (arith, length-take-le n l k)))

  pub in_take : (n : ℕ) (l : List A) (z x : A) → n ≤ length l → x ∈ take n l → (i : ℕ) × (i < n) × (x ≡ get_or l i z)
  in_take n l z x k m =
      let r = in_at (take n l) z x m in
      let h : r.0 < n = omega (arith, r.1, length-take-le n l k) in
      (r.0, h, r.2 ∙ get_or-take n l r.0 z h)

-- ---- the last w

pub latest_in : (w : ℕ) (l : List ℤ) (i : ℕ) → i < length l → length l ≤ i + w → get_or l i (pos 0) ∈ latest w l
unfolding latest
latest_in w l i h k =
    let n : ℕ = length l - w in
    subst (λ (y : ℤ). y ∈ drop n l) (get_or-drop n l (i - n) (pos 0) ∙ ap (λ (j : ℕ). get_or l j (pos 0)) (omega arith))
    (at_in (drop n l) (i - n) (pos 0) (omega (arith, length-drop n l)))

pub in_latest : (w : ℕ) (l : List ℤ) (x : ℤ) → x ∈ latest w l → (i : ℕ) × (i < length l) × (length l ≤ i + w) × (x ≡ get_or l i (pos 0))
unfolding latest
in_latest w l x m =
    let r = in_at (drop (length l - w) l) (pos 0) x m in
    (length l - w + r.0, omega (arith, r.1, length-drop (length l - w) l), omega arith, r.2 ∙ get_or-drop (length l - w) l r.0 (pos 0))

-- of a list that has something, the last w are some
pub latest_some : (w : ℕ) (l : List ℤ) → 1 ≤ w → 1 ≤ length l → 1 ≤ length (latest w l)
unfolding latest
latest_some w l h k = omega (arith, length-drop (length l - w) l)
