-- The loop that joins two components: each label that is the larger of x and y becomes the smaller. Assumes nothing.
use Rattle.std.specs.Prelude.{◌≡◌, refl, List, ℕ, suc, ◌+◌, ◌<◌, ◌≤◌, length, get_or, set}
use Rattle.std.proofs.Common.{◌∙◌, ap, arith, get_or-set_same, get_or-set_other}
use Rattle.std.proofs.Math.Decide.{ℕ_discrete}
use Rattle.spanning.specs.Walks.{relabel}

-- the labels below n are done
pub record RelabelledTo (x y : ℕ) (old l : List ℕ) (n : ℕ) : Type 0 where
  pub done : (u : ℕ) → u < n → get_or l u 0 ≡ relabel x y (get_or old u 0)
  pub left : (u : ℕ) → n ≤ u → get_or l u 0 ≡ get_or old u 0

pub relabelled_none : (x y : ℕ) (l : List ℕ) → RelabelledTo x y l l 0
relabelled_none x y l = record { done = λ u h. absurd (let z : suc u ≤ 0 = h in omega arith); left = λ u h. refl }

pub relabelled_more : (x y : ℕ) (old l : List ℕ) (n z : ℕ) → RelabelledTo x y old l n → n < length l → z ≡ relabel x y (get_or l n 0)
    → RelabelledTo x y old (set l n z) (n + 1)
relabelled_more x y old l n z r h e = record {
  done = λ u k. done u k (ℕ_discrete u n);
  left = λ u k. get_or-set_other l n u z 0 (λ q. omega arith) ∙ r.left u (omega arith);
}
  where
    done : (u : ℕ) → u < n + 1 → Dec (u ≡ n) → get_or (set l n z) u 0 ≡ relabel x y (get_or old u 0)
    done u k (yes q) = rw q (get_or-set_same l n z 0 h ∙ e ∙ ap (relabel x y) (r.left n (omega arith)))
    done u k (no q) = get_or-set_other l n u z 0 q ∙ r.done u (omega arith)
