-- Laws that no proof cites today: what stands under a name, and what is put there, by places. Assumes nothing.
use Rattle.std.specs.Prelude.{◌≡◌, List, ℕ, zero, suc, ◌-◌, ◌≤◌, get_or, set}
use Rattle.std.proofs.Common.{ap, arith}
use Rattle.lent_records.specs.Places.{under, put}

pub put_is : {A : Type 0} (l : List A) (k : ℕ) (v : A) → 1 ≤ k → set l (k - 1) v ≡ put l k v
unfolding put
put_is l zero v h = absurd (omega arith)
put_is l (suc k) v h = ap (λ (i : ℕ). set l i v) (omega arith)

pub under_is : {A : Type 0} (z : A) (l : List A) (k : ℕ) → 1 ≤ k → get_or l (k - 1) z ≡ under z l k
unfolding under
under_is z l zero h = absurd (omega arith)
under_is z l (suc k) h = ap (λ (i : ℕ). get_or l i z) (omega arith)
