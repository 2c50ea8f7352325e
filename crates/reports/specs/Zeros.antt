-- The length of the first places of a list of one value. Assumes nothing.
use Rattle.std.specs.Prelude.{ℕ, ◌≤◌, ◌≡◌, length, take, replicate}
use Rattle.std.proofs.lemmas.List.{length-replicate, take-replicate}

pub part_length : {A : Type 0} (n k : ℕ) (a : A) → k ≤ n → length (take k (replicate n a)) ≡ k
part_length n k a h = rw (take-replicate k n a h) (length-replicate k a)
