-- The times of a sailing's legs, in order, and their total. Definitions only; Totals shows that the total is the costs and the delays.
use Rattle.std.specs.Prelude.{List, [], ◌∷◌, ℕ, zero, suc, ℤ, pos, ◌+ℤ◌}
use Rattle.sailing.specs.Draws.{next, delay}

-- "each leg first makes s .."; "A leg's time is its cost plus its delay.": the edges ks from state s
unfoldable pub times_from : (ℕ → ℤ) → ℕ → ℕ → List ℕ → List ℤ
unfolding next delay
times_from cost e s [] = []
times_from cost e s (k ∷ ks) = (cost k +ℤ delay e (next s)) ∷ times_from cost e (next s) ks

-- the delays of the first n legs from state s
unfoldable pub delays_from : ℕ → ℕ → ℕ → List ℤ
unfolding next delay
delays_from e s zero = []
delays_from e s (suc n) = delay e (next s) ∷ delays_from e (next s) n

-- the sum of a list
unfoldable pub total : List ℤ → ℤ
total [] = pos 0
total (z ∷ zs) = z +ℤ total zs
