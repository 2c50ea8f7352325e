-- The draws of document 02's C-21: a state, what each leg makes of it, and the delay that it means. Definitions only; what is true of them is
-- shown in Apart and Delays. (Document 02's word for the spread: e.)
use Rattle.std.specs.Prelude.{ℕ, zero, suc, ◌+◌, ◌*◌, ◌%◌, ◌/◌, ℤ, pos, ◌-ℤ◌}

-- "A student number, 0 to 65,535"
abbrev pub max_student : ℕ
max_student = 65535

-- "e is 0 to 1,000"
abbrev pub max_spread : ℕ
max_spread = 1000

-- a state is below it
abbrev pub modulus : ℕ
modulus = 4294967296

-- "each leg first makes s the remainder of 1,664,525 × s + 1,013,904,223 by 4,294,967,296"
unfoldable pub next : ℕ → ℕ
next s = (1664525 * s + 1013904223) % modulus

-- "A student number .. is the first state s": the state after k legs
unfoldable pub after : ℕ → ℕ → ℕ
unfolding next
after zero s = s
after (suc k) s = next (after k s)

-- "The delay is the remainder of (s divided by 65,536, rounded down) by 2e + 1, less e"
unfoldable pub delay : ℕ → ℕ → ℤ
delay e s = pos (s / 65536 % (2 * e + 1)) -ℤ pos e
