-- Every limit of document 01, as document 02 moves it, named once. (The limits of a search stand here too, so that one file has them all.)
use Rattle.std.specs.Prelude.{ℕ}

-- "n buoys, 1 to n, n from 3 to 20"
abbrev pub min_vertices : ℕ
min_vertices = 3

abbrev pub max_vertices : ℕ
max_vertices = 20

-- "m legs, 0 to 190"
abbrev pub max_edges : ℕ
max_edges = 190

-- document 02, C-14: "Cost runs from −100,000,000 to 100,000,000"
abbrev pub max_cost : ℕ
max_cost = 100000000

-- "Its mark is 0 free, 1 required or 2 struck."
abbrev pub max_mark : ℕ
max_mark = 2

-- "Dues d(1) to d(n) are whole numbers, −1,000,000 to 1,000,000"
abbrev pub max_multiplier : ℕ
max_multiplier = 1000000

-- C-14: "and the ceiling from −5,000,000,000 to 5,000,000,000"
abbrev pub max_ceiling : ℕ
max_ceiling = 5000000000

-- "sweeps (0 to 15) and a step (0 to 10,000)"
abbrev pub max_sweeps : ℕ
max_sweeps = 15

abbrev pub max_step : ℕ
max_step = 10000

-- document 02, C-17: "a denominator q, 1 to 1,000"
abbrev pub max_denominator : ℕ
max_denominator = 1000

-- "record count r (u16, at most 1,000)"
abbrev pub max_records : ℕ
max_records = 1000

-- "the count is below 2^63 − 1"
abbrev pub max_count : ℕ
max_count = 9223372036854775807
