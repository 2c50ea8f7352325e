-- What a list of bytes says of the vertices as a whole. Assumes nothing.
use Rattle.std.specs.Prelude.{Bool, ◌&&◌, List, ℕ, eqb, leb, length}
use Rattle.std.specs.List.{list_all, list_any}

-- one is ashore
abbrev pub some_ashore : List ℕ → Bool
some_ashore l = list_any (λ b. eqb b 1) l

-- every byte is 0
abbrev pub all_zero : List ℕ → Bool
all_zero l = list_all (λ b. eqb b 0) l

-- it is a list for n vertices and has none ashore
abbrev pub none_listed : List ℕ → ℕ → Bool
none_listed l n = eqb (length l) n && all_zero l

-- each byte says ashore or afloat
abbrev pub bytes_fit : List ℕ → Bool
bytes_fit l = list_all (λ b. leb b 1) l
