-- The list of the vertices ashore that an open record lends: the first n of its bytes, such as an opening accepts. Assumes nothing.
use Rattle.std.specs.Prelude.{◌≡◌, true, ℕ, take, length}
use Rattle.std.proofs.Common.{ap, ◌∙◌, arith}
use Rattle.lists.specs.Fill.{fit}
use Rattle.lists.specs.Filling.{take-fit}
use Rattle.graph.specs.Valid.{Valid}
use Rattle.afloat.specs.Over.{ashore_fits}
use Rattle.machine.specs.Machine.{trimmed}
use Rattle.machine.specs.Calls.{fault}
use Rattle.search.specs.Record.{ashore_in, opening_in}
use Rattle.search.specs.Begun.{begun_valid, begun_fits}
use Rattle.search.specs.declared.Search.{Search}

pub valid : (s : Search) → fault (opening_in s) ≡ 0 → Valid s.graph
unfolding opening_in
valid s e = begun_valid (opening_in s) e

pub fits : (s : Search) → fault (opening_in s) ≡ 0 → ashore_fits (ashore_in s) s.graph.n ≡ true
unfolding opening_in trimmed
fits s e = begun_fits (opening_in s) e

-- the bytes that are lent
pub first : (s : Search) (n : ℕ) → fault (opening_in s) ≡ 0 → length s.ashore ≡ 20 → n ≡ s.graph.n → take n s.ashore ≡ ashore_in s
first s n e long is =
    take-fit n 0 s.ashore (omega (arith, is, long, (valid s e).high)) ∙ ap (λ (k : ℕ). fit k 0 s.ashore) is
