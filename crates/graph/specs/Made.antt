-- The graph that code makes of lent parts, or the refusal of parts that can make none.
use Rattle.std.specs.Prelude.{◌≡◌, false, Result, Ok, Err}
use Rattle.graph.specs.declared.Graph.{Graph}
use Rattle.graph.specs.declared.refusals.Refusal.{Refusal}
use Rattle.graph.specs.Refusals.{number}
use Rattle.graph.specs.Valid.{valid}

-- g is what the parts are, with any n and m
abbrev pub MadeOf : Graph → Result Graph Refusal → Type 0
MadeOf g (Ok made) = made ≡ g
MadeOf g (Err fault) = (number fault ≡ 15) × (valid g ≡ false)
