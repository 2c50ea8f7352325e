-- What a program whose text is `text` prints of what was read. Definitions only.
use Rattle.std.specs.Prelude.{List, ℕ, ℤ, Result, Ok, Err}
use Rattle.std.specs.Option.{unwrap_or}
use Rattle.graph.specs.declared.Graph.{Graph}
use Rattle.graph.specs.declared.Refused.{Refused}
use Rattle.graph.specs.Refusals.{number}
use Rattle.reports.specs.declared.input.Input.{Input}
use Rattle.reports.specs.Text.{refused_line}

abbrev pub printed_of : (ℤ → Graph → List ℕ) → Result Input Refused → List ℕ
printed_of text (Ok r) = text r.ceiling r.graph
printed_of text (Err r) = refused_line (number r.refusal) (unwrap_or r.place 0)
