-- What was filled so far is what the reader gave.
use Rattle.std.proofs.Common.{◌≤◌, length, take}
use Rattle.std.specs.Io.KnownBytes.{Consumes}
use Rattle.intake.proofs.read_full.Given as goal

abbrev pub invariant-loop : goal.invariant-loop
invariant-loop g l = (l.at ≤ length l.buf) × Consumes (g.R.Read.remaining l.initial.from) (g.R.Read.remaining l.from) (take l.at l.buf)
