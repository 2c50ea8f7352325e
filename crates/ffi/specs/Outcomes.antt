-- The numbers of what a call answers beside a refusal. Definitions only.
use Rattle.std.specs.Prelude.{ℕ}
use Rattle.ffi.specs.declared.Outcome.{Outcome}
use Rattle.ffi.specs.declared.Outcome.TheVariants as outcome

-- no refusal has one of these
abbrev pub number_of : Outcome → ℕ
number_of outcome.Nothing = 1000
number_of outcome.GoingOn = 1001
number_of outcome.Finished = 1002
number_of outcome.NoTour = 1003
number_of outcome.Best = 1004
number_of outcome.Idle = 1005
