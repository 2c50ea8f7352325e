-- THE VERDICTS of the exported calls, and which of these are accepted: crate shelf's claims (`Verdicts`, `Acceptance`) of the answers in numbers, as
-- the contracts of planner_fresh, planner_fresh_shelf, planner_open, planner_run, planner_tell, planner_show, planner_close, planner_save and
-- planner_back give them. Theorem proves them. Definitions only.
use Rattle.std.specs.Prelude.{Bool, ◌||◌, eqb, ltb}
use Rattle.shelf.specs.Verdicts.{Acceptance, Verdicts}
use Rattle.shelf.specs.Promised.{calls}
use Rattle.ffi.specs.declared.Reply.{Reply}
use Rattle.ffi.specs.Answers.{said_of}

-- "Accepted means not refused.": 0, or a number above 1,000, and no refusal has one of these
abbrev pub accepts_number : Reply → Bool
accepts_number r = eqb r.number 0 || ltb 1000 r.number

abbrev pub ExportedVerdicts : Type 0
ExportedVerdicts = Verdicts said_of accepts_number (calls said_of)

abbrev pub ExportedAcceptance : Type 0
ExportedAcceptance = Acceptance accepts_number (calls said_of)
