-- DEMAND 3 of the exported calls: crate shelf's `Demand3` of the answers in numbers, as the contracts of planner_fresh, planner_fresh_shelf,
-- planner_open, planner_run, planner_tell, planner_show, planner_close, planner_save and planner_back cite them. The statement is read there;
-- Theorem proves it. Definitions only.
use Rattle.shelf.specs.Demand3.{Demand3}
use Rattle.ffi.specs.Answers.{said_of}

abbrev pub Exported : Type 0
Exported = Demand3 said_of
