-- The loop keeps: the record runs, with the budget that is left, to what the first one runs to.
use Rattle.std.proofs.Common.{◌-◌}
use Rattle.machine.specs.Machine.{ran}
use Rattle.search.specs.Record.{opening_in, progress_of}
use Rattle.search.specs.Runs.Running.{RunsTo}
use Rattle.search.proofs.Search.advance.Given as goal

abbrev pub invariant-loop : goal.invariant-loop
invariant-loop l = RunsTo (opening_in l.fn.self) l.self (l.budget - l.counter) (ran l.budget (progress_of l.fn.self))
