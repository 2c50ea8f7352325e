-- Place by place.
use Rattle.std.proofs.Common.{get_or}
use Rattle.lists.specs.FilledFrom.{Updated}
use Rattle.onetree.specs.Answers.{ruling_bytes}
use Rattle.onetree.specs.Lifts.{lifted_at}
use Rattle.onetree.proofs.lifts.Lifting.try_each.Given as goal

abbrev pub invariant-loop-k : goal.invariant-loop-k
invariant-loop-k l =
    Updated (λ k. lifted_at l.self (get_or (ruling_bytes l.initial.res) k 0) k) (ruling_bytes l.initial.res) (ruling_bytes l.res) l.k
