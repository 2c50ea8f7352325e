-- The loop gives place after place its byte.
use Rattle.std.proofs.Common.{get_or}
use Rattle.lists.specs.FilledFrom.{Updated}
use Rattle.onetree.specs.Answers.{ruling_bytes}
use Rattle.onetree.proofs.rulings.write.Given as goal

abbrev pub invariant-loop-k : goal.invariant-loop-k
invariant-loop-k l = Updated (λ j. get_or (ruling_bytes l.rulings) j 0) l.initial.out l.out l.k
