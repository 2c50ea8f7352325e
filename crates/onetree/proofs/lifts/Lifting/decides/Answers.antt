-- Both ends' moves, the cost and the degrees are those of the definition.
use Rattle.std.proofs.Common.{refl}
use Rattle.onetree.specs.Lifts.{tried_by}
use Rattle.onetree.proofs.lifts.Lifting.decides.Goals as goal

pub returns : goal.returns
unfolding tried_by
returns c = rw (c.decided.ensures, c.shift-x.ensures.0, c.shift-y.ensures.0, c.cost-cost.ensures.0, c.from.ensures, c.from-2.ensures) refl
