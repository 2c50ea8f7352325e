-- By whether it is decided, and on which side it is.
use Rattle.std.proofs.Common.{refl, ne_eqb}
use Rattle.onetree.specs.Lifts.{lifted_byte}
use Rattle.onetree.proofs.lifts.Lifting.lifted.Goals as goal

pub returns-then-not-decides : goal.returns-then-not-decides
unfolding lifted_byte
returns-then-not-decides c = rw (← c.decides.ensures, c.if-not-decides.true) refl

pub returns-then-inside : goal.returns-then-inside
unfolding lifted_byte
returns-then-inside c = rw (← c.decides.ensures, c.if-not-decides.false, c.if-inside.true) refl

pub returns-else-inside : goal.returns-else-inside
unfolding lifted_byte
returns-else-inside c = rw (← c.decides.ensures, c.if-not-decides.false, ne_eqb _ 1 c.if-inside.false) refl
