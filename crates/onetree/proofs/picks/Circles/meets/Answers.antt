-- By whether it is at vertex 1.
use Rattle.onetree.specs.Masks.{meets_near, meets_far}
use Rattle.onetree.proofs.picks.Circles.meets.Goals as goal

pub returns-then-self-k-eq1 : goal.returns-then-self-k-eq1
returns-then-self-k-eq1 c = meets_near c.args.self.now c.requires.0 c.args.k c.requires.1 c.if-self-k-eq1.true

pub returns : goal.returns
returns c = rw (c.from.ensures, c.from-2.ensures) (meets_far c.args.self.now c.requires.0 c.args.k c.requires.1 c.if-self-k-eq1.false)
