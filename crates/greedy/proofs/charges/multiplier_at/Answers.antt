-- The multiplier of vertex v stands at place v − 1: multiplier-at.
use Rattle.std.proofs.Common.{◌-◌, get_or, pos, arith}
use Rattle.integers.specs.Words.{back32}
use Rattle.tree_theory.specs.Multipliers.{multiplier-at}
use Rattle.greedy.proofs.charges.multiplier_at.Goals as goal

pub returns : goal.returns
returns c =
    rw (back32 (get_or c.args.multipliers.now (c.from.result - 1) (pos 0)) (omega arith), c.from.ensures)
    (multiplier-at c.args.multipliers.now c.args.v c.requires.0)
