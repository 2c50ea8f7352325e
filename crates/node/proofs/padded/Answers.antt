-- The multipliers at the front, and zeros behind them.
use Rattle.std.proofs.Common.{List, ◌++◌, ℤ, pos, drop, replicate, ap, ◌∙◌}
use Rattle.node.specs.Padding.{behind}
use Rattle.node.proofs.padded.Goals as goal

pub returns : goal.returns
returns c =
    ap (λ (d : List ℤ). d ++ drop c.min-n.result (replicate 20 (pos 0))) c.copy_from_slice.ensures.after
    ∙ behind (pos 0) 20 c.min-n.result c.args.multipliers.now c.min-n.ensures
