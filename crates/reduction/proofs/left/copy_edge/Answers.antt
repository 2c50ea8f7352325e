-- Array by array.
use Rattle.std.proofs.Common.{◌<◌, get_or, pos, rules}
use lib.Signed.{mag}
use Rattle.integers.specs.Words.{back32}
use Rattle.reduction.specs.Left.{left_more}
use Rattle.reduction.proofs.left.copy_edge.Goals as goal

pub returns : goal.returns
returns c =
    let a = c.args in
    let fits : mag (get_or a.g.now.cost a.k (pos 0)) < 2147483648 = search (rules, c.well_formed) in
    left_more a.g.now a.left.now a.k c.requires.before a.f _ c.requires.at c.requires.few.1 (back32 _ fits)
