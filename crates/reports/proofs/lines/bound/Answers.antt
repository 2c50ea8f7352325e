-- Its two numbers are read back as they were.
use mir.Facts.{to_z-of_z}
use Rattle.reports.specs.Text.{bound_line}
use Rattle.reports.specs.Numbers.{signed_decimal_is}
use Rattle.reports.proofs.lines.bound.Goals as goal

pub returns : goal.returns
unfolding bound_line
returns c =
    rw (← signed_decimal_is c.args.bound c.ranges.bound.sfits, ← signed_decimal_is c.args.ceiling c.ranges.ceiling.sfits)
    (rw (to_z-of_z c.ranges.bound, to_z-of_z c.ranges.ceiling) at c.labelled_two.ensures)
