-- The lowest free edge is the machine's, and so are the two nodes.
use Rattle.std.proofs.Common.{refl, sym, ◌∙◌, replicate}
use Rattle.node.specs.declared.Fate.TheVariants as fate
use Rattle.node.specs.Opened.{comes_to}
use Rattle.node.specs.Words.{branch_closes, branch_splits}
use Rattle.node.proofs.Workspace.split.Goals as goal

pub returns-in_default : goal.returns-in_default
returns-in_default c =
    let first = c.in_default.ensures.first in
    λ d e. c.close.ensures ∙ sym (branch_closes _ _ c.requires.few _ first d refl)

pub returns : goal.returns
returns c =
    let found = c.in-Some.ensures in
    λ d e.
    (λ i. comes_to fate.Splits (c.exclude.ensures i) (c.require.ensures i) (replicate 190 0) (e i))
    ∙ branch_splits _ _ c.requires.few _ found.first d found.within c.requires.of_marks
