-- Place by place.
use Rattle.std.proofs.Common.{◌∙◌, ap, arith}
use Rattle.lists.specs.Rows.{row, row_is}
use Rattle.tree_theory.specs.Arrays.{entry}
use Rattle.onetree.specs.Answers.{ruling_bytes}
use Rattle.onetree.proofs.rulings.write.Goals as goal

pub returns : goal.returns
returns c =
    let i = c.loop-k.invariant in
    row_is c.loop-k.out 0 (entry (ruling_bytes c.args.rulings.now)) (λ j h. i.done j (omega (arith, i.long)))
    ∙ ap (λ m. row m (entry (ruling_bytes c.args.rulings.now))) i.long
