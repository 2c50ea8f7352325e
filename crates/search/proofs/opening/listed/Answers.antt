-- The bytes at the front, and zeros behind them.
use Rattle.std.proofs.Common.{List, ℕ, ◌++◌, length, drop, replicate, sym, ap, ◌∙◌, arith}
use Rattle.std.proofs.lemmas.List.{take_all}
use Rattle.node.specs.Padding.{behind}
use Rattle.search.proofs.opening.listed.Goals as goal

pub returns : goal.returns
returns c =
    let l = c.args.ashore.now in
    ap (λ (d : List ℕ). d ++ drop (length l) (replicate 20 0)) (c.copy_from_slice.ensures.after ∙ sym (take_all (length l) l (omega arith)))
    ∙ behind 0 20 (length l) l (omega (arith, c.requires))
