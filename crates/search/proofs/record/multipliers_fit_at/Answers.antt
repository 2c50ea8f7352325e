-- The first n of what a node carries are its multipliers.
use Rattle.std.proofs.Common.{◌≡◌, ℕ, ◌≤◌, List, length, ℤ, pos, Bool, take, ap, ◌∙◌, arith}
use Rattle.lists.specs.Fill.{fit}
use Rattle.lists.specs.Filling.{take-fit}
use Rattle.tree_theory.specs.Inputs.{multipliers_fit}
use Rattle.search.specs.Record.{multipliers_at}
use Rattle.search.specs.Words.Cells.{multipliers_size, multipliers_cut}
use Rattle.search.proofs.record.multipliers_fit_at.Goals as goal

first : (n p : ℕ) (e d : List ℤ) (b : Bool) → n ≤ 20 → d ≡ multipliers_at 20 e p → b ≡ multipliers_fit (take n d)
    → b ≡ multipliers_fit (multipliers_at n e p)
first n p e d b few is told =
    told ∙ ap multipliers_fit
    (take-fit n (pos 0) d (omega (arith, few, ap length is, multipliers_size 20 e p)) ∙ ap (fit n (pos 0)) is ∙ multipliers_cut n e p few)

pub returns : goal.returns
unfolding multipliers_at
returns c = first c.args.n c.args.p c.args.carried.now _ _ c.requires.0 (c.get-d.ensures (pos 0)) c.multipliers_fit.ensures
