-- An end that stays, and one that moves.
use Rattle.std.proofs.Common.{◌≡◌, refl, ◌∙◌, ◌-◌, ◌≤◌, sym, get_or, pos, arith}
use Rattle.integers.specs.Words.{back32}
use Rattle.tree_theory.specs.Inputs.{multiplier}
use Rattle.tree_theory.specs.Multipliers.{multiplier-at}
use Rattle.lifting.specs.Verdict.{end_move}
use Rattle.onetree.specs.Lifts.{shift_by}
use Rattle.onetree.proofs.lifts.Lifting.shift.Goals as goal
use Rattle.onetree.proofs.lifts.Lifting.shift.Goals.{then-inside, else-inside}

pub returns-then-stays : goal.returns-then-stays
unfolding shift_by end_move
returns-then-stays c =
    let still = rw (c.is_end-touching.ensures, c.from-v.ensures) at (sym c.stays.ensures ∙ c.if-stays.true) in
    rw still (refl, omega arith)

pub returns : goal.returns
unfolding shift_by end_move
returns c =
    let still = rw (c.is_end-touching.ensures, c.from-v.ensures) at (sym c.stays.ensures ∙ c.if-stays.false) in
    let d = c.args.self.now.multipliers.now in
    let at : get_or d (c.from-v.result - 1) (pos 0) ≡ multiplier d c.args.i = rw c.from-v.ensures (multiplier-at d c.args.i c.requires.1) in
    let room = rw (back32 (get_or d (c.from-v.result - 1) (pos 0)) (omega arith), at) at c.room-room.ensures in
    let small : c.limited.result ≤ 2000000 = omega (arith, c.limited.ensures.1, room.1) in
    elim c.if-inside.branch [
      | then-inside w ↦ (rw (c.limited.ensures.0, room.0, w.lows-is, c.from-v.ensures, w.if-inside.true, rw w.if-inside.true at still) refl, small)
      | else-inside w ↦ (rw (c.limited.ensures.0, room.0, w.lows-is, c.from-v.ensures, w.if-inside.false, rw w.if-inside.false at still) refl, small)
    ]
