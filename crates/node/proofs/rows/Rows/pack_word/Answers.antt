-- Edge by edge.
use Rattle.std.proofs.Common.{◌≢◌, ℕ, ◌-◌, refl, arith}
use Rattle.std.specs.Int.Bits.{bit_and}
use Rattle.std.specs.Int.Count.{count_trailing_zeros}
use Rattle.node.specs.declared.rows.SetBits.{SetBits}
use Rattle.node.specs.Walking.{upto_first, upto_last, upto_edge, upto_met, upto_more, count_fits, power}
use Rattle.node.proofs.Loops.{packed_first, packed_skips, packed_more, packed_last}
use Rattle.node.proofs.rows.Rows.pack_word.Goals as goal

pub loop-x-init : goal.loop-x-init
loop-x-init c = let a = c.args in
    let bits : SetBits = record { 0 = c.live_word-live.result } in
    upto_first _ _ _ _ a.self.now.few _ _ bits refl c.live_word-live.ensures c.requires.before
    (packed_first _ a.w _ _ _ _ c.live_word-live.ensures c.complement-excluded.ensures)

pub bounds-marks-next : goal.bounds-marks-next
bounds-marks-next c = count_fits _ _ _ _ _ _ c.loop-x.invariant (omega arith)

pub overflow_add-next : goal.overflow_add-next
overflow_add-next c =
    let some : c.loop-x.x ≢ 0 = omega arith in
    record { fits = omega (arith, count_fits _ _ _ _ _ _ c.loop-x.invariant some) }

pub loop-x-preserved : goal.loop-x-preserved
loop-x-preserved c = let a = c.args in let l = c.loop-x in let s = l.invariant in
    let some : l.x ≢ 0 = omega arith in
    let bits : SetBits = record { 0 = l.x } in
    let rest : SetBits = record { 0 = bit_and l.x (l.x - 1) } in
    let t : ℕ = count_trailing_zeros 64 l.x in
    upto_more _ _ _ _ bits rest _ s t (some, refl, refl) _
    (packed_more _ a.w _ a.marks.now t l.next l.required l.excluded _ _ _ _ (upto_edge _ _ _ _ bits rest _ s t (some, refl, refl)) refl
    (power _ _ _ _ s.masked _ _ s.walk some) c.bit_where-required.ensures c.bit_where-excluded.ensures
    (upto_met _ _ _ _ bits rest _ s t (some, refl, refl) (packed_skips _ a.w _ _ _ _)))

pub returns-clause-count : goal.returns-clause-count
returns-clause-count c = (upto_last _ _ _ _ _ _ c.loop-x.invariant (packed_skips _ c.args.w _ _ _ _) (omega arith)).0

pub returns-clause-packed : goal.returns-clause-packed
returns-clause-packed c =
    packed_last _ c.args.w _ _ _ _ (upto_last _ _ _ _ _ _ c.loop-x.invariant (packed_skips _ c.args.w _ _ _ _) (omega arith)).1
