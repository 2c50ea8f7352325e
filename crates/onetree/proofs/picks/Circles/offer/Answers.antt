-- A bit more is taken off.
use Rattle.std.proofs.Common.{arith, ◌≡◌, ◌<◌, ◌≢◌, ℕ, length, get_or, set, List, true, false, ◌-◌}
use Rattle.std.specs.Int.Bits.{bit_and}
use Rattle.std.specs.Int.Count.{count_trailing_zeros}
use Rattle.onetree.specs.declared.picks.Pick.{Pick}
use Rattle.onetree.specs.declared.picks.Swapping.{Swapping}
use Rattle.onetree.specs.Picks.{no_pick, meets_by, offered}
use Rattle.onetree.specs.Masks.{BitsTo, WalkTo, Offering, walk_first, walk_last, walk_in, walk_test, walk_met, walk_more, offering_first, offering_skip, offering_more}
use Rattle.onetree.proofs.picks.Circles.offer.Goals as goal

-- a turn of the loop
module _ (s : Swapping) (ins : List ℕ) (k : ℕ) (before after : List Pick) (best : Pick) (word : ℕ)
    (are : BitsTo word (length ins) (λ j. meets_by s (get_or ins j 0) k)) (x : ℕ)
    (w : WalkTo (Offering s ins k before after best) (length ins) word x) where
  met_all : x ≡ 0 → Offering s ins k before after best (length ins)
  met_all e = walk_last _ (length ins) word _ are (λ j l q h. offering_skip s ins k before after best j h q) x w e

  module _ (some : x ≢ 0) where
    in_list : count_trailing_zeros 32 x < length ins
    in_list = walk_in _ (length ins) word _ are (λ j l q h. offering_skip s ins k before after best j h q) x w some

    taken_off : length ins < length before → (i : ℕ) → i ≡ get_or ins (count_trailing_zeros 32 x) 0 → (p q : Pick) → p ≡ offered s false k i best
        → q ≡ offered s true i k (get_or after (count_trailing_zeros 32 x) no_pick)
        → BitsTo word (length ins) (λ j. meets_by s (get_or ins j 0) k)
        × WalkTo (Offering s ins k before (set after (count_trailing_zeros 32 x) q) p) (length ins) word (bit_and x (x - 1))
    taken_off room i is p q ep eq = (
      are,
      walk_more _ (length ins) word _ are (λ j l q h. offering_skip s ins k before after best j h q) x w some _
          (rw (ep, eq) (offering_more s ins k before after best (count_trailing_zeros 32 x)
          (walk_met _ (length ins) word _ are (λ j l q h. offering_skip s ins k before after best j h q) x w some)
          (walk_test _ (length ins) word _ are (λ j l q h. offering_skip s ins k before after best j h q) x w some) (omega (arith, room, in_list)) i is)),
    )

pub loop-bits-init : goal.loop-bits-init
loop-bits-init c = (
  _,
  c.meets-bits.ensures,
  walk_first _ _ _ c.meets-bits.type_inv (rw c.none-best.ensures (offering_first _ _ _ _)),
)

pub bounds-self-j : goal.bounds-self-j
bounds-self-j c = let v = c.loop-bits.invariant in in_list _ _ _ _ _ _ v.0 v.1 _ v.2 c.loop-bits-test.true

pub bounds-bests-j : goal.bounds-bests-j
bounds-bests-j c = let v = c.loop-bits.invariant in
    omega (arith, in_list _ _ _ _ _ _ v.0 v.1 _ v.2 c.loop-bits-test.true, c.requires.0.few)

pub loop-bits-preserved : goal.loop-bits-preserved
loop-bits-preserved c = let v = c.loop-bits.invariant in
    let r = taken_off _ _ _ _ _ _ v.0 v.1 _ v.2 c.loop-bits-test.true (omega (arith, c.told-bests, c.requires.0.few)) c.from-i.result c.from-i.ensures
    c.exchange.new.outer c.exchange.new.inner c.exchange.ensures.1 c.exchange.ensures.0 in
    (v.0, r.0, r.1)

pub returns : goal.returns
returns c = let v = c.loop-bits.invariant in
    let r = met_all _ _ _ _ _ _ v.0 v.1 _ v.2 c.loop-bits-test.false in
    (r.turn, r.each)
