-- The loop keeps `Passed`; specs/CheckLoop.antt says what a turn does to it.
use Rattle.std.specs.Prelude.{◌≡◌, refl, Bool, true, false}
use Rattle.std.specs.Int.{from_bool}
use Rattle.std.proofs.Common.{arith}
use Rattle.lists.specs.Bools.{bit}
use Rattle.lists.specs.Hits.{says_nowhere}
use Rattle.graph.specs.CheckLoop.{passed_none, counted_most, passed-more}
use Rattle.graph.proofs.Graph.pairs_fit.Goals as goal

from_bit : (t : Bool) → from_bool t ≡ bit t
from_bit true = refl
from_bit false = refl

pub loop-k-init : goal.loop-k-init
loop-k-init c = passed_none (λ t. t) _ _ _ c.requires.0 c.requires.1

pub overflow_add-again : goal.overflow_add-again
overflow_add-again c =
    let l = c.loop-k in
    let most = counted_most (λ t. t) from_bool from_bit _ _ _ l.met l.again l.k c.place_of-p.result l.invariant (omega arith) c.place_of-p.ensures in
    rw c.from-again.ensures (omega (arith, most))

pub loop-k-preserved : goal.loop-k-preserved
loop-k-preserved c =
    let l = c.loop-k in
    rw c.from-again.ensures
    (passed-more (λ t. t) from_bool from_bit _ _ _ l.met l.again l.k c.place_of-p.result l.invariant (omega arith) c.place_of-p.ensures)

pub returns : goal.returns
returns c = let l = c.loop-k in says_nowhere _ l.k _ l.again (omega (arith, l.invariant.at_most)) l.invariant.counted
