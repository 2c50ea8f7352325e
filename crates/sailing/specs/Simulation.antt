-- WHAT A SIMULATION ANSWERS, and what it leaves in the lent list of times, for every input. Definitions only; Theorems says what they come to.
use Rattle.std.specs.Prelude.{Bool, not, cond, ◌&&◌, List, ℕ, zero, suc, eqb, leb, length, ℤ}
use Rattle.graph.specs.declared.Graph.{Graph}
use Rattle.graph.specs.Network.{network}
use Rattle.graph.specs.Valid.{valid}
use Rattle.sailing.specs.Draws.{max_student, max_spread, after}
use Rattle.sailing.specs.Orders.{in_sailing_order}
use Rattle.sailing.specs.Times.{times_from, total}

-- "The result has each leg's time, the total and the last state."; or a refusal's number and place
pub data Reply : Type 0 where
  sailed : ℤ → ℕ → Reply
  refused : ℕ → ℕ → Reply

-- "36, after 15 and 11, when the legs given are not a round of all the chart's buoys in sailing order from buoy 1; 37, after it, when e or the
-- number is out of range"; "a list of legs or times without n entries" comes under 11. 0 is no fault; len is how many times are lent
unfoldable pub simulation_fault : Graph → List ℕ → ℕ → ℕ → ℕ → ℕ
unfolding valid in_sailing_order
simulation_fault g ks student e len =
    cond (not (valid g)) 15
    (cond (not (eqb (length ks) g.n && eqb len g.n)) 11
    (cond (not (in_sailing_order (network g) ks)) 36
    (cond (not (leb e max_spread && leb student max_student)) 37
    0)))

-- each leg's time
unfoldable pub times_of : Graph → List ℕ → ℕ → ℕ → List ℤ
unfolding network times_from
times_of g ks student e = times_from (network g).cost e student ks

-- the answer, by the fault
unfoldable pub reply_by : Graph → List ℕ → ℕ → ℕ → ℕ → Reply
unfolding times_of total after
reply_by g ks student e zero = sailed (total (times_of g ks student e)) (after (length ks) student)
reply_by g ks student e (suc f) = refused (suc f) 0

unfoldable pub simulation_reply : Graph → List ℕ → ℕ → ℕ → ℕ → Reply
unfolding simulation_fault reply_by
simulation_reply g ks student e len = reply_by g ks student e (simulation_fault g ks student e len)

-- the lent list, by the fault
unfoldable pub leaves_by : Graph → List ℕ → ℕ → ℕ → List ℤ → ℕ → List ℤ
unfolding times_of
leaves_by g ks student e times zero = times_of g ks student e
leaves_by g ks student e times (suc f) = times

unfoldable pub simulation_leaves : Graph → List ℕ → ℕ → ℕ → List ℤ → List ℤ
unfolding simulation_fault leaves_by
simulation_leaves g ks student e times = leaves_by g ks student e times (simulation_fault g ks student e (length times))
