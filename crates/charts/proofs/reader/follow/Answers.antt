-- A record without a fault is taken, and the loop goes on by its next; a refused one is told with its place.
use Rattle.std.specs.Prelude.{◌≡◌}
use Rattle.std.specs.Option.{unwrap_or}
use Rattle.std.proofs.iter.Serving.{serving}
use Rattle.graph.specs.Refusals.{number, positive}
use Rattle.std.proofs.Common.{sym, ◌∙◌, Err, Fits, w16, arith, rules}
use Rattle.charts.specs.Chart.{start_of, record_fault, read_meaning}
use Rattle.charts.specs.Records.{record_at, appended_is, next_is}
use Rattle.charts.specs.ReadLoop.{reached_fault, reached_step, record_place, taken_size}
use Rattle.charts.proofs.reader.follow.Goals as goal
use Rattle.charts.proofs.reader.follow.Goals.{In_ok-found}

-- the record that a turn reads has no fault
read : (c : In_ok-found)
    → (record_fault c.args.s.now c.loop-k.met c.loop-k.g c.loop-k.k ≡ 0) × (c.in_ok-found.found ≡ record_at c.args.s.now (start_of c.loop-k.k))
read c = (grind arith, grind arith)

pub loop-k-smaller : goal.loop-k-smaller
loop-k-smaller c =
    let l = c.loop-k in
    let s = c.args.s.now in
    let r = read (goal.at.loop-k-smaller c).In_ok-found in
    let grown = c.append.ensures ∙ appended_is s l.g (start_of l.k) c.in_ok-found.found r.1 in
    omega (arith, record_place s l.met l.g l.k l.invariant r.0, taken_size s l.met l.g l.k l.invariant c.append.new.g grown)

pub loop-k-preserved : goal.loop-k-preserved
loop-k-preserved c =
    let l = c.loop-k in
    let s = c.args.s.now in
    let r = read (goal.at.loop-k-preserved c).In_ok-found in
    let grown = c.append.ensures ∙ appended_is s l.g (start_of l.k) c.in_ok-found.found r.1 in
    let next = next_is s l.k c.in_ok-found.found r.1 in
    reached_step s l.met l.g l.k l.invariant c.append.new.g c.from-k-in-loop-k.result c.loop-k-test.true r.0 grown
    (c.from-k-in-loop-k.ensures ∙ next) (let f : Fits w16 c.in_ok-found.found.next = search rules in omega (arith, f))

-- a refused record's number, and its place
pub returns-in_err-found : goal.returns-in_err-found
unfolding read_meaning
returns-in_err-found c =
    let l = c.loop-k in
    let s = c.args.s.now in
    let refused = c.in_err-found.field-0.0 in
    let is : c.from_residual.result ≡ Err refused = search rules in
    let fault : number refused.refusal ≡ record_fault s l.met l.g l.k = grind serving in
    let place : unwrap_or refused.place 0 ≡ l.k = grind serving in
    rw (is, fault, place)
    (sym (reached_fault s l.met l.g l.k l.invariant c.loop-k-test.true (λ e. omega (arith, positive refused.refusal, fault, e))))
