-- A record more is appended to what stands before it; after m of them nothing is left.
use Rattle.std.specs.Prelude.{◌≡◌, ◌+◌, ◌-◌, ◌*◌, length, drop}
use Rattle.std.proofs.Common.{◌∙◌, ap, sym, arith, take_all}
use Rattle.std.proofs.lemmas.Slice.{take-put_mid}
use Rattle.charts.specs.Chart.{size_of, header_bytes, record_bytes, file_bytes}
use Rattle.charts.specs.NoFault.{write_ok}
use Rattle.charts.specs.WriterLoop.{write_start, write_step}
use Rattle.charts.proofs.writer.put_all.Goals as goal

pub loop-k-init : goal.loop-k-init
loop-k-init c =
    let g = c.args.g.now in
    rw (c.copy_from_slice.ensures.after ∙ c.header.ensures) (write_start g.n g.m g (drop 8 c.args.out.now))

pub loop-k-preserved : goal.loop-k-preserved
unfolding record_bytes
loop-k-preserved c =
    let g = c.args.g.now in
    let l = c.loop-k in
    let start = 8 + 12 * c.from.result in
    let new = c.copy_from_slice-in-loop-k in
    let put = new.ensures.after ∙ c.record.ensures in
    let at : 8 + 12 * l.k ≡ start = omega arith in
    let size = (write_ok g _ c.requires).1 in
    take-put_mid start (start + 12 - start) l.out new.new.self (size_of (l.k + 1)) (omega (arith, ap length put, size)) (omega (arith, size))
    ∙ rw (put, rw at at l.invariant) (write_step (header_bytes g.n g.m) g l.k)

pub returns : goal.returns
unfolding file_bytes
returns c =
    let l = c.loop-k in
    let e : l.k ≡ c.args.g.now.m = omega arith in
    sym (take_all (size_of c.args.g.now.m) l.out (omega (arith, (write_ok c.args.g.now _ c.requires).1))) ∙ rw e at l.invariant
