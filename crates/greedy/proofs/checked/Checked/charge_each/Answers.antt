use Rattle.std.proofs.Common.{◌∙◌, length, get_or, pos, arith, get_or-set_other, length-set}
use Rattle.integers.specs.Words.{back32}
use Rattle.tree_theory.specs.Multipliers.{multiplier_range}
use Rattle.greedy.specs.Charging.{Chargeable, chargeable, charges_more}
use Rattle.greedy.proofs.checked.Checked.charge_each.Goals as goal

pub charge-requires : goal.charge-requires
charge-requires c =
    let k = c.loop-k.k in
    let g = c.args.self.now.graph.now in
    let d = c.args.self.now.multipliers.now in
    let e : Chargeable (length d) (get_or g.a k 0) (get_or g.b k 0) (get_or g.cost k (pos 0)) = chargeable g _ c.args.self.now.valid c.args.self.now.size k (omega arith) in
    let x = c.multiplier_at-x in
    let y = c.multiplier_at-y in (
      rw (back32 (get_or g.cost k (pos 0)) (omega arith)) e.4,
      rw (back32 x.result x.type_inv, x.ensures) (multiplier_range d c.args.self.now.ranged (get_or g.a k 0) e.0 e.1),
      rw (back32 y.result y.type_inv, y.ensures) (multiplier_range d c.args.self.now.ranged (get_or g.b k 0) e.2 e.3),
    )

pub loop-k-preserved : goal.loop-k-preserved
loop-k-preserved c =
    let l = c.loop-k in
    let g = c.args.self.now.graph.now in
    let x = c.multiplier_at-x in
    let y = c.multiplier_at-y in
    record {
      done = charges_more c.args.q.q g c.args.self.now.multipliers.now l.charges l.k c.charge.result (omega (arith, l.invariant.long)) l.invariant.done
          (rw (
            back32 (get_or g.cost l.k (pos 0)) (omega arith),
            back32 x.result x.type_inv,
            back32 y.result y.type_inv,
            x.ensures,
            y.ensures,
          ) at c.charge.ensures);
      rest = λ k h. get_or-set_other l.charges l.k k c.charge.result 0 (λ e. omega arith) ∙ l.invariant.rest k h;
      long = length-set l.charges l.k c.charge.result ∙ l.invariant.long;
    }
