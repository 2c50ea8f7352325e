-- A number that is no byte is past the limits of 'Legs and marks'.
use Rattle.std.proofs.Common.{refl, arith}
use Rattle.graph.specs.Valid.{graph_of}
use Rattle.graph.specs.Meaning.{not_valid}
use Rattle.graph.proofs.GraphParts.graph.Goals as goal

pub returns-in_default : goal.returns-in_default
returns-in_default c =
    let p = c.args.self.now in
    let no_byte = rw c.in_default.is-1 at c.try_from-2.ensures in
    (refl, not_valid (graph_of p.n p.m p.a.now p.b.now p.cost.now p.mark.now) (λ v. no_byte (omega (arith, v.few))))

pub returns-in_default-2 : goal.returns-in_default-2
returns-in_default-2 c =
    let p = c.args.self.now in
    let no_byte = rw c.in_default.is-0 at c.try_from.ensures in
    (refl, not_valid (graph_of p.n p.m p.a.now p.b.now p.cost.now p.mark.now) (λ v. no_byte (omega (arith, v.high))))
