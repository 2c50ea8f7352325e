-- Place by place.
use Rattle.std.proofs.Common.{◌∙◌, ◌<◌, ℕ, ap, sym, length, arith}
use Rattle.std.proofs.lemmas.List.{map-set, length-map, get_or-map}
use Rattle.lists.specs.FilledFrom.{updated_more}
use Rattle.onetree.specs.Answers.{byte_of, ruling_bytes}
use Rattle.onetree.specs.declared.rulings.Ruling.TheVariants.{Keep}
use Rattle.onetree.specs.Lifts.{lifted_at}
use Rattle.onetree.proofs.lifts.Lifting.try_each.Goals as goal

pub loop-k-preserved : goal.loop-k-preserved
loop-k-preserved c =
    let k = c.loop-k.k in
    let i = c.loop-k.invariant in
    let room : k < length (ruling_bytes c.args.res.now) = omega (arith, length-map c.args.res.now byte_of) in
    let was = sym (get_or-map byte_of c.loop-k.res k Keep 0 (omega (arith, i.long, length-map c.loop-k.res byte_of))) ∙ i.rest k (omega arith) in
    rw (map-set byte_of c.loop-k.res k c.tried.result)
    (updated_more _ _ _ _ _ room i (c.tried.ensures ∙ ap (λ (x : ℕ). lifted_at c.args.self.now x k) was))
