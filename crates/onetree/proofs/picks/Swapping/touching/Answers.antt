-- By whether it is at the first end.
use Rattle.std.proofs.Common.{◌≡◌, refl, sym, ◌∙◌, true, false, get_or}
use Rattle.lifting.specs.Meeting.{on_in}
use Rattle.onetree.specs.Picks.{touching}
use Rattle.onetree.proofs.picks.Swapping.touching.Goals as goal

pub returns-then-is_end : goal.returns-then-is_end
unfolding touching
returns-then-is_end c =
    let g = c.args.self.now.tree.graph.now in
    let e : on_in g.a g.b (get_or g.a c.args.k 0) c.args.i ≡ true = sym c.is_end.ensures ∙ c.if-is_end.true in
    rw (c.if-is_end.true, e) refl

pub returns-else-is_end : goal.returns-else-is_end
unfolding touching
returns-else-is_end c =
    let g = c.args.self.now.tree.graph.now in
    let e : on_in g.a g.b (get_or g.a c.args.k 0) c.args.i ≡ false = sym c.is_end.ensures ∙ c.if-is_end.false in
    rw e c.is_end-else-is_end.ensures
