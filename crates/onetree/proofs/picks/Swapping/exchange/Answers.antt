-- By whether they have a vertex in common.
use Rattle.std.proofs.Common.{◌∙◌, sym, refl}
use Rattle.onetree.specs.Picks.{offered, passed, passed_inner, passed_outer}
use Rattle.onetree.proofs.picks.Swapping.exchange.Goals as goal

pub returns-then-touching : goal.returns-then-touching
unfolding offered
returns-then-touching c = (
  rw (c.meet_at.ensures, c.meet.ensures, c.key-x.ensures, c.is_end.ensures, c.is_end-then-touching.ensures) refl,
  rw (c.meet_at-then-touching.ensures, c.meet-2.ensures, c.key-y.ensures, c.is_end-then-touching-2.ensures, c.is_end-then-touching-3.ensures) refl,
)

pub returns-else-touching : goal.returns-else-touching
unfolding passed
returns-else-touching c =
    let apart = sym c.touching.ensures ∙ c.if-touching.false in (
      rw (c.meet.ensures, c.key-x.ensures) (passed_inner _ _ _ apart _),
      rw (c.meet-2.ensures, c.key-y.ensures) (passed_outer _ _ _ apart _),
    )
