-- A step of an end that is no higher than the other.
use Rattle.std.proofs.Common.{◌<◌, ℕ, length, get_or, inl, ap, ⊎_elim, arith}
use Rattle.swaps.specs.Climbing.{climb_child, climb_step, offered_lesser}
use Rattle.onetree.proofs.Cases.{max_is, min_is}
use Rattle.onetree.proofs.rooted.Rooting.climb.Goals as goal

pub loop-x-preserved : goal.loop-x-preserved
loop-x-preserved c =
    let k = c.loop-x.invariant in
    let depth = c.args.self.now.depth in
    let room : c.loop-x.x < length c.loop-x.cheapest = omega (arith, k.0.room c.loop-x.x k.1.one.1, k.1.long) in
    let lower = k.0.deep c.loop-x.x (climb_child _ k.0 _ _ _ _ _ _ _ _ _ k.1 c.if-x-y.false c.if-self-x.false) in
    let climbed : get_or depth (get_or c.args.self.now.parent c.loop-x.x 0) 0 < get_or depth c.walk.x 0 =
    ⊎_elim (λ q. omega (arith, lower, q)) (λ q. omega (arith, lower, ap (λ (v : ℕ). get_or depth v 0) q)) k.2 in
    rw (c.from-x.ensures, c.max-top.ensures, c.min.ensures) (
      k.0,
      climb_step _ k.0 _ _ _ _ _ _ _ _ _ k.1 c.if-x-y.false c.if-self-x.false _ _
          (omega arith) (omega arith) (max_is _ _) (offered_lesser _ _ _ _ room (omega arith) (omega arith) (min_is _ _)),
      inl climbed,
    )
