-- A neighbour to hang, or one that hangs already. The row's last place has a zero, so a place that has none is before it.
use Rattle.std.proofs.Common.{◌≡◌, ◌≢◌, ◌∙◌, ◌+◌, ◌-◌, ◌≤◌, ℕ, List, ap, refl, get_or, arith}
use Rattle.std.proofs.Math.Decide.{ℕ_discrete}
use Rattle.swaps.specs.Visiting.{row_of, opposite, visited_on, visited_room, visited_hang}
use Rattle.onetree.proofs.rooted.Rooting.visit.Goals.{After-from-in-loop-e}
use Rattle.onetree.proofs.rooted.Rooting.visit.Goals as goal
use Rattle.onetree.proofs.rooted.Rooting.visit.Goals.{then-self-y-eq0, else-self-y-eq0}

before_last : (row : List ℕ) (i : ℕ) → get_or row 19 0 ≡ 0 → get_or row i 0 ≢ 0 → i ≤ 19 → i + 1 ≤ 19
before_last row i stop f l = go (ℕ_discrete i 19)
  where
    go : Dec (i ≡ 19) → i + 1 ≤ 19
    go (yes e) = absurd (f (ap (λ (z : ℕ). get_or row z 0) e ∙ stop))
    go (no e) = omega arith

-- the neighbour is the other end of the edge
other : (c : After-from-in-loop-e) → (c.from.result + c.from-in-loop-e.result) - c.args.x
    ≡ opposite c.args.ends.now.from c.args.ends.now.to c.args.x (get_or (row_of c.args.listed.now.rows c.args.x) c.loop-e.e-index 0 - 1)
other c = rw (c.from.ensures, c.from-in-loop-e.ensures, c.from-k.ensures) refl

pub push-requires : goal.push-requires
push-requires c = (
  omega arith,
  visited_room _ _ _ _ _ _ _ c.requires _ _ _ c.loop-e.e-index c.loop-e.invariant.1 c.if-e-eq0.false _ (other (goal.at.push-requires c).After-from-in-loop-e) c.if-self-y-eq0.true,
)

pub loop-e-preserved : goal.loop-e-preserved
loop-e-preserved c =
    let i = c.loop-e.invariant in
    let y = other (goal.at.loop-e-preserved c).After-from-in-loop-e in (
      before_last _ c.loop-e.e-index c.requires.stops c.if-e-eq0.false i.0,
      elim c.if-self-y-eq0.branch [
        | then-self-y-eq0 w ↦ rw (w.self-is, w.push.ensures.len, w.push.ensures.items) (visited_hang _ _ _ _ _ _ _ c.requires _ _ _ c.loop-e.e-index i.1 c.if-e-eq0.false _ y w.if-self-y-eq0.true
            (c.from-k.result - 1) (rw c.from-k.ensures refl))
        | else-self-y-eq0 w ↦ rw w.self-is (visited_on _ _ _ _ _ _ _ c.requires _ _ _ c.loop-e.e-index i.1 (rw (← y) (omega (arith, w.if-self-y-eq0.false))))
      ],
    )
