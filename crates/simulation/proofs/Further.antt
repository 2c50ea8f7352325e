-- Laws of the walk that no proof cites today. Assumes nothing.
use Rattle.std.specs.Prelude.{◌≡◌, true, false, List, ℕ, ◌≤◌, eqb, replicate}
use Rattle.std.proofs.Common.{arith}
use Rattle.lists.specs.Bools.{by_cases}
use Rattle.lists.specs.Fill.{replicate-at}
use Rattle.graph.specs.Network.{Network}
use Rattle.tree_theory.specs.Valid.{Valid}
use Rattle.sailing.specs.Orders.{listed, other_end}
use Rattle.sailing.specs.Walking.{listed_in, walk_same}
use Rattle.simulation.specs.Steps.{flagged, WalkedTo}

module _ (g : Network) (k u : ℕ) where
  end_inside : Valid g → listed g k ≡ true → (1 ≤ other_end g k u) × (other_end g k u ≤ g.n)
  unfolding other_end
  end_inside v h =
      let i = listed_in g k h in
      let low = v.low k i in
      let apart = v.apart k i in
      let high = v.high k i in
      by_cases (eqb (g.a k) u)
      (λ t. rw t (omega (arith, low, apart), high))
      (λ t. rw t (low, omega (arith, apart, high)))

-- nothing is come to yet
pub walk_none : (g : Network) (ks : List ℕ) (n : ℕ) → WalkedTo g ks (replicate n false) 1 0
walk_none g ks n = walk_same g ks (flagged (replicate n false)) (λ v. false) 1 (λ v. replicate-at n false v)
