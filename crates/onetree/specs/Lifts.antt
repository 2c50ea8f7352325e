-- What lifting makes of a kept edge, in the code's numbers. Assumes nothing.
use Rattle.std.specs.Prelude.{◌≡◌, Bool, cond, List, ℕ, ◌<◌, ◌≤◌, get_or, eqb, length}
use Rattle.graph.specs.Limits.{max_edges}
use Rattle.tree_theory.specs.Inputs.{multiplier}
use Rattle.tree_theory.specs.Multipliers.{Ranged}
use Rattle.greedy.specs.Charged.{no_charge, max_slack}
use Rattle.lifting.specs.Found.{key_of, cost_of}
use Rattle.lifting.specs.Meeting.{on_in}
use Rattle.lifting.specs.Verdict.{end_move, room_of, decides}
use Rattle.onetree.specs.declared.picks.Pick.{Pick}
use Rattle.onetree.specs.declared.lifts.Lifting.{Lifting}
use Rattle.onetree.specs.Picks.{no_pick}

-- the least costs that hold an end's move
abbrev pub lows_of : Lifting → Bool → List ℕ
lows_of l inside = cond inside l.fall.now l.rise.now

-- how far the end i moves of an edge with this best
unfoldable pub shift_by : Lifting → Bool → ℕ → ℕ → Pick → ℕ → ℕ
unfolding end_move room_of
shift_by l inside i j p at =
    end_move inside i j (on_in l.tree.graph.now.a l.tree.graph.now.b i p.place) (get_or l.degrees.now i 0) (room_of inside (multiplier l.multipliers.now i))
    (get_or (lows_of l inside) i 0) p.top at

-- whether the edge at place k is decided
unfoldable pub tried_by : Lifting → Bool → ℕ → Bool
unfolding decides shift_by cost_of
tried_by l inside k =
    let g = l.tree.graph.now in
    let p = get_or l.picks.now k no_pick in
    decides inside l.slack (cost_of no_charge (key_of no_charge inside (get_or l.tree.lists.now.charges k 0)) p.top)
    (shift_by l inside (get_or g.a k 0) (get_or g.b k 0) p p.at_a) (get_or l.degrees.now (get_or g.a k 0) 0)
    (shift_by l inside (get_or g.b k 0) (get_or g.a k 0) p p.at_b) (get_or l.degrees.now (get_or g.b k 0) 0)

-- its byte: forced in the tree, barred outside it, or kept
unfoldable pub lifted_byte : Lifting → ℕ → ℕ
unfolding tried_by
lifted_byte l k = cond (tried_by l (eqb (get_or l.tree.lists.now.tree k 0) 1) k) (cond (eqb (get_or l.tree.lists.now.tree k 0) 1) 1 2) 0

-- where the ordinary ruling has the byte `old`: only what it keeps is tried
unfoldable pub lifted_at : Lifting → ℕ → ℕ → ℕ
unfolding lifted_byte
lifted_at l old k = cond (eqb old 0) (lifted_byte l k) old

-- what keeps the numbers in their words
pub record Fitting (l : Lifting) : Type 0 where
  pub charges : (k : ℕ) → k < l.tree.graph.now.m → get_or l.tree.lists.now.charges k 0 ≤ no_charge
  pub places : (k : ℕ) → (get_or l.picks.now k no_pick).place < max_edges
  pub near : l.slack ≤ max_slack
  pub ranged : Ranged l.multipliers.now
  pub size : length l.multipliers.now ≡ l.tree.graph.now.n
