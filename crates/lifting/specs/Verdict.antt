-- The numbers by which lifting rules an edge that the ordinary pass keeps. (That these decide: proofs/Verdict.) Assumes nothing.
use Rattle.std.specs.Prelude.{Bool, not, cond, ◌||◌, ℕ, ◌+◌, ◌*◌, ◌-◌, eqb, leb, ltb, ℤ}
use Rattle.std.proofs.Math.Bool.{true, false}
use Rattle.integers.specs.Parts.{up, dn}
use Rattle.graph.specs.Limits.{max_multiplier}
use Rattle.lifting.specs.Found.{move_of}

-- ---- what code works with

-- an end does not move: it is vertex 1, or on the edge that changes places, or its degree forbids it
unfoldable pub still_of : Bool → ℕ → Bool → ℕ → Bool
still_of inside i touching deg = eqb i 1 || (touching || cond inside (not (leb deg 2)) (not (leb 2 deg)))

-- how far one end moves; j is the other end
unfoldable pub end_move : Bool → ℕ → ℕ → Bool → ℕ → ℕ → ℕ → ℕ → ℕ → ℕ
unfolding still_of move_of
end_move inside i j touching deg room low top at = cond (still_of inside i touching deg) 0 (move_of j room low top at)

-- how far a multiplier is from the end of its range: of the upper one outside the tree, and in it of the lower one
unfoldable pub room_of : Bool → ℤ → ℕ
room_of true z = (max_multiplier + up z) - dn z
room_of false z = (max_multiplier + dn z) - up z

-- the sum is above the slack
unfoldable pub decides : Bool → ℕ → ℕ → ℕ → ℕ → ℕ → ℕ → Bool
decides true slack cost x da y db = ltb (slack + (x * da + y * db)) (cost + (3 * x + 3 * y))
decides false slack cost x da y db = ltb (slack + (x + y)) (cost + (x * da + y * db))
