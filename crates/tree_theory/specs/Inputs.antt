-- What the calls take beside a graph: multipliers, a ceiling and a denominator, and when refusals 15, 11, 12, 13 and 32 apply. (Document 01's
-- word: dues.)
use Rattle.std.specs.Prelude.{Bool, not, cond, ◌&&◌, List, ◌∷◌, ℕ, zero, suc, leb, eqb, length, get_or, ℤ, pos}
use Rattle.lists.specs.All.{every_of}
use Rattle.integers.specs.Range.{within}
use Rattle.graph.specs.declared.Graph.{Graph}
use Rattle.graph.specs.Limits.{max_multiplier, max_ceiling, max_denominator}
use Rattle.graph.specs.Valid.{valid}

-- "Dues d(1) to d(n)", a list of n numbers: d(v) stands at place v − 1
unfoldable pub multiplier : List ℤ → ℕ → ℤ
multiplier d v = get_or (pos 0 ∷ d) v (pos 0)

-- "whole numbers, −1,000,000 to 1,000,000, with d(1) = 0"; otherwise "12 a due out of range or d(1) not 0"
unfoldable pub multipliers_fit : List ℤ → Bool
unfolding every_of within multiplier
multipliers_fit d = every_of (within max_multiplier) d && within 0 (multiplier d 1)

-- document 02, C-14: "the ceiling from −5,000,000,000 to 5,000,000,000"; otherwise "13 ceiling"
unfoldable pub ceiling_fits : ℤ → Bool
unfolding within
ceiling_fits ceiling = within max_ceiling ceiling

-- C-17: "a denominator q, 1 to 1,000"; otherwise "32 when q is out of range". 0 is no fault
unfoldable pub denominator_fits : ℕ → Bool
denominator_fits q = leb 1 q && leb q max_denominator

unfoldable pub denominator_fault : ℕ → ℕ
denominator_fault q = cond (not (denominator_fits q)) 32 0

-- the first of two faults
abbrev pub or_else : ℕ → ℕ → ℕ
or_else zero f = f
or_else (suc e) f = suc e

-- "Other calls, those that apply, in this order: 15 a chart value that breaks 'Legs and marks'; 11 a list of wrong length (dues n, tree,
-- rulings and round m, ..); 12 a due out of range or d(1) not 0"; then what is left to test. 0 is no fault; len is the lent list's length
unfoldable pub input_fault : Graph → List ℤ → ℕ → ℕ → ℕ
input_fault g d len left =
    cond (not (valid g)) 15
    (cond (not (eqb (length d) g.n && eqb len g.m)) 11
    (cond (not (multipliers_fit d)) 12
    left))
