-- The mark that a ruling's byte leads to. Assumes nothing.
use Rattle.std.specs.Prelude.{◌≡◌, refl, cond, ℕ, ◌-◌, ltb}
use Rattle.tree_theory.specs.Enumeration.{Ruling, keeps, forces, bars, was_required, was_excluded}
use Rattle.onetree.specs.Answers.{ruling_byte}
use Rattle.machine.specs.Machine.{mark_by}
use Rattle.node.specs.Marks.{byte_of}

-- "0 keep, 1 force, 2 bar, 3 already required, 4 already struck": free, required, struck, required, struck
abbrev pub mark_byte : ℕ → ℕ
mark_byte b = cond (ltb 2 b) (b - 2) b

pub mark_ruling : (r : Ruling) → mark_byte (ruling_byte r) ≡ byte_of (mark_by r)
mark_ruling keeps = refl
mark_ruling forces = refl
mark_ruling bars = refl
mark_ruling was_required = refl
mark_ruling was_excluded = refl
