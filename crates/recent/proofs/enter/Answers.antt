-- The stores are those of the definition.
use Rattle.std.specs.Prelude.{◌≡◌, length, set, pos}
use Rattle.std.proofs.Common.{◌∙◌, to_z-of_z, arith, rules, get_or-set_same}
use Rattle.integers.specs.Words.{back32}
use Rattle.recent.specs.Greatest.{found}
use Rattle.recent.specs.Windows.{ring_of, stored, entered_at}
use Rattle.recent.proofs.enter.Goals.{After-enter}
use Rattle.recent.proofs.enter.Goals as goal

-- the edge's ring is the one entered
own : (c : After-enter) → ring_of (set c.args.rings.now c.args.k c.enter.new.self) c.args.k ≡ c.enter.new.self
own c =
    let size : length c.args.rings.now ≡ 190 = search (rules, c.well_formed) in
    get_or-set_same c.args.rings.now c.args.k c.enter.new.self _ (omega arith)

pub greatest-requires : goal.greatest-requires
unfolding stored
greatest-requires c =
    rw (own (goal.at.greatest-requires c).After-enter, c.enter.ensures) (omega (arith, c.requires.next), omega (arith, c.args.w.fits.1))

pub returns : goal.returns
unfolding entered_at
returns c =
    let top = back32 c.greatest.result c.greatest.type_inv ∙ found (pos 0) _ _ c.greatest.ensures.member c.greatest.ensures.most in
    rw (top, own (goal.at.returns c).After-enter, c.enter.ensures, to_z-of_z c.ranges.time)
