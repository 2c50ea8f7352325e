-- The flags, then the places that must be zero, then the fields: of a search, or of a fresh record.
use Rattle.std.proofs.Common.{sym, ◌∙◌, true≢false, arith, eq-eqb, ne_eqb}
use Rattle.lists.specs.Bools.{says_yes, says_no}
use Rattle.search.specs.Check.{check_no}
use Rattle.search.specs.Checks.Loops.{says-stands}
use Rattle.search.specs.Inverse.{typed_of, typed_idle}
use Rattle.search.specs.declared.Search.{Search}
use Rattle.search.proofs.Search.is_sound.Goals as goal
use Rattle.search.proofs.Search.is_sound.Goals.{then-self-gt1-via-then-self-gt1, then-self-gt1-via-else-self-gt1+then-self-gt1-2, then-self-gt1-via-else-self-gt1+else-self-gt1-2+then-not-is_tidy}

pub returns-then-self-gt1-clause-checked : goal.returns-then-self-gt1-clause-checked
returns-then-self-gt1-clause-checked c =
    let s : Search = c.args.self.now in
    sym (check_no s (λ h. elim c.then-self-gt1.branch [
      | then-self-gt1-via-then-self-gt1 w ↦ omega (arith, h.flags.«open», w.if-self-gt1.true)
      | then-self-gt1-via-else-self-gt1+then-self-gt1-2 w ↦ omega (arith, h.flags.best, w.if-self-gt1-2.true)
      | then-self-gt1-via-else-self-gt1+else-self-gt1-2+then-not-is_tidy w ↦ says_no w.is_tidy.result w.is_tidy.ensures.tidy w.if-not-is_tidy.true h.tidy
    ]))

pub returns-then-self-eq1-clause-checked : goal.returns-then-self-eq1-clause-checked
returns-then-self-eq1-clause-checked c =
    let s : Search = c.args.self.now in
    says-stands s c.fits.result _ (eq-eqb s.«open» 1 c.if-self-eq1.true)
    (record { «open» = c.if-self-gt1.false; best = c.if-self-gt1-2.false })
    (says_yes c.is_tidy.result c.is_tidy.ensures.tidy c.if-not-is_tidy.false) c.fits.ensures.fits

pub returns-clause-checked : goal.returns-clause-checked
returns-clause-checked c =
    let s : Search = c.args.self.now in
    says-stands s c.is_idle.result _ (ne_eqb s.«open» 1 c.if-self-eq1.false)
    (record { «open» = c.if-self-gt1.false; best = c.if-self-gt1-2.false })
    (says_yes c.is_tidy.result c.is_tidy.ensures.tidy c.if-not-is_tidy.false) c.is_idle.ensures

-- a record that passes was looked at whole
pub returns-then-self-gt1-clause-typed : goal.returns-then-self-gt1-clause-typed
returns-then-self-gt1-clause-typed c = λ e. absurd (true≢false (sym e ∙ sym (returns-then-self-gt1-clause-checked c)))

pub returns-then-self-eq1-clause-typed : goal.returns-then-self-eq1-clause-typed
returns-then-self-eq1-clause-typed c = λ e.
    typed_of c.args.self.now c.is_tidy.ensures.sized (c.fits.ensures.words (returns-then-self-eq1-clause-checked c ∙ e))

pub returns-clause-typed : goal.returns-clause-typed
returns-clause-typed c = λ e.
    let s : Search = c.args.self.now in
    let idle = says_yes c.is_idle.result c.is_idle.ensures (returns-clause-checked c ∙ e) in
    typed_idle s c.is_tidy.ensures.sized idle.depth (says_yes c.is_tidy.result c.is_tidy.ensures.tidy c.if-not-is_tidy.false).stack
