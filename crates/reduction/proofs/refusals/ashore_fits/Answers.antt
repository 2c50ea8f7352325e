-- The bytes by std's word for a test of every member.
use Rattle.std.proofs.Common.{◌∙◌, ℕ, sym}
use Rattle.std.specs.Prelude.{leb}
use Rattle.lists.specs.All.{every_is}
use Rattle.afloat.specs.Over.{ashore_fits}
use Rattle.reduction.specs.NoneListed.{zeros_fit}
use Rattle.reduction.proofs.refusals.ashore_fits.Goals as goal

pub returns-then-all_afloat : goal.returns-then-all_afloat
returns-then-all_afloat c = sym (zeros_fit c.args.ashore.now c.args.n (sym c.all_afloat.ensures ∙ c.if-all_afloat.true))

pub returns-then-all_bytes_fit : goal.returns-then-all_bytes_fit
unfolding ashore_fits
returns-then-all_bytes_fit c = rw (every_is {A = ℕ} (λ b. leb b 1) c.args.ashore.now ∙ sym c.all_bytes_fit.ensures ∙ c.if-all_bytes_fit.true)
    c.enough.ensures

pub returns-else-all_bytes_fit : goal.returns-else-all_bytes_fit
unfolding ashore_fits
returns-else-all_bytes_fit c = c.if-all_bytes_fit.false ∙ rw
    (every_is {A = ℕ} (λ b. leb b 1) c.args.ashore.now ∙ sym c.all_bytes_fit.ensures ∙ c.if-all_bytes_fit.false)
