-- By the ordinary ruling.
use Rattle.std.proofs.Common.{◌≡◌, ◌≢◌, refl, ℕ}
use Rattle.onetree.specs.declared.rulings.Ruling.{Ruling}
use Rattle.onetree.specs.declared.rulings.Ruling.TheVariants.{Keep, Force, Bar, WasRequired, WasExcluded}
use Rattle.onetree.specs.declared.lifts.Lifting.{Lifting}
use Rattle.onetree.specs.Answers.{byte_of}
use Rattle.onetree.specs.Lifts.{lifted_at}
use Rattle.onetree.proofs.lifts.Lifting.tried.Goals as goal

stays : (l : Lifting) (k : ℕ) (r : Ruling) → r ≢ Keep → byte_of r ≡ lifted_at l (byte_of r) k
unfolding lifted_at
stays l k Keep n = absurd (n refl)
stays l k Force n = refl
stays l k Bar n = refl
stays l k WasRequired n = refl
stays l k WasExcluded n = refl

pub returns-in-Keep : goal.returns-in-Keep
unfolding lifted_at
returns-in-Keep c = rw c.in-Keep.is c.lifted.ensures

pub returns-in_default : goal.returns-in_default
returns-in_default c = stays c.args.self.now c.args.k c.args.old c.in_default.not-Keep
