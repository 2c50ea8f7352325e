-- What `?` knows of a refusal unless a test fits: that it does not, and which refusal it is. Assumes nothing.
use Rattle.std.specs.Prelude.{◌≡◌, refl, Bool, true, false, cond, Option, Some, None, Err}
use Rattle.std.specs.Option.{ok_or}
use Rattle.graph.specs.declared.refusals.Refusal.{Refusal}
use Rattle.graph.specs.Refusals.{number, not-zero, number-injective}

pub unless_refused : (fits : Bool) (q r : Refusal) → number r ≡ cond fits 0 (number q) → (fits ≡ false) × (r ≡ q)
unless_refused true q r e = absurd (not-zero r e)
unless_refused false q r e = (refl, number-injective r q e)

-- and of a value that has to be there
pub lacks_value : {T : Type 0} (o : Option T) (q r : Refusal) → Err r ≡ ok_or o q → (o ≡ None) × (r ≡ q)
lacks_value (Some x) q r e = cc
lacks_value None q r e = (refl, cc)
