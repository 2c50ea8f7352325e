-- Tell and show leave document 01's machine as it is, and so does a refused close: what dispatch_theory asks of a machine whose searches get
-- their turns. Assumes nothing.
use Rattle.std.specs.Prelude.{◌≡◌, refl, false}
use Rattle.std.proofs.Common.{true≢false}
use Rattle.machine.specs.Machine.{State, no_search, searching}
use Rattle.machine.specs.Calls.{close, is_accepted, step}
use Rattle.machine.specs.Preserved.{tell_leaves, show_leaves}
use Rattle.dispatch_theory.specs.Fairness.{Steady}
use Rattle.dispatcher.specs.Searches.{machine, made}

refuses : (s : State) → is_accepted (step s close).answer ≡ false → (step s close).state ≡ s
unfolding step
refuses no_search h = refl
refuses (searching p) h = absurd (true≢false h)

pub steady : Steady machine made
steady = record { tells = tell_leaves; shows = show_leaves; refuses = refuses }
