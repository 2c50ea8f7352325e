-- What is seen of the places (`state_in` of crate search), and what the parts of the code give. Definitions only; Cases has what follows of the
-- dispatcher.
use Rattle.std.specs.Prelude.{◌≡◌, Bool, true, false, cond, List, map, ℕ, eqb, length, Result, Ok, Err}
use Rattle.std.specs.List.{list_any, All}
use Rattle.graph.specs.declared.refusals.Refusal.{Refusal}
use Rattle.graph.specs.declared.refusals.Refusal.TheVariants.{Record}
use Rattle.machine.specs.Machine.{State}
use Rattle.lent_records.specs.Places.{under}
use Rattle.search.specs.Seen.{Again}
use Rattle.search.specs.Seen.{state_in as seen_in}
use Rattle.search.specs.declared.State.{State as Seen}
use Rattle.search.specs.declared.State.TheVariants.{Broken}
use Rattle.search_records.specs.Seen.{kind}
use Rattle.dispatch_theory.specs.Dispatcher as theory
use Rattle.dispatch_theory.specs.Dispatcher.{place_fault}
use Rattle.dispatch_theory.specs.Records.{decode_all, check_all}
use Rattle.dispatcher.specs.Searches.{machine, held, made, codec}
use Rattle.dispatcher.specs.Replies.{form}
use Rattle.dispatcher.specs.declared.Dispatcher.{Dispatcher}

-- is the place seen to hold this?
abbrev pub is_at : List Seen → Seen → ℕ → Bool
is_at seen wanted i = eqb (kind (under Broken seen i)) (kind wanted)

-- is one broken?
abbrev pub any_seen_broken : List Seen → Bool
any_seen_broken seen = list_any (λ x. eqb (kind x) 0) seen

-- eight places, each with such a record
pub record Laid (d : Dispatcher) : Type 0 where
  pub eight : length d.places ≡ 8
  pub again : All Again d.places

-- what 24 tests
abbrev pub passes : Dispatcher → Bool
passes d = check_all held made codec form d

-- the state that a dispatcher holds
abbrev pub state : Dispatcher → theory.Dispatcher State
state d = decode_all held made codec form d

-- all eight places, seen one by one; or 24
abbrev pub Surveys : Dispatcher → Result (List Seen) Refusal → Type 0
Surveys d (Ok seen) = (passes d ≡ true) × (seen ≡ map seen_in d.places)
Surveys d (Err r) = (passes d ≡ false) × (r ≡ Record)

-- the first of 24, 42 and 20 that applies to a place to tell, show or close; or 0
unfoldable pub held_fault : Dispatcher → ℕ → ℕ
unfolding place_fault decode_all check_all
held_fault d i = cond (passes d) (place_fault machine held made (state d) i) 24
