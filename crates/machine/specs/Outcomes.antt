-- What opening a node comes to, and what that makes of a search. Over any nodes N and any form F in which a tour is kept, so that the
-- theorem of branch and bound speaks of no one opening. Definitions only.
use Rattle.std.specs.Prelude.{List, ◌∷◌}

pub data Outcome (N F : Type 0) : Type 0 where
  -- "the node closes"
  closes : Outcome N F
  -- "the tree is a round: .., the node closes"
  finds : F → Outcome N F
  -- "piles two nodes .. first .., then, on top, .."
  splits : N → N → Outcome N F

-- "the best round or none"
pub data Incumbent (F : Type 0) : Type 0 where
  no_tour : Incumbent F
  a_tour : F → Incumbent F

-- of the incumbent and a found tour the one to keep, where `pick` says which of two tours that is
abbrev pub best_of : {F : Type 0} → (F → F → F) → Incumbent F → F → Incumbent F
best_of pick no_tour f = a_tour f
best_of pick (a_tour b) f = a_tour (pick b f)

module _ {N F : Type 0} where
  -- the stack, its top first, once the top node is opened: xs are the nodes below it
  abbrev pub next_stack : List N → Outcome N F → List N
  next_stack xs closes = xs
  next_stack xs (finds f) = xs
  next_stack xs (splits out into) = into ∷ out ∷ xs

  abbrev pub next_incumbent : (F → F → F) → Incumbent F → Outcome N F → Incumbent F
  next_incumbent pick best closes = best
  next_incumbent pick best (finds f) = best_of pick best f
  next_incumbent pick best (splits out into) = best

  -- the upper bound; a found tour lowers it
  abbrev pub next_upper : {U : Type 0} → (F → U) → U → Outcome N F → U
  next_upper lowered upper closes = upper
  next_upper lowered upper (finds f) = lowered f
  next_upper lowered upper (splits out into) = upper
