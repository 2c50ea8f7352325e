-- What the search for the least 1-tree answers where the graph is lent in parts: as Least.antt says, but that the caller has a list for an answer and
-- a refusal of its own, and that the charges are blanked before all else.
--   PartsLeave             what a fault leaves, or else what the search finds
--   LeastPartsOrRefused    and which answer it is
use Rattle.std.specs.Prelude.{◌≡◌, List, ℕ, ℤ, Option, Result, Ok, Err}
use Rattle.graph.specs.declared.Graph.{Graph}
use Rattle.graph.specs.declared.Refusal.{Refusal}
use Rattle.graph.specs.Refusals.{fault_of}
use Rattle.tree_theory.specs.Inputs.{or_else, denominator_fault, input_fault}
use Rattle.tree_theory.specs.Arrays.{blank}
use Rattle.greedy.specs.declared.Lists.{Lists}
use Rattle.greedy.specs.declared.Found.{Found}
use Rattle.greedy.specs.Least.{Finds}

-- a fault changes nothing but the charges
abbrev pub PartsLeave : ℕ → Graph → List ℤ → Lists → Result (Option Found) Refusal → Lists → Type 0
PartsLeave q g d before (Err fault) after = after ≡ record before { charges = blank }
PartsLeave q g d before (Ok r) after = Finds q g d r after

-- lent is the length of the list for an answer, and later the fault that the caller has left to tell. Document 02, C-17: "32 when q is out of range" comes
-- after it
pub record LeastPartsOrRefused (q : ℕ) (g : Graph) (d : List ℤ) (lent later : ℕ) (before : Lists) (r : Result (Option Found) Refusal) (after : Lists) : Type 0 where
  pub fault : fault_of r ≡ input_fault g d lent (or_else later (denominator_fault q))
  pub leaves : PartsLeave q g d before r after
