-- WITH LIFTING AND WITHOUT, by computation (document 02, C-13): on document 01's sea (1-2:4 1-3:3 1-4:5 2-3:2 2-4:6 3-4:1), under zero multipliers
-- and the ceiling 12, what the opening of the first node comes to: without lifting leg 1 is free after the pass, with it it is required. Assumes
-- nothing.
use Rattle.std.specs.Prelude.{◌≡◌, refl, [], ◌∷◌, ℕ, pos}
use Rattle.graph.specs.declared.Graph.{Graph}
use Rattle.graph.specs.Network.{free, required, excluded, mark_of, network}
use Rattle.thinning.specs.Ranks.{rank}
use Rattle.afloat.specs.Over.{ashore}
use Rattle.machine.specs.Outcomes.{splits}
use Rattle.machine.specs.Machine.{Marks, Node, node_of, marks_of, Opening, Opened, tidy, open_node}

unfoldable pub four : Graph
four =
    record {
      n = 4;
      m = 6;
      a = 1 ∷ 1 ∷ 1 ∷ 2 ∷ 2 ∷ 3 ∷ [];
      b = 2 ∷ 3 ∷ 4 ∷ 3 ∷ 4 ∷ 4 ∷ [];
      cost = pos 4 ∷ pos 3 ∷ pos 5 ∷ pos 2 ∷ pos 6 ∷ pos 1 ∷ [];
      mark = 0 ∷ 0 ∷ 0 ∷ 0 ∷ 0 ∷ 0 ∷ [];
    }

-- the opening of it, with this number for lifting
unfoldable pub asked : ℕ → Opening
unfolding four
asked lifting =
    record {
      graph = four;
      multipliers = pos 0 ∷ pos 0 ∷ pos 0 ∷ pos 0 ∷ [];
      ashore = 0 ∷ 0 ∷ 0 ∷ 0 ∷ [];
      settings = record { ceiling = pos 12; sweeps = 0; step = 0; denominator = 1; lifting = lifting };
    }

-- the node with these marks
abbrev pub zeroed : Marks → Node
zeroed x = node_of (pos 0 ∷ pos 0 ∷ pos 0 ∷ pos 0 ∷ []) x

-- its first node, opened
unfoldable pub first_opened : ℕ → Opened
unfolding asked open_node marks_of network mark_of ashore rank
first_opened lifting = open_node (asked lifting) (pos 12) (zeroed (marks_of (network four)))

-- legs 4 and 6 are forced and leg 5 is barred, and leg 1 is the lowest-numbered free leg
pub without : first_opened 0
    ≡ splits (zeroed (excluded ∷ free ∷ free ∷ required ∷ excluded ∷ required ∷ []))
    (zeroed (required ∷ free ∷ free ∷ required ∷ excluded ∷ required ∷ []))
unfolding first_opened
without = refl

-- leg 1 is forced too, and the lowest-numbered free leg is leg 2
pub with_lifting : first_opened 1
    ≡ splits (zeroed (required ∷ excluded ∷ free ∷ required ∷ excluded ∷ required ∷ []))
    (zeroed (required ∷ required ∷ free ∷ required ∷ excluded ∷ required ∷ []))
unfolding first_opened
with_lifting = refl

-- any other number says yes too, and the state has 1 for it
pub says_yes : (first_opened 7 ≡ first_opened 1) × (tidy (asked 7).settings ≡ (asked 1).settings)
unfolding first_opened asked tidy
says_yes = (refl, refl)
