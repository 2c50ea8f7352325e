-- What a pass over the active vertices leaves in a node, back in the network's numbers (`widened_opened`); and marks that leave out touched edges
-- (`Strikes`). (THE PASSES OF A NODE are those of the reduced network, and of the compact one: proofs/Passes.)
use Rattle.std.specs.Prelude.{◌≡◌, Bool, true, get_or}
use Rattle.std.proofs.Math.Path.{sym, ap}
use Rattle.std.proofs.Common.{◌∙◌, subst}
use Rattle.std.proofs.Math.Bool.{cond}
use mathlib.Core.List.{◌∷◌}
use Prim.Native.Nat.{ℕ, suc, ◌<◌}
use Rattle.lists.specs.Members.{◌∈◌}
use Rattle.lists.specs.Numbers.{up_to}
use Rattle.lists.specs.Rows.{row, row_at}
use Rattle.graph.specs.Network.{Network, Mark, free, excluded}
use Rattle.tree_theory.specs.Arrays.{edge_of}
use Rattle.machine.specs.Outcomes.{closes, finds, splits}
use Rattle.machine.specs.Machine.{Marks, Node, node_of, Opened}
use Rattle.afloat.specs.Over.{Ashore, touched, mark_over, marks_over}
use Rattle.afloat.specs.Inputs.{Inner}
use Rattle.afloat.specs.Lists.{widened}

-- a node of the reduced network, and what its opening comes to, in the network's numbers of vertices
abbrev pub widened_node : Ashore → ℕ → Node → Node
widened_node s n x = node_of (widened s n x.multipliers) x.marks

abbrev pub widened_opened : Ashore → ℕ → Opened → Opened
widened_opened s n closes = closes
widened_opened s n (finds r) = finds r
widened_opened s n (splits out into) = splits (widened_node s n out) (widened_node s n into)

-- every touched edge is excluded
abbrev pub Strikes : Ashore → Network → Marks → Type 0
Strikes s g x = (k : ℕ) → touched s g k ≡ true → get_or (free ∷ x) k free ≡ excluded

-- what a row has for an edge
pub row_mark : (m : ℕ) (x : ℕ → Mark) (k : ℕ) → k ∈ up_to m → get_or (free ∷ row m x) k free ≡ x k
row_mark m x k i = go k (edge_of m k i)
  where
    go : (k : ℕ) → (j : ℕ) × (j < m) × (k ≡ suc j) → get_or (free ∷ row m x) k free ≡ x k
    go k r = subst (λ (w : ℕ). get_or (free ∷ row m x) w free ≡ x w) (sym r.2) (row_at m x r.0 free r.1)

-- "and opening piles it so"
pub strikes_first : (s : Ashore) (g : Network) → Inner s g → Strikes s g (marks_over s g)
unfolding marks_over
strikes_first s g inner k e = row_mark g.m (mark_over s g) k (inner k e) ∙ ap (λ (b : Bool). cond b excluded (g.mark k)) e
