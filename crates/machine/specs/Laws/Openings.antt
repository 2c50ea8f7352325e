-- A row keeps the edges of a set. (THE THREE LAWS of branch and bound, which document 01's opening of a node obeys: proofs/OpeningLaws.)
use Rattle.std.specs.Prelude.{◌≡◌, ◌∷◌, get_or}
use Rattle.std.proofs.Math.Path.{sym, subst}
use Rattle.std.proofs.Math.Bool.{false}
use Prim.Native.Nat.{ℕ, suc, ◌<◌}
use Rattle.lists.specs.Rows.{row, row_at}
use Rattle.tree_theory.specs.OneTree.{Edges}
use Rattle.tree_theory.specs.Agree.{Agree}
use Rattle.tree_theory.specs.Arrays.{edge_of}
use Rattle.machine.specs.Machine.{edges_of}

-- a row keeps the edges of a set
pub row_edges : (m : ℕ) (t : Edges) → Agree m (edges_of (row m t)) t
unfolding edges_of
row_edges m t k h = go k (edge_of m k h)
  where
    go : (k : ℕ) → (j : ℕ) × (j < m) × (k ≡ suc j) → get_or (false ∷ row m t) k false ≡ t k
    go k r = subst (λ (i : ℕ). get_or (false ∷ row m t) i false ≡ t i) (sym r.2) (row_at m t r.0 false r.1)
