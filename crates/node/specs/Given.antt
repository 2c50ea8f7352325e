-- What a node is opened with, and what of it is refused. Definitions only. (A search is opened with a list of inactive vertices too; its nodes are opened
-- on the graph of the active ones.)
use Rattle.std.specs.Prelude.{not, cond, ◌&&◌, List, ℕ, eqb, leb, length, ℤ}
use Rattle.graph.specs.declared.Graph.{Graph}
use Rattle.graph.specs.Limits.{max_sweeps, max_step}
use Rattle.graph.specs.Valid.{valid}
use Rattle.tree_theory.specs.Inputs.{multipliers_fit, ceiling_fits, denominator_fault}
use Rattle.machine.specs.declared.Settings.{Settings}

-- the graph has the node's marks, a multiplier for each of its vertices, and the ceiling of the settings is the upper bound
pub record Given : Type 0 where
  pub graph : Graph
  pub multipliers : List ℤ
  pub settings : Settings

-- "15 a chart value that breaks 'Legs and marks'; 11 a list of wrong length (dues n, ..); 12 a due out of range or d(1) not 0; 13 ceiling;
-- 14 sweeps or step"; document 02, C-17: "32 when q is out of range, tested after 14": the first that applies, or 0
unfoldable pub fault : Given → ℕ
unfolding valid multipliers_fit ceiling_fits denominator_fault
fault o =
    cond (not (valid o.graph)) 15
    (cond (not (eqb (length o.multipliers) o.graph.n)) 11
    (cond (not (multipliers_fit o.multipliers)) 12
    (cond (not (ceiling_fits o.settings.ceiling)) 13
    (cond (not (leb o.settings.sweeps max_sweeps && leb o.settings.step max_step)) 14
    (denominator_fault o.settings.denominator)))))
