-- Document 02's C-11, as a definition: what a preview answers and what it leaves in the lent list, for every input. l is C-20's list of the
-- vertices that are ashore. (Its words: leg for edge, dues for multipliers, struck for excluded.)
use Rattle.std.specs.Prelude.{Bool, cond, not, ◌&&◌, ◌||◌, List, ℕ, ◌-◌, eqb, leb, length, get_or, set, ℤ}
use Rattle.graph.specs.declared.Graph.{Graph}
use Rattle.tree_theory.specs.Inputs.{or_else}
use Rattle.onetree.specs.Answers.{Reply, unless_fault, leaves}
use Rattle.reduction.specs.Answers.{tree_fault_over, tree_reply_over, tree_leaves_over}

-- "a copy of the chart with that mark": edge k's mark stands at place k − 1
unfoldable pub remarked : Graph → ℕ → ℕ → Graph
remarked g k mark = record { n = g.n; m = g.m; a = g.a; b = g.b; cost = g.cost; mark = set g.mark (k - 1) mark }

-- "the leg is .. 1 to m" and "the new mark .. 1 or 2"
abbrev pub can_be_marked : Graph → ℕ → ℕ → Bool
can_be_marked g k mark = (leb 1 k && leb k g.m) && (eqb mark 1 || eqb mark 2)

-- the edge is free in the chart itself
abbrev pub is_free_edge : Graph → ℕ → Bool
is_free_edge g k = eqb (get_or g.mark (k - 1) 0) 0

-- "30 when the leg is not 1 to m or the new mark not 1 or 2, and 31 when the leg is not free"; C-20: "the preview's 31 still goes by the mark in the
-- chart"
abbrev pub edge_fault : Graph → ℕ → ℕ → ℕ
edge_fault g k mark = cond (not (can_be_marked g k mark)) 30 (cond (not (is_free_edge g k)) 31 0)

-- "they follow 15, 11 and 12 in that order"; C-17: "32 when q is out of range, .. in the preview, before 30"; C-20: "35 .. follows 32 and, in the
-- preview, comes before 30": what the tree call refuses comes first
unfoldable pub preview_fault : Graph → List ℤ → List ℕ → ℕ → ℕ → ℕ → ℕ → ℕ
unfolding tree_fault_over
preview_fault g d l q k mark len = or_else (tree_fault_over g d l q len) (edge_fault g k mark)

-- "It answers exactly as the tree call does on a copy of the chart with that mark"
unfoldable pub preview_reply : Graph → List ℤ → List ℕ → ℕ → ℕ → ℕ → ℕ → Reply
unfolding preview_fault remarked tree_reply_over
preview_reply g d l q k mark len = unless_fault (preview_fault g d l q k mark len) (tree_reply_over (remarked g k mark) d l q len)

unfoldable pub preview_leaves : Graph → List ℤ → List ℕ → ℕ → ℕ → ℕ → List ℕ → List ℕ
unfolding preview_fault remarked tree_leaves_over
preview_leaves g d l q k mark out = leaves (preview_fault g d l q k mark (length out)) out (tree_leaves_over (remarked g k mark) d l q out)
