-- What is known of the small graph that code makes of a graph g with a list l of the vertices ashore, and of its multipliers, made of d.
use Rattle.std.specs.Prelude.{◌≡◌, true, List, ℕ, ℤ, pos}
use Rattle.lists.specs.Fill.{fit}
use Rattle.graph.specs.declared.Graph.{Graph}
use Rattle.graph.specs.Limits.{max_vertices}
use Rattle.graph.specs.Valid.{Valid}
use Rattle.afloat.specs.Lists.{reduced_list}
use Rattle.afloat.specs.Over.{ashore, ashore_fits}
use Rattle.reduction.specs.declared.left.Small.{Small}
use Rattle.reduction.specs.Accepting.{MultipliersFit}
use Rattle.reduction.specs.Moved.{Moved}
use Rattle.reduction.specs.Left.{LeftOf}

pub record Made (l : List ℕ) (g : Graph) (d : List ℤ) (t : Small) : Type 0 where
  pub valid : Valid g
  pub fits : ashore_fits l g.n ≡ true
  pub multipliers : MultipliersFit g d
  pub moved : Moved (ashore l) g t.all
  pub those : LeftOf t.all t.left
  pub own : t.multipliers ≡ fit max_vertices (pos 0) (reduced_list (ashore l) g.n d)
