-- A graph without edges: where reading starts, and what stands beside a refusal and in a fresh record. Definitions only.
use Rattle.std.specs.Prelude.{ℕ, replicate, pos}
use Rattle.graph.specs.declared.Graph.{Graph}
use Rattle.graph.specs.Limits.{max_edges}

-- n vertices and no edges, zero at every place
unfoldable pub edgeless : ℕ → Graph
edgeless n =
    record {
      n = n;
      m = 0;
      a = replicate max_edges 0;
      b = replicate max_edges 0;
      cost = replicate max_edges (pos 0);
      mark = replicate max_edges 0;
    }
