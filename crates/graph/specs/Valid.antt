-- Document 01's 'Legs and marks': as plain statements, `Valid`, and as a test that computes, `valid`. Meaning.antt shows that they are one.
-- Edge k of the document stands at place k − 1. Definitions only.
use Rattle.std.specs.Prelude.{ℕ, zero, suc, ◌<◌, ◌≤◌, ◌≡◌, Bool, true, false, not, cond, ◌&&◌, ◌||◌, List, get_or, ltb, leb, eqb, ℤ, pos}
use Rattle.integers.specs.Range.{within}
use Rattle.graph.specs.declared.Graph.{Graph}
use Rattle.graph.specs.Limits.{min_vertices, max_vertices, max_edges, max_cost, max_mark}

-- the graph value with these fields, for code that is lent its arrays
abbrev pub graph_of : ℕ → ℕ → List ℕ → List ℕ → List ℤ → List ℕ → Graph
graph_of n m a b cost mark = record { n = n; m = m; a = a; b = b; cost = cost; mark = mark }

-- ---- as statements

-- "A leg joins a and b, 1 ≤ a < b ≤ n"; "Its cost is a whole number of minutes over the timetable", in the range of document 02, C-14; "Its
-- mark is 0 free, 1 required or 2 struck."
pub record EdgeValid (n a b : ℕ) (cost : ℤ) (mark : ℕ) : Type 0 where
  pub from : 1 ≤ a
  pub less : a < b
  pub to : b ≤ n
  pub range : within max_cost cost ≡ true
  pub known : mark ≤ max_mark

-- of the edge at place k
abbrev pub EdgeAt : Graph → ℕ → Type 0
EdgeAt g k = EdgeValid g.n (get_or g.a k 0) (get_or g.b k 0) (get_or g.cost k (pos 0)) (get_or g.mark k 0)

-- the edges at places j and k join one pair
pub record SamePair (g : Graph) (j k : ℕ) : Type 0 where
  pub a : get_or g.a j 0 ≡ get_or g.a k 0
  pub b : get_or g.b j 0 ≡ get_or g.b k 0

-- "A chart has n buoys, 1 to n, n from 3 to 20, and m legs, 0 to 190, numbered 1 to m", each as above, "no pair twice".
pub record Valid (g : Graph) : Type 0 where
  pub low : min_vertices ≤ g.n
  pub high : g.n ≤ max_vertices
  pub few : g.m ≤ max_edges
  pub each : (k : ℕ) → k < g.m → EdgeAt g k
  pub once : (j k : ℕ) → j < k → k < g.m → SamePair g j k → ⊥

-- ---- as a test

-- 1 ≤ x < y ≤ n
unfoldable pub ends_ok : ℕ → ℕ → ℕ → Bool
ends_ok n x y = leb 1 x && (ltb x y && leb y n)

-- the ends x, y, the cost z and the mark w of one edge
unfoldable pub edge_ok : ℕ → ℕ → ℕ → ℤ → ℕ → Bool
edge_ok n x y z w = ends_ok n x y && (within max_cost z && leb w max_mark)

-- the pair x, y is among the first k
unfoldable pub pair_met : List ℕ → List ℕ → ℕ → ℕ → ℕ → Bool
pair_met a b zero x y = false
pair_met a b (suc k) x y = pair_met a b k x y || (eqb (get_or a k 0) x && eqb (get_or b k 0) y)

-- the first k edges, each against those before it
unfoldable pub edges_ok : Graph → ℕ → Bool
edges_ok g zero = true
edges_ok g (suc k) =
    edges_ok g k
    && (edge_ok g.n (get_or g.a k 0) (get_or g.b k 0) (get_or g.cost k (pos 0)) (get_or g.mark k 0)
    && not (pair_met g.a g.b k (get_or g.a k 0) (get_or g.b k 0)))

unfoldable pub valid : Graph → Bool
valid g = leb min_vertices g.n && (leb g.n max_vertices && (leb g.m max_edges && edges_ok g g.m))

-- "15 a chart value that breaks 'Legs and marks'"
abbrev pub graph_fault : Graph → ℕ
graph_fault g = cond (not (valid g)) 15 0
