-- When two graph values stand for one chart, and when a value has nothing past its edges. Definitions only.
use Rattle.std.specs.Prelude.{ℕ, ◌<◌, ◌≤◌, ◌≡◌, get_or, pos}
use Rattle.graph.specs.declared.Graph.{Graph}

-- "Two charts are the same when n, m and legs 1 to m agree; places past m count for nothing."
pub record SameGraph (g h : Graph) : Type 0 where
  pub n : g.n ≡ h.n
  pub m : g.m ≡ h.m
  pub a : (k : ℕ) → k < g.m → get_or g.a k 0 ≡ get_or h.a k 0
  pub b : (k : ℕ) → k < g.m → get_or g.b k 0 ≡ get_or h.b k 0
  pub cost : (k : ℕ) → k < g.m → get_or g.cost k (pos 0) ≡ get_or h.cost k (pos 0)
  pub mark : (k : ℕ) → k < g.m → get_or g.mark k 0 ≡ get_or h.mark k 0

-- zero at every place past m: what reading leaves there
pub record Clear (g : Graph) : Type 0 where
  pub a : (k : ℕ) → g.m ≤ k → get_or g.a k 0 ≡ 0
  pub b : (k : ℕ) → g.m ≤ k → get_or g.b k 0 ≡ 0
  pub cost : (k : ℕ) → g.m ≤ k → get_or g.cost k (pos 0) ≡ pos 0
  pub mark : (k : ℕ) → g.m ≤ k → get_or g.mark k 0 ≡ 0
