-- What a graph value stands for: vertices 1 to n, edges numbered 1 to m, each with its ends, its cost and its mark.
-- Theorems speak of networks, so that none depends on how a graph is laid out. (Document 01's words: sea, buoy, leg, mark.)
use Rattle.std.specs.Prelude.{List, ◌∷◌, ℕ, zero, suc, get_or, take, ℤ, pos}
use Rattle.graph.specs.declared.Graph.{Graph}

-- "Its mark is 0 free, 1 required or 2 struck."
pub data Mark : Type 0 where
  free required excluded : Mark

-- "A chart has n buoys, 1 to n, and m legs, numbered 1 to m. A leg joins a and b."
pub record Network : Type 0 where
  pub n : ℕ
  pub m : ℕ
  pub a : ℕ → ℕ
  pub b : ℕ → ℕ
  pub cost : ℕ → ℤ
  pub mark : ℕ → Mark

-- what stands at place k of the first m of a list, places counted from 1; z at every other k: "places past m count for nothing"
unfoldable pub place : {A : Type 0} → A → ℕ → List A → ℕ → A
place z m l k = get_or (z ∷ take m l) k z

-- a mark's number; one above 2 is refused before this is asked
unfoldable pub mark_of : ℕ → Mark
mark_of zero = free
mark_of (suc zero) = required
mark_of (suc (suc k)) = excluded

-- the network of a graph value
unfoldable pub network : Graph → Network
unfolding place
network g =
    record {
      n = g.n;
      m = g.m;
      a = λ k. place 0 g.m g.a k;
      b = λ k. place 0 g.m g.b k;
      cost = λ k. place (pos 0) g.m g.cost k;
      mark = λ k. mark_of (place 0 g.m g.mark k);
    }
