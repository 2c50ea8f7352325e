-- A trimmed graph, arrays of 190 places and zero past m, has the same network and is as valid as the graph that was trimmed. So the state
-- may hold it in place of the graph given at opening, and then holds nothing that counts for nothing. Assumes nothing.
use Rattle.std.specs.Prelude.{◌≡◌, ◌↔◌, List, ℕ, zero, suc, ◌<◌, ◌≤◌, length, get_or, pos}
use Rattle.std.proofs.Common.{sym, ◌∙◌, subst, arith, ext_get_or}
use Rattle.std.proofs.Math.Decide.{dec_le}
use Rattle.std.proofs.Math.ListN.{get_or-eq_default}
use Rattle.lists.specs.Rows.{row, row-size, row_at}
use Rattle.graph.specs.declared.Graph.{Graph}
use Rattle.graph.specs.Limits.{max_edges}
use Rattle.graph.specs.Network.{mark_of, place, network}
use Rattle.graph.specs.Places.{place_at, place_zero, place_past}
use Rattle.graph.specs.Valid.{Valid, EdgeValid, EdgeAt, SamePair}
use Rattle.graph.specs.Same.{Clear}
use Rattle.machine.specs.Machine.{trimmed}

-- ---- one array

module _ {A : Type 0} (z : A) (m : ℕ) (l : List A) where
  trim_at : m ≤ max_edges → (k : ℕ) → k < m → get_or (row max_edges (place z m l)) k z ≡ get_or l k z
  trim_at h k i = row_at max_edges (place z m l) k z (omega arith) ∙ place_at z m l k i

  trim_past : (k : ℕ) → m ≤ k → get_or (row max_edges (place z m l)) k z ≡ z
  trim_past k h = go (dec_le (suc k) max_edges)
    where
      go : Dec (k < max_edges) → get_or (row max_edges (place z m l)) k z ≡ z
      go (yes i) = row_at max_edges (place z m l) k z i ∙ place_past z m l k h
      go (no i) =
          get_or-eq_default (row max_edges (place z m l)) z (omega (arith, row-size max_edges (place z m l)))

  trim_place : m ≤ max_edges → (k : ℕ) → place z m (row max_edges (place z m l)) k ≡ place z m l k
  trim_place h zero = place_zero z m (row max_edges (place z m l)) ∙ sym (place_zero z m l)
  trim_place h (suc k) = go (dec_le (suc k) m)
    where
      go : Dec (k < m) → place z m (row max_edges (place z m l)) (suc k) ≡ place z m l (suc k)
      go (yes i) = place_at z m (row max_edges (place z m l)) k i ∙ trim_at h k i ∙ sym (place_at z m l k i)
      go (no i) = place_past z m (row max_edges (place z m l)) k (omega arith) ∙ sym (place_past z m l k (omega arith))

  -- an array that was so before is left as it is
  trim_same : length l ≡ max_edges → ((k : ℕ) → m ≤ k → get_or l k z ≡ z) → row max_edges (place z m l) ≡ l
  trim_same e h =
      ext_get_or z (row max_edges (place z m l)) l (row-size max_edges (place z m l) ∙ sym e)
      (λ k i. at k (omega (arith, row-size max_edges (place z m l))) (dec_le (suc k) m))
    where
      at : (k : ℕ) → k < max_edges → Dec (k < m) → get_or (row max_edges (place z m l)) k z ≡ get_or l k z
      at k i (yes j) = row_at max_edges (place z m l) k z i ∙ place_at z m l k j
      at k i (no j) = trim_past k (omega arith) ∙ sym (h k (omega arith))

-- ---- a graph

-- what a trimmed graph looks like
pub record Trim (g : Graph) : Type 0 where
  pub a : length g.a ≡ max_edges
  pub b : length g.b ≡ max_edges
  pub cost : length g.cost ≡ max_edges
  pub mark : length g.mark ≡ max_edges
  pub clear : Clear g

pub trimmed_trim : (g : Graph) → Trim (trimmed g)
unfolding trimmed
trimmed_trim g = record {
  a = row-size max_edges (place 0 g.m g.a);
  b = row-size max_edges (place 0 g.m g.b);
  cost = row-size max_edges (place (pos 0) g.m g.cost);
  mark = row-size max_edges (place 0 g.m g.mark);
  clear = record {
    a = trim_past 0 g.m g.a;
    b = trim_past 0 g.m g.b;
    cost = trim_past (pos 0) g.m g.cost;
    mark = trim_past 0 g.m g.mark;
  };
}

pub trim_trimmed : (g : Graph) → Trim g → trimmed g ≡ g
unfolding trimmed
trim_trimmed g t = λ i. record {
  n = g.n;
  m = g.m;
  a = trim_same 0 g.m g.a t.a t.clear.a i;
  b = trim_same 0 g.m g.b t.b t.clear.b i;
  cost = trim_same (pos 0) g.m g.cost t.cost t.clear.cost i;
  mark = trim_same 0 g.m g.mark t.mark t.clear.mark i;
}

-- the network is the same
pub network-trimmed : (g : Graph) → g.m ≤ max_edges → network (trimmed g) ≡ network g
unfolding trimmed network
network-trimmed g h = λ i. record {
  n = g.n;
  m = g.m;
  a = λ k. trim_place 0 g.m g.a h k i;
  b = λ k. trim_place 0 g.m g.b h k i;
  cost = λ k. trim_place (pos 0) g.m g.cost h k i;
  mark = λ k. mark_of (trim_place 0 g.m g.mark h k i);
}

-- and so is validity
module _ (g : Graph) (few : g.m ≤ max_edges) where
  at_a_lem : (k : ℕ) → k < g.m → get_or (trimmed g).a k 0 ≡ get_or g.a k 0
  unfolding trimmed
  at_a_lem = trim_at 0 g.m g.a few

  at_b : (k : ℕ) → k < g.m → get_or (trimmed g).b k 0 ≡ get_or g.b k 0
  unfolding trimmed
  at_b = trim_at 0 g.m g.b few

  at-cost : (k : ℕ) → k < g.m → get_or (trimmed g).cost k (pos 0) ≡ get_or g.cost k (pos 0)
  unfolding trimmed
  at-cost = trim_at (pos 0) g.m g.cost few

  at_mark : (k : ℕ) → k < g.m → get_or (trimmed g).mark k 0 ≡ get_or g.mark k 0
  unfolding trimmed
  at_mark = trim_at 0 g.m g.mark few

  edge_trimmed : (k : ℕ) → k < g.m → EdgeAt (trimmed g) k ≡ EdgeAt g k
  unfolding trimmed
  edge_trimmed k h = λ i. EdgeValid g.n (at_a_lem k h i) (at_b k h i) (at-cost k h i) (at_mark k h i)

  pair_trimmed : (j k : ℕ) → j < g.m → k < g.m → SamePair (trimmed g) j k ↔ SamePair g j k
  pair_trimmed j k h i = (
    (λ s. record { a = sym (at_a_lem j h) ∙ s.a ∙ at_a_lem k i; b = sym (at_b j h) ∙ s.b ∙ at_b k i }),
    λ s. record { a = at_a_lem j h ∙ s.a ∙ sym (at_a_lem k i); b = at_b j h ∙ s.b ∙ sym (at_b k i) },
  )

pub trimmed-valid : (g : Graph) → Valid g → Valid (trimmed g)
unfolding trimmed
trimmed-valid g v = record {
  low = v.low;
  high = v.high;
  few = v.few;
  each = λ k h. subst (λ (P : Type 0). P) (sym (edge_trimmed g v.few k h)) (v.each k h);
  once = λ j k l h s. v.once j k l h ((pair_trimmed g v.few j k (omega arith) h).0 s);
}

pub valid-trimmed : (g : Graph) → Valid (trimmed g) → Valid g
unfolding trimmed
valid-trimmed g v = record {
  low = v.low;
  high = v.high;
  few = v.few;
  each = λ k h. subst (λ (P : Type 0). P) (edge_trimmed g v.few k h) (v.each k h);
  once = λ j k l h s. v.once j k l h ((pair_trimmed g v.few j k (omega arith) h).1 s);
}
