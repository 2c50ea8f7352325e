-- A graph with zeros in the place of what stands past its edges is the trimmed graph. Assumes nothing.
use Rattle.std.specs.Prelude.{◌≡◌, List, ℕ, suc, ◌-◌, ◌≤◌, ◌<◌, ◌++◌, length, get_or, take, drop, replicate, ℤ, pos}
use Rattle.std.proofs.Common.{sym, ap, ◌∙◌, arith, ext_get_or, get_or-take}
use Rattle.std.proofs.Math.Decide.{dec_le}
use Rattle.std.proofs.lemmas.List.{length-append, length-take, length-drop, length-replicate, get_or-append_right}
use Rattle.std.proofs.Math.ListN.{get_or-append}
use Rattle.machine.specs.Machine.{trimmed}
use Rattle.lists.specs.Fill.{replicate-at}
use Rattle.lists.specs.Rows.{row, row-size, row_at}
use Rattle.graph.specs.declared.Graph.{Graph}
use Rattle.graph.specs.Limits.{max_edges}
use Rattle.graph.specs.Network.{place}
use Rattle.graph.specs.Places.{place_at, place_past}

-- one array: from place m on, x in the place of what l has there
module _ {A : Type 0} (z : A) (m : ℕ) (l x : List A) (few : m ≤ max_edges) (long : length l ≡ max_edges)
    (is : x ≡ replicate (length (take (max_edges - m) (drop m l))) z) where
  abbrev rest : List A
  rest = drop (max_edges - m) (drop m l)

  front : length (take m l) ≡ m
  front = omega (arith, length-take m l)

  zeros : length x ≡ max_edges - m
  zeros =
      ap length is
      ∙ length-replicate (length (take (max_edges - m) (drop m l))) z
      ∙ omega (arith, length-take (max_edges - m) (drop m l), length-drop m l)

  size : length (take m l ++ (x ++ rest)) ≡ max_edges
  size =
      omega (
        arith,
        front,
        zeros,
        length-append (take m l) (x ++ rest),
        length-append x rest,
        length-drop (max_edges - m) (drop m l),
        length-drop m l,
      )

  pub cleared : take m l ++ (x ++ rest) ≡ row max_edges (place z m l)
  cleared =
      ext_get_or z (take m l ++ (x ++ rest)) (row max_edges (place z m l)) (size ∙ sym (row-size max_edges (place z m l)))
      (λ j h. at j (omega (arith, size)) (dec_le (suc j) m))
    where
      at : (j : ℕ) → j < max_edges → Dec (j < m) → get_or (take m l ++ (x ++ rest)) j z ≡ get_or (row max_edges (place z m l)) j z
      at j h (yes i) =
          get_or-append (take m l) (x ++ rest) z j (omega (arith, front))
          ∙ get_or-take m l j z i
          ∙ sym (row_at max_edges (place z m l) j z h ∙ place_at z m l j i)
      at j h (no i) =
          get_or-append_right (take m l) (x ++ rest) m j z front (omega arith)
          ∙ get_or-append x rest z (j - m) (omega (arith, zeros))
          ∙ ap (λ (y : List A). get_or y (j - m) z) is
          ∙ replicate-at (length (take (max_edges - m) (drop m l))) z (j - m)
          ∙ sym (row_at max_edges (place z m l) j z h ∙ place_past z m l j (omega arith))

-- and a graph
pub trimmed_is : (g : Graph) (m : ℕ) (a b mark : List ℕ) (cost : List ℤ) → m ≡ g.m → a ≡ row max_edges (place 0 m g.a)
    → b ≡ row max_edges (place 0 m g.b) → cost ≡ row max_edges (place (pos 0) m g.cost) → mark ≡ row max_edges (place 0 m g.mark)
    → let t : Graph = record { n = g.n; m = g.m; a = a; b = b; cost = cost; mark = mark } in t ≡ trimmed g
unfolding trimmed
trimmed_is g m a b mark cost e p q r s = λ i. record {
  n = g.n;
  m = g.m;
  a = (p ∙ ap (λ (k : ℕ). row max_edges (place 0 k g.a)) e) i;
  b = (q ∙ ap (λ (k : ℕ). row max_edges (place 0 k g.b)) e) i;
  cost = (r ∙ ap (λ (k : ℕ). row max_edges (place (pos 0) k g.cost)) e) i;
  mark = (s ∙ ap (λ (k : ℕ). row max_edges (place 0 k g.mark)) e) i;
}
