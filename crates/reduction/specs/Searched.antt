-- What a search rests on: where no byte is 1 the graph is its own reduced one; and the graph's marks with the touched edges excluded are marks.
use Rattle.std.specs.Prelude.{◌≡◌, refl, Bool, true, false, cond, List, [], ◌∷◌, ℕ, zero, suc, ◌<◌, ◌≤◌, eqb, get_or}
use Rattle.std.proofs.Common.{arith}
use Rattle.lists.specs.Bools.{or_none}
use Rattle.graph.specs.declared.Graph.{Graph}
use Rattle.graph.specs.Limits.{max_mark}
use Rattle.graph.specs.Network.{Network, network}
use Rattle.graph.specs.Valid as value
use Rattle.afloat.specs.Over.{Ashore, ashore, touched}
use Rattle.afloat.specs.Reduced.{reduced}
use Rattle.afloat.specs.NoneAshore.{reduced_none}
use Rattle.reduction.specs.Listed.{some_ashore}
use Rattle.reduction.specs.Moved.{Moved}
use Rattle.reduction.specs.Small.{with_marks}

no_byte : (l : List ℕ) → some_ashore l ≡ false → (k : ℕ) → eqb (get_or l k 0) 1 ≡ false
no_byte [] h k = refl
no_byte (b ∷ l) h zero = (or_none (eqb b 1) (some_ashore l) h).0
no_byte (b ∷ l) h (suc k) = no_byte l (or_none (eqb b 1) (some_ashore l) h).1 k

-- NONE IS ASHORE
pub none_some : (l : List ℕ) → some_ashore l ≡ false → (v : ℕ) → ashore l v ≡ false
unfolding ashore
none_some l h zero = refl
none_some l h (suc k) = no_byte l h k

pub reduced_same : (l : List ℕ) → some_ashore l ≡ false → (g : Network) → reduced (ashore l) g ≡ g
reduced_same l h g = reduced_none (ashore l) (none_some l h) g

-- THE MARKS THAT COUNT
pub struck_valid : (s : Ashore) (g r : Graph) → value.Valid g → Moved s g r → value.Valid (with_marks g r.mark)
struck_valid s g r v h = record {
  low = v.low;
  high = v.high;
  few = v.few;
  each = λ k l.
      let e = v.each k l in
      record { from = e.from; less = e.less; to = e.to; range = e.range; known = known k l (touched s (network g) (suc k)) (h.mark k l) };
  once = λ i j b l q. v.once i j b l (record { a = q.a; b = q.b });
}
  where
    known : (k : ℕ) → k < g.m → (t : Bool) → get_or r.mark k 0 ≡ cond t 2 (get_or g.mark k 0) → get_or r.mark k 0 ≤ max_mark
    known k l true e = omega (arith, e)
    known k l false e = omega (arith, e, (v.each k l).known)
