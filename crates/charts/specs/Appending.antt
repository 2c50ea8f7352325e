-- One edge more: where it is valid and its pair is new, the graph stays valid. This is what holds of the graph at each step of the chain.
-- Assumes nothing.
use Rattle.std.specs.Prelude.{ℕ, ◌+◌, ◌<◌, ◌≤◌, ◌≡◌, refl, Bool, false, List, length, get_or, ℤ, pos}
use Rattle.std.proofs.Math.Path.{sym}
use Rattle.std.proofs.Common.{◌∙◌, arith, below_more}
use Rattle.std.proofs.Math.ListN.{length-set}
use Rattle.std.proofs.Math.Seq.{get_or-set_same, get_or-set_other}
use Rattle.graph.specs.declared.Graph.{Graph}
use Rattle.graph.specs.Limits.{min_vertices, max_vertices, max_edges}
use Rattle.graph.specs.Valid.{EdgeValid, EdgeAt, SamePair, Valid, pair_met}
use Rattle.charts.specs.Chart.{start_of, appended, with_record}
use Rattle.graph.specs.Edgeless.{edgeless}
use Rattle.graph.specs.Meaning.{pair_new}
use Rattle.graph.specs.Pigeonhole.{room}
use Rattle.charts.specs.NoFault.{RecordOk}

-- the four arrays have their length
pub record Shape (g : Graph) : Type 0 where
  pub a : length g.a ≡ max_edges
  pub b : length g.b ≡ max_edges
  pub cost : length g.cost ≡ max_edges
  pub mark : length g.mark ≡ max_edges

-- the graph of the edges taken so far
pub record Sound (g : Graph) : Type 0 where
  pub shape : Shape g
  pub valid : Valid g

ne_of : (k m : ℕ) → k < m → k ≡ m → ⊥
ne_of k m h e = omega arith

module _ (g : Graph) (x y : ℕ) (z : ℤ) (w : ℕ) where
  shape-appended : Shape g → Shape (appended g x y z w)
  unfolding appended
  shape-appended h =
      record {
        a = length-set g.a g.m x ∙ h.a;
        b = length-set g.b g.m y ∙ h.b;
        cost = length-set g.cost g.m z ∙ h.cost;
        mark = length-set g.mark g.m w ∙ h.mark;
      }

  edge_old : (k : ℕ) → k < g.m → EdgeAt g k → EdgeAt (appended g x y z w) k
  unfolding appended
  edge_old k l e =
      rw (
        get_or-set_other g.a g.m k x 0 (ne_of k g.m l),
        get_or-set_other g.b g.m k y 0 (ne_of k g.m l),
        get_or-set_other g.cost g.m k z (pos 0) (ne_of k g.m l),
        get_or-set_other g.mark g.m k w 0 (ne_of k g.m l),
      ) e

  edge_new : Shape g → g.m < max_edges → EdgeValid g.n x y z w → EdgeAt (appended g x y z w) g.m
  unfolding appended
  edge_new h l e =
      rw (
        get_or-set_same g.a g.m x 0 (omega (arith, h.a)),
        get_or-set_same g.b g.m y 0 (omega (arith, h.b)),
        get_or-set_same g.cost g.m z (pos 0) (omega (arith, h.cost)),
        get_or-set_same g.mark g.m w 0 (omega (arith, h.mark)),
      ) e

  pair_old : (i j : ℕ) → i < j → j < g.m → SamePair (appended g x y z w) i j → SamePair g i j
  unfolding appended
  pair_old i j l h s =
      record {
        a =
            sym (get_or-set_other g.a g.m i x 0 (ne_of i g.m (omega arith))) ∙ s.a
            ∙ get_or-set_other g.a g.m j x 0 (ne_of j g.m h);
        b =
            sym (get_or-set_other g.b g.m i y 0 (ne_of i g.m (omega arith))) ∙ s.b
            ∙ get_or-set_other g.b g.m j y 0 (ne_of j g.m h);
      }

  pair_last : Shape g → g.m < max_edges → pair_met g.a g.b g.m x y ≡ false
      → (i : ℕ) → i < g.m → SamePair (appended g x y z w) i g.m → ⊥
  unfolding appended
  pair_last h l n i u s =
      pair_new g.a g.b g.m x y n i u
      (sym (get_or-set_other g.a g.m i x 0 (ne_of i g.m u)) ∙ s.a ∙ get_or-set_same g.a g.m x 0 (omega (arith, h.a)))
      (sym (get_or-set_other g.b g.m i y 0 (ne_of i g.m u)) ∙ s.b ∙ get_or-set_same g.b g.m y 0 (omega (arith, h.b)))

  size-appended : ((appended g x y z w).n ≡ g.n) × ((appended g x y z w).m ≡ g.m + 1)
  unfolding appended
  size-appended = (refl, refl)

  pub sound-appended : Sound g → EdgeValid g.n x y z w → pair_met g.a g.b g.m x y ≡ false → Sound (appended g x y z w)
  sound-appended s e n =
      let h = s.shape in
      let v = s.valid in
      let l : g.m < max_edges = room g x y z w v e n in
      record {
        shape = shape-appended h;
        valid =
            record {
              low = omega (arith, v.low, size-appended);
              high = omega (arith, v.high, size-appended);
              few = omega (arith, size-appended);
              each =
                  λ k u. below_more (λ (j : ℕ). EdgeAt (appended g x y z w) j) g.m (λ j i. edge_old j i (v.each j i))
                  (edge_new h l e) k (omega (arith, size-appended));
              once =
                  λ i j u t. below_more (λ (j : ℕ). (i : ℕ) → i < j → SamePair (appended g x y z w) i j → ⊥) g.m
                  (λ j r i q p. v.once i j q r (pair_old i j q r p)) (pair_last h l n) j (omega (arith, size-appended)) i u;
            };
      }

pub sound-edgeless : (n : ℕ) → min_vertices ≤ n → n ≤ max_vertices → Sound (edgeless n)
unfolding edgeless
sound-edgeless n low high =
    record {
      shape = record { a = refl; b = refl; cost = refl; mark = refl };
      valid =
          record {
            low = low;
            high = high;
            few = omega arith;
            each = λ k l. absurd (omega arith);
            once = λ j k l h. absurd (omega arith);
          };
    }

-- ---- the edge of a record with no fault

module _ (s : List ℕ) (met : List Bool) (g : Graph) (k : ℕ) (v : Sound g) (o : RecordOk s met g k) where
  pub record_room : g.m < max_edges
  record_room = room g (get_or s (start_of k) 0) (get_or s (start_of k + 1) 0) _ _ v.valid o.body.edge o.new

  pub sound_record : Sound (with_record s g (start_of k))
  unfolding with_record
  sound_record = sound-appended g _ _ _ _ v o.body.edge o.new
