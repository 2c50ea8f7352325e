-- The multipliers of the active vertices, as a loop gathers them in an array's places.
use Rattle.std.specs.Prelude.{◌≡◌, true, false, not, List, ℕ, suc, ◌+◌, ◌<◌, ◌≤◌, length, get_or, set, ℤ, pos, min}
use Rattle.std.proofs.Common.{◌∙◌, sym, ap, arith, length-set, get_or-set_other}
use Rattle.std.proofs.Math.Decide.{dec_le}
use Rattle.std.proofs.Math.ListN.{get_or-eq_default}
use Rattle.lists.specs.Fill.{fit, fill_is}
use Rattle.lists.specs.Rows.{row_at}
use Rattle.graph.specs.Limits.{max_vertices}
use Rattle.tree_theory.specs.Inputs.{multiplier}
use Rattle.thinning.specs.Ranks.{rank, nth, Kept, rank_yes, rank_no, rank_mono, rank-nth, nth-rank}
use Rattle.afloat.specs.Over.{Ashore, active}
use Rattle.afloat.specs.Reduced.{active_of}
use Rattle.afloat.specs.Lists.{reduced_list, reduced-size}
use Rattle.reduction.specs.Gathered.{Gathered, gathered_none, gathered_skip, gathered_more}

-- of the first k multipliers, those of active vertices, and zeros
pub record ActiveTo (s : Ashore) (d : List ℤ) (k : ℕ) (r : List ℤ) : Type 0 where
  pub each : Gathered (pos 0) (active s) d k r
  pub past : (j : ℕ) → rank (active s) k ≤ j → get_or r j (pos 0) ≡ pos 0
  pub long : length r ≡ max_vertices

module _ (s : Ashore) (d : List ℤ) where
  next : (k : ℕ) → rank (active s) (k + 1) ≡ rank (active s) (suc k)
  next k = let e : k + 1 ≡ suc k = omega arith in ap (rank (active s)) e

  inactive : (v : ℕ) → s v ≡ true → active s v ≡ false
  inactive v e = ap not e

  pub active_none : (r : List ℤ) → length r ≡ max_vertices → ((j : ℕ) → get_or r j (pos 0) ≡ pos 0) → ActiveTo s d 0 r
  active_none r e z = record { each = gathered_none (pos 0) (active s) d r; past = λ j h. z j; long = e }

  pub active_skip : (k : ℕ) (r : List ℤ) → s (suc k) ≡ true → ActiveTo s d k r → ActiveTo s d (k + 1) r
  active_skip k r e h = record {
    each = gathered_skip (pos 0) (active s) d k r (inactive (suc k) e) h.each;
    past = λ j b. h.past j (omega (arith, next k, rank_no (active s) k (inactive (suc k) e)));
    long = h.long;
  }

  pub active_more : (k f : ℕ) (r : List ℤ) (x : ℤ) → s (suc k) ≡ false → f ≡ rank (active s) k → f < max_vertices → x ≡ get_or d k (pos 0)
      → ActiveTo s d k r → ActiveTo s d (k + 1) (set r f x)
  active_more k f r x e at room is h = record {
    each = gathered_more (pos 0) (active s) d k f r x at (omega (arith, h.long)) is h.each;
    past = λ j b.
        get_or-set_other r f j x (pos 0) (omega (arith, next k, rank_yes (active s) k (active_of s (suc k) e), at))
        ∙ h.past j (omega (arith, next k, rank_yes (active s) k (active_of s (suc k) e)));
    long = length-set r f x ∙ h.long;
  }

  -- ALL OF THEM
  pub active_all : (n k : ℕ) (r : List ℤ) → n ≤ max_vertices → k ≡ min n (length d) → ActiveTo s d k r
      → r ≡ fit max_vertices (pos 0) (reduced_list s n d)
  unfolding fit multiplier
  active_all n k r few e h = sym (fill_is max_vertices _ r (pos 0) h.long (λ j b. at j (dec_le (suc j) (rank (active s) n))))
    where
      low : (p : ℕ) → p < n → p < length d → p < k
      low p a b = omega (arith, e)

      high : (p : ℕ) → length d ≤ p → p < n → k ≤ p
      high p a b = omega (arith, e)

      all : k ≤ n
      all = omega (arith, e)

      own : (j : ℕ) (q : Kept (active s) n (suc j)) → Dec (q.place < length d) → multiplier d (suc q.place) ≡ get_or r j (pos 0)
      own j q (yes b) =
          sym (h.each q.place (low q.place q.low b) q.kept)
          ∙ ap (λ (i : ℕ). get_or r i (pos 0)) (omega (arith, rank_yes (active s) q.place q.kept, q.new))
      own j q (no b) =
          get_or-eq_default d (pos 0) (omega arith)
          ∙ sym (h.past j (omega (arith, rank_mono (active s) k q.place (high q.place (omega arith) q.low), rank_yes (active s) q.place q.kept, q.new)))

      at : (j : ℕ) → Dec (j < rank (active s) n) → get_or (reduced_list s n d) j (pos 0) ≡ get_or r j (pos 0)
      at j (yes b) =
          let q = rank-nth (active s) n (suc j) (omega arith) (omega arith) in
          unfold reduced_list in row_at (rank (active s) n) (λ i. multiplier d (nth (active s) n i)) j (pos 0) b
          ∙ ap (multiplier d) (ap (nth (active s) n) (sym q.new) ∙ nth-rank (active s) n q.place q.low q.kept)
          ∙ own j q (dec_le (suc q.place) (length d))
      at j (no b) =
          get_or-eq_default (reduced_list s n d) (pos 0) (omega (arith, reduced-size s n d))
          ∙ sym (h.past j (omega (arith, rank_mono (active s) k n all)))
