-- "A chart written and read back is the same chart." The chain of a written file goes through records 1, 2, … in turn, and after k of them
-- the graph read is that of the first k edges, zero past them. Assumes nothing.
use Prim.Native.Nat.{ℕ, zero, suc, ◌+◌, ◌-◌, ◌<◌, ◌≤◌}
use Rattle.std.specs.Prelude.{◌≡◌, Bool, true, List, length, get_or, set, replicate, ltb, eqb, pos}
use Rattle.std.proofs.Math.Path.{refl}
use Rattle.std.proofs.Common.{sym, ◌∙◌, ap, get_or-set_same}
use Rattle.std.proofs.Math.Bool.{false}
use native.Mathlib.Omega.{arith}
use Rattle.std.proofs.Math.Numerals.{add-one}
use Rattle.std.proofs.Math.ListN.{length-set}
use Rattle.std.proofs.Math.Seq.{get_or-set_other}
use borrow.Author.Tests.{ltb-true, ltb-false, eqb-true, eqb-false}
use Rattle.lists.specs.Bools.{by_cases}
use Rattle.lists.specs.Fill.{replicate-at}
use Rattle.graph.specs.declared.Graph.{Graph}
use Rattle.graph.specs.Limits.{max_edges, max_records}
use Rattle.graph.specs.Valid.{Valid, pair_met}
use Rattle.graph.specs.Same.{SameGraph, Clear}
use Rattle.charts.specs.Answers.{accepted}
use Rattle.charts.specs.Chart.{start_of, record_fault, appended, with_record, accept, chain_from, chain, reading, after, file_bytes}
use Rattle.graph.specs.Edgeless.{edgeless}
use Rattle.graph.specs.Meaning.{new_pair}
use Rattle.charts.specs.ChainSteps.{chain_end, chain-step}
use Rattle.charts_theorems.specs.FromFacts.{header_none, record_none}
use Rattle.charts_theorems.specs.Written.{
  after_low,
  after-top,
  head_written,
  count_written,
  n_written,
  header_written,
  next_written,
  cost_written,
  a_written,
  b_written,
  mark_written,
  body_written,
}

-- ---- the first k places of a list, and d from there on, 190 in all

module _ {A : Type 0} (l : List A) (d : A) where
  unfoldable fill : ℕ → List A
  fill zero = replicate max_edges d
  fill (suc k) = set (fill k) k (get_or l k d)

  fill_long : (k : ℕ) → length (fill k) ≡ max_edges
  unfolding fill
  fill_long zero = refl
  fill_long (suc k) = length-set (fill k) k (get_or l k d) ∙ fill_long k

  fill-at : (k i : ℕ) → i < k → k ≤ max_edges → get_or (fill k) i d ≡ get_or l i d
  unfolding fill
  fill-at zero i h b = absurd (omega arith)
  fill-at (suc k) i h b =
      by_cases (eqb i k)
      (λ t. let q : i ≡ k = eqb-true i k t in rw q (get_or-set_same (fill k) k (get_or l k d) d (omega (arith, fill_long k))))
      (λ t. get_or-set_other (fill k) k i (get_or l k d) d (eqb-false i k t) ∙ fill-at k i (less i k h (eqb-false i k t)) (omega arith))
    where
      less : (i k : ℕ) → i < suc k → (i ≡ k → ⊥) → i < k
      less i k h n = omega arith

  fill_past : (k i : ℕ) → k ≤ i → get_or (fill k) i d ≡ d
  unfolding fill
  fill_past zero i h = replicate-at max_edges d i
  fill_past (suc k) i h = get_or-set_other (fill k) k i (get_or l k d) d (λ e. omega arith) ∙ fill_past k i (omega arith)

-- the graph of g's first k edges, zero past them
unfoldable firsts : Graph → ℕ → Graph
firsts g k =
    record {
      n = g.n;
      m = k;
      a = fill g.a 0 k;
      b = fill g.b 0 k;
      cost = fill g.cost (pos 0) k;
      mark = fill g.mark 0 k;
    }

firsts_same : (g : Graph) → g.m ≤ max_edges → SameGraph (firsts g g.m) g
unfolding firsts
firsts_same g h =
    record {
      n = refl;
      m = refl;
      a = λ k l. fill-at g.a 0 g.m k l h;
      b = λ k l. fill-at g.b 0 g.m k l h;
      cost = λ k l. fill-at g.cost (pos 0) g.m k l h;
      mark = λ k l. fill-at g.mark 0 g.m k l h;
    }

firsts_clear : (g : Graph) (k : ℕ) → Clear (firsts g k)
unfolding firsts
firsts_clear g k =
    record {
      a = λ i h. fill_past g.a 0 k i h;
      b = λ i h. fill_past g.b 0 k i h;
      cost = λ i h. fill_past g.cost (pos 0) k i h;
      mark = λ i h. fill_past g.mark 0 k i h;
    }

-- ---- the chain of a written file

module _ (g : Graph) (v : Valid g) where
  taken : (k : ℕ) → k < g.m → with_record (file_bytes g) (firsts g k) (start_of (suc k)) ≡ firsts g (suc k)
  unfolding with_record appended firsts fill
  taken k h = rw (a_written g v k h, b_written g v k h, mark_written g v k h, cost_written g v k h, add-one k)

  new : (k : ℕ) → k < g.m → pair_met (fill g.a 0 k) (fill g.b 0 k) k (get_or g.a k 0) (get_or g.b k 0) ≡ false
  new k h =
      new_pair (fill g.a 0 k) (fill g.b 0 k) k (get_or g.a k 0) (get_or g.b k 0)
      (λ j l p q. v.once j k l h
      (record {
        a = sym (fill-at g.a 0 k j l (omega (arith, v.few))) ∙ p;
        b = sym (fill-at g.b 0 k j l (omega (arith, v.few))) ∙ q;
      }))

  no_fault : (k : ℕ) → k < g.m → (met : List Bool) → get_or met k false ≡ false → record_fault (file_bytes g) met (firsts g k) (suc k) ≡ 0
  unfolding firsts
  no_fault k h met u =
      let e : suc k - 1 ≡ k = omega arith in
      record_none (file_bytes g) met (firsts g k) (suc k)
      (record {
        under = omega (arith, count_written g v);
        unmet = rw e u;
        body = body_written g v k h;
        new = rw (a_written g v k h, b_written g v k h) (new k h);
      })

  unmet_set : (met : List Bool) (k : ℕ) → ((i : ℕ) → k ≤ i → get_or met i false ≡ false)
      → (i : ℕ) → suc k ≤ i → get_or (set met k true) i false ≡ false
  unmet_set met k u i h = get_or-set_other met k i true false (λ e. omega arith) ∙ u i (omega arith)

  walk : (f j k : ℕ) (met : List Bool) → j + k ≡ g.m → j < f → ((i : ℕ) → k ≤ i → get_or met i false ≡ false)
      → chain_from f (file_bytes g) met (firsts g k) (after k g.m) ≡ accept (firsts g g.m)
  walk zero j k met e l u = absurd (omega arith)
  walk (suc f) zero k met e l u =
      let q : k ≡ g.m = omega arith in
      chain_end (file_bytes g) met (firsts g k) (after k g.m) f (after-top k g.m (omega arith))
      ∙ ap (λ (i : ℕ). accept (firsts g i)) q
  walk (suc f) (suc j) k met e l u =
      let h : k < g.m = omega arith in
      let o : suc k - 1 ≡ k = omega arith in
      rw (after_low k g.m h)
      (chain-step (file_bytes g) met (firsts g k) (suc k) f (λ z. omega arith) (no_fault k h met (u k (omega arith)))
      ∙ rw (o, taken k h, next_written g v k h) (walk f j (suc k) (set met k true) (omega arith) (omega arith) (unmet_set met k u)))

  firsts_none : edgeless g.n ≡ firsts g 0
  unfolding edgeless firsts fill
  firsts_none = refl

  read_is : reading (file_bytes g) ≡ accept (firsts g g.m)
  unfolding reading chain
  read_is =
      rw (header_none (file_bytes g) (header_written g v), n_written g v, head_written g v, firsts_none)
      (walk (suc max_edges) g.m 0 (replicate max_records false) (omega arith) (omega (arith, v.few))
      (λ i h. replicate-at max_records false i))

-- what reading gives of the bytes s: g again
pub record ReadBack (g : Graph) (s : List ℕ) : Type 0 where
  pub read : (reading s).outcome ≡ accepted
  pub same : SameGraph (reading s).graph g
  pub clear : Clear (reading s).graph

-- Reading the bytes of any valid graph gives the same graph, zero past its edges.
pub read_written : (g : Graph) → Valid g → ReadBack g (file_bytes g)
unfolding accept
read_written g v =
    let e = read_is g v in
    record { read = rw e; same = rw e (firsts_same g v.few); clear = rw e (firsts_clear g g.m) }
