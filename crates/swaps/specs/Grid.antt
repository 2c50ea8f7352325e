-- A table of numbers: a list of rows, with a write of one cell. Assumes nothing.
use Rattle.std.specs.Prelude.{◌≡◌, refl, ℕ, zero, suc, ◌<◌, set, replicate}
use Rattle.std.proofs.Common.{◌∙◌, ap, arith}
use mathlib.Core.List.{List, []}
use Rattle.std.proofs.Math.Decide.{ℕ_discrete}
use Rattle.std.proofs.Math.ListN.{length, get_or, length-set}
use Rattle.std.proofs.lemmas.List.{length-replicate}
use Rattle.std.proofs.Math.Seq.{get_or-set_same, get_or-set_other}
use Rattle.lists.specs.Fill.{replicate-at}

-- what stands in row i at place j
unfoldable pub cell : List (List ℕ) → ℕ → ℕ → ℕ
cell t i j = get_or (get_or t i []) j 0

-- v is put there
unfoldable pub put : List (List ℕ) → ℕ → ℕ → ℕ → List (List ℕ)
put t i j v = set t i (set (get_or t i []) j v)

-- n rows of n
pub record Square (n : ℕ) (t : List (List ℕ)) : Type 0 where
  pub rows : length t ≡ n
  pub wide : (k : ℕ) → k < n → length (get_or t k []) ≡ n

module _ (n : ℕ) (t : List (List ℕ)) (i j v : ℕ) (s : Square n t) (hi : i < n) (hj : j < n) where
  row_same : get_or (put t i j v) i [] ≡ set (get_or t i []) j v
  unfolding put
  row_same = get_or-set_same t i (set (get_or t i []) j v) [] (omega (arith, s.rows))

  row_other : (k : ℕ) → (k ≡ i → ⊥) → get_or (put t i j v) k [] ≡ get_or t k []
  unfolding put
  row_other k f = get_or-set_other t i k (set (get_or t i []) j v) [] f

  pub put_same : cell (put t i j v) i j ≡ v
  unfolding cell
  put_same = rw row_same (get_or-set_same (get_or t i []) j v 0 (omega (arith, s.wide i hi)))

  pub put_other : (k m : ℕ) → ((k ≡ i) × (m ≡ j) → ⊥) → cell (put t i j v) k m ≡ cell t k m
  unfolding cell
  put_other k m f = go (ℕ_discrete k i)
    where
      go : Dec (k ≡ i) → get_or (get_or (put t i j v) k []) m 0 ≡ get_or (get_or t k []) m 0
      go (no g) = rw (row_other k g)
      go (yes e) = rw (e, row_same) (get_or-set_other (get_or t i []) j m v 0 (λ q. f (e, q)))

  pub put_square : Square n (put t i j v)
  unfolding put
  put_square = record { rows = length-set t i (set (get_or t i []) j v) ∙ s.rows; wide = λ k h. wide_at k h (ℕ_discrete k i) }
    where
      wide_at : (k : ℕ) → k < n → Dec (k ≡ i) → length (get_or (put t i j v) k []) ≡ n
      wide_at k h (yes e) = rw (e, row_same) (length-set (get_or t i []) j v ∙ s.wide i hi)
      wide_at k h (no f) = rw (row_other k f) (s.wide k h)

get_d_rep : (n : ℕ) (r : List ℕ) (k : ℕ) → k < n → get_or (replicate n r) k [] ≡ r
get_d_rep zero r k h = absurd (omega arith)
get_d_rep (suc n) r zero h = refl
get_d_rep (suc n) r (suc k) h = get_d_rep n r k (omega arith)

-- a table of zeros
pub zero_square : (n : ℕ) → Square n (replicate n (replicate n 0))
zero_square n = record {
  rows = length-replicate n (replicate n 0);
  wide = λ k h. ap length (get_d_rep n (replicate n 0) k h) ∙ length-replicate n 0;
}

pub zero_cell : (m n i j : ℕ) → cell (replicate n (replicate m 0)) i j ≡ 0
unfolding cell
zero_cell m zero i j = refl
zero_cell m (suc n) zero j = replicate-at m 0 j
zero_cell m (suc n) (suc i) j = zero_cell m n i j
