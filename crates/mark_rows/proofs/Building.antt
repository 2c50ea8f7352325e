-- A node's words built edge by edge: none at first, and one bit set for each edge required or excluded.
use Rattle.std.specs.Prelude.{◌≡◌, refl, [], ℕ, suc, ◌+◌, ◌-◌, ◌*◌, ◌^◌, ◌≤◌, ◌<◌, ltb, set, replicate}
use Rattle.std.proofs.Common.{sym, ap, ◌∙◌, arith, length-set, ext_get_or, get_or-set_same, get_or-set_other, lt-ltb, le-ltb}
use Rattle.std.proofs.Math.Bool.{cond}
use Rattle.std.proofs.Math.Decide.{dec_le, ℕ_discrete}
use Rattle.std.proofs.Math.ListN.{get_or, get_or-eq_default}
use Rattle.std.proofs.lemmas.List.{length-replicate}
use Rattle.lists.specs.Fill.{fill, fill-at, fill_past, replicate-at}
use Rattle.graph.specs.Limits.{max_edges}
use Rattle.graph.specs.Network.{Mark, free, required, excluded}
use Rattle.machine.specs.Machine.{Marks}
use Rattle.mark_rows.specs.MarkRows.{row_words, node_words, rows_of}
use Rattle.mark_rows.specs.SixWords.{rows_size, WordsFit, words-fit, with_edge}
use Rattle.mark_rows.proofs.SixWords.{rows_six, rows_fit, rows_required, rows_excluded}
use Rattle.mark_rows.specs.Building.{rows_alike, partly, partly-size}

-- no marks, no bits
pub no_bits : (j : ℕ) → get_or (rows_of []) j 0 ≡ 0
no_bits j = go (dec_le (suc j) row_words) (dec_le (suc j) node_words)
  where
    tests : WordsFit 0 (rows_of [])
    tests = (words-fit 0 (rows_of []) (rows_six [])).0 (rows_fit 0 [] (omega arith) refl)

    low : (i : ℕ) (x : ℕ) → x < 2 ^ (0 - 64 * i) → x ≡ 0
    low i x h = let e : 0 - 64 * i ≡ 0 = omega arith in let z : x < 1 = (rw e at h) in omega arith

    go : Dec (j < row_words) → Dec (j < node_words) → get_or (rows_of []) j 0 ≡ 0
    go (yes b) d = low j (get_or (rows_of []) j 0) (tests j b).1
    go (no b) (yes d) =
        let e : row_words + (j - row_words) ≡ j = omega arith in
        ap (λ (k : ℕ). get_or (rows_of []) k 0) (sym e)
        ∙ low (j - row_words) (get_or (rows_of []) (row_words + (j - row_words)) 0) (tests (j - row_words) (omega arith)).2
    go (no b) (no d) = get_or-eq_default (rows_of []) 0 (omega (arith, rows_size []))

pub no_rows : rows_of [] ≡ replicate node_words 0
no_rows =
    ext_get_or 0 (rows_of []) (replicate node_words 0) (rows_size [] ∙ sym (length-replicate {A = ℕ} node_words 0))
    (λ j h. no_bits j ∙ sym (replicate-at {A = ℕ} node_words 0 j))

module _ (m : ℕ) (f : ℕ → Mark) where
  partly_there : (k j : ℕ) → j < m → j < k → get_or (partly m f k) j free ≡ f j
  unfolding partly
  partly_there k j h b =
      fill-at m (λ i. cond (ltb i k) (f i) free) j free h ∙ rw (lt-ltb j k b)

  partly_off : (k j : ℕ) → k ≤ j → get_or (partly m f k) j free ≡ free
  unfolding partly
  partly_off k j b = go (dec_le (suc j) m)
    where
      go : Dec (j < m) → get_or (fill m (λ i. cond (ltb i k) (f i) free)) j free ≡ free
      go (yes h) = fill-at m (λ i. cond (ltb i k) (f i) free) j free h ∙ rw (le-ltb j k b)
      go (no h) = fill_past m (λ i. cond (ltb i k) (f i) free) j free (omega arith)

  pub partly_none : rows_of (partly m f 0) ≡ replicate node_words 0
  partly_none = rows_alike (partly m f 0) [] (λ j. partly_off 0 j (omega arith)) ∙ no_rows

  -- an edge more
  partly_more : (k : ℕ) → k < m → partly m f (k + 1) ≡ set (partly m f k) k (f k)
  partly_more k h =
      ext_get_or free (partly m f (k + 1)) (set (partly m f k) k (f k))
      (partly-size m f (k + 1) ∙ sym (length-set (partly m f k) k (f k) ∙ partly-size m f k))
      (λ j b. at j (omega (arith, partly-size m f (k + 1))) (ℕ_discrete j k) (dec_le (suc j) k))
    where
      at : (j : ℕ) → j < m → Dec (j ≡ k) → Dec (j < k) → get_or (partly m f (k + 1)) j free ≡ get_or (set (partly m f k) k (f k)) j free
      at j b (yes e) d =
          rw e (partly_there (k + 1) k h (omega arith) ∙ sym (get_or-set_same (partly m f k) k (f k) free (omega (arith, partly-size m f k))))
      at j b (no e) (yes d) =
          partly_there (k + 1) j b (omega arith) ∙ sym (partly_there k j b d) ∙ sym (get_or-set_other (partly m f k) k j (f k) free e)
      at j b (no e) (no d) =
          partly_off (k + 1) j (omega arith) ∙ sym (partly_off k j (omega arith)) ∙ sym (get_or-set_other (partly m f k) k j (f k) free e)

  module _ (few : m ≤ max_edges) (k : ℕ) (h : k < m) where
    pub partly_free : f k ≡ free → rows_of (partly m f (k + 1)) ≡ rows_of (partly m f k)
    partly_free e = rows_alike (partly m f (k + 1)) (partly m f k) (λ j. at j (ℕ_discrete j k))
      where
        at : (j : ℕ) → Dec (j ≡ k) → get_or (partly m f (k + 1)) j free ≡ get_or (partly m f k) j free
        at j (yes q) = rw q (partly_there (k + 1) k h (omega arith) ∙ e ∙ sym (partly_off k k (omega arith)))
        at j (no q) =
            ap (λ (x : Marks). get_or x j free) (partly_more k h) ∙ get_or-set_other (partly m f k) k j (f k) free q

    pub partly_required : f k ≡ required → rows_of (partly m f (k + 1)) ≡ with_edge 0 (rows_of (partly m f k)) k
    partly_required e =
        ap rows_of (partly_more k h ∙ ap (set (partly m f k) k) e)
        ∙ rows_required m (partly m f k) few (partly-size m f k) k h (partly_off k k (omega arith))

    pub partly_excluded : f k ≡ excluded → rows_of (partly m f (k + 1)) ≡ with_edge row_words (rows_of (partly m f k)) k
    partly_excluded e =
        ap rows_of (partly_more k h ∙ ap (set (partly m f k) k) e)
        ∙ rows_excluded m (partly m f k) few (partly-size m f k) k h (partly_off k k (omega arith))
