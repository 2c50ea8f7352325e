-- What a turn of a loop over a word's set bits does to the edge that it meets, and what the loop comes to: it is gathered into the graph of
-- the edges that are left, or its new mark is packed, or its byte is put at its place.
use Rattle.std.specs.Prelude.{◌≡◌, List, ℕ, suc, ◌+◌, ◌-◌, ◌*◌, ◌^◌, get_or}
use Rattle.std.proofs.Common.{sym, ◌∙◌, ap, subst, arith}
use Rattle.std.specs.Int.Bits.{bit_and, bit_or}
use Rattle.graph.specs.declared.Graph.{Graph}
use Rattle.mark_rows.specs.MarkRows.{marks_in_rows}
use Rattle.thinning.specs.Ranks.{rank}
use Rattle.node.specs.Marks.{bytes_of}
use Rattle.node.specs.Compacting.{gathered, left_to, gathered_skip}
use Rattle.node.specs.Expanding.{ExpandedTo, expanded_skip}
use Rattle.node.specs.Walking.{cut, Masked, Met, Skips}
use Rattle.node.specs.Words.{full_of, kept_in, marked_in, bit_where, new_byte, new-left, new_gone, PackedWord, Packing, packing_first, packing_skip, packing_met, packing_all}

module _ (m w : ℕ) (rows : List ℕ) where
  -- ---- gathered

  module _ (g : Graph) (count : ℕ) where
    abbrev pub GatheredTo : Graph → ℕ → Type 0
    GatheredTo l k = l ≡ gathered (marked_in m rows g) count k

    pub gathered_skips : (l : Graph) → Skips (kept_in m rows) m w (GatheredTo l)
    gathered_skips l k low high out e = e ∙ gathered_skip (marked_in m rows g) count k out

    pub gathered_last : (l : Graph) (f : ℕ) → f ≡ rank (kept_in m rows) (cut m w 64) → GatheredTo l (cut m w 64)
        → record { n = l.n; m = f; a = l.a; b = l.b; cost = l.cost; mark = l.mark } ≡ left_to (marked_in m rows g) (cut m w 64)
    gathered_last l f e h = λ i. record {
      n = (h i).n;
      m = e i;
      a = (h i).a;
      b = (h i).b;
      cost = (h i).cost;
      mark = (h i).mark;
    }

  pub gathered_first : (g l : Graph) → l ≡ left_to (marked_in m rows g) (cut m w 0) → GatheredTo g l.m l (cut m w 0)
  gathered_first g l e =
      e ∙ ap (λ (i : ℕ). gathered (marked_in m rows g) i (cut m w 0)) (sym (ap (λ (h : Graph). h.m) e))

  -- ---- packed

  module _ (marks : List ℕ) where
    abbrev pub PackedTo : ℕ → ℕ → ℕ → Type 0
    PackedTo r q k = Packing (kept_in m rows) m w (new_byte m rows marks) (k - 64 * w) r q

    pub packed_skips : (r q : ℕ) → Skips (kept_in m rows) m w (PackedTo r q)
    packed_skips r q k low high out p =
        packing_skip (kept_in m rows) m w (new_byte m rows marks) (new_gone m rows marks) (k - 64 * w) (suc k - 64 * w) r q
        (omega arith) (omega arith)
        (λ i a b h. let e : 64 * w + i ≡ k = omega arith in ap (λ (j : ℕ). kept_in m rows (suc j)) e ∙ out) p

    pub packed_first : (word others : ℕ) → Masked (kept_in m rows) m w word → others ≡ full_of m w - bit_and word (full_of m w)
        → PackedTo 0 others (cut m w 0)
    packed_first word others masked is =
        let z : 0 ≡ cut m w 0 - 64 * w = omega arith in
        subst (λ (i : ℕ). Packing (kept_in m rows) m w (new_byte m rows marks) i 0 others) z
        (rw is (packing_first (kept_in m rows) m w (new_byte m rows marks) (new_gone m rows marks) word masked))

    pub packed_more : (t f r q mark bit x y : ℕ) → Met (kept_in m rows) m w (64 * w + t) f → mark ≡ get_or marks f 0 → bit ≡ 2 ^ t
        → x ≡ bit_where mark 1 bit → y ≡ bit_where mark 2 bit → PackedTo r q (64 * w + t) → PackedTo (bit_or r x) (bit_or q y) (suc (64 * w + t))
    packed_more t f r q mark bit x y h e power is_x is_y p =
        let at : (64 * w + t) - 64 * w ≡ t = omega arith in
        let after : suc (64 * w + t) - 64 * w ≡ suc t = omega arith in
        rw (after, is_x, is_y, power)
        (packing_met (kept_in m rows) m w (new_byte m rows marks) (new_gone m rows marks) t r q mark (omega (arith, h.here.1)) h.low h.kept
        (new-left m rows marks (64 * w + t) f h.kept h.new ∙ sym e) (rw at at p))

    pub packed_last : (r q : ℕ) → PackedTo r q (cut m w 64) → PackedWord m (new_byte m rows marks) w r q
    packed_last r q p =
        packing_all (kept_in m rows) m w (new_byte m rows marks) (new_gone m rows marks) r q
        (packing_skip (kept_in m rows) m w (new_byte m rows marks) (new_gone m rows marks) (cut m w 64 - 64 * w) 64 r q
        (omega arith) (omega arith) (λ i a b h. absurd (omega arith)) p)

  -- ---- put at its place

  module _ (row : List ℕ) where
    abbrev pub PutTo : List ℕ → ℕ → Type 0
    PutTo l k = ExpandedTo (bytes_of (marks_in_rows m rows)) row k l

    pub put_skips : (l : List ℕ) → Skips (kept_in m rows) m w (PutTo l)
    put_skips l k low high out h = expanded_skip (bytes_of (marks_in_rows m rows)) row l k h out
