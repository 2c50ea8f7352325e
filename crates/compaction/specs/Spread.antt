-- A value for each kept edge, made a value for each edge (`spread_out`): marks, where an edge that is not kept is excluded, and tours, which
-- it is not in. The lowest free edge is a kept one, so a node splits at the edge at which the node of its kept edges splits.
use Rattle.std.specs.Prelude.{◌≡◌, refl, ◌≢◌, Bool, List, ◌∷◌, ℕ, suc, ◌≤◌, ◌<◌, length, get_or, set, ℤ}
use Rattle.std.proofs.Common.{sym, ◌∙◌, arith, length-set, ext_get_or, get_or-set_same}
use Rattle.std.proofs.Math.Path.{ap}
use Rattle.std.proofs.Math.Bool.{true, false, cond, true≢false}
use Rattle.std.proofs.Math.Decide.{ℕ_discrete, dec_le}
use Rattle.std.proofs.Math.Seq.{get_or-set_other}
use borrow.Author.Tests.{lt-ltb, le-ltb}
use Rattle.lists.specs.Members.{◌∈◌}
use Rattle.lists.specs.Numbers.{up_to, up_to_in}
use Rattle.lists.specs.Rows.{row, row-size, row_at}
use Rattle.graph.specs.Network.{Mark, free, required, excluded}
use Rattle.tree_theory.specs.OneTree.{Edges}
use Rattle.machine.specs.Outcomes.{closes, finds, splits}
use Rattle.tree_theory.specs.Valid.{is_free}
use Rattle.machine.specs.Machine.{Marks, Node, node_of, Opened, first_free, branch}
use Rattle.machine.specs.Laws.Branching.{first_free_lem, first-before, first_is}
use Rattle.thinning.specs.Ranks.{rank, Kept, rank_yes, rank_less, rank-nth}

-- ---- a value for each edge

-- at each of m edges the value of its new number; z where there is none, and `other` at an edge that is not kept
unfoldable pub spread_out : {A : Type 0} → Edges → ℕ → A → A → List A → List A
unfolding row rank
spread_out c m other z l = row m (λ k. cond (c k) (get_or (z ∷ l) (rank c k) z) other)

module _ {A : Type 0} (c : Edges) (m : ℕ) (other z : A) where
  pub spread-size : (l : List A) → length (spread_out c m other z l) ≡ m
  unfolding spread_out
  spread-size l = row-size m (λ k. cond (c k) (get_or (z ∷ l) (rank c k) z) other)

  spread_at : (l : List A) (i : ℕ) → i < m → get_or (spread_out c m other z l) i z ≡ cond (c (suc i)) (get_or (z ∷ l) (rank c (suc i)) z) other
  unfolding spread_out
  spread_at l i h = row_at m (λ k. cond (c k) (get_or (z ∷ l) (rank c k) z) other) i z h

  pub spread-kept : (l : List A) (i : ℕ) → i < m → c (suc i) ≡ true → get_or (spread_out c m other z l) i z ≡ get_or l (rank c i) z
  spread-kept l i h e = spread_at l i h ∙ rw (e, rank_yes c i e)

  pub spread_rest : (l : List A) (i : ℕ) → i < m → c (suc i) ≡ false → get_or (spread_out c m other z l) i z ≡ other
  spread_rest l i h e = spread_at l i h ∙ rw e

  -- a list of m is what is spread out, if each of its places is
  pub spread_is : (x l : List A) → length x ≡ m
      → ((i : ℕ) → i < m → c (suc i) ≡ true → get_or x i z ≡ get_or l (rank c i) z)
      → ((i : ℕ) → i < m → c (suc i) ≡ false → get_or x i z ≡ other)
      → x ≡ spread_out c m other z l
  spread_is x l size kept rest = ext_get_or z x (spread_out c m other z l) (size ∙ sym (spread-size l)) (λ i h. at i (omega arith) (c (suc i)) refl)
    where
      at : (i : ℕ) → i < m → (b : Bool) → c (suc i) ≡ b → get_or x i z ≡ get_or (spread_out c m other z l) i z
      at i h true e = kept i h e ∙ sym (spread-kept l i h e)
      at i h false e = rest i h e ∙ sym (spread_rest l i h e)

  -- the rows of two functions
  pub spread_row : (f h : ℕ → A) → ((k : ℕ) → k ∈ up_to m → c k ≡ true → f k ≡ h (rank c k)) → ((k : ℕ) → k ∈ up_to m → c k ≡ false → f k ≡ other)
      → row m f ≡ spread_out c m other z (row (rank c m) h)
  spread_row f h kept rest =
      spread_is (row m f) (row (rank c m) h) (row-size m f)
      (λ i l e.
      row_at m f i z l
      ∙ kept (suc i) (up_to_in m (suc i) (omega arith) l) e
      ∙ ap h (rank_yes c i e)
      ∙ sym (row_at (rank c m) h (rank c i) z (rank_less c i m l e)))
      (λ i l e. row_at m f i z l ∙ rest (suc i) (up_to_in m (suc i) (omega arith) l) e)

-- ---- marks and tours

abbrev pub spread_marks : Edges → ℕ → Marks → Marks
spread_marks c m y = spread_out c m excluded free y

-- a node's multipliers are those of its vertices, which all stay
abbrev pub spread_node : Edges → ℕ → Node → Node
spread_node c m x = node_of x.multipliers (spread_marks c m x.marks)

abbrev pub spread_tour : Edges → ℕ → List Bool → List Bool
spread_tour c m r = spread_out c m false false r

-- what the opening of a node comes to, in old numbers
abbrev pub spread_opened : Edges → ℕ → Opened → Opened
spread_opened c m closes = closes
spread_opened c m (finds r) = finds (spread_tour c m r)
spread_opened c m (splits out into) = splits (spread_node c m out) (spread_node c m into)

-- ---- the lowest free edge

module _ (c : Edges) (m : ℕ) (y : Marks) (long : length y ≡ rank c m) where
  x : Marks
  x = spread_marks c m y

  x-size : length x ≡ m
  unfolding x
  x-size = spread-size c m excluded free y

  -- one mark is set
  module _ (k : ℕ) (h : k < m) (e : c (suc k) ≡ true) where
    set-spread : (v : Mark) → set x k v ≡ spread_marks c m (set y (rank c k) v)
    unfolding x
    set-spread v =
        spread_is c m excluded free (set x k v) (set y (rank c k) v) (length-set x k v ∙ x-size)
        (λ i l f. kept i l f (ℕ_discrete i k))
        (λ i l f. get_or-set_other x k i v free (other i f) ∙ spread_rest c m excluded free y i l f)
      where
        other : (i : ℕ) → c (suc i) ≡ false → i ≢ k
        other i f q = true≢false (sym e ∙ ap (λ (j : ℕ). c (suc j)) (sym q) ∙ f)

        apart : (i : ℕ) → c (suc i) ≡ true → i ≢ k → rank c i ≢ rank c k
        apart i f q r = go (dec_le (suc i) k)
          where
            go : Dec (i < k) → ⊥
            go (yes l) = omega (arith, rank_less c i k l f)
            go (no l) = omega (arith, rank_less c k i (omega arith) e)

        kept : (i : ℕ) → i < m → c (suc i) ≡ true → Dec (i ≡ k)
            → get_or (set x k v) i free ≡ get_or (set y (rank c k) v) (rank c i) free
        kept i l f (yes q) =
            rw (
              q,
              get_or-set_same x k v free (omega (arith, x-size)),
              get_or-set_same y (rank c k) v free (omega (arith, rank_less c k m h e)),
            )
        kept i l f (no q) =
            get_or-set_other x k i v free q
            ∙ spread-kept c m excluded free y i l f
            ∙ sym (get_or-set_other y (rank c k) (rank c i) v free (apart i f q))

    -- the lowest free edge is the kept one of which the new number is lowest
    first-spread : rank c k ≡ first_free y → first_free x ≡ k
    unfolding x
    first-spread q =
        first_is x k (omega (arith, x-size)) (λ i l. before i l (c (suc i)) refl)
        (λ l. spread-kept c m excluded free y k h e ∙ rw q (first_free_lem y (omega (arith, rank_less c k m h e))))
      where
        before : (i : ℕ) → i < k → (b : Bool) → c (suc i) ≡ b → is_free (get_or x i free) ≡ false
        before i l true f =
            ap is_free (spread-kept c m excluded free y i (omega arith) f)
            ∙ first-before y (rank c i) (omega (arith, rank_less c i k l f))
        before i l false f = ap is_free (spread_rest c m excluded free y i (omega arith) f)

  -- none is free
  none_spread : rank c m ≤ first_free y → first_free x ≡ m
  unfolding x
  none_spread q =
      first_is x m (omega (arith, x-size)) (λ i l. before i l (c (suc i)) refl) (λ l. absurd (omega (arith, x-size)))
    where
      before : (i : ℕ) → i < m → (b : Bool) → c (suc i) ≡ b → is_free (get_or x i free) ≡ false
      before i l true f =
          ap is_free (spread-kept c m excluded free y i l f)
          ∙ first-before y (rank c i) (omega (arith, rank_less c i m l f))
      before i l false f = ap is_free (spread_rest c m excluded free y i l f)

  -- A NODE SPLITS AT A KEPT EDGE
  pub branch-spread : (d : List ℤ) → branch d (spread_marks c m y) ≡ spread_opened c m (branch d y)
  unfolding branch x
  branch-spread d = go (dec_le (suc (first_free y)) (rank c m))
    where
      splitting : Kept c m (suc (first_free y)) → first_free y < rank c m → branch d (spread_marks c m y) ≡ spread_opened c m (branch d y)
      splitting k h =
          let p : rank c k.place ≡ first_free y = omega (arith, rank_yes c k.place k.kept, k.new) in
          rw (
            first-spread k.place k.low k.kept p,
            lt-ltb k.place (length x) (omega (arith, x-size, k.low)),
            lt-ltb (first_free y) (length y) (omega arith),
            set-spread k.place k.low k.kept excluded,
            set-spread k.place k.low k.kept required,
            p,
          )

      go : Dec (first_free y < rank c m) → branch d (spread_marks c m y) ≡ spread_opened c m (branch d y)
      go (yes h) = splitting (rank-nth c m (suc (first_free y)) (omega arith) h) h
      go (no h) =
          rw (none_spread (omega arith), le-ltb m (length x) (omega (arith, x-size)), le-ltb (first_free y) (length y) (omega arith))
