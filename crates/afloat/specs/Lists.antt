-- Lists of multipliers: those of the active vertices in their new numbers (`reduced_list`), and back in the network's (`widened`), where an inactive
-- vertex has 0. A list that has 0 there (`Grounded`), as every node's has, is regained.
use Rattle.std.specs.Prelude.{◌≡◌, refl, Bool, List, ◌∷◌, length, ℤ, pos}
use Rattle.std.proofs.Math.Path.{sym, ap}
use Rattle.std.proofs.Common.{◌∙◌, subst, arith}
use Rattle.std.proofs.Math.Bool.{true, false, cond}
use Prim.Native.Nat.{ℕ, zero, suc, ◌<◌}
use Rattle.std.proofs.Math.Decide.{dec_le}
use Rattle.std.proofs.Math.ListN.{get_or, get_or-eq_default}
use Rattle.std.proofs.lemmas.Bool.{not-true}
use Rattle.lists.specs.Members.{◌∈◌}
use Rattle.lists.specs.Numbers.{up_to, up_to_in}
use Rattle.lists.specs.Rows.{row, row-size, row_at, row_same, row_of}
use Rattle.tree_theory.specs.Arrays.{edge_of}
use Rattle.tree_theory.specs.Inputs.{multiplier}
use Rattle.thinning.specs.Ranks.{rank, nth, nth_zero, nth_past, nth_of, nth_in, nth-kept, rank_back}
use Rattle.afloat.specs.Over.{Ashore, active, multiplier_over, multipliers_over}
use Rattle.afloat.specs.Reduced.{reduced_multiplier, active_of}

unfoldable pub reduced_list : Ashore → ℕ → List ℤ → List ℤ
unfolding row multiplier
reduced_list s n d = row (rank (active s) n) (λ j. multiplier d (nth (active s) n j))

unfoldable pub widened : Ashore → ℕ → List ℤ → List ℤ
unfolding row multiplier rank
widened s n e = row n (λ v. cond (s v) (pos 0) (multiplier e (rank (active s) v)))

-- a list for the vertices, with 0 for the inactive ones
pub record Grounded (s : Ashore) (n : ℕ) (d : List ℤ) : Type 0 where
  pub size : length d ≡ n
  pub zero_there : (v : ℕ) → v ∈ up_to n → s v ≡ true → multiplier d v ≡ pos 0

-- what a row has for a vertex
pub row-multiplier : (n : ℕ) (x : ℕ → ℤ) (v : ℕ) → v ∈ up_to n → multiplier (row n x) v ≡ x v
row-multiplier n x v i = go v (edge_of n v i)
  where
    go : (v : ℕ) → (j : ℕ) × (j < n) × (v ≡ suc j) → multiplier (row n x) v ≡ x v
    go v r =
        subst (λ (w : ℕ). multiplier (row n x) w ≡ x w) (sym r.2)
        (unfold multiplier in row_at n x r.0 (pos 0) r.1)

-- a list of n is the row of its multipliers
pub list_row : (n : ℕ) (d : List ℤ) → length d ≡ n → row n (multiplier d) ≡ d
unfolding multiplier
list_row n d e = ap (λ (k : ℕ). row k (λ v. get_or (pos 0 ∷ d) v (pos 0))) (sym e) ∙ row_of d (pos 0)

-- ---- in new numbers, and back

module _ (s : Ashore) (n : ℕ) (d : List ℤ) where
  pub list_multiplier : (j : ℕ) → multiplier (reduced_list s n d) j ≡ reduced_multiplier s n (multiplier d) j
  unfolding reduced_list multiplier
  list_multiplier zero = sym (ap (λ (v : ℕ). get_or (pos 0 ∷ d) v (pos 0)) (nth_zero (active s) n))
  list_multiplier (suc j) = go (dec_le (suc j) (rank (active s) n))
    where
      go : Dec (j < rank (active s) n) → get_or (reduced_list s n d) j (pos 0) ≡ get_or (pos 0 ∷ d) (nth (active s) n (suc j)) (pos 0)
      go (yes h) = row_at (rank (active s) n) (λ i. multiplier d (nth (active s) n i)) j (pos 0) h
      go (no h) =
          get_or-eq_default (reduced_list s n d) (pos 0)
          (omega (arith, row-size (rank (active s) n) (λ i. multiplier d (nth (active s) n i))))
          ∙ sym (ap (λ (v : ℕ). get_or (pos 0 ∷ d) v (pos 0)) (nth_past (active s) n (suc j) (omega arith)))

  -- THE LIST IN NEW NUMBERS has the multipliers of the reduced network
  pub list_multipliers : multiplier (reduced_list s n d) ≡ reduced_multiplier s n (multiplier d)
  list_multipliers = λ i j. list_multiplier j i

  pub reduced-size : length (reduced_list s n d) ≡ rank (active s) n
  unfolding reduced_list
  reduced-size = row-size (rank (active s) n) (λ j. multiplier d (nth (active s) n j))

  -- THE FIRST NODE'S LIST is grounded, and the same in new numbers
  pub grounded_first : Grounded s n (multipliers_over s n d)
  unfolding multipliers_over
  grounded_first = record {
    size = row-size n (multiplier_over s (multiplier d));
    zero_there = λ v i e.
        row-multiplier n (multiplier_over s (multiplier d)) v i ∙ ap (λ (b : Bool). cond b (pos 0) (multiplier d v)) e;
  }

  pub reduced-first : reduced_list s n (multipliers_over s n d) ≡ reduced_list s n d
  unfolding reduced_list multipliers_over
  reduced-first =
      row_same (rank (active s) n) _ _ (λ j h.
      let i = up_to_in (rank (active s) n) (suc j) (omega arith) h in
      row-multiplier n (multiplier_over s (multiplier d)) (nth (active s) n (suc j)) (nth_in (active s) n (suc j) i)
      ∙ ap (λ (b : Bool). cond b (pos 0) (multiplier d (nth (active s) n (suc j))))
      (not-true (s (nth (active s) n (suc j))) (nth-kept (active s) n (suc j) i)))

  -- A GROUNDED LIST IS REGAINED
  pub widened_back : Grounded s n d → widened s n (reduced_list s n d) ≡ d
  unfolding widened
  widened_back z =
      row_same n _ _ (λ j h. at (suc j) (up_to_in n (suc j) (omega arith) h) (s (suc j)) refl)
      ∙ list_row n d z.size
    where
      at : (v : ℕ) → v ∈ up_to n → (b : Bool) → s v ≡ b
          → cond b (pos 0) (multiplier (reduced_list s n d) (rank (active s) v)) ≡ multiplier d v
      at v i true e = sym (z.zero_there v i e)
      at v i false e = list_multiplier (rank (active s) v) ∙ ap (multiplier d) (nth_of (active s) n v i (active_of s v e))

-- THE FIRST NODE'S LIST IS REGAINED
pub widened-first : (s : Ashore) (n : ℕ) (d : List ℤ) → widened s n (reduced_list s n d) ≡ multipliers_over s n d
widened-first s n d = ap (widened s n) (sym (reduced-first s n d)) ∙ widened_back s n (multipliers_over s n d) (grounded_first s n d)

-- what is regained is grounded
pub grounded_widened : (s : Ashore) (n : ℕ) (e : List ℤ) → Grounded s n (widened s n e)
unfolding widened
grounded_widened s n e = record {
  size = row-size n (λ v. cond (s v) (pos 0) (multiplier e (rank (active s) v)));
  zero_there = λ v i h.
      row-multiplier n (λ v. cond (s v) (pos 0) (multiplier e (rank (active s) v))) v i
      ∙ ap (λ (b : Bool). cond b (pos 0) (multiplier e (rank (active s) v))) h;
}

-- a list in new numbers is regained too
pub reduced_back : (s : Ashore) (n : ℕ) (e : List ℤ) → length e ≡ rank (active s) n → reduced_list s n (widened s n e) ≡ e
unfolding reduced_list widened
reduced_back s n e size =
    row_same (rank (active s) n) _ _ (λ j h. at (suc j) (up_to_in (rank (active s) n) (suc j) (omega arith) h))
    ∙ list_row (rank (active s) n) e size
  where
    at : (j : ℕ) → j ∈ up_to (rank (active s) n) → multiplier (widened s n e) (nth (active s) n j) ≡ multiplier e j
    at j i =
        row-multiplier n (λ v. cond (s v) (pos 0) (multiplier e (rank (active s) v))) (nth (active s) n j) (nth_in (active s) n j i)
        ∙ ap (λ (b : Bool). cond b (pos 0) (multiplier e (rank (active s) (nth (active s) n j))))
        (not-true (s (nth (active s) n j)) (nth-kept (active s) n j i))
        ∙ ap (multiplier e) (rank_back (active s) n j i)
