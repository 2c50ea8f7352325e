-- A pass changes the multipliers of the active vertices in the network's numbers as it changes them in new ones, and that of an inactive vertex not
-- at all.
use Rattle.std.specs.Prelude.{◌≡◌, Bool, List, leb, ◌+ℤ◌, ◌-ℤ◌, ◌*ℤ◌}
use Rattle.std.proofs.Math.Path.{ap}
use Rattle.std.proofs.Common.{sym, ◌∙◌, arith}
use Rattle.std.proofs.Math.Bool.{true, false, cond}
use Prim.Native.Nat.{ℕ, suc, ◌<◌}
use Rattle.std.proofs.Math.Decide.{ℕ_discrete}
use Rattle.std.proofs.Math.IntN.{ℤ, pos}
use Rattle.std.proofs.lemmas.Bool.{lt-leb, not-true}
use Rattle.lists.specs.Members.{◌∈◌}
use Rattle.lists.specs.Numbers.{up_to, up_to_in, in_up_to}
use Rattle.lists.specs.Rows.{row-size, row_same}
use Rattle.integers.specs.Range.{clamp}
use Rattle.graph.specs.Limits.{max_multiplier}
use Rattle.graph.specs.Network.{Network}
use Rattle.tree_theory.specs.OneTree.{Edges}
use Rattle.tree_theory.specs.Inputs.{multiplier}
use Rattle.tours.specs.Tours.{degree}
use Rattle.machine.specs.Machine.{gained}
use Rattle.thinning.specs.Ranks.{rank, nth, rank_back}
use Rattle.afloat.specs.Over.{Ashore, active}
use Rattle.afloat.specs.Reduced.{reduced, Fit, nth_live, nth-one, rank-one}
use Rattle.afloat.specs.Trees.{Untouched, degree-reduced}
use Rattle.afloat.specs.Lists.{reduced_list, Grounded, row-multiplier, list_multiplier}
use Rattle.afloat_passes.specs.Passing.{gained_over}

module _ (s : Ashore) (g : Network) (step : ℕ) (t : Edges) (d : List ℤ) where
  -- "and no pass changes it"
  pub gained-ashore : (v : ℕ) → v ∈ up_to g.n → s v ≡ true → multiplier (gained_over s g step t d) v ≡ multiplier d v
  unfolding gained_over
  gained-ashore v i e = row-multiplier g.n _ v i ∙ rw e

  -- so where the inactive vertices have none, they get none
  pub grounded_gained : Grounded s g.n d → Grounded s g.n (gained_over s g step t d)
  unfolding gained_over
  grounded_gained z = record { size = row-size g.n _; zero_there = λ v i e. gained-ashore v i e ∙ z.zero_there v i e }

  -- the others gain as ever
  pub gained-active : (v : ℕ) → v ∈ up_to g.n → s v ≡ false → multiplier (gained_over s g step t d) v ≡ multiplier (gained g step t d) v
  unfolding gained_over
  gained-active v i e = row-multiplier g.n _ v i ∙ rw e

-- ---- degrees

module _ (s : Ashore) (g : Network) (f : Fit s g) (t : Edges) (free : Untouched s g t) where
  first-same : (j : ℕ) → j ∈ up_to (rank (active s) g.n) → leb (nth (active s) g.n j) 1 ≡ leb j 1
  first-same j i = go (ℕ_discrete j 1)
    where
      go : Dec (j ≡ 1) → leb (nth (active s) g.n j) 1 ≡ leb j 1
      go (yes e) = rw (e, nth-one s g f)
      go (no e) =
          lt-leb (nth (active s) g.n j) 1 (above (ℕ_discrete (nth (active s) g.n j) 1))
          ∙ sym (lt-leb j 1 (omega (arith, (in_up_to _ j i).0)))
        where
          above : Dec (nth (active s) g.n j ≡ 1) → 1 < nth (active s) g.n j
          above (yes q) = absurd (e (sym (rank_back (active s) g.n j i) ∙ ap (rank (active s)) q ∙ rank-one s g f))
          above (no q) = omega (arith, (in_up_to g.n (nth (active s) g.n j) (nth_live s g f j i).0).0)

  -- A PASS CHANGES THE MULTIPLIERS ALIKE
  pub gained-reduced : (step : ℕ) (d : List ℤ) → gained (reduced s g) step t (reduced_list s g.n d) ≡ reduced_list s g.n (gained_over s g step t d)
  gained-reduced step d =
      unfold gained reduced_list in row_same (rank (active s) g.n) _ _ (λ j h. at (suc j) (up_to_in _ (suc j) (omega arith) h))
    where
      next : ℕ → ℤ → ℕ → ℤ
      next w z deg = cond (leb w 1) z (clamp max_multiplier (z +ℤ (pos step *ℤ (pos deg -ℤ pos 2))))

      plainly : (v : ℕ) → v ∈ up_to g.n → multiplier (gained g step t d) v ≡ next v (multiplier d v) (degree g t v)
      plainly v i = unfold gained in row-multiplier g.n (λ u. next u (multiplier d u) (degree g t u)) v i

      at : (j : ℕ) → j ∈ up_to (rank (active s) g.n)
          → next j (multiplier (reduced_list s g.n d) j) (degree (reduced s g) t j)
          ≡ multiplier (gained_over s g step t d) (nth (active s) g.n j)
      at j i =
          ap (λ (z : ℤ). next j z (degree (reduced s g) t j)) (list_multiplier s g.n d j)
          ∙ ap (λ (w : ℕ). next j (multiplier d v) (degree (reduced s g) t w)) (sym (rank_back (active s) g.n j i))
          ∙ ap (λ (w : ℕ). next j (multiplier d v) w) (degree-reduced s g f t free v (nth_live s g f j i))
          ∙ ap (λ (b : Bool). cond b (multiplier d v) (clamp max_multiplier (multiplier d v +ℤ (pos step *ℤ (pos (degree g t v) -ℤ pos 2)))))
          (sym (first-same j i))
          ∙ sym (plainly v (nth_live s g f j i).0)
          ∙ sym (gained-active s g step t d v (nth_live s g f j i).0 (not-true (s v) (nth_live s g f j i).1))
        where
          v : ℕ
          v = nth (active s) g.n j
