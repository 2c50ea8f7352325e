-- What the nodes carry, in the parts that the code looks at: past n what those in use carry, and all that is past them. Assumes nothing.
use Rattle.std.specs.Prelude.{◌≡◌, refl, List, ℕ, ◌+◌, ◌*◌, ◌≤◌, ◌<◌, min, get_or, ℤ, pos}
use Rattle.std.proofs.Common.{sym, ◌∙◌, subst, arith, lt-ltb, le-ltb}
use Rattle.std.proofs.Math.Decide.{dec_le}
use Rattle.graph.specs.Limits.{max_vertices}
use Rattle.search.specs.Record.{max_nodes, carried_size, multipliers_at}
use Rattle.search.specs.Words.Cells.{carried_places, each-place, multipliers_at_lem}
use Rattle.search.specs.Canonical.{Zeros, used_in, CarriedTidy}

-- as many nodes are in use as the depth says, or all
module _ (n depth used : ℕ) (e : List ℤ) (u : used ≡ min depth max_nodes) where
  past : (p : ℕ) → p < max_nodes → used ≤ p → used_in n depth p ≡ 0
  past p h b = rw (le-ltb p depth (omega (arith, u))) refl

  pub carried_nodes : CarriedTidy n depth e → (p : ℕ) → p < used → Zeros (pos 0) max_vertices n (multipliers_at max_vertices e p)
  carried_nodes t p h =
      subst (λ (k : ℕ). Zeros (pos 0) max_vertices k (multipliers_at max_vertices e p)) (rw (lt-ltb p depth (omega (arith, u))) refl)
      (t p (omega (arith, u)))

  pub carried_past : CarriedTidy n depth e → Zeros (pos 0) carried_size (max_vertices * used) e
  carried_past t =
      each-place max_vertices carried_size carried_places (λ i. max_vertices * used ≤ i → get_or e i (pos 0) ≡ pos 0)
      (λ p h j b w.
      let here : used ≤ p = omega arith in
      sym (multipliers_at_lem max_vertices e p j b) ∙ t p h j b (omega (arith, past p h here)))

  pub carried_whole : Zeros (pos 0) carried_size (max_vertices * used) e
      → ((p : ℕ) → p < used → Zeros (pos 0) max_vertices n (multipliers_at max_vertices e p)) → CarriedTidy n depth e
  carried_whole z f p h = go (dec_le used p)
    where
      go : Dec (used ≤ p) → Zeros (pos 0) max_vertices (used_in n depth p) (multipliers_at max_vertices e p)
      go (yes b) = λ j i w. multipliers_at_lem max_vertices e p j i ∙ z (max_vertices * p + j) (omega arith) (omega arith)
      go (no b) =
          subst (λ (k : ℕ). Zeros (pos 0) max_vertices k (multipliers_at max_vertices e p))
          (sym (rw (lt-ltb p depth (omega (arith, u))) refl)) (f p (omega arith))
