-- Laws that no proof cites today: a valid graph has no edge whose ends, mark or cost are wrong, place by place. Assumes nothing.
use Rattle.std.specs.Prelude.{ℕ, ◌≡◌, ◌&&◌, Bool, false, not, List, leb, get_or, ℤ, pos}
use Rattle.std.proofs.Common.{ap, le-leb}
use Rattle.lists.specs.Hits.{Nowhere}
use Rattle.integers.specs.Range.{within}
use Rattle.graph.specs.declared.Graph.{Graph}
use Rattle.graph.specs.Limits.{max_cost, max_mark}
use Rattle.graph.specs.Valid.{Valid, ends_ok, valid}
use Rattle.graph.specs.Meaning.{ends_of, not_valid}

abbrev pub unfit_at : ℕ → List ℕ → List ℕ → List ℕ → ℕ → Bool
unfit_at n a b mark k = not (ends_ok n (get_or a k 0) (get_or b k 0) && leb (get_or mark k 0) max_mark)

abbrev pub cost_unfit_at : List ℤ → ℕ → Bool
cost_unfit_at cost k = not (within max_cost (get_or cost k (pos 0)))

module _ (g : Graph) where
  abbrev Ends : Type 0
  Ends = Nowhere (unfit_at g.n g.a g.b g.mark) g.m

  abbrev Costs : Type 0
  Costs = Nowhere (cost_unfit_at g.cost) g.m

  valid_ends : Valid g → Ends
  valid_ends v k l =
      let e = v.each k l in
      rw (ends_of g.n _ _ _ _ e, le-leb (get_or g.mark k 0) max_mark e.known)

  valid_costs : Valid g → Costs
  valid_costs v k l = ap not (v.each k l).range

  pub ends_bad : (Ends → ⊥) → valid g ≡ false
  ends_bad h = not_valid g (λ v. h (valid_ends v))

  pub costs_bad : (Costs → ⊥) → valid g ≡ false
  costs_bad h = not_valid g (λ v. h (valid_costs v))
