-- What is kept is decided by whether there is an incumbent, by the two costs and by the two tours; signed numbers are read back from their words.
use Rattle.std.proofs.Common.{◌≡◌, refl, ℕ, ℤ, List, Bool, true, false, cond, sym, ap, ◌∙◌}
use Rattle.integers.specs.Words.{back64}
use Rattle.graph.specs.declared.Graph.{Graph}
use Rattle.graph.specs.Network.{network}
use Rattle.machine.specs.Machine as machine
use Rattle.search.specs.Record.{bits, has_tour}
use Rattle.search.specs.Runs.Keeping.{replaces_by, kept_of, replaces_is, with_best, kept_in}
use Rattle.search.specs.declared.Search.{Search}
use Rattle.tree_theory.specs.Arrays.{bytes}
use Rattle.tours.specs.Tours.{cost}
use Rattle.search.proofs.Search.keep.Goals as goal
use Rattle.search.proofs.Search.keep.Goals.{in-Some, in-None, then-better, else-better}

-- is the found tour f the better one? h says whether there is a best one, b
abbrev takes : Graph → Bool → List ℕ → List ℕ → Bool
takes g h f b = cond h (machine.replaces (network g) (bits g.m f) (bits g.m b)) true

-- what `replaces` says of the incumbent b is what the machine says
says : (s : Search) (f b : List ℕ) (x : ℤ) → x ≡ cost (network s.graph) (bytes f) → b ≡ s.best → has_tour s ≡ true
    → replaces_by s.graph.m x (cost (network s.graph) (bytes b)) f b ≡ takes s.graph (has_tour s) f s.best
says s f b x p same h =
    ap (λ (z : ℤ). replaces_by s.graph.m z (cost (network s.graph) (bytes b)) f b) p
    ∙ sym (replaces_is s.graph f b) ∙ (λ i. takes s.graph (sym h i) f (same i))

kept : (g : Graph) (h x : Bool) (f b : List ℕ) → x ≡ takes g h f b → cond x f b ≡ kept_of g h f b
unfolding kept_of
kept g h x f b e = ap (λ (y : Bool). cond y f b) e ∙ go h (machine.replaces (network g) (bits g.m f) (bits g.m b))
  where
    go : (h r : Bool) → cond (cond h r true) f b ≡ cond h (cond r f b) f
    go true r = refl
    go false r = refl

-- the record that is left, where q has what is kept of the two tours
left : (s q : Search) (f w : List ℕ) (u : ℤ) (x : Bool) → q ≡ record s { best = w } → w ≡ cond x f s.best
    → x ≡ takes s.graph (has_tour s) f s.best → u ≡ cost (network s.graph) (bytes f) → with_best q u q.best ≡ kept_in s f
left s q f w u x is b e k =
    λ i. with_best (is i) (k i) ((ap (λ (r : Search). r.best) is ∙ b ∙ kept s.graph (has_tour s) x f s.best e) i)

pub returns : goal.returns
returns c =
    let s : Search = c.args.self.now in
    let f = c.args.found.now in
    let paid = back64 c.tour_cost-cost.result c.tour_cost-cost.type_inv ∙ c.tour_cost-cost.ensures.0 in
    let better : c.match-incumbent.better ≡ takes s.graph (has_tour s) f s.best = elim c.match-incumbent.branch [
      | in-Some w ↦ w.better-is ∙ w.replaces-better.ensures ∙ says s f _ _ paid w.in-Some.ensures.1 w.in-Some.ensures.0
      | in-None w ↦ w.better-is ∙ (λ i. takes s.graph (sym (rw w.in-None.is at c.incumbent.ensures) i) f s.best)
    ] in
    elim c.if-better.branch [
      | then-better b ↦ left s _ f f _ true b.self-is refl (sym b.if-better.true ∙ better) paid
      | else-better b ↦ left s _ f s.best _ false b.self-is refl (sym b.if-better.false ∙ better) paid
    ]
