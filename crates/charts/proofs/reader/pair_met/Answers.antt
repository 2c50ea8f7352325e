-- A pair of ends that is the pair is found, or none is.
use Rattle.std.specs.Prelude.{ℕ, ◌≡◌, ◌<◌, ◌≤◌, Bool, true, false, List, length, take, get_or}
use Rattle.std.specs.Bool.{MatchBool}
use Rattle.std.specs.List.{zip, HoldsAt, AllWithin}
use Rattle.std.proofs.Common.{sym, ◌∙◌, arith, rules, length-take-le}
use Rattle.std.proofs.lemmas.List.{get_or-take}
use Rattle.std.proofs.lemmas.Slice.Zip.{length-zip, get_or-zip}
use Rattle.std.proofs.lemmas.Iterator.{cases_from_any, YieldsList-from_slice, YieldsList-from_zip}
use borrow.Author.Tests.{tests}
use Rattle.lists.specs.Bools.{by_cases}
use Rattle.graph.specs.Valid.{pair_met}
use Rattle.graph.specs.Meaning.{pair_new, new_pair}
use Rattle.charts.proofs.reader.pair_met.Goals as goal

abbrev Pair : ℕ → ℕ → ℕ × ℕ → Type 0
Pair x y p = (p.0 ≡ x) × (p.1 ≡ y)

module _ (a b : List ℕ) (m x y : ℕ) (la : m ≤ length a) (lb : m ≤ length b) where
  abbrev pairs : List (ℕ × ℕ)
  pairs = zip (take m a) (take m b)

  size : length pairs ≡ m
  size = omega (arith, length-zip (take m a) (take m b), length-take-le m a la, length-take-le m b lb)

  at : (k : ℕ) → k < m → get_or pairs k (0, 0) ≡ (get_or a k 0, get_or b k 0)
  at k h =
      get_or-zip (take m a) (take m b) k (0, 0) (omega (arith, length-take-le m a la)) (omega (arith, length-take-le m b lb))
      ∙ rw (get_or-take m a k 0 h, get_or-take m b k 0 h)

  met : (r : Bool) → MatchBool r ((k : ℕ) × (k < length pairs) × HoldsAt (Pair x y) pairs k) (AllWithin (λ p. ¬ Pair x y p) pairs 0 (length pairs))
      → r ≡ pair_met a b m x y
  met true h =
      let k : h.0 < m = omega (arith, h.1, size) in
      let p : Pair x y (get_or a h.0 0, get_or b h.0 0) = rw (at h.0 k) at (h.2 (0, 0)) in
      by_cases (pair_met a b m x y) (λ t. sym t) (λ t. absurd (pair_new a b m x y t h.0 k p.0 p.1))
  met false h =
      sym (new_pair a b m x y (λ k l p q. (rw (at k l) at (h k (0, 0) (omega arith) (omega (arith, size)))) (p, q)))

pub returns : goal.returns
returns c =
    let g = c.args.g.now in
    let m : c.from-m.result ≡ g.m = c.from-m.ensures in
    met g.a g.b g.m c.args.x c.args.y (omega arith) (omega arith) c.any.result
    (cases_from_any c.any.new.self _ c.any.result (Pair c.args.x c.args.y) (λ p. ¬ Pair c.args.x c.args.y p) c.any.ensures.ran
    (YieldsList-from_zip (YieldsList-from_slice (take g.m g.a) (rw (← m) cc)) (YieldsList-from_slice (take g.m g.b) (rw (← m) cc)))
    (λ x q k. search (rules, tests)) (λ x q k. search (rules, tests)))
