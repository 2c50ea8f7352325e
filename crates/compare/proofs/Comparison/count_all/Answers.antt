-- The loop's pairs are those of the two lists, one for each of their places.
use Rattle.std.proofs.Common.{ℕ, suc, ◌≡◌, ◌+◌, List, [], ◌∷◌, refl, sym, ap, ◌∙◌, length, arith}
use Rattle.std.specs.List.{enumerate_from, zip}
use Rattle.std.proofs.lemmas.Iterator.{YieldsList-from_slice, YieldsList-from_zip}
use Rattle.std.proofs.lemmas.Iterator.Consumers.{YieldsList-from_enumerate, YieldsList-end}
use Rattle.lists.specs.Fill.{fill_is}
use Rattle.compare.specs.Comparison.{counts}
use Rattle.compare.proofs.Comparison.count_all.Goals as goal

pairs-size : (n : ℕ) (xs ys : List ℕ) → length ys ≡ length xs → length (enumerate_from n (zip xs ys)) ≡ length xs
pairs-size n [] ys h = refl
pairs-size n (x ∷ xs) [] h = absurd (omega arith)
pairs-size n (x ∷ xs) (y ∷ ys) h = ap suc (pairs-size (n + 1) xs ys (omega arith))

pub returns : goal.returns
unfolding counts
returns c =
    let l = c.loop-i in
    let xs = c.args.self.now.sweeps.now in
    let ys = c.args.self.now.steps.now in
    let pairs = YieldsList-from_enumerate (YieldsList-from_zip (YieldsList-from_slice xs cc) (YieldsList-from_slice ys cc)) cc in
    let done : length l.yielded ≡ length xs =
    (YieldsList-end pairs l.yielded _ l.yielded_by _ c.next.new.self c.in-None.is c.next.ensures.steps).1 ∙ pairs-size 0 xs ys c.requires.0 in
    sym (fill_is (length xs) _ l.report 0 (l.invariant.0 ∙ c.requires.1) (λ i h. sym (l.invariant.1 i (omega (arith, h, done)))))
