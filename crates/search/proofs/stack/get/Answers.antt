-- A stretch of w places from place a on, place by place.
use Rattle.std.proofs.Common.{◌≡◌, ℕ, ◌+◌, ◌≤◌, ◌<◌, List, length, get_or, take, drop, sym, ◌∙◌, arith}
use Rattle.std.proofs.lemmas.List.{get_or-drop, get_or-take, length-take, length-drop}
use Rattle.lists.specs.Fill.{fill, fill_is}
use Rattle.search.proofs.stack.get.Goals as goal

stretch : {A : Type 0} (a w k : ℕ) (l : List A) (z : A) → k ≡ w → a + w ≤ length l → take k (drop a l) ≡ fill w (λ j. get_or l (a + j) z)
stretch a w k l z e b =
    sym (fill_is w (λ j. get_or l (a + j) z) (take k (drop a l)) z
    (omega (arith, length-take k (drop a l), length-drop a l))
    (λ i h. let c : i < k = omega arith in sym (get_or-take k (drop a l) i z c ∙ get_or-drop a l i z)))

pub returns : goal.returns
returns g c = λ z. (rw c.unwrap.ensures at c.try_from.ensures.1).same ∙ stretch _ _ _ c.args.s.now z (omega arith) c.requires
