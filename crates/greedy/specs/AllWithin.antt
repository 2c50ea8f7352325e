-- Whether all numbers of a list are within a limit, as a loop with no way out in the middle asks it. Assumes nothing.
use Rattle.std.specs.Prelude.{◌≡◌, refl, Bool, true, false, List, [], ◌∷◌, ◌&&◌, ℕ, ℤ}
use Rattle.std.specs.List.{fold, list_all}
use Rattle.std.proofs.Common.{◌∙◌, sym}
use Rattle.std.proofs.lemmas.List.Folds.{fold_stays}
use Rattle.lists.specs.All.{every_of, every_is}
use Rattle.lists.specs.Bools.{by_cases}
use Rattle.integers.specs.Range.{within}

abbrev pub all_within : ℕ → List ℤ → Bool
all_within limit d = fold (λ fit x. fit && within limit x) true d

-- it is asked of each
pub all_every : (limit : ℕ) (d : List ℤ) → all_within limit d ≡ every_of (within limit) d
unfolding every_of
all_every limit [] = refl
all_every limit (x ∷ d) =
    by_cases (within limit x) (λ t. rw t (all_every limit d)) (λ t. rw t (fold_stays (λ fit x. fit && within limit x) false (λ x. refl) d))

-- and so does a loop that leaves at the first that is not within it
pub listed_within : (limit : ℕ) (d : List ℤ) → list_all (within limit) d ≡ all_within limit d
listed_within limit d = sym (every_is (within limit) d) ∙ sym (all_every limit d)
