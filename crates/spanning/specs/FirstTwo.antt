-- The first two edges looked at, against any two: where they come by weight they weigh least. Assumes nothing.
use Rattle.std.specs.Prelude.{◌≡◌, refl, Bool, true, false, List, [], ◌∷◌, ◌++◌, ℕ, suc, ◌+◌, ◌≤◌, min, ltb, length}
use Rattle.std.proofs.Common.{ap, ◌∙◌, arith, length-append, ltb-true, ltb-false}
use Rattle.lists.specs.Bools.{bit}
use Rattle.lists.specs.Members.{◌∈◌}
use Rattle.lists.specs.Select.{select, select-append, select-length, select_full}
use Rattle.lists.specs.Weights.{keep-length}
use Rattle.lists.specs.Same.{shuffle_length}
use Rattle.lists.specs.Sets.{NumberSet}
use Rattle.spanning.specs.Choice.{choose, choose_full, Desc, Dominates, Listing, select_listing, Beats, choose_beats}

-- fewer than two are behind it
unfoldable pub fewer : List ℕ → ℕ → Bool
fewer es e = ltb (length es) 2

pub fewer-length : (es : List ℕ) → length (choose fewer es) ≡ min 2 (length es)
unfolding choose fewer
fewer-length [] = refl
fewer-length (e ∷ es) = keep-length (fewer es e) e (choose fewer es) ∙ rw (fewer-length es) (go (ltb (length es) 2) refl)
  where
    go : (b : Bool) → ltb (length es) 2 ≡ b → bit b + min 2 (length es) ≡ min 2 (suc (length es))
    go true h = omega (arith, ltb-true (length es) 2 h)
    go false h = omega (arith, ltb-false (length es) 2 h)

-- a set has no fewer in a longer list
behind : (t : NumberSet) (xs base : List ℕ) → length (select t base) ≤ length (select t (xs ++ base))
behind t xs base = rw (select-append t xs base) (simp length-append (omega arith))

fewer_dominates : (t : NumberSet) (base es : List ℕ) → length (select t (es ++ base)) ≤ 2 → Dominates fewer t base es
fewer_dominates t base [] h = tt
fewer_dominates t base (e ∷ es) h = (
  omega (arith, select-length t (e ∷ (es ++ base)), fewer-length (e ∷ (es ++ base))),
  fewer_dominates t base es (omega (arith, behind t (e ∷ []) (es ++ base))),
)

pub few_least : (w : ℕ → ℕ) (all fs rs : List ℕ) → Listing all (fs ++ rs) → (c : ℕ) → Desc w c fs
    → (t : NumberSet) → length (select t all) ≡ 2 → ((k : ℕ) → k ∈ rs → t k ≡ true) → Beats w all rs (choose fewer (fs ++ rs)) t
few_least w all fs rs l c d t two keeps =
    choose_beats fewer w all fs rs l c d t keeps
    (choose_full fewer rs (omega (arith, fewer-length rs, short)))
    (fewer_dominates t rs fs (omega (arith, two')))
    (omega (arith, two', fewer-length (fs ++ rs), select-length t (fs ++ rs)))
  where
    two' : length (select t (fs ++ rs)) ≡ 2
    two' = shuffle_length (select_listing all (fs ++ rs) l t) ∙ two

    short : length rs ≤ 2
    short = omega (arith, ap length (select_full t rs keeps), behind t fs rs, two')
