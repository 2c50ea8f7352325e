-- A read into the buffer after what was filled.
use Rattle.std.proofs.Common.{◌≡◌, ℕ, ◌+◌, ◌-◌, ◌≤◌, List, ◌++◌, Option, arith, length, take, sym, ap, ◌∙◌, subst, le_refl, length-take-le}
use Rattle.std.proofs.lemmas.List.{take-append-le}
use Rattle.std.proofs.lemmas.Slice.{take-put_mid_below}
use Rattle.std.proofs.Math.Seq.{take-append-add}
use Rattle.std.specs.Io.KnownBytes.{Consumes, Keeps}
use Rattle.std.proofs.KnownBytes.{Consumes-trans, Consumes-kept}
use borrow.Rule.Slice.PartMut.{put_mid, post_of}

-- what was filled and the first n bytes that were read stand before the rest
joined : (a n k : ℕ) (xs ys : List ℕ) → a ≤ length xs → n ≤ length ys → k ≡ a + n → take a xs ++ take n ys ≡ take k (put_mid a (length xs - a) xs ys)
joined a n k xs ys within fits same =
    let part = ys ++ post_of a (length xs - a) xs in
    ap (λ l. take a xs ++ l) (sym (take-append-le n ys (post_of a (length xs - a) xs) fits)) ∙ sym (take-append-add (take a xs) part n)
    ∙ ap (λ m. take m (take a xs ++ part)) (omega (arith, length-take-le a xs within))

-- what the reader gave goes on from what was filled
pub Consumes-filled : (before mid after : Option (List ℕ)) (a n k : ℕ) (xs ys : List ℕ) → a ≤ length xs → n ≤ length ys → k ≡ a + n
    → Consumes before mid (take a xs) → Consumes mid after (take n ys) → Consumes before after (take k (put_mid a (length xs - a) xs ys))
Consumes-filled before mid after a n k xs ys within fits same p q =
    subst (Consumes before after) (joined a n k xs ys within fits same) (Consumes-trans before mid after _ _ p q)

-- a read that failed leaves what was filled
pub Consumes-left : (before mid after : Option (List ℕ)) (a k : ℕ) (xs ys : List ℕ) → a ≤ length xs → k ≡ a
    → Consumes before mid (take a xs) → Keeps mid after → Consumes before after (take k (put_mid a (length xs - a) xs ys))
Consumes-left before mid after a k xs ys within same p q =
    rw (same, take-put_mid_below _ _ _ _ _ (le_refl _) within) (Consumes-kept before mid after _ p q)
