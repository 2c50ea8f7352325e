-- An array that a loop fills with the values of a function, place by place: one of zeros, or any. Assumes nothing.
use Rattle.std.specs.Prelude.{◌≡◌, refl, List, ℕ, ◌+◌, ◌<◌, ◌≤◌, length, get_or, set, replicate}
use Rattle.std.proofs.Common.{◌∙◌, arith, length-set, get_or-set_same, get_or-set_other}
use Rattle.std.proofs.Math.Decide.{ℕ_discrete}
use Rattle.lists.specs.Fill.{replicate-at}

-- of the places from low on, those below k have f; all others have 0
pub record FilledFrom (f : ℕ → ℕ) (low : ℕ) (l : List ℕ) (k : ℕ) : Type 0 where
  pub done : (j : ℕ) → low ≤ j → j < k → get_or l j 0 ≡ f j
  pub rest : (j : ℕ) → k ≤ j → get_or l j 0 ≡ 0

pub filled_none : (f : ℕ → ℕ) (low n : ℕ) → FilledFrom f low (replicate n 0) low
filled_none f low n = record { done = λ j a b. absurd (omega arith); rest = λ j h. replicate-at n 0 j }

pub filled_more : (f : ℕ → ℕ) (low : ℕ) (l : List ℕ) (k x : ℕ) → k < length l → FilledFrom f low l k → x ≡ f k → FilledFrom f low (set l k x)
    (k + 1)
filled_more f low l k x room h e = record { done = λ j a b. done_at j a b (ℕ_discrete j k); rest = rest_at }
  where
    done_at : (j : ℕ) → low ≤ j → j < k + 1 → Dec (j ≡ k) → get_or (set l k x) j 0 ≡ f j
    done_at j a b (yes q) = rw q (get_or-set_same l k x 0 room ∙ e)
    done_at j a b (no q) = get_or-set_other l k j x 0 q ∙ h.done j a (omega arith)

    rest_at : (j : ℕ) → k + 1 ≤ j → get_or (set l k x) j 0 ≡ 0
    rest_at j a = get_or-set_other l k j x 0 (λ q. omega arith) ∙ h.rest j (omega arith)

-- the places below k have f; all others are as they were
pub record Updated (f : ℕ → ℕ) (before after : List ℕ) (k : ℕ) : Type 0 where
  pub done : (j : ℕ) → j < k → get_or after j 0 ≡ f j
  pub rest : (j : ℕ) → k ≤ j → get_or after j 0 ≡ get_or before j 0
  pub long : length after ≡ length before

pub updated_none : (f : ℕ → ℕ) (l : List ℕ) → Updated f l l 0
updated_none f l = record { done = λ j h. absurd (omega arith); rest = λ j h. refl; long = refl }

pub updated_more : (f : ℕ → ℕ) (before after : List ℕ) (k x : ℕ) → k < length before → Updated f before after k → x ≡ f k
    → Updated f before (set after k x) (k + 1)
updated_more f before after k x room h e = record {
  done = λ j l. done_at j l (ℕ_discrete j k);
  rest = λ j l. get_or-set_other after k j x 0 (λ q. omega arith) ∙ h.rest j (omega arith);
  long = length-set after k x ∙ h.long;
}
  where
    done_at : (j : ℕ) → j < k + 1 → Dec (j ≡ k) → get_or (set after k x) j 0 ≡ f j
    done_at j l (yes q) = rw q (get_or-set_same after k x 0 (omega (arith, h.long)) ∙ e)
    done_at j l (no q) = get_or-set_other after k j x 0 q ∙ h.done j (omega arith)
