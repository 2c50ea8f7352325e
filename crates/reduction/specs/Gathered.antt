-- What a loop gathers from a list's kept places, in their order, into another list. Assumes nothing.
use Rattle.std.specs.Prelude.{◌≡◌, true, false, List, ℕ, suc, ◌+◌, ◌<◌, length, get_or, set}
use Rattle.std.proofs.Common.{◌∙◌, sym, ap, subst, arith, true≢false, get_or-set_same, get_or-set_other}
use Rattle.std.proofs.Math.Decide.{ℕ_discrete}
use Rattle.tree_theory.specs.OneTree.{Edges}
use Rattle.thinning.specs.Ranks.{rank, rank_yes, rank_no, rank_less}

-- a loop's next number
pub next_is : (k : ℕ) → k + 1 ≡ suc k
next_is k = omega arith

pub rank_more : (c : Edges) (k : ℕ) → c (suc k) ≡ true → rank c (k + 1) ≡ rank c k + 1
rank_more c k e = ap (rank c) (next_is k) ∙ rank_yes c k e ∙ sym (next_is (rank c k))

pub rank_skip : (c : Edges) (k : ℕ) → c (suc k) ≡ false → rank c (k + 1) ≡ rank c k
rank_skip c k e = ap (rank c) (next_is k) ∙ rank_no c k e

-- of the first k places of the one, those that are kept stand in the other
abbrev pub Gathered : {A : Type 0} → A → Edges → List A → ℕ → List A → Type 0
Gathered z c was k l = (i : ℕ) → i < k → c (suc i) ≡ true → get_or l (rank c i) z ≡ get_or was i z

module _ {A : Type 0} (z : A) (c : Edges) (was : List A) where
  pub gathered_none : (l : List A) → Gathered z c was 0 l
  gathered_none l i h e = absurd (omega arith)

  pub gathered_skip : (k : ℕ) (l : List A) → c (suc k) ≡ false → Gathered z c was k l → Gathered z c was (k + 1) l
  gathered_skip k l out h i b e = go (ℕ_discrete i k)
    where
      go : Dec (i ≡ k) → get_or l (rank c i) z ≡ get_or was i z
      go (yes q) = absurd (true≢false (sym e ∙ subst (λ (j : ℕ). c (suc j) ≡ false) (sym q) out))
      go (no q) = h i (omega arith) e

  pub gathered_more : (k f : ℕ) (l : List A) (x : A) → f ≡ rank c k → f < length l → x ≡ get_or was k z → Gathered z c was k l
      → Gathered z c was (k + 1) (set l f x)
  gathered_more k f l x at room is h i b e = go (ℕ_discrete i k)
    where
      go : Dec (i ≡ k) → get_or (set l f x) (rank c i) z ≡ get_or was i z
      go (yes q) =
          subst (λ (j : ℕ). get_or (set l f x) (rank c j) z ≡ get_or was j z) (sym q)
          (subst (λ (j : ℕ). get_or (set l f x) j z ≡ get_or was k z) at (get_or-set_same l f x z room ∙ is))
      go (no q) =
          let less : rank c i < rank c k = rank_less c i k (omega arith) e in
          get_or-set_other l f (rank c i) x z (omega (arith, at, less)) ∙ h i (omega arith) e
