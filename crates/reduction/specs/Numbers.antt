-- The new numbers of vertices, as a loop fills them in: 0 where a vertex is ashore.
use Rattle.std.specs.Prelude.{◌≡◌, refl, Bool, true, false, cond, List, ℕ, suc, ◌+◌, ◌<◌, ◌≤◌, length, get_or, set, replicate}
use Rattle.std.proofs.Common.{◌∙◌, sym, ap, arith, length-set, get_or-set_same, get_or-set_other}
use Rattle.std.proofs.Math.Decide.{ℕ_discrete}
use Rattle.lists.specs.Fill.{replicate-at}
use Rattle.thinning.specs.Ranks.{rank, rank_yes}
use Rattle.afloat.specs.Over.{Ashore, active}
use Rattle.afloat.specs.Reduced.{active_of}

-- the number of a vertex: none for one that is ashore
abbrev pub number_of : Ashore → ℕ → ℕ
number_of s v = cond (s v) 0 (rank (active s) v)

-- of vertices 1 to k, in an array that has a place for vertex 0
pub record Numbered (s : Ashore) (k : ℕ) (numbers : List ℕ) : Type 0 where
  pub each : (v : ℕ) → v ≤ k → get_or numbers v 0 ≡ number_of s v
  pub past : (v : ℕ) → k < v → get_or numbers v 0 ≡ 0
  pub long : length numbers ≡ 21

module _ (s : Ashore) where
  number_zero : number_of s 0 ≡ 0
  number_zero = go (s 0)
    where
      go : (b : Bool) → cond b 0 (rank (active s) 0) ≡ 0
      go true = refl
      go false = unfold rank in refl

  pub numbered_none : Numbered s 0 (replicate 21 0)
  numbered_none = record {
    each = λ v h. let e : v ≡ 0 = omega arith in replicate-at 21 0 v ∙ sym (ap (number_of s) e ∙ number_zero);
    past = λ v h. replicate-at 21 0 v;
    long = refl;
  }

  pub numbered_skip : (k : ℕ) (numbers : List ℕ) → s (suc k) ≡ true → Numbered s k numbers → Numbered s (k + 1) numbers
  numbered_skip k numbers e h = record {
    each = λ v b. go v b (ℕ_discrete v (suc k));
    past = λ v b. h.past v (omega arith);
    long = h.long;
  }
    where
      go : (v : ℕ) → v ≤ k + 1 → Dec (v ≡ suc k) → get_or numbers v 0 ≡ number_of s v
      go v b (yes q) = rw q (h.past (suc k) (omega arith) ∙ sym (ap (λ (x : Bool). cond x 0 (rank (active s) (suc k))) e))
      go v b (no q) = h.each v (omega arith)

  pub numbered_more : (k x : ℕ) (numbers : List ℕ) → s (suc k) ≡ false → k < 20 → x ≡ rank (active s) k + 1 → Numbered s k numbers
      → Numbered s (k + 1) (set numbers (k + 1) x)
  numbered_more k x numbers e few is h = record {
    each = λ v b. go v b (ℕ_discrete v (suc k));
    past = λ v b. get_or-set_other numbers (k + 1) v x 0 (omega arith) ∙ h.past v (omega arith);
    long = length-set numbers (k + 1) x ∙ h.long;
  }
    where
      number : number_of s (suc k) ≡ rank (active s) k + 1
      number =
          ap (λ (y : Bool). cond y 0 (rank (active s) (suc k))) e
          ∙ omega (arith, rank_yes (active s) k (active_of s (suc k) e))

      go : (v : ℕ) → v ≤ k + 1 → Dec (v ≡ suc k) → get_or (set numbers (k + 1) x) v 0 ≡ number_of s v
      go v b (yes q) =
          let w : v ≡ k + 1 = omega arith in
          ap (λ (i : ℕ). get_or (set numbers (k + 1) x) i 0) w
          ∙ get_or-set_same numbers (k + 1) x 0 (omega (arith, h.long))
          ∙ is ∙ sym number ∙ ap (number_of s) (sym q)
      go v b (no q) = get_or-set_other numbers (k + 1) v x 0 (omega arith) ∙ h.each v (omega arith)
