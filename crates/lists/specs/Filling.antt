-- An array of n places that a loop fills from the left: the places below k have the values of f, the others are still z. Assumes nothing.
use Rattle.std.specs.Prelude.{◌≡◌, List, ℕ, suc, ◌+◌, ◌≤◌, ◌<◌, length, get_or, set, take, replicate}
use Rattle.std.proofs.Common.{sym, ◌∙◌, subst, arith, length-set, length-take, get_or-set_same, get_or-set_other, get_or-take}
use Rattle.std.proofs.Math.Decide.{dec_le, ℕ_discrete}
use Rattle.std.proofs.lemmas.List.{length-replicate}
use Rattle.lists.specs.Fill.{fill, fill_is, fit, replicate-at}

pub record Filling {A : Type 0} (z : A) (n k : ℕ) (f : ℕ → A) (l : List A) : Type 0 where
  pub size : length l ≡ n
  pub new : (j : ℕ) → j < k → get_or l j z ≡ f j
  pub past : (j : ℕ) → k ≤ j → get_or l j z ≡ z

-- one place more has its value
one_more : {A : Type 0} (z : A) (f : ℕ → A) (k : ℕ) (l : List A) (v : A) → k < length l → v ≡ f k
    → ((j : ℕ) → j < k → get_or l j z ≡ f j) → (j : ℕ) → j < k + 1 → get_or (set l k v) j z ≡ f j
one_more z f k l v b e h j i = go (ℕ_discrete j k)
  where
    go : Dec (j ≡ k) → get_or (set l k v) j z ≡ f j
    go (yes d) = rw d (get_or-set_same l k v z b ∙ e)
    go (no d) = get_or-set_other l k j v z d ∙ h j (omega arith)

module _ {A : Type 0} (z : A) (n : ℕ) (f : ℕ → A) where
  pub filling_none : Filling z n 0 f (replicate n z)
  filling_none = record {
    size = length-replicate n z;
    new = λ j h. absurd (omega arith);
    past = λ j h. replicate-at n z j;
  }

  pub filling_more : (k : ℕ) (l : List A) (v : A) → k < n → v ≡ f k → Filling z n k f l → Filling z n (k + 1) f (set l k v)
  filling_more k l v b e h = record {
    size = length-set l k v ∙ h.size;
    new = one_more z f k l v (omega (arith, h.size)) e h.new;
    past = λ j i. get_or-set_other l k j v z (omega arith) ∙ h.past j (omega arith);
  }

  pub filling_to : (k m : ℕ) (l : List A) → k ≡ m → Filling z n k f l → Filling z n m f l
  filling_to k m l e h = subst (λ (i : ℕ). Filling z n i f l) e h

  -- a full one
  pub filling_full : (l : List A) → Filling z n n f l → l ≡ fill n f
  filling_full l h = sym (fill_is n f l z h.size (λ i b. sym (h.new i b)))

  -- one filled below m is any list that agrees there and has z elsewhere
  pub filling_is : (m : ℕ) (l : List A) (g : ℕ → A) → Filling z n m f l
      → ((i : ℕ) → i < m → f i ≡ g i) → ((i : ℕ) → m ≤ i → g i ≡ z) → l ≡ fill n g
  filling_is m l g h same none = sym (fill_is n g l z h.size (λ i b. at i (dec_le (suc i) m)))
    where
      at : (i : ℕ) → Dec (i < m) → g i ≡ get_or l i z
      at i (yes b) = sym (h.new i b ∙ same i b)
      at i (no b) = none i (omega arith) ∙ sym (h.past i (omega arith))

-- The same for an array that has values already: the places below k have those of f, and the places from m on, which the loop does not
-- come to, are z.
pub record Renewing {A : Type 0} (z : A) (n m k : ℕ) (f : ℕ → A) (l : List A) : Type 0 where
  pub size : length l ≡ n
  pub new : (j : ℕ) → j < k → get_or l j z ≡ f j
  pub past : (j : ℕ) → m ≤ j → get_or l j z ≡ z

module _ {A : Type 0} (z : A) (n m : ℕ) (f : ℕ → A) where
  pub renewing_none : (l : List A) → length l ≡ n → ((j : ℕ) → m ≤ j → get_or l j z ≡ z) → Renewing z n m 0 f l
  renewing_none l e h = record { size = e; new = λ j b. absurd (omega arith); past = h }

  pub renewing_more : (k : ℕ) (l : List A) (v : A) → k < m → k < n → v ≡ f k → Renewing z n m k f l → Renewing z n m (k + 1) f (set l k v)
  renewing_more k l v b c e h = record {
    size = length-set l k v ∙ h.size;
    new = one_more z f k l v (omega (arith, h.size)) e h.new;
    past = λ j i. get_or-set_other l k j v z (omega arith) ∙ h.past j i;
  }

  -- all m are written
  pub renewing_all : (k : ℕ) (l : List A) → k ≡ m → Renewing z n m k f l → Filling z n m f l
  renewing_all k l e h = record { size = h.size; new = λ j i. h.new j (omega arith); past = h.past }

-- the first n of a list that has them
pub take-fit : {A : Type 0} (n : ℕ) (z : A) (l : List A) → n ≤ length l → take n l ≡ fit n z l
unfolding fit
take-fit n z l h =
    sym (fill_is n (λ i. get_or l i z) (take n l) z (omega (arith, length-take n l)) (λ i b. sym (get_or-take n l i z b)))
