-- The largest, or the least, of the numbers that some of the first n places have: what a loop over the places keeps. Assumes nothing.
use Rattle.std.specs.Prelude.{◌≡◌, refl, ◌⊎◌, ℕ, suc, ◌+◌, ◌<◌, ◌≤◌}
use Rattle.std.proofs.Common.{sym, subst, inl, inr, arith}
use Rattle.std.proofs.Math.Decide.{ℕ_discrete}

-- one of the first n places that are P has x, or x is the number for 'none'
abbrev pub Taken : (ℕ → Type 0) → (ℕ → ℕ) → ℕ → ℕ → ℕ → Type 0
Taken P c none n x = (x ≡ none) ⊎ ((k : ℕ) × (k < n) × P k × (c k ≡ x))

pub record Largest (P : ℕ → Type 0) (c : ℕ → ℕ) (n x : ℕ) : Type 0 where
  pub all : (k : ℕ) → k < n → P k → c k ≤ x
  pub best : Taken P c 0 n x

pub record Least (P : ℕ → Type 0) (c : ℕ → ℕ) (none n x : ℕ) : Type 0 where
  pub all : (k : ℕ) → k < n → P k → x ≤ c k
  pub best : Taken P c none n x

taken_next : (P : ℕ → Type 0) (c : ℕ → ℕ) (none n x : ℕ) → Taken P c none n x → Taken P c none (n + 1) x
taken_next P c none n x (inl e) = inl e
taken_next P c none n x (inr h) = inr (h.0, omega (arith, h.1), h.2, h.3)

taken_more : (P : ℕ → Type 0) (c : ℕ → ℕ) (none n x y : ℕ) → P n → Taken P c none n x → (y ≡ x) ⊎ (y ≡ c n) → Taken P c none (n + 1) y
taken_more P c none n x y p t (inl e) = rw e (taken_next P c none n x t)
taken_more P c none n x y p t (inr e) = inr (n, omega arith, p, sym e)

taken_as : (P Q : ℕ → Type 0) (c : ℕ → ℕ) (none n x : ℕ) → ((k : ℕ) → k < n → P k → Q k) → Taken P c none n x → Taken Q c none n x
taken_as P Q c none n x f (inl e) = inl e
taken_as P Q c none n x f (inr h) = inr (h.0, h.1, f h.0 h.1 h.2, h.3)

-- what holds of the first n, and of n where it is P, holds of the first n + 1
each_next : (P R : ℕ → Type 0) (n : ℕ) → ((k : ℕ) → k < n → P k → R k) → (P n → R n) → (k : ℕ) → k < n + 1 → P k → R k
each_next P R n h new k l p = go (ℕ_discrete k n)
  where
    go : Dec (k ≡ n) → R k
    go (yes e) = subst R (sym e) (new (subst P e p))
    go (no e) = h k (omega arith) p

module _ (P : ℕ → Type 0) (c : ℕ → ℕ) where
  pub largest_none : Largest P c 0 0
  largest_none = record { all = λ k h. absurd (let z : suc k ≤ 0 = h in omega arith); best = inl refl }

  pub largest_skip : (n x : ℕ) → Largest P c n x → (P n → ⊥) → Largest P c (n + 1) x
  largest_skip n x m f = record {
    all = each_next P (λ k. c k ≤ x) n m.all (λ p. absurd (f p));
    best = taken_next P c 0 n x m.best;
  }

  pub largest_more : (n x y : ℕ) → Largest P c n x → P n → x ≤ y → c n ≤ y → (y ≡ x) ⊎ (y ≡ c n) → Largest P c (n + 1) y
  largest_more n x y m p a b e = record {
    all = each_next P (λ k. c k ≤ y) n (λ k h q. omega (arith, m.all k h q)) (λ q. b);
    best = taken_more P c 0 n x y p m.best e;
  }

  pub least_none : (none : ℕ) → Least P c none 0 none
  least_none none = record { all = λ k h. absurd (let z : suc k ≤ 0 = h in omega arith); best = inl refl }

  pub least_skip : (none n x : ℕ) → Least P c none n x → (P n → ⊥) → Least P c none (n + 1) x
  least_skip none n x m f = record {
    all = each_next P (λ k. x ≤ c k) n m.all (λ p. absurd (f p));
    best = taken_next P c none n x m.best;
  }

  pub least_more : (none n x y : ℕ) → Least P c none n x → P n → y ≤ x → y ≤ c n → (y ≡ x) ⊎ (y ≡ c n) → Least P c none (n + 1) y
  least_more none n x y m p a b e = record {
    all = each_next P (λ k. y ≤ c k) n (λ k h q. omega (arith, m.all k h q)) (λ q. b);
    best = taken_more P c none n x y p m.best e;
  }

-- the same for the places that are Q, if they are those that are P
module _ (P Q : ℕ → Type 0) (c : ℕ → ℕ) (n x : ℕ) (to : (k : ℕ) → k < n → P k → Q k) (from : (k : ℕ) → k < n → Q k → P k) where
  pub largest_as : Largest P c n x → Largest Q c n x
  largest_as m = record { all = λ k h q. m.all k h (from k h q); best = taken_as P Q c 0 n x to m.best }

  pub least_as : (none : ℕ) → Least P c none n x → Least Q c none n x
  least_as none m = record { all = λ k h q. m.all k h (from k h q); best = taken_as P Q c none n x to m.best }
