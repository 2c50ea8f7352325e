-- What a loop along a list of places keeps: the largest number met, where it was met first, and the least. Assumes nothing.
use Rattle.std.specs.Prelude.{◌≡◌, ◌⊎◌, Bool, List}
use Rattle.std.proofs.Math.Path.{refl, ap}
use Rattle.std.proofs.Common.{sym, ◌∙◌, subst, true≢false, arith}
use Rattle.std.proofs.Math.Logic.{inl, inr}
use Rattle.std.proofs.Math.Bool.{true, false, cond}
use Prim.Native.Nat.{ℕ, zero, suc, ◌<◌, ◌≤◌}
use Rattle.std.proofs.Math.Decide.{ℕ_discrete, dec_le}
use Rattle.std.proofs.Math.Dec.{ltb}
use Rattle.std.proofs.Math.ListN.{get_or}
use borrow.Author.Tests.{lt-ltb, le-ltb}

-- the greater and the less of two
unfoldable pub more : ℕ → ℕ → ℕ
more x y = cond (ltb x y) y x

unfoldable pub less : ℕ → ℕ → ℕ
less x y = cond (ltb x y) x y

pub more_is : (x y : ℕ) → (x ≤ more x y) × (y ≤ more x y) × ((more x y ≡ x) ⊎ (more x y ≡ y))
unfolding more
more_is x y = go (dec_le (suc x) y)
  where
    go : Dec (x < y) → (x ≤ more x y) × (y ≤ more x y) × ((more x y ≡ x) ⊎ (more x y ≡ y))
    go (yes h) = rw (lt-ltb x y h) (omega arith, omega arith, inr refl)
    go (no h) = rw (le-ltb x y (omega arith)) (omega arith, omega arith, inl refl)

pub less_is : (x y : ℕ) → (less x y ≤ x) × (less x y ≤ y) × ((less x y ≡ x) ⊎ (less x y ≡ y))
unfolding less
less_is x y = go (dec_le (suc x) y)
  where
    go : Dec (x < y) → (less x y ≤ x) × (less x y ≤ y) × ((less x y ≡ x) ⊎ (less x y ≡ y))
    go (yes h) = rw (lt-ltb x y h) (omega arith, omega arith, inl refl)
    go (no h) = rw (le-ltb x y (omega arith)) (omega arith, omega arith, inr refl)

-- the largest number of the first j places listed that pass the test; 0 where none does
unfoldable pub most_to : (ℕ → Bool) → (ℕ → ℕ) → List ℕ → ℕ → ℕ
unfolding more
most_to test key list zero = 0
most_to test key list (suc j) = cond (test (get_or list j 0)) (more (most_to test key list j) (key (get_or list j 0))) (most_to test key list j)

-- the place where it was met first
unfoldable pub place_to : (ℕ → Bool) → (ℕ → ℕ) → List ℕ → ℕ → ℕ
unfolding most_to
place_to test key list zero = 0
place_to test key list (suc j) =
    cond (test (get_or list j 0)) (cond (ltb (most_to test key list j) (key (get_or list j 0))) (get_or list j 0) (place_to test key list j)) (place_to test key list j)

-- the least of them; `none` where none passes
unfoldable pub least_to : ℕ → (ℕ → Bool) → (ℕ → ℕ) → List ℕ → ℕ → ℕ
unfolding less
least_to none test key list zero = none
least_to none test key list (suc j) =
    cond (test (get_or list j 0)) (less (least_to none test key list j) (key (get_or list j 0))) (least_to none test key list j)

-- one of the first j places listed passes and has the number x
pub record Met (test : ℕ → Bool) (key : ℕ → ℕ) (list : List ℕ) (j x : ℕ) : Type 0 where
  pub i : ℕ
  pub early : i < j
  pub passes : test (get_or list i 0) ≡ true
  pub has : key (get_or list i 0) ≡ x

module _ (test : ℕ → Bool) (key : ℕ → ℕ) (list : List ℕ) where
  met_next : (j x : ℕ) → Met test key list j x → Met test key list (suc j) x
  met_next j x m = record { i = m.i; early = omega (arith, m.early); passes = m.passes; has = m.has }

  -- ---- the largest

  pub most_all : (j i : ℕ) → i < j → test (get_or list i 0) ≡ true → key (get_or list i 0) ≤ most_to test key list j
  unfolding most_to
  most_all zero i l p = absurd (omega arith)
  most_all (suc j) i l p = go (ℕ_discrete i j) (test (get_or list j 0)) refl (λ h. most_all j i h p)
    where
      go : Dec (i ≡ j) → (b : Bool) → test (get_or list j 0) ≡ b → (i < j → key (get_or list i 0) ≤ most_to test key list j)
          → key (get_or list i 0) ≤ cond b (more (most_to test key list j) (key (get_or list j 0))) (most_to test key list j)
      go (yes e) true q below = rw e (more_is (most_to test key list j) (key (get_or list j 0))).1
      go (yes e) false q below = absurd (true≢false (sym p ∙ ap (λ (x : ℕ). test (get_or list x 0)) e ∙ q))
      go (no e) true q below = omega (arith, below (omega arith), (more_is (most_to test key list j) (key (get_or list j 0))).0)
      go (no e) false q below = below (omega arith)

  pub most_one : (j : ℕ) → (most_to test key list j ≡ 0) ⊎ Met test key list j (most_to test key list j)
  unfolding most_to
  most_one zero = inl refl
  most_one (suc j) = go (test (get_or list j 0)) refl (most_one j) (more_is (most_to test key list j) (key (get_or list j 0))).2
    where
      keep : (x : ℕ) → x ≡ most_to test key list j → (most_to test key list j ≡ 0) ⊎ Met test key list j (most_to test key list j)
          → (x ≡ 0) ⊎ Met test key list (suc j) x
      keep x e (inl z) = inl (e ∙ z)
      keep x e (inr m) = inr (rw e (met_next j (most_to test key list j) m))

      go : (b : Bool) → test (get_or list j 0) ≡ b → (most_to test key list j ≡ 0) ⊎ Met test key list j (most_to test key list j)
          → (more (most_to test key list j) (key (get_or list j 0)) ≡ most_to test key list j) ⊎ (more (most_to test key list j) (key (get_or list j 0)) ≡ key (get_or list j 0))
          → (cond b (more (most_to test key list j) (key (get_or list j 0))) (most_to test key list j) ≡ 0)
          ⊎ Met test key list (suc j) (cond b (more (most_to test key list j) (key (get_or list j 0))) (most_to test key list j))
      go true q h (inl e) = keep (more (most_to test key list j) (key (get_or list j 0))) e h
      go true q h (inr e) = inr (record { i = j; early = omega arith; passes = q; has = sym e })
      go false q h w = keep (most_to test key list j) refl h

  -- ---- where it was met first

  pub place-one : (j : ℕ) → 1 ≤ most_to test key list j
      → (m : Met test key list j (most_to test key list j)) × (get_or list m.i 0 ≡ place_to test key list j)
  unfolding most_to place_to more met_next
  place-one zero l = absurd (let z : 1 ≤ 0 = l in omega arith)
  place-one (suc j) l = go (test (get_or list j 0)) refl (dec_le (suc (most_to test key list j)) (key (get_or list j 0))) l (place-one j)
    where
      go : (b : Bool) → test (get_or list j 0) ≡ b → Dec (most_to test key list j < key (get_or list j 0))
          → 1 ≤ cond b (more (most_to test key list j) (key (get_or list j 0))) (most_to test key list j)
          → (1 ≤ most_to test key list j → (m : Met test key list j (most_to test key list j)) × (get_or list m.i 0 ≡ place_to test key list j))
          → (m : Met test key list (suc j) (cond b (more (most_to test key list j) (key (get_or list j 0))) (most_to test key list j)))
          × (get_or list m.i 0
          ≡ cond b (cond (ltb (most_to test key list j) (key (get_or list j 0))) (get_or list j 0) (place_to test key list j)) (place_to test key list j))
      go true q (yes h) l below =
          rw (lt-ltb (most_to test key list j) (key (get_or list j 0)) h) (record { i = j; early = omega arith; passes = q; has = refl }, refl)
      go true q (no h) l below =
          let e : ltb (most_to test key list j) (key (get_or list j 0)) ≡ false = le-ltb (most_to test key list j) (key (get_or list j 0)) (omega arith) in
          let r = below (rw e at l) in
          rw e (met_next j (most_to test key list j) r.0, r.1)
      go false q h l below = let r = below l in (met_next j (most_to test key list j) r.0, r.1)

  -- the places are listed from the lowest on
  abbrev pub Rising : ℕ → Type 0
  Rising n = (i j : ℕ) → i < j → j < n → get_or list i 0 ≤ get_or list j 0

  pub place_low : (n j : ℕ) → Rising n → j ≤ n → (i : ℕ) → i < j → test (get_or list i 0) ≡ true → 1 ≤ key (get_or list i 0)
      → key (get_or list i 0) ≡ most_to test key list j → place_to test key list j ≤ get_or list i 0
  unfolding most_to place_to more
  place_low n zero o w i l p k e = absurd (omega arith)
  place_low n (suc j) o w i l p k e =
      go (ℕ_discrete i j) (test (get_or list j 0)) refl (dec_le (suc (most_to test key list j)) (key (get_or list j 0))) e
      (λ h q. place_low n j o (omega arith) i h p k q) (place-one j)
    where
      go : Dec (i ≡ j) → (b : Bool) → test (get_or list j 0) ≡ b → Dec (most_to test key list j < key (get_or list j 0))
          → key (get_or list i 0) ≡ cond b (more (most_to test key list j) (key (get_or list j 0))) (most_to test key list j)
          → (i < j → key (get_or list i 0) ≡ most_to test key list j → place_to test key list j ≤ get_or list i 0)
          → (1 ≤ most_to test key list j → (m : Met test key list j (most_to test key list j)) × (get_or list m.i 0 ≡ place_to test key list j))
          → cond b (cond (ltb (most_to test key list j) (key (get_or list j 0))) (get_or list j 0) (place_to test key list j)) (place_to test key list j) ≤ get_or list i 0
      go (yes q) true t (yes h) e below one = rw (lt-ltb (most_to test key list j) (key (get_or list j 0)) h, q) (omega arith)
      go (yes q) true t (no h) e below one =
          let z : ltb (most_to test key list j) (key (get_or list j 0)) ≡ false = le-ltb (most_to test key list j) (key (get_or list j 0)) (omega arith) in
          let y : key (get_or list i 0) ≡ most_to test key list j = rw z at e in
          let r = one (omega (arith, y)) in
          rw z (omega (arith, o r.0.i j r.0.early (omega arith), r.1, ap (λ (x : ℕ). get_or list x 0) q))
      go (yes q) false t h e below one = absurd (true≢false (sym p ∙ ap (λ (x : ℕ). test (get_or list x 0)) q ∙ t))
      go (no q) true t (yes h) e below one =
          let z : ltb (most_to test key list j) (key (get_or list j 0)) ≡ true = lt-ltb (most_to test key list j) (key (get_or list j 0)) h in
          let y : key (get_or list i 0) ≡ key (get_or list j 0) = rw z at e in
          absurd (omega (arith, y, most_all j i (omega arith) p))
      go (no q) true t (no h) e below one =
          let z : ltb (most_to test key list j) (key (get_or list j 0)) ≡ false = le-ltb (most_to test key list j) (key (get_or list j 0)) (omega arith) in
          rw z (below (omega arith) (rw z at e))
      go (no q) false t h e below one = below (omega arith) e

  -- ---- the least

  module _ (none : ℕ) where
    pub least_all : (j i : ℕ) → i < j → test (get_or list i 0) ≡ true → least_to none test key list j ≤ key (get_or list i 0)
    unfolding least_to
    least_all zero i l p = absurd (omega arith)
    least_all (suc j) i l p = go (ℕ_discrete i j) (test (get_or list j 0)) refl (λ h. least_all j i h p)
      where
        go : Dec (i ≡ j) → (b : Bool) → test (get_or list j 0) ≡ b → (i < j → least_to none test key list j ≤ key (get_or list i 0))
            → cond b (less (least_to none test key list j) (key (get_or list j 0))) (least_to none test key list j) ≤ key (get_or list i 0)
        go (yes e) true q below = rw e (less_is (least_to none test key list j) (key (get_or list j 0))).1
        go (yes e) false q below = absurd (true≢false (sym p ∙ ap (λ (x : ℕ). test (get_or list x 0)) e ∙ q))
        go (no e) true q below = omega (arith, below (omega arith), (less_is (least_to none test key list j) (key (get_or list j 0))).0)
        go (no e) false q below = below (omega arith)

    pub least_one : (j : ℕ) → (least_to none test key list j ≡ none) ⊎ Met test key list j (least_to none test key list j)
    unfolding least_to
    least_one zero = inl refl
    least_one (suc j) = go (test (get_or list j 0)) refl (least_one j) (less_is (least_to none test key list j) (key (get_or list j 0))).2
      where
        keep : (x : ℕ) → x ≡ least_to none test key list j → (least_to none test key list j ≡ none) ⊎ Met test key list j (least_to none test key list j)
            → (x ≡ none) ⊎ Met test key list (suc j) x
        keep x e (inl z) = inl (e ∙ z)
        keep x e (inr m) = inr (rw e (met_next j (least_to none test key list j) m))

        go : (b : Bool) → test (get_or list j 0) ≡ b → (least_to none test key list j ≡ none) ⊎ Met test key list j (least_to none test key list j)
            → (less (least_to none test key list j) (key (get_or list j 0)) ≡ least_to none test key list j)
            ⊎ (less (least_to none test key list j) (key (get_or list j 0)) ≡ key (get_or list j 0))
            → (cond b (less (least_to none test key list j) (key (get_or list j 0))) (least_to none test key list j) ≡ none)
            ⊎ Met test key list (suc j) (cond b (less (least_to none test key list j) (key (get_or list j 0))) (least_to none test key list j))
        go true q h (inl e) = keep (less (least_to none test key list j) (key (get_or list j 0))) e h
        go true q h (inr e) = inr (record { i = j; early = omega arith; passes = q; has = sym e })
        go false q h w = keep (least_to none test key list j) refl h

-- ---- of a list that has the places of a kind, and no others, from the lowest on

pub record Listed (P : ℕ → Type 0) (list : List ℕ) (n : ℕ) : Type 0 where
  pub each : (i : ℕ) → i < n → P (get_or list i 0)
  pub all : (f : ℕ) → P f → (i : ℕ) × (i < n) × (get_or list i 0 ≡ f)
  pub rising : (i j : ℕ) → i < j → j < n → get_or list i 0 ≤ get_or list j 0

module _ (P : ℕ → Type 0) (list : List ℕ) (n : ℕ) (l : Listed P list n) (test : ℕ → Bool) (key : ℕ → ℕ) where
  pub listed_most : (f : ℕ) → P f → test f ≡ true → key f ≤ most_to test key list n
  listed_most f p q =
      let r = l.all f p in
      subst (λ (x : ℕ). key x ≤ most_to test key list n) r.2
      (most_all test key list n r.0 r.1 (subst (λ (x : ℕ). test x ≡ true) (sym r.2) q))

  pub listed-one : (most_to test key list n ≡ 0) ⊎ ((f : ℕ) × P f × (test f ≡ true) × (key f ≡ most_to test key list n))
  listed-one = go (most_one test key list n)
    where
      go : (most_to test key list n ≡ 0) ⊎ Met test key list n (most_to test key list n)
          → (most_to test key list n ≡ 0) ⊎ ((f : ℕ) × P f × (test f ≡ true) × (key f ≡ most_to test key list n))
      go (inl e) = inl e
      go (inr m) = inr (get_or list m.i 0, l.each m.i m.early, m.passes, m.has)

  pub listed-place : 1 ≤ most_to test key list n
      → P (place_to test key list n) × (test (place_to test key list n) ≡ true) × (key (place_to test key list n) ≡ most_to test key list n)
  listed-place h =
      let r = place-one test key list n h in (
        subst P r.1 (l.each r.0.i r.0.early),
        subst (λ (x : ℕ). test x ≡ true) r.1 r.0.passes,
        subst (λ (x : ℕ). key x ≡ most_to test key list n) r.1 r.0.has,
      )

  pub listed_low : (f : ℕ) → P f → test f ≡ true → 1 ≤ key f → key f ≡ most_to test key list n → place_to test key list n ≤ f
  listed_low f p q k e =
      let r = l.all f p in
      subst (λ (x : ℕ). place_to test key list n ≤ x) r.2
      (place_low test key list n n l.rising (omega arith) r.0 r.1 (subst (λ (x : ℕ). test x ≡ true) (sym r.2) q)
      (subst (λ (x : ℕ). 1 ≤ key x) (sym r.2) k) (subst (λ (x : ℕ). key x ≡ most_to test key list n) (sym r.2) e))

  module _ (none : ℕ) where
    pub listed_least : (f : ℕ) → P f → test f ≡ true → least_to none test key list n ≤ key f
    listed_least f p q =
        let r = l.all f p in
        subst (λ (x : ℕ). least_to none test key list n ≤ key x) r.2
        (least_all test key list none n r.0 r.1 (subst (λ (x : ℕ). test x ≡ true) (sym r.2) q))

    pub listed_least_one : (least_to none test key list n ≡ none) ⊎ ((f : ℕ) × P f × (test f ≡ true) × (key f ≡ least_to none test key list n))
    listed_least_one = go (least_one test key list none n)
      where
        go : (least_to none test key list n ≡ none) ⊎ Met test key list n (least_to none test key list n)
            → (least_to none test key list n ≡ none) ⊎ ((f : ℕ) × P f × (test f ≡ true) × (key f ≡ least_to none test key list n))
        go (inl e) = inl e
        go (inr m) = inr (get_or list m.i 0, l.each m.i m.early, m.passes, m.has)
