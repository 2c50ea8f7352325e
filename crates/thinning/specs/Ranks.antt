-- The numbers 1 to m of which only those in a set c are kept: the new number of a kept one (`rank`), and the old number of a new one
-- (`nth`). What goes through 1 to m and passes over all that is not kept, goes through the new numbers alike. Assumes nothing.
use Rattle.std.specs.Prelude.{◌≡◌, ◌≢◌, Bool, cond, ◌&&◌, ◌||◌, eqb}
use Rattle.std.proofs.Math.Path.{refl, sym}
use Rattle.std.proofs.Common.{ap, ◌∙◌, eq-eqb, ne_eqb}
use Rattle.std.proofs.Math.Bool.{true, false}
use mathlib.Core.List.{List, ◌∷◌, map}
use Prim.Native.Nat.{ℕ, zero, suc, ◌≤◌, ◌<◌}
use native.Mathlib.Omega.{arith}
use Rattle.std.proofs.Math.Decide.{ℕ_discrete}
use Rattle.lists.specs.Bools.{by_cases}
use Rattle.lists.specs.Members.{◌∈◌}
use Rattle.lists.specs.All.{some_of}
use Rattle.lists.specs.Select.{keep, select}
use Rattle.lists.specs.Numbers.{up_to, up_to_in, in_up_to}
use Rattle.tree_theory.specs.OneTree.{Edges, lacks_first, unless}

-- one more where the test says so
abbrev more : Bool → ℕ → ℕ
more true n = suc n
more false n = n

-- how many of 1 to k are kept: the new number of k, where k is kept
unfoldable pub rank : Edges → ℕ → ℕ
rank c zero = 0
rank c (suc k) = more (c (suc k)) (rank c k)

-- which of 1 to m has the new number j; 0 where none has
unfoldable pub nth : Edges → ℕ → ℕ → ℕ
unfolding rank
nth c zero j = 0
nth c (suc m) j = cond (c (suc m) && eqb j (rank c (suc m))) (suc m) (nth c m j)

pick_same : (b : Bool) (r x y : ℕ) → b ≡ true → cond (b && eqb r r) x y ≡ x
pick_same b r x y e = rw (e, eq-eqb r r refl)

pick_other : (b : Bool) (r j x y : ℕ) → (b ≡ true → j ≢ r) → cond (b && eqb j r) x y ≡ y
pick_other true r j x y h = rw (ne_eqb j r (h refl))
pick_other false r j x y h = refl

-- the kept number that has the new number j: one more than its place
pub record Kept (c : Edges) (m j : ℕ) : Type 0 where
  pub place : ℕ
  pub low : place < m
  pub kept : c (suc place) ≡ true
  pub new : rank c (suc place) ≡ j

module _ (c : Edges) where
  -- ---- new numbers

  pub rank_yes : (k : ℕ) → c (suc k) ≡ true → rank c (suc k) ≡ suc (rank c k)
  unfolding rank
  rank_yes k e = rw e

  pub rank_no : (k : ℕ) → c (suc k) ≡ false → rank c (suc k) ≡ rank c k
  unfolding rank
  rank_no k e = rw e

  rank_step : (k : ℕ) → rank c k ≤ rank c (suc k)
  rank_step k = by_cases (c (suc k)) (λ e. omega (arith, rank_yes k e)) (λ e. omega (arith, rank_no k e))

  pub rank_most : (k : ℕ) → rank c k ≤ k
  unfolding rank
  rank_most zero = omega arith
  rank_most (suc k) = go (c (suc k)) (rank_most k)
    where
      go : (b : Bool) → rank c k ≤ k → more b (rank c k) ≤ suc k
      go true h = omega arith
      go false h = omega arith

  pub rank_mono : (j k : ℕ) → j ≤ k → rank c j ≤ rank c k
  rank_mono j zero h = let e : j ≡ 0 = omega arith in rw e (omega arith)
  rank_mono j (suc k) h = go (ℕ_discrete j (suc k)) (λ i. rank_mono j k i)
    where
      go : Dec (j ≡ suc k) → (j ≤ k → rank c j ≤ rank c k) → rank c j ≤ rank c (suc k)
      go (yes e) below = rw e (omega arith)
      go (no e) below = omega (arith, below (omega arith), rank_step k)

  -- a kept number's place, counted from 0, is before those of all later ones
  pub rank_less : (j k : ℕ) → j < k → c (suc j) ≡ true → rank c j < rank c k
  rank_less j k h e = omega (arith, rank_yes j e, rank_mono (suc j) k h)

  -- ---- old numbers

  nth-same : (m : ℕ) → c (suc m) ≡ true → nth c (suc m) (rank c (suc m)) ≡ suc m
  unfolding nth
  nth-same m e = pick_same (c (suc m)) (rank c (suc m)) (suc m) (nth c m (rank c (suc m))) e

  pub nth_other : (m j : ℕ) → (c (suc m) ≡ true → j ≢ rank c (suc m)) → nth c (suc m) j ≡ nth c m j
  unfolding nth
  nth_other m j h = pick_other (c (suc m)) (rank c (suc m)) j (suc m) (nth c m j) h

  pub nth_zero : (m : ℕ) → nth c m 0 ≡ 0
  nth_zero zero = unfold nth in refl
  nth_zero (suc m) = nth_other m 0 (λ e. omega (arith, rank_yes m e)) ∙ nth_zero m

  pub nth_past : (m j : ℕ) → rank c m < j → nth c m j ≡ 0
  nth_past zero j h = unfold nth in refl
  nth_past (suc m) j h =
      nth_other m j (λ e. omega arith) ∙ nth_past m j (omega (arith, rank_step m))

  -- THE OLD NUMBER OF THE NEW NUMBER
  pub nth-rank : (m i : ℕ) → i < m → c (suc i) ≡ true → nth c m (rank c (suc i)) ≡ suc i
  nth-rank zero i h e = absurd (omega arith)
  nth-rank (suc m) i h e = go (ℕ_discrete i m) (λ l. nth-rank m i l e)
    where
      go : Dec (i ≡ m) → (i < m → nth c m (rank c (suc i)) ≡ suc i) → nth c (suc m) (rank c (suc i)) ≡ suc i
      go (yes q) below = rw q (nth-same m (rw (← q) e))
      go (no q) below =
          let l : i < m = omega arith in
          nth_other m (rank c (suc i)) (λ f. omega (arith, rank_yes m f, rank_mono (suc i) m l)) ∙ below l

  -- and the new number of an old one
  pub rank-nth : (m j : ℕ) → 1 ≤ j → j ≤ rank c m → Kept c m j
  rank-nth zero j l h = absurd (unfold rank in omega arith)
  rank-nth (suc m) j l h = go (ℕ_discrete j (rank c (suc m))) (λ i. later (rank-nth m j l i))
    where
      later : Kept c m j → Kept c (suc m) j
      later k = record { place = k.place; low = omega arith; kept = k.kept; new = k.new }

      pick : (b : Bool) → c (suc m) ≡ b → j ≡ rank c (suc m) → (j ≤ rank c m → Kept c (suc m) j) → Kept c (suc m) j
      pick true e q below = record { place = m; low = omega arith; kept = e; new = sym q }
      pick false e q below = below (omega (arith, rank_no m e))

      less : (b : Bool) → c (suc m) ≡ b → j ≢ rank c (suc m) → j ≤ rank c m
      less true e q = omega (arith, rank_yes m e)
      less false e q = omega (arith, rank_no m e)

      go : Dec (j ≡ rank c (suc m)) → (j ≤ rank c m → Kept c (suc m) j) → Kept c (suc m) j
      go (yes q) below = pick (c (suc m)) refl q below
      go (no q) below = below (less (c (suc m)) refl q)

-- ---- of the edges 1 to m

keep-map : (f : ℕ → ℕ) (b : Bool) (k x : ℕ) (l r : List ℕ) → f x ≡ k → l ≡ map f r → keep b k l ≡ map f (keep b x r)
keep-map f true k x l r q e = rw (q, e)
keep-map f false k x l r q e = e

some_of-or : (f : ℕ → Bool) (x : ℕ) (xs : List ℕ) → some_of f (x ∷ xs) ≡ f x || some_of f xs
unfolding some_of
some_of-or f x xs = go (f x)
  where
    go : (b : Bool) → (elim b as (λ z. Bool) [ true ↦ true | false ↦ some_of f xs ]) ≡ b || some_of f xs
    go true = refl
    go false = refl

module _ (c : Edges) (m : ℕ) where
  -- a kept edge has a new number, and the new number leads back to it
  pub rank_in : (k : ℕ) → k ∈ up_to m → c k ≡ true → rank c k ∈ up_to (rank c m)
  rank_in zero i e = absurd (let z : 1 ≤ 0 = (in_up_to m zero i).0 in omega arith)
  rank_in (suc k) i e =
      up_to_in (rank c m) (rank c (suc k)) (omega (arith, rank_yes c k e)) (rank_mono c (suc k) m (in_up_to m (suc k) i).1)

  pub nth_of : (k : ℕ) → k ∈ up_to m → c k ≡ true → nth c m (rank c k) ≡ k
  nth_of zero i e = absurd (let z : 1 ≤ 0 = (in_up_to m zero i).0 in omega arith)
  nth_of (suc k) i e = nth-rank c m k (in_up_to m (suc k) i).1 e

  -- a new number stands for a kept edge
  kept_of_lem : (j : ℕ) → j ∈ up_to (rank c m) → Kept c m j
  kept_of_lem j i = let r = in_up_to (rank c m) j i in rank-nth c m j r.0 r.1

  nth_is : (j : ℕ) (i : j ∈ up_to (rank c m)) → nth c m j ≡ suc (kept_of_lem j i).place
  nth_is j i =
      let k = kept_of_lem j i in
      ap (nth c m) (sym k.new) ∙ nth-rank c m k.place k.low k.kept

  pub nth_in : (j : ℕ) → j ∈ up_to (rank c m) → nth c m j ∈ up_to m
  nth_in j i = rw (nth_is j i) (up_to_in m (suc (kept_of_lem j i).place) (omega arith) (kept_of_lem j i).low)

  pub nth-kept : (j : ℕ) → j ∈ up_to (rank c m) → c (nth c m j) ≡ true
  nth-kept j i = ap c (nth_is j i) ∙ (kept_of_lem j i).kept

  pub rank_back : (j : ℕ) → j ∈ up_to (rank c m) → rank c (nth c m j) ≡ j
  rank_back j i = ap (rank c) (nth_is j i) ∙ (kept_of_lem j i).new

  next : (k : ℕ) → k < m → c (suc k) ≡ true → nth c m (suc (rank c k)) ≡ suc k
  next k h e = ap (nth c m) (sym (rank_yes c k e)) ∙ nth-rank c m k h e

  -- ---- what passes over all that is not kept

  -- a test that no edge passes but kept ones
  abbrev pub Only : (ℕ → Bool) → Type 0
  Only t = (k : ℕ) → k ∈ up_to m → c k ≡ false → t k ≡ false

  -- a set in new numbers
  abbrev pub down : Edges → Edges
  down t j = t (nth c m j)

  module _ (t : Edges) (o : Only t) where
    select_to : (k : ℕ) → k ≤ m → select t (up_to k) ≡ map (nth c m) (select (down t) (up_to (rank c k)))
    unfolding select up_to rank
    select_to zero h = refl
    select_to (suc k) h = go (c (suc k)) refl (select_to k (omega arith))
      where
        go : (b : Bool) → c (suc k) ≡ b → select t (up_to k) ≡ map (nth c m) (select (down t) (up_to (rank c k)))
            → keep (t (suc k)) (suc k) (select t (up_to k)) ≡ map (nth c m) (select (down t) (up_to (more b (rank c k))))
        go true e below = rw (next k h e) (keep-map (nth c m) (t (suc k)) (suc k) (suc (rank c k)) _ _ (next k h e) below)
        go false e below = rw (o (suc k) (up_to_in m (suc k) (omega arith) h) e) below

    pub select-thin : select t (up_to m) ≡ map (nth c m) (select (down t) (up_to (rank c m)))
    select-thin = select_to m (omega arith)

    some_of_to : (k : ℕ) → k ≤ m → some_of t (up_to k) ≡ some_of (down t) (up_to (rank c k))
    unfolding some_of up_to rank
    some_of_to zero h = refl
    some_of_to (suc k) h = go (c (suc k)) refl (some_of_to k (omega arith))
      where
        go : (b : Bool) → c (suc k) ≡ b → some_of t (up_to k) ≡ some_of (down t) (up_to (rank c k))
            → some_of t (suc k ∷ up_to k) ≡ some_of (down t) (up_to (more b (rank c k)))
        go true e below =
            let both : t (suc k) || some_of t (up_to k) ≡ t (nth c m (suc (rank c k))) || some_of (down t) (up_to (rank c k)) =
            rw (next k h e, below)
            in
            some_of-or t (suc k) (up_to k)
            ∙ both
            ∙ sym (some_of-or (down t) (suc (rank c k)) (up_to (rank c k)))
        go false e below =
            some_of-or t (suc k) (up_to k)
            ∙ rw (o (suc k) (up_to_in m (suc k) (omega arith) h) e) below

    pub some_of-thin : some_of t (up_to m) ≡ some_of (down t) (up_to (rank c m))
    some_of-thin = some_of_to m (omega arith)

  module _ (s t : Edges) (os : Only s) (ot : Only t) where
    lacks_to : (k : ℕ) → k ≤ m → lacks_first k s t ≡ lacks_first (rank c k) (down s) (down t)
    unfolding lacks_first rank
    lacks_to zero h = refl
    lacks_to (suc k) h = go (c (suc k)) refl (lacks_to k (omega arith))
      where
        here : suc k ∈ up_to m
        here = up_to_in m (suc k) (omega arith) h

        go : (b : Bool) → c (suc k) ≡ b → lacks_first k s t ≡ lacks_first (rank c k) (down s) (down t)
            → unless (s (suc k)) (t (suc k)) (lacks_first k s t) ≡ lacks_first (more b (rank c k)) (down s) (down t)
        go true e below = rw (next k h e, below)
        go false e below = rw (os (suc k) here e, ot (suc k) here e) below

    pub lacks_thin : lacks_first m s t ≡ lacks_first (rank c m) (down s) (down t)
    lacks_thin = lacks_to m (omega arith)
