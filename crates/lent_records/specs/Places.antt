-- Eight places with the names 1 to 8: what stands under a name, and what a change under one leaves. Assumes nothing.
use Rattle.std.specs.Prelude.{◌≡◌, Bool, true, false, cond, ◌&&◌, List, ◌∷◌, map, leb, length, get_or, set, Option, Some, None, Result, Ok, Err}
use Rattle.std.proofs.Math.Path.{refl}
use Rattle.std.proofs.Common.{ap, arith, leb-true}
use Rattle.std.proofs.lemmas.List.{map-set, get_or_default}
use Prim.Native.Nat.{ℕ, zero, suc, ◌-◌, ◌≤◌, ◌<◌}
use Rattle.std.proofs.Math.ListN.{length-set, get_or-map}
use Rattle.std.proofs.Math.Seq.{get_or-set_same, get_or-set_other}
use Rattle.lists.specs.Bools.{by_cases, and_both}

-- "names 1 to 8", "its places 1 to 8"
abbrev pub places : ℕ
places = 8

abbrev pub is_name : ℕ → Bool
is_name k = leb 1 k && leb k places

pub name_range : (k : ℕ) → is_name k ≡ true → (1 ≤ k) × (k ≤ places)
name_range k h = let r = and_both (leb 1 k) (leb k places) h in (leb-true 1 k r.0, leb-true k places r.1)

-- where it stands among the eight, counted from 0; none for another number
unfoldable pub place_of : ℕ → Option ℕ
place_of k = cond (is_name k) (Some (k - 1)) None

pub place_some : (k i : ℕ) → Some i ≡ place_of k → (is_name k ≡ true) × (k ≡ suc i) × (i < places)
unfolding place_of
place_some k i e = by_cases (is_name k) (λ n. named n (rw n at e)) (λ n. let q = (rw n at e) in cc)
  where
    named : is_name k ≡ true → Some i ≡ Some (k - 1) → (is_name k ≡ true) × (k ≡ suc i) × (i < places)
    named n q = let same : i ≡ k - 1 = cc in let r = name_range k n in (n, omega arith, omega arith)

pub place_none : (k : ℕ) → None ≡ place_of k → is_name k ≡ false
unfolding place_of
place_none k e = by_cases (is_name k) (λ n. let q = (rw n at e) in cc) (λ n. n)

-- what a test of a name answers: the place, where there is no fault; or the refusal that has the fault's number
abbrev pub AtPlace : {R : Type 0} → (R → ℕ) → ℕ → ℕ → Result ℕ R → Type 0
AtPlace number fault k (Ok at) = (fault ≡ 0) × (k ≡ suc at) × (at < places)
AtPlace number fault k (Err r) = number r ≡ fault

module _ {A : Type 0} where
  -- what stands under a name; z where it is none
  unfoldable pub under : A → List A → ℕ → A
  under z l k = get_or (z ∷ l) k z

  unfoldable pub put : List A → ℕ → A → List A
  put l zero v = l
  put l (suc k) v = set l k v

  -- at a place of the list it is the same, whatever stands past its end
  pub under_at : (x z : A) (l : List A) (i : ℕ) → i < length l → get_or l i x ≡ under z l (suc i)
  unfolding under
  under_at x z l i h = get_or_default l i x z h

  pub put-size : (l : List A) (k : ℕ) (v : A) → length (put l k v) ≡ length l
  unfolding put
  put-size l zero v = refl
  put-size l (suc k) v = length-set l k v

  pub put_same : (z : A) (l : List A) (k : ℕ) (v : A) → 1 ≤ k → k ≤ length l → under z (put l k v) k ≡ v
  unfolding under put
  put_same z l zero v low high = absurd (omega arith)
  put_same z l (suc k) v low high = get_or-set_same l k v z high

  pub put_other : (z : A) (l : List A) (k j : ℕ) (v : A) → (j ≡ k → ⊥) → under z (put l k v) j ≡ under z l j
  unfolding under put
  put_other z l zero j v h = refl
  put_other z l (suc k) zero v h = refl
  put_other z l (suc k) (suc j) v h = get_or-set_other l k j v z (λ e. h (ap suc e))

module _ {A B : Type 0} (f : A → B) where
  pub under-map : (z : A) (l : List A) (k : ℕ) → under (f z) (map f l) k ≡ f (under z l k)
  unfolding under
  under-map z l k = get_or-map f (z ∷ l) k z

  pub map-put : (l : List A) (k : ℕ) (v : A) → map f (put l k v) ≡ put (map f l) k (f v)
  unfolding put
  map-put l zero v = refl
  map-put l (suc k) v = map-set f l k v
