-- One array of keys in ascending order has those of the edges at vertex 1 and then all others, each part in the order of its keys. Assumes nothing.
use Rattle.std.specs.Prelude.{◌≡◌, refl, ◌≢◌, ◌⊎◌, Bool, true, false, not, List, [], ◌∷◌, ℕ, zero, suc, ◌+◌, ◌-◌, ◌%◌, ◌<◌, ◌≤◌, get_or}
use Rattle.std.proofs.Common.{◌∙◌, sym, ap, inl, inr, true≢false, arith}
use Rattle.std.proofs.lemmas.Bool.{false≢true, not-true}
use Rattle.std.proofs.Math.Nat.{mul-add-mod_self_right}
use Rattle.std.proofs.Math.Decide.{ℕ_discrete, dec_le}
use Rattle.graph.specs.declared.Graph.{Graph}
use Rattle.greedy.specs.Charged.{max_charge, Cheap}
use Rattle.greedy.specs.Fits.{near-below}
use Rattle.lists.specs.Sorting.{Ascending}
use Rattle.greedy.specs.Keys.{key_at, key_charge, charge_most, key_parts, far_charge, far_keys, near_at, far_at, parted_at, parted_near, parted_far, AllKeyed, Keyed}

-- r is the first of the first f places whose key is at least `least`, or f
abbrev pub Reached : List ℕ → ℕ → ℕ → ℕ → Type 0
Reached ks f least r = (r ≤ f) × ((i : ℕ) → i < r → get_or ks i 0 < least) × (r < f → least ≤ get_or ks r 0)

-- the keys from place p on, as they are by themselves
unfoldable pub unraised : List ℕ → ℕ → List ℕ
unraised [] p = []
unraised (x ∷ xs) zero = (x - far_keys) ∷ unraised xs zero
unraised (x ∷ xs) (suc p) = unraised xs p

pub unraised-at : (ks : List ℕ) (p i : ℕ) → get_or (unraised ks p) i 0 ≡ get_or ks (p + i) 0 - far_keys
unfolding unraised
unraised-at [] p i = refl
unraised-at (x ∷ xs) zero zero = refl
unraised-at (x ∷ xs) zero (suc i) = let e : 0 + suc i ≡ suc (0 + i) = omega arith in rw e (unraised-at xs zero i)
unraised-at (x ∷ xs) (suc p) i = let e : suc p + i ≡ suc (p + i) = omega arith in rw e (unraised-at xs p i)

-- no key by itself reaches those
key_below : (g : Graph) (c : List ℕ) (k : ℕ) → get_or c k 0 ≤ max_charge → k < 256 → key_at g c k < far_keys
key_below g c k h l =
    let mark = get_or g.mark k 0 in
    omega (
      arith,
      key_parts mark (get_or c k 0) k,
      near-below (key_charge mark (get_or c k 0)) k (omega (arith, charge_most mark (get_or c k 0))) l,
    )

module _ (g : Graph) (c : List ℕ) (ks : List ℕ) (f p : ℕ) (small : g.m ≤ 256) (cheap : Cheap g c)
    (y : AllKeyed g c ks f) (ascends : Ascending f ks) (s : Reached ks f far_keys p) where
  abbrev fs : List ℕ
  fs = unraised ks p

  -- the keys before place p are below, and all others are not
  below : (i : ℕ) → i < p → get_or ks i 0 < far_keys
  below i l = s.1 i l

  above : (i : ℕ) → p ≤ i → i < f → far_keys ≤ get_or ks i 0
  above i h l = go (ℕ_discrete p i)
    where
      go : Dec (p ≡ i) → far_keys ≤ get_or ks i 0
      go (yes e) = rw (← e) (s.2 (omega arith))
      go (no e) = omega (arith, s.2 (omega arith), ascends p i (omega arith) l)

  -- the edge at place k with the key in turn i: its kind by the key
  abbrev By : ℕ → ℕ → Bool → Type 0
  By i k near =
      ((get_or ks i 0 < far_keys) × (near ≡ true) × (get_or ks i 0 ≡ key_at g c k))
      ⊎ ((far_keys ≤ get_or ks i 0) × (near ≡ false) × (get_or ks i 0 ≡ far_keys + key_at g c k))

  by_key : (i k : ℕ) → k < g.m → get_or ks i 0 ≡ parted_at g c k → (near : Bool) → near_at g.a k ≡ near → By i k near
  by_key i k l e false h = inr (omega (arith, e, parted_far g c k h), refl, e ∙ parted_far g c k h)
  by_key i k l e true h =
      inl (omega (arith, e, parted_near g c k h, key_below g c k (cheap k l) (omega arith)), refl, e ∙ parted_near g c k h)

  pub near_keyed : Keyed (near_at g.a) g c ks p
  near_keyed = record {
    form = λ i l. let r = y.form i (omega (arith, s.0)) in form i l r (by_key i r.0 r.1 r.3 _ refl);
    all = λ k l n t. let r = y.all k l n in all k r (by_key r.0 k l r.2 _ t);
    once = λ i j l o e. y.once i j (omega (arith, s.0)) (omega (arith, s.0)) e;
    few = omega (arith, s.0, y.few);
  }
    where
      form : (i : ℕ) → i < p → (r : (k : ℕ) × (k < g.m) × (get_or g.mark k 0 ≢ 2) × (get_or ks i 0 ≡ parted_at g c k))
          → By i r.0 (near_at g.a r.0) → (k : ℕ) × (k < g.m) × (get_or g.mark k 0 ≢ 2) × (get_or ks i 0 ≡ key_at g c k) × (near_at g.a k ≡ true)
      form i l r (inl q) = (r.0, r.1, r.2, q.2, q.1)
      form i l r (inr q) = absurd (omega (arith, below i l, q.0))

      all : (k : ℕ) → (r : (i : ℕ) × (i < f) × (get_or ks i 0 ≡ parted_at g c k)) → By r.0 k true
          → (i : ℕ) × (i < p) × (get_or ks i 0 ≡ key_at g c k)
      all k r (inr q) = absurd (true≢false q.1)
      all k r (inl q) = (r.0, at (dec_le p r.0), q.2)
        where
          at : Dec (p ≤ r.0) → r.0 < p
          at (yes h) = absurd (omega (arith, above r.0 h r.1, q.0))
          at (no h) = omega arith

  pub near_ascends : Ascending p ks
  near_ascends i j l o = ascends i j l (omega (arith, s.0))

  pub raised_at : (i : ℕ) → p + i < f → get_or ks (p + i) 0 ≡ far_keys + get_or fs i 0
  raised_at i l = omega (arith, unraised-at ks p i, above (p + i) (omega arith) l)

  pub far_keyed : Keyed (far_at g.a) g c fs (f - p)
  far_keyed = record {
    form = λ i l. let r = y.form (p + i) (omega arith) in form i (omega arith) r (by_key (p + i) r.0 r.1 r.3 _ refl);
    all = λ k l n t. let r = y.all k l n in all k r (by_key r.0 k l r.2 _ (not-true _ t));
    once = λ i j l o e.
        let z : p + i ≡ p + j = y.once (p + i) (p + j) (omega arith) (omega arith)
        (raised_at i (omega arith) ∙ ap (λ (x : ℕ). far_keys + x) e ∙ sym (raised_at j (omega arith))) in
        omega arith;
    few = omega (arith, y.few);
  }
    where
      form : (i : ℕ) → p + i < f → (r : (k : ℕ) × (k < g.m) × (get_or g.mark k 0 ≢ 2) × (get_or ks (p + i) 0 ≡ parted_at g c k))
          → By (p + i) r.0 (near_at g.a r.0)
          → (k : ℕ) × (k < g.m) × (get_or g.mark k 0 ≢ 2) × (get_or fs i 0 ≡ key_at g c k) × (far_at g.a k ≡ true)
      form i l r (inl q) = absurd (omega (arith, above (p + i) (omega arith) l, q.0))
      form i l r (inr q) = (r.0, r.1, r.2, omega (arith, q.2, raised_at i l), ap not q.1)

      all : (k : ℕ) → (r : (i : ℕ) × (i < f) × (get_or ks i 0 ≡ parted_at g c k)) → By r.0 k false
          → (i : ℕ) × (i < f - p) × (get_or fs i 0 ≡ key_at g c k)
      all k r (inl q) = absurd (false≢true q.1)
      all k r (inr q) = (r.0 - p, omega (arith, r.1, behind), omega (arith, q.2, ap (λ (x : ℕ). get_or ks x 0) back, unraised-at ks p (r.0 - p)))
        where
          at : Dec (r.0 < p) → p ≤ r.0
          at (yes h) = absurd (omega (arith, below r.0 h, q.0))
          at (no h) = omega arith

          behind : p ≤ r.0
          behind = at (dec_le (suc r.0) p)

          back : p + (r.0 - p) ≡ r.0
          back = omega (arith, behind)

  pub far_ascends : Ascending (f - p) fs
  far_ascends i j l o =
      omega (arith, raised_at i (omega arith), raised_at j (omega arith), ascends (p + i) (p + j) (omega arith) (omega arith))

  -- a key raised or by itself is of one edge
  pub same-places : (i : ℕ) → p + i < f → get_or ks (p + i) 0 % 256 ≡ get_or fs i 0 % 256
  same-places i l = rw (raised_at i l) (mul-add-mod_self_right far_charge 256 (get_or fs i 0))
