-- Greedy choice: of edges looked at one after the other, keep each that passes a test on those before it. A list of edges is read from
-- its end, so what is looked at first stands last. Where the edges come by weight and no part of the edges looked at has more of a set
-- than of the kept ones, the kept ones weigh no more than the set: summation by parts. Assumes nothing.
use Rattle.std.specs.Prelude.{◌≡◌, ◌⊎◌, Bool}
use Rattle.std.proofs.Math.Path.{refl, ap}
use Rattle.std.proofs.Common.{sym, ◌∙◌, mul-le-mul_left}
use Rattle.std.proofs.Math.Logic.{inl, inr}
use Rattle.std.proofs.Math.Bool.{true, false}
use mathlib.Core.List.{List, [], ◌∷◌, ◌++◌}
use Prim.Native.Nat.{ℕ, suc, ◌+◌, ◌-◌, ◌*◌, ◌≤◌}
use native.Mathlib.Omega.{arith}
use Rattle.std.proofs.Math.ListN.{length}
use Rattle.lists.specs.Bools.{bit, by_cases}
use Rattle.lists.specs.Members.{◌∈◌}
use Rattle.lists.specs.Select.{keep, select, select_in, in_select, select_full}
use Rattle.lists.specs.Distinct.{Distinct, distinct-select}
use Rattle.lists.specs.Weights.{weight, keep-length, keep-weight}
use Rattle.lists.specs.Sets.{NumberSet}
use Rattle.lists.specs.Same.{Shuffle, under, turn, chain, shuffle_self, shuffle_same, shuffle_length, shuffle_weight}

-- ---- the choice

module _ (j : List ℕ → ℕ → Bool) where
  -- keep an edge where the test passes it, given the edges behind it
  unfoldable pub choose : List ℕ → List ℕ
  choose [] = []
  choose (e ∷ es) = keep (j es e) e (choose es)

  pub choose_in : (es : List ℕ) (k : ℕ) → k ∈ choose es → k ∈ es
  unfolding choose
  choose_in [] k m = m
  choose_in (e ∷ es) k m = go (j es e) m (λ i. choose_in es k i)
    where
      go : (b : Bool) → k ∈ keep b e (choose es) → (k ∈ choose es → k ∈ es) → (k ≡ e) ⊎ (k ∈ es)
      go true (inl h) below = inl h
      go true (inr h) below = inr (below h)
      go false h below = inr (below h)

  -- what is kept of the edges behind stays
  pub choose_base : (es base : List ℕ) (k : ℕ) → k ∈ choose base → k ∈ choose (es ++ base)
  unfolding choose
  choose_base [] base k m = m
  choose_base (e ∷ es) base k m = go (j (es ++ base) e) (choose_base es base k m)
    where
      go : (b : Bool) → k ∈ choose (es ++ base) → k ∈ keep b e (choose (es ++ base))
      go true h = inr h
      go false h = h

  pub distinct-choose : (es : List ℕ) → Distinct es → Distinct (choose es)
  unfolding choose
  distinct-choose [] d = tt
  distinct-choose (e ∷ es) d = go (j es e) (distinct-choose es d.1)
    where
      go : (b : Bool) → Distinct (choose es) → Distinct (keep b e (choose es))
      go true h = ((λ m. d.0 (choose_in es e m)), h)
      go false h = h

  pub choose-length : (es : List ℕ) → length (choose es) ≤ length es
  unfolding choose
  choose-length [] = omega arith
  choose-length (e ∷ es) = go (j es e) (choose-length es)
    where
      go : (b : Bool) → length (choose es) ≤ length es → length (keep b e (choose es)) ≤ suc (length es)
      go true h = omega arith
      go false h = omega arith

  -- as many as there are: all of them
  pub choose_full : (es : List ℕ) → length (choose es) ≡ length es → choose es ≡ es
  unfolding choose
  choose_full [] h = refl
  choose_full (e ∷ es) h = go (j es e) h (λ i. choose_full es i)
    where
      go : (b : Bool) → length (keep b e (choose es)) ≡ suc (length es) → (length (choose es) ≡ length es → choose es ≡ es)
          → keep b e (choose es) ≡ e ∷ es
      go true i below = ap (λ (l : List ℕ). e ∷ l) (below (omega arith))
      go false i below = absurd (let z : suc (length es) ≤ length es = omega (arith, choose-length es) in omega arith)

-- one fewer than there are: one edge of xs is dropped, where nothing of the edges behind xs is
pub record Dropped (j : List ℕ → ℕ → Bool) (xs base : List ℕ) : Type 0 where
  pub g : ℕ
  pub from : g ∈ xs
  pub rest : Shuffle (xs ++ base) (g ∷ choose j (xs ++ base))

pub dropped : (j : List ℕ → ℕ → Bool) (xs base : List ℕ) → choose j base ≡ base
    → length (xs ++ base) ≡ suc (length (choose j (xs ++ base))) → Dropped j xs base
unfolding choose
dropped j [] base whole h = absurd (let z : suc (length base) ≤ length base = omega (arith, ap length whole) in omega arith)
dropped j (x ∷ xs) base whole h = by_cases (j (xs ++ base) x) (λ e. later e (dropped j xs base whole (omega (arith, rw e at h)))) here
  where
    later : j (xs ++ base) x ≡ true → Dropped j xs base → Dropped j (x ∷ xs) base
    later e r = record { g = r.g; from = inr r.from; rest = rw e (chain (under x r.rest) (turn x r.g)) }

    here : j (xs ++ base) x ≡ false → Dropped j (x ∷ xs) base
    here e =
        let all : choose j (xs ++ base) ≡ xs ++ base = choose_full j (xs ++ base) (omega (arith, rw e at h)) in
        record { g = x; from = inl refl; rest = rw (e, all) (shuffle_self (x ∷ (xs ++ base))) }

-- ---- weights that descend

-- from c: what is looked at first, and stands last, is lightest
abbrev pub Desc : (ℕ → ℕ) → ℕ → List ℕ → Type 0
Desc w c [] = Unit {0}
Desc w c (e ∷ es) = (w e ≤ c) × Desc w (w e) es

-- ---- summation by parts

-- wherever the looking stops, in front of base, the set t has no more of the edges than are kept
abbrev pub Dominates : (List ℕ → ℕ → Bool) → NumberSet → List ℕ → List ℕ → Type 0
Dominates j t base [] = Unit {0}
Dominates j t base (e ∷ es) =
    (length (select t (e ∷ (es ++ base))) ≤ length (choose j (e ∷ (es ++ base)))) × Dominates j t base es

raise : (A B x y w c : ℕ) → A + w * x ≤ B + w * y → x ≤ y → w ≤ c → A + c * x ≤ B + c * y
raise A B x y w c h k l = let e : c ≡ w + (c - w) = omega arith in rw e (omega (arith, mul-le-mul_left (c - w) k))

one_more : (A B x y w a b : ℕ) {A' B' x' y' : ℕ} → A' ≡ w * a + A → B' ≡ w * b + B → x' ≡ b + x → y' ≡ a + y
    → A + w * x ≤ B + w * y → A' + w * x' ≤ B' + w * y'
one_more A B x y w a b e f g h k = rw (e, f, g, h) (omega arith)

module _ (j : List ℕ → ℕ → Bool) (w : ℕ → ℕ) (t : NumberSet) (base : List ℕ) (same : choose j base ≡ select t base) where
  -- but for c at each edge that one of the two lacks
  by_parts : (c : ℕ) (es : List ℕ) → Dominates j t base es → Desc w c es
      → weight w (choose j (es ++ base)) + c * length (select t (es ++ base))
      ≤ weight w (select t (es ++ base)) + c * length (choose j (es ++ base))
  unfolding choose select
  by_parts c [] m d = rw same (omega arith)
  by_parts c (e ∷ es) m d =
      raise _ _ _ _ (w e) c
      (one_more (weight w kept) (weight w had) (length had) (length kept) (w e) (bit keeps) (bit (t e))
      (keep-weight w keeps e kept) (keep-weight w (t e) e had) (keep-length (t e) e had) (keep-length keeps e kept)
      (by_parts (w e) es m.1 d.1))
      m.0 d.0
    where
      kept : List ℕ
      kept = choose j (es ++ base)

      had : List ℕ
      had = select t (es ++ base)

      keeps : Bool
      keeps = j (es ++ base) e

  pub choose_least : (c : ℕ) (es : List ℕ) → Dominates j t base es → Desc w c es
      → length (choose j (es ++ base)) ≡ length (select t (es ++ base))
      → weight w (choose j (es ++ base)) ≤ weight w (select t (es ++ base))
  choose_least c es m d size = omega (arith, rw size at (by_parts c es m d))

-- ---- the edges in the order in which they are looked at

-- two listings of the same edges
pub record Listing (all es : List ℕ) : Type 0 where
  pub once : Distinct all
  pub once' : Distinct es
  pub there : (k : ℕ) → k ∈ all → k ∈ es
  pub back : (k : ℕ) → k ∈ es → k ∈ all

module _ (all es : List ℕ) (l : Listing all es) (t : NumberSet) where
  -- a set selects the same from both, in another order
  pub select_listing : Shuffle (select t es) (select t all)
  select_listing =
      shuffle_same (select t all) (select t es) (distinct-select t all l.once) (distinct-select t es l.once') there back
    where
      there : (k : ℕ) → k ∈ select t all → k ∈ select t es
      there k m = in_select t es k (l.there k (select_in t all k m).0) (select_in t all k m).1

      back : (k : ℕ) → k ∈ select t es → k ∈ select t all
      back k m = in_select t all k (l.back k (select_in t es k m).0) (select_in t es k m).1

  -- a set that has just the chosen of all the edges
  pub select_chosen : (j : List ℕ → ℕ → Bool) → ((k : ℕ) → k ∈ all → t k ≡ true → k ∈ choose j es)
      → ((k : ℕ) → k ∈ choose j es → t k ≡ true) → Shuffle (select t all) (choose j es)
  select_chosen j into of =
      shuffle_same (choose j es) (select t all) (distinct-choose j es l.once') (distinct-select t all l.once) back there
    where
      there : (k : ℕ) → k ∈ select t all → k ∈ choose j es
      there k m = into k (select_in t all k m).0 (select_in t all k m).1

      back : (k : ℕ) → k ∈ choose j es → k ∈ select t all
      back k m = in_select t all k (l.back k (choose_in j es k m)) (of k m)

-- picked has as many edges as t has of all, weighs no more, and has the edges that must be in
pub record Beats (w : ℕ → ℕ) (all must picked : List ℕ) (t : NumberSet) : Type 0 where
  pub size : length picked ≡ length (select t all)
  pub lighter : weight w picked ≤ weight w (select t all)
  pub base : (k : ℕ) → k ∈ must → k ∈ picked

-- THE CHOICE IS LEAST: first the edges rs that must be in, then the edges fs by weight
pub choose_beats : (j : List ℕ → ℕ → Bool) (w : ℕ → ℕ) (all fs rs : List ℕ) → Listing all (fs ++ rs) → (c : ℕ) → Desc w c fs
    → (t : NumberSet) → ((k : ℕ) → k ∈ rs → t k ≡ true) → choose j rs ≡ rs → Dominates j t rs fs
    → length (choose j (fs ++ rs)) ≡ length (select t (fs ++ rs)) → Beats w all rs (choose j (fs ++ rs)) t
choose_beats j w all fs rs l c d t keeps whole m size = record {
  size = size ∙ shuffle_length (select_listing all (fs ++ rs) l t);
  lighter = omega (arith, choose_least j w t rs same c fs m d size, shuffle_weight w (select_listing all (fs ++ rs) l t));
  base = λ k i. choose_base j fs rs k (rw whole i);
}
  where
    same : choose j rs ≡ select t rs
    same = whole ∙ sym (select_full t rs keeps)
