-- Laws that no proof cites today: filled lists by places, the greatest of one place more, and rings that stand in one list, that of the edge at
-- place j from place 32 j on. Assumes nothing.
use Rattle.std.specs.Prelude.{◌≡◌, refl, Bool, true, false, eqb, List, [], ◌∷◌, ◌++◌, ℕ, suc, ◌+◌, ◌*◌, ◌%◌, ◌<◌, ◌≤◌, min, length, get_or, set, take, ℤ, pos}
use Rattle.std.proofs.Math.Path.{sym, ap, subst}
use Rattle.std.proofs.Common.{◌∙◌, arith, add-one, length-take-le, length-append, get_or-set_same}
use Rattle.std.proofs.Math.Decide.{ℕ_discrete}
use Rattle.std.proofs.Math.Nat.{mod-lt, mod-le}
use Rattle.std.proofs.Math.ListN.{get_or-append}
use Rattle.std.proofs.Math.Seq.{get_or-set_other, get_or-append_seam}
use Rattle.std.proofs.lemmas.List.{get_or_at}
use Rattle.lists.specs.Members.{◌∈◌}
use Rattle.lists.specs.Select.{keep}
use Rattle.lists.specs.Fill.{fill, fill-size, fill-at, fill_is}
use Rattle.graph.specs.Limits.{max_edges}
use Rattle.recent.specs.Windows.{Window, ring_of}
use Rattle.recent.specs.Costs.{Entry, times_of, larger, greatest, greatest_or, latest, recent_cost, recent_costs}
use Rattle.recent.specs.Answers.{max_window}
use Rattle.recent.specs.Remainders.{remainders_differ, LastWith, last_with}
use Rattle.lists.specs.MembersAt.{at_in, in_at}
use Rattle.recent.specs.Places.{latest_in, in_latest}
use Rattle.recent.specs.Greatest.{same-greatest}
use Rattle.recent.specs.Replay.{Replaying}

-- ---- f 0, .. , f (n − 1)

module _ {A : Type 0} where
  pub fill_in : (n : ℕ) (f : ℕ → A) (i : ℕ) → i < n → f i ∈ fill n f
  fill_in n f i h = rw (← fill-at n f i (f i) h) (at_in (fill n f) i (f i) (omega (arith, fill-size n f)))

  pub in_fill : (n : ℕ) (f : ℕ → A) (x : A) → x ∈ fill n f → (i : ℕ) × (i < n) × (x ≡ f i)
  in_fill n f x m =
      let r = in_at (fill n f) x x m in
      let h : r.0 < n = omega (arith, r.1, fill-size n f) in
      (r.0, h, r.2 ∙ fill-at n f r.0 x h)

  -- one place more
  pub fill-next : (n : ℕ) (f : ℕ → A) → fill (suc n) f ≡ fill n f ++ f n ∷ []
  fill-next n f =
      fill_is (suc n) f (fill n f ++ f n ∷ []) (f n) (length-append (fill n f) (f n ∷ []) ∙ omega (arith, fill-size n f))
      (λ i h. go i h (ℕ_discrete i n))
    where
      go : (i : ℕ) → i < suc n → Dec (i ≡ n) → f i ≡ get_or (fill n f ++ f n ∷ []) i (f n)
      go i h (yes e) = ap f e ∙ sym (get_or_at (fill n f) (f n) [] (f n) i (fill-size n f ∙ sym e))
      go i h (no e) =
          let l : i < n = omega arith in
          sym (fill-at n f i (f n) l) ∙ sym (get_or-append (fill n f) (f n ∷ []) (f n) i (omega (arith, fill-size n f)))

-- ---- the greatest, as a loop over places finds it

greatest-next : (x : ℤ) (l : List ℤ) (y : ℤ) → greatest x (l ++ y ∷ []) ≡ larger (greatest x l) y
unfolding greatest
greatest-next x [] y = refl
greatest-next x (z ∷ l) y = greatest-next (larger x z) l y

one_more : (c : ℤ) (l : List ℤ) (y : ℤ) → 1 ≤ length l → greatest_or c (l ++ y ∷ []) ≡ larger (greatest_or c l) y
unfolding greatest_or
one_more c [] y h = absurd (omega arith)
one_more c (x ∷ l) y h = greatest-next x l y

pub first-place : (c : ℤ) (f : ℕ → ℤ) → greatest_or c (fill 1 f) ≡ f 0
unfolding greatest_or fill
first-place c f = refl

pub next_place_lem : (c : ℤ) (f : ℕ → ℤ) (n : ℕ) → 1 ≤ n → greatest_or c (fill (n + 1) f) ≡ larger (greatest_or c (fill n f)) (f n)
next_place_lem c f n h = rw (add-one, fill-next n f) (one_more c (fill n f) (f n) (omega (arith, fill-size n f)))

-- ---- rings in one list

-- the first n places of the ring of the edge at place k
unfoldable pub held : List ℤ → ℕ → ℕ → List ℤ
unfolding fill
held times k n = fill n (λ i. get_or times (max_window * k + i) (pos 0))

-- one ring, of which place i is place base + i of the list ts: the next time t of T is stored at T's length, by w
pub ring_next : (w base : ℕ) (ts T : List ℤ) (t : ℤ) → 1 ≤ w → base + length T % w < length ts
    → ((i : ℕ) → i < length T → length T ≤ i + w → get_or ts (base + i % w) (pos 0) ≡ get_or T i (pos 0))
    → (i : ℕ) → i < length (T ++ t ∷ []) → length (T ++ t ∷ []) ≤ i + w
    → get_or (set ts (base + length T % w) t) (base + i % w) (pos 0) ≡ get_or (T ++ t ∷ []) i (pos 0)
ring_next w base ts T t low fits old i l k = go (ℕ_discrete i (length T))
  where
    size : length (T ++ t ∷ []) ≡ length T + 1
    size = length-append T (t ∷ [])

    go : Dec (i ≡ length T) → get_or (set ts (base + length T % w) t) (base + i % w) (pos 0) ≡ get_or (T ++ t ∷ []) i (pos 0)
    go (yes q) =
        subst (λ (n : ℕ). get_or (set ts (base + length T % w) t) (base + n % w) (pos 0) ≡ get_or (T ++ t ∷ []) n (pos 0)) (sym q)
        (get_or-set_same ts (base + length T % w) t (pos 0) fits ∙ sym (get_or-append_seam T t [] (pos 0)))
    go (no q) =
        get_or-set_other ts (base + length T % w) (base + i % w) t (pos 0)
        (λ z. remainders_differ w i (length T) (omega (arith, size)) (omega (arith, size)) (omega (arith, z)))
        ∙ old i (omega (arith, size)) (omega (arith, size))
        ∙ sym (get_or-append T (t ∷ []) (pos 0) i (omega (arith, size)))

-- the first places of a ring, as many as it holds, are the last w times T, in some order
module _ (w : ℕ) (low : 1 ≤ w) (ts T : List ℤ) (j : ℕ)
    (ring : (i : ℕ) → i < length T → length T ≤ i + w → get_or ts (max_window * j + i % w) (pos 0) ≡ get_or T i (pos 0)) where
  held_in : (z : ℤ) → z ∈ held ts j (min (length T) w) → z ∈ latest w T
  unfolding held
  held_in z m = go (in_fill (min (length T) w) (λ n. get_or ts (max_window * j + n) (pos 0)) z m)
    where
      go : (n : ℕ) × (n < min (length T) w) × (z ≡ get_or ts (max_window * j + n) (pos 0)) → z ∈ latest w T
      go r = at (last_with w (length T) r.0 (omega (arith, r.1)) (omega (arith, r.1)))
        where
          at : LastWith w (length T) r.0 → z ∈ latest w T
          at s =
              rw (r.2 ∙ ap (λ (n : ℕ). get_or ts (max_window * j + n) (pos 0)) (sym s.place) ∙ ring s.at s.below s.near)
              (latest_in w T s.at s.below s.near)

  in_held : (z : ℤ) → z ∈ latest w T → z ∈ held ts j (min (length T) w)
  unfolding held
  in_held z m = go (in_latest w T z m)
    where
      go : (n : ℕ) × (n < length T) × (length T ≤ n + w) × (z ≡ get_or T n (pos 0)) → z ∈ held ts j (min (length T) w)
      go r =
          rw (r.3 ∙ sym (ring r.0 r.1 r.2))
          (fill_in (min (length T) w) (λ n. get_or ts (max_window * j + n) (pos 0)) (r.0 % w)
          (omega (arith, r.1, mod-lt r.0 low, mod-le r.0 w)))

  pub held-greatest : (c : ℤ) → 1 ≤ length T → greatest_or (pos 0) (held ts j (min (length T) w)) ≡ greatest_or c (latest w T)
  unfolding held
  held-greatest c some =
      same-greatest (pos 0) c (held ts j (min (length T) w)) (latest w T)
      (omega (arith, fill-size (min (length T) w) (λ n. get_or ts (max_window * j + n) (pos 0)))) held_in in_held

-- ---- the loop over the log

-- no edge has more times than there are entries
times_most : (k : ℕ) (log : List Entry) → length (times_of k log) ≤ length log
unfolding times_of
times_most k [] = omega arith
times_most k (e ∷ log) = go (eqb e.edge k) (times_most k log)
  where
    go : (b : Bool) → length (times_of k log) ≤ length log → length (keep b e.time (times_of k log)) ≤ suc (length log)
    go true h = omega arith
    go false h = omega arith

module _ (w m : ℕ) (cost : List ℤ) (log : List Entry) (i : ℕ) (x : Window) (r : Replaying w m cost log i x) where
  costs_size : length x.costs ≡ max_edges
  unfolding recent_costs
  costs_size =
      ap length r.keeps.priced
      ∙ fill-size (length cost) (λ j. recent_cost w (get_or cost j (pos 0)) (take i log) (suc j)) ∙ r.keeps.room

  count_most : (k : ℕ) → k < max_edges → (ring_of x.rings k).held ≤ i
  count_most k h = omega (arith, r.keeps.held k h, times_most (suc k) (take i log), length-take-le i log r.at_most)
