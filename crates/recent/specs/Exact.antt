-- What a window keeps of a log: for each edge the ring has the last w of its times. Time i stands at i's remainder by w, and no later one of the
-- last w takes its place; so the greatest of the ring is the greatest of the last w. proofs/Exact has one entry more, and `exact`. Assumes nothing.
use Rattle.std.specs.Prelude.{◌≡◌, refl, ◌≢◌, replicate, Bool, true, false, eqb, ℤ, pos}
use Rattle.std.proofs.Math.Path.{sym, ap, subst}
use Rattle.std.proofs.Common.{◌∙◌, arith, length-append, length-take-le, get_or-set_same, eq-eqb, ne_eqb}
use mathlib.Core.List.{List, [], ◌∷◌, ◌++◌, append-nil}
use Prim.Native.Nat.{ℕ, suc, ◌+◌, ◌-◌, ◌%◌, ◌<◌, ◌≤◌, min}
use Rattle.std.proofs.Math.Decide.{ℕ_discrete}
use Rattle.std.proofs.Math.Nat.{mod-lt, mod-le, zero-mod}
use Rattle.std.proofs.Math.ListN.{length, get_or, set, take, get_or-append}
use Rattle.std.proofs.lemmas.List.{length-replicate, get_or-replicate}
use Rattle.std.proofs.Math.Seq.{drop-nil, get_or-set_other, get_or-append_seam}
use Rattle.lists.specs.Members.{◌∈◌}
use Rattle.lists.specs.Select.{keep}
use Rattle.lists.specs.Fill.{fill_is}
use Rattle.graph.specs.Limits.{max_edges}
use Rattle.recent.specs.Remainders.{remainders_differ, LastWith, last_with}
use Rattle.recent.specs.Places.{latest_in, in_latest, at_take, in_take}
use Rattle.recent.specs.Greatest.{same-greatest}
use Rattle.recent.specs.Costs.{Entry, times_of, latest, greatest_or, recent_cost, recent_costs}
use Rattle.recent.specs.Answers.{max_window}
use Rattle.recent.specs.declared.Ring.{Ring}
use Rattle.recent.specs.Windows.{Window, no_times, unused, ring_of}

-- ---- an edge's times, after one entry more

times-next : (k : ℕ) (log : List Entry) (e : Entry) → times_of k (log ++ e ∷ []) ≡ times_of k log ++ keep (eqb e.edge k) e.time []
unfolding times_of
times-next k [] e = refl
times-next k (d ∷ log) e = go (eqb d.edge k) (times-next k log e)
  where
    go : (b : Bool) → times_of k (log ++ e ∷ []) ≡ times_of k log ++ keep (eqb e.edge k) e.time []
        → keep b d.time (times_of k (log ++ e ∷ [])) ≡ keep b d.time (times_of k log) ++ keep (eqb e.edge k) e.time []
    go true h = ap (λ (l : List ℤ). d.time ∷ l) h
    go false h = h

pub times-same : (k : ℕ) (log : List Entry) (e : Entry) → e.edge ≡ k → times_of k (log ++ e ∷ []) ≡ times_of k log ++ e.time ∷ []
times-same k log e h = times-next k log e ∙ rw (eq-eqb e.edge k h)

pub times_other : (k : ℕ) (log : List Entry) (e : Entry) → e.edge ≢ k → times_of k (log ++ e ∷ []) ≡ times_of k log
times_other k log e h = times-next k log e ∙ rw (ne_eqb e.edge k h) (append-nil (times_of k log))

-- "and one with none keeps the chart's cost"
pub cost_none : (w : ℕ) (c : ℤ) (log : List Entry) (k : ℕ) → times_of k log ≡ [] → recent_cost w c log k ≡ c
unfolding recent_cost greatest_or latest
cost_none w c log k e = ap (λ (l : List ℤ). greatest_or c (latest w l)) e ∙ ap (greatest_or c) (drop-nil (0 - w))

-- ---- what a window keeps of a log

pub record Keeps (w : ℕ) (cost : List ℤ) (x : Window) (log : List Entry) : Type 0 where
  pub size : length x.rings ≡ max_edges
  pub ring : (j : ℕ) → j < max_edges → length (ring_of x.rings j).times ≡ max_window
  pub room : length cost ≡ max_edges
  -- of the edge at place j the place of its next time, how many it holds, and each of the last w of them
  pub next : (j : ℕ) → j < max_edges → (ring_of x.rings j).next ≡ length (times_of (suc j) log) % w
  pub held : (j : ℕ) → j < max_edges → (ring_of x.rings j).held ≡ min (length (times_of (suc j) log)) w
  pub kept : (j : ℕ) → j < max_edges → (i : ℕ) → i < length (times_of (suc j) log) → length (times_of (suc j) log) ≤ i + w
      → get_or (ring_of x.rings j).times (i % w) (pos 0) ≡ get_or (times_of (suc j) log) i (pos 0)
  pub priced : x.costs ≡ recent_costs w cost log

none_at : (j : ℕ) → j < max_edges → ring_of (replicate max_edges no_times) j ≡ no_times
none_at j h = get_or-replicate max_edges j no_times _ h

pub keeps_none : (w : ℕ) (cost : List ℤ) → length cost ≡ max_edges → Keeps w cost (unused cost) []
unfolding unused no_times times_of recent_costs
keeps_none w cost room = record {
  size = length-replicate max_edges no_times;
  ring = λ j h. ap (λ (r : Ring). length r.times) (none_at j h) ∙ length-replicate max_window (pos 0);
  room = room;
  next = λ j h. ap (λ (r : Ring). r.next) (none_at j h) ∙ sym (zero-mod w);
  held = λ j h. ap (λ (r : Ring). r.held) (none_at j h) ∙ omega arith;
  kept = λ j h i l k. absurd (omega arith);
  priced =
      sym (fill_is (length cost) (λ i. recent_cost w (get_or cost i (pos 0)) [] (suc i)) cost (pos 0) refl
      (λ i h. cost_none w (get_or cost i (pos 0)) [] (suc i) refl));
}

-- one ring: the next time t of T is stored at T's length, by w
pub ring_next : (w : ℕ) (ts T : List ℤ) (t : ℤ) → 1 ≤ w → length T % w < length ts
    → ((i : ℕ) → i < length T → length T ≤ i + w → get_or ts (i % w) (pos 0) ≡ get_or T i (pos 0))
    → (i : ℕ) → i < length (T ++ t ∷ []) → length (T ++ t ∷ []) ≤ i + w
    → get_or (set ts (length T % w) t) (i % w) (pos 0) ≡ get_or (T ++ t ∷ []) i (pos 0)
ring_next w ts T t low fits old i l k = go (ℕ_discrete i (length T))
  where
    size : length (T ++ t ∷ []) ≡ length T + 1
    size = length-append T (t ∷ [])

    go : Dec (i ≡ length T) → get_or (set ts (length T % w) t) (i % w) (pos 0) ≡ get_or (T ++ t ∷ []) i (pos 0)
    go (yes q) =
        subst (λ (n : ℕ). get_or (set ts (length T % w) t) (n % w) (pos 0) ≡ get_or (T ++ t ∷ []) n (pos 0)) (sym q)
        (get_or-set_same ts (length T % w) t (pos 0) fits ∙ sym (get_or-append_seam T t [] (pos 0)))
    go (no q) =
        get_or-set_other ts (length T % w) (i % w) t (pos 0)
        (remainders_differ w i (length T) (omega (arith, size)) (omega (arith, size)))
        ∙ old i (omega (arith, size)) (omega (arith, size))
        ∙ sym (get_or-append T (t ∷ []) (pos 0) i (omega (arith, size)))

-- the first places of a ring, as many as it holds, are the last w times T, in some order
module _ (w : ℕ) (low : 1 ≤ w) (ts T : List ℤ) (room : w ≤ length ts)
    (ring : (i : ℕ) → i < length T → length T ≤ i + w → get_or ts (i % w) (pos 0) ≡ get_or T i (pos 0)) where
  abbrev n : ℕ
  n = min (length T) w

  held_in : (z : ℤ) → z ∈ take n ts → z ∈ latest w T
  held_in z m = go (in_take n ts (pos 0) z (omega arith) m)
    where
      go : (i : ℕ) × (i < n) × (z ≡ get_or ts i (pos 0)) → z ∈ latest w T
      go r = at (last_with w (length T) r.0 (omega (arith, r.1)) (omega (arith, r.1)))
        where
          at : LastWith w (length T) r.0 → z ∈ latest w T
          at s =
              rw (r.2 ∙ ap (λ (i : ℕ). get_or ts i (pos 0)) (sym s.place) ∙ ring s.at s.below s.near)
              (latest_in w T s.at s.below s.near)

  in_held : (z : ℤ) → z ∈ latest w T → z ∈ take n ts
  in_held z m = go (in_latest w T z m)
    where
      go : (i : ℕ) × (i < length T) × (length T ≤ i + w) × (z ≡ get_or T i (pos 0)) → z ∈ take n ts
      go r =
          rw (r.3 ∙ sym (ring r.0 r.1 r.2))
          (at_take n ts (r.0 % w) (pos 0) (omega (arith, r.1, mod-lt r.0 low, mod-le r.0 w)) (omega arith))

  pub held-greatest : (c : ℤ) → 1 ≤ length T → greatest_or (pos 0) (take n ts) ≡ greatest_or c (latest w T)
  held-greatest c some =
      same-greatest (pos 0) c (take n ts) (latest w T) (omega (arith, length-take-le n ts (omega arith))) held_in in_held
