-- AFTER EVERY ENTRY THE COSTS ARE THOSE WORKED OUT AFRESH FROM THE LOG SO FAR (`exact`), by one entry more (`keeps_next`): what a window keeps
-- of a log, and how its rings go, is in specs/Exact. Assumes nothing.
use Rattle.std.specs.Prelude.{◌≡◌, refl, ◌≢◌, take, ℤ, pos}
use Rattle.std.proofs.Math.Path.{sym, ap, subst}
use Rattle.std.proofs.Common.{◌∙◌, inl, inr, arith, length-append, get_or-set_same}
use mathlib.Core.List.{List, [], ◌∷◌, ◌++◌, append-nil}
use Prim.Native.Nat.{ℕ, zero, suc, ◌+◌, ◌-◌, ◌%◌, ◌<◌, ◌≤◌, min}
use Rattle.std.proofs.Math.Decide.{ℕ_discrete}
use Rattle.std.proofs.Math.Nat.{mod-lt}
use Rattle.std.proofs.Math.ListN.{length, get_or, set, length-set}
use Rattle.std.proofs.Math.Seq.{get_or-set_other, append_snoc}
use Rattle.lists.specs.Members.{◌∈◌}
use Rattle.lists.specs.Fill.{fill, fill-size, fill-at, fill_is}
use Rattle.graph.specs.Limits.{max_edges}
use Rattle.recent.specs.Remainders.{next_remainder}
use Rattle.lists.specs.Members.{take_in}
use Rattle.recent.specs.Costs.{Entry, times_of, latest, greatest_or, recent_cost, recent_costs}
use Rattle.recent.specs.Answers.{max_window}
use Rattle.recent.specs.declared.Ring.{Ring}
use Rattle.recent.specs.Windows.{Window, unused, ring_of, stored, held, entered_at, entered, entered_all}
use Rattle.recent.specs.Exact.{times-same, times_other, Keeps, keeps_none, ring_next, held-greatest}

module _ (w : ℕ) (low : 1 ≤ w) (high : w ≤ max_window) (cost : List ℤ) where
  within : (i : ℕ) → i % w < max_window
  within i = omega (arith, mod-lt i low)

  -- one entry, of the edge at place e
  module _ (x : Window) (log : List Entry) (p : Keeps w cost x log) (e : ℕ) (t : ℤ) (here : e < max_edges) where
    abbrev new : Entry
    new = record { edge = suc e; time = t }

    abbrev old : Ring
    old = ring_of x.rings e

    abbrev now : Ring
    now = stored w old t

    same : times_of (suc e) (log ++ new ∷ []) ≡ times_of (suc e) log ++ t ∷ []
    same = times-same (suc e) log new refl

    other : (j : ℕ) → e ≢ j → times_of (suc j) (log ++ new ∷ []) ≡ times_of (suc j) log
    other j q = times_other (suc j) log new (λ z. q (omega arith))

    one_more : length (times_of (suc e) (log ++ new ∷ [])) ≡ length (times_of (suc e) log) + 1
    one_more = omega (arith, ap length same, length-append (times_of (suc e) log) (t ∷ []))

    next_place : now.next ≡ length (times_of (suc e) (log ++ new ∷ [])) % w
    unfolding stored
    next_place = rw (p.next e here, one_more) (next_remainder w (length (times_of (suc e) log)) low)

    as_many : now.held ≡ min (length (times_of (suc e) (log ++ new ∷ []))) w
    unfolding stored
    as_many = omega (arith, p.held e here, one_more)

    -- the edge's own ring, and those of the others
    own : ring_of (set x.rings e now) e ≡ now
    own = get_or-set_same x.rings e now _ (omega (arith, p.size))

    apart : (j : ℕ) → e ≢ j → ring_of (set x.rings e now) j ≡ ring_of x.rings j
    apart j q = get_or-set_other x.rings e j now _ (λ z. q (sym z))

    next : (j : ℕ) → j < max_edges → Dec (e ≡ j) → (ring_of (set x.rings e now) j).next ≡ length (times_of (suc j) (log ++ new ∷ [])) % w
    next j h (yes q) = rw (← q, own) next_place
    next j h (no q) = rw (apart j q, other j q) (p.next j h)

    holds : (j : ℕ) → j < max_edges → Dec (e ≡ j)
        → (ring_of (set x.rings e now) j).held ≡ min (length (times_of (suc j) (log ++ new ∷ []))) w
    holds j h (yes q) = rw (← q, own) as_many
    holds j h (no q) = rw (apart j q, other j q) (p.held j h)

    ring_size : (j : ℕ) → j < max_edges → Dec (e ≡ j) → length (ring_of (set x.rings e now) j).times ≡ max_window
    unfolding stored
    ring_size j h (yes q) = rw (← q, own) (length-set old.times old.next t ∙ p.ring e here)
    ring_size j h (no q) = rw (apart j q) (p.ring j h)

    kept-now : (i : ℕ) → i < length (times_of (suc e) (log ++ new ∷ [])) → length (times_of (suc e) (log ++ new ∷ [])) ≤ i + w
        → get_or now.times (i % w) (pos 0) ≡ get_or (times_of (suc e) (log ++ new ∷ [])) i (pos 0)
    unfolding stored
    kept-now =
        rw (same, p.next e here) (ring_next w old.times (times_of (suc e) log) t low
        (omega (arith, within (length (times_of (suc e) log)), p.ring e here)) (p.kept e here))

    kept : (j : ℕ) → j < max_edges → Dec (e ≡ j) → (i : ℕ) → i < length (times_of (suc j) (log ++ new ∷ []))
        → length (times_of (suc j) (log ++ new ∷ [])) ≤ i + w
        → get_or (ring_of (set x.rings e now) j).times (i % w) (pos 0) ≡ get_or (times_of (suc j) (log ++ new ∷ [])) i (pos 0)
    kept j h (yes q) = rw (← q, own) kept-now
    kept j h (no q) = rw (apart j q, other j q) (p.kept j h)

    -- the cost of that edge, and of the others
    abbrev top : ℤ
    top = greatest_or (pos 0) (held now)

    top_is : top ≡ recent_cost w (get_or cost e (pos 0)) (log ++ new ∷ []) (suc e)
    unfolding recent_cost held
    top_is =
        ap (λ (n : ℕ). greatest_or (pos 0) (take n now.times)) as_many
        ∙ held-greatest w low now.times (times_of (suc e) (log ++ new ∷ []))
        (unfold stored in omega (arith, length-set old.times old.next t, p.ring e here))
        kept-now (get_or cost e (pos 0)) (omega (arith, one_more))

    still : (j : ℕ) → e ≢ j → recent_cost w (get_or cost j (pos 0)) (log ++ new ∷ []) (suc j) ≡ recent_cost w (get_or cost j (pos 0)) log (suc j)
    unfolding recent_cost
    still j q = ap (λ (l : List ℤ). greatest_or (get_or cost j (pos 0)) (latest w l)) (other j q)

    abbrev before : ℕ → ℤ
    before j = recent_cost w (get_or cost j (pos 0)) log (suc j)

    abbrev after : ℕ → ℤ
    after j = recent_cost w (get_or cost j (pos 0)) (log ++ new ∷ []) (suc j)

    priced : set x.costs e top ≡ recent_costs w cost (log ++ new ∷ [])
    unfolding recent_costs
    priced =
        ap (λ (l : List ℤ). set l e top) p.priced
        ∙ sym (fill_is (length cost) after (set (fill (length cost) before) e top) (pos 0)
        (length-set (fill (length cost) before) e top ∙ fill-size (length cost) before) (λ j h. go j h (ℕ_discrete e j)))
      where
        go : (j : ℕ) → j < length cost → Dec (e ≡ j) → after j ≡ get_or (set (fill (length cost) before) e top) j (pos 0)
        go j h (yes q) =
            subst (λ (k : ℕ). after k ≡ get_or (set (fill (length cost) before) e top) k (pos 0)) q
            (sym top_is ∙ sym (get_or-set_same (fill (length cost) before) e top (pos 0)
            (omega (arith, fill-size (length cost) before, p.room))))
        go j h (no q) =
            still j q ∙ sym (fill-at (length cost) before j (pos 0) h)
            ∙ sym (get_or-set_other (fill (length cost) before) e j top (pos 0) (λ z. q (sym z)))

    keeps_one : Keeps w cost (entered_at w x e t) (log ++ new ∷ [])
    unfolding entered_at
    keeps_one = record {
      size = length-set x.rings e now ∙ p.size;
      ring = λ j h. ring_size j h (ℕ_discrete e j);
      room = p.room;
      next = λ j h. next j h (ℕ_discrete e j);
      held = λ j h. holds j h (ℕ_discrete e j);
      kept = λ j h. kept j h (ℕ_discrete e j);
      priced = priced;
    }

  pub keeps_next : (x : Window) (log : List Entry) (e : Entry) → (1 ≤ e.edge) × (e.edge ≤ max_edges) → Keeps w cost x log
      → Keeps w cost (entered w x e) (log ++ e ∷ [])
  keeps_next x log e h p = go e.edge e.time h.0 h.1
    where
      go : (k : ℕ) (t : ℤ) → 1 ≤ k → k ≤ max_edges → Keeps w cost (entered_at w x (k - 1) t) (log ++ record { edge = k; time = t } ∷ [])
      go zero t a b = absurd (omega arith)
      go (suc k) t a b =
          let here : suc k - 1 ≡ k = omega arith in
          rw here (keeps_one x log p k t (omega arith))

  -- ---- a whole log

  keeps_more : (log done : List Entry) (x : Window) → ((e : Entry) → e ∈ log → (1 ≤ e.edge) × (e.edge ≤ max_edges))
      → Keeps w cost x done → Keeps w cost (entered_all w x log) (done ++ log)
  unfolding entered_all
  keeps_more [] done x h p = rw append-nil p
  keeps_more (e ∷ log) done x h p =
      rw (append_snoc done e log) at
      (keeps_more log (done ++ e ∷ []) (entered w x e) (λ d i. h d (inr i)) (keeps_next x done e (h e (inl refl)) p))

  -- "After every entry the costs equal those worked out afresh from the log so far": after the first i entries, for every i
  pub exact : (log : List Entry) → ((e : Entry) → e ∈ log → (1 ≤ e.edge) × (e.edge ≤ max_edges)) → length cost ≡ max_edges
      → (i : ℕ) → (entered_all w (unused cost) (take i log)).costs ≡ recent_costs w cost (take i log)
  exact log named room i =
      (keeps_more (take i log) [] (unused cost) (λ e m. named e (take_in i log e m)) (keeps_none w cost room)).priced
