-- The loop over the log: what holds before entry i, one entry more, and what it promises where it stops. Assumes nothing.
use Rattle.std.specs.Prelude.{◌≡◌, refl, true, false, ◌&&◌, ℕ, zero, suc, ◌+◌, ◌-◌, ◌<◌, ◌≤◌, leb, get_or, drop, ℤ, pos, Some, None}
use Rattle.std.proofs.Math.Path.{sym, ap}
use Rattle.std.proofs.Common.{◌∙◌, arith, take-suc, drop-cons, leb-true}
use mathlib.Core.List.{List, [], ◌∷◌, ◌++◌}
use Rattle.std.proofs.Math.Nat.{mod-lt}
use Rattle.std.proofs.Math.Numerals.{add-one}
use Rattle.std.proofs.Math.ListN.{length, take}
use Rattle.std.proofs.Math.Seq.{take-length, drop-length}
use Rattle.lists.specs.Bools.{by_cases, and_both}
use Rattle.integers.specs.Range.{within}
use Rattle.graph.specs.Limits.{max_edges, max_cost}
use Rattle.recent.specs.Costs.{Entry, log_of, times_of}
use Rattle.recent.specs.Answers.{max_window, made, refused, entry_ok, bad_from, unless_bad}
use Rattle.recent.specs.Windows.{Window, entry_place, unused, entered, entered_all, CanEnter, Replayed}
use Rattle.recent.specs.Exact.{Keeps, keeps_none}

-- ---- the log of two lists

pub log_size : (edges : List ℕ) (times : List ℤ) → length edges ≡ length times → length (log_of edges times) ≡ length edges
unfolding log_of
log_size [] ts e = refl
log_size (k ∷ ks) [] e = absurd (omega arith)
log_size (k ∷ ks) (t ∷ ts) e = ap suc (log_size ks ts (omega arith))

abbrev pub entry_at : List ℕ → List ℤ → ℕ → Entry
entry_at edges times i = record { edge = get_or edges i 0; time = get_or times i (pos 0) }

pub log_at : (edges : List ℕ) (times : List ℤ) → length edges ≡ length times → (i : ℕ) (z : Entry) → i < length edges
    → get_or (log_of edges times) i z ≡ entry_at edges times i
unfolding log_of
log_at [] ts e i z h = absurd (omega arith)
log_at (k ∷ ks) [] e i z h = absurd (omega arith)
log_at (k ∷ ks) (t ∷ ts) e zero z h = refl
log_at (k ∷ ks) (t ∷ ts) e (suc i) z h = log_at ks ts (omega arith) i z (omega arith)

-- ---- an entry that is not refused

pub ok_edge : (m : ℕ) (e : Entry) → entry_ok m e ≡ true → (1 ≤ e.edge) × (e.edge ≤ m)
unfolding entry_ok
ok_edge m e h =
    let p = and_both (leb 1 e.edge && leb e.edge m) (within max_cost e.time) h in
    let q = and_both (leb 1 e.edge) (leb e.edge m) p.0 in
    (leb-true 1 e.edge q.0, leb-true e.edge m q.1)

pub ok_time : (m : ℕ) (e : Entry) → entry_ok m e ≡ true → within max_cost e.time ≡ true
unfolding entry_ok
ok_time m e h = (and_both (leb 1 e.edge && leb e.edge m) (within max_cost e.time) h).1

-- the place that it names
pub place_ok : (m k : ℕ) (e : Entry) → entry_place m e ≡ Some k → (entry_ok m e ≡ true) × (k ≡ e.edge - 1)
unfolding entry_place
place_ok m k e h = by_cases (entry_ok m e) (λ t. let q = (rw t at h) in (t, cc)) (λ t. let q = (rw t at h) in cc)

pub place_refused : (m : ℕ) (e : Entry) → entry_place m e ≡ None → entry_ok m e ≡ false
unfolding entry_place
place_refused m e h = by_cases (entry_ok m e) (λ t. let q = (rw t at h) in cc) (λ t. t)

-- ---- one entry more

pub entered-next : (w : ℕ) (log : List Entry) (x : Window) (e : Entry) → entered_all w x (log ++ e ∷ []) ≡ entered w (entered_all w x log) e
unfolding entered_all
entered-next w [] x e = refl
entered-next w (d ∷ log) x e = entered-next w log (entered w x d) e

-- the window before entry i, counted from 0: the fold over the entries so far, of which none is refused
pub record Replaying (w m : ℕ) (cost : List ℤ) (log : List Entry) (i : ℕ) (x : Window) : Type 0 where
  pub low : 1 ≤ w
  pub high : w ≤ max_window
  pub few : m ≤ max_edges
  pub at_most : i ≤ length log
  pub folded : x ≡ entered_all w (unused cost) (take i log)
  pub keeps : Keeps w cost x (take i log)
  pub good : bad_from m 1 log ≡ bad_from m (i + 1) (drop i log)

pub replaying_none : (w m : ℕ) (cost : List ℤ) (log : List Entry) → 1 ≤ w → w ≤ max_window → m ≤ max_edges → length cost ≡ max_edges
    → (x : Window) → x ≡ unused cost → Replaying w m cost log 0 x
unfolding entered_all
replaying_none w m cost log low high few room x e = rw e (record {
  low = low;
  high = high;
  few = few;
  at_most = omega arith;
  folded = refl;
  keeps = keeps_none w cost room;
  good = refl;
})

module _ (w m : ℕ) (cost : List ℤ) (log : List Entry) (i : ℕ) (x : Window) (r : Replaying w m cost log i x) where
  pub can_enter : (e : Entry) → entry_ok m e ≡ true → CanEnter w (e.edge - 1) x
  can_enter e ok =
      let p = ok_edge m e ok in
      let k : e.edge - 1 < max_edges = omega (arith, p.0, p.1, r.few) in
      record {
        edge = k;
        next = omega (arith, r.keeps.next (e.edge - 1) k, mod-lt (length (times_of (suc (e.edge - 1)) (take i log))) r.low);
        held = omega (arith, r.keeps.held (e.edge - 1) k);
      }

  module _ (e : Entry) (h : i < length log) (at : get_or log i e ≡ e) where
    pub next : take (i + 1) log ≡ take i log ++ e ∷ []
    next = rw add-one (take-suc log i e h) ∙ ap (λ (d : Entry). take i log ++ d ∷ []) at

    pub rest : drop i log ≡ e ∷ drop (i + 1) log
    rest = rw add-one (drop-cons log i e h) ∙ ap (λ (d : Entry). d ∷ drop (i + 1) log) at

    -- entry i is refused
    pub replayed_bad : entry_ok m e ≡ false → Replayed w m cost log (refused 39 (i + 1)) x.costs
    unfolding bad_from
    replayed_bad bad =
        let place : bad_from m 1 log ≡ suc i = r.good ∙ rw (rest, bad) (omega arith) in
        rw add-one (record {
          stops = ap unless_bad (sym place);
          folded = rw place (ap (λ (y : Window). y.costs) r.folded);
          afresh = rw place r.keeps.priced;
        })

  -- none is
  pub replayed_all : i ≡ length log → Replayed w m cost log made x.costs
  unfolding bad_from
  replayed_all e =
      let place : bad_from m 1 log ≡ 0 = r.good ∙ rw (e, drop-length log) in
      record {
        stops = ap unless_bad (sym place);
        folded = rw place (ap (λ (y : Window). y.costs) r.folded ∙ ap (λ (l : List Entry). (entered_all w (unused cost) l).costs) whole);
        afresh = rw (place, ← whole) r.keeps.priced;
      }
    where
      whole : take i log ≡ log
      whole = rw e (take-length log)
