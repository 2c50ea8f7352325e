-- One turn of the loop over the log: an entry that is not refused is entered, and what holds before it (specs/Replay) holds after it. Assumes nothing.
use Rattle.std.specs.Prelude.{◌≡◌, true, ℕ, ◌+◌, ◌<◌, get_or, drop, ℤ, pos, Option, Some, None}
use Rattle.std.specs.List.{zip, enumerate_from}
use Rattle.std.specs.Iterator.{Yields}
use Rattle.std.specs.Iterator.Adapters.{enumerate_source, enumerate_count, enumerate_steps, zip_first, zip_second}
use Rattle.std.specs.Slice.Iter.{iter_rest}
use Rattle.std.specs.declared.iter.Enumerate.{Enumerate}
use Rattle.std.specs.declared.iter.Zip.{Zip}
use Rattle.std.proofs.Common.{Iter, Bor}
use Rattle.std.proofs.iter.Yields.{fronts}
use Rattle.std.proofs.lemmas.Iterator.{YieldsList, YieldsList-from_slice, YieldsList-from_zip, zips}
use Rattle.std.proofs.lemmas.Iterator.Consumers.{YieldsList-from_enumerate, YieldsList-turn, YieldsList-end}
use Rattle.std.proofs.lemmas.List.{get_or_default}
use Rattle.std.proofs.lemmas.List.FromFn.{length-enumerate_from, get_or-enumerate_from}
use Rattle.std.proofs.lemmas.Slice.Zip.{length-zip, get_or-zip}
use Rattle.std.proofs.Math.Path.{sym, ap}
use Rattle.std.proofs.Common.{◌∙◌, arith}
use mathlib.Core.List.{List}
use Rattle.std.proofs.Math.ListN.{length, take}
use Rattle.recent.specs.Costs.{Entry, log_of}
use Rattle.recent.specs.Answers.{entry_ok, bad_from}
use Rattle.recent.specs.Windows.{Window, entry_of, unused, entered, entered_all}
use Rattle.recent.specs.Replay.{log_size, log_at, ok_edge, entered-next, Replaying, next, rest}
use Rattle.recent.proofs.Exact.{keeps_next}

-- ---- the log as both lists' pairs, with their numbers

-- the item i, edge, time of turn n
pub record LogTurn (edges : List ℕ) (times : List ℤ) (n i edge : ℕ) (time : ℤ) : Type 0 where
  pub number : i ≡ n
  pub inside : n < length (log_of edges times)
  pub entry : get_or (log_of edges times) n (entry_of edge time) ≡ entry_of edge time

abbrev Pairs : Type 0
Pairs = Enumerate (Zip (Iter ℕ) (Iter ℤ))

abbrev steps : Pairs → Option (ℕ × (Bor ℕ × Bor ℤ)) → Pairs → Type 0
steps = enumerate_steps (zips fronts fronts)

abbrev seen : ℕ × (Bor ℕ × Bor ℤ) → ℕ × (ℕ × ℤ)
seen p = (p.0, (p.1.0.now, p.1.1.now))

abbrev entry_seen : ℕ × (ℕ × ℤ) → Entry
entry_seen p = entry_of p.1.0 p.1.1

module _ (edges : List ℕ) (times : List ℤ) (e : length edges ≡ length times) (s : Pairs)
    (first : iter_rest (zip_first (enumerate_source s)) ≡ edges) (second : iter_rest (zip_second (enumerate_source s)) ≡ times)
    (count : enumerate_count s ≡ 0) (xs : List (ℕ × (Bor ℕ × Bor ℤ))) (t u : Pairs) (y : Yields steps s xs t) where
  listed : YieldsList steps seen s (enumerate_from 0 (zip edges times))
  listed = YieldsList-from_enumerate (YieldsList-from_zip (YieldsList-from_slice edges first) (YieldsList-from_slice times second)) count

  size : length (zip edges times) ≡ length edges
  size = omega (arith, length-zip edges times)

  pub log_turn : (r : Option (ℕ × (Bor ℕ × Bor ℤ))) (p : ℕ × (Bor ℕ × Bor ℤ)) → r ≡ Some p → steps t r u
      → LogTurn edges times (length xs) p.0 p.1.0.now p.1.1.now
  log_turn r p q z =
      let h = YieldsList-turn listed xs t y r u p q z in
      let n : ℕ = length xs in
      let below : n < length edges = omega (arith, h.0, length-enumerate_from 0 (zip edges times), size) in
      let also : n < length times = omega arith in
      let item : seen p ≡ (0 + n, (get_or edges n 0, get_or times n (pos 0))) =
      h.1 ∙ get_or-enumerate_from 0 (zip edges times) n (seen p) (omega (arith, size))
      ∙ ap (λ (a : ℕ × ℤ). (0 + n, a)) (get_or-zip edges times n (seen p).1 below also
      ∙ rw (get_or_default edges n p.1.0.now 0 below, get_or_default times n p.1.1.now (pos 0) also)) in
      record {
        number = ap (λ (a : ℕ × (ℕ × ℤ)). a.0) item ∙ omega arith;
        inside = omega (arith, log_size edges times e);
        entry = log_at edges times e n _ below ∙ ap entry_seen (sym item);
      }

  pub log_end : (r : Option (ℕ × (Bor ℕ × Bor ℤ))) → r ≡ None → steps t r u → length xs ≡ length (log_of edges times)
  log_end r q z =
      omega (arith, (YieldsList-end listed xs t y r u q z).1, length-enumerate_from 0 (zip edges times), size, log_size edges times e)

-- ---- one turn

module _ (w m : ℕ) (cost : List ℤ) (log : List Entry) (i : ℕ) (x : Window) (r : Replaying w m cost log i x) where
  module _ (e : Entry) (h : i < length log) (at : get_or log i e ≡ e) where
    -- entry i is not refused
    pub replaying_next : entry_ok m e ≡ true → Replaying w m cost log (i + 1) (entered w x e)
    unfolding bad_from
    replaying_next ok =
        let k = ok_edge m e ok in
        record {
          low = r.low;
          high = r.high;
          few = r.few;
          at_most = omega arith;
          folded =
              ap (λ (y : Window). entered w y e) r.folded ∙ sym (entered-next w (take i log) (unused cost) e)
              ∙ ap (entered_all w (unused cost)) (sym (next w m cost log i x r e h at));
          keeps = rw (next w m cost log i x r e h at) (keeps_next w r.low r.high cost x (take i log) e (k.0, omega (arith, k.1, r.few)) r.keeps);
          good = r.good ∙ rw (rest w m cost log i x r e h at, ok) (ap (λ (p : ℕ). bad_from m p (drop (i + 1) log)) (omega arith));
        }
