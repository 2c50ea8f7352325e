-- The network of the active vertices (`reduced`), which are numbered anew in their order: the edges keep their numbers, an edge that touches an
-- inactive vertex is excluded (and put between vertices 1 and 2, so that the network is valid), and the multipliers are those of the active
-- vertices. Here: the old and the new numbers of vertices, the ends of the edges, the vertices other than vertex 1. It is valid, so every law about
-- valid networks holds of it.
--   Fit s g          what the laws ask of a network and of the inactive vertices
--   Live v           v is an active vertex of the network
--   rank, nth        an active vertex's new number; a new number's vertex (thinning's Ranks)
use Rattle.std.specs.Prelude.{◌≡◌, refl, Bool, true, false, cond, ◌&&◌, ℕ, zero, suc, ◌≤◌, ◌<◌, eqb, length, ℤ}
use Rattle.std.proofs.Common.{sym, ap, ◌∙◌, arith}
use Rattle.std.proofs.Math.Bool.{not}
use Rattle.std.proofs.Math.Decide.{ℕ_discrete}
use borrow.Author.Tests.{eq-eqb, ne_eqb, eqb-false, not-true}
use Rattle.lists.specs.Bools.{and_both, or_none}
use Rattle.lists.specs.Members.{◌∈◌}
use Rattle.lists.specs.Select.{keep, select, select_in, in_select}
use Rattle.lists.specs.Numbers.{up_to, up_to_in, in_up_to}
use Rattle.graph.specs.Network.{Network, excluded}
use Rattle.tree_theory.specs.OneTree.{others}
use Rattle.tree_theory.specs.Valid.{Valid, others_in, in_others}
use Rattle.thinning.specs.Ranks.{rank, nth, rank_yes, rank_no, rank_mono, rank_in, nth_of, nth_in, nth-kept, rank_back}
use Rattle.afloat.specs.Over.{Ashore, active, active_count, others_over, touched, mark_over}

abbrev pub reduced : Ashore → Network → Network
reduced s g =
    record {
      n = rank (active s) g.n;
      m = g.m;
      a = λ k. cond (touched s g k) 1 (rank (active s) (g.a k));
      b = λ k. cond (touched s g k) 2 (rank (active s) (g.b k));
      cost = g.cost;
      mark = mark_over s g;
    }

abbrev pub reduced_multiplier : Ashore → ℕ → (ℕ → ℤ) → ℕ → ℤ
reduced_multiplier s n d j = d (nth (active s) n j)

-- as many are active as the last new number says
pub count_is : (s : Ashore) (n : ℕ) → active_count s n ≡ rank (active s) n
unfolding active_count select up_to rank
count_is s zero = refl
count_is s (suc n) = go (active s (suc n)) refl (count_is s n)
  where
    go : (b : Bool) → active s (suc n) ≡ b → length (select (active s) (up_to n)) ≡ rank (active s) n
        → length (keep b (suc n) (select (active s) (up_to n))) ≡ rank (active s) (suc n)
    go true e h = ap suc h ∙ sym (rank_yes (active s) n e)
    go false e h = h ∙ sym (rank_no (active s) n e)

pub active_of : (s : Ashore) (v : ℕ) → s v ≡ false → active s v ≡ true
active_of s v e = ap not e

-- ---- what is asked of the network and of the set: "35 when .. buoy 1 is ashore, or fewer than three are afloat"

pub record Fit (s : Ashore) (g : Network) : Type 0 where
  pub valid : Valid g
  pub one : s 1 ≡ false
  pub three : 3 ≤ active_count s g.n

module _ (s : Ashore) (g : Network) (f : Fit s g) where
  one_in : 1 ∈ up_to g.n
  one_in = up_to_in g.n 1 (omega arith) (omega (arith, f.valid.big))

  pub rank-one : rank (active s) 1 ≡ 1
  unfolding rank
  rank-one = rank_yes (active s) 0 (active_of s 1 f.one)

  pub nth-one : nth (active s) g.n 1 ≡ 1
  nth-one = ap (nth (active s) g.n) (sym rank-one) ∙ nth_of (active s) g.n 1 one_in (active_of s 1 f.one)

  -- an active vertex that is listed
  abbrev pub Live : ℕ → Type 0
  Live v = (v ∈ up_to g.n) × (active s v ≡ true)

  pub live_back : (v : ℕ) → Live v → nth (active s) g.n (rank (active s) v) ≡ v
  live_back v l = nth_of (active s) g.n v l.0 l.1

  pub live_same : (u v : ℕ) → Live u → Live v → rank (active s) u ≡ rank (active s) v → u ≡ v
  live_same u v lu lv e = sym (live_back u lu) ∙ ap (nth (active s) g.n) e ∙ live_back v lv

  pub one_live : Live 1
  one_live = (one_in, active_of s 1 f.one)

  pub live_one : (v : ℕ) → Live v → eqb (rank (active s) v) 1 ≡ eqb v 1
  live_one v l = go (ℕ_discrete v 1)
    where
      go : Dec (v ≡ 1) → eqb (rank (active s) v) 1 ≡ eqb v 1
      go (yes e) = rw (e, rank-one)
      go (no e) = ne_eqb (rank (active s) v) 1 (λ r. e (live_same v 1 l one_live (r ∙ sym rank-one))) ∙ sym (ne_eqb v 1 e)

  pub live_eqb : (u v : ℕ) → Live u → Live v → eqb (rank (active s) u) (rank (active s) v) ≡ eqb u v
  live_eqb u v lu lv = go (ℕ_discrete u v)
    where
      go : Dec (u ≡ v) → eqb (rank (active s) u) (rank (active s) v) ≡ eqb u v
      go (yes e) = eq-eqb (rank (active s) u) (rank (active s) v) (ap (rank (active s)) e) ∙ sym (eq-eqb u v e)
      go (no e) = ne_eqb (rank (active s) u) (rank (active s) v) (λ q. e (live_same u v lu lv q)) ∙ sym (ne_eqb u v e)

  -- ---- the vertices other than vertex 1

  pub over_live : (v : ℕ) → v ∈ others_over s g → Live v × (eqb v 1 ≡ false)
  unfolding others_over
  over_live v i =
      let r = select_in (λ u. active s u && not (eqb u 1)) (up_to g.n) v i in
      let b = and_both (active s v) (not (eqb v 1)) r.1 in
      ((r.0, b.0), not-true (eqb v 1) b.1)

  pub live_over : (v : ℕ) → Live v → eqb v 1 ≡ false → v ∈ others_over s g
  unfolding others_over
  live_over v l e = in_select (λ u. active s u && not (eqb u 1)) (up_to g.n) v l.0 (rw (l.1, e))

  -- into new numbers
  pub others_there : (v : ℕ) → v ∈ others_over s g → rank (active s) v ∈ others (reduced s g)
  others_there v i =
      let l = over_live v i in
      let r = in_up_to (rank (active s) g.n) (rank (active s) v) (rank_in (active s) g.n v l.0.0 l.0.1) in
      in_others (reduced s g) (rank (active s) v)
      (omega (arith, r.0, eqb-false (rank (active s) v) 1 (live_one v l.0 ∙ l.1))) r.1

  -- and back
  pub nth_live : (j : ℕ) → j ∈ up_to (rank (active s) g.n) → Live (nth (active s) g.n j)
  nth_live j i = (nth_in (active s) g.n j i, nth-kept (active s) g.n j i)

  others-listed : (j : ℕ) → j ∈ others (reduced s g) → j ∈ up_to (rank (active s) g.n)
  others-listed j i = let r = others_in (reduced s g) j i in up_to_in (rank (active s) g.n) j (omega (arith, r.0)) r.1

  pub others_again : (j : ℕ) → j ∈ others (reduced s g) → rank (active s) (nth (active s) g.n j) ≡ j
  others_again j i = rank_back (active s) g.n j (others-listed j i)

  pub others_back : (j : ℕ) → j ∈ others (reduced s g) → nth (active s) g.n j ∈ others_over s g
  others_back j i =
      let l = nth_live j (others-listed j i) in
      let z : 2 ≤ j = (others_in (reduced s g) j i).0 in
      live_over (nth (active s) g.n j) l
      (sym (live_one (nth (active s) g.n j) l)
      ∙ ne_eqb (rank (active s) (nth (active s) g.n j)) 1 (λ e. omega (arith, others_again j i)))

  -- ---- the ends of an edge

  module _ (k : ℕ) (i : k ∈ up_to g.m) where
    module _ (e : touched s g k ≡ false) where
      pub a_live : Live (g.a k)
      a_live = (
        up_to_in g.n (g.a k) (f.valid.low k i) (omega (arith, f.valid.apart k i, f.valid.high k i)),
        active_of s (g.a k) (or_none (s (g.a k)) (s (g.b k)) e).0,
      )

      pub b_live : Live (g.b k)
      b_live = (
        up_to_in g.n (g.b k) (omega (arith, f.valid.low k i, f.valid.apart k i)) (f.valid.high k i),
        active_of s (g.b k) (or_none (s (g.a k)) (s (g.b k)) e).1,
      )

      pub a_is : (reduced s g).a k ≡ rank (active s) (g.a k)
      a_is = rw e

      pub b_is : (reduced s g).b k ≡ rank (active s) (g.b k)
      b_is = rw e

      pub near_is : eqb ((reduced s g).a k) 1 ≡ eqb (g.a k) 1
      near_is = ap (λ (z : ℕ). eqb z 1) a_is ∙ live_one (g.a k) a_live

    pub touched_excluded : touched s g k ≡ true → mark_over s g k ≡ excluded
    touched_excluded e = rw e

  -- THE NETWORK OF THE ACTIVE VERTICES IS VALID
  pub reduced-valid : Valid (reduced s g)
  reduced-valid = record {
    big = omega (arith, f.three, count_is s g.n);
    low = λ k i. low k i (touched s g k) refl;
    apart = λ k i. apart k i (touched s g k) refl;
    high = λ k i. high k i (touched s g k) refl;
  }
    where
      low : (k : ℕ) → k ∈ up_to g.m → (b : Bool) → touched s g k ≡ b → 1 ≤ cond b 1 (rank (active s) (g.a k))
      low k i true e = omega arith
      low k i false e =
          (in_up_to (rank (active s) g.n) (rank (active s) (g.a k)) (rank_in (active s) g.n (g.a k) (a_live k i e).0 (a_live k i e).1)).0

      apart : (k : ℕ) → k ∈ up_to g.m → (b : Bool) → touched s g k ≡ b
          → cond b 1 (rank (active s) (g.a k)) < cond b 2 (rank (active s) (g.b k))
      apart k i true e = omega arith
      apart k i false e = go (ℕ_discrete (rank (active s) (g.a k)) (rank (active s) (g.b k)))
        where
          go : Dec (rank (active s) (g.a k) ≡ rank (active s) (g.b k)) → rank (active s) (g.a k) < rank (active s) (g.b k)
          go (yes q) = absurd (omega (arith, f.valid.apart k i, live_same (g.a k) (g.b k) (a_live k i e) (b_live k i e) q))
          go (no q) = omega (arith, rank_mono (active s) (g.a k) (g.b k) (omega (arith, f.valid.apart k i)))

      high : (k : ℕ) → k ∈ up_to g.m → (b : Bool) → touched s g k ≡ b → cond b 2 (rank (active s) (g.b k)) ≤ rank (active s) g.n
      high k i true e = omega (arith, f.three, count_is s g.n)
      high k i false e =
          (in_up_to (rank (active s) g.n) (rank (active s) (g.b k)) (rank_in (active s) g.n (g.b k) (b_live k i e).0 (b_live k i e).1)).1
