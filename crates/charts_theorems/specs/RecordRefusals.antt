-- A record's refusals, 5 to 10: the fault that the definition computes is the first that applies to the record. The definition knows the
-- records met by a table and the edges so far by a graph; `Track` says that these are the records along the chain. Assumes nothing.
use Rattle.std.specs.Prelude.{ℕ, zero, suc, ◌+◌, ◌-◌, ◌<◌, ◌≡◌, refl, Bool, false, not, cond, ◌&&◌, List, length, set, replicate, ltb, leb, eqb}
use Rattle.std.proofs.Common.{sym, ◌∙◌, ap, ⊎_elim, arith, get_or-set_same}
use Rattle.std.proofs.Math.Bool.{true, true≢false}
use Rattle.std.proofs.Math.ListN.{get_or, length-set}
use Rattle.std.proofs.Math.Seq.{get_or-set_other}
use borrow.Author.Count.{below_more}
use borrow.Author.Tests.{ltb-true, ltb-false, leb-true, eqb-true, eqb-false, lt-ltb, le-ltb, le-leb, eq-eqb}
use Rattle.lists.specs.Bools.{by_cases, and_both, or_case}
use Rattle.integers.specs.Range.{within, within_range, range_within}
use Rattle.graph.specs.declared.Graph.{Graph}
use Rattle.graph.specs.Limits.{max_edges, max_cost, max_mark, max_records}
use Rattle.graph.specs.Valid.{ends_ok, pair_met}
use Rattle.charts.specs.Chart.{vertices, record_count, cost_at, body_fault, record_fault, appended, with_record}
use Rattle.graph.specs.Edgeless.{edgeless}
use Rattle.graph.specs.Meaning.{pair_new}
use Rattle.charts.specs.NoFault.{HeaderOk, RecordOk}
use Rattle.charts.specs.Appending.{Sound, sound-edgeless, record_room, sound_record}
use Rattle.charts_theorems.specs.Along.{link}
use Rattle.lists.specs.Fill.{replicate-at}
use Rattle.charts_theorems.specs.FirstFault.{
  start_at,
  MetBefore,
  EndsOk,
  MarkOk,
  CostOk,
  PairBefore,
  RecordFine,
  RecordRefusal,
  five,
  six,
  seven,
  eight,
  nine,
  ten,
}

-- ---- the record's own tests, 7 to 9

ends_yes : (s : List ℕ) (j : ℕ) → ends_ok (vertices s) (get_or s (start_at s j) 0) (get_or s (start_at s j + 1) 0) ≡ true → EndsOk s j
unfolding ends_ok
ends_yes s j t =
    let x = get_or s (start_at s j) 0 in
    let y = get_or s (start_at s j + 1) 0 in
    let p = and_both (leb 1 x) (ltb x y && leb y (vertices s)) t in
    let q = and_both (ltb x y) (leb y (vertices s)) p.1 in
    record { from = leb-true 1 x p.0; less = ltb-true x y q.0; to = leb-true y (vertices s) q.1 }

ends_no : (s : List ℕ) (j : ℕ) → ends_ok (vertices s) (get_or s (start_at s j) 0) (get_or s (start_at s j + 1) 0) ≡ false → EndsOk s j → ⊥
unfolding ends_ok
ends_no s j t o =
    let x = get_or s (start_at s j) 0 in
    let y = get_or s (start_at s j + 1) 0 in
    true≢false (rw (le-leb 1 x o.from, lt-ltb x y o.less, le-leb y (vertices s) o.to) at t)

-- the test of 8
unfoldable mark_test : List ℕ → ℕ → Bool
mark_test s p = leb (get_or s (p + 2) 0) max_mark && (eqb (get_or s (p + 3) 0) 0 && (eqb (get_or s (p + 10) 0) 0 && eqb (get_or s (p + 11) 0) 0))

mark_yes : (s : List ℕ) (j : ℕ) → mark_test s (start_at s j) ≡ true → MarkOk s j
unfolding mark_test
mark_yes s j t =
    let p = start_at s j in
    let z = eqb (get_or s (p + 10) 0) 0 && eqb (get_or s (p + 11) 0) 0 in
    let a = and_both (leb (get_or s (p + 2) 0) max_mark) (eqb (get_or s (p + 3) 0) 0 && z) t in
    let b = and_both (eqb (get_or s (p + 3) 0) 0) z a.1 in
    let c = and_both (eqb (get_or s (p + 10) 0) 0) (eqb (get_or s (p + 11) 0) 0) b.1 in
    record {
      known = leb-true (get_or s (p + 2) 0) max_mark a.0;
      byte3 = eqb-true (get_or s (p + 3) 0) 0 b.0;
      byte10 = eqb-true (get_or s (p + 10) 0) 0 c.0;
      byte11 = eqb-true (get_or s (p + 11) 0) 0 c.1;
    }

mark_no : (s : List ℕ) (j : ℕ) → mark_test s (start_at s j) ≡ false → MarkOk s j → ⊥
unfolding mark_test
mark_no s j t o =
    let p = start_at s j in
    true≢false
    (rw (
      le-leb (get_or s (p + 2) 0) max_mark o.known,
      eq-eqb (get_or s (p + 3) 0) 0 o.byte3,
      eq-eqb (get_or s (p + 10) 0) 0 o.byte10,
      eq-eqb (get_or s (p + 11) 0) 0 o.byte11,
    ) at t)

cost_no : (s : List ℕ) (j : ℕ) → within max_cost (cost_at s (start_at s j)) ≡ false → CostOk s j → ⊥
cost_no s j t o = true≢false (sym (range_within max_cost (cost_at s (start_at s j)) o) ∙ t)

module _ (s : List ℕ) (j : ℕ) where
  ends_test : EndsOk s j → ends_ok (vertices s) (get_or s (start_at s j) 0) (get_or s (start_at s j + 1) 0) ≡ true
  ends_test o = by_cases _ (λ t. t) (λ t. absurd (ends_no s j t o))

  no_ends_test : (EndsOk s j → ⊥) → ends_ok (vertices s) (get_or s (start_at s j) 0) (get_or s (start_at s j + 1) 0) ≡ false
  no_ends_test n = by_cases _ (λ t. absurd (n (ends_yes s j t))) (λ t. t)

  mark_test_lem : MarkOk s j → mark_test s (start_at s j) ≡ true
  mark_test_lem o = by_cases _ (λ t. t) (λ t. absurd (mark_no s j t o))

  no_mark_test : (MarkOk s j → ⊥) → mark_test s (start_at s j) ≡ false
  no_mark_test n = by_cases _ (λ t. absurd (n (mark_yes s j t))) (λ t. t)

  no_cost_test : (CostOk s j → ⊥) → within max_cost (cost_at s (start_at s j)) ≡ false
  no_cost_test n = by_cases _ (λ t. absurd (n (within_range max_cost (cost_at s (start_at s j)) t))) (λ t. t)

-- the fault by the three tests
body_is : (s : List ℕ) (n p : ℕ)
    → body_fault s n p
    ≡ cond (not (ends_ok n (get_or s p 0) (get_or s (p + 1) 0))) 7 (cond (not (mark_test s p)) 8 (cond (not (within max_cost (cost_at s p))) 9 0))
unfolding body_fault mark_test
body_is s n p = refl

-- ---- the records met and the edges so far, after the first m records of the chain

pub record Track (s : List ℕ) (met : List Bool) (g : Graph) : Type 0 where
  pub sound : Sound g
  pub n : g.n ≡ vertices s
  pub size : length met ≡ max_records
  pub there : (i : ℕ) → i < g.m → get_or met (link s i - 1) false ≡ true
  pub only : (k : ℕ) → 0 < k → get_or met (k - 1) false ≡ true → (i : ℕ) × (i < g.m) × (link s i ≡ k)
  pub a : (i : ℕ) → i < g.m → get_or g.a i 0 ≡ get_or s (start_at s i) 0
  pub b : (i : ℕ) → i < g.m → get_or g.b i 0 ≡ get_or s (start_at s i + 1) 0
  pub fine : (i : ℕ) → i < g.m → RecordFine s i

pub track_start : (s : List ℕ) → HeaderOk s → Track s (replicate max_records false) (edgeless (vertices s))
unfolding edgeless
track_start s o =
    record {
      sound = sound-edgeless (vertices s) o.low o.high;
      n = refl;
      size = refl;
      there = λ i l. absurd (omega arith);
      only = λ k l t. absurd (true≢false (sym t ∙ replicate-at max_records false (k - 1)));
      a = λ i l. absurd (omega arith);
      b = λ i l. absurd (omega arith);
      fine = λ i l. absurd (omega arith);
    }

pair_old : (a b : List ℕ) (k x y : ℕ) → pair_met a b k x y ≡ true → (j : ℕ) × (j < k) × (get_or a j 0 ≡ x) × (get_or b j 0 ≡ y)
unfolding pair_met
pair_old a b zero x y h = absurd (true≢false (sym h))
pair_old a b (suc k) x y h =
    ⊎_elim (λ t. let r = pair_old a b k x y t in (r.0, omega (arith, r.1), r.2, r.3))
    (λ t. let q = and_both (eqb (get_or a k 0) x) (eqb (get_or b k 0) y) t in
    (k, omega arith, eqb-true (get_or a k 0) x q.0, eqb-true (get_or b k 0) y q.1))
    (or_case (pair_met a b k x y) (eqb (get_or a k 0) x && eqb (get_or b k 0) y) h)

module _ (s : List ℕ) (met : List Bool) (g : Graph) (t : Track s met g) where
  met-before : 0 < link s g.m → get_or met (link s g.m - 1) false ≡ true → MetBefore s g.m
  met-before o e = let r = t.only (link s g.m) o e in record { at = r.0; before = r.1; same = r.2 }

  before-met : MetBefore s g.m → get_or met (link s g.m - 1) false ≡ true
  before-met r = ap (λ (k : ℕ). get_or met (k - 1) false) (sym r.same) ∙ t.there r.at r.before

  pair_before : pair_met g.a g.b g.m (get_or s (start_at s g.m) 0) (get_or s (start_at s g.m + 1) 0) ≡ true → PairBefore s g.m
  pair_before e =
      let r = pair_old g.a g.b g.m (get_or s (start_at s g.m) 0) (get_or s (start_at s g.m + 1) 0) e in
      record { at = r.0; before = r.1; a = sym (t.a r.0 r.1) ∙ r.2; b = sym (t.b r.0 r.1) ∙ r.3 }

  before_pair : pair_met g.a g.b g.m (get_or s (start_at s g.m) 0) (get_or s (start_at s g.m + 1) 0) ≡ false
      → PairBefore s g.m → ⊥
  before_pair e r =
      pair_new g.a g.b g.m (get_or s (start_at s g.m) 0) (get_or s (start_at s g.m + 1) 0) e r.at r.before
      (t.a r.at r.before ∙ r.a) (t.b r.at r.before ∙ r.b)

  -- a fault is the first that applies
  pub record_refusal : 0 < link s g.m → (record_fault s met g (link s g.m) ≡ 0 → ⊥)
      → RecordRefusal s g.m (record_fault s met g (link s g.m))
  unfolding record_fault
  record_refusal o h =
      let j = g.m in
      let k = link s j in
      let p = start_at s j in
      let n = vertices s in
      by_cases (ltb (record_count s) k) (λ c. rw c (five (ltb-true (record_count s) k c)))
      (λ c. let under = ltb-false (record_count s) k c in
      by_cases (get_or met (k - 1) false) (λ d. rw (c, d) (six under (met-before o d)))
      (λ d. let first : MetBefore s j → ⊥ = λ r. true≢false (sym (before-met r) ∙ d) in
      by_cases (ends_ok n (get_or s p 0) (get_or s (p + 1) 0))
      (λ e. by_cases (mark_test s p)
      (λ f. by_cases (within max_cost (cost_at s p))
      (λ i. let body : body_fault s g.n p ≡ 0 = rw (t.n, body_is s n p, e, f, i) in
      by_cases (pair_met g.a g.b j (get_or s p 0) (get_or s (p + 1) 0))
      (λ q. rw (c, d, body, q)
      (ten under first (ends_yes s j e) (mark_yes s j f) (within_range max_cost (cost_at s p) i) (pair_before q)))
      (λ q. absurd (h (rw (c, d, body, q)))))
      (λ i. let body : body_fault s g.n p ≡ 9 = rw (t.n, body_is s n p, e, f, i) in
      rw (c, d, body) (nine under first (ends_yes s j e) (mark_yes s j f) (cost_no s j i))))
      (λ f. let body : body_fault s g.n p ≡ 8 = rw (t.n, body_is s n p, e, f) in
      rw (c, d, body) (eight under first (ends_yes s j e) (mark_no s j f))))
      (λ e. let body : body_fault s g.n p ≡ 7 = rw (t.n, body_is s n p, e) in
      rw (c, d, body) (seven under first (ends_no s j e)))))

  -- and a fault that is the first that applies is the one computed
  module _ (o : 0 < link s g.m) where
    unmet : (MetBefore s g.m → ⊥) → get_or met (link s g.m - 1) false ≡ false
    unmet n = by_cases (get_or met (link s g.m - 1) false) (λ d. absurd (n (met-before o d))) (λ d. d)

    pair_test : PairBefore s g.m
        → pair_met g.a g.b g.m (get_or s (start_at s g.m) 0) (get_or s (start_at s g.m + 1) 0) ≡ true
    pair_test r = by_cases _ (λ q. q) (λ q. absurd (before_pair q r))

    no_pair_test : (PairBefore s g.m → ⊥)
        → pair_met g.a g.b g.m (get_or s (start_at s g.m) 0) (get_or s (start_at s g.m + 1) 0) ≡ false
    no_pair_test n = by_cases _ (λ q. absurd (n (pair_before q))) (λ q. q)

    pub record_given : (e : ℕ) → RecordRefusal s g.m e → record_fault s met g (link s g.m) ≡ e
    unfolding record_fault
    record_given e (five a) = rw (lt-ltb (record_count s) (link s g.m) a)
    record_given e (six u m) = rw (le-ltb (record_count s) (link s g.m) u, before-met m)
    record_given e (seven u f n) =
        let p = start_at s g.m in
        let body : body_fault s g.n p ≡ 7 = rw (t.n, body_is s (vertices s) p, no_ends_test s g.m n) in
        rw (le-ltb (record_count s) (link s g.m) u, unmet f, body)
    record_given e (eight u f x n) =
        let p = start_at s g.m in
        let body : body_fault s g.n p ≡ 8
        = rw (t.n, body_is s (vertices s) p, ends_test s g.m x, no_mark_test s g.m n) in
        rw (le-ltb (record_count s) (link s g.m) u, unmet f, body)
    record_given e (nine u f x y n) =
        let p = start_at s g.m in
        let body : body_fault s g.n p ≡ 9
        = rw (t.n, body_is s (vertices s) p, ends_test s g.m x, mark_test_lem s g.m y, no_cost_test s g.m n) in
        rw (le-ltb (record_count s) (link s g.m) u, unmet f, body)
    record_given e (ten u f x y z r) =
        let p = start_at s g.m in
        let cost = range_within max_cost (cost_at s p) z in
        let body : body_fault s g.n p ≡ 0
        = rw (t.n, body_is s (vertices s) p, ends_test s g.m x, mark_test_lem s g.m y, cost) in
        rw (le-ltb (record_count s) (link s g.m) u, unmet f, body, pair_test r)

    pub fine_record : RecordFine s g.m → RecordOk s met g (link s g.m)
    fine_record f =
        record {
          under = f.under;
          unmet = unmet f.first;
          body =
              record {
                edge =
                    record {
                      from = f.ends.from;
                      less = f.ends.less;
                      to = omega (arith, f.ends.to, t.n);
                      range = range_within max_cost _ f.cost;
                      known = f.mark.known;
                    };
                zero3 = f.mark.byte3;
                zero10 = f.mark.byte10;
                zero11 = f.mark.byte11;
              };
          new = no_pair_test f.new;
        }

  -- a record without one is fine
  record_fine : 0 < link s g.m → RecordOk s met g (link s g.m) → RecordFine s g.m
  record_fine o r =
      let e = r.body.edge in
      record {
        on = o;
        under = r.under;
        first = λ m. true≢false (sym (before-met m) ∙ r.unmet);
        ends = record { from = e.from; less = e.less; to = omega (arith, e.to, t.n) };
        mark = record { known = e.known; byte3 = r.body.zero3; byte10 = r.body.zero10; byte11 = r.body.zero11 };
        cost = within_range max_cost _ e.range;
        new = before_pair r.new;
      }

  -- and the chain goes on
  module _ (o : 0 < link s g.m) (h : HeaderOk s) (r : RecordOk s met g (link s g.m)) where
    short : link s g.m - 1 < length met
    short = omega (arith, t.size, r.under, h.few)

    there_more : (i : ℕ) → i < g.m + 1 → get_or (set met (link s g.m - 1) true) (link s i - 1) false ≡ true
    there_more i l =
        let q = link s g.m - 1 in
        by_cases (eqb (link s i - 1) q)
        (λ e. rw (eqb-true (link s i - 1) q e) (get_or-set_same met q true false short))
        (λ e. let n = eqb-false (link s i - 1) q e in
        get_or-set_other met q (link s i - 1) true false n ∙ t.there i (older n))
      where
        older : (link s i - 1 ≡ link s g.m - 1 → ⊥) → i < g.m
        older n =
            by_cases (eqb i g.m) (λ e. absurd (n (ap (λ (x : ℕ). link s x - 1) (eqb-true i g.m e))))
            (λ e. less (eqb-false i g.m e))
          where
            less : (i ≡ g.m → ⊥) → i < g.m
            less u = omega arith

    only_more : (k : ℕ) → 0 < k → get_or (set met (link s g.m - 1) true) (k - 1) false ≡ true
        → (i : ℕ) × (i < g.m + 1) × (link s i ≡ k)
    only_more k l e =
        let q = link s g.m - 1 in
        by_cases (eqb (k - 1) q)
        (λ u. (g.m, omega arith, omega (arith, eqb-true (k - 1) q u)))
        (λ u. let w = t.only k l (sym (get_or-set_other met q (k - 1) true false (eqb-false (k - 1) q u)) ∙ e) in
        (w.0, omega (arith, w.1), w.2))

    room : g.m < max_edges
    room = record_room s met g (link s g.m) t.sound r

    ne : (i : ℕ) → i < g.m → i ≡ g.m → ⊥
    ne i l e = omega arith

    pub track_more : Track s (set met (link s g.m - 1) true) (with_record s g (start_at s g.m))
    unfolding with_record appended
    track_more =
        let p = start_at s g.m in
        record {
          sound = sound_record s met g (link s g.m) t.sound r;
          n = t.n;
          size = length-set met (link s g.m - 1) true ∙ t.size;
          there = there_more;
          only = only_more;
          a =
              below_more (λ (i : ℕ). get_or (set g.a g.m (get_or s p 0)) i 0 ≡ get_or s (start_at s i) 0) g.m
              (λ i l. get_or-set_other g.a g.m i (get_or s p 0) 0 (ne i l) ∙ t.a i l)
              (get_or-set_same g.a g.m (get_or s p 0) 0 (omega (arith, room, t.sound.shape.a)));
          b =
              below_more (λ (i : ℕ). get_or (set g.b g.m (get_or s (p + 1) 0)) i 0 ≡ get_or s (start_at s i + 1) 0) g.m
              (λ i l. get_or-set_other g.b g.m i (get_or s (p + 1) 0) 0 (ne i l) ∙ t.b i l)
              (get_or-set_same g.b g.m (get_or s (p + 1) 0) 0 (omega (arith, room, t.sound.shape.b)));
          fine = below_more (λ (i : ℕ). RecordFine s i) g.m t.fine (record_fine o r);
        }
