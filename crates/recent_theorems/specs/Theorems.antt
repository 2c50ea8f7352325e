-- THE CALL IS WHAT Recent.antt SAYS, and searches of the graph that it makes are demand 3's. Assumes nothing.
use Rattle.std.specs.Prelude.{◌≡◌, refl, ◌⊎◌, Bool, true, false, cond, ◌&&◌, List, [], ◌∷◌, eqb, leb, length, get_or, ℤ, pos}
use Rattle.std.proofs.Math.Path.{sym, ap}
use Rattle.std.proofs.Common.{◌∙◌, inl, inr, arith, eq-eqb, ne_eqb, le-leb, leb-true, eqb-true}
use Prim.Native.Nat.{ℕ, zero, suc, ◌+◌, ◌-◌, ◌<◌, ◌≤◌}
use Rattle.std.proofs.Math.Decide.{dec_le}
use Rattle.std.proofs.Math.ListN.{get_or-eq_default}
use Rattle.lists.specs.Bools.{by_cases, and_both}
use Rattle.lists.specs.Members.{◌∈◌}
use Rattle.lists.specs.Numbers.{up_to, in_up_to}
use Rattle.lists.specs.Select.{keep, select, select_in}
use Rattle.lists.specs.Fill.{fill-at, fill_past}
use Rattle.integers.specs.Range.{within, within_range, range_within}
use Rattle.integers.specs.Sums.{sum_z, sum_same}
use Rattle.graph.specs.declared.Graph.{Graph}
use Rattle.graph.specs.Limits.{max_edges, max_cost}
use Rattle.graph.specs.Network.{network}
use Rattle.graph.specs.Places.{network-cost}
use Rattle.graph.specs.Valid.{EdgeAt, Valid, valid}
use Rattle.graph.specs.Meaning.{valid_true, true_valid, not_valid}
use Rattle.recent.specs.Costs.{Entry, log_of, times_of, latest, recent_cost, recent_costs, recent_graph}
use Rattle.recent.specs.Greatest.{or-greatest}
use Rattle.recent.specs.Places.{in_latest, latest_some}
use Rattle.lists.specs.MembersAt.{at_in}
use Rattle.recent.specs.Answers.{max_window, made, refused, entry_ok, bad_from, unless_bad, recent_reply}
use Rattle.recent.specs.Exact.{cost_none}
use Rattle.recent.proofs.Exact.{exact}
use Rattle.recent.specs.Replay.{ok_edge, ok_time}
use Rattle.recent.specs.Faults.{refused-graph, refused_lengths, refused_window, refused-entry, accepted, reply_log, leaves-refused, leaves-made}
use Rattle.tree_theory.specs.OneTree.{Edges}
use Rattle.tours.specs.Tours.{cost}
use Rattle.machine.specs.declared.Settings.{Settings}
use Rattle.machine.specs.Machine.{Opening}
use Rattle.machine.specs.Calls.{Verdict, fault}
use Rattle.tours.specs.OneNetwork.{OneNetwork}
use Rattle.recent_theorems.specs.Recent.{Bad, FirstBad, Refuses, AfterEvery, CostIs, Makes, Made, opening, Searched}

-- ---- an entry that is not refused

ok_not_bad : (m : ℕ) (e : Entry) → entry_ok m e ≡ true → ¬ Bad m e
ok_not_bad m e ok bad =
    let k = ok_edge m e ok in
    bad (k.0, k.1, within_range max_cost e.time (ok_time m e ok))

bad_not_ok : (m : ℕ) (e : Entry) → Bad m e → entry_ok m e ≡ false
bad_not_ok m e bad = by_cases (entry_ok m e) (λ ok. absurd (ok_not_bad m e ok bad)) (λ no. no)

not_bad_ok : (m : ℕ) (e : Entry) → ¬ Bad m e → entry_ok m e ≡ true
unfolding entry_ok
not_bad_ok m e fine = by_cases (entry_ok m e) (λ ok. ok) (λ no. absurd (fine (λ k.
    let t = rw (le-leb 1 e.edge k.0, le-leb e.edge m k.1, range_within max_cost e.time k.2) at no in
    (let z : ◌≡◌ {A = ℕ} 0 1 = cc in omega arith))))

-- where no entry is refused, none is bad
none_bad : (m p : ℕ) (log : List Entry) → 1 ≤ p → bad_from m p log ≡ 0 → (e : Entry) → e ∈ log → entry_ok m e ≡ true
unfolding bad_from
none_bad m p [] h z e i = absurd i
none_bad m p (d ∷ log) h z e i = go (entry_ok m d) refl z i (λ y j. none_bad m (suc p) log (omega arith) y e j)
  where
    go : (b : Bool) → entry_ok m d ≡ b → cond b (bad_from m (suc p) log) p ≡ 0 → (e ≡ d) ⊎ (e ∈ log)
        → (bad_from m (suc p) log ≡ 0 → e ∈ log → entry_ok m e ≡ true) → entry_ok m e ≡ true
    go true t z (inl q) below = ap (entry_ok m) q ∙ t
    go true t z (inr j) below = below z j
    go false t z j below = absurd (omega arith)

-- and the other way
all_good : (m p : ℕ) (log : List Entry) → ((e : Entry) → e ∈ log → entry_ok m e ≡ true) → bad_from m p log ≡ 0
unfolding bad_from
all_good m p [] h = refl
all_good m p (d ∷ log) h = rw (h d (inl refl)) (all_good m (suc p) log (λ e i. h e (inr i)))

-- the first bad entry is the one found
first_found : (m p : ℕ) (log : List Entry) (z : Entry) (i : ℕ) → i < length log → entry_ok m (get_or log i z) ≡ false
    → ((j : ℕ) → j < i → entry_ok m (get_or log j z) ≡ true) → bad_from m p log ≡ p + i
unfolding bad_from
first_found m p [] z i l bad before = absurd (omega arith)
first_found m p (d ∷ log) z zero l bad before = rw bad (omega arith)
first_found m p (d ∷ log) z (suc i) l bad before =
    rw (before 0 (omega arith)) (first_found m (suc p) log z i (omega arith) bad (λ j k. before (suc j) (omega arith)) ∙ omega arith)

-- ---- refusals

module _ (g : Graph) (w : ℕ) (edges : List ℕ) (times : List ℤ) where
  out_of_window : ((1 ≤ w) × (w ≤ max_window) → ⊥) → (leb 1 w && leb w max_window) ≡ false
  out_of_window h = by_cases (leb 1 w && leb w max_window)
      (λ t. let p = and_both (leb 1 w) (leb w max_window) t in absurd (h (leb-true 1 w p.0, leb-true w max_window p.1))) (λ f. f)

  in_window : 1 ≤ w → w ≤ max_window → (leb 1 w && leb w max_window) ≡ true
  in_window low high = rw (le-leb 1 w low, le-leb w max_window high)

  at_first : Valid g → length edges ≡ length times → 1 ≤ w → w ≤ max_window → (place : ℕ) → FirstBad g.m (log_of edges times) place
      → recent_reply g w edges times ≡ refused 39 place
  at_first v l low high place b =
      refused-entry g w edges times (true_valid g v) (eq-eqb _ _ l) (in_window low high) place
      (sym (found ∙ omega (arith, b.from))) (λ z. omega (arith, b.from))
    where
      found : bad_from g.m 1 (log_of edges times) ≡ 1 + (place - 1)
      found =
          first_found g.m 1 (log_of edges times) b.entry (place - 1) (omega (arith, b.from, b.to))
          (ap (entry_ok g.m) b.there ∙ bad_not_ok g.m b.entry b.bad)
          (λ j h. not_bad_ok g.m (get_or (log_of edges times) j b.entry) (b.before j h))

  pub refuses : Refuses g w edges times
  refuses = record {
    graph = λ h. refused-graph g w edges times (not_valid g h);
    lengths = λ v h. refused_lengths g w edges times (true_valid g v) (ne_eqb _ _ h);
    window = λ v l h. refused_window g w edges times (true_valid g v) (eq-eqb _ _ l) (out_of_window h);
    entries = at_first;
    otherwise = λ v l low high fine. accepted g w edges times (true_valid g v) (eq-eqb _ _ l) (in_window low high)
        (sym (all_good g.m 1 (log_of edges times) (λ e i. not_bad_ok g.m e (fine e i))));
    unchanged = leaves-refused g w edges times;
  }

-- ---- what an accepted call knows

pub record Accepted (g : Graph) (w : ℕ) (log : List Entry) : Type 0 where
  pub is_valid : Valid g
  pub low : 1 ≤ w
  pub high : w ≤ max_window
  pub good : (e : Entry) → e ∈ log → entry_ok g.m e ≡ true

refused-made : (n p : ℕ) → refused n p ≡ made → ⊥
refused-made n p h = let z : ◌≡◌ {A = ℕ} 0 1 = cc in omega arith

pub accepted_knows : (g : Graph) (w : ℕ) (edges : List ℕ) (times : List ℤ) → recent_reply g w edges times ≡ made
    → Accepted g w (log_of edges times)
accepted_knows g w edges times e =
    by_cases (valid g)
    (λ v. by_cases (eqb (length edges) (length times))
    (λ l. by_cases (leb 1 w && leb w max_window)
    (λ o. record {
      is_valid = valid_true g v;
      low = leb-true 1 w (and_both (leb 1 w) (leb w max_window) o).0;
      high = leb-true w max_window (and_both (leb 1 w) (leb w max_window) o).1;
      good = none_bad g.m 1 (log_of edges times) (omega arith)
          (no_place (bad_from g.m 1 (log_of edges times)) (sym (reply_log g w edges times v l o) ∙ e));
    })
    (λ o. absurd (refused-made 38 0 (sym (refused_window g w edges times v l o) ∙ e))))
    (λ l. absurd (refused-made 11 0 (sym (refused_lengths g w edges times v l) ∙ e))))
    (λ v. absurd (refused-made 15 0 (sym (refused-graph g w edges times v) ∙ e)))
  where
    no_place : (p : ℕ) → unless_bad p ≡ made → p ≡ 0
    no_place zero h = refl
    no_place (suc p) h = absurd (refused-made 39 (suc p) h)

-- ---- the graph that is made

-- a time of edge k is the time of an entry that names it
times_in : (k : ℕ) (log : List Entry) (z : ℤ) → z ∈ times_of k log → (e : Entry) × (e ∈ log) × (e.edge ≡ k) × (e.time ≡ z)
unfolding times_of
times_in k [] z m = absurd m
times_in k (d ∷ log) z m = go (eqb d.edge k) refl m (λ i. times_in k log z i)
  where
    go : (b : Bool) → eqb d.edge k ≡ b → z ∈ keep b d.time (times_of k log)
        → (z ∈ times_of k log → (e : Entry) × (e ∈ log) × (e.edge ≡ k) × (e.time ≡ z))
        → (e : Entry) × (e ∈ (d ∷ log)) × (e.edge ≡ k) × (e.time ≡ z)
    go true t (inl e) below = (d, inl refl, eqb-true d.edge k t, sym e)
    go true t (inr i) below = let r = below i in (r.0, inr r.1, r.2, r.3)
    go false t i below = let r = below i in (r.0, inr r.1, r.2, r.3)

cost_is : (w : ℕ) → 1 ≤ w → (c : ℤ) (log : List Entry) (k : ℕ) → CostIs w c (times_of k log) (recent_cost w c log k)
unfolding recent_cost
cost_is w low c log k = record {
  some = λ h. or-greatest c (latest w (times_of k log)) (latest_some w (times_of k log) low h);
  none = cost_none w c log k;
}

module _ (g : Graph) (w : ℕ) (log : List Entry) (full : length g.cost ≡ max_edges) (p : Accepted g w log) where
  abbrev chart : ℕ → ℤ
  chart i = get_or g.cost i (pos 0)

  cost-at : (i : ℕ) → i < max_edges → get_or (recent_graph w log g).cost i (pos 0) ≡ recent_cost w (chart i) log (suc i)
  unfolding recent_graph recent_costs
  cost-at i h = fill-at (length g.cost) (λ j. recent_cost w (chart j) log (suc j)) i (pos 0) (omega (arith, full))

  beyond : (i : ℕ) → max_edges ≤ i → get_or (recent_graph w log g).cost i (pos 0) ≡ chart i
  unfolding recent_graph recent_costs
  beyond i h =
      fill_past (length g.cost) (λ j. recent_cost w (chart j) log (suc j)) i (pos 0) (omega (arith, full))
      ∙ sym (get_or-eq_default g.cost (pos 0) (omega (arith, full)))

  no_times : (k : ℕ) → g.m < k → times_of k log ≡ []
  no_times k h = go (times_of k log) (λ z i. none z i)
    where
      none : (z : ℤ) → z ∈ times_of k log → ⊥
      none z i = let r = times_in k log z i in omega (arith, (ok_edge g.m r.0 (p.good r.0 r.1)).1, r.2)

      go : (ts : List ℤ) → ((z : ℤ) → z ∈ ts → ⊥) → ts ≡ []
      go [] f = refl
      go (z ∷ ts) f = absurd (f z (inl refl))

  -- a recent cost is the chart's or one of the times
  in_range : (c : ℤ) → within max_cost c ≡ true → (k : ℕ) → within max_cost (recent_cost w c log k) ≡ true
  in_range c fits k = go (times_of k log) refl
    where
      from : (z : ℤ) → z ∈ latest w (times_of k log) → within max_cost z ≡ true
      from z m =
          let r = in_latest w (times_of k log) z m in
          let s = times_in k log z (rw r.3 (at_in (times_of k log) r.0 (pos 0) r.1)) in
          rw (← s.3) (ok_time g.m s.0 (p.good s.0 s.1))

      go : (ts : List ℤ) → times_of k log ≡ ts → within max_cost (recent_cost w c log k) ≡ true
      go [] e = rw (cost_none w c log k e) fits
      go (t ∷ ts) e =
          from (recent_cost w c log k)
          ((cost_is w p.low c log k).some (let s : length (times_of k log) ≡ suc (length ts) = ap length e in omega arith)).member

  network_is : (k : ℕ) → k ∈ up_to g.m → (network (recent_graph w log g)).cost k ≡ recent_cost w ((network g).cost k) log k
  unfolding recent_graph
  network_is k i = at k (in_up_to g.m k i).0 (in_up_to g.m k i).1
    where
      at : (k : ℕ) → 1 ≤ k → k ≤ g.m → (network (recent_graph w log g)).cost k ≡ recent_cost w ((network g).cost k) log k
      at zero l h = absurd (omega arith)
      at (suc j) l h =
          network-cost (recent_graph w log g) j h ∙ cost-at j (omega (arith, p.is_valid.few))
          ∙ ap (λ (c : ℤ). recent_cost w c log (suc j)) (sym (network-cost g j h))

  past : (i : ℕ) → g.m ≤ i → get_or (recent_graph w log g).cost i (pos 0) ≡ chart i
  past i h = go (dec_le (suc i) max_edges)
    where
      go : Dec (i < max_edges) → get_or (recent_graph w log g).cost i (pos 0) ≡ chart i
      go (yes l) = cost-at i l ∙ cost_none w (chart i) log (suc i) (no_times (suc i) (omega arith))
      go (no l) = beyond i (omega arith)

  made-valid : Valid (recent_graph w log g)
  unfolding recent_graph
  made-valid =
      let v = p.is_valid in
      record {
        low = v.low;
        high = v.high;
        few = v.few;
        each = λ k h. edge k h (v.each k h);
        once = λ j k l h s. v.once j k l h (record { a = s.a; b = s.b });
      }
    where
      edge : (k : ℕ) → k < g.m → EdgeAt g k → EdgeAt (recent_graph w log g) k
      edge k h e = record {
        from = e.from;
        less = e.less;
        to = e.to;
        range = rw (cost-at k (omega (arith, p.is_valid.few))) (in_range (chart k) e.range (suc k));
        known = e.known;
      }

  makes : Makes w log g (recent_graph w log g)
  unfolding recent_graph
  makes = record {
    valid = made-valid;
    costs = λ k i. rw (network_is k i) (cost_is w p.low ((network g).cost k) log k);
    n = refl;
    m = refl;
    a = refl;
    b = refl;
    mark = refl;
    past = past;
  }

  -- ---- searches

  fault-same : (d : List ℤ) (l : List ℕ) (settings : Settings)
      → fault (opening (recent_graph w log g) d l settings) ≡ fault (opening g d l settings)
  unfolding fault recent_graph
  fault-same d l settings = rw (true_valid (recent_graph w log g) made-valid, true_valid g p.is_valid)

  priced : (t : Edges) → cost (network (recent_graph w log g)) t
      ≡ sum_z (λ k. recent_cost w ((network g).cost k) log k) (select t (up_to g.m))
  unfolding cost network recent_graph
  priced t =
      sum_same (λ k. (network (recent_graph w log g)).cost k) (λ k. recent_cost w ((network g).cost k) log k) (select t (up_to g.m))
      (λ k i. network_is k (select_in t (up_to g.m) k i).0)

-- ---- the statements

pub made_is : Made
made_is g w edges times full e =
    rw (leaves-made g w edges times e) (makes g w (log_of edges times) full (accepted_knows g w edges times e))

pub after_every : AfterEvery
after_every g w edges times full e =
    let p = accepted_knows g w edges times e in
    exact w p.low p.high g.cost (log_of edges times)
    (λ d i. let k = ok_edge g.m d (p.good d i) in (k.0, omega (arith, k.1, p.is_valid.few))) full

one_self : (o : Opening) → OneNetwork (network o.graph) (network o.graph)
one_self o = record { n = refl; m = refl; there = λ k i. (k, i, record { a = refl; b = refl; cost = refl; mark = refl }) }

-- of any calls whose finished searches agree
pub searched : {L : Type 0} (Leaves : L → Opening → Type 0) (Says : L → Opening → Verdict → Type 0)
    → ((cs ds : L) (o p : Opening) → Leaves cs o → Leaves ds p → OneNetwork (network o.graph) (network p.graph)
    → o.ashore ≡ p.ashore → o.settings.ceiling ≡ p.settings.ceiling → (v : Verdict) × Says cs o v × Says ds p v)
    → Searched Leaves Says
searched Leaves Says agree g w edges times full e =
    let p = accepted_knows g w edges times e in
    let log = log_of edges times in
    rw (leaves-made g w edges times e) (record {
      opens = fault-same g w log full p;
      priced = priced g w log full p;
      says = λ cs d inactive settings l.
          let o = opening (recent_graph w log g) d inactive settings in
          let r = agree cs cs o o l l (one_self o) refl refl in (r.0, r.1);
    })
