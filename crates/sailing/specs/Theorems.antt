-- WHAT A SIMULATION COMES TO, in plain words of the call's answers: it sails tours and nothing else, every tour can be sailed, the total is the
-- tour's cost and the delays, no two students end in one state, and marks count for nothing. Assumes nothing.
use Rattle.std.specs.Prelude.{◌≡◌, ◌≢◌, ◌↔◌, Bool, true, false, not, ◌&&◌, eqb, leb, length, ℤ, pos, ◌+ℤ◌}
use Rattle.std.proofs.Math.Path.{refl, sym, ap}
use Rattle.std.proofs.Common.{◌∙◌, subst, true≢false, arith}
use mathlib.Core.List.{List, [], ◌∷◌}
use Prim.Native.Nat.{ℕ, zero, suc, ◌≤◌}
use borrow.Author.Tests.{eqb-true, eq-eqb, le-leb}
use Rattle.lists.specs.Bools.{by_cases, and_both}
use Rattle.lists.specs.Members.{◌∈◌}
use Rattle.lists.specs.Numbers.{up_to}
use Rattle.lists.specs.Sets.{NumberSet, ◌⊕◌}
use Rattle.graph.specs.declared.Graph.{Graph}
use Rattle.graph.specs.Network.{Network, Mark, network}
use Rattle.graph.specs.Valid.{Valid, valid, graph_of}
use Rattle.graph.specs.Meaning.{valid_true, true_valid}
use Rattle.tree_theory.specs.OneTree.{Edges}
use Rattle.tree_theory.specs.Valid as network_is
use Rattle.tree_theory.specs.Arrays.{network-valid}
use Rattle.tours.specs.Tours.{Tour, cost}
use Rattle.sailing.specs.Draws.{max_student, max_spread, after}
use Rattle.sailing.specs.Orders.{SailingOrder, other_end, goes_on, walk, in_sailing_order}
use Rattle.sailing.specs.Times.{delays_from, total}
use Rattle.sailing.specs.Simulation.{Reply, sailed, refused, simulation_fault, times_of, reply_by, simulation_reply}
use Rattle.sailing.specs.Apart.{students_apart}
use Rattle.sailing.specs.Totals.{total_is}
use Rattle.sailing.specs.OrderTest.{order_size, test_order, order_test}
use Rattle.sailing.specs.SailedTours.{set_of, order_tour, order_cost, tour_accepted}
use Rattle.sailing.specs.EitherWay.{turned, order_turned}
use Rattle.sailing.specs.Refusals.{sizes_fit, numbers_fit, Faultless, no_fault, fault-graph, fault-length, fault_order, fault_numbers, fault_none, reply-refused, reply_sailed}

-- ---- an answer says which fault there was

is_refused_lem : Reply → Bool
is_refused_lem (sailed t s) = false
is_refused_lem (refused f p) = true

module _ (g : Graph) (ks : List ℕ) (student e len : ℕ) where
  sailed_no_fault : (t : ℤ) (s : ℕ) → simulation_reply g ks student e len ≡ sailed t s → simulation_fault g ks student e len ≡ 0
  unfolding simulation_reply reply_by is_refused_lem
  sailed_no_fault t s h = go (simulation_fault g ks student e len) refl
    where
      go : (f : ℕ) → simulation_fault g ks student e len ≡ f → f ≡ 0
      go zero q = refl
      go (suc f) q = absurd (true≢false (ap is_refused_lem (sym (reply-refused g ks student e len (suc f) q (λ z. omega arith)) ∙ h)))

  sailed_faultless : (t : ℤ) (s : ℕ) → simulation_reply g ks student e len ≡ sailed t s → Faultless g ks student e len
  sailed_faultless t s h = no_fault g ks student e len (sailed_no_fault t s h)

-- the parts of an answer
total_in : Reply → ℤ
total_in (sailed t s) = t
total_in (refused f p) = pos 0

last_in : Reply → ℕ
last_in (sailed t s) = s
last_in (refused f p) = 0

module _ (g : Graph) (ks : List ℕ) (student e len : ℕ) (t : ℤ) (s : ℕ) (h : simulation_reply g ks student e len ≡ sailed t s) where
  sailed_order : SailingOrder (network g) ks
  sailed_order = let f = sailed_faultless g ks student e len t s h in test_order (network g) (network-valid g f.is_valid) ks f.in_order

  is_sailed : sailed (total (times_of g ks student e)) (after (length ks) student) ≡ sailed t s
  is_sailed = sym (reply_sailed g ks student e len (sailed_no_fault g ks student e len t s h)) ∙ h

  -- WHAT IS SAILED IS A TOUR: n edges that form one closed trip through all n vertices
  pub sailed_tour : Tour (network g) (set_of ks)
  sailed_tour =
      order_tour (network g) (network-valid g (sailed_faultless g ks student e len t s h).is_valid) ks sailed_order

  -- "The result has .. the last state": the state after n legs
  pub sailed_last : s ≡ after g.n student
  unfolding last_in
  sailed_last =
      sym (ap last_in is_sailed)
      ∙ ap (λ (k : ℕ). after k student) (sailed_faultless g ks student e len t s h).edges_size

  -- THE TOTAL IS THE TOUR'S COST AND THE DELAYS' SUM
  pub sailed_total : t ≡ cost (network g) (set_of ks) +ℤ total (delays_from e student g.n)
  unfolding total_in times_of
  sailed_total =
      let f = sailed_faultless g ks student e len t s h in
      sym (ap total_in is_sailed)
      ∙ total_is (network g).cost e student ks
      ∙ ap (λ (z : ℤ). z +ℤ total (delays_from e student (length ks)))
      (order_cost (network g) (network-valid g f.is_valid) ks sailed_order)
      ∙ ap (λ (k : ℕ). cost (network g) (set_of ks) +ℤ total (delays_from e student k)) f.edges_size

  -- and it can be sailed the other way round
  pub sailed_either_way : simulation_fault g (turned ks) student e len ≡ 0
  unfolding network
  sailed_either_way =
      let f = sailed_faultless g ks student e len t s h in
      let v = network-valid g f.is_valid in
      let back = order_turned (network g) ks sailed_order in
      fault_none g (turned ks) student e len (true_valid g f.is_valid)
      (rw (eq-eqb (length (turned ks)) g.n (order_size (network g) v (turned ks) back), eq-eqb len g.n f.times-size))
      (order_test (network g) v (turned ks) back)
      (rw (le-leb e max_spread f.spread_fits, le-leb student max_student f.student_fits))

-- EVERY TOUR CAN BE SAILED: it has a list of its edges that every student's call accepts
pub record Sailable (g : Graph) (t : Edges) : Type 0 where
  pub edges : List ℕ
  pub same : (k : ℕ) → k ∈ up_to g.m → set_of edges k ≡ t k
  pub accepted : (student e : ℕ) → student ≤ max_student → e ≤ max_spread → simulation_fault g edges student e g.n ≡ 0

pub tour_sailed : (g : Graph) → Valid g → (t : Edges) → Tour (network g) t → Sailable g t
unfolding network
tour_sailed g v t tour =
    let r = tour_accepted (network g) (network-valid g v) t tour in
    let order = test_order (network g) (network-valid g v) r.0 r.1 in
    record {
      edges = r.0;
      same = r.2;
      accepted = λ student e hs he. fault_none g r.0 student e g.n (true_valid g v)
          (rw (eq-eqb (length r.0) g.n (order_size (network g) (network-valid g v) r.0 order), eq-eqb g.n g.n refl))
          r.1
          (rw (le-leb e max_spread he, le-leb student max_student hs));
    }

-- "36 .. when the legs given are not a round of all the chart's buoys in sailing order from buoy 1", and only then
pub refused_36 : (g : Graph) (ks : List ℕ) (student e len : ℕ) → valid g ≡ true → length ks ≡ g.n → len ≡ g.n
    → (simulation_fault g ks student e len ≡ 36) ↔ (¬ SailingOrder (network g) ks)
refused_36 g ks student e len v size room = (never, always)
  where
    vg : network_is.Valid (network g)
    vg = network-valid g (valid_true g v)

    fits : sizes_fit g ks len ≡ true
    fits = rw (eq-eqb (length ks) g.n size, eq-eqb len g.n room)

    never : simulation_fault g ks student e len ≡ 36 → ¬ SailingOrder (network g) ks
    never is order =
        let o = order_test (network g) vg ks order in
        by_cases (numbers_fit student e)
        (λ f. let z : 36 ≡ 0 = sym is ∙ fault_none g ks student e len v fits o f in omega arith)
        (λ f. let z : 36 ≡ 37 = sym is ∙ fault_numbers g ks student e len v fits o f in omega arith)

    always : (¬ SailingOrder (network g) ks) → simulation_fault g ks student e len ≡ 36
    always none =
        by_cases (in_sailing_order (network g) ks)
        (λ o. absurd (none (test_order (network g) vg ks o)))
        (λ o. fault_order g ks student e len v fits o)

-- "Students with different numbers never hold the same state after equally many legs": not at the end of two sailings either, whatever the
-- charts and the spreads
pub students_end_apart : (g h : Graph) (ks js : List ℕ) (student other e f len room : ℕ) (t u : ℤ) (s r : ℕ)
    → simulation_reply g ks student e len ≡ sailed t s → simulation_reply h js other f room ≡ sailed u r → g.n ≡ h.n → student ≢ other → s ≢ r
students_end_apart g h ks js student other e f len room t u s r mine theirs size differ same =
    students_apart g.n student other (sailed_faultless g ks student e len t s mine).student_fits
    (sailed_faultless h js other f room u r theirs).student_fits differ
    (sym (sailed_last g ks student e len t s mine) ∙ same ∙ sailed_last h js other f room u r theirs
    ∙ ap (λ (k : ℕ). after k other) (sym size))

-- ---- "Marks don't matter to the sailing."

marked : (ℕ → Mark) → Network → Network
marked f g = record { n = g.n; m = g.m; a = g.a; b = g.b; cost = g.cost; mark = f }

walk-marked : (g : Network) (f : ℕ → Mark) (ks : List ℕ) (met : NumberSet) (u : ℕ) → walk (marked f g) met u ks ≡ walk g met u ks
unfolding marked walk
walk-marked g f [] met u = refl
walk-marked g f (k ∷ ks) met u =
    ap (λ (b : Bool). goes_on g met u k && b) (walk-marked g f ks (met ⊕ other_end g k u) (other_end g k u))

order_marked : (g : Network) (f : ℕ → Mark) (ks : List ℕ) → in_sailing_order (marked f g) ks ≡ in_sailing_order g ks
unfolding marked in_sailing_order
order_marked g f ks = ap (λ (b : Bool). eqb (length ks) g.n && b) (walk-marked g f ks (λ v. false) 1)

-- two valid charts that differ in their marks alone are sailed alike: same refusal, same times, same total, same state
module _ (g : Graph) (marks : List ℕ) (ks : List ℕ) (student e : ℕ) where
  abbrev other_marks : Graph
  other_marks = graph_of g.n g.m g.a g.b g.cost marks

  order_same : in_sailing_order (network other_marks) ks ≡ in_sailing_order (network g) ks
  unfolding network marked
  order_same = order_marked (network g) (network other_marks).mark ks

  fault-same : (len : ℕ) → Valid g → Valid other_marks → simulation_fault other_marks ks student e len ≡ simulation_fault g ks student e len
  unfolding simulation_fault
  fault-same len v w = rw (true_valid g v, true_valid other_marks w, order_same)

  pub times-same : times_of other_marks ks student e ≡ times_of g ks student e
  unfolding times_of network
  times-same = refl

  reply-same : (f : ℕ) → reply_by other_marks ks student e f ≡ reply_by g ks student e f
  unfolding reply_by
  reply-same zero = ap (λ (zs : List ℤ). sailed (total zs) (after (length ks) student)) times-same
  reply-same (suc f) = refl

  pub marks_nothing : (len : ℕ) → Valid g → Valid other_marks → simulation_reply other_marks ks student e len ≡ simulation_reply g ks student e len
  unfolding simulation_reply
  marks_nothing len v w = reply-same (simulation_fault other_marks ks student e len) ∙ ap (reply_by g ks student e) (fault-same len v w)
