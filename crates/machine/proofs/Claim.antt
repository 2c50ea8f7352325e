-- THE PROOF of demand 3's claims about the machine itself: two finished searches agree, and a budget suffices. It rests on the general theorem
-- (BranchAndBound), on the invariant of lists of calls (Invariant), on the renumbering of one network (Renumbering) and, where edges are
-- numbered alike, on the networks being one (Alike).
use Rattle.std.specs.Prelude.{◌≡◌, ◌↔◌, ◌⊎◌, Bool, false, length, ℤ, ◌≤ℤ◌, ◌<ℤ◌, eqb}
use Rattle.std.proofs.Math.Path.{refl, ap, subst}
use Rattle.std.proofs.Common.{sym, ◌∙◌, inl, inr, arith}
use Rattle.std.proofs.Math.Bool.{true}
use Rattle.std.proofs.lemmas.Bool.{false≢true}
use mathlib.Core.List.{List, [], ◌∷◌, map}
use Prim.Native.Nat.{ℕ, suc, ◌-◌, ◌^◌, ◌≤◌, ◌<◌}
use Rattle.std.proofs.Math.Decide.{dec_le}
use Rattle.std.proofs.Math.ListN.{get_or}
use borrow.Author.Tests.{eq-eqb}
use Rattle.lists.specs.Bools.{by_cases, bit}
use Rattle.lists.specs.Members.{◌∈◌}
use Rattle.lists.specs.Numbers.{up_to}
use Rattle.lists.specs.Rows.{row, row-size, row_at, row_same, row_of, row-map}
use Rattle.integers.specs.Order.{le_antisym, le-or-lt}
use Rattle.graph.specs.declared.Graph.{Graph}
use Rattle.graph.specs.Limits.{max_edges}
use Rattle.graph.specs.Network.{Network, Mark, free, network}
use Rattle.graph.specs.Places.{network_a, network_b}
use Rattle.graph.specs.Valid as value
use Rattle.tree_theory.specs.OneTree.{Edges, lacks_first}
use Rattle.tree_theory.specs.Agree.{Agree, neither}
use Rattle.tree_theory.specs.Arrays.{edge_of, of_edge}
use Rattle.tours.specs.Tours.{Tour, Allowed, cost, Feasible}
use Rattle.afloat.specs.Over.{ashore, FeasibleOver}
use Rattle.afloat.specs.Tours.{feasible_iff, cost-reduced}
use Rattle.afloat.specs.Agreeing.{over_there, feasible_over_same}
use Rattle.machine.specs.Outcomes.{Incumbent, no_tour, a_tour}
use Rattle.machine.specs.Machine.{Node, with_marks, marks_of, frees, Opening, active_network, trimmed, held, Progress, State, no_search, searching, edges_of}
use Rattle.machine.specs.Machine.{cost_of, is_empty, finished}
use Rattle.machine.specs.Calls.{Call, tell, show, Verdict, going_on, none, best, accepted, tells, Reply, verdict, verdict_of, tour_bytes}
use Rattle.machine.specs.Calls.{shown_by, step, leaves, History, since, history, free_at_start}
use Rattle.tours.specs.OneNetwork.{OneNetwork}
use Rattle.machine.specs.Demand3.{NumberedAlike, Finished, LeavesFinished, Such}
use Rattle.machine.specs.Demand3 as stated
use Rattle.machine.specs.Laws.BranchAndBound.{Optimal, Reached}
use Rattle.machine.proofs.BranchAndBound.{optimum}
use Rattle.machine.specs.Trimmed.{network-trimmed, valid-trimmed}
use Rattle.machine.specs.Active.{active_fit, active_held}
use Rattle.machine.specs.Laws.NodeTours.{Agrees, Inside, allowed_agrees, agrees_allowed}
use Rattle.machine.proofs.NodeTours.{tours}
use Rattle.machine.specs.Kept.{Sized}
use Rattle.tours.specs.Renumbering.{Simple, one_sym}
use Rattle.machine.specs.Claims.Alike.{network-alike}
use Rattle.machine.specs.Claims.Invariant.{first_node}
use Rattle.machine.proofs.Invariant.{Good, FineSearch, Fine, fine, before_last}
use Rattle.machine.specs.Claims.Claim.{Says, ShowAlike}

abbrev Otherwise : List Call → Opening → Verdict → Type 0
Otherwise cs o v = stated.Otherwise (λ a. a) (λ c. (step (leaves cs) c).answer) (λ c. (step (leaves cs) c).lent) o v

abbrev Shows : List Call → Opening → ℤ → Type 0
Shows cs o c = stated.Shows (λ a. a) (λ c. (step (leaves cs) c).answer) (λ c. (step (leaves cs) c).lent) o c

-- ---- the tours of the first node are the allowed tours

module _ (g : Network) where
  root_mark : (k : ℕ) → k ∈ up_to g.m → (with_marks g (marks_of g)).mark k ≡ g.mark k
  unfolding with_marks marks_of
  root_mark k m = go k (edge_of g.m k m)
    where
      go : (k : ℕ) → (j : ℕ) × (j < g.m) × (k ≡ suc j) → get_or (free ∷ row g.m g.mark) k free ≡ g.mark k
      go k r =
          subst (λ (i : ℕ). get_or (free ∷ row g.m g.mark) i free ≡ g.mark i) (sym r.2)
          (row_at g.m g.mark r.0 free r.1)

  root_inside : (t : Edges) → Tour g t → Allowed g t → Inside g t (marks_of g)
  root_inside t o al = record {
    tour = o;
    allowed = agrees_allowed (with_marks g (marks_of g)) t (λ k m. at k (unfold with_marks in m));
  }
    where
      at : (k : ℕ) → k ∈ up_to g.m → Agrees ((with_marks g (marks_of g)).mark k) (t k)
      at k m = rw (root_mark k m) (allowed_agrees g t al k m)

  inside_root : (t : Edges) → Inside g t (marks_of g) → Allowed g t
  inside_root t i = agrees_allowed g t (λ k m. subst (λ (x : Mark). Agrees x (t k)) (root_mark k m) (at k m))
    where
      at : (k : ℕ) → k ∈ up_to g.m → Agrees ((with_marks g (marks_of g)).mark k) (t k)
      at k m = allowed_agrees (with_marks g (marks_of g)) t i.allowed k (unfold with_marks in m)

-- ---- one finished search

is_empty_lem : (st : List Node) → is_empty st ≡ true → st ≡ []
is_empty_lem [] h = refl
is_empty_lem (x ∷ st) h = absurd (false≢true h)

no_clash : {A : Type 0} (c : ℤ) → best c ≡ none → A
no_clash c e = absurd (let z : ◌≡◌ {A = ℕ} 0 1 = cc in omega arith)

module _ (cs : List Call) (s : Progress) (total : ℕ) (left : leaves cs ≡ searching s) (h : Good s total) (done : finished s ≡ true) where
  g : Network
  g = active_network s.opening

  -- such a tour is one of the network of the active vertices, of the same cost
  such_iff : (t : Edges) → Such s.opening t ↔ Feasible (active_network s.opening) s.opening.settings.ceiling t
  such_iff t =
      feasible_iff (ashore s.opening.ashore) (network s.opening.graph) (active_fit s.opening h.kept.opening) s.opening.settings.ceiling t

  cost_is : (t : Edges) → cost (active_network s.opening) t ≡ cost (network s.opening.graph) t
  cost_is t = cost-reduced (ashore s.opening.ashore) (network s.opening.graph) (active_fit s.opening h.kept.opening) t

  best_possible : Optimal (tours g) (first_node s.opening) s.opening.settings.ceiling s.incumbent
  unfolding g
  best_possible =
      optimum (tours g) (first_node s.opening) s.opening.settings.ceiling
      (subst (λ (st : List Node). Reached (tours g) (first_node s.opening) s.opening.settings.ceiling s.upper st s.incumbent s.count)
      (is_empty_lem s.stack done) h.reached)

  told_is : (step (leaves cs) tell).answer ≡ tells (verdict_of g s.incumbent) s.count
  unfolding g step verdict
  told_is = subst (λ (st : State). (step st tell).answer ≡ tells (verdict_of g s.incumbent) s.count) (sym left) (rw done)

  -- what show gives, where the incumbent is r
  written : (r : List Bool) → length r ≡ s.opening.graph.m → tour_bytes r ≡ row s.opening.graph.m (λ k. bit (edges_of r k))
  unfolding tour_bytes edges_of
  written r z =
      ap (map bit) (sym (row_of r false))
      ∙ row-map bit (length r) (λ k. get_or (false ∷ r) k false)
      ∙ ap (λ (n : ℕ). row n (λ k. bit (get_or (false ∷ r) k false))) z

  shown : (l : List ℕ) → step (leaves cs) (show l) ≡ shown_by s l true s.incumbent
  unfolding step
  shown l = subst (λ (st : State). step st (show l) ≡ shown_by s l true s.incumbent) (sym left) (rw done)

  shown_is : (r : List Bool) → s.incumbent ≡ a_tour r → (l : List ℕ) → length l ≡ s.opening.graph.m
      → step (leaves cs) (show l) ≡ record { state = searching s; answer = accepted; lent = tour_bytes r }
  unfolding shown_by
  shown_is r e l f = shown l ∙ (rw (e, eq-eqb (length l) s.opening.graph.m f))

  says : Says cs s.opening (verdict_of g s.incumbent)
  unfolding g
  says = go s.incumbent refl told_is best_possible h.kept.sized
    where
      go : (i : Incumbent (List Bool)) → s.incumbent ≡ i
          → (step (leaves cs) tell).answer ≡ tells (verdict_of g i) s.count
          → Optimal (tours g) (first_node s.opening) s.opening.settings.ceiling i → Sized s.opening.graph.m i
          → Says cs s.opening (verdict_of g i)
      go no_tour e told p z = record {
        count = s.count;
        told = told;
        exactly = ((λ x t q. let f = (such_iff t).0 q in p t (root_inside g t f.tour f.allowed) f.cheap), λ x. refl);
        otherwise = tt;
      }
      go (a_tour r) e told p z = record {
        count = s.count;
        told = told;
        exactly = ((λ x. no_clash (cost_of g r) x), λ x. absurd (x (edges_of r) such));
        otherwise = record {
          tour = edges_of r;
          such = such;
          exact = sym (cost_is (edges_of r)) ∙ unfold cost_of in refl;
          least = λ u q. unfold cost_of in rw (← cost_is u) (least u q);
          first = λ u q e. first u q (cost_is u ∙ e ∙ unfold cost_of in refl);
          accepts = λ l f. ap (λ (x : Reply). x.answer) (shown_is r e l f);
          writes = λ l f. ap (λ (x : Reply). x.lent) (shown_is r e l f) ∙ written r z;
        };
      }
        where
          such : Such s.opening (edges_of r)
          such = (such_iff (edges_of r)).1 (record { tour = p.inside.tour; allowed = inside_root g (edges_of r) p.inside; cheap = p.within })

          inside : (u : Edges) → Such s.opening u → Inside g u (marks_of g)
          inside u q = let f = (such_iff u).0 q in root_inside g u f.tour f.allowed

          least : (u : Edges) → Such s.opening u → cost g (edges_of r) ≤ℤ cost g u
          least u q = pick (le-or-lt (cost g (edges_of r)) (cost g u))
            where
              pick : (cost g (edges_of r) ≤ℤ cost g u) ⊎ (cost g u <ℤ cost g (edges_of r)) → cost g (edges_of r) ≤ℤ cost g u
              pick (inl x) = x
              pick (inr x) = absurd (p.least u (inside u q) (inl x))

          first : (u : Edges) → Such s.opening u → cost g u ≡ cost g (edges_of r)
              → lacks_first s.opening.graph.m u (edges_of r) ≡ false
          first u q f =
              by_cases (lacks_first s.opening.graph.m u (edges_of r))
              (λ l. absurd (p.least u (inside u q) (inr (f, unfold network in l))))
              (λ l. l)

-- ---- the opening that the state holds, and the one that was given

says_given : (cs : List Call) (o : Opening) (v : Verdict) → o.graph.m ≤ max_edges → Says cs (held o) v → Says cs o v
unfolding held trimmed
says_given cs o v few x = record {
  count = x.count;
  told = x.told;
  exactly = ((λ e t q. x.exactly.0 e t (held_such t q)), λ e. x.exactly.1 (λ t q. e t (such_held t q)));
  otherwise = go v x.otherwise;
}
  where
    same : network (held o).graph ≡ network o.graph
    same = network-trimmed o.graph few

    such_held : (t : Edges) → Such (held o) t → Such o t
    such_held t q = subst (λ (n : Network). FeasibleOver (ashore o.ashore) n o.settings.ceiling t) same q

    held_such : (t : Edges) → Such o t → Such (held o) t
    held_such t q = subst (λ (n : Network). FeasibleOver (ashore o.ashore) n o.settings.ceiling t) (sym same) q

    go : (w : Verdict) → Otherwise cs (held o) w → Otherwise cs o w
    go going_on y = y
    go none y = y
    go (best c) y = record {
      tour = y.tour;
      such = such_held y.tour y.such;
      exact = ap (λ (n : Network). cost n y.tour) (sym same) ∙ y.exact;
      least = λ u q. subst (λ (n : Network). c ≤ℤ cost n u) same (y.least u (held_such u q));
      first = λ u q e. y.first u (held_such u q) (ap (λ (n : Network). cost n u) same ∙ e);
      accepts = y.accepts;
      writes = y.writes;
    }

-- ---- two finished searches of one network

simple : (g : Graph) → value.Valid g → Simple (network g)
unfolding network
simple g v j k mj mk ea eb = go j k ea eb (edge_of g.m j mj) (edge_of g.m k mk)
  where
    pair : (i l : ℕ) → i < g.m → l < g.m → (network g).a (suc i) ≡ (network g).a (suc l) → (network g).b (suc i) ≡ (network g).b (suc l)
        → value.SamePair g i l
    pair i l hi hl fa fb = record {
      a = sym (network_a g i hi) ∙ fa ∙ network_a g l hl;
      b = sym (network_b g i hi) ∙ fb ∙ network_b g l hl;
    }

    at : (i l : ℕ) → i < g.m → l < g.m → (network g).a (suc i) ≡ (network g).a (suc l) → (network g).b (suc i) ≡ (network g).b (suc l)
        → Dec (i < l) → Dec (l < i) → suc i ≡ suc l
    at i l hi hl fa fb (yes x) y = absurd (v.once i l x hl (pair i l hi hl fa fb))
    at i l hi hl fa fb (no x) (yes y) = absurd (v.once l i y hi (pair l i hl hi (sym fa) (sym fb)))
    at i l hi hl fa fb (no x) (no y) = omega arith

    go : (j k : ℕ) → (network g).a j ≡ (network g).a k → (network g).b j ≡ (network g).b k
        → (i : ℕ) × (i < g.m) × (j ≡ suc i) → (l : ℕ) × (l < g.m) × (k ≡ suc l) → j ≡ k
    go j k fa fb x y =
        x.2
        ∙ at x.0 y.0 x.1 y.1
        (ap (network g).a (sym x.2) ∙ fa ∙ ap (network g).a y.2) (ap (network g).b (sym x.2) ∙ fb ∙ ap (network g).b y.2)
        (dec_le (suc x.0) y.0) (dec_le (suc y.0) x.0)
        ∙ sym y.2

-- one list and one ceiling under two names
feasible_other : (o p : Opening) (g : Network) → o.ashore ≡ p.ashore → o.settings.ceiling ≡ p.settings.ceiling → (t : Edges)
    → FeasibleOver (ashore o.ashore) g o.settings.ceiling t → FeasibleOver (ashore p.ashore) g p.settings.ceiling t
feasible_other o p g inactive same t q =
    subst (λ (z : ℤ). FeasibleOver (ashore p.ashore) g z t) same
    (subst (λ (l : List ℕ). FeasibleOver (ashore l) g o.settings.ceiling t) inactive q)

-- a tour of the one is a tour of the other, of the same cost
there : (o p : Opening) → value.Valid o.graph → OneNetwork (network o.graph) (network p.graph) → o.ashore ≡ p.ashore
    → o.settings.ceiling ≡ p.settings.ceiling → (t : Edges) → Such o t → (u : Edges) × Such p u × (cost (network p.graph) u ≡ cost (network o.graph) t)
there o p v one inactive same t q = (moved, feasible_other o p (network p.graph) inactive same moved r.0, r.1)
  where
    moved : Edges
    moved = over_there (ashore o.ashore) (network o.graph) (network p.graph) one (simple o.graph v) t

    r : FeasibleOver (ashore o.ashore) (network p.graph) o.settings.ceiling moved × (cost (network p.graph) moved ≡ cost (network o.graph) t)
    r = feasible_over_same (ashore o.ashore) (network o.graph) (network p.graph) one (simple o.graph v) o.settings.ceiling t q

module _ (cs ds : List Call) (o p : Opening) (vo : value.Valid o.graph) (vp : value.Valid p.graph)
    (one : OneNetwork (network o.graph) (network p.graph)) (inactive : o.ashore ≡ p.ashore) (same : o.settings.ceiling ≡ p.settings.ceiling) where
  across : (t : Edges) → Such o t → (u : Edges) × Such p u × (cost (network p.graph) u ≡ cost (network o.graph) t)
  across = there o p vo one inactive same

  back : (t : Edges) → Such p t → (u : Edges) × Such o u × (cost (network o.graph) u ≡ cost (network p.graph) t)
  back = there p o vp (one_sym (network o.graph) (network p.graph) one (simple o.graph vo)) (sym inactive) (sym same)

  same-verdict : (v w : Verdict) → Says cs o v → Says ds p w → v ≡ w
  same-verdict going_on w x y = absurd x.otherwise
  same-verdict none going_on x y = absurd y.otherwise
  same-verdict none none x y = refl
  same-verdict none (best c) x y =
      let r = back y.otherwise.tour y.otherwise.such in absurd (x.exactly.0 refl r.0 r.1)
  same-verdict (best c) going_on x y = absurd y.otherwise
  same-verdict (best c) none x y =
      let r = across x.otherwise.tour x.otherwise.such in absurd (y.exactly.0 refl r.0 r.1)
  same-verdict (best c) (best e) x y =
      let r = back y.otherwise.tour y.otherwise.such in
      let q = across x.otherwise.tour x.otherwise.such in
      ap best (le_antisym c e
      (subst (λ (z : ℤ). c ≤ℤ z) (r.2 ∙ y.otherwise.exact) (x.otherwise.least r.0 r.1))
      (subst (λ (z : ℤ). e ≤ℤ z) (q.2 ∙ x.otherwise.exact) (y.otherwise.least q.0 q.1)))

  m_same : p.graph.m ≡ o.graph.m
  m_same = unfold network in one.m

  -- where the edges are numbered alike, both show one tour
  module _ (alike : NumberedAlike (network o.graph) (network p.graph)) (c : ℤ) (x : Shows cs o c) (y : Shows ds p c) where
    network-same : network p.graph ≡ network o.graph
    network-same = network-alike o.graph p.graph one alike

    tour_same : Agree o.graph.m x.tour y.tour
    tour_same =
        neither o.graph.m x.tour y.tour
        (subst (λ (m : ℕ). lacks_first m x.tour y.tour ≡ false) m_same there_first) here_first
      where
        there_first : lacks_first p.graph.m x.tour y.tour ≡ false
        there_first =
            y.first x.tour
            (feasible_other o p (network p.graph) inactive same x.tour
            (subst (λ (n : Network). FeasibleOver (ashore o.ashore) n o.settings.ceiling x.tour) (sym network-same) x.such))
            (ap (λ (n : Network). cost n x.tour) network-same ∙ x.exact)

        here_first : lacks_first o.graph.m y.tour x.tour ≡ false
        here_first =
            x.first y.tour
            (feasible_other p o (network o.graph) (sym inactive) (sym same) y.tour
            (subst (λ (n : Network). FeasibleOver (ashore p.ashore) n p.settings.ceiling y.tour) network-same y.such))
            (ap (λ (n : Network). cost n y.tour) (sym network-same) ∙ y.exact)

    lent_same : (l : List ℕ) → length l ≡ o.graph.m → (step (leaves cs) (show l)).lent ≡ (step (leaves ds) (show l)).lent
    lent_same l f =
        x.writes l f
        ∙ row_same o.graph.m (λ k. bit (x.tour k)) (λ k. bit (y.tour k))
        (λ j h. ap bit (tour_same (suc j) (of_edge o.graph.m j h)))
        ∙ ap (λ (m : ℕ). row m (λ k. bit (y.tour k))) (sym m_same)
        ∙ sym (y.writes l (f ∙ sym m_same))

-- two finished searches with m edges each, of one verdict and whose tours are the same bytes, answer show alike
shown_alike : (s q : Progress) (l : List ℕ) (g h : Network) (i j : Incumbent (List Bool)) → s.opening.graph.m ≡ q.opening.graph.m
    → verdict_of g i ≡ verdict_of h j → ((b f : List Bool) → i ≡ a_tour b → j ≡ a_tour f → tour_bytes b ≡ tour_bytes f)
    → ((shown_by s l true i).answer ≡ (shown_by q l true j).answer) × ((shown_by s l true i).lent ≡ (shown_by q l true j).lent)
unfolding shown_by
shown_alike s q l g h no_tour no_tour m v e = (refl, refl)
shown_alike s q l g h no_tour (a_tour f) m v e = no_clash (cost_of h f) (sym v)
shown_alike s q l g h (a_tour b) no_tour m v e = no_clash (cost_of g b) v
shown_alike s q l g h (a_tour b) (a_tour f) m v e =
    by_cases (eqb (length l) q.opening.graph.m) (λ t. rw (m, t) (refl, e b f refl refl)) (λ t. rw (m, t) (refl, refl))

-- ---- lists of calls

-- the search that a list leaves, by its history
record Leaves (cs : List Call) (o : Opening) (total : ℕ) : Type 0 where
  search : Progress
  left : leaves cs ≡ searching search
  holds : FineSearch search o total

leaves-search : (cs : List Call) (o : Opening) (total : ℕ) → history cs ≡ since o total → Leaves cs o total
leaves-search cs o total e = go (leaves cs) refl (subst (λ (h : History). Fine (leaves cs) h) e (fine cs))
  where
    go : (s : State) → leaves cs ≡ s → Fine s (since o total) → Leaves cs o total
    go no_search f h = absurd h
    go (searching s) f h = record { search = s; left = f; holds = h }

module _ (cs : List Call) (o : Opening) (total : ℕ) (l : Leaves cs o total) where
  given_valid : value.Valid o.graph
  unfolding held
  given_valid =
      let trim : value.Valid l.search.opening.graph = l.holds.good.kept.opening.valid in
      valid-trimmed o.graph (subst (λ (q : Opening). value.Valid q.graph) l.holds.opening trim)

  m_held : l.search.opening.graph.m ≡ o.graph.m
  m_held = unfold held trimmed in (ap (λ (q : Opening). q.graph.m) l.holds.opening)

  done_by : Finished (leaves cs) → finished l.search ≡ true
  done_by done = subst Finished l.left done

  -- the verdict, once it is finished
  abbrev told_by : Verdict
  told_by = verdict_of (active_network l.search.opening) l.search.incumbent

  says_of : Finished (leaves cs) → Says cs o told_by
  unfolding g
  says_of done =
      says_given cs o told_by given_valid.few
      (subst (λ (q : Opening). Says cs q told_by) l.holds.opening
      (says cs l.search total l.left l.holds.good (done_by done)))

  -- and what show gives
  shown_of : Finished (leaves cs) → (a : List ℕ) → step (leaves cs) (show a) ≡ shown_by l.search a true l.search.incumbent
  shown_of done = shown cs l.search total l.left l.holds.good (done_by done)

  lent_of : Finished (leaves cs) → (b : List Bool) → l.search.incumbent ≡ a_tour b → (a : List ℕ) → length a ≡ o.graph.m
      → (step (leaves cs) (show a)).lent ≡ tour_bytes b
  lent_of done b e a size =
      ap (λ (x : Reply). x.lent)
      (shown_is cs l.search total l.left l.holds.good (done_by done) b e a (size ∙ sym m_held))

  -- the budget
  finishes : free_at_start o ≤ 62 → 2 ^ suc (free_at_start o) - 1 ≤ total → Finished (leaves cs)
  finishes few enough = subst Finished (sym l.left) (go l.search.stack refl)
    where
      s : Progress
      s = l.search

      same : free_at_start s.opening ≡ free_at_start o
      same =
          ap free_at_start l.holds.opening
          ∙ unfold free_at_start in ap (λ (n : Network). frees (marks_of n)) (active_held o given_valid.few)

      go : (st : List Node) → s.stack ≡ st → is_empty s.stack ≡ true
      go [] e = ap is_empty e
      go (x ∷ rest) e = absurd (last (l.holds.good.spent (omega (arith, same))))
        where
          last : (s.stack ≡ []) ⊎ (s.count ≡ total) → ⊥
          last (inl f) = let z : 0 ≡ suc (length rest) = ap length (sym f ∙ e) in omega arith
          last (inr f) =
              let b : suc s.count ≤ 2 ^ suc (free_at_start s.opening) - 1 = before_last s x rest e l.holds.good.reached in
              let c : suc s.count ≤ 2 ^ suc (free_at_start o) - 1 = (rw same at b) in
              omega (arith, c, f)

-- ---- two lists of calls

module _ (cs ds : List Call) (o p : Opening) (f : LeavesFinished cs o) (k : LeavesFinished ds p)
    (one : OneNetwork (network o.graph) (network p.graph)) (inactive : o.ashore ≡ p.ashore) (same : o.settings.ceiling ≡ p.settings.ceiling) where
  l : Leaves cs o f.total
  l = leaves-search cs o f.total f.opened

  r : Leaves ds p k.total
  r = leaves-search ds p k.total k.opened

  abbrev told : Verdict
  told = told_by cs o f.total l

  vo : value.Valid o.graph
  vo = given_valid cs o f.total l

  vp : value.Valid p.graph
  vp = given_valid ds p k.total r

  says_here : Says cs o told
  says_here = says_of cs o f.total l f.done

  equal : told ≡ told_by ds p k.total r
  equal = same-verdict cs ds o p vo vp one inactive same _ _ says_here (says_of ds p k.total r k.done)

  says_there : Says ds p told
  says_there = rw equal (says_of ds p k.total r k.done)

  module _ (alike : NumberedAlike (network o.graph) (network p.graph)) where
    ms : l.search.opening.graph.m ≡ r.search.opening.graph.m
    ms = m_held cs o f.total l ∙ sym (m_same cs ds o p vo vp one inactive same) ∙ sym (m_held ds p k.total r)

    -- what the two write, read off a list of m bytes
    bytes_same : (b c : List Bool) → l.search.incumbent ≡ a_tour b → r.search.incumbent ≡ a_tour c → tour_bytes b ≡ tour_bytes c
    bytes_same b c e h =
        sym (lent_of cs o f.total l f.done b e blank size)
        ∙ lent_same cs ds o p vo vp one inactive same alike (cost_of g₁ b)
        (subst (λ (i : Incumbent (List Bool)). Otherwise cs o (verdict_of g₁ i)) e says_here.otherwise)
        (subst (λ (i : Incumbent (List Bool)). Otherwise ds p (verdict_of g₁ i)) e says_there.otherwise)
        blank size
        ∙ lent_of ds p k.total r k.done c h blank (size ∙ sym (m_same cs ds o p vo vp one inactive same))
      where
        g₁ : Network
        g₁ = active_network l.search.opening

        blank : List ℕ
        blank = row o.graph.m (λ j. 0)

        size : length (row {A = ℕ} o.graph.m (λ j. 0)) ≡ o.graph.m
        size = row-size o.graph.m (λ j. 0)

    show_alike : ShowAlike cs ds
    show_alike a =
        rw (shown_of cs o f.total l f.done a, shown_of ds p k.total r k.done a)
        (shown_alike l.search r.search a (active_network l.search.opening) (active_network r.search.opening)
        l.search.incumbent r.search.incumbent ms equal bytes_same)

-- ---- DEMAND 3'S CLAIMS HOLD OF THE MACHINE

pub machine_agrees : (cs ds : List Call) (o p : Opening) → LeavesFinished cs o → LeavesFinished ds p
    → OneNetwork (network o.graph) (network p.graph) → o.ashore ≡ p.ashore → o.settings.ceiling ≡ p.settings.ceiling
    → (v : Verdict) × Says cs o v × Says ds p v × (NumberedAlike (network o.graph) (network p.graph) → ShowAlike cs ds)
machine_agrees cs ds o p f k one inactive same = (
  told cs ds o p f k one inactive same,
  says_here cs ds o p f k one inactive same,
  says_there cs ds o p f k one inactive same,
  show_alike cs ds o p f k one inactive same,
)

pub machine_ends : (cs : List Call) (o : Opening) (total : ℕ) → history cs ≡ since o total
    → free_at_start o ≤ 62 → 2 ^ suc (free_at_start o) - 1 ≤ total → Finished (leaves cs)
machine_ends cs o total e = finishes cs o total (leaves-search cs o total e)
