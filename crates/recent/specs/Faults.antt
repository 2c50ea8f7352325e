-- The call's answer, test by test, as its code goes; and the graph beside each. Assumes nothing.
use Rattle.std.specs.Prelude.{◌≡◌, refl, true, false, not, ◌&&◌, ◌≤◌, List, ℕ, zero, suc, eqb, leb, length, ℤ}
use Rattle.std.proofs.Common.{sym, ◌∙◌, arith, leb-true, eqb-true}
use Rattle.std.proofs.lemmas.Bool.{not-false}
use Rattle.lists.specs.Bools.{by_cases, and_both, cond_zero}
use Rattle.std.proofs.Math.Path.{ap}
use Rattle.graph.specs.declared.Graph.{Graph}
use Rattle.graph.specs.Valid.{Valid, graph_of, valid}
use Rattle.graph.specs.Meaning.{valid_true}
use Rattle.recent.specs.Costs.{log_of, recent_costs, recent_graph}
use Rattle.recent.specs.Windows.{until}
use Rattle.recent.specs.Answers.{max_window, Reply, made, refused, first_fault, bad_from, unless_bad, unless_refused, recent_reply, recent_leaves}

module _ (g : Graph) (w : ℕ) (edges : List ℕ) (times : List ℤ) where
  pub refused-graph : valid g ≡ false → recent_reply g w edges times ≡ refused 15 0
  unfolding recent_reply
  refused-graph v = rw v

  pub refused_lengths : valid g ≡ true → eqb (length edges) (length times) ≡ false → recent_reply g w edges times ≡ refused 11 0
  unfolding recent_reply
  refused_lengths v l = rw (v, l)

  pub refused_window : valid g ≡ true → eqb (length edges) (length times) ≡ true → (leb 1 w && leb w max_window) ≡ false
      → recent_reply g w edges times ≡ refused 38 0
  unfolding recent_reply
  refused_window v l o = rw (v, l, o)

  module _ (v : valid g ≡ true) (l : eqb (length edges) (length times) ≡ true) (o : (leb 1 w && leb w max_window) ≡ true) where
    pub reply_log : recent_reply g w edges times ≡ unless_bad (bad_from g.m 1 (log_of edges times))
    unfolding recent_reply
    reply_log = rw (v, l, o)

    pub refused-entry : (p : ℕ) → p ≡ bad_from g.m 1 (log_of edges times) → ¬ (p ≡ 0) → recent_reply g w edges times ≡ refused 39 p
    refused-entry p e h = reply_log ∙ ap unless_bad (sym e) ∙ go p h
      where
        go : (p : ℕ) → ¬ (p ≡ 0) → unless_bad p ≡ refused 39 p
        go zero h = absurd (h refl)
        go (suc p) h = refl

    pub accepted : 0 ≡ bad_from g.m 1 (log_of edges times) → recent_reply g w edges times ≡ made
    accepted e = reply_log ∙ ap unless_bad (sym e)

  -- what is refused before the log is read
  pub first_refused : ¬ (first_fault g w (length edges) (length times) ≡ 0)
      → recent_reply g w edges times ≡ refused (first_fault g w (length edges) (length times)) 0
  unfolding first_fault recent_reply
  first_refused h =
      by_cases (valid g) (λ v. by_cases (eqb (length edges) (length times)) (λ l. by_cases (leb 1 w && leb w max_window)
      (λ o. absurd (h (rw (v, l, o)))) (λ o. rw (v, l, o))) (λ l. rw (v, l))) (λ v. rw v)

  pub first_fine : first_fault g w (length edges) (length times) ≡ 0
      → Valid g × (length edges ≡ length times) × ((1 ≤ w) × (w ≤ max_window))
      × (recent_reply g w edges times ≡ unless_bad (bad_from g.m 1 (log_of edges times)))
  unfolding first_fault
  first_fine h =
      let p = cond_zero (not (valid g)) 15 _ (omega arith) h in
      let q = cond_zero (not (eqb (length edges) (length times))) 11 _ (omega arith) p.1 in
      let r = cond_zero (not (leb 1 w && leb w max_window)) 38 0 (omega arith) q.1 in
      let v = not-false (valid g) p.0 in
      let l = not-false (eqb (length edges) (length times)) q.0 in
      let o = not-false (leb 1 w && leb w max_window) r.0 in
      let b = and_both (leb 1 w) (leb w max_window) o in
      (valid_true g v, eqb-true (length edges) (length times) l, (leb-true 1 w b.0, leb-true w max_window b.1), reply_log v l o)

  -- ---- the graph

  pub leaves-refused : (n p : ℕ) → recent_reply g w edges times ≡ refused n p → recent_leaves g w edges times ≡ g
  unfolding recent_leaves
  leaves-refused n p e = ap (λ (r : Reply). unless_refused r g (recent_graph w (log_of edges times) g)) e

  pub leaves-made : recent_reply g w edges times ≡ made → recent_leaves g w edges times ≡ recent_graph w (log_of edges times) g
  unfolding recent_leaves
  leaves-made e = ap (λ (r : Reply). unless_refused r g (recent_graph w (log_of edges times) g)) e

  -- ---- as the code goes: a fault before the log, one in it, or none

  pub first_leaves : ¬ (first_fault g w (length edges) (length times) ≡ 0) → recent_leaves g w edges times ≡ g
  first_leaves h = leaves-refused _ 0 (first_refused h)

  pub log_reply : first_fault g w (length edges) (length times) ≡ 0 → recent_reply g w edges times ≡ unless_bad (bad_from g.m 1 (log_of edges times))
  log_reply h = (first_fine h).3

  pub log_leaves : first_fault g w (length edges) (length times) ≡ 0 → (n p : ℕ) → refused n p ≡ unless_bad (bad_from g.m 1 (log_of edges times))
      → recent_leaves g w edges times ≡ g
  log_leaves h n p e = leaves-refused n p (log_reply h ∙ sym e)

  none_bad : (p : ℕ) → made ≡ unless_bad p → p ≡ 0
  none_bad zero e = refl
  none_bad (suc p) e = absurd (let z : ◌≡◌ {A = ℕ} 0 1 = cc in omega arith)

  pub made_leaves : first_fault g w (length edges) (length times) ≡ 0 → made ≡ unless_bad (bad_from g.m 1 (log_of edges times)) → (costs : List ℤ)
      → costs ≡ recent_costs w g.cost (until (bad_from g.m 1 (log_of edges times)) (log_of edges times))
      → graph_of g.n g.m g.a g.b costs g.mark ≡ recent_leaves g w edges times
  unfolding recent_graph
  made_leaves h e costs q =
      let whole = rw (none_bad (bad_from g.m 1 (log_of edges times)) e) at q in
      ap (λ (l : List ℤ). graph_of g.n g.m g.a g.b l g.mark) whole ∙ sym (leaves-made (log_reply h ∙ sym e))
