-- The run call: the record that the loop works on runs to what the record that it began with runs to (`RunsTo`), and where it stops, the record
-- and the answer are those that the contract names.
use Rattle.std.specs.Prelude.{◌≡◌, refl, ◌⊎◌, Bool, true, false, List, [], ◌∷◌, ℕ, suc, ◌≤◌, ◌<◌, length, Option}
use Rattle.std.proofs.Common.{sym, ap, ◌∙◌, subst, inl, inr, arith}
use Rattle.graph.specs.Limits.{max_count}
use Rattle.graph.specs.declared.Graph.{Graph}
use Rattle.machine.specs.Machine.{Node, Opening, Progress, State, settled, open_top, is_empty, finished, ran}
use Rattle.machine.specs.Calls.{run, runs, step, run_by}
use Rattle.machine.specs.Runs.{ran-opens, ran_empty, ran_full}
use Rattle.search.specs.declared.Search.{Search}
use Rattle.search.specs.Record.{opening_in, progress_of, record_of, encode}
use Rattle.search.specs.Check.{check_is}
use Rattle.search.specs.Inverse.{encode-decode}
use Rattle.search.specs.Replies.{Outcome, reply}
use Rattle.search.specs.ReplyCases.{IsOpen, opened, kept}
use Rattle.search.specs.Runs.ActiveGraph.{GraphIs}
use Rattle.search.specs.Runs.TopNode.{Holds, Top, holds_depth, holds_count, top_of_lem, next-kept}

-- an opened node leaves the opening
opening_stays : (s : Progress) (st : List Node) → (open_top s st).opening ≡ s.opening
unfolding open_top settled
opening_stays s [] = refl
opening_stays s (x ∷ rest) = refl

-- r, with `left` of the budget, runs to goal; o is the opening of its search
pub record RunsTo (o : Opening) (r : Search) (left : ℕ) (goal : Progress) : Type 0 where
  pub search : Progress
  pub opening : search.opening ≡ o
  pub holds : Holds r search
  pub comes : ran left search ≡ goal

module _ (o : Opening) (r : Search) (left : ℕ) (goal : Progress) (k : RunsTo o r left goal) where
  stays : ran left k.search ≡ k.search → Holds r goal
  stays q = subst (Holds r) (sym q ∙ k.comes) k.holds

  -- it is there: nothing waits, or the count is at its limit, or no budget is left
  pub run_stops : (r.depth ≡ 0) ⊎ (max_count ≤ r.count) → Holds r goal
  run_stops (inl z) = stays (go k.search.stack refl)
    where
      go : (st : List Node) → k.search.stack ≡ st → ran left k.search ≡ k.search
      go [] q = ran_empty left k.search q
      go (x ∷ rest) q = absurd (omega (arith, z, holds_depth r k.search k.holds, ap {A = List Node} length q))
  run_stops (inr b) = stays (ran_full left k.search (omega (arith, holds_count r k.search k.holds)))

  pub run_spent : left ≡ 0 → Holds r goal
  run_spent q = stays (ap (λ (n : ℕ). ran n k.search) q ∙ unfold ran in refl)

  -- the graph on which its nodes are opened
  pub graph_here : (afloat : Option Graph) → GraphIs o afloat → GraphIs k.search.opening afloat
  graph_here afloat lends = subst (λ (p : Opening). GraphIs p afloat) (sym k.opening) lends

  -- one node more
  pub run_turn : (less : ℕ) → left ≡ suc less → 0 < r.depth → r.count < max_count → (afloat : Option Graph) → GraphIs o afloat → (q : Search)
      → ((s : Progress) → Holds r s → Top s → GraphIs s.opening afloat → q ≡ record_of (open_top s s.stack)) → RunsTo o q less goal
  run_turn less e deep room afloat lends q after =
      let t : Top k.search = top_of_lem r k.search k.holds deep room in
      record {
        search = open_top k.search k.search.stack;
        opening = opening_stays k.search k.search.stack ∙ k.opening;
        holds = record { kept = next-kept r k.search k.holds t; is = after k.search k.holds t (graph_here afloat lends) };
        comes =
            sym (ran-opens less k.search t.node t.rest t.stack t.room
            ∙ ap (λ (st : List Node). ran less (open_top k.search st)) (sym t.stack))
            ∙ ap (λ (n : ℕ). ran n k.search) (sym e)
            ∙ k.comes;
      }

module _ (s : Search) (o : IsOpen s) where
  pub run_starts : Holds s (progress_of s)
  unfolding encode
  run_starts = record {
    kept = kept s o.typed o.passes o.opened;
    is = sym (ap encode (sym (opened s o.typed o.passes o.opened)) ∙ encode-decode s o.typed (check_is s o.passes));
  }

  pub run_begins : (budget left : ℕ) → left ≡ budget → RunsTo (opening_in s) s left (ran budget (progress_of s))
  run_begins budget left e = record {
    search = progress_of s;
    opening = unfold progress_of in refl;
    holds = run_starts;
    comes = ap (λ (n : ℕ). ran n (progress_of s)) e;
  }

  -- where no budget is given or nothing waits, it stays
  pub run_rests : (budget : ℕ) → (budget ≡ 0) ⊎ (s.depth ≡ 0) → Holds s (ran budget (progress_of s))
  run_rests budget (inl z) = run_spent _ _ _ _ (run_begins budget budget refl) z
  run_rests budget (inr z) = run_stops _ _ _ _ (run_begins budget budget refl) (inl z)

  -- ---- the call

  module _ (budget : ℕ) (r : Search) (h : Holds r (ran budget (progress_of s))) where
    after : Progress
    after = ran budget (progress_of s)

    outcome : State → Outcome
    outcome q = record { search = encode (step q (run budget)).state; answer = (step q (run budget)).answer }

    replies : reply s (run budget) ≡ record { search = record_of after; answer = runs (finished after) after.count }
    unfolding reply step run_by encode after outcome
    replies = rw o.passes (ap outcome (opened s o.typed o.passes o.opened))

    answered : (b : Bool) → finished after ≡ b
        → record { answer : runs b r.count ≡ (reply s (run budget)).answer; left : r ≡ (reply s (run budget)).search }
    unfolding after
    answered b q = record {
      answer = (λ i. runs (sym q i) (holds_count r (ran budget (progress_of s)) h i)) ∙ ap (λ (x : Outcome). x.answer) (sym replies);
      left = h.is ∙ ap (λ (x : Outcome). x.search) (sym replies);
    }

    pub run_finished : r.depth ≡ 0
        → record { answer : runs true r.count ≡ (reply s (run budget)).answer; left : r ≡ (reply s (run budget)).search }
    unfolding after
    run_finished z = answered true (go (ran budget (progress_of s)).stack refl)
      where
        go : (st : List Node) → (ran budget (progress_of s)).stack ≡ st → is_empty (ran budget (progress_of s)).stack ≡ true
        go [] q = rw q
        go (x ∷ rest) q = absurd (omega (arith, z, holds_depth r (ran budget (progress_of s)) h, ap {A = List Node} length q))

    pub run_going : (r.depth ≡ 0 → ⊥)
        → record { answer : runs false r.count ≡ (reply s (run budget)).answer; left : r ≡ (reply s (run budget)).search }
    unfolding after
    run_going n = answered false (go (ran budget (progress_of s)).stack refl)
      where
        go : (st : List Node) → (ran budget (progress_of s)).stack ≡ st → is_empty (ran budget (progress_of s)).stack ≡ false
        go [] q = absurd (n (holds_depth r (ran budget (progress_of s)) h ∙ ap {A = List Node} length q))
        go (x ∷ rest) q = rw q
