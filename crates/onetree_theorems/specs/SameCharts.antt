-- TWO VALUES OF THE SAME CHART GET THE SAME ANSWERS: whatever stands past m, they have one network, are valid together and trim to one graph.
-- Assumes nothing.
use Rattle.std.specs.Prelude.{◌≡◌, not, ◌&&◌, List, length, get_or, ℤ, pos}
use Rattle.std.proofs.Math.Path.{refl, ap}
use Rattle.std.proofs.Common.{sym, ◌∙◌, subst, arith}
use Rattle.std.proofs.Math.Bool.{cond}
use Rattle.std.proofs.lemmas.Bool.{false≢true}
use Prim.Native.Nat.{ℕ, zero, suc, ◌<◌}
use Rattle.std.proofs.Math.Decide.{dec_le}
use Rattle.std.proofs.Math.Dec.{eqb, leb}
use Rattle.lists.specs.Bools.{by_cases}
use Rattle.lists.specs.Rows.{row, row_same}
use Rattle.integers.specs.Multiples.{◌times◌}
use Rattle.graph.specs.declared.Graph.{Graph}
use Rattle.graph.specs.Limits.{max_edges, max_sweeps, max_step}
use Rattle.graph.specs.Network.{mark_of, place, network}
use Rattle.graph.specs.Places.{place_at, place_zero, place_past}
use Rattle.graph.specs.Valid.{Valid, EdgeValid, EdgeAt, valid}
use Rattle.graph.specs.Meaning.{valid_true, true_valid}
use Rattle.graph.specs.Same.{SameGraph}
use Rattle.tree_theory.specs.Inputs.{multiplier, multipliers_fit, ceiling_fits, denominator_fault, or_else}
use Rattle.tree_theory.specs.Scaled.{scaled_by}
use Rattle.afloat.specs.Over.{ashore, ashore_fault}
use Rattle.afloat.specs.Values.{tree_over, ruling_over}
use Rattle.onetree.specs.Answers.{unless_fault, leaves, tree_says, tree_writes, rule_says, rule_writes}
use Rattle.reduction.specs.Answers.{input_fault_over, tree_of, tree_fault_over, tree_reply_over, tree_leaves_over}
use Rattle.reduction.specs.Answers.{rule_fault_over, rule_reply_over, rule_leaves_over}
use Rattle.machine.specs.declared.Settings.{Settings}
use Rattle.machine.specs.Machine.{Opening, State, no_search, searching, trimmed, tidy, held, begin, opening_of}
use Rattle.machine.specs.Calls.{opens, accepted, accepts, fault, opened_by, step}
use Rattle.onetree_theorems.specs.Calls.{SameAnswers}

-- ---- one array

place_same : {A : Type 0} (z : A) (m n : ℕ) (l r : List A) → m ≡ n → ((k : ℕ) → k < m → get_or l k z ≡ get_or r k z)
    → (k : ℕ) → place z m l k ≡ place z n r k
place_same z m n l r e h zero = place_zero z m l ∙ sym (place_zero z n r)
place_same z m n l r e h (suc k) = go (dec_le (suc k) m)
  where
    go : Dec (k < m) → place z m l (suc k) ≡ place z n r (suc k)
    go (yes i) = place_at z m l k i ∙ h k i ∙ sym (place_at z n r k (omega arith))
    go (no i) = place_past z m l k (omega arith) ∙ sym (place_past z n r k (omega arith))

row-place : {A : Type 0} (z : A) (m n : ℕ) (l r : List A) → m ≡ n → ((k : ℕ) → k < m → get_or l k z ≡ get_or r k z)
    → row max_edges (place z m l) ≡ row max_edges (place z n r)
row-place z m n l r e h = row_same max_edges (place z m l) (place z n r) (λ j i. place_same z m n l r e h (suc j))

-- ---- a graph

back : (g h : Graph) → SameGraph g h → SameGraph h g
back g h s = record {
  n = sym s.n;
  m = sym s.m;
  a = λ k l. sym (s.a k (omega (arith, s.m)));
  b = λ k l. sym (s.b k (omega (arith, s.m)));
  cost = λ k l. sym (s.cost k (omega (arith, s.m)));
  mark = λ k l. sym (s.mark k (omega (arith, s.m)));
}

carried : (g h : Graph) → SameGraph g h → Valid g → Valid h
carried g h s v = record {
  low = omega (arith, s.n, v.low);
  high = omega (arith, s.n, v.high);
  few = omega (arith, s.m, v.few);
  each = λ k l. subst (λ (P : Type 0). P) (edge k (omega (arith, s.m))) (v.each k (omega (arith, s.m)));
  once = λ j k l i p.
      v.once j k l (omega (arith, s.m)) (record {
        a = s.a j (omega (arith, s.m)) ∙ p.a ∙ sym (s.a k (omega (arith, s.m)));
        b = s.b j (omega (arith, s.m)) ∙ p.b ∙ sym (s.b k (omega (arith, s.m)));
      });
}
  where
    edge : (k : ℕ) → k < g.m → EdgeAt g k ≡ EdgeAt h k
    edge k l = λ i. EdgeValid (s.n i) (s.a k l i) (s.b k l i) (s.cost k l i) (s.mark k l i)

module _ (g h : Graph) (s : SameGraph g h) where
  valid_same : valid g ≡ valid h
  valid_same =
      by_cases (valid h) (λ e. true_valid g (carried h g (back g h s) (valid_true h e)) ∙ sym e)
      (λ e. by_cases (valid g) (λ f. absurd (false≢true (sym e ∙ true_valid h (carried g h s (valid_true g f))))) (λ f. f ∙ sym e))

  network-same : network g ≡ network h
  unfolding network
  network-same = λ i. record {
    n = s.n i;
    m = s.m i;
    a = λ k. place_same 0 g.m h.m g.a h.a s.m s.a k i;
    b = λ k. place_same 0 g.m h.m g.b h.b s.m s.b k i;
    cost = λ k. place_same (pos 0) g.m h.m g.cost h.cost s.m s.cost k i;
    mark = λ k. mark_of (place_same 0 g.m h.m g.mark h.mark s.m s.mark k i);
  }

  trimmed-same : trimmed g ≡ trimmed h
  unfolding trimmed
  trimmed-same = λ i. record {
    n = s.n i;
    m = s.m i;
    a = row-place 0 g.m h.m g.a h.a s.m s.a i;
    b = row-place 0 g.m h.m g.b h.b s.m s.b i;
    cost = row-place (pos 0) g.m h.m g.cost h.cost s.m s.cost i;
    mark = row-place 0 g.m h.m g.mark h.mark s.m s.mark i;
  }

  -- ---- the calls

  fault-same : (d : List ℤ) (l : List ℕ) (len left other : ℕ) → left ≡ other → input_fault_over g d l len left ≡ input_fault_over h d l len other
  unfolding input_fault_over
  fault-same d l len left other e = λ i.
      cond (not (valid_same i)) 15
      (cond (not ((eqb (length d) (s.n i) && eqb (length l) (s.n i)) && eqb len (s.m i))) 11
      (cond (not (multipliers_fit d)) 12
      (e i)))

  last-same : (l : List ℕ) (q : ℕ) → or_else (denominator_fault q) (ashore_fault l g.n) ≡ or_else (denominator_fault q) (ashore_fault l h.n)
  last-same l q = λ i. or_else (denominator_fault q) (ashore_fault l (s.n i))

  tree-fault-same : (d : List ℤ) (l : List ℕ) (q len : ℕ) → tree_fault_over g d l q len ≡ tree_fault_over h d l q len
  unfolding tree_fault_over
  tree-fault-same d l q len = fault-same d l len _ _ (last-same l q)

  rule-fault-same : (d : List ℤ) (l : List ℕ) (ceiling : ℤ) (q len : ℕ) → rule_fault_over g d l ceiling q len ≡ rule_fault_over h d l ceiling q len
  unfolding rule_fault_over
  rule-fault-same d l ceiling q len = fault-same d l len _ _ (ap (cond (not (ceiling_fits ceiling)) 13) (last-same l q))

  tree-of-same : (d : List ℤ) (l : List ℕ) (q : ℕ) → tree_of g d l q ≡ tree_of h d l q
  tree-of-same d l q = λ i. tree_over (ashore l) (scaled_by q (network-same i)) (multiplier d)

  tree-same : (d : List ℤ) (l : List ℕ) (q len : ℕ) → tree_reply_over g d l q len ≡ tree_reply_over h d l q len
  unfolding tree_reply_over
  tree-same d l q len = λ i. unless_fault (tree-fault-same d l q len i) (tree_says (tree-of-same d l q i))

  tree_list_lem : (d : List ℤ) (l : List ℕ) (q : ℕ) (out : List ℕ) → tree_leaves_over g d l q out ≡ tree_leaves_over h d l q out
  unfolding tree_leaves_over
  tree_list_lem d l q out = λ i. leaves (tree-fault-same d l q (length out) i) out (tree_writes (s.m i) out (tree-of-same d l q i))

  rule_same : (d : List ℤ) (l : List ℕ) (ceiling : ℤ) (q len : ℕ) → rule_reply_over g d l ceiling q len ≡ rule_reply_over h d l ceiling q len
  unfolding rule_reply_over
  rule_same d l ceiling q len = λ i. unless_fault (rule-fault-same d l ceiling q len i) (rule_says (q times ceiling) (tree-of-same d l q i))

  rule_list_lem : (d : List ℤ) (l : List ℕ) (ceiling : ℤ) (q : ℕ) (out : List ℕ)
      → rule_leaves_over g d l ceiling q out ≡ rule_leaves_over h d l ceiling q out
  unfolding rule_leaves_over
  rule_list_lem d l ceiling q out = λ i.
      leaves (rule-fault-same d l ceiling q (length out) i) out
      (rule_writes (s.m i) (q times ceiling) out (ruling_over (ashore l) (scaled_by q (network-same i)) (multiplier d) (q times ceiling))
      (tree-of-same d l q i))

  -- ---- an opening

  module _ (d : List ℤ) (l : List ℕ) (settings : Settings) where
    opening-fault : fault (opening_of g d l settings) ≡ fault (opening_of h d l settings)
    unfolding fault
    opening-fault = λ i.
        cond (not (valid_same i)) 15
        (cond (not (eqb (length d) (s.n i) && eqb (length l) (s.n i))) 11
        (cond (not (multipliers_fit d)) 12
        (cond (not (ceiling_fits settings.ceiling)) 13
        (cond (not (leb settings.sweeps max_sweeps && leb settings.step max_step)) 14
        (or_else (denominator_fault settings.denominator) (ashore_fault l (s.n i)))))))

    held_same : held (opening_of g d l settings) ≡ held (opening_of h d l settings)
    unfolding held
    held_same = λ i. record { graph = trimmed-same i; multipliers = d; ashore = l; settings = tidy settings }

    opened-same : (f : ℕ) → opened_by (opening_of g d l settings) f ≡ opened_by (opening_of h d l settings) f
    unfolding opened_by
    opened-same zero = ap (λ (o : Opening). accepts (searching (begin o)) accepted) held_same
    opened-same (suc f) = refl

    step_same : (x : State) → step x (opens (opening_of g d l settings)) ≡ step x (opens (opening_of h d l settings))
    unfolding step
    step_same no_search = opened-same (fault (opening_of g d l settings)) ∙ ap (opened_by (opening_of h d l settings)) opening-fault
    step_same (searching p) = refl

  pub same-answers : SameAnswers g h
  same-answers = record { tree = tree-same; tree_list = tree_list_lem; rule = rule_same; rule_list = rule_list_lem; opening = step_same }
