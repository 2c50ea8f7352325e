-- From what code knows to what the rule call and the combined pass promise: their replies and lists in each case. Assumes nothing.
use Rattle.std.specs.Prelude.{◌≡◌, refl, ◌≢◌, Bool, false, not, cond, List, ℕ, zero, suc, ◌<◌, ◌≤◌, length, get_or, leb, ℤ, Option, None, Some, Result, Ok, Err}
use Rattle.std.specs.Int.Signed.{lt_z}
use Rattle.std.proofs.Common.{◌∙◌, ap, arith, le-leb}
use Rattle.std.proofs.Math.Path.{sym}
use Rattle.std.proofs.Math.Decide.{dec_le}
use Rattle.std.proofs.lemmas.Bool.{lt-leb}
use Rattle.std.proofs.lemmas.List.{length-replicate}
use Rattle.lists.specs.Bools.{bit, by_cases}
use Rattle.lists.specs.Rows.{row, row-size, row_same, row_is}
use Rattle.integers.specs.Multiples.{◌times◌}
use Rattle.integers.specs.Range.{InRange, within, within_range}
use Rattle.graph.specs.declared.Graph.{Graph}
use Rattle.graph.specs.declared.refusals.Refusal.{Refusal}
use Rattle.graph.specs.Limits.{max_edges, max_ceiling, max_denominator}
use Rattle.graph.specs.Network.{network}
use Rattle.graph.specs.Refusals.{number, fault_of}
use Rattle.graph.specs.Valid.{valid}
use Rattle.tree_theory.specs.OneTree.{Edges}
use Rattle.tree_theory.specs.Scaled.{scaled_by}
use Rattle.tree_theory.specs.Inputs.{multiplier, ceiling_fits, denominator_fault, input_fault}
use Rattle.tree_theory.specs.Enumeration.{Tree, no_tree, a_tree, least_tree, Ruling, ruling}
use Rattle.lifting.specs.Lifted.{ruling_with}
use Rattle.greedy.specs.declared.Found.{Found}
use Rattle.onetree.specs.Answers.{Reply, refused, none, bounded, pass_meaning, unless_fault, rule_fault, rule_reply, rule_leaves, rule_says, rule_writes, ruling_byte, padded, pass_writes, pass_tree, pass_rulings}
use Rattle.tree_theory.specs.Arrays.{blank, entry}
use Rattle.tree_theory.specs.Accepted.{Accepted, passed, no_fault, denominator_range}
use Rattle.greedy.proofs.Faults.{fault_first, fault_next}
use Rattle.onetree.specs.TreeCall.{fault-replies, fault-leaves}
use Rattle.onetree.specs.Ceiling.{Over, Within}

pub rule_no_fault : (g : Graph) (d : List ℤ) (ceiling : ℤ) (den len : ℕ) → rule_fault g d ceiling den len ≡ 0
    → Accepted g d len × InRange max_ceiling ceiling × (den ≤ max_denominator)
unfolding rule_fault ceiling_fits
rule_no_fault g d ceiling den len h =
    let p = no_fault g d len (cond (not (ceiling_fits ceiling)) 13 (denominator_fault den)) h in
    let c = passed (within max_ceiling ceiling) 13 (denominator_fault den) (omega arith) p.1 in
    (p.0, within_range max_ceiling ceiling c.0, (denominator_range den c.1).1)

-- a fault of the graph or its multipliers is the first; without one the call's is what is left
pub rule_first : (g : Graph) (d : List ℤ) (ceiling : ℤ) (den len n : ℕ) → n ≡ input_fault g d len 0 → 1 ≤ n → n ≡ rule_fault g d ceiling den len
unfolding rule_fault
rule_first g d ceiling den len n h p = fault_first g d len _ n h p

pub rule_next : (g : Graph) (d : List ℤ) (ceiling : ℤ) (den len n : ℕ) → n ≡ cond (not (ceiling_fits ceiling)) 13 (denominator_fault den)
    → 0 ≡ input_fault g d len 0 → n ≡ rule_fault g d ceiling den len
unfolding rule_fault
rule_next g d ceiling den len n h e = h ∙ sym (fault_next g d len _ (sym e))

-- ---- no 1-tree is within the ceiling

over_says : (ceiling : ℤ) (t : Tree) → Over ceiling t → rule_says ceiling t ≡ none
over_says ceiling no_tree h = refl
over_says ceiling (a_tree b t) h = rw h

over_writes : (m : ℕ) (ceiling : ℤ) (out : List ℕ) (f : ℕ → Ruling) (t : Tree) → Over ceiling t → rule_writes m ceiling out f t ≡ out
over_writes m ceiling out f no_tree h = refl
over_writes m ceiling out f (a_tree b t) h = rw h

over_blank : (m : ℕ) (ceiling : ℤ) (f : Edges → ℕ → ℕ) (t : Tree) → Over ceiling t → pass_writes m ceiling f t ≡ blank
over_blank m ceiling f no_tree h = refl
over_blank m ceiling f (a_tree b t) h = rw h

-- ---- the rule call: its reply r, and the list that it leaves

pub record RuleCall (g : Graph) (d : List ℤ) (ceiling : ℤ) (den : ℕ) (out : List ℕ) (r : Reply) (after : List ℕ) : Type 0 where
  pub reply : r ≡ rule_reply g d ceiling den (length out)
  pub left : after ≡ rule_leaves g d ceiling den out

module _ (g : Graph) (d : List ℤ) (ceiling : ℤ) (den : ℕ) (out : List ℕ) where
  pub rule_refused : (f : ℕ) → f ≡ rule_fault g d ceiling den (length out) → f ≢ 0 → RuleCall g d ceiling den out (refused f 0) out
  unfolding rule_reply rule_leaves
  rule_refused f e n = rw e (record {
    reply = sym (fault-replies (rule_fault g d ceiling den (length out)) _ (λ z. n (e ∙ z)));
    left = sym (fault-leaves (rule_fault g d ceiling den (length out)) out _ (λ z. n (e ∙ z)));
  })

  module _ (e : rule_fault g d ceiling den (length out) ≡ 0) where
    pub rule_none : Over (den times ceiling) (least_tree (scaled_by den (network g)) (multiplier d)) → RuleCall g d ceiling den out none out
    unfolding rule_reply rule_leaves
    rule_none h = record {
      reply = rw e (sym (over_says (den times ceiling) (least_tree (scaled_by den (network g)) (multiplier d)) h));
      left = rw e (sym (over_writes g.m (den times ceiling) out (ruling (scaled_by den (network g)) (multiplier d) (den times ceiling))
          (least_tree (scaled_by den (network g)) (multiplier d)) h));
    }

    pub rule_some : (b : ℤ) (tree rulings : List ℕ) → Within false den g d (den times ceiling) b tree rulings
        → RuleCall g d ceiling den out (bounded b) (row (length out) (entry rulings))
    unfolding rule_reply rule_leaves ruling_with
    rule_some b tree rulings h = record { reply = rw (e, h.least, h.under); left = rw (e, h.least, h.under) same }
      where
        same : row (length out) (entry rulings) ≡ row g.m (λ k. ruling_byte (ruling (scaled_by den (network g)) (multiplier d) (den times ceiling) k))
        same = rw (rule_no_fault g d ceiling den (length out) e).0.lent (row_same g.m (entry rulings) _ h.ruled)

-- ---- the combined pass: its reply r, and its two lists, before (t, s) and after

pub record PassIs (g : Graph) (d : List ℤ) (ceiling : ℤ) (den : ℕ) (lifting : Bool) (t s : List ℕ) (r : Reply) (tree rulings : List ℕ) : Type 0 where
  pub reply : r ≡ rule_reply g d ceiling den g.m
  pub chosen : tree ≡ pass_tree g d ceiling den t
  pub ruled : rulings ≡ pass_rulings g d ceiling den lifting s

-- a list of 190 that has f at the edges and 0 past them
padded_is : (m : ℕ) (f : ℕ → ℕ) (l : List ℕ) → length l ≡ max_edges → ((k : ℕ) → k < m → get_or l k 0 ≡ f (suc k))
    → ((k : ℕ) → m ≤ k → get_or l k 0 ≡ 0) → l ≡ padded m f
unfolding padded
padded_is m f l long at past =
    row_is l 0 (λ k. cond (leb k m) (f k) 0) (λ j h. go j (dec_le (suc j) m)) ∙ rw long
  where
    go : (j : ℕ) → Dec (j < m) → get_or l j 0 ≡ cond (leb (suc j) m) (f (suc j)) 0
    go j (yes h) = rw (le-leb (suc j) m h) (at j h)
    go j (no h) = rw (lt-leb (suc j) m (omega arith)) (past j (omega arith))

module _ (g : Graph) (d : List ℤ) (ceiling : ℤ) (den : ℕ) (lifting : Bool) (t s : List ℕ) where
  pub pass-refused : (f : ℕ) → f ≡ rule_fault g d ceiling den g.m → f ≢ 0 → PassIs g d ceiling den lifting t s (refused f 0) t s
  unfolding rule_reply pass_tree pass_rulings
  pass-refused f e n = rw e (record {
    reply = sym (fault-replies (rule_fault g d ceiling den g.m) _ (λ z. n (e ∙ z)));
    chosen = sym (fault-leaves (rule_fault g d ceiling den g.m) t _ (λ z. n (e ∙ z)));
    ruled = sym (fault-leaves (rule_fault g d ceiling den g.m) s _ (λ z. n (e ∙ z)));
  })

  module _ (e : rule_fault g d ceiling den g.m ≡ 0) where
    pub pass_none : Over (den times ceiling) (least_tree (scaled_by den (network g)) (multiplier d)) → PassIs g d ceiling den lifting t s none blank blank
    unfolding rule_reply pass_tree pass_rulings
    pass_none h = record {
      reply = rw e (sym (over_says (den times ceiling) (least_tree (scaled_by den (network g)) (multiplier d)) h));
      chosen = rw e (sym (over_blank g.m (den times ceiling) (λ t k. bit (t k)) (least_tree (scaled_by den (network g)) (multiplier d)) h));
      ruled = rw e (sym (over_blank g.m (den times ceiling) (λ t k. ruling_byte (ruling_with lifting (scaled_by den (network g)) (multiplier d) (den times ceiling) k))
          (least_tree (scaled_by den (network g)) (multiplier d)) h));
    }

    pub pass_some : (b : ℤ) (tree rulings : List ℕ) → Within lifting den g d (den times ceiling) b tree rulings
        → PassIs g d ceiling den lifting t s (bounded b) tree rulings
    unfolding rule_reply pass_tree pass_rulings
    pass_some b tree rulings h = record {
      reply = rw (e, h.least, h.under);
      chosen = rw (e, h.least, h.under) (padded_is g.m (λ k. bit (h.edges k)) tree h.long.0 h.chosen (λ k l. (h.past k l).0));
      ruled = rw (e, h.least, h.under) (padded_is g.m (λ k. ruling_byte (ruling_with lifting (scaled_by den (network g)) (multiplier d) (den times ceiling) k)) rulings
          h.long.1 h.ruled (λ k l. (h.past k l).1));
    }

-- ---- a pass over lists made for it: its answer tells whether it is refused, and where it is not, what stood in the lists counts for nothing

abbrev told : Reply → ℕ
told (refused n place) = n
told none = 0
told (bounded b) = 0

told_fault : (f : ℕ) (ceiling : ℤ) (t : Tree) → told (unless_fault f (rule_says ceiling t)) ≡ f
told_fault zero ceiling no_tree = refl
told_fault zero ceiling (a_tree b t) = by_cases (lt_z ceiling b) (λ e. rw e refl) (λ e. rw e refl)
told_fault (suc f) ceiling t = refl

told_pass : (r : Result (Option Found) Refusal) → fault_of r ≡ told (pass_meaning r)
told_pass (Ok None) = refl
told_pass (Ok (Some found)) = refl
told_pass (Err r) = refl

-- it writes a byte at each place
writes_long : (m : ℕ) (ceiling : ℤ) (f : Edges → ℕ → ℕ) (t : Tree) → length (pass_writes m ceiling f t) ≡ max_edges
unfolding padded
writes_long m ceiling f no_tree = length-replicate {A = ℕ} max_edges 0
writes_long m ceiling f (a_tree b t) =
    by_cases (lt_z ceiling b) (λ e. rw e (length-replicate {A = ℕ} max_edges 0)) (λ e. rw e (row-size max_edges _))

module _ (g : Graph) (d : List ℤ) (ceiling : ℤ) (den : ℕ) where
  pub pass_tells : (r : Result (Option Found) Refusal) → pass_meaning r ≡ rule_reply g d ceiling den g.m → fault_of r ≡ rule_fault g d ceiling den g.m
  unfolding rule_reply
  pass_tells r h = told_pass r ∙ ap told h ∙ told_fault (rule_fault g d ceiling den g.m) _ (least_tree (scaled_by den (network g)) (multiplier d))

  -- parts of which no graph can be made are refused as a graph that breaks 'Legs and marks'
  pub parts_refused : (r : Refusal) → (number r ≡ 15) × (valid g ≡ false) → number r ≡ rule_fault g d ceiling den g.m
  unfolding rule_fault input_fault
  parts_refused r h = rw (h.0, h.1) refl

  module _ (lifting : Bool) where
    pub pass_whatever : (found : Option Found) → pass_meaning (Ok found) ≡ rule_reply g d ceiling den g.m → (t u s v : List ℕ)
        → (pass_tree g d ceiling den t ≡ pass_tree g d ceiling den u) × (pass_rulings g d ceiling den lifting s ≡ pass_rulings g d ceiling den lifting v)
    unfolding pass_tree pass_rulings
    pass_whatever found h t u s v = let e = sym (pass_tells (Ok found) h) in (rw e refl, rw e refl)

    pub rulings_long : (found : Option Found) → pass_meaning (Ok found) ≡ rule_reply g d ceiling den g.m → (s : List ℕ)
        → length (pass_rulings g d ceiling den lifting s) ≡ max_edges
    unfolding pass_rulings
    rulings_long found h s =
        rw (sym (pass_tells (Ok found) h))
        (writes_long g.m (den times ceiling) _ (least_tree (scaled_by den (network g)) (multiplier d)))
