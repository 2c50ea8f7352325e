-- DOCUMENT 02, C-17: "With q = 1, which the programs use, every answer is the old one"; C-13: "A yes or no at opening turns lifting on; the programs open
-- without it"; C-20: "with none ashore they read as before". Of the replies and bytes that the contracts cite, against the definitions of before
-- (Former.antt): tree, rule and preview; and of every list of calls whose openings have none ashore, of those that do not lift too, and of those that
-- have q = 1 too, through any calls that meet demand 3: each answer, each lent list, and the record. Assumes nothing.
use Rattle.std.specs.Prelude.{◌≡◌, refl, Bool, true, false, not, cond, ◌&&◌, List, ℕ, zero, suc, eqb, leb, length, replicate, ℤ}
use Rattle.std.proofs.Common.{ap, ◌∙◌, arith, eqb-true, eq-eqb}
use Rattle.std.proofs.Math.Path.{ap₂}
use Rattle.std.proofs.lemmas.List.{length-replicate}
use Rattle.lists.specs.Bools.{by_cases}
use Rattle.integers.specs.Multiples.{◌times◌, times-one}
use Rattle.graph.specs.declared.Graph.{Graph}
use Rattle.graph.specs.Limits.{max_sweeps, max_step}
use Rattle.graph.specs.Network.{Network, network}
use Rattle.graph.specs.Valid.{valid}
use Rattle.graph.specs.Meaning.{valid_true}
use Rattle.tree_theory.specs.Inputs.{multiplier, multipliers_fit, ceiling_fits, denominator_fits, denominator_fault, or_else, input_fault}
use Rattle.tree_theory.specs.Enumeration.{Tree, no_tree, a_tree, least_tree, ruling}
use Rattle.tree_theory.specs.Scaled.{scaled_by}
use Rattle.tree_theory.specs.Scaling.{scaled_one, at_one_lem}
use Rattle.onetree.specs.Answers as tree
use Rattle.reduction.specs.Answers.{tree_reply_over, tree_leaves_over, rule_reply_over, rule_leaves_over}
use Rattle.reduction.specs.NoneListed.{tree_fault_none, rule_fault_none, tree_of_none, rulings_none}
use Rattle.preview.specs.Preview.{remarked, can_be_marked, is_free_edge, edge_fault, preview_fault, preview_reply, preview_leaves}
use Rattle.lifting.specs.Lifted.{ruling_with}
use Rattle.afloat.specs.Over.{ashore, ashore_fault}
use Rattle.afloat.specs.Inputs.{none_ashore, none_fault}
use Rattle.afloat.specs.NoneAshore.{reduced_none, list_none}
use Rattle.machine.specs.Machine.{Marks, with_marks, applied, pass_by, pass, gained, branch, concluded}
use Rattle.machine.specs.Machine.{Node, passes, tidy, trimmed, Opening, active_network, active_multipliers, held, opened_on, open_node}
use Rattle.machine.specs.Calls.{Call, fault}
use Rattle.machine.specs.Demand3.{Interface, Demand3}
use Rattle.onetree_theorems.specs.Former as former
use Rattle.onetree_theorems.specs.FormerSearch.{OfCalls, SameWays, AsBefore, as_before}

-- 1 is in its range
one_fits : denominator_fault 1 ≡ 0
unfolding denominator_fault denominator_fits
one_fits = refl

-- ---- the tree call, the rule call and the preview

module _ (g : Graph) (d : List ℤ) where
  pub tree-at_one : (len : ℕ) → tree.tree_reply g d 1 len ≡ former.tree_reply g d len
  unfolding tree.tree_reply tree.tree_fault former.tree_reply
  tree-at_one len = λ i. tree.unless_fault (input_fault g d len (one_fits i)) (tree.tree_says (least_tree (scaled_one (network g) i) (multiplier d)))

  pub tree_list_at_one : (out : List ℕ) → tree.tree_leaves g d 1 out ≡ former.tree_leaves g d out
  unfolding tree.tree_leaves tree.tree_fault former.tree_leaves
  tree_list_at_one out = λ i.
      tree.leaves (input_fault g d (length out) (one_fits i)) out (tree.tree_writes g.m out (least_tree (scaled_one (network g) i) (multiplier d)))

  module _ (ceiling : ℤ) where
    pub rule_at_one : (len : ℕ) → tree.rule_reply g d ceiling 1 len ≡ former.rule_reply g d ceiling len
    unfolding tree.rule_reply tree.rule_fault former.rule_reply former.rule_fault
    rule_at_one len = λ i.
        tree.unless_fault (input_fault g d len (cond (not (ceiling_fits ceiling)) 13 (one_fits i)))
        (tree.rule_says (times-one ceiling i) (least_tree (scaled_one (network g) i) (multiplier d)))

    pub rule_list_at_one : (out : List ℕ) → tree.rule_leaves g d ceiling 1 out ≡ former.rule_leaves g d ceiling out
    unfolding tree.rule_leaves tree.rule_fault former.rule_leaves former.rule_fault
    rule_list_at_one out = λ i.
        tree.leaves (input_fault g d (length out) (cond (not (ceiling_fits ceiling)) 13 (one_fits i))) out
        (tree.rule_writes g.m (times-one ceiling i) out (ruling (scaled_one (network g) i) (multiplier d) (times-one ceiling i))
        (least_tree (scaled_one (network g) i) (multiplier d)))

one_in_range : denominator_fits 1 ≡ true
unfolding denominator_fits
one_in_range = refl

-- the preview of before C-20
module _ (g : Graph) (d : List ℤ) (k mark : ℕ) where
  fault-at_one : (len : ℕ) → former.unlisted_preview_fault g d 1 k mark len ≡ former.preview_fault g d k mark len
  unfolding former.unlisted_preview_fault former.preview_fault
  fault-at_one len = λ i.
      input_fault g d len (cond (not (one_in_range i)) 32 (cond (not (can_be_marked g k mark)) 30 (cond (not (is_free_edge g k)) 31 0)))

  pub preview_at_one : (len : ℕ) → former.unlisted_preview_reply g d 1 k mark len ≡ former.preview_reply g d k mark len
  unfolding former.unlisted_preview_reply former.preview_reply
  preview_at_one len = ap₂ tree.unless_fault (fault-at_one len) (tree-at_one (remarked g k mark) d len)

  pub preview_list_at_one : (out : List ℕ) → former.unlisted_preview_leaves g d 1 k mark out ≡ former.preview_leaves g d k mark out
  unfolding former.unlisted_preview_leaves former.preview_leaves
  preview_list_at_one out = λ i. tree.leaves (fault-at_one (length out) i) out (tree_list_at_one (remarked g k mark) d out i)

-- ---- document 02, C-20: "with none ashore they read as before": WITH A LIST OF ZEROS, one for each vertex, each answer and each byte is that of before

module _ (g : Graph) (d : List ℤ) (q : ℕ) where
  abbrev zeros : List ℕ
  zeros = replicate g.n 0

  pub tree_afloat : (len : ℕ) → tree_reply_over g d zeros q len ≡ tree.tree_reply g d q len
  unfolding tree_reply_over tree.tree_reply
  tree_afloat len = λ i. tree.unless_fault (tree_fault_none g d q len i) (tree.tree_says (tree_of_none g d q i))

  pub tree_list_afloat : (out : List ℕ) → tree_leaves_over g d zeros q out ≡ tree.tree_leaves g d q out
  unfolding tree_leaves_over tree.tree_leaves
  tree_list_afloat out = λ i. tree.leaves (tree_fault_none g d q (length out) i) out (tree.tree_writes g.m out (tree_of_none g d q i))

  module _ (ceiling : ℤ) where
    pub rule_afloat : (len : ℕ) → rule_reply_over g d zeros ceiling q len ≡ tree.rule_reply g d ceiling q len
    unfolding rule_reply_over tree.rule_reply
    rule_afloat len = λ i. tree.unless_fault (rule_fault_none g d ceiling q len i) (tree.rule_says (q times ceiling) (tree_of_none g d q i))

    pub rule_list_afloat : (out : List ℕ) → rule_leaves_over g d zeros ceiling q out ≡ tree.rule_leaves g d ceiling q out
    unfolding rule_leaves_over tree.rule_leaves
    rule_list_afloat out = λ i.
        tree.leaves (rule_fault_none g d ceiling q (length out) i) out
        (tree.rule_writes g.m (q times ceiling) out (rulings_none g d ceiling q i) (tree_of_none g d q i))

  module _ (k mark : ℕ) where
    left_out : (a b c e : Bool) (left : ℕ)
        → or_else (cond (not a) 15 (cond (not b) 11 (cond (not c) 12 (cond (not e) 32 0)))) left
        ≡ cond (not a) 15 (cond (not b) 11 (cond (not c) 12 (cond (not e) 32 left)))
    left_out false b c e left = refl
    left_out true false c e left = refl
    left_out true true false e left = refl
    left_out true true true false left = refl
    left_out true true true true left = refl

    fault_afloat : (len : ℕ) → preview_fault g d zeros q k mark len ≡ former.unlisted_preview_fault g d q k mark len
    unfolding preview_fault former.unlisted_preview_fault tree.tree_fault input_fault denominator_fault
    fault_afloat len =
        ap (λ (f : ℕ). or_else f (edge_fault g k mark)) (tree_fault_none g d q len)
        ∙ left_out (valid g) (eqb (length d) g.n && eqb len g.m) (multipliers_fit d) (denominator_fits q) (edge_fault g k mark)

    pub preview_afloat : (len : ℕ) → preview_reply g d zeros q k mark len ≡ former.unlisted_preview_reply g d q k mark len
    unfolding preview_reply former.unlisted_preview_reply remarked
    preview_afloat len = ap₂ tree.unless_fault (fault_afloat len) (copy_afloat len)
      where
        copy_afloat : (len : ℕ) → tree_reply_over (remarked g k mark) d (replicate g.n 0) q len ≡ tree.tree_reply (remarked g k mark) d q len
        copy_afloat len = λ i.
            unfold tree_reply_over tree.tree_reply in
            tree.unless_fault (tree_fault_none (remarked g k mark) d q len i) (tree.tree_says (tree_of_none (remarked g k mark) d q i))

    pub preview_list_afloat : (out : List ℕ) → preview_leaves g d zeros q k mark out ≡ former.unlisted_preview_leaves g d q k mark out
    unfolding preview_leaves former.unlisted_preview_leaves remarked
    preview_list_afloat out = λ i. tree.leaves (fault_afloat (length out) i) out (copy_list_afloat out i)
      where
        copy_list_afloat : (out : List ℕ) → tree_leaves_over (remarked g k mark) d (replicate g.n 0) q out ≡ tree.tree_leaves (remarked g k mark) d q out
        copy_list_afloat out = λ i.
            unfold tree_leaves_over tree.tree_leaves in
            tree.leaves (tree_fault_none (remarked g k mark) d q (length out) i) out (tree.tree_writes g.m out (tree_of_none (remarked g k mark) d q i))

-- ---- the search

-- WITH NONE ASHORE every vertex is active
abbrev pub AllAfloat : Opening → Type 0
AllAfloat o = (o.ashore ≡ replicate o.graph.n 0)

afloat_whole : (o : Opening) → AllAfloat o → active_network o ≡ network o.graph
afloat_whole o all = rw all (reduced_none (ashore (replicate o.graph.n 0)) (none_ashore o.graph.n) (network o.graph))

-- where an opening had no fault, its multipliers are as many as its vertices
afloat_listed : (o : Opening) → AllAfloat o → eqb (length o.multipliers) o.graph.n ≡ true → active_multipliers (held o) ≡ o.multipliers
unfolding held trimmed
afloat_listed o all long =
    rw all (list_none (ashore (replicate o.graph.n 0)) (none_ashore o.graph.n) o.graph.n o.multipliers (eqb-true (length o.multipliers) o.graph.n long))

afloat_kept : (o : Opening) → AllAfloat o → AllAfloat (held o)
unfolding held trimmed
afloat_kept o all = all

-- the list of zeros is of the right length, and after any other fault 35 does not apply to it
pub zeros_long : (n : ℕ) → eqb (length (replicate {A = ℕ} n 0)) n ≡ true
zeros_long n = eq-eqb (length (replicate {A = ℕ} n 0)) n (length-replicate n 0)

pub zeros_left : (g : Graph) → valid g ≡ true → (f : ℕ) → or_else f (ashore_fault (replicate g.n 0) g.n) ≡ f
zeros_left g v f = rw (none_fault g.n (valid_true g v).low) (go f)
  where
    go : (f : ℕ) → or_else f 0 ≡ f
    go zero = refl
    go (suc f) = refl

-- 35 never applies, and 11 to the multipliers alone
afloat_refused : (o : Opening) → AllAfloat o → fault o ≡ former.unlisted_fault o
unfolding fault former.unlisted_fault
afloat_refused o all =
    by_cases (valid o.graph)
    (λ v i.
    cond (not (valid o.graph)) 15
    (cond (not (lengths i)) 11
    (cond (not (multipliers_fit o.multipliers)) 12
    (cond (not (ceiling_fits o.settings.ceiling)) 13
    (cond (not (leb o.settings.sweeps max_sweeps && leb o.settings.step max_step)) 14
    (last v i))))))
    (λ v. rw v)
  where
    lengths : eqb (length o.multipliers) o.graph.n && eqb (length o.ashore) o.graph.n ≡ eqb (length o.multipliers) o.graph.n
    lengths = rw (all, zeros_long o.graph.n) (go (eqb (length o.multipliers) o.graph.n))
      where
        go : (b : Bool) → b && true ≡ b
        go true = refl
        go false = refl

    last : valid o.graph ≡ true → or_else (denominator_fault o.settings.denominator) (ashore_fault o.ashore o.graph.n) ≡ denominator_fault o.settings.denominator
    last v = rw all (zeros_left o.graph v (denominator_fault o.settings.denominator))

-- WITHOUT LIFTING each pass is the former one, at any network: so for every q
unlifted_pass : (g : Network) (d : ℕ → ℤ) (upper : ℤ) → pass false g d upper ≡ former.pass g d upper
unfolding pass pass_by applied ruling_with former.pass former.pass_by former.applied
unlifted_pass g d upper = go (least_tree g d)
  where
    go : (x : Tree) → pass_by false g d upper x ≡ former.pass_by g d upper x
    go no_tree = refl
    go (a_tree b t) = refl

unlifted_passes : (g : Network) (stride : ℕ) (upper : ℤ) (left : ℕ) (d : List ℤ) (x : Marks)
    → passes false g stride upper left d x ≡ former.passes g stride upper left d x
unfolding passes former.passes
unlifted_passes g stride upper zero d x = λ i. concluded g.m (unlifted_pass (with_marks g x) (multiplier d) upper i) (λ t y. branch d y)
unlifted_passes g stride upper (suc left) d x = λ i.
    concluded g.m (unlifted_pass (with_marks g x) (multiplier d) upper i) (λ t y. unlifted_passes g stride upper left (gained g stride t d) y i)

-- an opening with none ashore; without lifting too; with q = 1 too
abbrev pub Unlifted : Opening → Type 0
Unlifted o = AllAfloat o × (o.settings.lifting ≡ 0)

abbrev pub Whole : Opening → Type 0
Whole o = Unlifted o × (o.settings.denominator ≡ 1)

-- the opening of a node
afloat_node : (o : Opening) → AllAfloat o → (upper : ℤ) (x : Node) → open_node o upper x ≡ former.before_ashore.open_node o upper x
unfolding open_node
afloat_node o all upper x = ap (λ (g : Network). opened_on g o.settings upper x) (afloat_whole o all)

pub unlifted_node : (o : Opening) → Unlifted o → (upper : ℤ) (x : Node) → open_node o upper x ≡ former.before_lifting.open_node o upper x
unfolding opened_on
unlifted_node o u upper x =
    afloat_node o u.0 upper x
    ∙ rw u.1
    (unlifted_passes (scaled_by o.settings.denominator (network o.graph)) o.settings.step (o.settings.denominator times upper) o.settings.sweeps
    x.multipliers x.marks)

unlifted_kept : (o : Opening) → Unlifted o → Unlifted (held o)
unfolding held tidy
unlifted_kept o u = (afloat_kept o u.0, rw u.1)

-- an accepted opening had as many multipliers as vertices
long_enough : (o : Opening) → former.unlisted_fault o ≡ 0 → eqb (length o.multipliers) o.graph.n ≡ true
unfolding former.unlisted_fault
long_enough o none =
    by_cases (eqb (length o.multipliers) o.graph.n)
    (λ l. l)
    (λ l. absurd (by_cases (valid o.graph) (λ v. omega (arith, (rw (v, l) at none))) (λ v. omega (arith, (rw v at none)))))

former_long : (o : Opening) → former.fault o ≡ 0 → eqb (length o.multipliers) o.graph.n ≡ true
unfolding former.fault
former_long o none =
    by_cases (eqb (length o.multipliers) o.graph.n)
    (λ l. l)
    (λ l. absurd (by_cases (valid o.graph) (λ v. omega (arith, (rw (v, l) at none))) (λ v. omega (arith, (rw v at none)))))

pub afloat_ways : SameWays former.before_ashore AllAfloat
afloat_ways = record {
  kept = afloat_kept;
  whole = afloat_whole;
  listed = λ o all none. afloat_listed o all (long_enough o none);
  refused = afloat_refused;
  opened = afloat_node;
}

pub unlifted_ways : SameWays former.before_lifting Unlifted
unlifted_ways = record {
  kept = unlifted_kept;
  whole = λ o u. afloat_whole o u.0;
  listed = λ o u none. afloat_listed o u.0 (long_enough o none);
  refused = λ o u. afloat_refused o u.0;
  opened = unlifted_node;
}

pub whole_ways : SameWays former.before_denominators Whole
unfolding held tidy former.unlisted_fault former.fault
whole_ways = record {
  kept = λ o w. (unlifted_kept o w.0, w.1);
  whole = λ o w. afloat_whole o w.0.0;
  listed = λ o w none. afloat_listed o w.0.0 (former_long o none);
  refused = λ o w. afloat_refused o w.0.0 ∙ rw (w.1, one_fits);
  opened = λ o w upper x.
      unlifted_node o w.0 upper x
      ∙ rw w.1
      (at_one_lem (λ (h : Network) (u : ℤ). former.passes h o.settings.step u o.settings.sweeps x.multipliers x.marks) (network o.graph) upper);
}

-- document 02, C-20: "with none ashore they read as before": where no opening of a list has a vertex ashore, every answer is that of the search over
-- all vertices
abbrev pub EveryAnswerIsAsWithoutList : Interface → Type 0
EveryAnswerIsAsWithoutList i = (cs : List Call) → OfCalls AllAfloat cs → AsBefore former.before_ashore AllAfloat i cs

pub search_afloat : (i : Interface) → Demand3 i → EveryAnswerIsAsWithoutList i
search_afloat = as_before former.before_ashore AllAfloat afloat_ways

-- "A yes or no at opening turns lifting on": where none says yes either, every answer is the one before lifting, for every q
abbrev pub EveryUnliftedAnswerIsTheOldOne : Interface → Type 0
EveryUnliftedAnswerIsTheOldOne i = (cs : List Call) → OfCalls Unlifted cs → AsBefore former.before_lifting Unlifted i cs

pub search_unlifted : (i : Interface) → Demand3 i → EveryUnliftedAnswerIsTheOldOne i
search_unlifted = as_before former.before_lifting Unlifted unlifted_ways

-- "With q = 1, which the programs use, every answer is the old one"; without lifting, which the programs open without, and with none ashore
abbrev pub EveryAnswerIsTheOldOne : Interface → Type 0
EveryAnswerIsTheOldOne i = (cs : List Call) → OfCalls Whole cs → AsBefore former.before_denominators Whole i cs

pub search-at_one : (i : Interface) → Demand3 i → EveryAnswerIsTheOldOne i
search-at_one = as_before former.before_denominators Whole whole_ways
