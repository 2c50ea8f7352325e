-- THE TREE CALL, THE RULE CALL AND AN OPENING ARE WHAT Calls.antt SAYS. The definitions go through all sets of edges (afloat/specs/Values); that this
-- is right about all 1-trees over the vertices that are afloat is afloat's proofs/Decided and proofs/Meaning. Assumes nothing.
use Rattle.std.proofs.Math.Path.{◌≡◌, refl, sym, ap}
use Rattle.std.proofs.Common.{◌∙◌, inl, inr, arith}
use Rattle.std.specs.Prelude.{◌↔◌, ◌⊎◌, Bool, true, false, cond, List, length, ℤ, ◌<ℤ◌}
use Prim.Native.Nat.{ℕ, zero, suc, ◌<◌, ◌≤◌}
use Rattle.std.specs.Int.Signed.{lt_z}
use Rattle.lists.specs.Bools.{Says}
use Rattle.lists.specs.Members.{◌∈◌}
use Rattle.lists.specs.Numbers.{up_to, up_to_in}
use Rattle.lists.specs.Rows.{row, row-size}
use Rattle.integers.specs.Order.{le_trans, test_lt, test_not_lt, le_lt_clash}
use Rattle.integers.specs.Multiples.{◌times◌}
use Rattle.graph.specs.declared.Graph.{Graph}
use Rattle.graph.specs.Network.{Network, network}
use Rattle.graph.specs.Valid.{Valid}
use Rattle.tree_theory.specs.OneTree.{Edges}
use Rattle.tree_theory.specs.Inputs.{multiplier}
use Rattle.tree_theory.specs.Scaled.{scaled_by}
use Rattle.tree_theory.specs.Enumeration.{Tree, no_tree, a_tree}
use Rattle.tree_theory.specs.Agree.{least_unique}
use Rattle.tree_theory.specs.LeastTree.{Above}
use Rattle.afloat.specs.Over.{Ashore, ashore, ashore_fits, OneTreeOver, bound_over, LeastOver}
use Rattle.afloat.specs.Reduced.{reduced, reduced_multiplier, Fit}
use Rattle.afloat.specs.Inputs.{fit_of}
use Rattle.afloat.specs.Scaling.{fit_scaled}
use Rattle.afloat.specs.Meaning.{RightOver}
use Rattle.afloat.proofs.Meaning.{tree_over_right, infeasible_over_tree}
use Rattle.afloat.proofs.Trees.{least_iff}
use Rattle.onetree.specs.Answers.{Reply, refused, none, bounded, unless_fault, leaves, tree_says, tree_writes, rule_says, ruling_byte, rule_writes}
use Rattle.reduction.specs.Answers.{tree_of, rulings_of, tree_fault_over, tree_reply_over, tree_leaves_over}
use Rattle.reduction.specs.Answers.{rule_fault_over, rule_reply_over, rule_leaves_over}
use Rattle.machine.specs.Machine.{Opening}
use Rattle.machine.specs.Calls.{accepted, fault, opened_by, step}
use Rattle.machine.specs.Calls as machine
use Rattle.onetree_theorems.specs.Calls.{
  Asked,
  First,
  Fine,
  AshoreFits,
  InfeasibleBy,
  tree_asks,
  rule_asks,
  opening_asks,
  GivesLeast,
  TreeExactly,
  GivesRulings,
  RuleExactly,
  OpeningExactly,
}
use Rattle.onetree_theorems.specs.Refusing.{
  Tests,
  fault_by,
  fault-first,
  first-fault,
  fault_none,
  ashores,
  tree_tests,
  tree-fault,
  rule_tests,
  rule_fault_lem,
  opening_tests,
  opening-fault,
}
use Rattle.onetree_theorems.specs.Bytes.{byte_exactly, byte_at}

-- ---- replies that differ

none_bounded : (b : ℤ) → bounded b ≡ none → ⊥
none_bounded b e = let z : ◌≡◌ {A = ℕ} 0 1 = cc in omega arith

refused_none : (e p : ℕ) → refused e p ≡ none → ⊥
refused_none e p h = let z : ◌≡◌ {A = ℕ} 0 1 = cc in omega arith

-- a reply that refuses nothing
abbrev pub NoRefusal : Reply → Type 0
NoRefusal r = (e p : ℕ) → r ≡ refused e p → ⊥

bounded_refuses_nothing : (b : ℤ) → NoRefusal (bounded b)
bounded_refuses_nothing b e p h = let z : ◌≡◌ {A = ℕ} 0 1 = cc in omega arith

none_refuses_nothing : NoRefusal none
none_refuses_nothing e p h = let z : ◌≡◌ {A = ℕ} 0 1 = cc in omega arith

tree_refuses_nothing : (t : Tree) → NoRefusal (tree_says t)
tree_refuses_nothing no_tree = none_refuses_nothing
tree_refuses_nothing (a_tree b t) = bounded_refuses_nothing b

rule_refuses_nothing : (ceiling : ℤ) (t : Tree) → NoRefusal (rule_says ceiling t)
rule_refuses_nothing ceiling no_tree = none_refuses_nothing
rule_refuses_nothing ceiling (a_tree b t) = go (lt_z ceiling b)
  where
    go : (c : Bool) → NoRefusal (cond c none (bounded b))
    go true = none_refuses_nothing
    go false = bounded_refuses_nothing b

-- ---- by the fault

-- a reply refuses with the fault, where nothing else refuses
refused-fault : (r : Reply) (f e p : ℕ) → (f ≡ 0 → NoRefusal r) → unless_fault f r ≡ refused e p
    → (k : ℕ) × (f ≡ suc k) × (e ≡ suc k) × (p ≡ 0)
refused-fault r zero e p n h = absurd (n refl e p h)
refused-fault r (suc f) e p n h =
    let u : suc f ≡ e = cc in
    let v : 0 ≡ p = cc in
    (f, refl, sym u, sym v)

fault-refused : (r : Reply) (f : ℕ) → 0 < f → unless_fault f r ≡ refused f 0
fault-refused r zero h = absurd (let z : suc 0 ≤ 0 = h in omega arith)
fault-refused r (suc f) h = refl

-- where tests decide what is asked, the reply refuses with the first that applies
pub refuses_exactly : (r : Reply) (f : ℕ) → (f ≡ 0 → NoRefusal r) → (xs : List Asked) (t : Tests xs) → f ≡ fault_by xs t → (e p : ℕ)
    → (unless_fault f r ≡ refused e p) ↔ (First xs e × (p ≡ 0))
refuses_exactly r f n xs t same e p = (
  λ h. let q = refused-fault r f e p n h in (rw q.2 (fault-first xs t q.0 (sym same ∙ q.1)), q.3),
  λ q. let b = first-fault xs t e q.0 in
      let s : f ≡ e = same ∙ b.0 in rw (s, q.1) (fault-refused r e b.1),
)

-- and a list is left as it was
refused-leaves : (r : Reply) → NoRefusal r → (f e p : ℕ) (out after : List ℕ) → unless_fault f r ≡ refused e p → leaves f out after ≡ out
refused-leaves r n zero e p out after h = absurd (n e p h)
refused-leaves r n (suc f) e p out after h = refl

-- ---- the vertices that are afloat, where nothing is wrong

pub fit_for : (g : Graph) (l : List ℕ) (q : ℕ) → Valid g → AshoreFits l g.n → Fit (ashore l) (scaled_by q (network g))
fit_for g l q v a = fit_scaled q (ashore l) (network g) (fit_of g v l (decided (ashore_fits l g.n) (ashores l g.n) a))
  where
    decided : (b : Bool) {P : Type 0} → Says b P → P → b ≡ true
    decided true s p = refl
    decided false s p = absurd (s p)

-- ---- the tree call

module _ (g : Graph) (d : List ℤ) (l : List ℕ) (q : ℕ) (out : List ℕ) where
  abbrev s : Ashore
  s = ashore l

  abbrev G : Network
  G = scaled_by q (network g)

  -- without a fault, by the least 1-tree
  tree_fine : Fine (tree_asks g d l q (length out)) → tree_fault_over g d l q (length out) ≡ 0
  tree_fine f = tree-fault g d l q (length out) ∙ (fault_none _ (tree_tests g d l q (length out))).1 f

  tree_right : Fine (tree_asks g d l q (length out)) → RightOver s G (multiplier d) (tree_of g d l q)
  tree_right f = tree_over_right s G (fit_for g l q f.0 f.1.1.1.1.0) (multiplier d)

  missing_says : (t : Tree) → RightOver s G (multiplier d) t → (tree_says t ≡ none) ↔ ((r : Edges) → ¬ OneTreeOver s G r)
  missing_says no_tree h = ((λ e. h), λ e. refl)
  missing_says (a_tree b t) h = ((λ e. absurd (none_bounded b e)), λ e. absurd (e t h.1.tree))

  missing_leaves_lem : (f : ℕ) (t : Tree) → unless_fault f (tree_says t) ≡ none → leaves f out (tree_writes g.m out t) ≡ out
  missing_leaves_lem zero no_tree e = refl
  missing_leaves_lem zero (a_tree b t) e = absurd (none_bounded b e)
  missing_leaves_lem (suc f) t e = refl

  -- there is but one
  only_one : Fit s G → (r t : Edges) → LeastOver s G (multiplier d) r → LeastOver s G (multiplier d) t → (k : ℕ) → k ∈ up_to G.m → r k ≡ t k
  only_one f r t i j =
      least_unique (reduced s G) (reduced_multiplier s G.n (multiplier d)) r t ((least_iff s G f (multiplier d) r).0 i)
      ((least_iff s G f (multiplier d) t).0 j)

  gives : Fit s G → (t : Tree) → RightOver s G (multiplier d) t → ¬ (tree_says t ≡ none) → GivesLeast g d l q (tree_says t) (tree_writes g.m out t)
  gives f no_tree h e = absurd (e refl)
  gives f (a_tree b t) h e = record {
    edges = t;
    least = h.1;
    only = λ r i k low high. only_one f r t i h.1 k (unfold network in up_to_in g.m k low high);
    replied = ap bounded h.0;
    written = refl;
  }

  pub tree_exactly : TreeExactly g d l q out
  unfolding tree_reply_over tree_leaves_over
  tree_exactly = record {
    refuses =
        refuses_exactly (tree_says x) (tree_fault_over g d l q (length out)) (λ z. tree_refuses_nothing x) (tree_asks g d l q (length out))
        (tree_tests g d l q (length out)) (tree-fault g d l q (length out));
    refusal_leaves = λ e p h. refused-leaves (tree_says x) (tree_refuses_nothing x) (tree_fault_over g d l q (length out)) e p out _ h;
    missing = λ f. rw (tree_fine f) (missing_says x (tree_right f));
    missing_leaves = missing_leaves_lem (tree_fault_over g d l q (length out)) x;
    otherwise = λ f. rw (tree_fine f) (gives (fit_for g l q f.0 f.1.1.1.1.0) x (tree_right f));
  }
    where
      x : Tree
      x = tree_of g d l q

-- ---- the rule call

module _ (g : Graph) (d : List ℤ) (l : List ℕ) (ceiling : ℤ) (q : ℕ) (out : List ℕ) where
  -- the ceiling in units of the multipliers
  abbrev top : ℤ
  top = q times ceiling

  rule_fine : Fine (rule_asks g d l ceiling q (length out)) → rule_fault_over g d l ceiling q (length out) ≡ 0
  rule_fine f = rule_fault_lem g d l q (length out) ceiling ∙ (fault_none _ (rule_tests g d l q (length out) ceiling)).1 f

  rule_fit : Fine (rule_asks g d l ceiling q (length out)) → Fit (ashore l) (scaled_by q (network g))
  rule_fit f = fit_for g l q f.0 f.1.1.1.1.1.0

  dead_says : (t : Tree) → InfeasibleBy g d l ceiling q ↔ Above (scaled_by q (network g)) (multiplier d) top t
      → (rule_says top t ≡ none) ↔ InfeasibleBy g d l ceiling q
  dead_says no_tree i = ((λ e. i.1 tt), λ e. refl)
  dead_says (a_tree b t) i = go (lt_z top b) refl
    where
      go : (c : Bool) → lt_z top b ≡ c → (cond c none (bounded b) ≡ none) ↔ InfeasibleBy g d l ceiling q
      go true h = ((λ e. i.1 (test_lt top b h)), λ e. refl)
      go false h = ((λ e. absurd (none_bounded b e)), λ e. absurd (le_lt_clash b top (test_not_lt top b h) (i.0 e)))

  -- the tree is missing, or its bound is above the ceiling
  abbrev MissingOrAbove : Type 0
  MissingOrAbove =
      ((t : Edges) → ¬ OneTreeOver (ashore l) (scaled_by q (network g)) t)
      ⊎ ((t : Edges) × LeastOver (ashore l) (scaled_by q (network g)) (multiplier d) t
      × (top <ℤ bound_over (ashore l) (scaled_by q (network g)) (multiplier d) t))

  dead_tree : (t : Tree) → RightOver (ashore l) (scaled_by q (network g)) (multiplier d) t → (rule_says top t ≡ none) ↔ MissingOrAbove
  dead_tree no_tree h = ((λ e. inl h), λ q. refl)
  dead_tree (a_tree b t) h = go (lt_z top b) refl
    where
      low : lt_z top b ≡ false → MissingOrAbove → ⊥
      low i (inl n) = n t h.1.tree
      low i (inr u) =
          le_lt_clash (bound_over (ashore l) (scaled_by q (network g)) (multiplier d) u.0) top
          (le_trans _ _ _ (u.1.least t h.1.tree) (rw (← h.0) (test_not_lt top b i))) u.2

      go : (c : Bool) → lt_z top b ≡ c → (cond c none (bounded b) ≡ none) ↔ MissingOrAbove
      go true i = ((λ e. inr (t, h.1, rw (← h.0) (test_lt top b i))), λ q. refl)
      go false i = ((λ e. absurd (none_bounded b e)), λ q. absurd (low i q))

  dead_leaves_lem : (f : ℕ) (t : Tree) → unless_fault f (rule_says top t) ≡ none
      → leaves f out (rule_writes g.m top out (rulings_of g d l ceiling q) t) ≡ out
  dead_leaves_lem zero no_tree e = refl
  dead_leaves_lem zero (a_tree b t) e = go (lt_z top b) e
    where
      go : (c : Bool) → cond c none (bounded b) ≡ none → cond c out (row g.m (λ k. ruling_byte (rulings_of g d l ceiling q k))) ≡ out
      go true h = refl
      go false h = absurd (none_bounded b h)
  dead_leaves_lem (suc f) t e = refl

  rulings : Fit (ashore l) (scaled_by q (network g)) → (t : Tree) → RightOver (ashore l) (scaled_by q (network g)) (multiplier d) t
      → ¬ (rule_says top t ≡ none) → ¬ InfeasibleBy g d l ceiling q
      → GivesRulings g d l ceiling q (rule_says top t) (rule_writes g.m top out (rulings_of g d l ceiling q) t)
  rulings f no_tree h e feasible = absurd (e refl)
  rulings f (a_tree b t) h e feasible = go (lt_z top b) refl e
    where
      bytes : List ℕ
      bytes = row g.m (λ k. ruling_byte (rulings_of g d l ceiling q k))

      go : (c : Bool) → lt_z top b ≡ c → ¬ (cond c none (bounded b) ≡ none)
          → GivesRulings g d l ceiling q (cond c none (bounded b)) (cond c out bytes)
      go true i n = absurd (n refl)
      go false i n = record {
        edges = t;
        least = h.1;
        within = rw (← h.0) (test_not_lt top b i);
        replied = ap bounded h.0;
        size = row-size g.m _;
        each = λ k low high. rw (byte_at g.m (λ j. ruling_byte (rulings_of g d l ceiling q j)) k low high)
            (byte_exactly g d l ceiling q k (member k low high) f feasible);
      }
        where
          member : (k : ℕ) → 1 ≤ k → k ≤ g.m → k ∈ up_to (network g).m
          member k low high = unfold network in up_to_in g.m k low high

  pub rule_exactly : RuleExactly g d l ceiling q out
  unfolding rule_reply_over rule_leaves_over
  rule_exactly = record {
    refuses =
        refuses_exactly (rule_says top x) (rule_fault_over g d l ceiling q (length out)) (λ z. rule_refuses_nothing top x)
        (rule_asks g d l ceiling q (length out)) (rule_tests g d l q (length out) ceiling) (rule_fault_lem g d l q (length out) ceiling);
    refusal_leaves = λ e p h.
        refused-leaves (rule_says top x) (rule_refuses_nothing top x) (rule_fault_over g d l ceiling q (length out)) e p out _ h;
    dead = λ f. rw (rule_fine f) (dead f);
    dead_by_tree = λ f. rw (rule_fine f) (dead_tree x (right f));
    dead_leaves = dead_leaves_lem (rule_fault_over g d l ceiling q (length out)) x;
    otherwise = λ f. rw (rule_fine f) (λ n. rulings (rule_fit f) x (right f) n (λ i. n ((dead f).1 i)));
  }
    where
      x : Tree
      x = tree_of g d l q

      right : Fine (rule_asks g d l ceiling q (length out)) → RightOver (ashore l) (scaled_by q (network g)) (multiplier d) (tree_of g d l q)
      right f = tree_over_right (ashore l) (scaled_by q (network g)) (rule_fit f) (multiplier d)

      dead : Fine (rule_asks g d l ceiling q (length out)) → (rule_says top (tree_of g d l q) ≡ none) ↔ InfeasibleBy g d l ceiling q
      dead f = dead_says (tree_of g d l q) (infeasible_over_tree (ashore l) (scaled_by q (network g)) (rule_fit f) (multiplier d) top)

-- ---- opening

module _ (o : Opening) where
  opened-refused : (f e p : ℕ) → (opened_by o f).answer ≡ machine.refused e p → (k : ℕ) × (f ≡ suc k) × (e ≡ suc k) × (p ≡ 0)
  unfolding opened_by
  opened-refused zero e p h = absurd (let z : ◌≡◌ {A = ℕ} 0 1 = cc in omega arith)
  opened-refused (suc f) e p h =
      let u : suc f ≡ e = cc in
      let v : 0 ≡ p = cc in
      (f, refl, sym u, sym v)

  refused-opened : (f : ℕ) → 0 < f → (opened_by o f).answer ≡ machine.refused f 0
  unfolding opened_by
  refused-opened zero h = absurd (let z : suc 0 ≤ 0 = h in omega arith)
  refused-opened (suc f) h = refl

  opened_accepted : (f : ℕ) → ((opened_by o f).answer ≡ accepted) ↔ (f ≡ 0)
  unfolding opened_by
  opened_accepted zero = ((λ e. refl), λ e. refl)
  opened_accepted (suc f) = ((λ e. absurd (let z : ◌≡◌ {A = ℕ} 0 1 = cc in omega arith)), λ e. absurd (let z : suc f ≡ 0 = e in omega arith))

  first : (e : ℕ) → First (opening_asks o) e → (fault o ≡ e) × (0 < e)
  first e f = let b = first-fault (opening_asks o) (opening_tests o) e f in (opening-fault o ∙ b.0, b.1)

  none_fault : (fault o ≡ 0) ↔ Fine (opening_asks o)
  none_fault = rw (opening-fault o) (fault_none (opening_asks o) (opening_tests o))

  pub opening_exactly : OpeningExactly o
  unfolding step
  opening_exactly = record {
    refuses = λ e p. (
      λ h. let q = opened-refused (fault o) e p h in
          (rw q.2 (fault-first (opening_asks o) (opening_tests o) q.0 (sym (opening-fault o) ∙ q.1)), q.3),
      λ q. let b = first e q.0 in rw (b.0, q.1) (refused-opened e b.1),
    );
    accepts = (
      λ h. none_fault.0 ((opened_accepted (fault o)).0 h),
      λ f. (opened_accepted (fault o)).1 (none_fault.1 f),
    );
    first = λ e f. (first e f).0;
    nothing = none_fault;
  }
