-- What crate onetree's pass promises: which number is refused, and where none is, the least tree, where it is within the ceiling, and the
-- rulings.
use Rattle.std.specs.Prelude.{◌≡◌, Bool, true, false, List, ℕ, zero, suc, ◌≤◌, ◌<◌, leb, length, get_or, ℤ, Option, None, Some, Result, Ok, Err}
use Rattle.std.proofs.Math.Path.{refl}
use Rattle.std.proofs.Common.{sym, ap, ◌∙◌, arith}
use Rattle.std.proofs.Math.Bool.{cond}
use Rattle.std.proofs.Math.Decide.{dec_le}
use Rattle.std.proofs.Math.ListN.{get_or-eq_default}
use Rattle.std.specs.Int.Signed.{lt_z}
use borrow.Author.Tests.{eq-eqb, le-leb, lt-leb}
use Rattle.lists.specs.Bools.{bit}
use Rattle.lists.specs.Rows.{row, row-size, row_at}
use Rattle.lists.specs.Fill.{fill_is}
use Rattle.integers.specs.Multiples.{◌times◌}
use Rattle.graph.specs.declared.Graph.{Graph}
use Rattle.graph.specs.declared.refusals.Refusal.{Refusal}
use Rattle.graph.specs.Refusals.{number}
use Rattle.graph.specs.Limits.{max_edges}
use Rattle.graph.specs.Network.{network}
use Rattle.graph.specs.Valid as value
use Rattle.graph.specs.Meaning.{true_valid}
use Rattle.tree_theory.specs.OneTree.{Edges}
use Rattle.tree_theory.specs.Inputs.{input_fault, multiplier, multipliers_fit, ceiling_fits, denominator_fault}
use Rattle.tree_theory.specs.Scaled.{scaled_by}
use Rattle.tree_theory.specs.Enumeration.{Tree, no_tree, a_tree, least_tree}
use Rattle.greedy.specs.declared.Found.{Found}
use Rattle.onetree.specs.Answers.{HintAfter, Reply, refused, none, bounded, pass_meaning, rule_fault, unless_fault, rule_says, rule_reply, ruling_byte, padded, pass_tree, pass_rulings}
use Rattle.lifting.specs.Lifted.{ruling_with}
use Rattle.machine.specs.Machine.{lifts, shut, pass}
use Rattle.node.specs.Given.{Given, fault}
use Rattle.node.specs.Marks.{bytes_of_tour}
use Rattle.node.specs.Faults.{settings_fault, lastly, fault_rule, fault-fit}
use Rattle.node.specs.OnePass.{top_of, tree_bytes, pass_none, pass-above}

-- ---- refusals

-- what is refused once the tree part has answered, or 0
abbrev pub refusal : Result (Option Found) Refusal → ℕ → ℕ → ℕ
refusal (Ok found) sweeps step = settings_fault sweeps step
refusal (Err r) sweeps step = lastly (number r) sweeps step

pub says_no_number : (n p : ℕ) (upper : ℤ) (t : Tree) → refused n p ≡ rule_says upper t → ⊥
says_no_number n p upper no_tree h = let z : ◌≡◌ {A = ℕ} 0 1 = cc in omega arith
says_no_number n p upper (a_tree b t) h = go (lt_z upper b) h
  where
    go : (x : Bool) → refused n p ≡ cond x none (bounded b) → ⊥
    go true h = let z : ◌≡◌ {A = ℕ} 0 1 = cc in omega arith
    go false h = let z : ◌≡◌ {A = ℕ} 0 1 = cc in omega arith

-- it is the fault of the opening
pub refusal-fault : (o : Given) (a : Result (Option Found) Refusal)
    → pass_meaning a ≡ rule_reply o.graph o.multipliers o.settings.ceiling o.settings.denominator o.graph.m
    → fault o ≡ refusal a o.settings.sweeps o.settings.step
unfolding rule_reply
refusal-fault o a e =
    fault_rule o
    ∙ go a (rule_fault o.graph o.multipliers o.settings.ceiling o.settings.denominator o.graph.m) e
  where
    go : (a : Result (Option Found) Refusal) (f : ℕ)
        → pass_meaning a
        ≡ unless_fault f (rule_says (o.settings.denominator times o.settings.ceiling)
        (least_tree (scaled_by o.settings.denominator (network o.graph)) (multiplier o.multipliers)))
        → lastly f o.settings.sweeps o.settings.step ≡ refusal a o.settings.sweeps o.settings.step
    go (Ok None) zero h = refl
    go (Ok (Some found)) zero h = refl
    go (Err r) zero h =
        absurd (says_no_number (number r) 0 (o.settings.denominator times o.settings.ceiling)
        (least_tree (scaled_by o.settings.denominator (network o.graph)) (multiplier o.multipliers)) h)
    go (Ok None) (suc f) h = absurd (let z : ◌≡◌ {A = ℕ} 0 1 = cc in omega arith)
    go (Ok (Some found)) (suc f) h = absurd (let z : ◌≡◌ {A = ℕ} 0 1 = cc in omega arith)
    go (Err r) (suc f) h =
        let s : number r ≡ suc f = cc in ap (λ (k : ℕ). lastly k o.settings.sweeps o.settings.step) (sym s)

-- a tree within the ceiling
pub record Within (den : ℕ) (g : Graph) (d : List ℤ) (upper b : ℤ) : Type 0 where
  pub tree : Edges
  pub least : least_tree (scaled_by den (network g)) (multiplier d) ≡ a_tree b tree
  pub low : lt_z upper b ≡ false

module _ (den : ℕ) (g : Graph) (d : List ℤ) (upper : ℤ) (valid : value.Valid g) (long : length d ≡ g.n) (fits : multipliers_fit d ≡ true)
    (ceiling : ceiling_fits upper ≡ true) (counts : denominator_fault den ≡ 0) where
  -- the upper bound in units of the multipliers
  abbrev top : ℤ
  top = den times upper

  -- nothing is refused
  no_fault : rule_fault g d upper den g.m ≡ 0
  unfolding rule_fault input_fault
  no_fault = rw (true_valid g valid, eq-eqb (length d) g.n long, eq-eqb g.m g.m refl, fits, ceiling, counts)

  says : rule_reply g d upper den g.m ≡ rule_says top (least_tree (scaled_by den (network g)) (multiplier d))
  unfolding rule_reply
  says = rw no_fault

  not-refused : (n p : ℕ) → refused n p ≡ rule_reply g d upper den g.m → ⊥
  not-refused n p e = says_no_number n p top (least_tree (scaled_by den (network g)) (multiplier d)) (e ∙ says)

  -- by the answer: there is none within the ceiling, or there is one
  pub none_shut : (lifting : Bool) → none ≡ rule_reply g d upper den g.m → pass lifting (scaled_by den (network g)) (multiplier d) top ≡ shut
  none_shut lifting e = go (least_tree (scaled_by den (network g)) (multiplier d)) refl (e ∙ says)
    where
      second : (b : ℤ) (t : Edges) → least_tree (scaled_by den (network g)) (multiplier d) ≡ a_tree b t → (x : Bool) → lt_z top b ≡ x
          → none ≡ cond x none (bounded b) → pass lifting (scaled_by den (network g)) (multiplier d) top ≡ shut
      second b t q true i h = pass-above (scaled_by den (network g)) (multiplier d) top b t q lifting i
      second b t q false i h = absurd (let z : ◌≡◌ {A = ℕ} 0 1 = cc in omega arith)

      go : (t : Tree) → least_tree (scaled_by den (network g)) (multiplier d) ≡ t → none ≡ rule_says top t
          → pass lifting (scaled_by den (network g)) (multiplier d) top ≡ shut
      go no_tree q h = pass_none lifting (scaled_by den (network g)) (multiplier d) top q
      go (a_tree b t) q h = second b t q (lt_z top b) refl h

  pub bounded_within : (b : ℤ) → bounded b ≡ rule_reply g d upper den g.m → Within den g d top b
  bounded_within b e = go (least_tree (scaled_by den (network g)) (multiplier d)) refl (e ∙ says)
    where
      second : (c : ℤ) (t : Edges) → least_tree (scaled_by den (network g)) (multiplier d) ≡ a_tree c t → (x : Bool) → lt_z top c ≡ x
          → bounded b ≡ cond x none (bounded c) → Within den g d top b
      second c t q true i h = absurd (let z : ◌≡◌ {A = ℕ} 0 1 = cc in omega arith)
      second c t q false i h =
          let s : b ≡ c = cc in
          record { tree = t; least = q ∙ ap (λ (z : ℤ). a_tree z t) (sym s); low = rw s i }

      go : (t : Tree) → least_tree (scaled_by den (network g)) (multiplier d) ≡ t → bounded b ≡ rule_says top t → Within den g d top b
      go no_tree q h = absurd (let z : ◌≡◌ {A = ℕ} 0 1 = cc in omega arith)
      go (a_tree c t) q h = second c t q (lt_z top c) refl h

  -- the bytes of the tree and of the rulings
  pub pass-tree : (out : List ℕ) (b : ℤ) (w : Within den g d top b) → pass_tree g d upper den out ≡ tree_bytes g.m w.tree
  unfolding pass_tree tree_bytes bytes_of_tour padded
  pass-tree out b w =
      rw (no_fault, w.least, w.low)
      (sym (fill_is max_edges (λ i. bit (get_or (row g.m t) i false)) (row max_edges f) 0 (row-size max_edges f) at))
    where
      t : Edges
      t = w.tree

      f : ℕ → ℕ
      f k = cond (leb k g.m) (bit (t k)) 0

      at : (i : ℕ) → i < max_edges → bit (get_or (row g.m t) i false) ≡ get_or (row max_edges f) i 0
      at i b = go (dec_le (suc i) g.m)
        where
          go : Dec (i < g.m) → bit (get_or (row g.m t) i false) ≡ get_or (row max_edges f) i 0
          go (yes h) = ap bit (row_at g.m t i false h) ∙ sym (row_at max_edges f i 0 b ∙ rw (le-leb (suc i) g.m h))
          go (no h) =
              ap bit (get_or-eq_default (row g.m t) false (omega (arith, row-size g.m t)))
              ∙ sym (row_at max_edges f i 0 b ∙ rw (lt-leb (suc i) g.m (omega arith)))

  pub pass-rulings : (lifting : Bool) (out : List ℕ) (b : ℤ) (w : Within den g d top b) (k : ℕ) → k < g.m
      → get_or (pass_rulings g d upper den lifting out) k 0 ≡ ruling_byte (ruling_with lifting (scaled_by den (network g)) (multiplier d) top (suc k))
  unfolding pass_rulings padded
  pass-rulings lifting out b w k h =
      rw (no_fault, w.least, w.low)
      (row_at max_edges (λ j. cond (leb j g.m) (ruling_byte (ruling_with lifting (scaled_by den (network g)) (multiplier d) top j)) 0) k 0
      (omega (arith, valid.few))
      ∙ rw (le-leb (suc k) g.m h))

-- ---- what the code is told

-- the least 1-tree is within the upper bound; its bytes, those of its rulings, and how long a hint is
pub record LeastIs (o : Given) (found : Found) (tree rulings : List ℕ) : Type 0 where
  pub none : fault o ≡ 0
  pub within : Within o.settings.denominator o.graph o.multipliers (top_of o) found.bound
  pub bytes : tree ≡ tree_bytes o.graph.m within.tree
  pub ruled : (k : ℕ) → k < o.graph.m
      → get_or rulings k 0
      ≡ ruling_byte (ruling_with (lifts o.settings) (scaled_by o.settings.denominator (network o.graph)) (multiplier o.multipliers) (top_of o) (suc k))
  pub few : found.live ≤ max_edges

-- refused with its fault, or without one the least 1-tree, where it is within the upper bound
abbrev pub TreeIs : Given → Result (Option Found) Refusal → List ℕ → List ℕ → Type 0
TreeIs o (Err r) tree rulings = fault o ≡ number r
TreeIs o (Ok None) tree rulings =
    (fault o ≡ 0) × (pass (lifts o.settings) (scaled_by o.settings.denominator (network o.graph)) (multiplier o.multipliers) (top_of o) ≡ shut)
TreeIs o (Ok (Some found)) tree rulings = LeastIs o found tree rulings

module _ (o : Given) (none : fault o ≡ 0) (tree rulings tree_before rulings_before : List ℕ) where
  abbrev replied : Reply
  replied = rule_reply o.graph o.multipliers o.settings.ceiling o.settings.denominator o.graph.m

  -- once it refuses nothing
  pub tree_is : (x : Option Found) → pass_meaning (Ok x) ≡ replied
      → tree ≡ pass_tree o.graph o.multipliers o.settings.ceiling o.settings.denominator tree_before
      → rulings ≡ pass_rulings o.graph o.multipliers o.settings.ceiling o.settings.denominator (lifts o.settings) rulings_before
      → (marks out order : List ℕ) → HintAfter (Ok x) marks o.graph.m out order → TreeIs o (Ok x) tree rulings
  tree_is None said t r marks out order hint =
      let f = fault-fit o none in
      (none, none_shut _ _ _ _ f.valid f.long f.multipliers f.ceiling f.denominator (lifts o.settings) said)
  tree_is (Some found) said t r marks out order hint =
      let f = fault-fit o none in
      let w = bounded_within _ _ _ _ f.valid f.long f.multipliers f.ceiling f.denominator found.bound said in
      record {
        none = none;
        within = w;
        bytes = t ∙ pass-tree _ _ _ _ f.valid f.long f.multipliers f.ceiling f.denominator tree_before found.bound w;
        ruled = λ k h.
            ap (λ (l : List ℕ). get_or l k 0) r
            ∙ pass-rulings _ _ _ _ f.valid f.long f.multipliers f.ceiling f.denominator (lifts o.settings) rulings_before found.bound w k h;
        few = hint.looks.few;
      }
