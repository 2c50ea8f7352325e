-- A pass of the machine, from what a pass of crate onetree tells: the least tree and a byte for each of its edges, and a byte for each
-- edge's ruling. `VerdictIs` is what the code of a pass has to show, by its verdict.
use Rattle.std.specs.Prelude.{◌≡◌, Bool, true, cond, List, ℕ, zero, suc, ◌≤◌, ◌<◌, eqb, length, get_or, ℤ, Result, Ok, Err}
use Rattle.std.proofs.Common.{sym, ◌∙◌, subst, true≢false, arith}
use Rattle.std.proofs.Math.Path.{ap}
use Rattle.std.proofs.Math.Bool.{false}
use Rattle.std.proofs.Math.Decide.{ℕ_discrete}
use Rattle.std.proofs.Math.ListN.{get_or-eq_default}
use Rattle.std.specs.Int.Signed.{lt_z}
use Rattle.lists.specs.Bools.{bit, bit_back, by_cases}
use Rattle.lists.specs.Members.{◌∈◌}
use Rattle.lists.specs.Numbers.{up_to, up_to_in, in_up_to}
use Rattle.lists.specs.Rows.{row, row_at}
use Rattle.lists.specs.Fill.{fill-at}
use Rattle.lists.specs.Filling.{Filling, filling_is}
use Rattle.integers.specs.Multiples.{◌times◌}
use Rattle.graph.specs.declared.Graph.{Graph}
use Rattle.graph.specs.declared.refusals.Refusal.{Refusal}
use Rattle.graph.specs.Refusals.{number}
use Rattle.graph.specs.Limits.{max_edges}
use Rattle.graph.specs.Network.{Network, free, network}
use Rattle.graph.specs.Valid as value
use Rattle.tree_theory.specs.OneTree.{Edges, OneTree}
use Rattle.tree_theory.specs.Agree.{Agree}
use Rattle.tree_theory.specs.Arrays.{bytes, edge_in, network-valid, network_n}
use Rattle.tree_theory.specs.Inputs.{multiplier}
use Rattle.tree_theory.specs.Scaled.{scaled_by}
use Rattle.tree_theory.specs.Scaling.{valid_scaled}
use Rattle.tree_theory.specs.Enumeration.{no_tree, a_tree, least_tree}
use Rattle.tree_theory.specs.LeastTree.{Right, tree_right}
use Rattle.onetree.specs.Answers.{ruling_byte}
use Rattle.tours.specs.Tours.{degree, is_tour}
use Rattle.tours.specs.Tours as T
use Rattle.node.specs.Given.{Given, fault}
use Rattle.lifting.specs.Lifted.{ruling_with}
use Rattle.machine.specs.Machine.{Marks, lifts, applied, mark_by, shut, found, unclosed, pass_by, pass}
use Rattle.machine.specs.Laws.NodeTours.{applied-length}
use Rattle.tours.specs.Degrees.{degree_agree}
use Rattle.tours.specs.DegreeTest.{test_yes, test_no}
use Rattle.node.specs.declared.passes.Verdict.{Verdict}
use Rattle.node.specs.declared.passes.Verdict.TheVariants as verdict
use Rattle.node.specs.Marks.{byte_of, bytes_of_tour, bytes_of}
use Rattle.tours.specs.Counted.{DegreesTo, degree_all}
use Rattle.node.specs.Counting.{AllTwo, all_two, two-each}
use Rattle.node.specs.Marking.{mark_byte, mark_ruling}

-- ---- what the code of a pass shows

-- the bytes of a set of edges, "1 in, 0 out", zero past m
unfoldable pub tree_bytes : ℕ → Edges → List ℕ
unfolding bytes_of_tour row
tree_bytes m t = bytes_of_tour (row m t)

-- the tree is a tour, and w has its bytes
pub record FoundAs (lifting : Bool) (den : ℕ) (g : Graph) (d : List ℤ) (upper : ℤ) (w : List ℕ) : Type 0 where
  pub tour : Edges
  pub is : pass lifting (scaled_by den (network g)) (multiplier d) upper ≡ found tour
  pub bytes : w ≡ tree_bytes g.m tour

-- the tree is none: w has the bytes of the marks after the rulings, and the tree's degrees are known
pub record RuledAs (lifting : Bool) (den : ℕ) (g : Graph) (d : List ℤ) (upper : ℤ) (w degrees : List ℕ) : Type 0 where
  pub tree : Edges
  pub marks : Marks
  pub is : pass lifting (scaled_by den (network g)) (multiplier d) upper ≡ unclosed tree marks
  pub long : length marks ≡ g.m
  pub bytes : w ≡ bytes_of marks
  pub degree : (v : ℕ) → 1 ≤ v → v ≤ g.n → get_or degrees v 0 ≡ T.degree (network g) tree v

-- the upper bound in units of the multipliers
abbrev pub top_of : Given → ℤ
top_of o = o.settings.denominator times o.settings.ceiling

-- refused with its fault, or without one what the machine's pass is
abbrev pub VerdictIs : Given → Result Verdict Refusal → List ℕ → Type 0
VerdictIs o (Err r) w = (fault o ≡ number r) × (w ≡ o.graph.mark)
VerdictIs o (Ok verdict.Shut) w =
    (fault o ≡ 0) × (pass (lifts o.settings) (scaled_by o.settings.denominator (network o.graph)) (multiplier o.multipliers) (top_of o) ≡ shut)
VerdictIs o (Ok verdict.Found) w = (fault o ≡ 0) × FoundAs (lifts o.settings) o.settings.denominator o.graph o.multipliers (top_of o) w
VerdictIs o (Ok (verdict.Ruled live degrees)) w =
    (fault o ≡ 0) × RuledAs (lifts o.settings) o.settings.denominator o.graph o.multipliers (top_of o) w degrees × (live ≤ max_edges)

-- ---- the bytes of a tree

module _ (m : ℕ) (t : Edges) where
  pub tree-at : (k : ℕ) → k < m → k < max_edges → get_or (tree_bytes m t) k 0 ≡ bit (t (suc k))
  unfolding tree_bytes bytes_of_tour
  tree-at k h b = fill-at max_edges (λ i. bit (get_or (row m t) i false)) k 0 b ∙ ap bit (row_at m t k false h)

  -- read as a set it is the tree
  pub tree_agrees : m ≤ max_edges → Agree m (bytes (tree_bytes m t)) t
  tree_agrees few zero i = absurd (let z : 1 ≤ 0 = (in_up_to m zero i).0 in omega arith)
  tree_agrees few (suc k) i =
      let h : k < m = (in_up_to m (suc k) i).1 in
      ap (λ (x : ℕ). eqb x 1) (tree-at k h (omega arith)) ∙ bit_back (t (suc k))

-- ---- the machine's pass, by its cases

module _ (g : Network) (d : ℕ → ℤ) (upper b : ℤ) (t : Edges) (e : least_tree g d ≡ a_tree b t) where
  least_tree_lem : OneTree g t
  least_tree_lem = (subst (Right g d) e (tree_right g d)).1.tree

  pub pass-above : (lifting : Bool) → lt_z upper b ≡ true → pass lifting g d upper ≡ shut
  unfolding pass pass_by
  pass-above lifting h = rw (e, h)

  by_test : (lifting : Bool) → lt_z upper b ≡ false → (x : Bool) → is_tour g t ≡ x
      → pass lifting g d upper ≡ cond x (found t) (unclosed t (applied lifting g d upper))
  unfolding pass pass_by
  by_test lifting h x i = rw (e, h, i)

  pub pass_tour : (lifting : Bool) → lt_z upper b ≡ false → is_tour g t ≡ true → pass lifting g d upper ≡ found t
  pass_tour lifting h i = by_test lifting h true i

  pub pass-ruled : (lifting : Bool) → lt_z upper b ≡ false → is_tour g t ≡ false → pass lifting g d upper ≡ unclosed t (applied lifting g d upper)
  pass-ruled lifting h i = by_test lifting h false i

pub pass_none : (lifting : Bool) (g : Network) (d : ℕ → ℤ) (upper : ℤ) → least_tree g d ≡ no_tree → pass lifting g d upper ≡ shut
unfolding pass pass_by
pass_none lifting g d upper e = rw e

-- ---- from the bytes of a tree and of its rulings

module _ (lifting : Bool) (den : ℕ) (g : Graph) (valid : value.Valid g) (d : List ℤ) (upper b : ℤ) (t : Edges)
    (least : least_tree (scaled_by den (network g)) (multiplier d) ≡ a_tree b t) (low : lt_z upper b ≡ false)
    (w degrees : List ℕ) (tree : w ≡ tree_bytes g.m t) (counted : DegreesTo g.m g w degrees) where
  agrees : Agree (network g).m (bytes w) t
  agrees k i =
      let r = edge_in g k i in
      rw tree (tree_agrees g.m t valid.few k
      (subst (λ (j : ℕ). j ∈ up_to g.m) (sym r.2) (up_to_in g.m (suc r.0) (omega arith) r.1)))

  degrees_are : (v : ℕ) → v ≤ g.n → get_or degrees v 0 ≡ degree (scaled_by den (network g)) t v
  unfolding degree
  degrees_are v h =
      counted.at v (omega (arith, valid.high))
      ∙ degree_all g w v
      ∙ degree_agree (network g) (bytes w) t agrees v

  vertex : (v : ℕ) → v ∈ up_to (network g).n → v ∈ up_to g.n
  vertex v i = subst (λ (n : ℕ). v ∈ up_to n) (network_n g) i

  room : g.n < length degrees
  room = omega (arith, counted.size, valid.high)

  pub tree_found : AllTwo degrees g.n → FoundAs lifting den g d upper w
  tree_found h = record {
    tour = t;
    is = pass_tour (scaled_by den (network g)) (multiplier d) upper b t least lifting low tour;
    bytes = tree;
  }
    where
      tour : is_tour (scaled_by den (network g)) t ≡ true
      tour =
          test_yes (scaled_by den (network g)) (valid_scaled den (network g) (network-valid g valid)) t (least_tree_lem (scaled_by den (network g)) (multiplier d) upper b t least)
          (λ v i.
          sym (degrees_are v (in_up_to g.n v (vertex v i)).1)
          ∙ two-each degrees g.n room h v (vertex v i))

  module _ (rulings x : List ℕ)
      (ruled : (k : ℕ) → k < g.m → get_or rulings k 0 ≡ ruling_byte (ruling_with lifting (scaled_by den (network g)) (multiplier d) upper (suc k)))
      (made : Filling 0 max_edges g.m (λ k. mark_byte (get_or rulings k 0)) x) where
    marks : Marks
    marks = applied lifting (scaled_by den (network g)) (multiplier d) upper

    long : length marks ≡ g.m
    unfolding marks network
    long = applied-length lifting (scaled_by den (network g)) (multiplier d) upper

    mark_at_lem : (k : ℕ) → k < g.m → mark_byte (get_or rulings k 0) ≡ byte_of (get_or marks k free)
    unfolding marks applied network
    mark_at_lem k h =
        ap mark_byte (ruled k h)
        ∙ mark_ruling (ruling_with lifting (scaled_by den (network g)) (multiplier d) upper (suc k))
        ∙ ap byte_of (sym (row_at g.m (λ j. mark_by (ruling_with lifting (scaled_by den (network g)) (multiplier d) upper j)) k free h))

    marks-bytes : x ≡ bytes_of marks
    unfolding bytes_of
    marks-bytes =
        filling_is 0 max_edges (λ k. mark_byte (get_or rulings k 0)) g.m x (λ k. byte_of (get_or marks k free)) made mark_at_lem
        (λ k h. ap byte_of (get_or-eq_default marks free (omega (arith, long))))

    pub tree-ruled : (AllTwo degrees g.n → ⊥) → RuledAs lifting den g d upper x degrees
    unfolding marks
    tree-ruled h = record {
      tree = t;
      marks = marks;
      is = pass-ruled (scaled_by den (network g)) (multiplier d) upper b t least lifting low no_tour;
      long = long;
      bytes = marks-bytes;
      degree = λ v l i. unfold T.degree in degrees_are v i;
    }
      where
        -- a tour would have two edges at each vertex
        two : is_tour (scaled_by den (network g)) t ≡ true → (v : ℕ) → 1 ≤ v → v ≤ g.n → Dec (get_or degrees v 0 ≡ 2) → get_or degrees v 0 ≡ 2
        two i v a b (yes e) = e
        two i v a b (no e) =
            absurd (true≢false (sym i
            ∙ test_no (scaled_by den (network g)) (valid_scaled den (network g) (network-valid g valid)) t v
            (subst (λ (n : ℕ). v ∈ up_to n) (sym (network_n g)) (up_to_in g.n v a b))
            (λ k. e (degrees_are v b ∙ k))))

        no_tour : is_tour (scaled_by den (network g)) t ≡ false
        no_tour = by_cases (is_tour (scaled_by den (network g)) t)
            (λ i. absurd (h (all_two degrees g.n room (λ v a b. two i v a b (ℕ_discrete (get_or degrees v 0) 2))))) (λ i. i)
