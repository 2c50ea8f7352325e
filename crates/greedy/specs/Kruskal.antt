-- What the greedy choice over both queues of edges comes to: the least 1-tree where enough edges were taken and no required one was left
-- out, and otherwise there is none. Assumes nothing.
use Rattle.std.specs.Prelude.{◌≡◌, refl, ◌⊎◌, Bool, true, false, List, ◌++◌, ℕ, zero, suc, ◌+◌, ◌≤◌, length, get_or, ℤ}
use Rattle.std.proofs.Common.{◌∙◌, ap, inl, inr, true≢false, arith, eqb-true, eq-eqb}
use Rattle.std.proofs.Math.Path.{sym}
use Rattle.lists.specs.Members.{◌∈◌}
use Rattle.lists.specs.Select.{select, select-length}
use Rattle.lists.specs.Numbers.{up_to}
use Rattle.lists.specs.Weights.{weight}
use Rattle.graph.specs.declared.Graph.{Graph}
use Rattle.graph.specs.Network.{network}
use Rattle.graph.specs.Valid as value
use Rattle.spanning.specs.Components.{rank}
use Rattle.spanning.specs.Choice.{choose_in}
use Rattle.spanning.specs.FirstTwo.{fewer, fewer-length}
use Rattle.spanning.specs.Forests.{Forest, greedy, greedy-length}
use Rattle.spanning.specs.Kruskal.{rank_all}
use Rattle.tree_theory.specs.OneTree.{Edges, OneTree, Least}
use Rattle.tree_theory.specs.Inputs.{multiplier}
use Rattle.tree_theory.specs.Scaled.{scaled_by}
use Rattle.tree_theory.specs.Scaling.{valid_scaled, tree_scaled, order_scaled, chosen_scaled}
use Rattle.tree_theory.specs.Valid.{is_excluded, is_near, near, far, near_in, far_in}
use Rattle.tree_theory.specs.Optimal.Link.{to_parts}
use Rattle.tree_theory.specs.Optimal.Weight.{one_weight}
use Rattle.tree_theory.specs.Optimal.Minimum.{Chosen, chosen_least, chosen_weight, chosen_tree, chosen_must, chosen_none}
use Rattle.tree_theory.specs.Arrays.{entry, bytes, network_n, edge_in, network-valid}
use Rattle.greedy.specs.Charged.{offset, Charged, offs}
use Rattle.greedy.specs.Keys.{near_at, far_at, queued, queued-length}
use Rattle.greedy.specs.Growth.{TakenGreedily, near_taken, far_taken}
use Rattle.greedy.specs.Queue.{InKeyOrder, required_of, free_of, Queued, near-queued, far-queued}
use Rattle.greedy.specs.Required.{Small, required_first}

-- what the greedy choice took: of the edges away from vertex 1 and of those at it, each in the order of their keys, the tree, how many it took of the
-- first and what all weigh; and how many of each are required, which come first, and how many of the first join
pub record Choice (g : Graph) : Type 0 where
  pub charges : List ℕ
  pub keys : List ℕ
  pub count : ℕ
  pub order : InKeyOrder g (far_at g.a) charges keys count
  pub near_keys : List ℕ
  pub near_count : ℕ
  pub near_order : InKeyOrder g (near_at g.a) charges near_keys near_count
  pub tree : List ℕ
  pub far : ℕ
  pub sum : ℕ
  pub all : TakenGreedily (network g) charges (queued near_keys near_count) (queued keys count) tree far sum
  pub required : ℕ
  pub small : Small keys count required
  pub joined : ℕ
  pub first : joined ≡ rank (network g).a (network g).b (queued keys required)
  pub must : ℕ
  pub near_small : Small near_keys near_count must

-- enough edges were taken for a 1-tree, and no required one was left out
abbrev pub Whole : (g : Graph) → Choice g → Type 0
Whole g x = (2 ≤ x.near_count) × (x.far + 2 ≡ g.n) × (x.must ≤ 2) × (x.joined ≡ x.required)

module _ (g : Graph) (made : Choice g) where
  abbrev c : List ℕ
  c = made.charges

  -- the edges that were looked at: those at vertex 1, and the others
  abbrev xs : List ℕ
  xs = queued made.near_keys made.near_count

  abbrev es : List ℕ
  es = queued made.keys made.count

  abbrev w : List ℕ
  w = made.tree

  abbrev v : value.Valid g
  v = made.order.valid

  abbrev q₁ : Queued g c made.near_keys made.near_count (near (network g))
  q₁ = near-queued g c made.near_keys made.near_count made.near_order

  abbrev q₂ : Queued g c made.keys made.count (far (network g))
  q₂ = far-queued g c made.keys made.count made.order

  -- each was looked at as one of its kind
  near_looked : (e : ℕ) → e ∈ near_taken xs → e ∈ near (network g)
  near_looked e m = (rw q₁.splits at q₁.ordered.listing).back e (choose_in fewer xs e m)

  far_looked : (e : ℕ) → e ∈ far_taken (network g) es → e ∈ far (network g)
  unfolding greedy
  far_looked e m = (rw q₂.splits at q₂.ordered.listing).back e (choose_in _ es e m)

  -- an edge is taken as one at vertex 1 or as another
  abbrev Taken : ℕ → Type 0
  Taken e = (e ∈ near_taken xs) ⊎ (e ∈ far_taken (network g) es)

  pub bit_at : (k : ℕ) → (get_or w k 0 ≡ 0) ⊎ (get_or w k 0 ≡ 1)
  bit_at k = go (made.all.took.off k)
    where
      go : (get_or w k 0 ≡ 0) ⊎ Taken (suc k) → (get_or w k 0 ≡ 0) ⊎ (get_or w k 0 ≡ 1)
      go (inl e) = inl e
      go (inr m) = inr (made.all.took.on k m)

  taken : (k : ℕ) → get_or w k 0 ≡ 1 → Taken (suc k)
  taken k h = go (made.all.took.off k)
    where
      go : (get_or w k 0 ≡ 0) ⊎ Taken (suc k) → Taken (suc k)
      go (inl e) = absurd (let z : ◌≡◌ {A = ℕ} 0 1 = sym e ∙ h in omega arith)
      go (inr m) = m

  -- an edge that is taken is one of the graph's, and not excluded
  live : (e : ℕ) → Taken e → (e ∈ up_to (network g).m) × (is_excluded ((network g).mark e) ≡ false)
  live e (inl m) = let i = near_in (network g) e (near_looked e m) in (i.0, i.2)
  live e (inr m) = let i = far_in (network g) e (far_looked e m) in (i.0, i.2)

  pub past_none : (k : ℕ) → g.m ≤ k → get_or w k 0 ≡ 0
  past_none k h = go (made.all.took.off k)
    where
      go : (get_or w k 0 ≡ 0) ⊎ Taken (suc k) → get_or w k 0 ≡ 0
      go (inl e) = e
      go (inr m) = absurd (let r = edge_in g (suc k) (live (suc k) m).0 in omega (arith, r.1, r.2))

  taken_in : (e : ℕ) → Taken e → bytes w e ≡ true
  taken_in zero m =
      let r = edge_in g zero (live zero m).0 in
      absurd (let z : ◌≡◌ {A = ℕ} 0 (suc r.0) = r.2 in omega arith)
  taken_in (suc k) m = eq-eqb (get_or w k 0) 1 (made.all.took.on k m)

  in_taken : (e : ℕ) → bytes w e ≡ true → Taken e
  in_taken zero h = absurd (let z : ◌≡◌ {A = ℕ} 0 1 = eqb-true 0 1 h in omega arith)
  in_taken (suc k) h = taken k (eqb-true (get_or w k 0) 1 h)

  taken-near : (e : ℕ) → is_near (network g) e ≡ true → Taken e → e ∈ near_taken xs
  taken-near e a (inl m) = m
  taken-near e a (inr m) = absurd (true≢false (sym a ∙ (far_in (network g) e (far_looked e m)).1))

  taken-far : (e : ℕ) → is_near (network g) e ≡ false → Taken e → e ∈ far_taken (network g) es
  taken-far e a (inl m) = absurd (true≢false (sym (near_in (network g) e (near_looked e m)).1 ∙ a))
  taken-far e a (inr m) = m

  -- an excluded edge is not in
  out : (e : ℕ) → e ∈ up_to (network g).m → is_excluded ((network g).mark e) ≡ true → bytes w e ≡ false
  out e m x = go (bytes w e) refl
    where
      go : (b : Bool) → bytes w e ≡ b → bytes w e ≡ false
      go false h = h
      go true h = absurd (true≢false (sym x ∙ (live e (in_taken e h)).1))

  chosen : Chosen (network g) xs es (bytes w)
  chosen = record {
    in₁ = λ e m h. taken-near e (near_in (network g) e m).1 (in_taken e h);
    of₁ = λ e m. taken_in e (inl m);
    in₂ = λ e m h. taken-far e (far_in (network g) e m).1 (in_taken e h);
    of₂ = λ e m. taken_in e (inr m);
    none = out;
  }

  -- as the free edges and then the required ones
  chosen_split : Chosen (network g) (free_of g xs ++ required_of g xs) (free_of g es ++ required_of g es) (bytes w)
  chosen_split = rw (q₁.splits, q₂.splits) chosen

  -- what the edges that are in weigh
  pub weighs : made.sum ≡ weight (entry c) (select (bytes w) (up_to g.m))
  unfolding network
  weighs =
      made.all.weighed
      ∙ sym (rw (q₁.splits, q₂.splits) at
      (chosen_weight (network g) (one_weight (network g).m (entry c)) _ _ _ _ q₁.ordered q₂.ordered (bytes w) chosen_split
      (entry c)))

  -- the required edges at vertex 1, and the others
  must₁ : length (required_of g xs) ≡ made.must
  must₁ = rw (required_first g (near_at g.a) c made.near_keys made.near_count made.near_order made.must made.near_small)
      (queued-length made.near_keys made.must)

  must₂ : (made.joined ≡ rank (network g).a (network g).b (required_of g es)) × (length (required_of g es) ≡ made.required)
  must₂ = rw (required_first g (far_at g.a) c made.keys made.count made.order made.required made.small)
      (made.first, queued-length made.keys made.required)

  -- THE LEAST 1-TREE
  pub found : (q : ℕ) (d : List ℤ) → Charged q g d c → Whole g made → Least (scaled_by q (network g)) (multiplier d) (bytes w)
  unfolding Forest near far
  found q d ch h =
      chosen_least (scaled_by q (network g)) (multiplier d) offset (entry c) (offs q g d c ch) (valid_scaled q (network g) (network-valid g v))
      _ _ _ _ (order_scaled q (network g) _ _ _ _ q₁.ordered) (order_scaled q (network g) _ _ _ _ q₂.ordered) (bytes w)
      (chosen_scaled q (network g) _ _ (bytes w) chosen_split) (bytes w) ((tree_scaled q (network g) (bytes w)).1 tree)
    where
      full : made.far + 2 ≡ (network g).n
      full = h.1 ∙ sym (network_n g)

      far-length : length (far_taken (network g) es) ≡ rank (network g).a (network g).b es
      far-length = greedy-length (network g).a (network g).b es

      tree : OneTree (network g) (bytes w)
      tree =
          chosen_tree (network g) (one_weight (network g).m (entry c)) _ _ _ _
          q₁.ordered q₂.ordered (bytes w) chosen_split (network-valid g v)
          (rw q₂.splits (omega (arith, full, far-length, made.all.joined)))
          (rw q₁.splits (omega (arith, fewer-length xs, queued-length made.near_keys made.near_count, h.0)))
          (omega (arith, must₁, h.2))
          (omega (arith, must₂.0, must₂.1, h.3))

  -- OR NONE AT ALL
  pub missing : (q : ℕ) → ¬ Whole g made → (t : Edges) → ¬ OneTree (scaled_by q (network g)) t
  unfolding Forest
  missing q never t o =
      chosen_none (network g) (one_weight (network g).m (entry c)) _ _ _ _
      q₁.ordered q₂.ordered (bytes w) chosen_split (network-valid g v)
      (λ o. never (enough o, spans o, omega (arith, must₁, (must o).0), omega (arith, must₂.0, must₂.1, (must o).1)))
      t ((tree_scaled q (network g) t).0 o)
    where
      enough : OneTree (network g) (bytes w) → 2 ≤ made.near_count
      enough o =
          let two = (to_parts (network g) (network-valid g v) (bytes w) o).two in
          omega (arith, two, select-length (bytes w) (near (network g)), q₁.size)

      spans : OneTree (network g) (bytes w) → made.far + 2 ≡ g.n
      spans o =
          let full = (to_parts (network g) (network-valid g v) (bytes w) o).span in
          let all = rank_all (network g).a (network g).b (far (network g)) (free_of g es ++ required_of g es) q₂.ordered.listing in
          omega (arith, full, made.all.joined, ap (rank (network g).a (network g).b) q₂.splits, all, network_n g)

      must : OneTree (network g) (bytes w)
          → (length (required_of g xs) ≤ 2) × (rank (network g).a (network g).b (required_of g es) ≡ length (required_of g es))
      must =
          chosen_must (network g) (one_weight (network g).m (entry c)) _ _ _ _
          q₁.ordered q₂.ordered (bytes w) chosen_split (network-valid g v)
