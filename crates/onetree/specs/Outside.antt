-- The loop over the free edges, but for those of the tree away from vertex 1. Outside the tree each is judged against the dearest edge that
-- may give way to it, and offered to every edge of its circle; in the tree, at vertex 1, against the cheapest that may come in. Assumes
-- nothing.
use Rattle.std.specs.Prelude.{◌≡◌, refl, ◌≢◌, ◌⊎◌, Bool, true, false, cond, List, ℕ, suc, ◌+◌, ◌<◌, ◌≤◌, length, get_or, set, replicate, eqb}
use Rattle.std.proofs.Common.{◌∙◌, sym, subst, inl, inr, true≢false, arith, length-set, get_or-set_same, get_or-set_other, eq-eqb, ne_eqb}
use Rattle.std.proofs.Math.Decide.{ℕ_discrete}
use Rattle.std.proofs.lemmas.List.{length-replicate, get_or-replicate}
use Rattle.lists.specs.Fill.{replicate-at}
use Rattle.graph.specs.declared.Graph.{Graph}
use Rattle.graph.specs.Limits.{max_edges}
use Rattle.graph.specs.Network.{network}
use Rattle.graph.specs.Valid.{Valid}
use Rattle.tree_theory.specs.OneTree.{OneTree}
use Rattle.tree_theory.specs.Arrays.{blank, bytes}
use Rattle.swaps.specs.Extremes.{Largest, Least, least_none, least_skip, least_more}
use Rattle.swaps.specs.Visiting.{Rooting}
use Rattle.swaps.specs.Hanging.{Shape, above}
use Rattle.swaps.specs.Climbing.{Climbed, Fresh}
use Rattle.swaps.specs.RootedTree.{RootedIn, shape, label_of}
use Rattle.swaps.specs.Swaps.{a_at, b_at, mark_at, Through, Below}
use Rattle.greedy.specs.Charged.{no_charge}
use Rattle.onetree.specs.Verdicts.{charge_at, Gives, bar_byte, force_byte}
use Rattle.onetree.specs.Candidates.{NearIs, Crosses, Weighed, near_gives, far_gives}

-- what the loop rests on: the tree, hung, the weights of its edges, and the dearest and the cheapest at vertex 1
pub record Ready (g : Graph) (w c rep : List ℕ) (r : Rooting) (weight : List ℕ) (dearest near : ℕ) : Type 0 where
  pub valid : Valid g
  pub tree : OneTree (network g) (bytes w)
  pub rooted : RootedIn g w rep r
  pub weights : Weighed (Below r) c r.edge weight
  pub one : NearIs g.a g.mark w c dearest near g.m

-- the byte of a free edge at vertex 1, by whether it is in the tree
unfoldable pub near_byte : ℕ → ℕ → ℕ → ℕ → ℕ → ℕ
unfolding force_byte bar_byte
near_byte x dearest near c slack = cond (eqb x 1) (force_byte near c slack) (bar_byte dearest c slack)

near_in_byte : (x dearest near c slack : ℕ) → x ≡ 1 → near_byte x dearest near c slack ≡ force_byte near c slack
unfolding near_byte
near_in_byte x dearest near c slack e = rw (eq-eqb x 1 e)

near_out_byte : (x dearest near c slack : ℕ) → x ≢ 1 → near_byte x dearest near c slack ≡ bar_byte dearest c slack
unfolding near_byte
near_out_byte x dearest near c slack e = rw (ne_eqb x 1 e)

-- the byte x of the edge at place j is that of the dearest edge that may give way to it
abbrev pub Barring : Graph → List ℕ → List ℕ → List ℕ → Rooting → ℕ → ℕ → ℕ → Type 0
Barring g w c rep r slack j x = (top : ℕ) × Largest (Gives g w rep r j) (charge_at c) g.m top × (x ≡ bar_byte top (charge_at c j) slack)

-- the edges below k have been judged, and the others have no byte
pub record RuledOutside (g : Graph) (w c rep : List ℕ) (r : Rooting) (near slack : ℕ) (out lows : List ℕ) (k : ℕ) : Type 0 where
  pub bars : (j : ℕ) → j < k → get_or w j 0 ≢ 1 → mark_at g j ≡ 0 → Barring g w c rep r slack j (get_or out j 0)
  pub forces : (j : ℕ) → j < k → a_at g j ≡ 1 → get_or w j 0 ≡ 1 → mark_at g j ≡ 0 → get_or out j 0 ≡ force_byte near (charge_at c j) slack
  pub least : (u : ℕ) → Below r u → Least (Crosses g w rep r u) (charge_at c) no_charge k (get_or lows u 0)
  pub rest : (j : ℕ) → k ≤ j → get_or out j 0 ≡ 0
  pub long : (length out ≡ max_edges) × (length lows ≡ 21)

pub outside_none : (g : Graph) (w c rep : List ℕ) (r : Rooting) (near slack : ℕ) → RootedIn g w rep r
    → RuledOutside g w c rep r near slack blank (replicate 21 no_charge) 0
outside_none g w c rep r near slack t = record {
  bars = λ j h. absurd (let z : suc j ≤ 0 = h in omega arith);
  forces = λ j h. absurd (let z : suc j ≤ 0 = h in omega arith);
  least = λ u b. subst (λ (x : ℕ). Least (Crosses g w rep r u) (charge_at c) no_charge 0 x)
      (sym (get_or-replicate 21 u no_charge 0 (omega (arith, t.hangs.room u b.1))))
      (least_none (Crosses g w rep r u) (charge_at c) no_charge);
  rest = λ j h. replicate-at max_edges 0 j;
  long = (length-replicate {A = ℕ} max_edges 0, length-replicate {A = ℕ} 21 no_charge);
}

through? : (x y : Bool) → Dec (x ≢ y)
through? true true = no (λ f. f refl)
through? true false = yes true≢false
through? false true = yes (λ e. true≢false (sym e))
through? false false = no (λ f. f refl)

module _ (g : Graph) (w c rep : List ℕ) (r : Rooting) (weight : List ℕ) (dearest near : ℕ) (ready : Ready g w c rep r weight dearest near)
    (slack : ℕ) (out lows : List ℕ) (k : ℕ) (hk : k < g.m) (h : RuledOutside g w c rep r near slack out lows k) where
  -- an edge that is not free, or one of the tree away from vertex 1
  pub outside_skip : (mark_at g k ≡ 0 → (a_at g k ≢ 1) × (get_or w k 0 ≡ 1)) → RuledOutside g w c rep r near slack out lows (k + 1)
  outside_skip f = record {
    bars = λ j l a b. bars_at j l a b (ℕ_discrete j k);
    forces = λ j l e a b. forces_at j l e a b (ℕ_discrete j k);
    least = λ u b. least_skip (Crosses g w rep r u) (charge_at c) no_charge k (get_or lows u 0) (h.least u b) (λ p. p.1 (f p.2).1);
    rest = λ j l. h.rest j (omega arith);
    long = h.long;
  }
    where
      bars_at : (j : ℕ) → j < k + 1 → get_or w j 0 ≢ 1 → mark_at g j ≡ 0 → Dec (j ≡ k) → Barring g w c rep r slack j (get_or out j 0)
      bars_at j l a b (yes e) = absurd ((rw e at a) (f (rw e at b)).1)
      bars_at j l a b (no e) = h.bars j (omega arith) a b

      forces_at : (j : ℕ) → j < k + 1 → a_at g j ≡ 1 → get_or w j 0 ≡ 1 → mark_at g j ≡ 0 → Dec (j ≡ k)
          → get_or out j 0 ≡ force_byte near (charge_at c j) slack
      forces_at j l o a b (yes e) = absurd ((f (rw e at b)).0 (rw e at o))
      forces_at j l o a b (no e) = h.forces j (omega arith) o a b

  room : k < length out
  room = omega (arith, h.long.0, ready.valid.few)

  bars_with : (x : ℕ) → (get_or w k 0 ≢ 1 → Barring g w c rep r slack k x)
      → (j : ℕ) → j < k + 1 → get_or w j 0 ≢ 1 → mark_at g j ≡ 0 → Barring g w c rep r slack j (get_or (set out k x) j 0)
  bars_with x new j l a b = go (ℕ_discrete j k)
    where
      go : Dec (j ≡ k) → Barring g w c rep r slack j (get_or (set out k x) j 0)
      go (yes e) =
          subst (λ (i : ℕ). Barring g w c rep r slack i (get_or (set out k x) i 0)) (sym e)
          (rw (get_or-set_same out k x 0 room) (new (rw e at a)))
      go (no e) = rw (get_or-set_other out k j x 0 e) (h.bars j (omega arith) a b)

  forces_with : (x : ℕ) → (a_at g k ≡ 1 → get_or w k 0 ≡ 1 → x ≡ force_byte near (charge_at c k) slack)
      → (j : ℕ) → j < k + 1 → a_at g j ≡ 1 → get_or w j 0 ≡ 1 → mark_at g j ≡ 0 → get_or (set out k x) j 0 ≡ force_byte near (charge_at c j) slack
  forces_with x new j l o a b = go (ℕ_discrete j k)
    where
      go : Dec (j ≡ k) → get_or (set out k x) j 0 ≡ force_byte near (charge_at c j) slack
      go (yes e) = rw e (get_or-set_same out k x 0 room ∙ new (rw e at o) (rw e at a))
      go (no e) = get_or-set_other out k j x 0 e ∙ h.forces j (omega arith) o a b

  rest_with : (x j : ℕ) → k + 1 ≤ j → get_or (set out k x) j 0 ≡ 0
  rest_with x j l = get_or-set_other out k j x 0 (λ e. omega arith) ∙ h.rest j (omega arith)

  -- an edge at vertex 1
  pub outside-near : (x : ℕ) → a_at g k ≡ 1 → mark_at g k ≡ 0 → x ≡ near_byte (get_or w k 0) dearest near (charge_at c k) slack
      → RuledOutside g w c rep r near slack (set out k x) lows (k + 1)
  outside-near x one free e = record {
    bars = bars_with x (λ f. (
      dearest,
      near_gives g w c rep r k one free dearest ready.one.dear,
      e ∙ near_out_byte (get_or w k 0) dearest near (charge_at c k) slack f,
    ));
    forces = forces_with x (λ o f. e ∙ near_in_byte (get_or w k 0) dearest near (charge_at c k) slack f);
    least = λ u b. least_skip (Crosses g w rep r u) (charge_at c) no_charge k (get_or lows u 0) (h.least u b) (λ p. p.0 one);
    rest = rest_with x;
    long = (length-set out k x ∙ h.long.0, h.long.1);
  }

  -- another, whose ends have climbed to their meeting
  pub outside-far : (x top : ℕ) (lows' : List ℕ) → a_at g k ≢ 1 → get_or w k 0 ≢ 1 → mark_at g k ≡ 0
      → Climbed (shape r.parent r.depth) (λ u. get_or weight u 0) lows (charge_at c k) (label_of rep (a_at g k))
      (label_of rep (b_at g k)) top lows'
      → x ≡ bar_byte top (charge_at c k) slack → RuledOutside g w c rep r near slack (set out k x) lows' (k + 1)
  outside-far x top lows' away outer free m e = record {
    bars = bars_with x (λ f. (top, dear, e));
    forces = forces_with x (λ o f. absurd (away o));
    least = λ u b. least_at u b (through? (above sh u (label_of rep (a_at g k))) (above sh u (label_of rep (b_at g k)))) (m.fresh u);
    rest = rest_with x;
    long = (length-set out k x ∙ h.long.0, m.long);
  }
    where
      sh : Shape
      sh = shape r.parent r.depth

      dear : Largest (Gives g w rep r k) (charge_at c) g.m top
      dear = far_gives g ready.valid w c ready.tree rep r ready.rooted k away free weight lows lows' top (charge_at c k)
          ready.weights m

      least_at : (u : ℕ) → Below r u → Dec (Through g rep r u k)
          → Fresh (shape r.parent r.depth) lows (charge_at c k) (label_of rep (a_at g k)) (label_of rep (b_at g k)) lows' u
          → Least (Crosses g w rep r u) (charge_at c) no_charge (k + 1) (get_or lows' u 0)
      least_at u b (yes a) q = least_more (Crosses g w rep r u) (charge_at c) no_charge k (get_or lows u 0) (get_or lows' u 0) (h.least u b)
          (away, outer, free, a) (m.lower u) (m.passed u a).1 (pick q)
        where
          pick : Fresh (shape r.parent r.depth) lows (charge_at c k) (label_of rep (a_at g k)) (label_of rep (b_at g k)) lows' u
              → (get_or lows' u 0 ≡ get_or lows u 0) ⊎ (get_or lows' u 0 ≡ charge_at c k)
          pick (inl p) = inl p
          pick (inr p) = inr p.0
      least_at u b (no a) (inl q) =
          rw q (least_skip (Crosses g w rep r u) (charge_at c) no_charge k (get_or lows u 0) (h.least u b) (λ p. a p.3))
      least_at u b (no a) (inr q) = absurd (a q.1)
