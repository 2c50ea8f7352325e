-- What the loops look for is what may be swapped: at vertex 1 the free edges there, elsewhere the free edges of the circle, and for a free
-- edge of the tree the free edges outside whose circle it is on. Assumes nothing.
use Rattle.std.specs.Prelude.{◌≡◌, refl, ◌≢◌, ◌⊎◌, List, ℕ, zero, suc, ◌+◌, ◌<◌, ◌≤◌, length, get_or, set}
use Rattle.std.proofs.Common.{◌∙◌, sym, subst, inl, inr, arith, get_or-set_same, get_or-set_other}
use Rattle.std.proofs.Math.Path.{ap}
use Rattle.std.proofs.Math.Decide.{ℕ_discrete}
use Rattle.graph.specs.declared.Graph.{Graph}
use Rattle.graph.specs.Network.{network}
use Rattle.graph.specs.Valid as value
use Rattle.tree_theory.specs.OneTree.{OneTree}
use Rattle.tree_theory.specs.Arrays.{bytes}
use Rattle.swaps.specs.Extremes.{
  Largest,
  Least,
  Taken,
  largest_none,
  largest_skip,
  largest_more,
  least_none,
  least_skip,
  least_more,
  largest_as,
  least_as,
}
use Rattle.swaps.specs.Visiting.{Rooting, depth_at, edge_at, Lined}
use Rattle.swaps.specs.Climbing.{Climbed, Reached}
use Rattle.swaps.specs.RootedTree.{RootedIn, shape, label_of}
use Rattle.swaps.specs.Swaps.{Swaps, SamePlace, a_at, b_at, mark_at, Through, Below, over_in, over_once}
use Rattle.greedy.specs.Charged.{no_charge}
use Rattle.onetree.specs.Verdicts.{charge_at, Gives, Comes}

-- ---- at vertex 1

abbrev pub NearIn : List ℕ → List ℕ → List ℕ → ℕ → Type 0
NearIn a mark w k = (get_or a k 0 ≡ 1) × (get_or mark k 0 ≡ 0) × (get_or w k 0 ≡ 1)

abbrev pub NearOut : List ℕ → List ℕ → List ℕ → ℕ → Type 0
NearOut a mark w k = (get_or a k 0 ≡ 1) × (get_or mark k 0 ≡ 0) × (get_or w k 0 ≢ 1)

-- the dearest of those in the tree and the cheapest of those outside it, among the first n
pub record NearIs (a mark w c : List ℕ) (dearest cheapest n : ℕ) : Type 0 where
  pub dear : Largest (NearIn a mark w) (charge_at c) n dearest
  pub cheap : Least (NearOut a mark w) (charge_at c) no_charge n cheapest

pub near_none : (a mark w c : List ℕ) → NearIs a mark w c 0 no_charge 0
near_none a mark w c = record { dear = largest_none (NearIn a mark w) (charge_at c); cheap = least_none (NearOut a mark w) (charge_at c) no_charge }

module _ (a mark w c : List ℕ) (dearest cheapest n : ℕ) (h : NearIs a mark w c dearest cheapest n) where
  pub near_skip : (get_or a n 0 ≡ 1 → get_or mark n 0 ≡ 0 → ⊥) → NearIs a mark w c dearest cheapest (n + 1)
  near_skip f = record {
    dear = largest_skip (NearIn a mark w) (charge_at c) n dearest h.dear (λ p. f p.0 p.1);
    cheap = least_skip (NearOut a mark w) (charge_at c) no_charge n cheapest h.cheap (λ p. f p.0 p.1);
  }

  module _ (one : get_or a n 0 ≡ 1) (free : get_or mark n 0 ≡ 0) where
    pub near_in : (x : ℕ) → get_or w n 0 ≡ 1 → dearest ≤ x → charge_at c n ≤ x → (x ≡ dearest) ⊎ (x ≡ charge_at c n)
        → NearIs a mark w c x cheapest (n + 1)
    near_in x e l r q = record {
      dear = largest_more (NearIn a mark w) (charge_at c) n dearest x h.dear (one, free, e) l r q;
      cheap = least_skip (NearOut a mark w) (charge_at c) no_charge n cheapest h.cheap (λ p. p.2 e);
    }

    pub near_out : (x : ℕ) → get_or w n 0 ≢ 1 → x ≤ cheapest → x ≤ charge_at c n → (x ≡ cheapest) ⊎ (x ≡ charge_at c n)
        → NearIs a mark w c dearest x (n + 1)
    near_out x e l r q = record {
      dear = largest_skip (NearIn a mark w) (charge_at c) n dearest h.dear (λ p. e p.2);
      cheap = least_more (NearOut a mark w) (charge_at c) no_charge n cheapest x h.cheap (one, free, e) l r q;
    }

-- ---- weights on the circle

-- v is a label at a place of the queue before k, and not at the first, which is the root's
abbrev pub BelowRoot : List ℕ → ℕ → ℕ → Type 0
BelowRoot queue k v = (j : ℕ) × (1 ≤ j) × (j < k) × (get_or queue j 0 ≡ v)

-- the queue without the root
pub record AfterRoot (queue : List ℕ) (count : ℕ) (rest : List ℕ) : Type 0 where
  pub long : length rest + 1 ≡ count
  pub same : (i : ℕ) → i < length rest → get_or rest i 0 ≡ get_or queue (i + 1) 0

-- the label at place k is the only one more that stands before k + 1
pub before_last : (queue : List ℕ) (k v j : ℕ) → j < k + 1 → get_or queue j 0 ≡ v → v ≢ get_or queue k 0 → j < k
before_last queue k v j l e f = go (ℕ_discrete j k)
  where
    go : Dec (j ≡ k) → j < k
    go (yes q) = absurd (f (sym e ∙ ap (λ (i : ℕ). get_or queue i 0) q))
    go (no q) = omega arith

-- the labels of the whole queue are those that hang below the root
module _ (r : Rooting) (queue : List ℕ) (count : ℕ) (l : Lined r.depth queue count) where
  pub queue_below : ((v : ℕ) → 1 ≤ depth_at r v → 2 ≤ v) → (v : ℕ) → BelowRoot queue count v → Below r v
  queue_below low v (j, i, h, e) =
      let d : 1 ≤ depth_at r v = rw e at (l.hangs j h) in
      let f = l.others j i h in
      (omega (arith, low v d, e), d)

  pub below_queue : (v : ℕ) → Below r v → BelowRoot queue count v
  below_queue v (low, d) = let p = l.each v d in (p.0, after p.0 p.2, p.1, p.2)
    where
      after : (j : ℕ) → get_or queue j 0 ≡ v → 1 ≤ j
      after zero e = absurd (omega (arith, l.first.1))
      after (suc j) e = omega arith

-- each label of a kind weighs what the edge above it is charged
abbrev pub Weighed : (ℕ → Type 0) → List ℕ → List ℕ → List ℕ → Type 0
Weighed P c edge weight = (v : ℕ) → P v → get_or weight v 0 ≡ charge_at c (get_or edge v 0)

-- the label u at place k is weighed
pub weighed_more : (queue c edge weight : List ℕ) (k u : ℕ) → u ≡ get_or queue k 0 → Weighed (BelowRoot queue k) c edge weight → (x : ℕ)
    → u < length weight → x ≡ charge_at c (get_or edge u 0) → Weighed (BelowRoot queue (k + 1)) c edge (set weight u x)
weighed_more queue c edge weight k u is h x room e v (j, i, l, at) = go (ℕ_discrete v u)
  where
    go : Dec (v ≡ u) → get_or (set weight u x) v 0 ≡ charge_at c (get_or edge v 0)
    go (yes q) = rw q (get_or-set_same weight u x 0 room ∙ e)
    go (no q) = get_or-set_other weight u v x 0 q ∙ h v (j, i, before_last queue k v j l at (λ z. q (z ∙ sym is)), at)

-- the edge at place i is free, outside the tree, and its circle goes through the edge above v
abbrev pub Crosses : Graph → List ℕ → List ℕ → Rooting → ℕ → ℕ → Type 0
Crosses g w rep r v i = (a_at g i ≢ 1) × (get_or w i 0 ≢ 1) × (mark_at g i ≡ 0) × Through g rep r v i

near-place : (g : Graph) (rep : List ℕ) (r : Rooting) (i k : ℕ) → SamePlace g rep r i k → a_at g k ≡ 1 → a_at g i ≡ 1
near-place g rep r i k (inl p) e = p.0
near-place g rep r i k (inr p) e = absurd (p.1 e)

place-near : (g : Graph) (rep : List ℕ) (r : Rooting) (i k : ℕ) → SamePlace g rep r i k → a_at g i ≡ 1 → a_at g k ≡ 1
place-near g rep r i k (inl p) e = p.1
place-near g rep r i k (inr p) e = absurd (p.0 e)

-- ---- the edge at place k is at vertex 1

module _ (g : Graph) (w c rep : List ℕ) (r : Rooting) (k : ℕ) (one : a_at g k ≡ 1) (free : mark_at g k ≡ 0) where
  pub near_gives : (x : ℕ) → Largest (NearIn g.a g.mark w) (charge_at c) g.m x → Largest (Gives g w rep r k) (charge_at c) g.m x
  near_gives x = largest_as (NearIn g.a g.mark w) (Gives g w rep r k) (charge_at c) g.m x
      (λ i h p. (p.2, record { loose = p.1; allowed = free; place = inl (p.0, one) }))
      (λ i h p. (near-place g rep r i k p.1.place one, p.1.loose, p.0))

  pub near_comes : (x : ℕ) → Least (NearOut g.a g.mark w) (charge_at c) no_charge g.m x
      → Least (Comes g w rep r k) (charge_at c) no_charge g.m x
  near_comes x = least_as (NearOut g.a g.mark w) (Comes g w rep r k) (charge_at c) g.m x
      (λ i h p. (p.2, record { loose = free; allowed = p.1; place = inl (one, p.0) }))
      (λ i h p. (place-near g rep r k i p.1.place one, p.1.allowed, p.0)) no_charge

-- ---- it is not

module _ (g : Graph) (v : value.Valid g) (w c : List ℕ) (o : OneTree (network g) (bytes w)) (rep : List ℕ) (r : Rooting)
    (t : RootedIn g w rep r) (k : ℕ) (away : a_at g k ≢ 1) (free : mark_at g k ≡ 0) where
  on_circle : (i : ℕ) → SamePlace g rep r i k → (u : ℕ) × Below r u × (edge_at r u ≡ i) × Through g rep r u k
  on_circle i (inl p) = absurd (away p.1)
  on_circle i (inr p) = p.2

  pub far_gives : (weight old lows : List ℕ) (x y : ℕ) → Weighed (Below r) c r.edge weight
      → Climbed (shape r.parent r.depth) (λ u. get_or weight u 0) old y (label_of rep (a_at g k)) (label_of rep (b_at g k)) x lows
      → Largest (Gives g w rep r k) (charge_at c) g.m x
  unfolding network
  far_gives weight old lows x y f m = record { all = λ i h p. most i (on_circle i p.1.place); best = go m.best }
    where
      most : (i : ℕ) → (u : ℕ) × Below r u × (edge_at r u ≡ i) × Through g rep r u k → charge_at c i ≤ x
      most i u = omega (arith, (m.passed u.0 u.3).0, f u.0 u.1, ap (charge_at c) u.2)

      go : Reached (shape r.parent r.depth) (λ u. get_or weight u 0) (label_of rep (a_at g k)) (label_of rep (b_at g k)) x
          → Taken (Gives g w rep r k) (charge_at c) 0 g.m x
      go (inl e) = inl e
      go (inr q) =
          let at = over_in g v w o rep r t q.0 q.1 in
          let swaps : Swaps g rep r (edge_at r q.0) k = record {
            loose = at.3;
            allowed = free;
            place = inr (at.2, away, (q.0, q.1, refl, q.2));
          } in inr (edge_at r q.0, at.0, (at.1, swaps), sym (f q.0 q.1) ∙ q.3)

  pub far_comes : (u x : ℕ) → Below r u → edge_at r u ≡ k → Least (Crosses g w rep r u) (charge_at c) no_charge g.m x
      → Least (Comes g w rep r k) (charge_at c) no_charge g.m x
  far_comes u x b e = least_as (Crosses g w rep r u) (Comes g w rep r k) (charge_at c) g.m x
      (λ i h p. (p.1, record { loose = free; allowed = p.2; place = inr (away, p.0, (u, b, e, p.3)) }))
      (λ i h p. there i p p.1.place) no_charge
    where
      there : (i : ℕ) → Comes g w rep r k i → SamePlace g rep r k i → Crosses g w rep r u i
      there i p (inl q) = absurd (away q.0)
      there i p (inr q) = (q.1, p.0, p.1.allowed, subst (λ (y : ℕ). Through g rep r y i) same q.2.3)
        where
          same : q.2.0 ≡ u
          same = over_once g v w o rep r t q.2.0 u q.2.1 b (q.2.2 ∙ sym e)
