-- The tours of a node: what its marks allow, place by place; a tour is a 1-tree whose bound is its cost, whatever the multipliers. (That the rulings of
-- a pass lose no tour within the upper bound: proofs/Applied. The tours as a problem of branch and bound: proofs/NodeTours.)
use Rattle.std.specs.Prelude.{◌≡◌, ◌⊎◌, Bool, length, ℤ, ◌≤ℤ◌, ◌<ℤ◌}
use Rattle.std.proofs.Math.Path.{refl, ap, subst}
use Rattle.std.proofs.Common.{sym, ◌∙◌}
use Rattle.std.proofs.Math.Logic.{inl, inr}
use Rattle.std.proofs.Math.Bool.{true, false}
use mathlib.Core.List.{List, [], ◌∷◌}
use Prim.Native.Nat.{ℕ, suc, ◌<◌}
use Rattle.std.proofs.Math.ListN.{get_or}
use Rattle.std.specs.Int.Signed.{≤ℤ_refl}
use Rattle.lists.specs.Members.{◌∈◌}
use Rattle.lists.specs.Select.{select_cong}
use Rattle.lists.specs.Numbers.{up_to}
use Rattle.lists.specs.Rows.{row-size}
use Rattle.integers.specs.Order.{le_trans, lt-le}
use Rattle.integers.specs.Sums.{sum_z}
use Rattle.graph.specs.Network.{Network, Mark, free, required, excluded}
use Rattle.tree_theory.specs.OneTree.{Edges, others, OneTree, bound, lacks_first}
use Rattle.tree_theory.specs.Agree.{Agree}
use Rattle.tree_theory.specs.Valid.{Valid}
use Rattle.tree_theory.specs.Arrays.{edge_of, of_edge}
use Rattle.tours.specs.Tours.{Joined, Trip, Tour, Allowed, cost}
use Rattle.machine.specs.Machine.{Marks, with_marks, applied, edges_of, cost_of, lowered}
use Rattle.tours.specs.TourTree.{tour_tree, bound_is_cost}

-- ---- a mark lets an edge be in (true) or out (false)

abbrev pub Agrees : Mark → Bool → Type 0
Agrees free b = Unit {0}
Agrees required b = (b ≡ true)
Agrees excluded b = (b ≡ false)

pub allowed_agrees : (g : Network) (t : Edges) → Allowed g t → (k : ℕ) → k ∈ up_to g.m → Agrees (g.mark k) (t k)
allowed_agrees g t al k m = go (g.mark k) refl
  where
    go : (x : Mark) → g.mark k ≡ x → Agrees x (t k)
    go free e = tt
    go required e = al.keeps k m e
    go excluded e = al.avoids k m e

pub agrees_allowed : (g : Network) (t : Edges) → ((k : ℕ) → k ∈ up_to g.m → Agrees (g.mark k) (t k)) → Allowed g t
agrees_allowed g t h = record {
  keeps = λ k m e. subst (λ (x : Mark). Agrees x (t k)) e (h k m);
  avoids = λ k m e. subst (λ (x : Mark). Agrees x (t k)) e (h k m);
}

-- a set counts only as far as the edges go
module _ (g : Network) (s t : Edges) (same : Agree g.m s t) where
  joined_agree : (u v : ℕ) → Joined g t u v → Joined g s u v
  joined_agree u v j =
      record { edge = j.edge; listed = j.listed; taken = same j.edge j.listed ∙ j.taken; ends = j.ends }

  trip_agree : (u : ℕ) (vs : List ℕ) (w : ℕ) → Trip g t u vs w → Trip g s u vs w
  trip_agree u [] w j = joined_agree u w j
  trip_agree u (v ∷ vs) w j = (joined_agree u v j.0, trip_agree v vs w j.1)

  pub tour_agree : Tour g t → Tour g s
  tour_agree o = record {
    number = ap length (select_cong s t (up_to g.m) same) ∙ o.number;
    order = o.order;
    once = o.once;
    calls = o.calls;
    trip = trip_agree 1 o.order 1 o.trip;
  }

  pub cost_agree : cost g s ≡ cost g t
  unfolding cost
  cost_agree = ap (sum_z g.cost) (select_cong s t (up_to g.m) same)

-- ---- a network with other marks

pub valid-marks : (g : Network) (x : Marks) → Valid g → Valid (with_marks g x)
unfolding with_marks
valid-marks g x v = record { big = v.big; low = v.low; apart = v.apart; high = v.high }

-- a tour is one whatever the costs and marks are
module _ (g h : Network) (t : Edges) (m : h.m ≡ g.m) (a : h.a ≡ g.a) (b : h.b ≡ g.b) where
  joined_other : (u v : ℕ) → Joined g t u v → Joined h t u v
  joined_other u v j = record { edge = j.edge; listed = rw m j.listed; taken = j.taken; ends = rw (a, b) j.ends }

  trip_other : (u : ℕ) (vs : List ℕ) (w : ℕ) → Trip g t u vs w → Trip h t u vs w
  trip_other u [] w j = joined_other u w j
  trip_other u (v ∷ vs) w j = (joined_other u v j.0, trip_other v vs w j.1)

  pub tour_other : h.n ≡ g.n → Tour g t → Tour h t
  unfolding others
  tour_other n o = record {
    number = rw (m, n) o.number;
    order = o.order;
    once = o.once;
    calls = λ v. rw n (o.calls v);
    trip = trip_other 1 o.order 1 o.trip;
  }

pub tour_marks : (g : Network) (x : Marks) (t : Edges) → Tour g t → Tour (with_marks g x) t
unfolding with_marks
tour_marks g x t o = tour_other g (with_marks g x) t refl refl refl refl o

pub marks_tour : (g : Network) (x : Marks) (t : Edges) → Tour (with_marks g x) t → Tour g t
unfolding with_marks
marks_tour g x t o = tour_other (with_marks g x) g t refl refl refl refl o

-- ---- the tours of a node, and the problem that document 01's search solves

pub record Inside (g : Network) (t : Edges) (x : Marks) : Type 0 where
  pub tour : Tour g t
  pub allowed : Allowed (with_marks g x) t

-- s costs less than t, or as much and comes first
abbrev pub Before : Network → Edges → Edges → Type 0
Before g s t = (cost g s <ℤ cost g t) ⊎ ((cost g s ≡ cost g t) × (lacks_first g.m s t ≡ true))

-- and where it does neither
abbrev pub NotBefore : Network → Edges → Edges → Type 0
NotBefore g s t = (cost g t <ℤ cost g s) ⊎ ((cost g s ≡ cost g t) × (lacks_first g.m s t ≡ false))

module _ (g : Network) where
  -- what comes before a found tour is within the bound that it leaves
  pub before_reaches : (r : List Bool) (t : Edges) → Before g t (edges_of r) → cost g t ≤ℤ lowered g r
  unfolding lowered cost_of
  before_reaches r t (inl h) = lt-le (cost g t) (cost g (edges_of r)) h
  before_reaches r t (inr h) = rw h.0 (≤ℤ_refl _)

  -- and what is within that was within the bound before
  pub lowered_tighter : (r : List Bool) (u : ℤ) (t : Edges) → cost g (edges_of r) ≤ℤ u → cost g t ≤ℤ lowered g r → cost g t ≤ℤ u
  unfolding lowered cost_of
  lowered_tighter r u t h k = le_trans (cost g t) (cost g (edges_of r)) u k h

-- what a node's marks allow is told place by place
module _ (g : Network) (t : Edges) (x : Marks) where
  pub allowed_at : Allowed (with_marks g x) t → (j : ℕ) → j < g.m → Agrees (get_or x j free) (t (suc j))
  unfolding with_marks
  allowed_at al j h = allowed_agrees (with_marks g x) t al (suc j) (of_edge g.m j h)

  pub at-allowed : ((j : ℕ) → j < g.m → Agrees (get_or x j free) (t (suc j))) → Allowed (with_marks g x) t
  unfolding with_marks
  at-allowed h = agrees_allowed (with_marks g x) t (λ k m. go k (edge_of g.m k m))
    where
      go : (k : ℕ) → (j : ℕ) × (j < g.m) × (k ≡ suc j) → Agrees (get_or (free ∷ x) k free) (t k)
      go k r = subst (λ (i : ℕ). Agrees (get_or (free ∷ x) i free) (t i)) (sym r.2) (h r.0 r.1)

-- ---- a pass

-- the marks after the rulings are as many as the edges
pub applied-length : (lifting : Bool) (g : Network) (d : ℕ → ℤ) (upper : ℤ) → length (applied lifting g d upper) ≡ g.m
unfolding applied
applied-length lifting g d upper = row-size g.m _

module _ (g : Network) (vg : Valid g) (x : Marks) where
  pub inside-tree : (t : Edges) → Inside g t x → OneTree (with_marks g x) t
  inside-tree t i = tour_tree (with_marks g x) (valid-marks g x vg) t (tour_marks g x t i.tour) i.allowed

  pub cost-bound : (t : Edges) → Tour g t → (d : ℕ → ℤ) → bound (with_marks g x) d t ≡ cost g t
  cost-bound t o d = bound_is_cost (with_marks g x) (valid-marks g x vg) t (tour_marks g x t o) d ∙ same
    where
      same : cost (with_marks g x) t ≡ cost g t
      same = unfold cost with_marks in refl
