-- The edges along a trip: as many as its steps, all edges of the set, each another one where no vertex is called at twice; and over their
-- ends each vertex between counts twice. For TourTree. Assumes nothing.
use Rattle.std.specs.Prelude.{◌≡◌, ◌≢◌, ◌⊎◌, length, ℤ, ◌+ℤ◌}
use Rattle.std.proofs.Math.Path.{refl, ap}
use Rattle.std.proofs.Common.{sym, ◌∙◌, subst, inl}
use Rattle.std.proofs.Math.Logic.{inr}
use mathlib.Core.List.{List, [], ◌∷◌, ◌++◌}
use Prim.Native.Nat.{ℕ, suc, ◌≤◌}
use native.Mathlib.Omega.{arith}
use Rattle.std.proofs.Math.IntN.{+ℤ_assoc, +ℤ_comm, +ℤ_idl, +ℤ_idr}
use Rattle.lists.specs.Members.{◌∈◌, in_right, in_either}
use Rattle.lists.specs.Select.{select, in_select}
use Rattle.lists.specs.Distinct.{Distinct}
use Rattle.lists.specs.Numbers.{up_to}
use Rattle.integers.specs.Sums.{sum_z, left_comm}
use Rattle.graph.specs.Network.{Network}
use Rattle.tree_theory.specs.OneTree.{Edges}
use Rattle.tours.specs.Tours.{Ends, Joined, Trip}

pub ends_turned : (g : Network) (k u v : ℕ) → Ends g k u v → Ends g k v u
ends_turned g k u v (inl h) = inr h
ends_turned g k u v (inr h) = inl h

-- both ends of an edge are among the vertices l, told by its ends u and v or by its own two
pub ends_among : (g : Network) (k u v : ℕ) (l : List ℕ) → u ∈ l → v ∈ l → Ends g k u v → (g.a k ∈ l) × (g.b k ∈ l)
ends_among g k u v l mu mv (inl h) = (rw h.0 mu, rw h.1 mv)
ends_among g k u v l mu mv (inr h) = (rw h.0 mv, rw h.1 mu)

pub among_ends : (g : Network) (k u v : ℕ) (l : List ℕ) → Ends g k u v → (g.a k ∈ l) × (g.b k ∈ l) → (u ∈ l) × (v ∈ l)
among_ends g k u v l (inl h) m = (rw h.0 at m.0, rw h.1 at m.1)
among_ends g k u v l (inr h) m = (rw h.1 at m.1, rw h.0 at m.0)

-- one edge has one pair of ends
third_end : (g : Network) (k x y z : ℕ) → x ≢ y → Ends g k x y → Ends g k y z → x ≡ z
third_end g k x y z ne (inl h) (inl i) = absurd (ne (sym h.0 ∙ i.0))
third_end g k x y z ne (inl h) (inr i) = sym h.0 ∙ i.0
third_end g k x y z ne (inr h) (inl i) = sym h.1 ∙ i.1
third_end g k x y z ne (inr h) (inr i) = absurd (ne (sym h.1 ∙ i.1))

pub distinct_end : (xs : List ℕ) (w : ℕ) → Distinct xs → ¬ (w ∈ xs) → Distinct (xs ++ w ∷ [])
distinct_end [] w d new = ((λ m. m), tt)
distinct_end (x ∷ xs) w d new = ((λ m. go (in_either x xs (w ∷ []) m)), distinct_end xs w d.1 (λ m. new (inr m)))
  where
    go : (x ∈ xs) ⊎ ((x ≡ w) ⊎ ⊥) → ⊥
    go (inl m) = d.0 m
    go (inr (inl e)) = new (inl (sym e))
    go (inr (inr e)) = e

module _ (g : Network) (t : Edges) where
  -- the edges, the first one first
  unfoldable pub along : (u : ℕ) (vs : List ℕ) (w : ℕ) → Trip g t u vs w → List ℕ
  along u [] w j = j.edge ∷ []
  along u (v ∷ vs) w j = j.0.edge ∷ along v vs w j.1

  pub along-length : (u : ℕ) (vs : List ℕ) (w : ℕ) (j : Trip g t u vs w) → length (along u vs w j) ≡ suc (length vs)
  unfolding along
  along-length u [] w j = refl
  along-length u (v ∷ vs) w j = ap suc (along-length v vs w j.1)

  -- they are edges of t
  joined_in : (u v : ℕ) (j : Joined g t u v) (e : ℕ) → e ≡ j.edge → e ∈ select t (up_to g.m)
  joined_in u v j e i = rw i (in_select t (up_to g.m) j.edge j.listed j.taken)

  pub along_in : (u : ℕ) (vs : List ℕ) (w : ℕ) (j : Trip g t u vs w) (e : ℕ) → e ∈ along u vs w j → e ∈ select t (up_to g.m)
  unfolding along
  along_in u [] w j e (inl i) = joined_in u w j e i
  along_in u [] w j e (inr i) = absurd i
  along_in u (v ∷ vs) w j e (inl i) = joined_in u v j.0 e i
  along_in u (v ∷ vs) w j e (inr i) = along_in v vs w j.1 e i

  -- both ends of each are vertices of the trip
  pub along_ends : (u : ℕ) (vs : List ℕ) (w : ℕ) (j : Trip g t u vs w) (e : ℕ) → e ∈ along u vs w j
      → (g.a e ∈ (u ∷ (vs ++ w ∷ []))) × (g.b e ∈ (u ∷ (vs ++ w ∷ [])))
  unfolding along
  along_ends u [] w j e (inl i) =
      rw i (ends_among g j.edge u w (u ∷ w ∷ []) (inl refl) (inr (inl refl)) j.ends)
  along_ends u [] w j e (inr i) = absurd i
  along_ends u (v ∷ vs) w j e (inl i) =
      subst (λ (k : ℕ). (g.a k ∈ (u ∷ v ∷ (vs ++ w ∷ []))) × (g.b k ∈ (u ∷ v ∷ (vs ++ w ∷ [])))) (sym i)
      (ends_among g j.0.edge u v (u ∷ v ∷ (vs ++ w ∷ [])) (inl refl) (inr (inl refl)) j.0.ends)
  along_ends u (v ∷ vs) w j e (inr i) =
      let r = along_ends v vs w j.1 e i in (inr r.0, inr r.1)

  -- on a trip that calls nowhere twice each edge is another one
  pub open_once : (u : ℕ) (vs : List ℕ) (w : ℕ) (j : Trip g t u vs w) → Distinct (u ∷ (vs ++ w ∷ [])) → Distinct (along u vs w j)
  unfolding along
  open_once u [] w j d = ((λ m. m), tt)
  open_once u (v ∷ vs) w j d = (new, open_once v vs w j.1 d.1)
    where
      new : j.0.edge ∈ along v vs w j.1 → ⊥
      new m = d.0 (among_ends g j.0.edge u v (v ∷ (vs ++ w ∷ [])) j.0.ends (along_ends v vs w j.1 j.0.edge m)).0

  -- and so on a closed trip of three vertices or more
  pub closed_once : (u v z : ℕ) (vs : List ℕ) (j : Trip g t u (v ∷ z ∷ vs) u) → Distinct (v ∷ z ∷ (vs ++ u ∷ []))
      → Distinct (along u (v ∷ z ∷ vs) u j)
  unfolding along
  closed_once u v z vs j d = (new, open_once v (z ∷ vs) u j.1 d)
    where
      last : u ∈ (vs ++ u ∷ [])
      last = in_right u vs (u ∷ []) (inl refl)

      apart : u ≢ v
      apart f = d.0 (inr (subst (λ (x : ℕ). x ∈ (vs ++ u ∷ [])) f last))

      new : (j.0.edge ≡ j.1.0.edge) ⊎ (j.0.edge ∈ along z vs u j.1.1) → ⊥
      new (inl e) =
          d.1.0 (subst (λ (x : ℕ). x ∈ (vs ++ u ∷ [])) (third_end g j.0.edge u v z apart j.0.ends (rw e j.1.0.ends)) last)
      new (inr m) =
          d.0 (among_ends g j.0.edge u v (z ∷ (vs ++ u ∷ [])) j.0.ends (along_ends z vs u j.1.1 j.0.edge m)).1

  pub trip_once : (u : ℕ) (vs : List ℕ) (j : Trip g t u vs u) → Distinct vs → ¬ (u ∈ vs) → 2 ≤ length vs → Distinct (along u vs u j)
  trip_once u [] j d new l = absurd (let z : 2 ≤ 0 = l in omega arith)
  trip_once u (v ∷ []) j d new l = absurd (let z : 2 ≤ 1 = l in omega arith)
  trip_once u (v ∷ z ∷ vs) j d new l = closed_once u v z vs j (distinct_end (v ∷ z ∷ vs) u d new)

  -- the sum over the edges of what stands at their ends: each vertex between counts twice
  module _ (d : ℕ → ℤ) where
    abbrev pub at_ends : ℕ → ℤ
    at_ends k = d (g.a k) +ℤ d (g.b k)

    ends_sum : (k u v : ℕ) → Ends g k u v → at_ends k ≡ d u +ℤ d v
    ends_sum k u v (inl h) = rw (h.0, h.1)
    ends_sum k u v (inr h) = rw (h.0, h.1) (+ℤ_comm (d v) (d u))

    pub along_sum : (u : ℕ) (vs : List ℕ) (w : ℕ) (j : Trip g t u vs w)
        → sum_z at_ends (along u vs w j) ≡ d u +ℤ ((sum_z d vs +ℤ sum_z d vs) +ℤ d w)
    unfolding along sum_z
    along_sum u [] w j =
        rw (ends_sum j.edge u w j.ends) (+ℤ_idr _ ∙ ap (λ (z : ℤ). d u +ℤ z) (sym (+ℤ_idl (d w))))
    along_sum u (v ∷ vs) w j =
        rw (ends_sum j.0.edge u v j.0.ends, along_sum v vs w j.1) (regroup (d u) (d v) (sum_z d vs) (d w))
      where
        regroup : (p q s r : ℤ) → (p +ℤ q) +ℤ (q +ℤ ((s +ℤ s) +ℤ r)) ≡ p +ℤ (((q +ℤ s) +ℤ (q +ℤ s)) +ℤ r)
        regroup p q s r = simp (+ℤ_assoc, left_comm)
