-- All sets of edges are listed, as far as the edges go, and in the order in which they come first.
use Rattle.std.specs.Prelude.{◌≡◌, refl, ◌⊎◌, Bool, true, List, [], ◌∷◌, ◌++◌, map, ℕ, zero, suc, ◌<◌}
use Rattle.std.proofs.Common.{sym, ◌∙◌, inl, inr, arith}
use Rattle.std.proofs.Math.Path.{ap}
use Rattle.std.proofs.Math.Bool.{false}
use Rattle.lists.specs.Bools.{by_cases}
use Rattle.lists.specs.Members.{◌∈◌, in_left, in_right, in_either, in_map, of_map}
use Rattle.lists.specs.Select.{keep, select, select_in}
use Rattle.lists.specs.Numbers.{up_to, in_up_to}
use Rattle.lists.specs.Sets.{◌⊕◌, plus_self, plus_other}
use Rattle.tree_theory.specs.OneTree.{Edges, lacks_first}
use Rattle.tree_theory.specs.Enumeration.{edge_sets}
use Rattle.tree_theory.specs.Agree.{Agree}

-- one of the sets up to m with m + 1 added
Added : ℕ → Edges → Type 0
Added m t = (s : Edges) × (s ∈ edge_sets m) × (t ≡ s ⊕ suc m)

edge_sets_in : (m : ℕ) (t : Edges) → t ∈ edge_sets (suc m) → (t ∈ edge_sets m) ⊎ Added m t
unfolding edge_sets Added
edge_sets_in m t i = go (in_either t (edge_sets m) (map (λ (s : Edges). s ⊕ suc m) (edge_sets m)) i)
  where
    go : (t ∈ edge_sets m) ⊎ (t ∈ map (λ (s : Edges). s ⊕ suc m) (edge_sets m)) → (t ∈ edge_sets m) ⊎ ((s : Edges) × (s ∈ edge_sets m) × (t ≡ s ⊕ suc m))
    go (inl j) = inl j
    go (inr j) = inr (of_map {B = Edges} (λ (s : Edges). s ⊕ suc m) t (edge_sets m) j)

-- none has an edge past m
beyond : (m : ℕ) (t : Edges) → t ∈ edge_sets m → (k : ℕ) → m < k → t k ≡ false
beyond zero t i k h = go (unfold edge_sets in i)
  where
    go : (t ≡ (λ j. false)) ⊎ ⊥ → t k ≡ false
    go (inl e) = ap (λ (s : Edges). s k) e
    go (inr x3) = elim x3 [ ]
beyond (suc m) t i k h = go (edge_sets_in m t i) (λ s j. beyond m s j k (omega arith))
  where
    go : (t ∈ edge_sets m) ⊎ Added m t → ((s : Edges) → s ∈ edge_sets m → s k ≡ false) → t k ≡ false
    go (inl j) below = below t j
    go (inr r) below =
        unfold Added in (ap (λ (s : Edges). s k) r.2 ∙ plus_other r.0 (suc m) k (omega arith) ∙ below r.0 r.1)

-- EVERY SET IS LISTED, as far as the edges go
pub covers : (m : ℕ) (t : Edges) → (s : Edges) × (s ∈ edge_sets m) × Agree m s t
unfolding edge_sets up_to
covers zero t = ((λ k. false), inl refl, λ k i. absurd i)
covers (suc m) t = go (covers m t)
  where
    go : (s : Edges) × (s ∈ edge_sets m) × Agree m s t
        → (s : Edges) × (s ∈ (edge_sets m ++ map (λ (r : Edges). r ⊕ suc m) (edge_sets m))) × Agree (suc m) s t
    go r =
        by_cases (t (suc m))
        (λ h. (r.0 ⊕ suc m, in_right _ (edge_sets m) _ added, λ k i. with k h i))
        (λ h. (r.0, in_left r.0 (edge_sets m) _ r.1, λ k i. without k h i))
      where
        added : (r.0 ⊕ suc m) ∈ map (λ (s : Edges). s ⊕ suc m) (edge_sets m)
        added = in_map {B = Edges} (λ (s : Edges). s ⊕ suc m) r.0 (edge_sets m) r.1

        with : (k : ℕ) → t (suc m) ≡ true → (k ≡ suc m) ⊎ (k ∈ up_to m) → (r.0 ⊕ suc m) k ≡ t k
        with k h (inl e) = rw e (plus_self r.0 (suc m) ∙ sym h)
        with k h (inr i) = plus_other r.0 (suc m) k (λ f. omega (arith, (in_up_to m k i).1)) ∙ r.2 k i

        without : (k : ℕ) → t (suc m) ≡ false → (k ≡ suc m) ⊎ (k ∈ up_to m) → r.0 k ≡ t k
        without k h (inl e) = rw e (beyond m r.0 r.1 (suc m) (omega arith) ∙ sym h)
        without k h (inr i) = r.2 k i

-- ---- in the order of `lacks_first`

-- nothing behind comes first
abbrev pub Sorted : ℕ → List Edges → Type 0
Sorted m [] = Unit {0}
Sorted m (x ∷ xs) = ((y : Edges) → y ∈ xs → lacks_first m y x ≡ false) × Sorted m xs

pub sorted_select : (m : ℕ) (f : Edges → Bool) (xs : List Edges) → Sorted m xs → Sorted m (select f xs)
unfolding select
sorted_select m f [] s = tt
sorted_select m f (x ∷ xs) s = go (f x) (sorted_select m f xs s.1)
  where
    go : (b : Bool) → Sorted m (select f xs) → Sorted m (keep b x (select f xs))
    go true h = ((λ y i. s.0 y (select_in f xs y i).0), h)
    go false h = h

sorted_append : (m : ℕ) (xs ys : List Edges) → Sorted m xs → Sorted m ys
    → ((x y : Edges) → x ∈ xs → y ∈ ys → lacks_first m y x ≡ false) → Sorted m (xs ++ ys)
sorted_append m [] ys sx sy h = sy
sorted_append m (x ∷ xs) ys sx sy h =
    ((λ y i. go y (in_either y xs ys i)), sorted_append m xs ys sx.1 sy (λ u y i j. h u y (inr i) j))
  where
    go : (y : Edges) → (y ∈ xs) ⊎ (y ∈ ys) → lacks_first m y x ≡ false
    go y (inl i) = sx.0 y i
    go y (inr i) = h x y (inl refl) i

-- sets without m + 1
sorted_low : (m : ℕ) (xs : List Edges) → ((x : Edges) → x ∈ xs → x (suc m) ≡ false) → Sorted m xs → Sorted (suc m) xs
unfolding lacks_first
sorted_low m [] h s = tt
sorted_low m (x ∷ xs) h s = ((λ y i. rw (h y (inr i), h x (inl refl)) (s.0 y i)), sorted_low m xs (λ y i. h y (inr i)) s.1)

-- sets with it
lacks_plus : (e j : ℕ) (s t : Edges) → j < e → lacks_first j (s ⊕ e) (t ⊕ e) ≡ lacks_first j s t
unfolding lacks_first
lacks_plus e zero s t h = refl
lacks_plus e (suc j) s t h =
    rw (plus_other s e (suc j) (omega arith), plus_other t e (suc j) (omega arith), lacks_plus e j s t (omega arith))

sorted_plus : (m : ℕ) (xs : List Edges) → Sorted m xs → Sorted (suc m) (map (λ (s : Edges). s ⊕ suc m) xs)
unfolding lacks_first
sorted_plus m [] s = tt
sorted_plus m (x ∷ xs) s = ((λ y i. go y (of_map {B = Edges} (λ (r : Edges). r ⊕ suc m) y xs i)), sorted_plus m xs s.1)
  where
    go : (y : Edges) → (z : Edges) × (z ∈ xs) × (y ≡ z ⊕ suc m) → lacks_first (suc m) y (x ⊕ suc m) ≡ false
    go y r =
        rw (r.2, plus_self r.0 (suc m), plus_self x (suc m), lacks_plus (suc m) m r.0 x (omega arith)) (s.0 r.0 r.1)

pub sorted_edge_sets : (m : ℕ) → Sorted m (edge_sets m)
unfolding edge_sets lacks_first
sorted_edge_sets zero = ((λ y i. absurd i), tt)
sorted_edge_sets (suc m) =
    sorted_append (suc m) (edge_sets m) (map (λ (s : Edges). s ⊕ suc m) (edge_sets m))
    (sorted_low m (edge_sets m) (λ x i. beyond m x i (suc m) (omega arith)) (sorted_edge_sets m))
    (sorted_plus m (edge_sets m) (sorted_edge_sets m))
    (λ x y i j. cross x y i (of_map {B = Edges} (λ (s : Edges). s ⊕ suc m) y (edge_sets m) j))
  where
    cross : (x y : Edges) → x ∈ edge_sets m → (z : Edges) × (z ∈ edge_sets m) × (y ≡ z ⊕ suc m) → lacks_first (suc m) y x ≡ false
    cross x y i r = rw (r.2, plus_self r.0 (suc m), beyond m x i (suc m) (omega arith))
