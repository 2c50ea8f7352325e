-- A set of edges that is a 1-tree over the active vertices is one of the reduced network, and the other way, and its bound is the same. (Hence
-- the least 1-tree, what is infeasible, barred and forced are the same: proofs/Trees.)
use Rattle.std.specs.Prelude.{◌≡◌, Bool, cond, ◌&&◌, ◌||◌, List, [], ◌∷◌, map, ℕ, ◌+◌, eqb, length, ℤ, pos, ◌+ℤ◌, ◌-ℤ◌, ◌*ℤ◌}
use Rattle.std.proofs.Math.Path.{refl, ap}
use Rattle.std.proofs.Common.{sym, ◌∙◌, subst, subst₂, true≢false}
use Rattle.std.proofs.Math.Bool.{true, false, not}
use Rattle.std.proofs.Math.IntN.{+ℤ_idl}
use Rattle.std.proofs.lemmas.Bool.{not-true}
use Rattle.lists.specs.Bools.{by_cases}
use Rattle.lists.specs.Members.{◌∈◌}
use Rattle.lists.specs.Select.{keep, select, select_in, select_cong, select_full}
use Rattle.lists.specs.Numbers.{up_to}
use Rattle.integers.specs.Sums.{sum_z, sum_same, sum_map}
use Rattle.graph.specs.Network.{Network}
use Rattle.spanning.specs.Walks.{Walk, stay, along, back}
use Rattle.tree_theory.specs.OneTree.{Edges, OneTree, at_one, away, charge, bound}
use Rattle.tours.specs.Tours.{degree}
use Rattle.thinning.specs.Ranks.{rank, nth, nth-kept, select-thin}
use Rattle.afloat.specs.Over.{Ashore, active, touched, multiplier_over, OneTreeOver, bound_over}
use Rattle.afloat.specs.Reduced.{reduced, reduced_multiplier, Fit, Live, live_back, live_same, live_eqb, count_is, over_live, others_there, others_again}
use Rattle.afloat.specs.Reduced.{others_back, a_live, b_live, a_is, b_is, near_is, touched_excluded}

-- ---- walks whose vertices are numbered anew

module _ (p q x y : ℕ → ℕ) (ρ : ℕ → ℕ) (es : List ℕ) (at : (e : ℕ) → e ∈ es → (x e ≡ ρ (p e)) × (y e ≡ ρ (q e))) where
  walk_there : {u v : ℕ} → Walk p q es u v → Walk x y es (ρ u) (ρ v)
  walk_there stay = stay
  walk_there {v = v} (along e m h) =
      subst (λ (z : ℕ). Walk x y es z (ρ v)) (at e m).0 (along e m (subst (λ (z : ℕ). Walk x y es z (ρ v)) (sym (at e m).1) (walk_there h)))
  walk_there {v = v} (back e m h) =
      subst (λ (z : ℕ). Walk x y es z (ρ v)) (at e m).1 (back e m (subst (λ (z : ℕ). Walk x y es z (ρ v)) (sym (at e m).0) (walk_there h)))

  module _ (Ok : ℕ → Type 0) (ends : (e : ℕ) → e ∈ es → Ok (p e) × Ok (q e)) (same : (u v : ℕ) → Ok u → Ok v → ρ u ≡ ρ v → u ≡ v) where
    walk_back : {i j : ℕ} → Walk x y es i j → (u v : ℕ) → Ok u → Ok v → i ≡ ρ u → j ≡ ρ v → Walk p q es u v
    walk_back stay u v ou ov eu ev = subst (λ (z : ℕ). Walk p q es u z) (same u v ou ov (sym eu ∙ ev)) stay
    walk_back (along e m h) u v ou ov eu ev =
        subst (λ (z : ℕ). Walk p q es z v) (same (p e) u (ends e m).0 ou (sym (at e m).0 ∙ eu))
        (along e m (walk_back h (q e) v (ends e m).1 ov (at e m).1 ev))
    walk_back (back e m h) u v ou ov eu ev =
        subst (λ (z : ℕ). Walk p q es z v) (same (q e) u (ends e m).1 ou (sym (at e m).1 ∙ eu))
        (back e m (walk_back h (p e) v (ends e m).0 ov (at e m).0 ev))

-- ---- a sum to which the others add nothing

sum_active : (s : Ashore) (d : ℕ → ℤ) (xs : List ℕ) → sum_z (multiplier_over s d) xs ≡ sum_z d (select (active s) xs)
unfolding sum_z select
sum_active s d [] = refl
sum_active s d (x ∷ xs) = go (s x) (sum_active s d xs)
  where
    go : (b : Bool) → sum_z (multiplier_over s d) xs ≡ sum_z d (select (active s) xs)
        → cond b (pos 0) (d x) +ℤ sum_z (multiplier_over s d) xs ≡ sum_z d (keep (not b) x (select (active s) xs))
    go true h = +ℤ_idl (sum_z (multiplier_over s d) xs) ∙ h
    go false h = ap (λ (z : ℤ). d x +ℤ z) h

sum_reduced : (s : Ashore) (g : Network) (d : ℕ → ℤ)
    → sum_z (multiplier_over s d) (up_to g.n) ≡ sum_z (reduced_multiplier s g.n d) (up_to (rank (active s) g.n))
sum_reduced s g d =
    sum_active s d (up_to g.n)
    ∙ ap (sum_z d) (select-thin (active s) g.n (active s) (λ k i e. e)
    ∙ ap (map (nth (active s) g.n))
    (select_full (λ j. active s (nth (active s) g.n j)) (up_to (rank (active s) g.n)) (λ j i. nth-kept (active s) g.n j i)))
    ∙ sum_map d (nth (active s) g.n) (up_to (rank (active s) g.n))

-- the charge of an untouched edge
module _ (s : Ashore) (g : Network) (f : Fit s g) (d : ℕ → ℤ) where
  pub charge-reduced : (k : ℕ) → k ∈ up_to g.m → touched s g k ≡ false
      → charge g (multiplier_over s d) k ≡ charge (reduced s g) (reduced_multiplier s g.n d) k
  unfolding charge
  charge-reduced k i q =
      ap (λ (z : ℤ). (g.cost k +ℤ z) +ℤ multiplier_over s d (g.b k))
      (at (g.a k) ((reduced s g).a k) (a_live s g f k i q) (a_is s g f k i q))
      ∙ ap (λ (z : ℤ). (g.cost k +ℤ reduced_multiplier s g.n d ((reduced s g).a k)) +ℤ z)
      (at (g.b k) ((reduced s g).b k) (b_live s g f k i q) (b_is s g f k i q))
    where
      at : (v j : ℕ) → Live s g f v → j ≡ rank (active s) v → multiplier_over s d v ≡ reduced_multiplier s g.n d j
      at v j l e =
          ap (λ (b : Bool). cond b (pos 0) (d v)) (not-true (s v) l.1)
          ∙ ap d (sym (live_back s g f v l))
          ∙ ap (reduced_multiplier s g.n d) (sym e)

-- ---- one set of edges

-- it has no edge that touches an inactive vertex
abbrev pub Untouched : Ashore → Network → Edges → Type 0
Untouched s g t = (k : ℕ) → k ∈ up_to g.m → touched s g k ≡ true → t k ≡ false

module _ (s : Ashore) (g : Network) (f : Fit s g) (t : Edges) (free : Untouched s g t) where
  -- an edge of the set is untouched
  pub taken_free : (k : ℕ) → k ∈ up_to g.m → t k ≡ true → touched s g k ≡ false
  taken_free k i e = by_cases (touched s g k) (λ q. absurd (true≢false (sym e ∙ free k i q))) (λ q. q)

  near_agree : (h : Bool → Bool) (k : ℕ) → k ∈ up_to g.m → t k && h (eqb (g.a k) 1) ≡ t k && h (eqb ((reduced s g).a k) 1)
  near_agree h k i = go (t k) refl
    where
      go : (b : Bool) → t k ≡ b → b && h (eqb (g.a k) 1) ≡ b && h (eqb ((reduced s g).a k) 1)
      go true e = ap h (sym (near_is s g f k i (taken_free k i e)))
      go false e = refl

  pub at_one-reduced : at_one g t ≡ at_one (reduced s g) t
  unfolding at_one
  at_one-reduced = select_cong _ _ (up_to g.m) (λ k i. near_agree (λ b. b) k i)

  pub away-reduced : away g t ≡ away (reduced s g) t
  unfolding away
  away-reduced = select_cong _ _ (up_to g.m) (λ k i. near_agree not k i)

  pub degree-reduced : (v : ℕ) → Live s g f v → degree (reduced s g) t (rank (active s) v) ≡ degree g t v
  unfolding degree
  degree-reduced v l = ap length (select_cong _ _ (up_to g.m) (λ k i. go k i (t k) refl))
    where
      go : (k : ℕ) → k ∈ up_to g.m → (b : Bool) → t k ≡ b
          → b && (eqb ((reduced s g).a k) (rank (active s) v) || eqb ((reduced s g).b k) (rank (active s) v)) ≡ b && (eqb (g.a k) v || eqb (g.b k) v)
      go k i true e =
          let q = taken_free k i e in
          ap (λ (z : ℕ). eqb z (rank (active s) v) || eqb ((reduced s g).b k) (rank (active s) v)) (a_is s g f k i q)
          ∙ ap (λ (z : ℕ). eqb (rank (active s) (g.a k)) (rank (active s) v) || eqb z (rank (active s) v)) (b_is s g f k i q)
          ∙ ap (λ (x : Bool). x || eqb (rank (active s) (g.b k)) (rank (active s) v)) (live_eqb s g f (g.a k) v (a_live s g f k i q) l)
          ∙ ap (λ (x : Bool). eqb (g.a k) v || x) (live_eqb s g f (g.b k) v (b_live s g f k i q) l)
      go k i false e = refl

  away_in : (k : ℕ) → k ∈ away g t → (k ∈ up_to g.m) × (touched s g k ≡ false)
  unfolding away
  away_in k i =
      let r = select_in (λ j. t j && not (eqb (g.a j) 1)) (up_to g.m) k i in
      (r.0, taken_free k r.0 (left (t k) (not (eqb (g.a k) 1)) r.1))
    where
      left : (x y : Bool) → x && y ≡ true → x ≡ true
      left true y e = refl
      left false y e = e

  ends_at : (k : ℕ) → k ∈ away g t
      → ((reduced s g).a k ≡ rank (active s) (g.a k)) × ((reduced s g).b k ≡ rank (active s) (g.b k))
  ends_at k i = let r = away_in k i in (a_is s g f k r.0 r.1, b_is s g f k r.0 r.1)

  ends_live : (k : ℕ) → k ∈ away g t → Live s g f (g.a k) × Live s g f (g.b k)
  ends_live k i = let r = away_in k i in (a_live s g f k r.0 r.1, b_live s g f k r.0 r.1)

  pub tree_there : OneTreeOver s g t → OneTree (reduced s g) t
  tree_there o = record {
    two = ap length (sym at_one-reduced) ∙ o.two;
    rest = ap (λ (l : List ℕ). 2 + length l) (sym away-reduced) ∙ o.rest ∙ count_is s g.n;
    joined = λ u v i j.
        subst (λ (es : List ℕ). Walk (reduced s g).a (reduced s g).b es u v) away-reduced
        (subst₂ (λ (x y : ℕ). Walk (reduced s g).a (reduced s g).b (away g t) x y) (others_again s g f u i) (others_again s g f v j)
        (walk_there g.a g.b (reduced s g).a (reduced s g).b (rank (active s)) (away g t) ends_at
        (o.joined _ _ (others_back s g f u i) (others_back s g f v j))));
    keeps = o.keeps;
    avoids = o.avoids;
  }

  pub tree_back : OneTree (reduced s g) t → OneTreeOver s g t
  tree_back o = record {
    two = ap length at_one-reduced ∙ o.two;
    rest = ap (λ (l : List ℕ). 2 + length l) away-reduced ∙ o.rest ∙ sym (count_is s g.n);
    joined = λ u v i j.
        walk_back g.a g.b (reduced s g).a (reduced s g).b (rank (active s)) (away g t) ends_at
        (Live s g f) ends_live (live_same s g f)
        (subst (λ (es : List ℕ). Walk (reduced s g).a (reduced s g).b es (rank (active s) u) (rank (active s) v)) (sym away-reduced)
        (o.joined _ _ (others_there s g f u i) (others_there s g f v j)))
        u v (over_live s g f u i).0 (over_live s g f v j).0 refl refl;
    keeps = o.keeps;
    avoids = o.avoids;
  }

  pub bound-reduced : (d : ℕ → ℤ) → bound_over s g d t ≡ bound (reduced s g) (reduced_multiplier s g.n d) t
  unfolding bound_over bound
  bound-reduced d =
      ap (λ (z : ℤ). z -ℤ (pos 2 *ℤ sum_z (multiplier_over s d) (up_to g.n)))
      (sum_same (charge g (multiplier_over s d)) (charge (reduced s g) (reduced_multiplier s g.n d)) (select t (up_to g.m))
      (λ k i. let r = select_in t (up_to g.m) k i in charge-reduced s g f d k r.0 (taken_free k r.0 r.1)))
      ∙ ap (λ (z : ℤ). sum_z (charge (reduced s g) (reduced_multiplier s g.n d)) (select t (up_to g.m)) -ℤ (pos 2 *ℤ z)) (sum_reduced s g d)

-- ---- all sets of edges

module _ (s : Ashore) (g : Network) (f : Fit s g) where
  pub over_free : (t : Edges) → OneTreeOver s g t → Untouched s g t
  over_free t o k i e = o.avoids k i (touched_excluded s g f k i e)

  module _ (d : ℕ → ℤ) where
    abbrev δ : ℕ → ℤ
    δ = reduced_multiplier s g.n d

    -- THEIR BOUNDS
    pub tree-bound : (t : Edges) → OneTreeOver s g t → bound_over s g d t ≡ bound (reduced s g) δ t
    tree-bound t o = bound-reduced s g f t (over_free t o) d
