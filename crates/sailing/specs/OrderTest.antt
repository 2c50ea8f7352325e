-- THE TEST IS EXACT: it passes the lists of edges that are a tour in sailing order from vertex 1, and no others. Assumes nothing.
use Rattle.std.specs.Prelude.{◌≡◌, refl, ◌↔◌, ◌⊎◌, true, false, List, [], ◌∷◌, ◌++◌, ℕ, suc, ◌+◌, ◌≤◌, eqb, length}
use Rattle.std.proofs.Common.{sym, ap, ◌∙◌, subst, inl, inr, arith, length-append, eqb-true, eq-eqb}
use Rattle.lists.specs.Bools.{and_both}
use Rattle.lists.specs.Members.{◌∈◌, in_left, in_right}
use Rattle.lists.specs.Distinct.{Distinct}
use Rattle.lists.specs.Numbers.{up_to}
use Rattle.integers.specs.Sums.{fills, same_members}
use Rattle.graph.specs.Network.{Network}
use Rattle.tree_theory.specs.OneTree.{others}
use Rattle.tree_theory.specs.Valid.{Valid, others_in, in_others, distinct-others, length-others}
use Rattle.tours.specs.Tours.{Ends}
use Rattle.tours.specs.Trips.{distinct_end}
use Rattle.sailing.specs.Orders.{Leads, SailingOrder, walk, in_sailing_order}
use Rattle.sailing.specs.Walking.{last_of, Walked, walk_yes, walked_yes}

-- ---- lists by their last member

last_apart : (u : ℕ) (vs : List ℕ) → 1 ≤ length vs → (order : List ℕ) × (vs ≡ order ++ last_of u vs ∷ [])
last_apart u [] h = absurd (omega arith)
last_apart u (v ∷ []) h = ([], refl)
last_apart u (v ∷ w ∷ vs) h = let r = last_apart v (w ∷ vs) (omega arith) in (v ∷ r.0, ap (λ (l : List ℕ). v ∷ l) r.1)

last_is : (u : ℕ) (order : List ℕ) (w : ℕ) → last_of u (order ++ w ∷ []) ≡ w
last_is u [] w = refl
last_is u (v ∷ order) w = last_is v order w

end_apart : (xs : List ℕ) (w : ℕ) → Distinct (xs ++ w ∷ []) → Distinct xs × (¬ (w ∈ xs))
end_apart [] w d = (tt, λ m. m)
end_apart (x ∷ xs) w d = go (end_apart xs w d.1)
  where
    go : Distinct xs × (¬ (w ∈ xs)) → Distinct (x ∷ xs) × (¬ (w ∈ (x ∷ xs)))
    go r = (((λ m. d.0 (in_left x xs (w ∷ []) m)), r.0), λ m. pick m)
      where
        pick : (w ≡ x) ⊎ (w ∈ xs) → ⊥
        pick (inl e) = d.0 (in_right x xs (w ∷ []) (inl (sym e)))
        pick (inr m) = r.1 m

-- ---- edges that lead to vertices

pub leads_size : (g : Network) (u : ℕ) (ks vs : List ℕ) → Leads g u ks vs → length ks ≡ length vs
leads_size g u [] [] l = refl
leads_size g u [] (v ∷ vs) l = absurd l
leads_size g u (k ∷ ks) [] l = absurd l
leads_size g u (k ∷ ks) (v ∷ vs) l = ap suc (leads_size g v ks vs l.2)

pub leads_listed : (g : Network) (u : ℕ) (ks vs : List ℕ) → Leads g u ks vs → (k : ℕ) → k ∈ ks → k ∈ up_to g.m
leads_listed g u [] [] l k m = absurd m
leads_listed g u [] (v ∷ vs) l k m = absurd l
leads_listed g u (j ∷ ks) [] l k m = absurd l
leads_listed g u (j ∷ ks) (v ∷ vs) l k (inl e) = rw e l.0
leads_listed g u (j ∷ ks) (v ∷ vs) l k (inr m) = leads_listed g v ks vs l.2 k m

module _ (g : Network) (vg : Valid g) where
  end_inside : (k u v : ℕ) → k ∈ up_to g.m → Ends g k u v → (1 ≤ v) × (v ≤ g.n)
  end_inside k u v m (inl e) = (omega (arith, e.1, vg.low k m, vg.apart k m), omega (arith, e.1, vg.high k m))
  end_inside k u v m (inr e) = (omega (arith, e.0, vg.low k m), omega (arith, e.0, vg.apart k m, vg.high k m))

  inside : (u : ℕ) (ks vs : List ℕ) → Leads g u ks vs → (v : ℕ) → v ∈ vs → (1 ≤ v) × (v ≤ g.n)
  inside u [] [] l v m = absurd m
  inside u [] (w ∷ vs) l v m = absurd l
  inside u (k ∷ ks) [] l v m = absurd l
  inside u (k ∷ ks) (w ∷ vs) l v (inl e) = rw e (end_inside k u w l.0 l.1)
  inside u (k ∷ ks) (w ∷ vs) l v (inr m) = inside w ks vs l.2 v m

  -- ---- what is in order has n edges

  pub not-one : (ks : List ℕ) (s : SailingOrder g ks) → ¬ (1 ∈ s.order)
  not-one ks s m = let z : 2 ≤ 1 = (others_in g 1 ((s.calls 1).0 m)).0 in omega arith

  pub calls-size : (ks : List ℕ) (s : SailingOrder g ks) → length s.order + 1 ≡ g.n
  calls-size ks s =
      omega (
        arith,
        (same_members s.order (others g) s.once (distinct-others g) (λ v m. (s.calls v).0 m) (λ v m. (s.calls v).1 m)).size,
        length-others g (omega (arith, vg.big)),
      )

  -- "a list of legs .. without n entries" comes under 11: none such is in order
  pub order_size : (ks : List ℕ) → SailingOrder g ks → length ks ≡ g.n
  order_size ks s =
      leads_size g 1 ks (s.order ++ 1 ∷ []) s.leads ∙ length-append s.order (1 ∷ []) ∙ calls-size ks s

  -- ---- the test

  pub test_order : (ks : List ℕ) → in_sailing_order g ks ≡ true → SailingOrder g ks
  unfolding in_sailing_order
  test_order ks h = go (walk_yes g ks (λ v. false) 1 p.1)
    where
      p : (eqb (length ks) g.n ≡ true) × (walk g (λ v. false) 1 ks ≡ true)
      p = and_both (eqb (length ks) g.n) (walk g (λ v. false) 1 ks) h

      size : length ks ≡ g.n
      size = eqb-true (length ks) g.n p.0

      go : Walked g (λ v. false) 1 ks → SailingOrder g ks
      go w = at (last_apart 1 w.vs (omega (arith, leads_size g 1 ks w.vs w.leads, size, vg.big)))
        where
          at : (order : List ℕ) × (w.vs ≡ order ++ last_of 1 w.vs ∷ []) → SailingOrder g ks
          at r = record {
            order = r.0;
            once = d.0;
            calls = λ v. (to v, from v);
            leads = subst (λ (l : List ℕ). Leads g 1 ks l) whole w.leads;
          }
            where
              whole : w.vs ≡ r.0 ++ 1 ∷ []
              whole = r.1 ∙ ap (λ (x : ℕ). r.0 ++ x ∷ []) w.closes

              d : Distinct r.0 × (¬ (1 ∈ r.0))
              d = end_apart r.0 1 (subst (λ (l : List ℕ). Distinct l) whole w.once)

              to : (v : ℕ) → v ∈ r.0 → v ∈ others g
              to v m =
                  let i = inside 1 ks w.vs w.leads v (subst (λ (l : List ℕ). v ∈ l) (sym whole) (in_left v r.0 (1 ∷ []) m)) in
                  in_others g v (omega (arith, i.0, one)) i.1
                where
                  one : v ≡ 1 → ⊥
                  one e = d.1 (subst (λ (x : ℕ). x ∈ r.0) e m)

              from : (v : ℕ) → v ∈ others g → v ∈ r.0
              from v m =
                  (fills r.0 (others g) d.0 to
                  (omega (
                    arith,
                    leads_size g 1 ks w.vs w.leads,
                    ap length whole,
                    length-append r.0 (1 ∷ []),
                    size,
                    length-others g (omega (arith, vg.big)),
                  ))).each v m

  pub order_test : (ks : List ℕ) → SailingOrder g ks → in_sailing_order g ks ≡ true
  unfolding in_sailing_order
  order_test ks s =
      rw (eq-eqb (length ks) g.n (order_size ks s))
      (walked_yes g vg.apart ks (s.order ++ 1 ∷ []) (λ v. false) 1 s.leads
      (distinct_end s.order 1 s.once (not-one ks s)) (λ v m. refl) (last_is 1 s.order 1))

  pub order_exact : (ks : List ℕ) → (in_sailing_order g ks ≡ true) ↔ SailingOrder g ks
  order_exact ks = (test_order ks, order_test ks)
