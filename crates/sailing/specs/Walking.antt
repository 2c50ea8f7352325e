-- What a walk along a list of edges finds: it passes exactly where the edges lead to vertices that are all different, none of them met
-- before, the last of them vertex 1. Also that a step asks only whether a vertex was met, and how a loop goes on. Assumes nothing.
use Rattle.std.specs.Prelude.{◌≡◌, refl, ◌⊎◌, Bool, true, false, ◌&&◌, eqb, leb, length, get_or, set, drop}
use Rattle.std.proofs.Common.{sym, ◌∙◌, inl, inr, true≢false, arith, add-one, get_or-set_same, get_or-set_other}
use Rattle.std.proofs.Math.Path.{ap, subst, fun_ext}
use Rattle.std.proofs.Math.Bool.{not}
use mathlib.Core.List.{List, [], ◌∷◌}
use Prim.Native.Nat.{ℕ, ◌+◌, ◌<◌}
use Rattle.std.proofs.Math.Decide.{ℕ_discrete}
use Rattle.std.proofs.Math.Seq.{drop-cons, drop-length}
use borrow.Author.Tests.{eqb-true, eq-eqb, ne_eqb, leb-true, le-leb, not-true}
use Rattle.lists.specs.Bools.{by_cases, and_both, or_left, or_right}
use Rattle.lists.specs.Members.{◌∈◌}
use Rattle.lists.specs.Distinct.{Distinct}
use Rattle.lists.specs.Numbers.{up_to, up_to_in, in_up_to}
use Rattle.lists.specs.Sets.{NumberSet, ◌⊕◌, plus_self, plus_old, plus_other}
use Rattle.graph.specs.Network.{Network}
use Rattle.tours.specs.Tours.{Ends}
use Rattle.sailing.specs.Orders.{Leads, listed, touches, other_end, goes_on, walk}

-- where one is after coming to the vertices vs, from u
abbrev pub last_of : ℕ → List ℕ → ℕ
last_of u [] = u
last_of u (v ∷ vs) = last_of v vs

-- the vertices that the edges ks lead to
pub record Walked (g : Network) (met : NumberSet) (u : ℕ) (ks : List ℕ) : Type 0 where
  pub vs : List ℕ
  pub leads : Leads g u ks vs
  pub once : Distinct vs
  pub new : (v : ℕ) → v ∈ vs → met v ≡ false
  pub closes : last_of u vs ≡ 1

module _ (g : Network) where
  pub listed_in : (k : ℕ) → listed g k ≡ true → k ∈ up_to g.m
  unfolding listed
  listed_in k h =
      let p = and_both (leb 1 k) (leb k g.m) h in up_to_in g.m k (leb-true 1 k p.0) (leb-true k g.m p.1)

  in_listed : (k : ℕ) → k ∈ up_to g.m → listed g k ≡ true
  unfolding listed
  in_listed k m = let p = in_up_to g.m k m in rw (le-leb 1 k p.0, le-leb k g.m p.1)

  touches_ends : (k u : ℕ) → touches g k u ≡ true → Ends g k u (other_end g k u)
  unfolding touches other_end
  touches_ends k u h =
      by_cases (eqb (g.a k) u)
      (λ t. rw t (inl (eqb-true (g.a k) u t, refl)))
      (λ t. rw t (inr (refl, eqb-true (g.b k) u (rw t at h))))

  ends_touch : (k u v : ℕ) → Ends g k u v → touches g k u ≡ true
  unfolding touches
  ends_touch k u v (inl e) = or_left (eqb (g.a k) u) (eqb (g.b k) u) (eq-eqb (g.a k) u e.0)
  ends_touch k u v (inr e) = or_right (eqb (g.a k) u) (eqb (g.b k) u) (eq-eqb (g.b k) u e.1)

  -- of an edge whose ends differ
  ends_other : (k u v : ℕ) → g.a k < g.b k → Ends g k u v → other_end g k u ≡ v
  unfolding other_end
  ends_other k u v h (inl e) = rw (eq-eqb (g.a k) u e.0) e.1
  ends_other k u v h (inr e) = rw (ne_eqb (g.a k) u (λ z. omega (arith, z, e.1))) e.0

  pub walk_yes : (ks : List ℕ) (met : NumberSet) (u : ℕ) → walk g met u ks ≡ true → Walked g met u ks
  unfolding walk goes_on
  walk_yes [] met u h = record { vs = []; leads = tt; once = tt; new = λ v m. absurd m; closes = eqb-true u 1 h }
  walk_yes (k ∷ ks) met u h = go (walk_yes ks (met ⊕ v) v p.1)
    where
      v : ℕ
      v = other_end g k u

      p : (listed g k && (touches g k u && not (met v)) ≡ true) × (walk g (met ⊕ v) v ks ≡ true)
      p = and_both (listed g k && (touches g k u && not (met v))) (walk g (met ⊕ v) v ks) h

      q : (listed g k ≡ true) × (touches g k u && not (met v) ≡ true)
      q = and_both (listed g k) (touches g k u && not (met v)) p.0

      r : (touches g k u ≡ true) × (not (met v) ≡ true)
      r = and_both (touches g k u) (not (met v)) q.1

      go : Walked g (met ⊕ v) v ks → Walked g met u (k ∷ ks)
      go w = record {
        vs = v ∷ w.vs;
        leads = (listed_in k q.0, touches_ends k u r.0, w.leads);
        once = ((λ m. true≢false (sym (plus_self met v) ∙ w.new v m)), w.once);
        new = λ x m. fresh x m;
        closes = w.closes;
      }
        where
          fresh : (x : ℕ) → (x ≡ v) ⊎ (x ∈ w.vs) → met x ≡ false
          fresh x (inl e) = ap met e ∙ not-true (met v) r.1
          fresh x (inr m) = by_cases (met x) (λ t. absurd (true≢false (sym (plus_old met v x t) ∙ w.new x m))) (λ t. t)

  pub walked_yes : ((k : ℕ) → k ∈ up_to g.m → g.a k < g.b k) → (ks vs : List ℕ) (met : NumberSet) (u : ℕ) → Leads g u ks vs → Distinct vs
      → ((v : ℕ) → v ∈ vs → met v ≡ false) → last_of u vs ≡ 1 → walk g met u ks ≡ true
  unfolding walk goes_on
  walked_yes ap [] [] met u l d n c = eq-eqb u 1 c
  walked_yes ap [] (v ∷ vs) met u l d n c = absurd l
  walked_yes ap (k ∷ ks) [] met u l d n c = absurd l
  walked_yes ap (k ∷ ks) (v ∷ vs) met u l d n c =
      subst (λ (x : ℕ). (listed g k && (touches g k u && not (met x))) && walk g (met ⊕ x) x ks ≡ true)
      (sym (ends_other k u v (ap k l.0) l.1))
      (rw (in_listed k l.0, ends_touch k u v l.1, n v (inl refl))
      (walked_yes ap ks vs (met ⊕ v) v l.2 d.1 (λ x m. plus_other met v x (λ e. d.0 (rw (← e) m)) ∙ n x (inr m)) c))

  -- ---- for a loop

  -- only what the set says of a vertex matters
  pub walk_same : (ks : List ℕ) (met mat : NumberSet) (u : ℕ) → ((v : ℕ) → met v ≡ mat v) → walk g met u ks ≡ walk g mat u ks
  walk_same ks met mat u h = ap (λ (s : NumberSet). walk g s u ks) (fun_ext h)

  -- one edge more, where i are done
  pub walk_on : (ks : List ℕ) (met : NumberSet) (u i : ℕ) → i < length ks → goes_on g met u (get_or ks i 0) ≡ true
      → walk g met u (drop i ks) ≡ walk g (met ⊕ other_end g (get_or ks i 0) u) (other_end g (get_or ks i 0) u) (drop (i + 1) ks)
  unfolding walk
  walk_on ks met u i l h = rw (add-one, drop-cons ks i 0 l, h)

  pub walk_off : (ks : List ℕ) (met : NumberSet) (u i : ℕ) → i < length ks → goes_on g met u (get_or ks i 0) ≡ false
      → walk g met u (drop i ks) ≡ false
  unfolding walk
  walk_off ks met u i l h = rw (drop-cons ks i 0 l, h)

  pub walk_end : (ks : List ℕ) (met : NumberSet) (u : ℕ) → walk g met u (drop (length ks) ks) ≡ eqb u 1
  unfolding walk
  walk_end ks met u = rw drop-length

-- flags in an array, for the vertices that were come to
pub flag_more : (flags : List Bool) (v : ℕ) → v < length flags
    → (x : ℕ) → get_or (set flags v true) x false ≡ ((λ y. get_or flags y false) ⊕ v) x
flag_more flags v h x = go (ℕ_discrete x v)
  where
    go : Dec (x ≡ v) → get_or (set flags v true) x false ≡ ((λ y. get_or flags y false) ⊕ v) x
    go (yes e) = rw e (get_or-set_same flags v true false h ∙ sym (plus_self (λ y. get_or flags y false) v))
    go (no e) = get_or-set_other flags v x true false e ∙ sym (plus_other (λ y. get_or flags y false) v x e)
