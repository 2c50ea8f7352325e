-- A list in sailing order is so backwards too: a tour can be sailed in either direction. Assumes nothing.
use Rattle.std.specs.Prelude.{◌≡◌, ◌⊎◌, ℕ}
use Rattle.std.proofs.Common.{inl, inr}
use mathlib.Core.List.{List, [], ◌∷◌, ◌++◌}
use Rattle.lists.specs.Members.{◌∈◌, in_left, in_right, in_either}
use Rattle.lists.specs.Distinct.{Distinct}
use Rattle.lists.specs.Numbers.{up_to}
use Rattle.graph.specs.Network.{Network}
use Rattle.tours.specs.Tours.{Ends}
use Rattle.tours.specs.Trips.{ends_turned, distinct_end}
use Rattle.sailing.specs.Orders.{Leads, SailingOrder}

-- the last first
unfoldable pub turned : List ℕ → List ℕ
turned [] = []
turned (x ∷ xs) = turned xs ++ x ∷ []

in_turned : (x : ℕ) (xs : List ℕ) → x ∈ xs → x ∈ turned xs
unfolding turned
in_turned x [] m = absurd m
in_turned x (y ∷ xs) (inl e) = in_right x (turned xs) (y ∷ []) (inl e)
in_turned x (y ∷ xs) (inr m) = in_left x (turned xs) (y ∷ []) (in_turned x xs m)

turned_in : (x : ℕ) (xs : List ℕ) → x ∈ turned xs → x ∈ xs
unfolding turned
turned_in x [] m = absurd m
turned_in x (y ∷ xs) m = go (in_either x (turned xs) (y ∷ []) m) (turned_in x xs)
  where
    go : (x ∈ turned xs) ⊎ ((x ≡ y) ⊎ ⊥) → (x ∈ turned xs → x ∈ xs) → (x ≡ y) ⊎ (x ∈ xs)
    go (inl i) below = inr (below i)
    go (inr (inl e)) below = inl e
    go (inr (inr e)) below = absurd e

distinct-turned : (xs : List ℕ) → Distinct xs → Distinct (turned xs)
unfolding turned
distinct-turned [] d = tt
distinct-turned (x ∷ xs) d = distinct_end (turned xs) x (distinct-turned xs d.1) (λ m. d.0 (turned_in x xs m))

module _ (g : Network) where
  -- one edge more at the end
  leads_end : (u : ℕ) (ks vs : List ℕ) (v w k : ℕ) → Leads g u ks (vs ++ v ∷ []) → k ∈ up_to g.m → Ends g k v w
      → Leads g u (ks ++ k ∷ []) ((vs ++ v ∷ []) ++ w ∷ [])
  leads_end u [] [] v w k l m e = absurd l
  leads_end u (j ∷ []) [] v w k l m e = (l.0, l.1, (m, e, tt))
  leads_end u (j ∷ i ∷ ks) [] v w k l m e = absurd l.2
  leads_end u [] (x ∷ vs) v w k l m e = absurd l
  leads_end u (j ∷ ks) (x ∷ vs) v w k l m e = (l.0, l.1, leads_end x ks vs v w k l.2 m e)

  leads_turned : (u : ℕ) (ks vs : List ℕ) (w : ℕ) → Leads g u ks (vs ++ w ∷ []) → Leads g w (turned ks) (turned vs ++ u ∷ [])
  unfolding turned
  leads_turned u [] [] w l = absurd l
  leads_turned u (k ∷ []) [] w l = (l.0, ends_turned g k u w l.1, tt)
  leads_turned u (k ∷ j ∷ ks) [] w l = absurd l.2
  leads_turned u [] (v ∷ vs) w l = absurd l
  leads_turned u (k ∷ ks) (v ∷ vs) w l =
      leads_end w (turned ks) (turned vs) v u k (leads_turned v ks vs w l.2) l.0 (ends_turned g k u v l.1)

  pub order_turned : (ks : List ℕ) → SailingOrder g ks → SailingOrder g (turned ks)
  order_turned ks s = record {
    order = turned s.order;
    once = distinct-turned s.order s.once;
    calls = λ v. ((λ m. (s.calls v).0 (turned_in v s.order m)), λ m. in_turned v s.order ((s.calls v).1 m));
    leads = leads_turned 1 ks s.order 1 s.leads;
  }
