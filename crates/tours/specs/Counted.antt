-- The degrees of all vertices, counted in one loop over the edges: each edge that is in adds one at both its ends. Assumes nothing.
use Rattle.std.specs.Prelude.{◌≡◌, refl, ◌≢◌, Bool, true, false, ◌&&◌, ◌||◌, List, ℕ, suc, ◌+◌, ◌≤◌, ◌<◌, eqb, length, get_or, set, replicate}
use Rattle.std.proofs.Common.{sym, ap, ◌∙◌, subst, arith, add-one, length-set, get_or-set_same, get_or-set_other}
use Rattle.std.proofs.Math.Decide.{ℕ_discrete}
use Rattle.std.proofs.lemmas.List.{length-replicate}
use borrow.Author.Tests.{eq-eqb, ne_eqb}
use Rattle.lists.specs.Bools.{bit}
use Rattle.lists.specs.Select.{keep, select}
use Rattle.lists.specs.Numbers.{up_to}
use Rattle.lists.specs.Fill.{replicate-at}
use Rattle.graph.specs.declared.Graph.{Graph}
use Rattle.graph.specs.Network.{network}
use Rattle.graph.specs.Places.{network_a, network_b}
use Rattle.graph.specs.Valid.{Valid}
use Rattle.tree_theory.specs.OneTree.{Edges}
use Rattle.tree_theory.specs.Arrays.{bytes}
use Rattle.tours.specs.Tours.{degree}

-- "the number of the tree's legs that touch buoy i", of the first k edges
unfoldable pub degree_to : ℕ → Graph → List ℕ → ℕ → ℕ
unfolding select up_to
degree_to k g w v = length (select (λ e. bytes w e && (eqb ((network g).a e) v || eqb ((network g).b e) v)) (up_to k))

pub degree_all : (g : Graph) (w : List ℕ) (v : ℕ) → degree_to g.m g w v ≡ degree (network g) (bytes w) v
unfolding degree_to degree network
degree_all g w v = refl

select-more : (p : Edges) (k : ℕ) → length (select p (up_to (k + 1))) ≡ length (select p (up_to k)) + bit (p (suc k))
unfolding select up_to
select-more p k = rw add-one (go (p (suc k)))
  where
    go : (b : Bool) → length (keep b (suc k) (select p (up_to k))) ≡ length (select p (up_to k)) + bit b
    go true = omega arith
    go false = omega arith

degree_none : (g : Graph) (w : List ℕ) (v : ℕ) → degree_to 0 g w v ≡ 0
unfolding degree_to select up_to
degree_none g w v = refl

-- does the edge at place k touch v?
touch : Graph → ℕ → ℕ → Bool
touch g k v = eqb (get_or g.a k 0) v || eqb (get_or g.b k 0) v

degree-more : (g : Graph) (w : List ℕ) (k : ℕ) → k < g.m → (v : ℕ)
    → degree_to (k + 1) g w v ≡ degree_to k g w v + bit (eqb (get_or w k 0) 1 && touch g k v)
unfolding degree_to touch
degree-more g w k h v =
    select-more (λ e. bytes w e && (eqb ((network g).a e) v || eqb ((network g).b e) v)) k
    ∙ rw (network_a g k h, network_b g k h)

-- what the array holds after k edges: vertex v's degree at place v
pub record DegreesTo (k : ℕ) (g : Graph) (w r : List ℕ) : Type 0 where
  pub size : length r ≡ 21
  pub at : (v : ℕ) → v < 21 → get_or r v 0 ≡ degree_to k g w v
  pub most : (v : ℕ) → get_or r v 0 ≤ k

pub degrees_none : (g : Graph) (w : List ℕ) → DegreesTo 0 g w (replicate 21 0)
degrees_none g w = record {
  size = length-replicate {A = ℕ} 21 0;
  at = λ v h. replicate-at {A = ℕ} 21 0 v ∙ sym (degree_none g w v);
  most = λ v. omega (arith, replicate-at {A = ℕ} 21 0 v);
}

-- one more at two places, at a first and then at b
abbrev pub raised : List ℕ → ℕ → ℕ → List ℕ
raised r a b = set (set r a (get_or r a 0 + 1)) b (get_or (set r a (get_or r a 0 + 1)) b 0 + 1)

module _ (r : List ℕ) (a b : ℕ) (high : b < length r) (less : a < b) where
  size-one : length (set r a (get_or r a 0 + 1)) ≡ length r
  size-one = length-set r a (get_or r a 0 + 1)

  raised-size : length (raised r a b) ≡ length r
  raised-size = length-set (set r a (get_or r a 0 + 1)) b (get_or (set r a (get_or r a 0 + 1)) b 0 + 1) ∙ size-one

  raised_b : get_or (raised r a b) b 0 ≡ get_or r b 0 + 1
  raised_b =
      get_or-set_same (set r a (get_or r a 0 + 1)) b (get_or (set r a (get_or r a 0 + 1)) b 0 + 1) 0 (omega (arith, size-one))
      ∙ ap (λ (y : ℕ). y + 1) (get_or-set_other r a b (get_or r a 0 + 1) 0 (omega arith))

  raised_a : get_or (raised r a b) a 0 ≡ get_or r a 0 + 1
  raised_a =
      get_or-set_other (set r a (get_or r a 0 + 1)) b a (get_or (set r a (get_or r a 0 + 1)) b 0 + 1) 0 (omega arith)
      ∙ get_or-set_same r a (get_or r a 0 + 1) 0 (omega arith)

  raised_other : (v : ℕ) → v ≢ a → v ≢ b → get_or (raised r a b) v 0 ≡ get_or r v 0
  raised_other v na nb =
      get_or-set_other (set r a (get_or r a 0 + 1)) b v (get_or (set r a (get_or r a 0 + 1)) b 0 + 1) 0 nb
      ∙ get_or-set_other r a v (get_or r a 0 + 1) 0 na

-- both ends of the edge at place k have a place, and differ
pub record Ends (g : Graph) (k : ℕ) : Type 0 where
  pub less : get_or g.a k 0 < get_or g.b k 0
  pub high : get_or g.b k 0 < 21

pub ends_of : (g : Graph) → Valid g → (k : ℕ) → k < g.m → Ends g k
ends_of g v k h = record { less = (v.each k h).less; high = omega (arith, (v.each k h).to, v.high) }

module _ (k : ℕ) (g : Graph) (w r : List ℕ) (h : k < g.m) (c : DegreesTo k g w r) where
  -- an edge that is out counts for nothing
  pub degrees_skip : get_or w k 0 ≢ 1 → DegreesTo (k + 1) g w r
  degrees_skip out = record {
    size = c.size;
    at = λ v i. c.at v i ∙ sym (degree-more g w k h v ∙ rw (ne_eqb (get_or w k 0) 1 out) (omega arith));
    most = λ v. omega (arith, c.most v);
  }

  a : ℕ
  a = get_or g.a k 0

  b : ℕ
  b = get_or g.b k 0

  -- any other at both its ends
  pub degrees_more : Ends g k → get_or w k 0 ≡ 1 → DegreesTo (k + 1) g w (raised r (get_or g.a k 0) (get_or g.b k 0))
  unfolding a b
  degrees_more ends one = record {
    size = raised-size r a b high less ∙ c.size;
    at = λ v i. at v i (ℕ_discrete v a) (ℕ_discrete v b);
    most = λ v. most v (ℕ_discrete v a) (ℕ_discrete v b);
  }
    where
      less : a < b
      less = ends.less

      high : b < length r
      high = omega (arith, ends.high, c.size)

      more : (v : ℕ) → v < 21 → (t : Bool) → touch g k v ≡ t → degree_to (k + 1) g w v ≡ get_or r v 0 + bit t
      more v i t e = degree-more g w k h v ∙ rw (eq-eqb (get_or w k 0) 1 one, e, ← c.at v i)

      touches_a : touch g k a ≡ true
      touches_a = unfold touch in rw (eq-eqb a a refl)

      touches_b : touch g k b ≡ true
      touches_b = unfold touch in rw (ne_eqb a b (omega (arith, less)), eq-eqb b b refl)

      touches-not : (v : ℕ) → v ≢ a → v ≢ b → touch g k v ≡ false
      touches-not v na nb = unfold touch in rw (ne_eqb a v (λ e. na (sym e)), ne_eqb b v (λ e. nb (sym e)))

      at : (v : ℕ) → v < 21 → Dec (v ≡ a) → Dec (v ≡ b) → get_or (raised r a b) v 0 ≡ degree_to (k + 1) g w v
      at v i (yes e) q = rw e (raised_a r a b high less ∙ sym (more a (omega arith) true touches_a))
      at v i (no p) (yes e) = rw e (raised_b r a b high less ∙ sym (more b (omega arith) true touches_b))
      at v i (no p) (no q) =
          raised_other r a b high less v p q
          ∙ sym (more v i false (touches-not v p q) ∙ omega arith)

      most : (v : ℕ) → Dec (v ≡ a) → Dec (v ≡ b) → get_or (raised r a b) v 0 ≤ k + 1
      most v (yes e) q = rw e (omega (arith, raised_a r a b high less, c.most a))
      most v (no p) (yes e) = rw e (omega (arith, raised_b r a b high less, c.most b))
      most v (no p) (no q) = omega (arith, raised_other r a b high less v p q, c.most v)

pub degrees_to : (k m : ℕ) (g : Graph) (w r : List ℕ) → k ≡ m → DegreesTo k g w r → DegreesTo m g w r
degrees_to k m g w r e h = subst (λ (i : ℕ). DegreesTo i g w r) e h
