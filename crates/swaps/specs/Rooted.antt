-- The far edges of a 1-tree as a hanging tree: vertices that required edges join stand for one, their label, and each free edge is the
-- edge above one label. What the edge above a label separates: without it two vertices are connected iff that label stands above both their
-- labels or above neither. Assumes nothing.
use Rattle.std.specs.Prelude.{◌≡◌, refl, ◌≢◌, ◌⊎◌, Bool, List}
use Rattle.std.proofs.Common.{◌∙◌, ap, inl, inr, true≢false, arith, ne_eqb}
use Rattle.std.proofs.Math.Path.{sym, subst}
use Rattle.std.proofs.Math.Bool.{true, false}
use Rattle.std.proofs.lemmas.Bool.{false≢true}
use Prim.Native.Nat.{ℕ, zero, suc, ◌<◌, ◌≤◌}
use Rattle.std.proofs.Math.Decide.{ℕ_discrete, dec_le}
use Rattle.lists.specs.Bools.{bit, by_cases}
use Rattle.lists.specs.Members.{◌∈◌}
use Rattle.lists.specs.Select.{select, select_in, in_select}
use Rattle.lists.specs.Sets.{NumberSet, ◌⊖◌, minus_is, minus_other}
use Rattle.graph.specs.Network.{Network}
use Rattle.spanning.specs.Walks.{label, Walk, stay, along, walk_trans, walk_sym, walk_mono, walk_respects, label-walk}
use Rattle.spanning.specs.Forests.{Forest}
use Rattle.spanning.specs.Trees.{minus_apart}
use Rattle.tree_theory.specs.Valid.{far, needed, distinct-far}
use Rattle.swaps.specs.Hanging.{Shape, Hangs, Vertex, Child, above, above_parent, above_root, above_self}

-- e joins x and y, where p and q have the ends of the edges
abbrev pub Joins : (ℕ → ℕ) → (ℕ → ℕ) → ℕ → ℕ → ℕ → Type 0
Joins p q e x y = ((p e ≡ x) × (q e ≡ y)) ⊎ ((p e ≡ y) × (q e ≡ x))

-- a vertex away from vertex 1
abbrev pub Other : Network → ℕ → Type 0
Other G v = (2 ≤ v) × (v ≤ G.n)

-- a walk along required far edges
abbrev pub Tied : Network → ℕ → ℕ → Type 0
Tied G x y = Walk G.a G.b (select (needed G) (far G)) x y

-- the labels of 2 .. n hang, and the edges above them are free far edges of the set
pub record Rooted (G : Network) (s : NumberSet) (rep : ℕ → ℕ) (t : Shape) (edge : ℕ → ℕ) : Type 0 where
  pub hangs : Hangs t
  pub whole : (v : ℕ) → Other G v → Vertex t (rep v)
  pub only : (v : ℕ) → 1 ≤ t.depth v → v ≤ G.n
  pub ends : (v : ℕ) → Child t v → Joins (λ e. rep (G.a e)) (λ e. rep (G.b e)) (edge v) v (t.parent v)
  pub tree : (v : ℕ) → Child t v → edge v ∈ select s (far G)
  pub free : (v : ℕ) → Child t v → needed G (edge v) ≡ false
  pub merged : (e : ℕ) → e ∈ far G → needed G e ≡ true → rep (G.a e) ≡ rep (G.b e)
  pub linked : (v : ℕ) → Other G v → Tied G v (rep v)
  pub others : (e : ℕ) → e ∈ far G → Other G (G.a e) × Other G (G.b e)
  pub keeps : (e : ℕ) → e ∈ far G → needed G e ≡ true → s e ≡ true
  pub forest : Forest G.a G.b (select s (far G))

-- an edge is above one vertex only
pub one_vertex : (p q : ℕ → ℕ) (t : Shape) (edge : ℕ → ℕ) (u v : ℕ)
    → t.depth u ≡ suc (t.depth (t.parent u)) → t.depth v ≡ suc (t.depth (t.parent v))
    → Joins p q (edge u) u (t.parent u) → Joins p q (edge v) v (t.parent v) → edge u ≡ edge v → u ≡ v
one_vertex p q t edge u v du dv eu ev e = go eu ev
  where
    a_is : p (edge u) ≡ p (edge v)
    a_is = ap p e

    b_is : q (edge u) ≡ q (edge v)
    b_is = ap q e

    crossed : u ≡ t.parent v → v ≡ t.parent u → u ≡ v
    crossed f g = absurd (omega (arith, du, dv, ap t.depth f, ap t.depth g))

    go : Joins p q (edge u) u (t.parent u) → Joins p q (edge v) v (t.parent v) → u ≡ v
    go (inl f) (inl g) = sym f.0 ∙ a_is ∙ g.0
    go (inr f) (inr g) = sym f.1 ∙ b_is ∙ g.1
    go (inl f) (inr g) = crossed (sym f.0 ∙ a_is ∙ g.0) (sym g.1 ∙ sym b_is ∙ f.1)
    go (inr f) (inl g) = crossed (sym f.1 ∙ b_is ∙ g.1) (sym g.0 ∙ sym a_is ∙ f.0)

-- the far edges of s but e
abbrev pub without : Network → NumberSet → ℕ → List ℕ
without G s e = select (s ⊖ e) (far G)

-- a walk along them
abbrev pub Trip : Network → NumberSet → ℕ → ℕ → ℕ → Type 0
Trip G s e x y = Walk G.a G.b (without G s e) x y

-- required edges are among them, where e is free
pub tied_trip : (G : Network) (s : NumberSet) → ((k : ℕ) → k ∈ far G → needed G k ≡ true → s k ≡ true)
    → (e : ℕ) → needed G e ≡ false → {x y : ℕ} → Tied G x y → Trip G s e x y
tied_trip G s keeps e free w = walk_mono G.a G.b kept w
  where
    kept : (k : ℕ) → k ∈ select (needed G) (far G) → k ∈ without G s e
    kept k m = in_select (s ⊖ e) (far G) k i.0
        (minus_other s e k (λ f. true≢false (sym i.1 ∙ ap (needed G) f ∙ free)) ∙ keeps k i.0 i.1)
      where
        i : (k ∈ far G) × (needed G k ≡ true)
        i = select_in (needed G) (far G) k m

bit-one : (x y : Bool) → bit x ≡ bit y → x ≡ y
bit-one true true e = refl
bit-one false false e = refl
bit-one true false e = absurd (let z : ◌≡◌ {A = ℕ} 1 0 = e in omega arith)
bit-one false true e = absurd (let z : ◌≡◌ {A = ℕ} 0 1 = e in omega arith)

module _ (G : Network) (s : NumberSet) (rep : ℕ → ℕ) (t : Shape) (edge : ℕ → ℕ) (r : Rooted G s rep t edge) where
  deep : (x : ℕ) → Child t x → t.depth x ≡ suc (t.depth (t.parent x))
  deep = r.hangs.deep

  -- ---- walks that spare the free edge e

  module _ (e : ℕ) (free : needed G e ≡ false) where
    tied : {x y : ℕ} → Tied G x y → Trip G s e x y
    tied = tied_trip G s r.keeps e free

    -- to the label
    home : (x : ℕ) → Other G x → Trip G s e x (rep x)
    home x i = tied (r.linked x i)

    -- one edge up
    step : (x : ℕ) → Child t x → edge x ≢ e → Trip G s e x (t.parent x)
    step x h ne = go (r.ends x h)
      where
        i : (edge x ∈ far G) × (s (edge x) ≡ true)
        i = select_in s (far G) (edge x) (r.tree x h)

        left : edge x ∈ without G s e
        left = in_select (s ⊖ e) (far G) (edge x) i.0 (minus_other s e (edge x) ne ∙ i.1)

        o : Other G (G.a (edge x)) × Other G (G.b (edge x))
        o = r.others (edge x) i.0

        one : Trip G s e (G.a (edge x)) (rep (G.a (edge x)))
        one = home (G.a (edge x)) o.0

        two : Trip G s e (G.b (edge x)) (rep (G.b (edge x)))
        two = home (G.b (edge x)) o.1

        over : Trip G s e (rep (G.a (edge x))) (rep (G.b (edge x)))
        over = walk_trans G.a G.b (walk_sym G.a G.b one) (along (edge x) left two)

        go : Joins (λ k. rep (G.a k)) (λ k. rep (G.b k)) (edge x) x (t.parent x) → Trip G s e x (t.parent x)
        go (inl p) = rw (p.0, p.1) at over
        go (inr p) = walk_sym G.a G.b (rw (p.0, p.1) at over)

    -- where e is above no label, every label is connected to the root
    up : ((v : ℕ) → Child t v → edge v ≢ e) → (k x : ℕ) → t.depth x ≡ k → Vertex t x → Trip G s e x 2
    up none zero x d h = absurd (omega (arith, h.1))
    up none (suc k) x d h = go (ℕ_discrete x 2) (λ j. up none k (t.parent x) (omega (arith, deep x j, d)) (r.hangs.inside x j))
      where
        go : Dec (x ≡ 2) → (Child t x → Trip G s e (t.parent x) 2) → Trip G s e x 2
        go (yes f) above = subst (λ (y : ℕ). Trip G s e x y) f stay
        go (no f) above = let j : Child t x = (omega (arith, h.0), h.1) in walk_trans G.a G.b (step x j (none x j)) (above j)

    -- but in a forest it connects two parts
    some_above : e ∈ select s (far G) → ((v : ℕ) → Child t v → edge v ≢ e) → ⊥
    some_above m none = minus_apart G.a G.b (far G) (distinct-far G) s e i.0 i.1 r.forest
        ((label-walk G.a G.b (without G s e) (G.a e) (G.b e)).1
        (walk_trans G.a G.b (root (G.a e) o.0) (walk_sym G.a G.b (root (G.b e) o.1))))
      where
        i : (e ∈ far G) × (s e ≡ true)
        i = select_in s (far G) e m

        o : Other G (G.a e) × Other G (G.b e)
        o = r.others e i.0

        root : (x : ℕ) → Other G x → Trip G s e x 2
        root x h = walk_trans G.a G.b (home x h) (up none (t.depth (rep x)) (rep x) refl (r.whole x h))

  -- e is above a label below k, or above none
  search-above : (e k : ℕ) → ((v : ℕ) × Child t v × (edge v ≡ e)) ⊎ ((v : ℕ) → v < k → Child t v → edge v ≢ e)
  search-above e zero = inr (λ v l. absurd (omega arith))
  search-above e (suc k) = go (search-above e k) (ℕ_discrete (edge k) e) (dec_le 3 k) (dec_le 1 (t.depth k))
    where
      go : ((v : ℕ) × Child t v × (edge v ≡ e)) ⊎ ((v : ℕ) → v < k → Child t v → edge v ≢ e) → Dec (edge k ≡ e) → Dec (3 ≤ k)
          → Dec (1 ≤ t.depth k) → ((v : ℕ) × Child t v × (edge v ≡ e)) ⊎ ((v : ℕ) → v < suc k → Child t v → edge v ≢ e)
      go (inl q) a b c = inl q
      go (inr f) (yes a) (yes b) (yes c) = inl (k, (b, c), a)
      go (inr f) (no a) b c = inr (λ v l i. last v l i (ℕ_discrete v k))
        where
          last : (v : ℕ) → v < suc k → Child t v → Dec (v ≡ k) → edge v ≢ e
          last v l i (yes q) z = a (ap edge (sym q) ∙ z)
          last v l i (no q) z = f v (omega arith) i z
      go (inr f) (yes a) (no b) c = inr (λ v l i. f v (omega (arith, i.0)) i)
      go (inr f) (yes a) (yes b) (no c) = inr (λ v l i. last v l i (ℕ_discrete v k))
        where
          last : (v : ℕ) → v < suc k → Child t v → Dec (v ≡ k) → edge v ≢ e
          last v l i (yes q) = absurd (c (omega (arith, i.1, ap t.depth q)))
          last v l i (no q) = f v (omega arith) i

  -- every free far edge of the set is above a label
  pub edge_above : (e : ℕ) → e ∈ select s (far G) → needed G e ≡ false → (v : ℕ) × Child t v × (edge v ≡ e)
  edge_above e m free = go (search-above e 21)
    where
      go : ((v : ℕ) × Child t v × (edge v ≡ e)) ⊎ ((v : ℕ) → v < 21 → Child t v → edge v ≢ e) → (v : ℕ) × Child t v × (edge v ≡ e)
      go (inl q) = q
      go (inr f) = absurd (some_above e free m (λ v i. f v (omega (arith, r.hangs.room v i.1)) i))

  module _ (v : ℕ) (hv : Child t v) where
    -- one edge up, but for v
    rung : (x : ℕ) → Child t x → x ≢ v → Trip G s (edge v) x (t.parent x)
    rung x h ne = step (edge v) (r.free v hv) x h (λ e. ne (one_vertex (λ k. rep (G.a k)) (λ k. rep (G.b k)) t edge x v
        (deep x h) (deep v hv) (r.ends x h) (r.ends v hv) e))

    -- a label below v walks to v, another to the root
    goal : Bool → ℕ
    goal true = v
    goal false = 2

    reach : (k x : ℕ) → t.depth x ≡ k → Vertex t x → (b : Bool) → above t v x ≡ b → Trip G s (edge v) x (goal b)
    unfolding goal
    reach zero x e h b u = absurd (omega (arith, h.1))
    reach (suc k) x e h b u =
        go (ℕ_discrete x v) (ℕ_discrete x 2) b u (λ j. reach k (t.parent x) (omega (arith, deep x j, e)) (r.hangs.inside x j) b)
      where
        go : Dec (x ≡ v) → Dec (x ≡ 2) → (b : Bool) → above t v x ≡ b
            → (Child t x → above t v (t.parent x) ≡ b → Trip G s (edge v) (t.parent x) (goal b)) → Trip G s (edge v) x (goal b)
        go (yes f) q true i below = subst (λ (y : ℕ). Trip G s (edge v) x y) f stay
        go (yes f) q false i below =
            absurd (true≢false (sym (above_self t r.hangs v (omega (arith, hv.0), hv.1)) ∙ subst (λ (y : ℕ). above t v y ≡ false) f i))
        go (no f) (yes q) false i below = subst (λ (y : ℕ). Trip G s (edge v) x y) q stay
        go (no f) (yes q) true i below =
            absurd (false≢true (sym (rw (ne_eqb v 2 (λ z. f (q ∙ sym z))) at (above_root t r.hangs v)) ∙ subst
            (λ (y : ℕ). above t v y ≡ true) q i))
        go (no f) (no q) b i below =
            walk_trans G.a G.b (rung x j f) (below j (sym (above_parent t r.hangs v x j (λ z. f (sym z))) ∙ i))
          where
            j : Child t x
            j = (omega (arith, h.0), h.1)

    -- THE CUT
    pub cut-same : (x y : ℕ) → Other G x → Other G y → above t v (rep x) ≡ above t v (rep y)
        → label G.a G.b (without G s (edge v)) x ≡ label G.a G.b (without G s (edge v)) y
    cut-same x y hx hy e =
        (label-walk G.a G.b (without G s (edge v)) x y).1
        (walk_trans G.a G.b (far_end x hx (above t v (rep y)) e) (walk_sym G.a G.b (far_end y hy (above t v (rep y)) refl)))
      where
        far_end : (z : ℕ) → Other G z → (b : Bool) → above t v (rep z) ≡ b → Trip G s (edge v) z (goal b)
        far_end z i b u =
            walk_trans G.a G.b (home (edge v) (r.free v hv) z i) (reach (t.depth (rep z)) (rep z) refl (r.whole z i) b u)

    pub same-cut : (x y : ℕ) → label G.a G.b (without G s (edge v)) x ≡ label G.a G.b (without G s (edge v)) y
        → above t v (rep x) ≡ above t v (rep y)
    same-cut x y e =
        bit-one (above t v (rep x)) (above t v (rep y)) (walk_respects G.a G.b (λ u. bit (above t v (rep u))) keeps
        ((label-walk G.a G.b (without G s (edge v)) x y).0 e))
      where
        keeps : (k : ℕ) → k ∈ without G s (edge v) → bit (above t v (rep (G.a k))) ≡ bit (above t v (rep (G.b k)))
        keeps k m = by_cases (needed G k) (λ n. ap (λ (z : ℕ). bit (above t v z)) (r.merged k i.0 n)) (λ n. go (edge_above k here n))
          where
            i : (k ∈ far G) × ((s ⊖ edge v) k ≡ true)
            i = select_in (s ⊖ edge v) (far G) k m

            here : k ∈ select s (far G)
            here = in_select s (far G) k i.0 (minus_is s (edge v) k i.1).1

            go : (u : ℕ) × Child t u × (edge u ≡ k) → bit (above t v (rep (G.a k))) ≡ bit (above t v (rep (G.b k)))
            go q = side (rw q.2 at (r.ends q.0 q.1))
              where
                other : v ≢ q.0
                other f = (minus_is s (edge v) k i.1).0 (sym q.2 ∙ ap edge (sym f))

                same : bit (above t v q.0) ≡ bit (above t v (t.parent q.0))
                same = ap bit (above_parent t r.hangs v q.0 q.1 other)

                side : Joins (λ j. rep (G.a j)) (λ j. rep (G.b j)) k q.0 (t.parent q.0)
                    → bit (above t v (rep (G.a k))) ≡ bit (above t v (rep (G.b k)))
                side (inl p) = rw (p.0, p.1) same
                side (inr p) = rw (p.0, p.1) (sym same)
