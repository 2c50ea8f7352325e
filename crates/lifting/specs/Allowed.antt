-- How the conditions on a lifted multiplier come about: from the replacement costs of the edges of the 1-tree and the reduced costs of the
-- others, as source document 000 has them; that no change is always allowed, and less than is allowed too. And a graph value that the
-- check passes joins no pair twice.
use Rattle.std.specs.Prelude.{◌≡◌, ◌⊎◌, true, false, ℕ, suc, ◌<◌, ◌≤◌, eqb, get_or, ℤ, pos, ◌+ℤ◌, ◌≤ℤ◌}
use Rattle.std.proofs.Common.{sym, ap, ◌∙◌, inl, inr, arith, eqb-true}
use Rattle.std.proofs.Math.Decide.{ℕ_discrete, dec_le}
use Rattle.lists.specs.Bools.{or_case}
use Rattle.lists.specs.Members.{◌∈◌}
use Rattle.lists.specs.Numbers.{up_to}
use Rattle.integers.specs.Parts.{add_parts, le_parts, parts_le}
use Rattle.integers.specs.Order.{le_trans}
use Rattle.graph.specs.declared.Graph.{Graph}
use Rattle.graph.specs.Network.{Network, network}
use Rattle.graph.specs.Places.{network_a, network_b}
use Rattle.graph.specs.Valid as value
use Rattle.tree_theory.specs.OneTree.{Edges, charge, Infeasible, Barred, Forced}
use Rattle.tree_theory.specs.Valid.{Valid}
use Rattle.tree_theory.specs.Arrays.{edge_in, in_edge, network-valid}
use Rattle.tree_theory.specs.Optimal.Exchange.{Minimal}
use Rattle.tree_theory.specs.Optimal.Criteria.{MaySwap}
use Rattle.lifting.specs.Local.{minimal_charges}
use Rattle.lifting.specs.Lifted.{touches}
use Rattle.lifting.specs.Supports.{Support, Replacement, barred_charges, forced_charges}
use Rattle.lifting.specs.Moves.{Alone, MayRise, MayFall}

-- ---- from replacement costs and reduced costs

-- nothing may take the place of f; or x is at most its replacement cost
abbrev pub UpToReplacement : Network → (ℕ → ℤ) → Edges → ℕ → ℕ → Type 0
UpToReplacement g d t x f = ((h : ℕ) → h ∈ up_to g.m → t h ≡ false → MaySwap g t f h → ⊥)
    ⊎ ((r : ℕ) × Replacement g d t f r × ((charge g d f +ℤ pos x) ≤ℤ charge g d r))

-- h may take the place of nothing; or x is at most its reduced cost
abbrev pub UpToReduced : Network → (ℕ → ℤ) → Edges → ℕ → ℕ → Type 0
UpToReduced g d t x h = ((f : ℕ) → f ∈ up_to g.m → t f ≡ true → MaySwap g t f h → ⊥)
    ⊎ ((s : ℕ) × Support g d t h s × ((charge g d s +ℤ pos x) ≤ℤ charge g d h))

sum_le : (p q r : ℤ) (x : ℕ) → p ≤ℤ q → (q +ℤ pos x) ≤ℤ r → (p +ℤ pos x) ≤ℤ r
sum_le p q r x h k =
    parts_le (p +ℤ pos x) r (omega (arith, le_parts p q h, le_parts (q +ℤ pos x) r k, add_parts p (pos x), add_parts q (pos x)))

less_sum : (p q : ℤ) (x y : ℕ) → y ≤ x → (p +ℤ pos x) ≤ℤ q → (p +ℤ pos y) ≤ℤ q
less_sum p q x y h k = parts_le (p +ℤ pos y) q (omega (arith, le_parts (p +ℤ pos x) q k, add_parts p (pos x), add_parts p (pos y)))

no_sum : (p q : ℤ) → p ≤ℤ q → (p +ℤ pos 0) ≤ℤ q
no_sum p q h = parts_le (p +ℤ pos 0) q (omega (arith, le_parts p q h, add_parts p (pos 0)))

module _ (g : Network) (d : ℕ → ℤ) (t : Edges) where
  pub rise-up_to : (e s v x : ℕ)
      → ((f : ℕ) → f ∈ up_to g.m → t f ≡ true → touches g v f ≡ true → UpToReplacement g d t x f)
      → ((f : ℕ) → f ∈ up_to g.m → t f ≡ true → touches g v f ≡ true → MaySwap g t f e → (charge g d f +ℤ pos x) ≤ℤ charge g d s)
      → MayRise g d t e s v x
  rise-up_to e s v x h k = record {
    replaced = λ f b mf mb tf tb i may. go f b mb tb may (h f mf tf i);
    supported = k;
  }
    where
      go : (f b : ℕ) → b ∈ up_to g.m → t b ≡ false → MaySwap g t f b → UpToReplacement g d t x f → (charge g d f +ℤ pos x) ≤ℤ charge g d b
      go f b mb tb may (inl n) = absurd (n b mb tb may)
      go f b mb tb may (inr r) =
          le_trans (charge g d f +ℤ pos x) (charge g d r.0) (charge g d b) r.2 (r.1.least b mb tb may)

  pub fall-up_to : (e r v x : ℕ)
      → ((h : ℕ) → h ∈ up_to g.m → t h ≡ false → touches g v h ≡ true → UpToReduced g d t x h)
      → ((f : ℕ) → f ∈ up_to g.m → t f ≡ false → touches g v f ≡ true → MaySwap g t e f → (charge g d r +ℤ pos x) ≤ℤ charge g d f)
      → MayFall g d t e r v x
  fall-up_to e r v x h k = record {
    reduced = λ f b mf mb tf tb i may. go f b mf tf may (h b mb tb i);
    replaceable = k;
  }
    where
      go : (f b : ℕ) → f ∈ up_to g.m → t f ≡ true → MaySwap g t f b → UpToReduced g d t x b → (charge g d f +ℤ pos x) ≤ℤ charge g d b
      go f b mf tf may (inl n) = absurd (n f mf tf may)
      go f b mf tf may (inr s) = sum_le (charge g d f) (charge g d s.0) (charge g d b) x (s.1.most f mf tf may) s.2

  -- ---- less than is allowed

  pub rise-less : (e s v x y : ℕ) → y ≤ x → MayRise g d t e s v x → MayRise g d t e s v y
  rise-less e s v x y l r = record {
    replaced = λ f h mf mh tf th i may. less_sum (charge g d f) (charge g d h) x y l (r.replaced f h mf mh tf th i may);
    supported = λ f mf tf i may. less_sum (charge g d f) (charge g d s) x y l (r.supported f mf tf i may);
  }

  pub fall-less : (e r v x y : ℕ) → y ≤ x → MayFall g d t e r v x → MayFall g d t e r v y
  fall-less e r v x y l m = record {
    reduced = λ f h mf mh tf th i may. less_sum (charge g d f) (charge g d h) x y l (m.reduced f h mf mh tf th i may);
    replaceable = λ f mf tf i may. less_sum (charge g d r) (charge g d f) x y l (m.replaceable f mf tf i may);
  }

  module _ (vg : Valid g) (l : Minimal g d t) where
    -- ---- an end that does not move

    pub rise_none : (e s v : ℕ) → Support g d t e s → MayRise g d t e s v 0
    rise_none e s v p = record {
      replaced = λ f h mf mh tf th i may. no_sum (charge g d f) (charge g d h) (minimal_charges g vg d t l f h mf mh tf th may);
      supported = λ f mf tf i may. no_sum (charge g d f) (charge g d s) (p.most f mf tf may);
    }

    pub fall_none : (e r v : ℕ) → Replacement g d t e r → MayFall g d t e r v 0
    fall_none e r v p = record {
      reduced = λ f h mf mh tf th i may. no_sum (charge g d f) (charge g d h) (minimal_charges g vg d t l f h mf mh tf th may);
      replaceable = λ f mf tf i may. no_sum (charge g d r) (charge g d f) (p.least f mf tf may);
    }

    -- ---- where there is no support, or no replacement, the edge is barred, or forced, already

    pub unsupported : (z : ℤ) (e : ℕ) → e ∈ up_to g.m → t e ≡ false → ((f : ℕ) → f ∈ up_to g.m → t f ≡ true → MaySwap g t f e → ⊥)
        → Barred g d z e
    unsupported z e me te n = (barred_charges g vg d t l z e me te).1 (λ f mf tf may. absurd (n f mf tf may))

    pub irreplaceable : (z : ℤ) (e : ℕ) → e ∈ up_to g.m → t e ≡ true → ((f : ℕ) → f ∈ up_to g.m → t f ≡ false → MaySwap g t e f → ⊥)
        → Forced g d z e
    irreplaceable z e me te n = (forced_charges g vg d t l z e me te).1 (λ f mf tf may. absurd (n f mf tf may))

-- ---- "A 'dead' under lifted dues bars or forces it too"

pub infeasible_barred : (g : Network) (d : ℕ → ℤ) (z : ℤ) (e : ℕ) → Infeasible g d z → Barred g d z e
unfolding Infeasible Barred
infeasible_barred g d z e h t o i = h t o

pub infeasible_forced : (g : Network) (d : ℕ → ℤ) (z : ℤ) (e : ℕ) → Infeasible g d z → Forced g d z e
unfolding Infeasible Forced
infeasible_forced g d z e h t o i = h t o

-- ---- "no pair twice"

-- two edges a < b, p < q that have both a and b among their ends are one pair
one_pair : (a b p q : ℕ) → a < b → p < q → (p ≡ a) ⊎ (q ≡ a) → (p ≡ b) ⊎ (q ≡ b) → (p ≡ a) × (q ≡ b)
one_pair a b p q h k (inl i) (inl j) = absurd (omega arith)
one_pair a b p q h k (inl i) (inr j) = (i, j)
one_pair a b p q h k (inr i) (inl j) = absurd (omega arith)
one_pair a b p q h k (inr i) (inr j) = absurd (omega arith)

pub end_of : (g : Network) (v k : ℕ) → touches g v k ≡ true → (g.a k ≡ v) ⊎ (g.b k ≡ v)
end_of g v k h = go (or_case (eqb (g.a k) v) (eqb (g.b k) v) h)
  where
    go : (eqb (g.a k) v ≡ true) ⊎ (eqb (g.b k) v ≡ true) → (g.a k ≡ v) ⊎ (g.b k ≡ v)
    go (inl i) = inl (eqb-true (g.a k) v i)
    go (inr i) = inr (eqb-true (g.b k) v i)

module _ (g : Graph) (v : value.Valid g) where
  same_place : (j k : ℕ) → j < g.m → k < g.m → value.SamePair g j k → j ≡ k
  same_place j k hj hk p = go (ℕ_discrete j k) (dec_le (suc j) k)
    where
      go : Dec (j ≡ k) → Dec (j < k) → j ≡ k
      go (yes e) l = e
      go (no e) (yes l) = absurd (v.once j k l hk p)
      go (no e) (no l) = absurd (v.once k j (omega arith) hj (record { a = sym p.a; b = sym p.b }))

  pub alone : (k : ℕ) → k < g.m → Alone (network g) (suc k)
  alone k hk f mf i j = r.2 ∙ ap suc (same_place r.0 k r.1 hk (record { a = first; b = second }))
    where
      r : (n : ℕ) × (n < g.m) × (f ≡ suc n)
      r = edge_in g f mf

      pair : ((network g).a f ≡ (network g).a (suc k)) × ((network g).b f ≡ (network g).b (suc k))
      pair =
          one_pair ((network g).a (suc k)) ((network g).b (suc k)) ((network g).a f) ((network g).b f)
          ((network-valid g v).apart (suc k) (in_edge g k hk)) ((network-valid g v).apart f mf)
          (end_of (network g) ((network g).a (suc k)) f i) (end_of (network g) ((network g).b (suc k)) f j)

      first : get_or g.a r.0 0 ≡ get_or g.a k 0
      first = sym (network_a g r.0 r.1) ∙ ap (network g).a (sym r.2) ∙ pair.0 ∙ network_a g k hk

      second : get_or g.b r.0 0 ≡ get_or g.b k 0
      second = sym (network_b g r.0 r.1) ∙ ap (network g).b (sym r.2) ∙ pair.1 ∙ network_b g k hk
