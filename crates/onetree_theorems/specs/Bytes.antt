-- From the rulings to their bytes: one byte, one ruling, and what each byte says of its edge where the network is not infeasible: of any network
-- (`Ruled`), and over the vertices that are afloat (`byte_exactly`). Assumes nothing.
use Rattle.std.specs.Prelude.{◌≡◌, ◌↔◌, ◌⊎◌, Bool, true, false, List, ℕ, zero, suc, ◌-◌, ◌≤◌, get_or, ℤ}
use Rattle.std.proofs.Math.Path.{refl, ap}
use Rattle.std.proofs.Common.{sym, ◌∙◌, subst, inl, inr, arith}
use Rattle.lists.specs.Members.{◌∈◌}
use Rattle.lists.specs.Numbers.{up_to}
use Rattle.lists.specs.Rows.{row, row_at}
use Rattle.integers.specs.Multiples.{◌times◌}
use Rattle.graph.specs.declared.Graph.{Graph}
use Rattle.graph.specs.Network.{Network, Mark, free, required, excluded, network}
use Rattle.tree_theory.specs.OneTree.{Infeasible, Barred, Forced}
use Rattle.tree_theory.specs.Inputs.{multiplier}
use Rattle.tree_theory.specs.Scaled.{scaled_by}
use Rattle.tree_theory.specs.Enumeration.{Ruling, keeps, forces, bars, was_required, was_excluded, barred_b, forced_b, ruled, ruling}
use Rattle.tree_theory.specs.Rulings.{rules_nothing, rules_required, rules_excluded, rules_exactly, both_infeasible}
use Rattle.afloat.specs.Over.{Ashore, ashore}
use Rattle.afloat.specs.Reduced.{reduced, reduced_multiplier, Fit, touched_excluded}
use Rattle.afloat.proofs.Trees.{infeasible_iff, barred_iff, forced_iff}
use Rattle.afloat.proofs.Decided.{ruling-reduced}
use Rattle.onetree.specs.Answers.{ruling_byte}
use Rattle.reduction.specs.Answers.{rulings_of}
use Rattle.onetree_theorems.specs.Calls.{BarredBy, ForcedBy, InfeasibleBy, RuledExactly}

-- the ruling that a byte stands for
ruled_by : ℕ → Ruling
ruled_by zero = keeps
ruled_by (suc zero) = forces
ruled_by (suc (suc zero)) = bars
ruled_by (suc (suc (suc zero))) = was_required
ruled_by (suc (suc (suc (suc k)))) = was_excluded

back : (r : Ruling) → ruled_by (ruling_byte r) ≡ r
unfolding ruled_by
back keeps = refl
back forces = refl
back bars = refl
back was_required = refl
back was_excluded = refl

-- one byte, one ruling
one-ruling : (r s : Ruling) → ruling_byte r ≡ ruling_byte s → r ≡ s
one-ruling r s e = sym (back r) ∙ ap ruled_by e ∙ back s

-- the rulings of a free edge
of_free : (b f : Bool) → (ruling_byte (ruled free b f) ≡ 0) ⊎ (ruling_byte (ruled free b f) ≡ 1) ⊎ (ruling_byte (ruled free b f) ≡ 2)
of_free true f = inr (inr refl)
of_free false true = inr (inl refl)
of_free false false = inl refl

not-high : (x : ℕ) → (x ≡ 0) ⊎ (x ≡ 1) ⊎ (x ≡ 2) → (x ≡ 3) ⊎ (x ≡ 4) → ⊥
not-high x (inl e) (inl h) = omega arith
not-high x (inl e) (inr h) = omega arith
not-high x (inr (inl e)) (inl h) = omega arith
not-high x (inr (inl e)) (inr h) = omega arith
not-high x (inr (inr e)) (inl h) = omega arith
not-high x (inr (inr e)) (inr h) = omega arith

-- an edge has one mark
not-both : (x y : Mark) → ¬ (x ≡ y) → (z : Mark) → z ≡ x → z ≡ y → ⊥
not-both x y n z e f = n (sym e ∙ f)

-- what a byte says of edge k of a network
record Ruled (g : Network) (d : ℕ → ℤ) (ceiling : ℤ) (k byte : ℕ) : Type 0 where
  keeps : (byte ≡ 0) ↔ ((g.mark k ≡ free) × (¬ Barred g d ceiling k) × (¬ Forced g d ceiling k))
  forces : (byte ≡ 1) ↔ ((g.mark k ≡ free) × Forced g d ceiling k)
  bars : (byte ≡ 2) ↔ ((g.mark k ≡ free) × Barred g d ceiling k)
  was_required : (byte ≡ 3) ↔ (g.mark k ≡ required)
  was_excluded : (byte ≡ 4) ↔ (g.mark k ≡ excluded)

module _ (g : Network) (d : ℕ → ℤ) (ceiling : ℤ) (k : ℕ) (m : k ∈ up_to g.m) (feasible : ¬ Infeasible g d ceiling) where
  r : Ruling
  r = ruling g d ceiling k

  low : g.mark k ≡ free → (ruling_byte r ≡ 0) ⊎ (ruling_byte r ≡ 1) ⊎ (ruling_byte r ≡ 2)
  unfolding r ruling
  low e = rw e (of_free (barred_b g d ceiling k) (forced_b g d ceiling k))

  free_byte : g.mark k ≡ free → Ruled g d ceiling k (ruling_byte r)
  unfolding r
  free_byte e = record {
    keeps = (
      (λ h. (
        e,
        (λ b. absurd (omega (arith, h, ap ruling_byte (x.0.1 b)))),
        (λ f. absurd (omega (arith, h, ap ruling_byte (x.1.1 f)))),
      )),
      λ q. ap ruling_byte (rules_nothing g d ceiling k m e q.1 q.2),
    );
    forces = ((λ h. (e, x.1.0 (one-ruling _ forces h))), λ q. ap ruling_byte (x.1.1 q.1));
    bars = ((λ h. (e, x.0.0 (one-ruling _ bars h))), λ q. ap ruling_byte (x.0.1 q.1));
    was_required = ((λ h. absurd (not-high (ruling_byte r) (low e) (inl h))), λ q. absurd (not-both free required (λ n. cc) _ e q));
    was_excluded = ((λ h. absurd (not-high (ruling_byte r) (low e) (inr h))), λ q. absurd (not-both free excluded (λ n. cc) _ e q));
  }
    where
      x : ((ruling g d ceiling k ≡ bars) ↔ Barred g d ceiling k)
          × ((ruling g d ceiling k ≡ forces) ↔ Forced g d ceiling k)
      x = rules_exactly g d ceiling k m feasible e

  required_byte_lem : g.mark k ≡ required → Ruled g d ceiling k (ruling_byte r)
  required_byte_lem e = record {
    keeps = ((λ h. absurd (omega (arith, h, three))), λ q. absurd (off free (λ n. cc) q.0));
    forces = ((λ h. absurd (omega (arith, h, three))), λ q. absurd (off free (λ n. cc) q.0));
    bars = ((λ h. absurd (omega (arith, h, three))), λ q. absurd (off free (λ n. cc) q.0));
    was_required = ((λ h. e), λ q. three);
    was_excluded = ((λ h. absurd (omega (arith, h, three))), λ q. absurd (off excluded (λ n. cc) q));
  }
    where
      three : ruling_byte r ≡ 3
      three = unfold r in ap ruling_byte (rules_required g d ceiling k m e)

      off : (x : Mark) → ¬ (x ≡ required) → g.mark k ≡ x → ⊥
      off x n q = not-both x required n _ q e

  excluded_byte : g.mark k ≡ excluded → Ruled g d ceiling k (ruling_byte r)
  excluded_byte e = record {
    keeps = ((λ h. absurd (omega (arith, h, four))), λ q. absurd (off free (λ n. cc) q.0));
    forces = ((λ h. absurd (omega (arith, h, four))), λ q. absurd (off free (λ n. cc) q.0));
    bars = ((λ h. absurd (omega (arith, h, four))), λ q. absurd (off free (λ n. cc) q.0));
    was_required = ((λ h. absurd (omega (arith, h, four))), λ q. absurd (off required (λ n. cc) q));
    was_excluded = ((λ h. e), λ q. four);
  }
    where
      four : ruling_byte r ≡ 4
      four = unfold r in ap ruling_byte (rules_excluded g d ceiling k m e)

      off : (x : Mark) → ¬ (x ≡ excluded) → g.mark k ≡ x → ⊥
      off x n q = not-both x excluded n _ q e

  -- the byte of any edge
  byte_of : Ruled g d ceiling k (ruling_byte (ruling g d ceiling k))
  unfolding r
  byte_of = go (g.mark k) refl
    where
      go : (x : Mark) → g.mark k ≡ x → Ruled g d ceiling k (ruling_byte r)
      go free e = free_byte e
      go required e = required_byte_lem e
      go excluded e = excluded_byte e

-- over the vertices that are afloat: the network of those alone has these rulings
module _ (g : Graph) (d : List ℤ) (l : List ℕ) (ceiling : ℤ) (q k : ℕ) (m : k ∈ up_to (network g).m) (fit : Fit (ashore l) (scaled_by q (network g)))
    (feasible : ¬ InfeasibleBy g d l ceiling q) where
  abbrev s : Ashore
  s = ashore l

  abbrev G : Network
  G = scaled_by q (network g)

  abbrev δ : ℕ → ℤ
  δ = reduced_multiplier (ashore l) G.n (multiplier d)

  bars_iff : BarredBy g d l ceiling q k ↔ Barred (reduced s G) δ (q times ceiling) k
  bars_iff = barred_iff s G fit (multiplier d) (q times ceiling) k

  forces_iff : ForcedBy g d l ceiling q k ↔ Forced (reduced s G) δ (q times ceiling) k
  forces_iff = forced_iff s G fit (multiplier d) (q times ceiling) k

  dead_iff : InfeasibleBy g d l ceiling q ↔ Infeasible (reduced s G) δ (q times ceiling)
  dead_iff = infeasible_iff s G fit (multiplier d) (q times ceiling)

  over : (byte : ℕ) → Ruled (reduced s G) δ (q times ceiling) k byte → RuledExactly g d l ceiling q k byte
  over byte r = record {
    keeps = (
      (λ e. let x = r.keeps.0 e in (x.0, (λ b. x.1 (bars_iff.0 b)), λ f. x.2 (forces_iff.0 f))),
      λ x. r.keeps.1 (x.0, (λ b. x.1 (bars_iff.1 b)), λ f. x.2 (forces_iff.1 f)),
    );
    forces = ((λ e. let x = r.forces.0 e in (x.0, forces_iff.1 x.1)), λ x. r.forces.1 (x.0, forces_iff.0 x.1));
    bars = ((λ e. let x = r.bars.0 e in (x.0, bars_iff.1 x.1)), λ x. r.bars.1 (x.0, bars_iff.0 x.1));
    was_required = r.was_required;
    was_excluded = r.was_excluded;
    touches = λ e. r.was_excluded.1 (touched_excluded s G fit k m e);
    one_only = λ b f. feasible (dead_iff.1 (both_infeasible (reduced s G) δ (q times ceiling) k (bars_iff.0 b) (forces_iff.0 f)));
  }

  -- the byte of any edge
  pub byte_exactly : RuledExactly g d l ceiling q k (ruling_byte (rulings_of g d l ceiling q k))
  byte_exactly =
      subst (λ (x : Ruling). RuledExactly g d l ceiling q k (ruling_byte x)) (sym (ruling-reduced s G fit (multiplier d) (q times ceiling) k))
      (over _ (byte_of (reduced s G) δ (q times ceiling) k m (λ i. feasible (dead_iff.1 i))))

-- what a list with a value for each edge has for edge k
pub byte_at : (m : ℕ) (f : ℕ → ℕ) (k : ℕ) → 1 ≤ k → k ≤ m → get_or (row m f) (k - 1) 0 ≡ f k
byte_at m f zero l h = absurd (let z : suc 0 ≤ 0 = l in omega arith)
byte_at m f (suc k) l h =
    let e : suc k - 1 ≡ k = omega arith in
    ap (λ (j : ℕ). get_or (row m f) j 0) e ∙ row_at m f k 0 h
