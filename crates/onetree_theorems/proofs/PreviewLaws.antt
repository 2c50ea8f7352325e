-- WHAT Previews.antt SAYS OF PREVIEWS BESIDE THE RULE CALL: the rule call bars or forces a free edge exactly where its previews are beyond the
-- ceiling; and of an edge that touches a vertex ashore the preview is the tree call's own answer. Assumes nothing.
use Rattle.std.proofs.Math.Path.{◌≡◌, refl, subst}
use Rattle.std.proofs.Common.{sym, ap, ◌∙◌, inl, inr}
use mathlib.Core.Logic.Iff.{symm, trans}
use Rattle.std.specs.Prelude.{◌↔◌, ◌⊎◌, Bool, true, false, cond, List, ℕ, zero, suc, ◌≤◌, ◌-◌, length, get_or, ℤ}
use native.Mathlib.Omega.{arith}
use Rattle.integers.specs.Multiples.{◌times◌}
use Rattle.graph.specs.declared.Graph.{Graph}
use Rattle.graph.specs.Limits.{max_edges}
use Rattle.graph.specs.Network.{Network, free, excluded, mark_of, network}
use Rattle.graph.specs.Places.{network_mark}
use Rattle.graph.specs.Valid.{Valid}
use Rattle.tree_theory.specs.Inputs.{multiplier}
use Rattle.tree_theory.specs.Scaled.{scaled_by}
use Rattle.tree_theory.specs.Enumeration.{Tree, no_tree, a_tree}
use Rattle.tree_theory.specs.LeastTree.{Above}
use Rattle.afloat.specs.Over.{ashore, touched, InfeasibleOver}
use Rattle.afloat.specs.Reduced.{Fit}
use Rattle.afloat.proofs.Meaning.{infeasible_over_tree}
use Rattle.onetree.specs.Answers.{tree_says, tree_writes}
use Rattle.reduction.specs.Answers.{tree_of, tree_fault_over, tree_reply_over, tree_leaves_over, rule_reply_over, rule_leaves_over}
use Rattle.preview.specs.Preview.{remarked, preview_reply, preview_leaves}
use Rattle.onetree_theorems.specs.Calls.{Fine, tree_asks, rule_asks, BarredBy, ForcedBy, RuledExactly, GivesRulings}
use Rattle.onetree_theorems.specs.Refusing.{fault_none}
use Rattle.onetree_theorems.specs.Refusing.{tree_tests, tree-fault}
use Rattle.onetree_theorems.specs.Theorems.{fit_for}
use Rattle.onetree_theorems.specs.LowerCeiling.{gave_fine}
use Rattle.onetree_theorems.proofs.LowerCeiling.{gave}
use Rattle.onetree_theorems.specs.Previews.{preview_asks, Beyond, PreviewTouched, Previewed}
use Rattle.onetree_theorems.specs.PreviewLaws.{required_barred, excluded_forced, copy_fine, preview_exactly, same_tree}

-- ---- of rulings

module _ (g : Graph) (d : List ℤ) (l : List ℕ) (den k x : ℕ) (out : List ℕ) where
  abbrev copy : Network
  copy = scaled_by den (network (remarked g k x))

  -- where nothing is wrong, 'beyond the ceiling' is 'infeasible' of the copy
  beyond : (ceiling : ℤ) → Fine (preview_asks g d l den k x (length out))
      → Beyond ceiling (preview_reply g d l den k x (length out)) ↔ InfeasibleOver (ashore l) copy (multiplier d) ceiling
  unfolding tree_reply_over
  beyond ceiling f =
      rw (((preview_exactly g d l den k x out).as_tree f).0, tree_none (copy_fine g d l den k x (length out) f))
      (symm (says (tree_of (remarked g k x) d l den)
      (infeasible_over_tree (ashore l) copy (fit (copy_fine g d l den k x (length out) f)) (multiplier d) ceiling)))
    where
      tree_none : Fine (tree_asks (remarked g k x) d l den (length out)) → tree_fault_over (remarked g k x) d l den (length out) ≡ 0
      tree_none h =
          tree-fault (remarked g k x) d l den (length out) ∙ (fault_none _ (tree_tests (remarked g k x) d l den (length out))).1 h

      fit : Fine (tree_asks (remarked g k x) d l den (length out)) → Fit (ashore l) copy
      fit h = fit_for (remarked g k x) l den h.0 h.1.1.1.1.0

      says : (t : Tree) → InfeasibleOver (ashore l) copy (multiplier d) ceiling ↔ Above copy (multiplier d) ceiling t
          → InfeasibleOver (ashore l) copy (multiplier d) ceiling ↔ Beyond ceiling (tree_says t)
      says no_tree i = i
      says (a_tree b t) i = i

byte_free : (y : ℕ) → mark_of y ≡ free → y ≡ 0
unfolding mark_of
byte_free zero e = refl
byte_free (suc zero) e = absurd (let z : ◌≡◌ {A = ℕ} 0 1 = cc in omega arith)
byte_free (suc (suc y)) e = absurd (let z : ◌≡◌ {A = ℕ} 0 1 = cc in omega arith)

pub preview_rules : Previewed
preview_rules g d l ceiling den out k long at least most is_free_lem = record {
  bars =
      trans (ruled_bars (r.each k least most))
      (symm (trans (beyond g d l den k 1 out (den times ceiling) (asked 1 (inl refl)))
      (required_barred g k long valid least most (ashore l) is_free_lem den (multiplier d) (den times ceiling))));
  forces =
      trans (ruled_forces (r.each k least most))
      (symm (trans (beyond g d l den k 2 out (den times ceiling) (asked 2 (inr refl)))
      (excluded_forced g k long valid least most (ashore l) is_free_lem den (multiplier d) (den times ceiling))));
}
  where
    r : GivesRulings g d l ceiling den (rule_reply_over g d l ceiling den (length out)) (rule_leaves_over g d l ceiling den out)
    r = gave g d l ceiling den out at

    fine : Fine (rule_asks g d l ceiling den (length out))
    fine = gave_fine g d l ceiling den (length out) at

    valid : Valid g
    valid = fine.0

    -- an edge that is free by the mark that counts is free by its own
    own_free : (network g).mark k ≡ free
    own_free = go (touched (ashore l) (network g) k) is_free_lem
      where
        go : (b : Bool) → cond b excluded ((network g).mark k) ≡ free → (network g).mark k ≡ free
        go true e = absurd (let z : ◌≡◌ {A = ℕ} 0 1 = cc in omega arith)
        go false e = e

    free_byte : get_or g.mark (k - 1) 0 ≡ 0
    free_byte = byte_free _ (sym (network_mark g (k - 1) (omega (arith, least, most))) ∙ subst (λ (i : ℕ). (network g).mark i ≡ free) (back k least) own_free)
      where
        back : (i : ℕ) → 1 ≤ i → i ≡ suc (i - 1)
        back i h = omega (arith, h)

    asked : (x : ℕ) → (x ≡ 1) ⊎ (x ≡ 2) → Fine (preview_asks g d l den k x (length out))
    asked x is = (fine.0, (fine.1.0, (fine.1.1.0, (fine.1.1.1.1.0, (fine.1.1.1.1.1.0, ((least, most, is), (free_byte, tt)))))))

    ruled_bars : {y : ℕ} → RuledExactly g d l ceiling den k y → (y ≡ 2) ↔ BarredBy g d l ceiling den k
    ruled_bars e = ((λ h. (e.bars.0 h).1), λ b. e.bars.1 (is_free_lem, b))

    ruled_forces : {y : ℕ} → RuledExactly g d l ceiling den k y → (y ≡ 1) ↔ ForcedBy g d l ceiling den k
    ruled_forces e = ((λ h. (e.forces.0 h).1), λ f. e.forces.1 (is_free_lem, f))

-- ---- of an edge that touches a vertex ashore

module _ (g : Graph) (d : List ℤ) (l : List ℕ) (q k mark : ℕ) (out : List ℕ) (long : length g.mark ≡ max_edges) where
  pub preview_touched : PreviewTouched g d l q k mark out
  unfolding tree_reply_over tree_leaves_over
  preview_touched f e = (copied.0 ∙ replies, copied.1 ∙ lists)
    where
      copied : (preview_reply g d l q k mark (length out) ≡ tree_reply_over (remarked g k mark) d l q (length out))
          × (preview_leaves g d l q k mark out ≡ tree_leaves_over (remarked g k mark) d l q out)
          × Fine (tree_asks (remarked g k mark) d l q (length out))
      copied = (preview_exactly g d l q k mark out).as_tree f

      none : (h : Graph) → Fine (tree_asks h d l q (length out)) → tree_fault_over h d l q (length out) ≡ 0
      none h x = tree-fault h d l q (length out) ∙ (fault_none _ (tree_tests h d l q (length out))).1 x

      own : Fine (tree_asks g d l q (length out))
      own = (f.0, (f.1.0, (f.1.1.0, (f.1.1.1.0, (f.1.1.1.1.0, tt)))))

      tree : tree_of (remarked g k mark) d l q ≡ tree_of g d l q
      tree = same_tree g k mark long f.0 f.1.1.1.1.1.0.0 f.1.1.1.1.1.0.1 (ashore l) e q (multiplier d)

      replies : tree_reply_over (remarked g k mark) d l q (length out) ≡ tree_reply_over g d l q (length out)
      replies = rw (none (remarked g k mark) copied.2, none g own) (ap tree_says tree)

      lists : tree_leaves_over (remarked g k mark) d l q out ≡ tree_leaves_over g d l q out
      lists = rw (none (remarked g k mark) copied.2, none g own) (unfold remarked in ap (tree_writes g.m out) tree)
