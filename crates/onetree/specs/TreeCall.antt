-- From what code knows to what the tree call promises: its reply and lent list in each of its cases. Assumes nothing.
use Rattle.std.specs.Prelude.{◌≡◌, refl, ◌≢◌, ◌⊎◌, Bool, true, false, not, cond, ◌&&◌, List, ℕ, zero, suc, ◌<◌, ◌≤◌, get_or, take, eqb, ℤ}
use Rattle.std.proofs.lemmas.List.{get_or-take, length-take-le}
use Rattle.std.proofs.Common.{◌∙◌, ap, inl, inr, ne_eqb}
use Rattle.std.proofs.Math.Path.{sym}
use Rattle.std.proofs.Math.ListN.{length}
use Rattle.lists.specs.Bools.{bit}
use Rattle.lists.specs.Members.{◌∈◌}
use Rattle.lists.specs.Numbers.{up_to}
use Rattle.lists.specs.Rows.{row, row_same, row_is}
use Rattle.graph.specs.declared.Graph.{Graph}
use Rattle.graph.specs.declared.refusals.Refusal.{Refusal}
use Rattle.graph.specs.Meaning.{true_valid, graph_fine, graph_refused}
use Rattle.graph.specs.Network.{network}
use Rattle.graph.specs.Refusals.{number}
use Rattle.graph.specs.Valid.{graph_fault}
use Rattle.tree_theory.specs.OneTree.{Edges, OneTree, Least, bound}
use Rattle.tree_theory.specs.Scaled.{scaled_by}
use Rattle.tree_theory.specs.Inputs.{multiplier, multipliers_fit, denominator_fault, input_fault}
use Rattle.tree_theory.specs.Enumeration.{Tree, no_tree, a_tree, least_tree}
use Rattle.tree_theory.specs.LeastTree.{tree_found, tree_missing}
use Rattle.onetree.specs.Answers.{Reply, refused, none, bounded, tree_fault, tree_reply, tree_leaves, tree_says, tree_writes, unless_fault, leaves}
use Rattle.tree_theory.specs.Arrays.{entry, bytes, in_edge}
use Rattle.tree_theory.specs.Accepted.{no_fault}

-- ---- the calls' answers, by the fault

pub fault-replies : (f : ℕ) (r : Reply) → f ≢ 0 → unless_fault f r ≡ refused f 0
fault-replies zero r n = absurd (n refl)
fault-replies (suc f) r n = refl

pub fault-leaves : (f : ℕ) (out after : List ℕ) → f ≢ 0 → leaves f out after ≡ out
fault-leaves zero out after n = absurd (n refl)
fault-leaves (suc f) out after n = refl

-- the graph's fault comes before that of a lent list's length, and this before all others
pub graph_first : (g : Graph) (d : List ℤ) (den len : ℕ) (r : Refusal) → number r ≡ graph_fault g → number r ≡ tree_fault g d den len
unfolding tree_fault input_fault
graph_first g d den len r h = let e = graph_refused g r h in rw (e.0, e.1) refl

pub length_first : (g : Graph) (d : List ℤ) (den len : ℕ) → 0 ≡ graph_fault g → len ≢ g.m → 11 ≡ tree_fault g d den len
unfolding tree_fault input_fault
length_first g d den len h n = rw (true_valid g (graph_fine g (sym h)), ne_eqb len g.m n) (wrong (eqb (length d) g.n))
  where
    wrong : (b : Bool) → 11 ≡ cond (not (b && false)) 11 (cond (not (multipliers_fit d)) 12 (denominator_fault den))
    wrong true = refl
    wrong false = refl

-- where it is right, the fault is that of what else is taken
pub tree_else : (g : Graph) (d : List ℤ) (den len n : ℕ) → len ≡ g.m → n ≡ input_fault g d g.m (denominator_fault den) → n ≡ tree_fault g d den len
unfolding tree_fault
tree_else g d den len n l h = rw l h

-- the first bytes of a list are what stands there
pub row_front : (l : List ℕ) (n : ℕ) → n ≤ length l → take n l ≡ row n (entry l)
row_front l n h =
    row_is (take n l) 0 (entry l) (λ j i. get_or-take n l j 0 (rw long at i)) ∙ ap (λ (m : ℕ). row m (entry l)) long
  where
    long : length (take n l) ≡ n
    long = length-take-le n l h

-- the byte of an edge that is in or out
pub byte_is : (x : ℕ) → (x ≡ 0) ⊎ (x ≡ 1) → x ≡ bit (eqb x 1)
byte_is x (inl e) = rw e
byte_is x (inr e) = rw e

-- ---- the tree call

-- its reply r, and the list that it leaves
pub record TreeCall (g : Graph) (d : List ℤ) (den : ℕ) (out : List ℕ) (r : Reply) (after : List ℕ) : Type 0 where
  pub reply : r ≡ tree_reply g d den (length out)
  pub left : after ≡ tree_leaves g d den out

module _ (g : Graph) (d : List ℤ) (den : ℕ) (out : List ℕ) where
  pub tree-refused : (f : ℕ) → f ≡ tree_fault g d den (length out) → f ≢ 0 → TreeCall g d den out (refused f 0) out
  unfolding tree_reply tree_leaves
  tree-refused f e n = rw e (record {
    reply = sym (fault-replies (tree_fault g d den (length out)) _ (λ z. n (e ∙ z)));
    left = sym (fault-leaves (tree_fault g d den (length out)) out _ (λ z. n (e ∙ z)));
  })

  -- without a fault, by the least 1-tree
  by_tree : (t : Tree) → tree_fault g d den (length out) ≡ 0 → least_tree (scaled_by den (network g)) (multiplier d) ≡ t
      → TreeCall g d den out (tree_says t) (tree_writes g.m out t)
  unfolding tree_reply tree_leaves
  by_tree t e h = record { reply = rw (e, h); left = rw (e, h) }

  module _ (e : tree_fault g d den (length out) ≡ 0) where
    -- there is no 1-tree
    pub tree_none : ((t : Edges) → ¬ OneTree (scaled_by den (network g)) t) → TreeCall g d den out none out
    tree_none n = by_tree no_tree e (tree_missing (scaled_by den (network g)) (multiplier d) n)

    -- b is the bound of the least one, and w are its bytes
    module _ (b : ℤ) (w : List ℕ) (least : Least (scaled_by den (network g)) (multiplier d) (bytes w))
        (bound_is : b ≡ bound (scaled_by den (network g)) (multiplier d) (bytes w)) (bits : (k : ℕ) → (get_or w k 0 ≡ 0) ⊎ (get_or w k 0 ≡ 1)) where
      pub tree_some : TreeCall g d den out (bounded b) (row (length out) (entry w))
      unfolding tree_fault
      tree_some = go (tree_found (scaled_by den (network g)) (multiplier d) (bytes w) least)
        where
          lent : length out ≡ g.m
          lent = (no_fault g d (length out) (denominator_fault den) e).0.lent

          go : (x : Edges) × (least_tree (scaled_by den (network g)) (multiplier d) ≡ a_tree (bound (scaled_by den (network g)) (multiplier d) (bytes w)) x)
              × ((k : ℕ) → k ∈ up_to (network g).m → x k ≡ bytes w k)
              → TreeCall g d den out (bounded b) (row (length out) (entry w))
          go x = rw (bound_is, same) (by_tree (a_tree (bound (scaled_by den (network g)) (multiplier d) (bytes w)) x.0) e x.1)
            where
              at : (j : ℕ) → j < g.m → get_or w j 0 ≡ bit (x.0 (suc j))
              at j l = byte_is (get_or w j 0) (bits j) ∙ ap bit (sym (x.2 (suc j) (in_edge g j l)))

              same : row (length out) (entry w) ≡ row g.m (λ k. bit (x.0 k))
              same = rw lent (row_same g.m (entry w) (λ k. bit (x.0 k)) at)
