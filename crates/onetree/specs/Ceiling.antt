-- The least 1-tree against a ceiling: what is known once the rulings are worked out. Multipliers, bounds and the ceiling count in parts of a minute, by
-- the denominator den. Assumes nothing.
use Rattle.std.specs.Prelude.{◌≡◌, refl, Bool, true, false, not, cond, List, ℕ, suc, ◌<◌, ◌≤◌, length, get_or, ℤ, Option, None, Some}
use Rattle.std.proofs.Common.{◌∙◌, sym, ap, subst, arith}
use Rattle.std.specs.Int.Signed.{lt_z, mag}
use Rattle.lists.specs.Bools.{bit}
use Rattle.integers.specs.Parts.{up, dn}
use Rattle.integers.specs.Range.{InRange, within, within_range}
use Rattle.graph.specs.declared.Graph.{Graph}
use Rattle.graph.specs.Limits.{max_edges, max_ceiling, max_denominator}
use Rattle.graph.specs.Network.{network}
use Rattle.tree_theory.specs.OneTree.{Edges}
use Rattle.tree_theory.specs.Scaled.{scaled_by}
use Rattle.tree_theory.specs.Inputs.{multiplier, ceiling_fits, denominator_fault}
use Rattle.tree_theory.specs.Accepted.{passed, denominator_range}
use Rattle.tree_theory.specs.Enumeration.{Tree, no_tree, a_tree, least_tree}
use Rattle.tree_theory.specs.LeastTree.{tree_found, tree_missing}
use Rattle.lifting.specs.Lifted.{ruling_with}
use Rattle.onetree.specs.Answers.{ruling_byte, ruling_bytes, all_keep}
use Rattle.tree_theory.specs.Arrays.{blank, bytes, in_edge}
use Rattle.greedy.specs.Charged.{high_bound, low_bound, max_slack}
use Rattle.greedy.specs.declared.Found.{Found}
use Rattle.greedy.specs.declared.Lists.{Lists}
use Rattle.greedy.specs.Least.{Weighed, TreeFound, NoTree}
use Rattle.greedy.specs.Hint.{Hinted}
use Rattle.onetree.specs.declared.PassLists.{PassLists}
use Rattle.onetree.specs.TreeCall.{byte_is}
use Rattle.swaps.specs.Slack.{SlackIs}
use Rattle.onetree.specs.Ruled.{RuledBy}

-- what the code knows of the bound of any 1-tree
pub record BoundFits (b : ℤ) : Type 0 where
  pub high : up b ≤ high_bound
  pub low : dn b ≤ low_bound

-- no 1-tree is within the ceiling: there is none, or the least one is above it
abbrev pub Over : ℤ → Tree → Type 0
Over ceiling no_tree = Unit {0}
Over ceiling (a_tree b t) = (lt_z ceiling b ≡ true)

-- the least 1-tree has this bound, within the ceiling, and the lists have its bytes and the rulings'
pub record Within (lifting : Bool) (den : ℕ) (g : Graph) (d : List ℤ) (ceiling b : ℤ) (tree rulings : List ℕ) : Type 0 where
  pub edges : Edges
  pub least : least_tree (scaled_by den (network g)) (multiplier d) ≡ a_tree b edges
  pub fits : mag b < 9223372036854775808
  pub under : lt_z ceiling b ≡ false
  pub chosen : (k : ℕ) → k < g.m → get_or tree k 0 ≡ bit (edges (suc k))
  pub ruled : (k : ℕ) → k < g.m → get_or rulings k 0 ≡ ruling_byte (ruling_with lifting (scaled_by den (network g)) (multiplier d) ceiling (suc k))
  pub past : (k : ℕ) → g.m ≤ k → (get_or tree k 0 ≡ 0) × (get_or rulings k 0 ≡ 0)
  pub long : (length tree ≡ max_edges) × (length rulings ≡ max_edges)

-- no 1-tree is within the ceiling, and all lists are blank
pub record NoneWithin (den : ℕ) (g : Graph) (d : List ℤ) (ceiling : ℤ) (after : PassLists) : Type 0 where
  pub over : Over ceiling (least_tree (scaled_by den (network g)) (multiplier d))
  pub tree : after.least.tree ≡ blank
  pub order : after.least.order ≡ blank
  pub rulings : after.rulings ≡ all_keep

-- what the lists are by the answer, of a call's input without a fault
abbrev pub AgainstCeiling : Bool → ℕ → Graph → List ℤ → ℤ → Option Found → PassLists → Type 0
AgainstCeiling lifting den g d ceiling None after = NoneWithin den g d ceiling after × Weighed den g d after.least
AgainstCeiling lifting den g d ceiling (Some r) after =
    Within lifting den g d ceiling r.bound after.least.tree (ruling_bytes after.rulings) × Hinted g.mark g.m after.least.order r.live
    × Weighed den g d after.least

-- ---- the fault of the ceiling comes before that of the denominator

pub ceiling_first : (ceiling : ℤ) (den n : ℕ) → n ≡ cond (not (ceiling_fits ceiling)) 13 0 → 1 ≤ n
    → n ≡ cond (not (ceiling_fits ceiling)) 13 (denominator_fault den)
ceiling_first ceiling den n h p = first (ceiling_fits ceiling) h
  where
    first : (t : Bool) → n ≡ cond (not t) 13 0 → n ≡ cond (not t) 13 (denominator_fault den)
    first true e = absurd (omega arith)
    first false e = e

pub ceiling_next : (ceiling : ℤ) (den n : ℕ) → ◌≡◌ {A = ℕ} 0 (cond (not (ceiling_fits ceiling)) 13 0) → n ≡ denominator_fault den
    → n ≡ cond (not (ceiling_fits ceiling)) 13 (denominator_fault den)
ceiling_next ceiling den n h e = rw (passed (ceiling_fits ceiling) 13 0 (omega arith) (sym h)).0 e

pub ceiling_ranges : (ceiling : ℤ) (den : ℕ) → ◌≡◌ {A = ℕ} 0 (cond (not (ceiling_fits ceiling)) 13 0) → 0 ≡ denominator_fault den
    → InRange max_ceiling ceiling × (den ≤ max_denominator)
unfolding ceiling_fits
ceiling_ranges ceiling den h e =
    (within_range max_ceiling ceiling (passed (within max_ceiling ceiling) 13 0 (omega arith) (sym h)).0, (denominator_range den (sym e)).1)

-- ---- what was found, beside the ceiling

pub ceiling_missing : (den : ℕ) (g : Graph) (d : List ℤ) (ceiling : ℤ) (found : Lists) → NoTree den g d found
    → NoneWithin den g d ceiling (record { least = found; rulings = all_keep })
ceiling_missing den g d ceiling found n = record {
  over = rw (tree_missing (scaled_by den (network g)) (multiplier d) n.none) tt;
  tree = n.tree;
  order = n.order;
  rulings = refl;
}

-- charges and labels don't depend on the tree and the order
pub weighed_blank : (den : ℕ) (g : Graph) (d : List ℤ) (found : Lists) → Weighed den g d found
    → Weighed den g d (record found { tree = blank; order = blank })
weighed_blank den g d found w = record { charged = w.charged; rest = w.rest; long = w.long; merges = w.merges }

module _ (den : ℕ) (g : Graph) (d : List ℤ) (ceiling : ℤ) (r : Found) (found : Lists) (t : TreeFound den g d r found) where
  edges : (x : Edges) × (least_tree (scaled_by den (network g)) (multiplier d) ≡ a_tree r.bound x) ×
      ((k : ℕ) → k < g.m → x (suc k) ≡ bytes found.tree (suc k))
  edges =
      let x = tree_found (scaled_by den (network g)) (multiplier d) (bytes found.tree) t.least in
      (x.0, rw t.bound_is x.1, λ k h. x.2 (suc k) (in_edge g k h))

  pub found_fits : BoundFits r.bound
  found_fits = record { high = t.high; low = t.low }

  -- the least one is above the ceiling
  pub ceiling_over : lt_z ceiling r.bound ≡ true
      → NoneWithin den g d ceiling (record { least = record found { tree = blank; order = blank }; rulings = all_keep })
  ceiling_over l = record { over = rw edges.1 l; tree = refl; order = refl; rulings = refl }

  -- it is within it
  pub ceiling_within : (lifting : Bool) → lt_z ceiling r.bound ≡ false → (slack : ℕ) → SlackIs ceiling r.bound slack → slack ≤ max_slack
      → (res : List ℕ) → RuledBy lifting g d found.tree found.charges slack res → length res ≡ max_edges
      → Within lifting den g d ceiling r.bound found.tree res
  ceiling_within lifting l slack s small res ruled long = record {
    edges = edges.0;
    least = edges.1;
    fits = t.fits;
    under = l;
    chosen = λ k h. byte_is (get_or found.tree k 0) (t.bits k) ∙ ap bit (sym (edges.2 k h));
    ruled = ruled.each den ceiling (record {
      charged = t.weighed.charged;
      least = t.least;
      within = subst (λ (x : ℤ). SlackIs ceiling x slack) t.bound_is s;
      small = small;
    });
    past = λ k h. (t.past k h, ruled.past k h);
    long = (t.long, long);
  }
