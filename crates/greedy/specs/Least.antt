-- What the search for the least 1-tree answers, and every byte that it leaves in the lists that it is lent, for every input: the first
-- fault; or the least 1-tree, or that there is none.
--   Weighed           what stands in the lists where there is no fault, whether there is a 1-tree or not
--   TreeFound         the least 1-tree is found
--   NoTree            there is none
--   Finds             either of these by the answer
--   Leaves            and what a fault leaves
--   LeastOrRefused    and which answer it is
--   Searched          what the search for the tree itself comes to, before a tree that is none is wiped out
use Rattle.std.specs.Prelude.{◌≡◌, refl, ◌⊎◌, List, ℕ, ◌<◌, ◌≤◌, length, get_or, replicate, ℤ, Option, None, Some, Result, Ok, Err}
use Rattle.std.specs.Int.Signed.{mag}
use Rattle.integers.specs.Parts.{up, dn}
use Rattle.graph.specs.declared.Graph.{Graph}
use Rattle.graph.specs.declared.Refusal.{Refusal}
use Rattle.graph.specs.Limits.{max_edges}
use Rattle.graph.specs.Network.{network}
use Rattle.graph.specs.Refusals.{fault_of}
use Rattle.tree_theory.specs.OneTree.{Edges, OneTree, Least, bound}
use Rattle.tree_theory.specs.Inputs.{multiplier, denominator_fault, input_fault}
use Rattle.tree_theory.specs.Scaled.{scaled_by}
use Rattle.tree_theory.specs.Arrays.{blank, bytes}
use Rattle.tree_theory.specs.Merges.{Merges}
use Rattle.greedy.specs.declared.Lists.{Lists}
use Rattle.greedy.specs.declared.Found.{Found}
use Rattle.greedy.specs.Charged.{high_bound, low_bound, Charged}
use Rattle.greedy.specs.ChoiceSoFar.{max_labels}
use Rattle.greedy.specs.Hint.{Hinted}

-- 0 at every place
abbrev pub blank_lists : Lists
blank_lists = record { tree = blank; charges = blank; order = blank; labels = replicate max_labels 0 }

-- each edge has its charge, where multipliers count in q-ths, and past the edges stands 0; each vertex has its label
pub record Weighed (q : ℕ) (g : Graph) (d : List ℤ) (after : Lists) : Type 0 where
  pub charged : Charged q g d after.charges
  pub rest : (k : ℕ) → g.m ≤ k → get_or after.charges k 0 ≡ 0
  pub long : length after.charges ≡ max_edges
  pub merges : Merges g after.labels

-- the tree is the least, one byte an edge and 0 past them, and the bound is its bound; the order lists the edges that are not excluded, each
-- once, then 0. Of the order it is free which edge stands where: no answer depends on it
pub record TreeFound (q : ℕ) (g : Graph) (d : List ℤ) (r : Found) (after : Lists) : Type 0 where
  pub weighed : Weighed q g d after
  pub least : Least (scaled_by q (network g)) (multiplier d) (bytes after.tree)
  pub bound_is : r.bound ≡ bound (scaled_by q (network g)) (multiplier d) (bytes after.tree)
  pub fits : mag r.bound < 9223372036854775808
  pub high : up r.bound ≤ high_bound
  pub low : dn r.bound ≤ low_bound
  pub bits : (k : ℕ) → (get_or after.tree k 0 ≡ 0) ⊎ (get_or after.tree k 0 ≡ 1)
  pub past : (k : ℕ) → g.m ≤ k → get_or after.tree k 0 ≡ 0
  pub long : length after.tree ≡ max_edges
  pub hinted : Hinted g.mark g.m after.order r.live

-- no byte is left of a tree, nor of a hint
pub record NoTree (q : ℕ) (g : Graph) (d : List ℤ) (after : Lists) : Type 0 where
  pub weighed : Weighed q g d after
  pub none : (t : Edges) → ¬ OneTree (scaled_by q (network g)) t
  pub tree : after.tree ≡ blank
  pub order : after.order ≡ blank

abbrev pub Finds : ℕ → Graph → List ℤ → Option Found → Lists → Type 0
Finds q g d None after = NoTree q g d after
Finds q g d (Some r) after = TreeFound q g d r after

-- a fault changes nothing
abbrev pub Leaves : ℕ → Graph → List ℤ → Lists → Result (Option Found) Refusal → Lists → Type 0
Leaves q g d before (Err fault) after = after ≡ before
Leaves q g d before (Ok r) after = Finds q g d r after

-- the lists are the caller's own, so none that is lent can be of wrong length. Document 02, C-17: "32 when q is out of range" comes after the faults of
-- the other input
pub record LeastOrRefused (q : ℕ) (g : Graph) (d : List ℤ) (before : Lists) (r : Result (Option Found) Refusal) (after : Lists) : Type 0 where
  pub fault : fault_of r ≡ input_fault g d g.m (denominator_fault q)
  pub leaves : Leaves q g d before r after

-- ---- the search for the tree itself

abbrev pub Searched : ℕ → Graph → List ℤ → Option Found → Lists → Type 0
Searched q g d None after = Weighed q g d after × ((t : Edges) → ¬ OneTree (scaled_by q (network g)) t)
Searched q g d (Some r) after = TreeFound q g d r after

pub wiped : (q : ℕ) (g : Graph) (d : List ℤ) (after : Lists) → Searched q g d None after → NoTree q g d (record after { tree = blank; order = blank })
wiped q g d after s = record {
  weighed = record { charged = s.0.charged; rest = s.0.rest; long = s.0.long; merges = s.0.merges };
  none = s.1;
  tree = refl;
  order = refl;
}
