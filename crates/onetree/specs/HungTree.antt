-- The least 1-tree, hung, as the code has it: the queue has the labels below the root, and each edge above one its own place. Assumes nothing.
use Rattle.std.specs.Prelude.{◌≡◌, List, [], ℕ, ◌≤◌, length, replicate}
use Rattle.std.proofs.Common.{arith}
use Rattle.graph.specs.declared.Graph.{Graph}
use Rattle.tree_theory.specs.Spans.{Spans}
use Rattle.tree_theory.specs.Merges.{Merges}
use Rattle.swaps.specs.TreeTable.{Ends, Lists}
use Rattle.swaps.specs.Visiting.{Rooting, rooting, depth_at, Rows, Hung, Complete, Lined}
use Rattle.swaps.specs.RootedTree as tree
use Rattle.swaps.specs.RootedTree.{Labelled, RootedIn, two_ends, walkable}
use Rattle.swaps.specs.Swaps.{Below}
use Rattle.onetree.specs.declared.rooted.Rooting as code
use Rattle.onetree.specs.Candidates.{BelowRoot, queue_below, below_queue}
use Rattle.onetree.specs.Forcing.{OneEach, one_each_as}
use Rattle.onetree.specs.Ruled.{one_each}

-- the tree that the code's arrays are
abbrev pub rooting_of : code.Rooting → Rooting
rooting_of h = rooting h.parent h.depth h.edge

-- its labels in the order of hanging, and how many they are
abbrev pub queue_of : code.Rooting → List ℕ
queue_of h = h.queue.items

abbrev pub count_of : code.Rooting → ℕ
count_of h = length h.queue.items

-- nothing hangs yet
pub record Unhung (h : code.Rooting) : Type 0 where
  pub parent : h.parent ≡ replicate 21 0
  pub depth : h.depth ≡ replicate 21 0
  pub edge : h.edge ≡ replicate 21 0
  pub queue : h.queue.items ≡ []

pub record HungTree (g : Graph) (w rep : List ℕ) (r : Rooting) (queue : List ℕ) (count : ℕ) : Type 0 where
  pub rooted : RootedIn g w rep r
  pub below : (v : ℕ) → BelowRoot queue count v → Below r v
  pub queued : (v : ℕ) → Below r v → BelowRoot queue count v
  pub each : OneEach (BelowRoot queue count) r.edge
  pub low : (v : ℕ) → 1 ≤ depth_at r v → 2 ≤ v
  pub some : 1 ≤ count
  pub few : count ≤ 21

module _ (g : Graph) (w rep from to : List ℕ) (spans : Spans g w) (merges : Merges g rep) (labelled : Labelled g rep from to) where
  pub ends_in : Ends g w from to
  ends_in = two_ends g spans.valid w spans.tree rep merges from to labelled

  module _ (t : List (List ℕ)) (lists : Lists g w from to t) where
    pub rows_in : Rows from to g.n t
    rows_in = walkable g w from to t spans.valid ends_in lists

    pub hung_tree : (r : Rooting) (queue : List ℕ) (count : ℕ) → Hung from to t g.n r → Complete from to t r → Lined r.depth queue count
        → HungTree g w rep r queue count
    hung_tree r queue count hung complete lined = record {
      rooted = root;
      below = down;
      queued = below_queue r queue count lined;
      each = one_each_as (Below r) (BelowRoot queue count) r.edge down (one_each g spans.valid w spans.tree rep r root);
      low = λ v d. (hung.inside v d).0;
      some = lined.first.0;
      few = omega (arith, lined.room);
    }
      where
        root : RootedIn g w rep r
        root = tree.rooted g spans.valid w spans.tree rep merges from to labelled t lists r hung complete

        down : (v : ℕ) → BelowRoot queue count v → Below r v
        down = queue_below r queue count lined (λ v d. (hung.inside v d).0)
