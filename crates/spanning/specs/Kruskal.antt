-- Kruskal's choice against any tree: where the edges that must be in are looked at first and the others by weight, the greedy choice
-- has as many edges, weighs no more, and has all that must be in; and it is a tree. Assumes nothing.
use Rattle.std.specs.Prelude.{◌≡◌, true, List, ◌++◌, ℕ, ◌+◌, length}
use Rattle.std.proofs.Math.Path.{sym}
use Rattle.std.proofs.Common.{◌∙◌}
use Rattle.lists.specs.Members.{◌∈◌}
use Rattle.lists.specs.Select.{select, select_full}
use Rattle.lists.specs.Same.{Shuffle, shuffle_back, shuffle_in, shuffle_length}
use Rattle.lists.specs.Sets.{NumberSet}
use Rattle.spanning.specs.Components.{joins, rank, same_rank}
use Rattle.spanning.specs.Choice.{choose, Desc, Listing, select_listing, select_chosen, Beats, choose_beats}
use Rattle.spanning.specs.Forests.{Forest, forest_base, greedy, greedy-length, greedy-rank, greedy_all, greedy_dominates}
use Rattle.spanning.specs.Trees.{Tree}

module _ (p q : ℕ → ℕ) (all es : List ℕ) (l : Listing all es) where
  pub rank_all : rank p q es ≡ rank p q all
  rank_all = same_rank p q es all l.back l.there

  -- a set that has just the greedy edges of all is a tree
  pub greedy-tree : (t : NumberSet) → ((k : ℕ) → k ∈ all → t k ≡ true → k ∈ greedy p q es) → ((k : ℕ) → k ∈ greedy p q es → t k ≡ true)
      → Tree p q all t
  unfolding greedy Forest
  greedy-tree t into of = record { forest = ranks ∙ sym size; size = size }
    where
      same : Shuffle (select t all) (choose (joins p q) es)
      same = select_chosen all es l t (joins p q) into of

      size : length (select t all) ≡ rank p q all
      size = shuffle_length same ∙ greedy-length p q es ∙ rank_all

      ranks : rank p q (select t all) ≡ rank p q all
      ranks =
          same_rank p q (select t all) (choose (joins p q) es) (shuffle_in same) (shuffle_in (shuffle_back same))
          ∙ greedy-rank p q es ∙ rank_all

-- THE GREEDY TREE IS LEAST
pub kruskal : (p q : ℕ → ℕ) (w : ℕ → ℕ) (all fs rs : List ℕ) → Listing all (fs ++ rs) → (c : ℕ) → Desc w c fs
    → (t : NumberSet) → Tree p q all t → ((k : ℕ) → k ∈ rs → t k ≡ true) → Beats w all rs (greedy p q (fs ++ rs)) t
unfolding greedy Forest
kruskal p q w all fs rs l c d t tree keeps =
    choose_beats (joins p q) w all fs rs l c d t keeps
    (greedy_all p q rs (rw (select_full t rs keeps) at (forest_base p q t fs rs forest)))
    (greedy_dominates p q t rs fs forest)
    (greedy-length p q (fs ++ rs) ∙ rank_all p q all (fs ++ rs) l ∙ sym tree.size ∙ sym size)
  where
    same : Shuffle (select t (fs ++ rs)) (select t all)
    same = select_listing all (fs ++ rs) l t

    size : length (select t (fs ++ rs)) ≡ length (select t all)
    size = shuffle_length same

    forest : Forest p q (select t (fs ++ rs))
    forest = same_rank p q (select t (fs ++ rs)) (select t all) (shuffle_in same) (shuffle_in (shuffle_back same)) ∙ tree.forest ∙ sym size
