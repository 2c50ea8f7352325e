-- Trees: forests of as many of the listed edges as any forest can have. What one edge more or less does to a forest. Assumes nothing.
use Rattle.std.specs.Prelude.{◌≡◌, ◌≢◌, ◌↔◌, true, false, List, ◌∷◌, ℕ, length}
use Rattle.std.proofs.Common.{sym, ◌∙◌, arith}
use Rattle.lists.specs.Bools.{by_cases}
use Rattle.lists.specs.Members.{◌∈◌}
use Rattle.lists.specs.Select.{select, in_select, select_cong}
use Rattle.lists.specs.Distinct.{Distinct}
use Rattle.lists.specs.Same.{Shuffle, shuffle_back, shuffle_in, shuffle_length}
use Rattle.lists.specs.Sets.{NumberSet, ◌⊕◌, ◌⊖◌, minus_self, put_back, select_plus, select_minus}
use Rattle.spanning.specs.Walks.{label, label_edge}
use Rattle.spanning.specs.Components.{rank, same_rank}
use Rattle.spanning.specs.Forests.{Forest, forest_tail, forest_joins, joins_forest}

-- t is a tree of the listed edges
pub record Tree (p q : ℕ → ℕ) (all : List ℕ) (t : NumberSet) : Type 0 where
  pub forest : Forest p q (select t all)
  pub size : length (select t all) ≡ rank p q all

module _ (p q : ℕ → ℕ) (all : List ℕ) (nd : Distinct all) where
  -- the edges of t ⊕ e are e and those of t
  pub forest_plus : (t : NumberSet) (e : ℕ) → e ∈ all → t e ≡ false → Forest p q (select (t ⊕ e) all) ↔ Forest p q (e ∷ select t all)
  unfolding Forest
  forest_plus t e m h = (λ f. omega (arith, ranks, shuffle_length s), λ f. omega (arith, ranks, shuffle_length s))
    where
      s : Shuffle (select (t ⊕ e) all) (e ∷ select t all)
      s = select_plus t e all nd m h

      ranks : rank p q (select (t ⊕ e) all) ≡ rank p q (e ∷ select t all)
      ranks = same_rank p q (select (t ⊕ e) all) (e ∷ select t all) (shuffle_in s) (shuffle_in (shuffle_back s))

  -- without e, the rest of a tree leaves e's ends apart
  pub minus_forest : (t : NumberSet) (e : ℕ) → e ∈ all → t e ≡ true → Forest p q (select t all) → Forest p q (e ∷ select (t ⊖ e) all)
  minus_forest t e m h f =
      (forest_plus (t ⊖ e) e m (minus_self t e)).0 (rw (select_cong (t ⊖ e ⊕ e) t all (λ k i. put_back t e h k)) f)

  pub minus_apart : (t : NumberSet) (e : ℕ) → e ∈ all → t e ≡ true → Forest p q (select t all)
      → label p q (select (t ⊖ e) all) (p e) ≢ label p q (select (t ⊖ e) all) (q e)
  minus_apart t e m h f = forest_joins p q e (select (t ⊖ e) all) (minus_forest t e m h f)

  -- an edge g whose ends are apart in t less e may take the place of e
  pub swap-tree : (t : NumberSet) (e g : ℕ) → Tree p q all t → e ∈ all → g ∈ all → t e ≡ true
      → label p q (select (t ⊖ e) all) (p g) ≢ label p q (select (t ⊖ e) all) (q g) → Tree p q all (t ⊖ e ⊕ g)
  swap-tree t e g tr me mg he hg = record {
    forest = (forest_plus (t ⊖ e) g mg out).1 (joins_forest p q g rest hg (forest_tail p q e rest (minus_forest t e me he tr.forest)));
    size = shuffle_length (select_plus (t ⊖ e) g all nd mg out) ∙ sym (shuffle_length (select_minus t e all nd me he)) ∙ tr.size;
  }
    where
      rest : List ℕ
      rest = select (t ⊖ e) all

      out : (t ⊖ e) g ≡ false
      out = by_cases ((t ⊖ e) g) (λ h. absurd (hg (label_edge p q (select (t ⊖ e) all) g (in_select (t ⊖ e) all g mg h)))) (λ h. h)
