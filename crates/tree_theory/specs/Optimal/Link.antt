-- A 1-tree is two of the near edges and a tree of the far ones over the other vertices: the definition, by what it connects, and the
-- mathematics of `spanning`, by rank, say the same. Every law of trees is used through this.
use Rattle.std.specs.Prelude.{◌≡◌, refl, Bool, ◌&&◌, ℕ, ◌+◌, ◌≤◌}
use Rattle.std.proofs.Math.Path.{sym, ap}
use Rattle.std.proofs.Common.{◌∙◌, true≢false, arith}
use Rattle.std.proofs.Math.Bool.{true, false, not}
use mathlib.Core.List.{List}
use Rattle.std.proofs.Math.ListN.{length, length-append}
use Rattle.lists.specs.Bools.{by_cases}
use Rattle.lists.specs.Members.{◌∈◌}
use Rattle.lists.specs.Select.{select, select_in, select_cong, select-select, split_length}
use Rattle.lists.specs.Numbers.{up_to}
use Rattle.lists.specs.Weights.{weight, split_weight}
use Rattle.graph.specs.Network.{Network}
use Rattle.spanning.specs.Walks.{Walk}
use Rattle.spanning.specs.Components.{rank, Within, sub-inside, inside-rank}
use Rattle.spanning.specs.Connected.{rank_most, joined_rank, rank_joined}
use Rattle.spanning.specs.Forests.{Forest}
use Rattle.spanning.specs.Trees.{Tree}
use Rattle.tree_theory.specs.OneTree.{Edges, OneTree, others, away, at_one}
use Rattle.tree_theory.specs.Valid.{Valid, two_in, distinct-others, length-others, required_is, excluded_is, is_excluded}
use Rattle.tree_theory.specs.Valid.{needed, is_near, near, far, far_within}

pub record Parts (g : Network) (t : Edges) : Type 0 where
  pub tree : Tree g.a g.b (far g) t
  pub span : rank g.a g.b (far g) + 2 ≡ g.n
  pub two : length (select t (near g)) ≡ 2
  pub keeps : (k : ℕ) → k ∈ up_to g.m → needed g k ≡ true → t k ≡ true
  pub avoids : (k : ℕ) → k ∈ up_to g.m → is_excluded (g.mark k) ≡ true → t k ≡ false

-- an edge that is in is not excluded, one that is out not required
pub in_allowed : (g : Network) (t : Edges) → Parts g t → (k : ℕ) → k ∈ up_to g.m → t k ≡ true → is_excluded (g.mark k) ≡ false
in_allowed g t o k m h = by_cases (is_excluded (g.mark k)) (λ e. absurd (true≢false (sym h ∙ o.avoids k m e))) (λ e. e)

pub out_loose : (g : Network) (t : Edges) → Parts g t → (k : ℕ) → k ∈ up_to g.m → t k ≡ false → needed g k ≡ false
out_loose g t o k m h = by_cases (needed g k) (λ e. absurd (true≢false (sym (o.keeps k m e) ∙ h))) (λ e. e)

-- ---- a set without excluded edges has no others than near and far

and_cut : (t x e : Bool) → (e ≡ true → t ≡ false) → t && (x && not e) ≡ t && x
and_cut false x e h = refl
and_cut true false e h = refl
and_cut true true false h = refl
and_cut true true true h = sym (h refl)

module _ (g : Network) (t : Edges) (avoids : (k : ℕ) → k ∈ up_to g.m → is_excluded (g.mark k) ≡ true → t k ≡ false) where
  pub away_is : select t (far g) ≡ away g t
  unfolding far away
  away_is =
      select-select t (λ k. not (is_near g k) && not (is_excluded (g.mark k))) (up_to g.m)
      ∙ select_cong _ _ (up_to g.m) (λ k m. and_cut (t k) (not (is_near g k)) (is_excluded (g.mark k)) (avoids k m))

  pub at_one_is : select t (near g) ≡ at_one g t
  unfolding near at_one
  at_one_is =
      select-select t (λ k. is_near g k && not (is_excluded (g.mark k))) (up_to g.m)
      ∙ select_cong _ _ (up_to g.m) (λ k m. and_cut (t k) (is_near g k) (is_excluded (g.mark k)) (avoids k m))

  pub weigh : (w : ℕ → ℕ) → weight w (select t (up_to g.m)) ≡ weight w (select t (near g)) + weight w (select t (far g))
  unfolding away at_one
  weigh w = sym (split_weight w t (is_near g) (up_to g.m)) ∙ rw (at_one_is, away_is)

  pub number : length (select t (up_to g.m)) ≡ length (select t (near g)) + length (select t (far g))
  unfolding away at_one
  number = sym (split_length t (is_near g) (up_to g.m)) ∙ simp length-append (rw (at_one_is, away_is))

-- ---- the two say the same

module _ (g : Network) (vg : Valid g) (t : Edges) where
  sub : (k : ℕ) → k ∈ select t (far g) → k ∈ far g
  sub k m = (select_in t (far g) k m).0

  inner : Within g.a g.b (others g) (select t (far g))
  inner k m = far_within g vg k (sub k m)

  size : length (others g) + 1 ≡ g.n
  size = length-others g (omega (arith, vg.big))

  most : rank g.a g.b (far g) + 1 ≤ length (others g)
  most = rank_most g.a g.b (others g) (far g) (distinct-others g) (far_within g vg) 2 (two_in g vg)

  mono : rank g.a g.b (select t (far g)) ≤ rank g.a g.b (far g)
  mono = inside-rank g.a g.b (select t (far g)) (far g) (sub-inside g.a g.b (select t (far g)) (far g) sub)

  pub to_parts : OneTree g t → Parts g t
  unfolding Forest
  to_parts o = record {
    tree = record { forest = omega (arith, whole, lengths, size); size = omega (arith, whole, lengths, size, most, mono) };
    span = omega (arith, whole, size, most, mono);
    two = ap length (at_one_is g t av) ∙ o.two;
    keeps = λ k m r. o.keeps k m (required_is (g.mark k) r);
    avoids = av;
  }
    where
      av : (k : ℕ) → k ∈ up_to g.m → is_excluded (g.mark k) ≡ true → t k ≡ false
      av k m r = o.avoids k m (excluded_is (g.mark k) r)

      lengths : 2 + length (select t (far g)) ≡ g.n
      lengths = ap (λ (l : List ℕ). 2 + length l) (away_is g t av) ∙ o.rest

      whole : rank g.a g.b (select t (far g)) + 1 ≡ length (others g)
      whole =
          joined_rank g.a g.b (others g) (select t (far g)) (distinct-others g) inner 2 (two_in g vg)
          (λ u v i j. rw (away_is g t av) (o.joined u v i j))

  pub of_parts : Parts g t → OneTree g t
  unfolding Forest
  of_parts o = record {
    two = ap length (sym (at_one_is g t o.avoids)) ∙ o.two;
    rest = ap (λ (l : List ℕ). 2 + length l) (sym (away_is g t o.avoids)) ∙ omega (arith, o.tree.size, o.span);
    joined = λ u v i j. rw (← away_is g t o.avoids) (walks u v i j);
    keeps = λ k m r. o.keeps k m (rw r);
    avoids = λ k m r. o.avoids k m (rw r);
  }
    where
      walks : (u v : ℕ) → u ∈ others g → v ∈ others g → Walk g.a g.b (select t (far g)) u v
      walks =
          rank_joined g.a g.b (others g) (select t (far g)) (distinct-others g) inner 2 (two_in g vg)
          (omega (arith, o.tree.forest, o.tree.size, o.span, size))
