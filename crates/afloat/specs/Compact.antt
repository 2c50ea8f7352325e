-- The reduced network without edges that are excluded in it: what a program computes with. Its edges are the kept ones in new numbers, their ends
-- in new numbers of vertices; it is valid and has no pair twice. (Its least 1-tree and its rulings are those over the active vertices:
-- proofs/Compact.)
use Rattle.std.specs.Prelude.{◌≡◌, Bool, true, false, not, cond, ℕ}
use Rattle.std.proofs.Common.{sym, ap, ◌∙◌, true≢false}
use Rattle.std.proofs.lemmas.Bool.{not-false}
use Rattle.lists.specs.Bools.{by_cases}
use Rattle.lists.specs.Members.{◌∈◌}
use Rattle.lists.specs.Numbers.{up_to}
use Rattle.graph.specs.Network.{Network, excluded}
use Rattle.tree_theory.specs.OneTree.{Edges}
use Rattle.tree_theory.specs.Valid.{Valid, is_excluded, excluded_is}
use Rattle.tours.specs.Renumbering.{Simple}
use Rattle.thinning.specs.Ranks.{rank, nth, nth_in, nth-kept, rank_back}
use Rattle.thinning.specs.Thinned.{thin}
use Rattle.afloat.specs.Over.{Ashore, active, touched, mark_over}
use Rattle.afloat.specs.Reduced.{reduced, Fit, reduced-valid, a_live, b_live, a_is, b_is, live_same}

-- fewer edges: a valid network stays one
pub thin-valid : (c : Edges) (g : Network) → Valid g → Valid (thin c g)
thin-valid c g v = record {
  big = v.big;
  low = λ j i. v.low (nth c g.m j) (nth_in c g.m j i);
  apart = λ j i. v.apart (nth c g.m j) (nth_in c g.m j i);
  high = λ j i. v.high (nth c g.m j) (nth_in c g.m j i);
}

-- no kept edge is touched, and every other edge is excluded
pub record Keeping (s : Ashore) (g : Network) (c : Edges) : Type 0 where
  pub free : (k : ℕ) → k ∈ up_to g.m → c k ≡ true → touched s g k ≡ false
  pub rest : (k : ℕ) → k ∈ up_to g.m → c k ≡ false → mark_over s g k ≡ excluded

-- so with the edges that are not excluded, touched ones being so
abbrev pub kept : Ashore → Network → Edges
kept s g k = not (is_excluded (mark_over s g k))

pub keeping_kept : (s : Ashore) (g : Network) → Keeping s g (kept s g)
keeping_kept s g = record {
  free = λ k i e. by_cases (touched s g k) (λ q. absurd (clash k e q)) (λ q. q);
  rest = λ k i e. excluded_is (mark_over s g k) (not-false (is_excluded (mark_over s g k)) e);
}
  where
    clash : (k : ℕ) → kept s g k ≡ true → touched s g k ≡ true → ⊥
    clash k e q = true≢false (sym e ∙ ap (λ (b : Bool). not (is_excluded (cond b excluded (g.mark k)))) q)

abbrev pub compact : Ashore → Edges → Network → Network
compact s c g = thin c (reduced s g)

module _ (s : Ashore) (g : Network) (f : Fit s g) (c : Edges) (keeping : Keeping s g c) where
  pub compact-valid : Valid (compact s c g)
  compact-valid = thin-valid c (reduced s g) (reduced-valid s g f)

  -- ---- a new edge number

  module _ (j : ℕ) (i : j ∈ up_to (rank c g.m)) where
    abbrev pub old : ℕ
    old = nth c g.m j

    old_in : old ∈ up_to g.m
    old_in = nth_in c g.m j i

    old_free : touched s g old ≡ false
    old_free = keeping.free old old_in (nth-kept c g.m j i)

    -- THE ENDS: the new numbers of the old ends, and nothing else
    pub compact_a : (compact s c g).a j ≡ rank (active s) (g.a (nth c g.m j))
    compact_a = a_is s g f old old_in old_free

    pub compact_b : (compact s c g).b j ≡ rank (active s) (g.b (nth c g.m j))
    compact_b = b_is s g f old old_in old_free

    pub compact_mark : (compact s c g).mark j ≡ g.mark (nth c g.m j)
    compact_mark = ap (λ (b : Bool). cond b excluded (g.mark old)) old_free

  -- no pair twice
  pub compact_simple : Simple g → Simple (compact s c g)
  compact_simple simple j k i l ea eb =
      sym (rank_back c g.m j i)
      ∙ ap (rank c)
      (simple (old j i) (old k l) (old_in j i) (old_in k l)
      (live_same s g f _ _ (a_live s g f (old j i) (old_in j i) (old_free j i)) (a_live s g f (old k l) (old_in k l) (old_free k l))
      (sym (compact_a j i) ∙ ea ∙ compact_a k l))
      (live_same s g f _ _ (b_live s g f (old j i) (old_in j i) (old_free j i)) (b_live s g f (old k l) (old_in k l) (old_free k l))
      (sym (compact_b j i) ∙ eb ∙ compact_b k l)))
      ∙ rank_back c g.m k l
