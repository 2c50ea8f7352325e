-- A graph of another's edges that are not excluded, in new places, and bytes for these made bytes for all edges.
use Rattle.std.specs.Prelude.{◌≡◌, ◌≢◌, refl, Bool, true, false, not, cond, List, ℕ, suc, ◌+◌, ◌<◌, eqb, length, get_or, set, ℤ, pos}
use Rattle.std.proofs.Common.{◌∙◌, sym, ap, arith, length-set, eq-eqb, ne_eqb}
use Rattle.graph.specs.declared.Graph.{Graph}
use Rattle.graph.specs.Edgeless.{edgeless}
use Rattle.graph.specs.Limits.{max_edges}
use Rattle.tree_theory.specs.OneTree.{Edges}
use Rattle.tree_theory.specs.Arrays.{entry}
use Rattle.thinning.specs.Ranks.{rank, rank_yes}
use Rattle.reduction.specs.Gathered.{Gathered, gathered_none, gathered_skip, gathered_more}

-- the edges that the marks do not exclude
abbrev pub kept : List ℕ → Edges
kept marks k = not (eqb (entry marks k) 2)

-- of the first k edges of g, those that are kept stand in r, and no edge is counted yet
pub record LeftTo (g : Graph) (k : ℕ) (r : Graph) : Type 0 where
  pub n : r.n ≡ g.n
  pub a : Gathered 0 (kept g.mark) g.a k r.a
  pub b : Gathered 0 (kept g.mark) g.b k r.b
  pub cost : Gathered (pos 0) (kept g.mark) g.cost k r.cost
  pub mark : Gathered 0 (kept g.mark) g.mark k r.mark
  pub long : (length r.a ≡ max_edges) × (length r.b ≡ max_edges) × (length r.cost ≡ max_edges) × (length r.mark ≡ max_edges)

-- r has the edges of g that are not excluded, and no other
pub record LeftOf (g r : Graph) : Type 0 where
  pub n : r.n ≡ g.n
  pub m : r.m ≡ rank (kept g.mark) g.m
  pub a : Gathered 0 (kept g.mark) g.a g.m r.a
  pub b : Gathered 0 (kept g.mark) g.b g.m r.b
  pub cost : Gathered (pos 0) (kept g.mark) g.cost g.m r.cost
  pub mark : Gathered 0 (kept g.mark) g.mark g.m r.mark

-- the byte of an edge among all: its own where it is left
unfoldable pub expanded : Graph → List ℕ → ℕ → ℕ → ℕ
unfolding rank
expanded g bytes rest k = cond (kept g.mark k) (entry bytes (rank (kept g.mark) k)) rest

-- ---- edge by edge

pub kept_not : (marks : List ℕ) (k : ℕ) → get_or marks k 0 ≢ 2 → kept marks (suc k) ≡ true
kept_not marks k h = ap not (ne_eqb (get_or marks k 0) 2 h)

pub kept_two : (marks : List ℕ) (k : ℕ) → get_or marks k 0 ≡ 2 → kept marks (suc k) ≡ false
kept_two marks k h = ap not (eq-eqb (get_or marks k 0) 2 h)

pub left_none : (g : Graph) → LeftTo g 0 (edgeless g.n)
unfolding edgeless
left_none g = record {
  n = refl;
  a = gathered_none 0 (kept g.mark) g.a (edgeless g.n).a;
  b = gathered_none 0 (kept g.mark) g.b (edgeless g.n).b;
  cost = gathered_none (pos 0) (kept g.mark) g.cost (edgeless g.n).cost;
  mark = gathered_none 0 (kept g.mark) g.mark (edgeless g.n).mark;
  long = (refl, refl, refl, refl);
}

module _ (g r : Graph) (k : ℕ) (h : LeftTo g k r) where
  pub left_skip : get_or g.mark k 0 ≡ 2 → LeftTo g (k + 1) r
  left_skip two = record {
    n = h.n;
    a = gathered_skip 0 (kept g.mark) g.a k r.a (kept_two g.mark k two) h.a;
    b = gathered_skip 0 (kept g.mark) g.b k r.b (kept_two g.mark k two) h.b;
    cost = gathered_skip (pos 0) (kept g.mark) g.cost k r.cost (kept_two g.mark k two) h.cost;
    mark = gathered_skip 0 (kept g.mark) g.mark k r.mark (kept_two g.mark k two) h.mark;
    long = h.long;
  }

  pub left_more : (f : ℕ) (z : ℤ) → f ≡ rank (kept g.mark) k → f < max_edges → z ≡ get_or g.cost k (pos 0)
      → LeftTo g (k + 1) (record {
        n = r.n;
        m = r.m;
        a = set r.a f (get_or g.a k 0);
        b = set r.b f (get_or g.b k 0);
        cost = set r.cost f z;
        mark = set r.mark f (get_or g.mark k 0);
      })
  left_more f z at few is = record {
    n = h.n;
    a = gathered_more 0 (kept g.mark) g.a k f r.a _ at (omega (arith, h.long.0)) refl h.a;
    b = gathered_more 0 (kept g.mark) g.b k f r.b _ at (omega (arith, h.long.1)) refl h.b;
    cost = gathered_more (pos 0) (kept g.mark) g.cost k f r.cost z at (omega (arith, h.long.2)) is h.cost;
    mark = gathered_more 0 (kept g.mark) g.mark k f r.mark _ at (omega (arith, h.long.3)) refl h.mark;
    long = (length-set r.a f _ ∙ h.long.0, length-set r.b f _ ∙ h.long.1, length-set r.cost f z ∙ h.long.2, length-set r.mark f _ ∙ h.long.3);
  }

  pub left_all : (f : ℕ) → k ≡ g.m → f ≡ rank (kept g.mark) k
      → LeftOf g (record { n = r.n; m = f; a = r.a; b = r.b; cost = r.cost; mark = r.mark })
  left_all f e at = record {
    n = h.n;
    m = at ∙ ap (rank (kept g.mark)) e;
    a = λ i b. h.a i (omega (arith, e));
    b = λ i b. h.b i (omega (arith, e));
    cost = λ i b. h.cost i (omega (arith, e));
    mark = λ i b. h.mark i (omega (arith, e));
  }

-- the byte of one that is left, and of one that is not
module _ (g : Graph) (bytes : List ℕ) (rest k : ℕ) where
  pub expanded_own : (f : ℕ) → f ≡ rank (kept g.mark) k → get_or g.mark k 0 ≢ 2 → get_or bytes f 0 ≡ expanded g bytes rest (suc k)
  unfolding expanded
  expanded_own f at h =
      sym (ap (λ (b : Bool). cond b (entry bytes (rank (kept g.mark) (suc k))) rest) (kept_not g.mark k h)
      ∙ ap (entry bytes) (rank_yes (kept g.mark) k (kept_not g.mark k h) ∙ ap suc (sym at)))

  pub expanded_rest : get_or g.mark k 0 ≡ 2 → rest ≡ expanded g bytes rest (suc k)
  unfolding expanded
  expanded_rest h = sym (ap (λ (b : Bool). cond b (entry bytes (rank (kept g.mark) (suc k))) rest) (kept_two g.mark k h))
