-- Where edges that touch a vertex ashore are excluded, the graph of the vertices that are afloat without its excluded edges is afloat's renumbered
-- graph of the kept edges: it is valid, and its network is the compact network. For the graph's own marks (`small`), and for any marks that exclude
-- the touched edges, as a node's do (`node_valid`).
use Rattle.std.specs.Prelude.{◌≡◌, refl, Bool, true, false, not, cond, List, ℕ, suc, ◌<◌, ◌≤◌, eqb, get_or, ℤ, pos}
use Rattle.std.proofs.Common.{sym, ap, ◌∙◌, subst, arith, eqb-true, true≢false}
use Rattle.std.proofs.lemmas.Bool.{not-false}
use Rattle.lists.specs.Bools.{by_cases}
use Rattle.lists.specs.Members.{◌∈◌}
use Rattle.lists.specs.Numbers.{up_to}
use Rattle.graph.specs.declared.Graph.{Graph}
use Rattle.graph.specs.Limits.{max_mark}
use Rattle.graph.specs.Network.{excluded, network}
use Rattle.graph.specs.Valid as value
use Rattle.tree_theory.specs.OneTree.{Edges}
use Rattle.tree_theory.specs.Arrays.{edge_in, mark_excluded}
use Rattle.thinning.specs.Ranks.{rank}
use Rattle.afloat.specs.Over.{Ashore, ashore, ashore_fits, active, touched, mark_over}
use Rattle.afloat.specs.Compact.{Keeping}
use Rattle.afloat.specs.Graphs.{Renumbered}
use Rattle.afloat.specs.Computed.{small-valid}
use Rattle.reduction.specs.Moved.{MovedEnds, Moved}
use Rattle.reduction.specs.Left.{kept, LeftOf}

-- a graph with other marks
abbrev pub with_marks : Graph → List ℕ → Graph
with_marks g x = record { n = g.n; m = g.m; a = g.a; b = g.b; cost = g.cost; mark = x }

-- marks x of the edges: a touched one is excluded, any other has its own
pub record Struck (s : Ashore) (g : Graph) (x : List ℕ) : Type 0 where
  pub touched_two : (k : ℕ) → k < g.m → touched s (network g) (suc k) ≡ true → get_or x k 0 ≡ 2
  pub others_own : (k : ℕ) → k < g.m → touched s (network g) (suc k) ≡ false → get_or x k 0 ≡ get_or g.mark k 0

module _ (s : Ashore) (g r left : Graph) (x : List ℕ) (h : MovedEnds s g r) (z : Struck s g x) (o : LeftOf (with_marks r x) left) where
  abbrev c : Edges
  c = kept x

  -- a kept edge is untouched
  free_at : (k : ℕ) → k < g.m → c (suc k) ≡ true → touched s (network g) (suc k) ≡ false
  free_at k l e = by_cases (touched s (network g) (suc k)) (λ q. absurd (clash q)) (λ q. q)
    where
      clash : touched s (network g) (suc k) ≡ true → ⊥
      clash q = true≢false (sym e ∙ ap (λ (b : ℕ). not (eqb b 2)) (z.touched_two k l q))

  rest_at : (k : ℕ) → k < g.m → c (suc k) ≡ false → mark_over s (network g) (suc k) ≡ excluded
  rest_at k l e =
      by_cases (touched s (network g) (suc k))
      (λ q. ap (λ (b : Bool). cond b excluded ((network g).mark (suc k))) q)
      (λ q.
      ap (λ (b : Bool). cond b excluded ((network g).mark (suc k))) q
      ∙ mark_excluded g k l (sym (z.others_own k l q) ∙ eqb-true (get_or x k 0) 2 (not-false (eqb (get_or x k 0) 2) e)))

  pub keeping : Keeping s (network g) c
  keeping = record {
    free = λ k i. at (λ j. c j ≡ true → touched s (network g) j ≡ false) (λ j l. free_at j l) k i;
    rest = λ k i. at (λ j. c j ≡ false → mark_over s (network g) j ≡ excluded) (λ j l. rest_at j l) k i;
  }
    where
      at : (P : ℕ → Type 0) → ((j : ℕ) → j < g.m → P (suc j)) → (k : ℕ) → k ∈ up_to (network g).m → P k
      at P f k i = let q = edge_in g k i in subst P (sym q.2) (f q.0 q.1)

  pub renumbered : Renumbered s c g left
  renumbered = record {
    n = o.n ∙ h.n;
    m = o.m ∙ ap (rank c) h.m;
    a = λ i l e.
        o.a i (omega (arith, h.m)) e ∙ h.a i l
        ∙ ap (λ (b : Bool). cond b 1 (rank (active s) (get_or g.a i 0))) (free_at i l e);
    b = λ i l e.
        o.b i (omega (arith, h.m)) e ∙ h.b i l
        ∙ ap (λ (b : Bool). cond b 2 (rank (active s) (get_or g.b i 0))) (free_at i l e);
    cost = λ i l e. o.cost i (omega (arith, h.m)) e ∙ ap (λ (w : List ℤ). get_or w i (pos 0)) h.cost;
    mark = λ i l e. o.mark i (omega (arith, h.m)) e ∙ z.others_own i l (free_at i l e);
  }

-- the graph's own marks
pub struck_own : (s : Ashore) (g r : Graph) → Moved s g r → Struck s g r.mark
struck_own s g r h = record {
  touched_two = λ k l q. h.mark k l ∙ ap (λ (b : Bool). cond b 2 (get_or g.mark k 0)) q;
  others_own = λ k l q. h.mark k l ∙ ap (λ (b : Bool). cond b 2 (get_or g.mark k 0)) q;
}

module _ (l : List ℕ) (g r left : Graph) (v : value.Valid g) (fits : ashore_fits l g.n ≡ true) where
  -- THE SMALL GRAPH OF ANY MARKS that exclude the touched edges IS VALID
  module _ (h : MovedEnds (ashore l) g r) (x : List ℕ) (known : (k : ℕ) → k < g.m → get_or x k 0 ≤ max_mark)
      (struck : (k : ℕ) → k < g.m → touched (ashore l) (network g) (suc k) ≡ true → get_or x k 0 ≡ 2) (o : LeftOf (with_marks r x) left) where
    as_marked : Graph
    as_marked = with_marks g x

    marked_valid : value.Valid (with_marks g x)
    marked_valid = record {
      low = v.low;
      high = v.high;
      few = v.few;
      each = λ k l.
          let e = v.each k l in record { from = e.from; less = e.less; to = e.to; range = e.range; known = known k l };
      once = λ i j b l q. v.once i j b l (record { a = q.a; b = q.b });
    }

    struck_marked : Struck (ashore l) (with_marks g x) x
    struck_marked = record { touched_two = λ k b q. struck k b (unfold network in q); others_own = λ k b q. refl }

    ends_marked : MovedEnds (ashore l) (with_marks g x) r
    ends_marked = record {
      n = h.n;
      m = h.m;
      cost = h.cost;
      a = λ j b. unfold network in (h.a j b);
      b = λ j b. unfold network in (h.b j b);
    }

    pub node_valid : value.Valid left
    node_valid =
        small-valid l (kept x) (with_marks g x) left marked_valid fits
        (keeping (ashore l) (with_marks g x) r left x ends_marked struck_marked o)
        (renumbered (ashore l) (with_marks g x) r left x ends_marked struck_marked o) 1
