-- The loop over the labels: the edge above each is judged by the cheapest edge that can take its place. Each edge is above one label
-- only, so no other label writes its byte. Assumes nothing.
use Rattle.std.specs.Prelude.{◌≡◌, refl, ◌≢◌, List, ℕ, ◌+◌, ◌<◌, ◌≤◌, length, get_or, set}
use Rattle.std.proofs.Common.{◌∙◌, sym, arith, length-set, get_or-set_same, get_or-set_other}
use Rattle.std.proofs.Math.Decide.{ℕ_discrete}
use Rattle.graph.specs.Limits.{max_edges}
use Rattle.onetree.specs.Verdicts.{charge_at, force_byte}
use Rattle.onetree.specs.Candidates.{BelowRoot, before_last}

-- the labels of a kind have places in an array of vertices, and the edges above them in one of edges, each another
pub record OneEach (P : ℕ → Type 0) (edge : List ℕ) : Type 0 where
  pub small : (v : ℕ) → P v → v < 21
  pub room : (v : ℕ) → P v → get_or edge v 0 < max_edges
  pub once : (u v : ℕ) → P u → P v → get_or edge u 0 ≡ get_or edge v 0 → u ≡ v

-- the same of labels that are all of that kind
pub one_each_as : (P Q : ℕ → Type 0) (edge : List ℕ) → ((v : ℕ) → Q v → P v) → OneEach P edge → OneEach Q edge
one_each_as P Q edge f o = record {
  small = λ v q. o.small v (f v q);
  room = λ v q. o.room v (f v q);
  once = λ u v p q. o.once u v (f u p) (f v q);
}

-- the edges above the labels of a kind have their bytes, and the others are as they were
pub record Forcing (P : ℕ → Type 0) (c edge lows : List ℕ) (slack : ℕ) (before after : List ℕ) : Type 0 where
  pub done : (v : ℕ) → P v → get_or after (get_or edge v 0) 0 ≡ force_byte (get_or lows v 0) (charge_at c (get_or edge v 0)) slack
  pub rest : (j : ℕ) → ((v : ℕ) → P v → get_or edge v 0 ≢ j) → get_or after j 0 ≡ get_or before j 0
  pub long : length after ≡ length before

-- the same of a kind that has the same labels
pub forcing_as : (P Q : ℕ → Type 0) (c edge lows : List ℕ) (slack : ℕ) (before after : List ℕ) → ((v : ℕ) → P v → Q v)
    → ((v : ℕ) → Q v → P v) → Forcing P c edge lows slack before after → Forcing Q c edge lows slack before after
forcing_as P Q c edge lows slack before after to from h = record {
  done = λ v q. h.done v (from v q);
  rest = λ j f. h.rest j (λ v p. f v (to v p));
  long = h.long;
}

pub forcing_none : (queue c edge lows : List ℕ) (slack : ℕ) (l : List ℕ) → Forcing (BelowRoot queue 1) c edge lows slack l l
forcing_none queue c edge lows slack l = record { done = λ v h. absurd (omega (arith, h.1, h.2)); rest = λ j f. refl; long = refl }

-- the label u at place k has its edge, at place p, judged
pub forcing_more : (queue c edge lows : List ℕ) (slack : ℕ) (before after : List ℕ) (k n u p x : ℕ) → 1 ≤ k → k < n → u ≡ get_or queue k 0
    → OneEach (BelowRoot queue n) edge → Forcing (BelowRoot queue k) c edge lows slack before after → length before ≡ max_edges
    → p ≡ get_or edge u 0 → x ≡ force_byte (get_or lows u 0) (charge_at c p) slack
    → Forcing (BelowRoot queue (k + 1)) c edge lows slack before (set after p x)
forcing_more queue c edge lows slack before after k n u p x low high is each h whole at e = record {
  done = λ v i. done_at v i (ℕ_discrete v u);
  rest = λ j f. get_or-set_other after p j x 0 (λ q. f u (k, low, omega arith, sym is) (sym at ∙ sym q))
      ∙ h.rest j (λ v i. f v (i.0, i.1, omega (arith, i.2), i.3));
  long = length-set after p x ∙ h.long;
}
  where
    here : BelowRoot queue n u
    here = (k, low, high, sym is)

    done_at : (v : ℕ) → BelowRoot queue (k + 1) v → Dec (v ≡ u)
        → get_or (set after p x) (get_or edge v 0) 0 ≡ force_byte (get_or lows v 0) (charge_at c (get_or edge v 0)) slack
    done_at v i (yes q) = rw (q, ← at) (get_or-set_same after p x 0 (omega (arith, h.long, at, each.room u here)) ∙ e)
    done_at v i (no q) = get_or-set_other after p (get_or edge v 0) x 0
        (λ f. q (each.once v u (i.0, i.1, omega (arith, i.2), i.3) here (f ∙ at)))
        ∙ h.done v (i.0, i.1, before_last queue k v i.0 i.2 i.3 (λ z. q (z ∙ sym is)), i.3)
