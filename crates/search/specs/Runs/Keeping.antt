-- Which tour is kept of the best one and a found one, by their bytes, and that it is the machine's choice (`better`). Assumes nothing.
use Rattle.std.specs.Prelude.{◌≡◌, refl, Bool, true, false, cond, List, ℕ, ◌+◌, ◌≤◌, eqb, length, get_or, ℤ}
use Rattle.std.proofs.Common.{ap, ◌∙◌, add-one}
use Rattle.std.specs.Int.Signed.{lt_z}
use Rattle.graph.specs.declared.Graph.{Graph}
use Rattle.graph.specs.Limits.{max_edges}
use Rattle.graph.specs.Network.{Network, network}
use Rattle.tree_theory.specs.OneTree.{Edges, lacks_first, unless}
use Rattle.tree_theory.specs.Agree.{lacks_agree, lacks_second}
use Rattle.tree_theory.specs.Arrays.{bytes}
use Rattle.tours.specs.Tours.{cost}
use Rattle.afloat.specs.Over.{Ashore}
use Rattle.afloat.specs.Reduced.{reduced}
use Rattle.machine.specs.Outcomes as outcomes
use Rattle.machine.specs.Outcomes.{Incumbent, no_tour, a_tour}
use Rattle.machine.specs.Machine.{edges_of, cost_of, replaces, better}
use Rattle.machine.specs.Kept.{Sized}
use Rattle.search.specs.Record.{bits, best_of, has_tour, has_incumbent, best_bytes}
use Rattle.search.specs.Words.Incumbents.{best_back}
use Rattle.search.specs.Runs.Costs.{bits_edges, cost-bits}
use Rattle.search.specs.declared.Search.{Search}

-- a found tour f of cost x takes the place of the best tour b of cost y
unfoldable pub replaces_by : ℕ → ℤ → ℤ → List ℕ → List ℕ → Bool
replaces_by m x y f b = cond (lt_z x y) true (cond (lt_z y x) false (lacks_first m (bytes f) (bytes b)))

-- the bytes that are kept of a found tour's f and the best one's b; h says whether there is one
unfoldable pub kept_of : Graph → Bool → List ℕ → List ℕ → List ℕ
kept_of g h f b = cond h (cond (replaces (network g) (bits g.m f) (bits g.m b)) f b) f

-- a record with a found tour: the upper bound is its cost
abbrev pub with_best : Search → ℤ → List ℕ → Search
with_best r upper w = record r { upper = upper; best = w; has_best = 1 }

abbrev pub kept_in : Search → List ℕ → Search
kept_in s f = with_best s (cost (network s.graph) (bytes f)) (kept_of s.graph (has_tour s) f s.best)

-- ---- the comparison edge by edge

pub first_none : (s t : Edges) → lacks_first 0 s t ≡ false
unfolding lacks_first
first_none s t = refl

pub first_more : (k : ℕ) (f b : List ℕ) → lacks_first (k + 1) (bytes f) (bytes b) ≡ unless (eqb (get_or f k 0) 1) (eqb (get_or b k 0) 1) (lacks_first k (bytes f) (bytes b))
unfolding lacks_first
first_more k f b = rw (add-one k)

-- ---- it is the machine's

pub replaces_is : (g : Graph) (f b : List ℕ)
    → replaces (network g) (bits g.m f) (bits g.m b) ≡ replaces_by g.m (cost (network g) (bytes f)) (cost (network g) (bytes b)) f b
unfolding replaces replaces_by cost_of network
replaces_is g f b =
    rw (cost-bits g f, cost-bits g b, first_is)
  where
    first_is : lacks_first g.m (edges_of (bits g.m f)) (edges_of (bits g.m b)) ≡ lacks_first g.m (bytes f) (bytes b)
    first_is =
        lacks_agree g.m (edges_of (bits g.m f)) (bytes f) (edges_of (bits g.m b)) (bits_edges g f)
        ∙ lacks_second g.m (bytes f) (edges_of (bits g.m b)) (bytes b) (bits_edges g b)

-- over the active vertices an edge costs what it costs in the graph
pub better_active : (s : Ashore) (g : Network) → better (reduced s g) ≡ better g
unfolding better replaces cost_of cost
better_active s g = refl

-- ---- the incumbent's bytes

pub bits_back : (m : ℕ) (t : List Bool) → m ≤ max_edges → length t ≡ m → bits m (best_bytes (a_tour t)) ≡ t
unfolding best_of has_incumbent
bits_back m t few z = same (bits m (best_bytes (a_tour t))) t (best_back m (a_tour t) few z)
  where
    same : (x y : List Bool) → a_tour x ≡ a_tour y → x ≡ y
    same x y e = cc

pub kept_is : (g : Graph) (i : Incumbent (List Bool)) (t : List Bool) → g.m ≤ max_edges → Sized g.m i → length t ≡ g.m
    → kept_of g (has_incumbent i) (best_bytes (a_tour t)) (best_bytes i) ≡ best_bytes (outcomes.best_of (better (network g)) i t)
unfolding kept_of has_incumbent better
kept_is g no_tour t few z long = refl
kept_is g (a_tour b) t few z long =
    ap (λ (x : Bool). cond x (best_bytes (a_tour t)) (best_bytes (a_tour b))) same ∙ chosen (replaces (network g) t b) refl
  where
    same : replaces (network g) (bits g.m (best_bytes (a_tour t))) (bits g.m (best_bytes (a_tour b))) ≡ replaces (network g) t b
    same = rw (bits_back g.m t few long, bits_back g.m b few z)

    chosen : (x : Bool) → replaces (network g) t b ≡ x → cond x (best_bytes (a_tour t)) (best_bytes (a_tour b)) ≡ best_bytes (a_tour (better (network g) b t))
    chosen true e = rw e
    chosen false e = rw e
