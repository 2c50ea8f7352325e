-- From the arrays of a graph value to its network: edge k + 1 stands at place k. What code finds in arrays is carried over to edges by
-- these laws, and the check of a graph value gives what the laws of 1-trees ask of its network. Assumes nothing.
use Rattle.std.specs.Prelude.{◌≡◌, List, ◌∷◌, ℕ, zero, suc, ◌<◌, ◌≤◌, eqb, get_or, replicate}
use Rattle.std.proofs.Math.Path.{refl, ap}
use Rattle.std.proofs.Common.{◌∙◌, sym, subst, arith, ne_eqb}
use Rattle.lists.specs.Members.{◌∈◌}
use Rattle.lists.specs.Numbers.{up_to, up_to_in, in_up_to}
use Rattle.graph.specs.declared.Graph.{Graph}
use Rattle.graph.specs.Limits.{max_edges, max_mark}
use Rattle.graph.specs.Network.{free, required, excluded, mark_of, network}
use Rattle.graph.specs.Places.{network_a, network_b, network_mark}
use Rattle.graph.specs.Valid as value
use Rattle.tree_theory.specs.OneTree.{Edges}
use Rattle.tree_theory.specs.Valid.{Valid, is_required, is_excluded, needed}

-- the number that an array has for edge k, 0 for no edge
abbrev pub entry : List ℕ → ℕ → ℕ
entry c k = get_or (0 ∷ c) k 0

-- one byte an edge, "1 in, 0 out"
abbrev pub bytes : List ℕ → Edges
bytes w k = eqb (entry w k) 1

-- a byte at every place, all 0
abbrev pub blank : List ℕ
blank = replicate max_edges 0

-- the edges are the numbers suc k with k < m
pub edge_of : (m e : ℕ) → e ∈ up_to m → (k : ℕ) × (k < m) × (e ≡ suc k)
edge_of m zero h = absurd (let z : 1 ≤ 0 = (in_up_to m zero h).0 in omega arith)
edge_of m (suc k) h = (k, (in_up_to m (suc k) h).1, refl)

pub of_edge : (m k : ℕ) → k < m → suc k ∈ up_to m
of_edge m k h = up_to_in m (suc k) (omega arith) h

module _ (g : Graph) where
  pub network_n : (network g).n ≡ g.n
  unfolding network
  network_n = refl

  pub network_m : (network g).m ≡ g.m
  unfolding network
  network_m = refl

  -- so are the edges of a graph value's network
  pub edge_in : (e : ℕ) → e ∈ up_to (network g).m → (k : ℕ) × (k < g.m) × (e ≡ suc k)
  unfolding network
  edge_in e m = edge_of g.m e m

  pub in_edge : (k : ℕ) → k < g.m → suc k ∈ up_to (network g).m
  unfolding network
  in_edge k h = of_edge g.m k h

-- ---- marks

required_mark : (x : ℕ) → is_required (mark_of x) ≡ eqb x 1
unfolding mark_of
required_mark zero = refl
required_mark (suc zero) = refl
required_mark (suc (suc x)) = sym (ne_eqb (suc (suc x)) 1 (omega arith))

excluded_mark : (x : ℕ) → x ≤ max_mark → is_excluded (mark_of x) ≡ eqb x 2
unfolding mark_of
excluded_mark zero h = refl
excluded_mark (suc zero) h = refl
excluded_mark (suc (suc zero)) h = refl
excluded_mark (suc (suc (suc x))) h = absurd (let z : suc 0 ≤ 0 = omega arith in omega arith)

module _ (g : Graph) (k : ℕ) (h : k < g.m) where
  pub needed-at : needed (network g) (suc k) ≡ eqb (get_or g.mark k 0) 1
  needed-at = ap is_required (network_mark g k h) ∙ required_mark (get_or g.mark k 0)

  pub excluded_at : value.Valid g → is_excluded ((network g).mark (suc k)) ≡ eqb (get_or g.mark k 0) 2
  excluded_at v = ap is_excluded (network_mark g k h) ∙ excluded_mark (get_or g.mark k 0) (v.each k h).known

  pub mark_free : get_or g.mark k 0 ≡ 0 → (network g).mark (suc k) ≡ free
  unfolding mark_of
  mark_free e = network_mark g k h ∙ ap mark_of e

  pub mark_required : get_or g.mark k 0 ≡ 1 → (network g).mark (suc k) ≡ required
  unfolding mark_of
  mark_required e = network_mark g k h ∙ ap mark_of e

  pub mark_excluded : get_or g.mark k 0 ≡ 2 → (network g).mark (suc k) ≡ excluded
  unfolding mark_of
  mark_excluded e = network_mark g k h ∙ ap mark_of e

-- ---- a graph value that the check passes has a network that the laws of 1-trees take

module _ (g : Graph) (v : value.Valid g) where
  at_edge : (P : ℕ → Type 0) → ((k : ℕ) → k < g.m → P (suc k)) → (e : ℕ) → e ∈ up_to g.m → P e
  at_edge P f e m = let r = edge_of g.m e m in subst P (sym r.2) (f r.0 r.1)

  pub network-valid : Valid (network g)
  unfolding network
  network-valid = record {
    big = v.low;
    low = at_edge (λ e. 1 ≤ (network g).a e) (λ k h. omega (arith, network_a g k h, (v.each k h).from));
    apart = at_edge (λ e. (network g).a e < (network g).b e) (λ k h. omega (arith, network_a g k h, network_b g k h, (v.each k h).less));
    high = at_edge (λ e. (network g).b e ≤ g.n) (λ k h. omega (arith, network_b g k h, (v.each k h).to));
  }
