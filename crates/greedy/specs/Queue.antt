-- The edges of one kind (at vertex 1, or not) in the order of their keys are in the order that the greedy choice wants: the required edges
-- first, then the others from the lightest on. Assumes nothing.
use Rattle.std.specs.Prelude.{◌≡◌, ◌≢◌, ◌⊎◌, true, false, not, List, ◌++◌, ℕ, zero, suc, ◌+◌, ◌*◌, ◌%◌, ◌<◌, ◌≤◌, length, eqb}
use Rattle.std.proofs.Common.{◌∙◌, sym, inl, inr, arith}
use Rattle.std.proofs.Math.Path.{ap, subst}
use Rattle.std.proofs.Math.Decide.{dec_le}
use Rattle.std.proofs.Math.ListN.{get_or}
use borrow.Author.Tests.{eqb-true, eqb-false, ne_eqb, not-true}
use Rattle.lists.specs.Members.{◌∈◌}
use Rattle.lists.specs.Select.{select, select_in}
use Rattle.lists.specs.Distinct.{Distinct}
use Rattle.lists.specs.Numbers.{up_to}
use Rattle.lists.specs.Same.{same-weight}
use Rattle.graph.specs.declared.Graph.{Graph}
use Rattle.graph.specs.Network.{network}
use Rattle.graph.specs.Places.{network_a}
use Rattle.graph.specs.Valid as value
use Rattle.spanning.specs.Choice.{Listing}
use Rattle.tree_theory.specs.OneTree.{Edges}
use Rattle.tree_theory.specs.Valid.{is_excluded, needed, is_near, near, far, distinct-near, distinct-far, near_in, far_in, in_near, in_far}
use Rattle.tree_theory.specs.Optimal.Weight.{one_weight, one_weight-le}
use Rattle.tree_theory.specs.Optimal.Minimum.{Order}
use Rattle.tree_theory.specs.Arrays.{entry, network_m, edge_in, in_edge, needed-at, excluded_at}
use Rattle.lists.specs.Sorting.{Ascending}
use Rattle.greedy.specs.Falling.{Falls, GoesWith, falls-select, falls-distinct, falls_split, falls_desc}
use Rattle.greedy.specs.Keys.{key_at, key_low, key_required, key_free, Kind, near_at, far_at, Keyed, queued, queued_in, in_queued, queued-falls, queued-length}

-- e stands at place k, is not excluded, and is of the kind
abbrev pub Placed : Graph → Kind → ℕ → Type 0
Placed g kind e = (k : ℕ) × (k < g.m) × (get_or g.mark k 0 ≢ 2) × (e ≡ suc k) × (kind k ≡ true)

-- of the listed edges those that are required, and the others
abbrev pub required_of : Graph → List ℕ → List ℕ
required_of g es = select (needed (network g)) es

abbrev pub free_of : Graph → List ℕ → List ℕ
free_of g es = select (λ k. not (needed (network g) k)) es

-- the key of an edge
unfoldable key : Graph → List ℕ → ℕ → ℕ
key g c zero = 0
key g c (suc k) = key_at g c k

-- c are the charges of a graph value's edges, and ks the f keys of those of one kind that are not excluded, in ascending order
pub record InKeyOrder (g : Graph) (kind : Kind) (c ks : List ℕ) (f : ℕ) : Type 0 where
  pub valid : value.Valid g
  pub low : (k : ℕ) → k < g.m → 1 ≤ get_or c k 0
  pub keyed : Keyed kind g c ks f
  pub ascending : Ascending f ks

-- they are all of that kind, and in the order that the greedy choice wants
pub record Queued (g : Graph) (c ks : List ℕ) (f : ℕ) (all : List ℕ) : Type 0 where
  pub splits : free_of g (queued ks f) ++ required_of g (queued ks f) ≡ queued ks f
  pub ordered : Order (network g) (one_weight (network g).m (entry c)) all (free_of g (queued ks f)) (required_of g (queued ks f))
  pub size : length all ≡ f

module _ (g : Graph) (kind : Kind) (c ks : List ℕ) (f : ℕ) (o : InKeyOrder g kind c ks f) where
  abbrev v : value.Valid g
  v = o.valid

  abbrev y : Keyed kind g c ks f
  y = o.keyed

  -- the edge looked at in a turn, and its key
  pub turn_key : (i : ℕ) → i < f → (k : ℕ) × (k < g.m) × (get_or g.mark k 0 ≢ 2) × (get_or ks i 0 % 256 ≡ k) × (kind k ≡ true)
      × (get_or ks i 0 ≡ key_at g c k)
  turn_key i h =
      let r = y.form i h in
      let place = key_low (get_or g.mark r.0 0) (get_or c r.0 0) r.0 (omega (arith, r.1, v.few)) in
      (r.0, r.1, r.2, rw r.3 place, r.4, r.3)

  -- the edges looked at are those of the kind that are not excluded
  pub placed : (e : ℕ) → e ∈ queued ks f → Placed g kind e
  placed e m =
      let p = queued_in ks f e m in
      let r = turn_key p.0 p.1 in
      (r.0, r.1, r.2, p.2 ∙ ap suc r.3, r.4)

  pub listed : (k : ℕ) → k < g.m → get_or g.mark k 0 ≢ 2 → kind k ≡ true → suc k ∈ queued ks f
  listed k h n t =
      let r = y.all k h n t in
      let e : get_or ks r.0 0 % 256 ≡ k = rw r.2 (key_low (get_or g.mark k 0) (get_or c k 0) k (omega (arith, v.few))) in
      subst (λ (x : ℕ). suc x ∈ queued ks f) e (in_queued ks f r.0 r.1)

  fall : Falls (key g c) (queued ks f)
  unfolding key
  fall = queued-falls (key g c) ks f at o.ascending y.once f (omega arith)
    where
      at : (i : ℕ) → i < f → key g c (suc (get_or ks i 0 % 256)) ≡ get_or ks i 0
      at i h = let r = turn_key i h in rw r.3 (sym r.5)

  mark_at_lem : (e : ℕ) (r : Placed g kind e) → needed (network g) e ≡ eqb (get_or g.mark r.0 0) 1
  mark_at_lem e r = subst (λ (x : ℕ). needed (network g) x ≡ eqb (get_or g.mark r.0 0) 1) (sym r.3) (needed-at g r.0 r.1)

  -- a required edge's key is below 256, and every other's is not
  key-small : (e : ℕ) → e ∈ queued ks f → needed (network g) e ≡ true → key g c e < 256
  unfolding key
  key-small e m q =
      let r = placed e m in
      let mark = eqb-true (get_or g.mark r.0 0) 1 (sym (mark_at_lem e r) ∙ q) in
      subst (λ (x : ℕ). key g c x < 256) (sym r.3)
      (omega (arith, key_required (get_or g.mark r.0 0) (get_or c r.0 0) r.0 mark, r.1, v.few))

  key-at : (e : ℕ) (r : Placed g kind e) → needed (network g) e ≡ false → key g c e ≡ get_or c r.0 0 * 256 + r.0
  unfolding key
  key-at e r q =
      let mark = eqb-false (get_or g.mark r.0 0) 1 (sym (mark_at_lem e r) ∙ q) in
      ap (key g c) r.3 ∙ key_free (get_or g.mark r.0 0) (get_or c r.0 0) r.0 mark

  splits : free_of g (queued ks f) ++ required_of g (queued ks f) ≡ queued ks f
  splits = falls_split (key g c) (needed (network g)) 256 (queued ks f) fall key-small
      (λ e m q. let r = placed e m in omega (arith, key-at e r q, o.low r.0 r.1))

  -- of two edges that are not required the one with the larger key weighs no less
  heavier : GoesWith (key g c) (one_weight (network g).m (entry c)) (free_of g (queued ks f))
  heavier x z mx mz l =
      one_weight-le (network g).m (entry c) x z (omega (arith, network_m g, rx.1, rx.3))
      (go (dec_le (suc (get_or c rx.0 0)) (get_or c rz.0 0)))
    where
      ix : (x ∈ queued ks f) × (not (needed (network g) x) ≡ true)
      ix = select_in (λ k. not (needed (network g) k)) (queued ks f) x mx

      iz : (z ∈ queued ks f) × (not (needed (network g) z) ≡ true)
      iz = select_in (λ k. not (needed (network g) k)) (queued ks f) z mz

      rx : Placed g kind x
      rx = placed x ix.0

      rz : Placed g kind z
      rz = placed z iz.0

      cx : entry c x ≡ get_or c rx.0 0
      cx = ap (entry c) rx.3

      cz : entry c z ≡ get_or c rz.0 0
      cz = ap (entry c) rz.3

      key-x : key g c x ≡ get_or c rx.0 0 * 256 + rx.0
      key-x = key-at x rx (not-true _ ix.1)

      key_z : key g c z ≡ get_or c rz.0 0 * 256 + rz.0
      key_z = key-at z rz (not-true _ iz.1)

      go : Dec (get_or c rx.0 0 < get_or c rz.0 0) → (entry c x < entry c z) ⊎ ((entry c x ≡ entry c z) × (x ≤ z))
      go (yes h) = inl (omega (arith, cx, cz))
      go (no h) = inr (
        omega (arith, cx, cz, key-x, key_z, rx.1, rz.1, v.few),
        omega (arith, cx, cz, key-x, key_z, rx.1, rx.3, rz.3, rz.1, v.few),
      )

  -- all of the kind, told by a test of the network's edges
  module _ (t : Edges) (agrees : (k : ℕ) → k < g.m → t (suc k) ≡ kind k) (all : List ℕ) (once : Distinct all)
      (there : (e : ℕ) → e ∈ all → (e ∈ up_to (network g).m) × (t e ≡ true) × (is_excluded ((network g).mark e) ≡ false))
      (back : (e : ℕ) → e ∈ up_to (network g).m → t e ≡ true → is_excluded ((network g).mark e) ≡ false → e ∈ all) where
    lists : Listing all (queued ks f)
    lists = record {
      once = once;
      once' = falls-distinct (key g c) (queued ks f) fall;
      there = λ e m. let x = there e m in to e x.1 x.2 (edge_in g e x.0);
      back = λ e m. of e (placed e m);
    }
      where
        to : (e : ℕ) → t e ≡ true → is_excluded ((network g).mark e) ≡ false → (k : ℕ) × (k < g.m) × (e ≡ suc k) → e ∈ queued ks f
        to e own x r = subst (λ (i : ℕ). i ∈ queued ks f) (sym r.2) (listed r.0 r.1
            (eqb-false _ 2
            (sym (excluded_at g r.0 r.1 v) ∙ subst (λ (i : ℕ). is_excluded ((network g).mark i) ≡ false) r.2 x))
            (sym (agrees r.0 r.1) ∙ subst (λ (i : ℕ). t i ≡ true) r.2 own))

        of : (e : ℕ) → Placed g kind e → e ∈ all
        of e r = back e (subst (λ (x : ℕ). x ∈ up_to (network g).m) (sym r.3) (in_edge g r.0 r.1))
            (subst (λ (x : ℕ). t x ≡ true) (sym r.3) (agrees r.0 r.1 ∙ r.4))
            (subst (λ (x : ℕ). is_excluded ((network g).mark x) ≡ false) (sym r.3)
            (excluded_at g r.0 r.1 v ∙ ne_eqb _ 2 r.2))

    in_order : Queued g c ks f all
    in_order =
        let top = falls_desc (key g c) (one_weight (network g).m (entry c)) (free_of g (queued ks f))
        (falls-select (key g c) (λ k. not (needed (network g) k)) (queued ks f) fall) heavier in
        record {
          splits = splits;
          ordered = record {
            listing = rw splits lists;
            top = top.0;
            desc = top.1;
            must = λ k m. (select_in (needed (network g)) (queued ks f) k m).1;
            may = λ k m. not-true _ (select_in (λ j. not (needed (network g) j)) (queued ks f) k m).1;
          };
          size = (same-weight (λ k. 0) all (queued ks f) once lists.once' lists.there lists.back).1 ∙ queued-length ks f;
        }

-- ---- both kinds

near_agrees : (g : Graph) (k : ℕ) → k < g.m → is_near (network g) (suc k) ≡ near_at g.a k
near_agrees g k h = ap (λ (x : ℕ). eqb x 1) (network_a g k h)

pub near-queued : (g : Graph) (c ns : List ℕ) (h : ℕ) → InKeyOrder g (near_at g.a) c ns h → Queued g c ns h (near (network g))
near-queued g c ns h o =
    let G = network g in
    in_order g (near_at g.a) c ns h o (is_near G) (near_agrees g) (near G) (distinct-near G) (near_in G) (in_near G)

pub far-queued : (g : Graph) (c ks : List ℕ) (f : ℕ) → InKeyOrder g (far_at g.a) c ks f → Queued g c ks f (far (network g))
far-queued g c ks f o =
    let G = network g in
    in_order g (far_at g.a) c ks f o (λ k. not (is_near G k)) (λ k h. ap not (near_agrees g k h)) (far G) (distinct-far G)
    (λ e m. let r = far_in G e m in (r.0, ap not r.1, r.2))
    (λ e m h x. in_far G e m (not-true _ h) x)
