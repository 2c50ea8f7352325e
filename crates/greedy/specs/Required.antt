-- The required edges of a kind are the first that are looked at: their keys are below 256, and no other edge's is. So the labels after those
-- away from vertex 1 say which vertices they join. Assumes nothing.
use Rattle.std.specs.Prelude.{◌≡◌, ◌≢◌, true, false, not, List, ℕ, zero, suc, ◌+◌, ◌%◌, ◌<◌, ◌≤◌, min, length, get_or, eqb}
use Rattle.std.proofs.Common.{◌∙◌, sym, ap, subst, arith, eq-eqb, ne_eqb}
use Rattle.std.proofs.Math.Decide.{ℕ_discrete}
use Rattle.lists.specs.Members.{◌∈◌, in_right}
use Rattle.lists.specs.Select.{select, in_select, select_full}
use Rattle.graph.specs.declared.Graph.{Graph}
use Rattle.graph.specs.Network.{network}
use Rattle.graph.specs.Places.{network_a, network_b}
use Rattle.graph.specs.Valid as value
use Rattle.spanning.specs.Walks.{label, label-le, label_edge, label_idem, walk-label, walk_mono, walk_respects}
use Rattle.spanning.specs.Held.{HoldsLabels}
use Rattle.tree_theory.specs.OneTree.{Edges}
use Rattle.tree_theory.specs.Valid.{needed, far, others_in, far_within}
use Rattle.tree_theory.specs.Arrays.{needed-at, network-valid}
use Rattle.greedy.specs.Keys.{key_at, key_required, key_free, Kind, far_at, far_keys, queued, queued_in}
use Rattle.greedy.specs.Parting.{Reached}
use Rattle.greedy.specs.ChoiceSoFar.{max_labels}
use Rattle.greedy.specs.Queue.{InKeyOrder, required_of, free_of, turn_key, listed, far-queued}
use Rattle.tree_theory.specs.Merges.{Merges}

-- of the first f keys the first r are below 256, and the next is not
abbrev pub Small : List ℕ → ℕ → ℕ → Type 0
Small ks f r = (r ≤ f) × ((i : ℕ) → i < r → get_or ks i 0 < 256) × (r < f → 256 ≤ get_or ks r 0)

-- so it is with the keys of either kind
pub near-small : (ks : List ℕ) (f r : ℕ) → Reached ks f 256 r → Small ks f r
near-small ks f r h = h

pub far-small : (ks fs : List ℕ) (f r : ℕ) → ((i : ℕ) → i < f → get_or ks i 0 ≡ far_keys + get_or fs i 0)
    → Reached ks f (far_keys + 256) r → Small fs f r
far-small ks fs f r at h = (
  h.0,
  λ i l. omega (arith, at i (omega (arith, h.0)), h.1 i l),
  λ l. omega (arith, at r l, h.2 l),
)

-- the edge looked at in turn i
abbrev pub turned : List ℕ → ℕ → ℕ
turned ks i = suc (get_or ks i 0 % 256)

-- where a test passes just the first r edges looked at, it selects these
first_of : (t : Edges) (ks : List ℕ) (r f : ℕ) → r ≤ f → ((i : ℕ) → i < r → t (turned ks i) ≡ true)
    → ((i : ℕ) → r ≤ i → i < f → t (turned ks i) ≡ false) → select t (queued ks f) ≡ queued ks r
unfolding queued select
first_of t ks r zero h on off = let e : r ≡ 0 = omega arith in rw e
first_of t ks r (suc f) h on off = go (ℕ_discrete r (suc f)) (λ l. first_of t ks r f l on (λ i a b. off i a (omega arith)))
  where
    passes : (x : ℕ) → x ∈ queued ks r → t x ≡ true
    passes x m = let p = queued_in ks r x m in rw p.2 (on p.0 p.1)

    go : Dec (r ≡ suc f) → (r ≤ f → select t (queued ks f) ≡ queued ks r) → select t (queued ks (suc f)) ≡ queued ks r
    go (yes e) below = subst (λ (n : ℕ). select t (queued ks n) ≡ queued ks r) e (select_full t (queued ks r) passes)
    go (no e) below = rw (off f (omega arith) (omega arith)) (below (omega arith))

module _ (g : Graph) (kind : Kind) (c ks : List ℕ) (f : ℕ) (o : InKeyOrder g kind c ks f) (r : ℕ) (s : Small ks f r) where
  -- whether the edge looked at in turn i is required, by its key
  marked : (i : ℕ) → i < f
      → ((get_or ks i 0 < 256) → needed (network g) (turned ks i) ≡ true)
      × ((256 ≤ get_or ks i 0) → needed (network g) (turned ks i) ≡ false)
  marked i h = rw x.3 (rw (needed-at g k x.1) (go (ℕ_discrete (get_or g.mark k 0) 1)))
    where
      x : (k : ℕ) × (k < g.m) × (get_or g.mark k 0 ≢ 2) × (get_or ks i 0 % 256 ≡ k) × (kind k ≡ true) × (get_or ks i 0 ≡ key_at g c k)
      x = turn_key g kind c ks f o i h

      k : ℕ
      k = x.0

      go : Dec (get_or g.mark k 0 ≡ 1)
          → ((get_or ks i 0 < 256) → eqb (get_or g.mark k 0) 1 ≡ true) × ((256 ≤ get_or ks i 0) → eqb (get_or g.mark k 0) 1 ≡ false)
      go (yes e) = (
        λ l. eq-eqb _ 1 e,
        λ l. absurd (omega (arith, x.5, key_required (get_or g.mark k 0) (get_or c k 0) k e, x.1, o.valid.few)),
      )
      go (no e) = (
        λ l. absurd (omega (arith, x.5, key_free (get_or g.mark k 0) (get_or c k 0) k e, o.low k x.1)),
        λ l. ne_eqb _ 1 e,
      )

  pub on : (i : ℕ) → i < r → needed (network g) (turned ks i) ≡ true
  on i h = (marked i (omega (arith, s.0))).0 (s.1 i h)

  pub off : (i : ℕ) → r ≤ i → i < f → needed (network g) (turned ks i) ≡ false
  off i a h = (marked i h).1 (go (ℕ_discrete r i))
    where
      go : Dec (r ≡ i) → 256 ≤ get_or ks i 0
      go (yes e) = rw (← e) (s.2 (omega arith))
      go (no e) = omega (arith, s.2 (omega arith), o.ascending r i (omega arith) h)

  pub required_first : required_of g (queued ks f) ≡ queued ks r
  required_first = first_of (needed (network g)) ks r f s.0 on off

-- ---- those away from vertex 1: the labels after them

module _ (g : Graph) (c ks : List ℕ) (f : ℕ) (o : InKeyOrder g (far_at g.a) c ks f) (r : ℕ) (s : Small ks f r) where
  abbrev v : value.Valid g
  v = o.valid

  pub of_far : (e : ℕ) → e ∈ queued ks r → (e ∈ far (network g)) × (needed (network g) e ≡ true)
  of_far e m =
      let q = (far-queued g c ks f o).ordered in
      let i : e ∈ required_of g (queued ks f) = rw (required_first g (far_at g.a) c ks f o r s) m in
      (q.listing.back e (in_right e (free_of g (queued ks f)) (required_of g (queued ks f)) i), q.must e i)

  pub of_required : (k : ℕ) → k < g.m → get_or g.a k 0 ≢ 1 → get_or g.mark k 0 ≡ 1 → suc k ∈ queued ks r
  of_required k h n e =
      rw (required_first g (far_at g.a) c ks f o r s) at
      (in_select (needed (network g)) (queued ks f) (suc k)
      (listed g (far_at g.a) c ks f o k h (λ z. omega arith) (ap not (ne_eqb _ 1 n)))
      (needed-at g k h ∙ eq-eqb _ 1 e))

  -- both ends of such an edge are past vertex 1
  above : (e : ℕ) → e ∈ queued ks r → min ((network g).a e) 2 ≡ min ((network g).b e) 2
  above e m =
      let w = far_within (network g) (network-valid g v) e (of_far e m).0 in
      omega (arith, (others_in (network g) ((network g).a e) w.0).0, (others_in (network g) ((network g).b e) w.1).0)

  pub merges : (l : List ℕ) → length l ≡ max_labels → HoldsLabels (network g).a (network g).b max_labels l (queued ks r) → Merges g l
  merges l long holds =
      let p = (network g).a in
      let o = (network g).b in
      record {
        long = long;
        joined = λ k h n e.
            let x = v.each k h in
            holds (get_or g.a k 0) (omega (arith, x.less, x.to, v.high))
            ∙ (rw (network_a g k h, network_b g k h) at (label_edge p o (queued ks r) (suc k) (of_required k h n e)))
            ∙ sym (holds (get_or g.b k 0) (omega (arith, x.to, v.high)));
        linked = λ u h. rw (holds u h) (walk_mono p o
            (λ e m. in_select (needed (network g)) (far (network g)) e (of_far e m).0 (of_far e m).1) (walk-label p o (queued ks r) u));
        below = λ u h. rw (holds u h) (label-le p o (queued ks r) u);
        inside = λ u a h. rw (holds u h) (omega (arith, walk_respects p o (λ z. min z 2) above (walk-label p o (queued ks r) u)));
        again = λ u h. rw (holds u h)
            (holds (label p o (queued ks r) u) (omega (arith, label-le p o (queued ks r) u)) ∙ label_idem p o (queued ks r) u);
      }
