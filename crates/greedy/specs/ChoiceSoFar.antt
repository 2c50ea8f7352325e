-- The loops that make the greedy choice, as what holds before and after each turn: of the edges away from vertex 1, and of those at it. Assumes
-- nothing.
use Rattle.std.specs.Prelude.{◌≡◌, ◌≢◌, List, [], ◌∷◌, length, get_or, set}
use Rattle.std.proofs.Common.{◌∙◌, sym, ap, arith, length-set}
use Rattle.std.proofs.Math.Path.{subst}
use Prim.Native.Nat.{ℕ, zero, suc, ◌+◌, ◌*◌, ◌%◌, ◌<◌, ◌≤◌}
use Rattle.std.proofs.Math.Decide.{ℕ_discrete}
use Rattle.graph.specs.Limits.{max_vertices, max_edges}
use Rattle.graph.specs.Network.{Network}
use Rattle.spanning.specs.Walks.{label, relabel}
use Rattle.spanning.specs.Components.{rank}
use Rattle.spanning.specs.Held.{HoldsLabels, holds_join, holds_idle}
use Rattle.greedy.specs.Charged.{max_charge}
use Rattle.greedy.specs.Keys.{SamePlaces, queued, queued-step, queued-length, queued-same}
use Rattle.greedy.specs.Growth.{TakenGreedily, grew_none, grow_near, grow_spare, grow_join, grow_idle}

-- vertices number from 1, so labels have a place more
abbrev pub max_labels : ℕ
max_labels = max_vertices + 1

-- ---- the edges away from vertex 1

-- after i edges: the labels l, the set w, how many are taken, the sum of their charges c
pub record ChoiceSoFar (G : Network) (c ks : List ℕ) (i : ℕ) (l w : List ℕ) (far sum : ℕ) : Type 0 where
  pub long : length l ≡ max_labels
  pub wide : length w ≡ max_edges
  pub less : far ≤ i
  pub light : sum ≤ max_charge * i
  pub holds : HoldsLabels G.a G.b max_labels l (queued ks i)
  pub grew : TakenGreedily G c [] (queued ks i) w far sum

-- before each turn from `from` on, up to turn i, fewer than `enough` were taken: of the first q edges so many join two components
abbrev pub Lacking : Network → List ℕ → ℕ → ℕ → ℕ → Type 0
Lacking G ks enough from i = (q : ℕ) → from ≤ q → q < i → rank G.a G.b (queued ks q) < enough

pub lacking_more : (G : Network) (c ks : List ℕ) (i : ℕ) (l w : List ℕ) (far sum enough from : ℕ) → ChoiceSoFar G c ks i l w far sum
    → far < enough → Lacking G ks enough from i → Lacking G ks enough from (i + 1)
lacking_more G c ks i l w far sum enough from t h below q a b = go (ℕ_discrete q i)
  where
    go : Dec (q ≡ i) → rank G.a G.b (queued ks q) < enough
    go (yes e) = rw e (omega (arith, t.grew.joined))
    go (no e) = below q a (omega arith)

pub choice_none : (G : Network) (c ks l w : List ℕ) → length l ≡ max_labels → ((v : ℕ) → v < max_labels → get_or l v 0 ≡ v)
    → length w ≡ max_edges → ((k : ℕ) → get_or w k 0 ≡ 0) → ChoiceSoFar G c ks 0 l w 0 0
unfolding queued label
choice_none G c ks l w long each wide none = record {
  long = long;
  wide = wide;
  less = omega arith;
  light = omega arith;
  holds = each;
  grew = grew_none G c w none;
}

module _ (G : Network) (c ks : List ℕ) (i : ℕ) (l w : List ℕ) (far sum k a b : ℕ) (t : ChoiceSoFar G c ks i l w far sum)
    (small : k < max_edges) (cheap : get_or c k 0 ≤ max_charge) (ek : k ≡ get_or ks i 0 % 256)
    (ea : G.a (suc k) ≡ a) (eb : G.b (suc k) ≡ b) (ha : a < max_labels) (hb : b < max_labels) where
  next : queued ks (i + 1) ≡ suc k ∷ queued ks i
  next = queued-step ks i ∙ ap {B = List ℕ} (λ x. suc x ∷ queued ks i) (sym ek)

  room : k < length w
  room = omega (arith, t.wide)

  la : G.a (suc k) < max_labels
  la = omega (arith, ea)

  lb : G.b (suc k) < max_labels
  lb = omega (arith, eb)

  pub choice_join : (ys : List ℕ) → length ys ≡ max_labels → get_or l a 0 ≢ get_or l b 0
      → ((v : ℕ) → v < max_labels → get_or ys v 0 ≡ relabel (get_or l a 0) (get_or l b 0) (get_or l v 0))
      → ChoiceSoFar G c ks (i + 1) ys (set w k 1) (far + 1) (sum + get_or c k 0)
  choice_join ys long ne step = record {
    long = long;
    wide = length-set w k 1 ∙ t.wide;
    less = omega (arith, t.less);
    light = omega (arith, t.light);
    holds = rw next (holds_join G.a G.b max_labels l ys (suc k) (queued ks i) la lb t.holds (rw (ea, eb) step));
    grew = rw next (grow_join G c [] (queued ks i) w far sum t.grew k room l max_labels la lb t.holds (rw (ea, eb) ne));
  }

  pub choice_idle : get_or l a 0 ≡ get_or l b 0 → ChoiceSoFar G c ks (i + 1) l w far sum
  choice_idle e = record {
    long = t.long;
    wide = t.wide;
    less = omega (arith, t.less);
    light = omega (arith, t.light);
    holds = rw next (holds_idle G.a G.b max_labels l (suc k) (queued ks i) la lb t.holds (rw (ea, eb) e));
    grew = rw next (grow_idle G c [] (queued ks i) w far sum t.grew k room l max_labels la lb t.holds (rw (ea, eb) e));
  }

-- so it is with other keys of the same edges
module _ (G : Network) (c ks ls : List ℕ) (f : ℕ) (same : SamePlaces ks ls f) where
  pub choice-same : (i : ℕ) (l w : List ℕ) (far sum : ℕ) → i ≤ f → ChoiceSoFar G c ks i l w far sum → ChoiceSoFar G c ls i l w far sum
  choice-same i l w far sum h t =
      let e : queued ks i ≡ queued ls i = queued-same ks ls i (λ j m. same j (omega arith)) in
      record {
        long = t.long;
        wide = t.wide;
        less = t.less;
        light = t.light;
        holds = rw e at t.holds;
        grew = rw e at t.grew;
      }

  pub lacking-same : (enough from i : ℕ) → i ≤ f → Lacking G ks enough from i → Lacking G ls enough from i
  lacking-same enough from i h t q a b = rw (queued-same ks ls q (λ j m. same j (omega arith))) at (t q a b)

-- ---- those at vertex 1

-- what of the first i edges at vertex 1 goes onto any choice of others: the set w₀ becomes w, and the sum sum₀ becomes sum
abbrev pub TwoTaken : List ℕ → List ℕ → ℕ → List ℕ → ℕ → List ℕ → ℕ → Type 0
TwoTaken c ns i w₀ sum₀ w sum =
    (G : Network) (es : List ℕ) (far : ℕ) → TakenGreedily G c [] es w₀ far sum₀ → TakenGreedily G c (queued ns i) es w far sum

pub two_none : (c ns w : List ℕ) (sum : ℕ) → TwoTaken c ns 0 w sum w sum
unfolding queued
two_none c ns w sum G es far t = t

module _ (c ns : List ℕ) (i : ℕ) (w₀ : List ℕ) (sum₀ : ℕ) (w : List ℕ) (sum : ℕ) (t : TwoTaken c ns i w₀ sum₀ w sum) where
  pub two-more : (k : ℕ) → k ≡ get_or ns i 0 % 256 → k < length w → i < 2 → TwoTaken c ns (i + 1) w₀ sum₀ (set w k 1) (sum + get_or c k 0)
  two-more k e room o G es far s =
      let next : queued ns (i + 1) ≡ suc k ∷ queued ns i = queued-step ns i ∙ ap {B = List ℕ} (λ x. suc x ∷ queued ns i) (sym e) in
      rw next (grow_near G c (queued ns i) es w far sum (t G es far s) k room (omega (arith, queued-length ns i)))

  -- the others are left
  pub two_spare : (f : ℕ) → i ≤ f → 2 ≤ i → TwoTaken c ns f w₀ sum₀ w sum
  unfolding queued
  two_spare zero h o = absurd (omega arith)
  two_spare (suc f) h o = go (ℕ_discrete i (suc f)) (λ l. two_spare f l o)
    where
      go : Dec (i ≡ suc f) → (i ≤ f → TwoTaken c ns f w₀ sum₀ w sum) → TwoTaken c ns (suc f) w₀ sum₀ w sum
      go (yes e) below = subst (λ (x : ℕ). TwoTaken c ns x w₀ sum₀ w sum) e t
      go (no e) below = λ G es far s.
          grow_spare G c (queued ns f) es w far sum (below (omega arith) G es far s) _ (omega (arith, queued-length ns f))
