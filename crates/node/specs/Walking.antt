-- The set bits of a word, from the lowest up, as a loop takes them: word w of a row, in which the bits are those of the edges that pass a
-- test (`Masked`), how far the loop has come (`Walk`), and what it does by then (`Upto`). Assumes nothing.
use Rattle.std.specs.Prelude.{◌≡◌, refl, ◌≢◌, true, false, Option, Some, None, ℕ, zero, suc, ◌+◌, ◌-◌, ◌*◌, ◌^◌, ◌≤◌, ◌<◌, min}
use Rattle.std.proofs.Math.Path.{sym, subst}
use Rattle.std.proofs.Common.{ap, ◌∙◌, true≢false, arith, pow_pos}
use Rattle.std.proofs.Math.Decide.{dec_le, ℕ_discrete}
use Rattle.std.specs.Int.Bits.{bit_and}
use Rattle.std.specs.Int.Count.{count_trailing_zeros}
use Rattle.bits.specs.Digits.{bit_of, zero_bit}
use Rattle.bits.specs.Changes.{clear_le, clear_here, clear_there}
use Rattle.bits.specs.Words.{trailing_below, trailing_here, trailing_some, lowest_off}
use Rattle.tree_theory.specs.OneTree.{Edges}
use Rattle.thinning.specs.Ranks.{rank, rank_yes, rank_no, rank_most}
use Rattle.graph.specs.Limits.{max_edges}
use Rattle.node.specs.declared.rows.SetBits.{SetBits}

-- the place after the first k bits of word w, of m edges
abbrev pub cut : ℕ → ℕ → ℕ → ℕ
cut m w k = min m (64 * w + k)

-- a word whose bits are those of the edges that c has, of m
pub record Masked (c : Edges) (m w x : ℕ) : Type 0 where
  pub small : x < 2 ^ 64
  pub live : (j : ℕ) → j < 64 → 64 * w + j < m → bit_of x j ≡ c (suc (64 * w + j))
  pub past : (j : ℕ) → m ≤ 64 * w + j → bit_of x j ≡ false

-- ---- edges that c has not

pub rank_skip : (c : Edges) (a b : ℕ) → a ≤ b → ((i : ℕ) → a ≤ i → i < b → c (suc i) ≡ false) → rank c a ≡ rank c b
rank_skip c a zero h out = ap (rank c) (omega arith)
rank_skip c a (suc b) h out = go (dec_le a b) (λ l. rank_skip c a b l (λ i k u. out i k (omega arith)))
  where
    go : Dec (a ≤ b) → (a ≤ b → rank c a ≡ rank c b) → rank c a ≡ rank c (suc b)
    go (yes l) before = before l ∙ sym (rank_no c b (out b l (omega arith)))
    go (no l) before = ap (rank c) (omega arith)

-- ---- the walk

-- x has the bits of the word from `upto` on, and f edges were met below
pub record Walk (c : Edges) (m w word x f : ℕ) : Type 0 where
  pub upto : ℕ
  pub low : upto ≤ 64
  pub small : x < 2 ^ 64
  pub done : (j : ℕ) → j < upto → bit_of x j ≡ false
  pub rest : (j : ℕ) → upto ≤ j → bit_of x j ≡ bit_of word j
  pub count : f ≡ rank c (cut m w upto)

module _ (c : Edges) (m w word : ℕ) (masked : Masked c m w word) where
  unfoldable pub walk_first : (f : ℕ) → f ≡ rank c (cut m w 0) → Walk c m w word word f
  walk_first f e = record {
    upto = 0;
    low = omega arith;
    small = masked.small;
    done = λ j h. absurd (omega arith);
    rest = λ j h. refl;
    count = e;
  }

  module _ (x f : ℕ) (s : Walk c m w word x f) where
    -- where the bits from upto to b are clear, the edges there are none of c
    clear_edges : (b : ℕ) → b ≤ 64 → ((j : ℕ) → s.upto ≤ j → j < b → bit_of x j ≡ false) → (i : ℕ) → cut m w s.upto ≤ i → i < cut m w b
        → c (suc i) ≡ false
    clear_edges b l off i a u =
        let e : 64 * w + (i - 64 * w) ≡ i = omega arith in
        ap (λ (k : ℕ). c (suc k)) (sym e)
        ∙ sym (masked.live (i - 64 * w) (omega arith) (omega arith))
        ∙ sym (s.rest (i - 64 * w) (omega arith))
        ∙ off (i - 64 * w) (omega arith) (omega arith)

    -- no bit is left
    module _ (none : x ≡ 0) where
      pub last_clear : (i : ℕ) → cut m w s.upto ≤ i → i < cut m w 64 → c (suc i) ≡ false
      last_clear = clear_edges 64 (omega arith) (λ j l u. ap (λ (y : ℕ). bit_of y j) none ∙ zero_bit j)

      pub walk_last : f ≡ rank c (cut m w 64)
      walk_last = s.count ∙ rank_skip c (cut m w s.upto) (cut m w 64) (omega (arith, s.low)) last_clear

    -- there is one
    module _ (some : x ≢ 0) where
      abbrev pub t : ℕ
      t = count_trailing_zeros 64 x

      pub in_word : t < 64
      in_word = trailing_some 64 x s.small some

      pub here : bit_of x t ≡ true
      here = trailing_here 64 x in_word

      pub from : s.upto ≤ t
      from = go (dec_le s.upto t)
        where
          go : Dec (s.upto ≤ t) → s.upto ≤ t
          go (yes l) = l
          go (no l) = absurd (true≢false (sym here ∙ s.done t (omega arith)))

      pub on : bit_of word t ≡ true
      on = sym (s.rest t from) ∙ here

      pub within : 64 * w + t < m
      within = go (dec_le (suc (64 * w + t)) m)
        where
          go : Dec (64 * w + t < m) → 64 * w + t < m
          go (yes l) = l
          go (no l) = absurd (true≢false (sym on ∙ masked.past t (omega arith)))

      pub met : c (suc (64 * w + t)) ≡ true
      met = sym (masked.live t in_word within) ∙ on

      pub between : (i : ℕ) → cut m w s.upto ≤ i → i < 64 * w + t → c (suc i) ≡ false
      between i l u = clear_edges t (omega (arith, in_word)) (λ j a b. trailing_below 64 x j b) i l (omega (arith, within))

      pub rank-met : f ≡ rank c (64 * w + t)
      rank-met = s.count ∙ rank_skip c (cut m w s.upto) (64 * w + t) (omega (arith, from)) between

      pub off : bit_and x (x - 1) ≡ x - 2 ^ t
      off = lowest_off 64 x s.small (omega arith)

      pub power : x - bit_and x (x - 1) ≡ 2 ^ t
      power = omega (arith, off, clear_le x t here)

      pub less : bit_and x (x - 1) < x
      less = omega (arith, off, clear_le x t here, pow_pos t)

      pub cut-next : cut m w (suc t) ≡ suc (64 * w + t)
      cut-next = omega (arith, within)

      unfoldable pub walk_more : Walk c m w word (bit_and x (x - 1)) (f + 1)
      walk_more = record {
        upto = suc t;
        low = in_word;
        small = omega (arith, s.small, off);
        done = λ j h. ap (λ (y : ℕ). bit_of y j) off ∙ cleared j h (ℕ_discrete j t);
        rest = λ j h. ap (λ (y : ℕ). bit_of y j) off ∙ clear_there x t j here (omega arith) ∙ s.rest j (omega (arith, from));
        count = omega (arith, rank-met, rank_yes c (64 * w + t) met, ap (rank c) cut-next);
      }
        where
          cleared : (j : ℕ) → j < suc t → Dec (j ≡ t) → bit_of (x - 2 ^ t) j ≡ false
          cleared j h (yes e) = ap (bit_of (x - 2 ^ t)) e ∙ clear_here x t here
          cleared j h (no e) = clear_there x t j here e ∙ trailing_below 64 x j (omega arith)

-- ---- as an iterator

abbrev pub Lowest : SetBits → Option ℕ → SetBits → Type 0
Lowest x None y = x.0 ≡ 0
Lowest x (Some t) y = (x.0 ≢ 0) × (t ≡ count_trailing_zeros 64 x.0) × (y.0 ≡ bit_and x.0 (x.0 - 1))

-- ---- what a loop does to each of the edges

-- an edge of c at place k, the one after f others
pub record Met (c : Edges) (m w k f : ℕ) : Type 0 where
  pub low : k < m
  pub kept : c (suc k) ≡ true
  pub new : f ≡ rank c k
  pub here : (64 * w ≤ k) × (k < 64 * w + 64)

module _ (c : Edges) (m w : ℕ) where
  -- P of the place up to which the edges are met, where x has the bits of the others, and f were met
  pub record Upto (P : ℕ → Type 0) (x f : ℕ) : Type 0 where
    pub few : m ≤ max_edges
    pub word : ℕ
    pub masked : Masked c m w word
    pub walk : Walk c m w word x f
    pub does : P (cut m w walk.upto)

  -- nothing is done about an edge that c has not
  abbrev pub Skips : (ℕ → Type 0) → Type 0
  Skips P = (k : ℕ) → 64 * w ≤ k → k < cut m w 64 → c (suc k) ≡ false → P k → P (suc k)

  skip_to : (P : ℕ → Type 0) (a b : ℕ) → a ≤ b → ((k : ℕ) → a ≤ k → k < b → P k → P (suc k)) → P a → P b
  skip_to P a zero h step p = subst P (omega arith) p
  skip_to P a (suc b) h step p = go (dec_le a b) (λ l. skip_to P a b l (λ k u v. step k u (omega arith)) p)
    where
      go : Dec (a ≤ b) → (a ≤ b → P b) → P (suc b)
      go (yes l) before = step b l (omega arith) (before l)
      go (no l) before = subst P (omega arith) p

  module _ (P : ℕ → Type 0) where
    pub upto_first : m ≤ max_edges → (word f : ℕ) (x : SetBits) → x ≡ record { 0 = word } → Masked c m w word → f ≡ rank c (cut m w 0) → P (cut m w 0)
        → Upto P x.0 f
    unfolding walk_first
    upto_first few word f x is masked e p =
        rw is (record { few = few; word = word; masked = masked; walk = walk_first c m w word masked f e; does = p })

    pub upto_last : (x f : ℕ) → Upto P x f → Skips P → x ≡ 0 → (f ≡ rank c (cut m w 64)) × P (cut m w 64)
    upto_last x f s skips none =
        let clear = last_clear c m w s.word s.masked x f s.walk none in (
          walk_last c m w s.word s.masked x f s.walk none,
          skip_to P (cut m w s.walk.upto) (cut m w 64) (omega (arith, s.walk.low)) (λ k u v. skips k (omega arith) v (clear k u v)) s.does,
        )

    module _ (x y : SetBits) (f : ℕ) (s : Upto P x.0 f) (t : ℕ) (next : Lowest x (Some t) y) where
      pub upto_edge : Met c m w (64 * w + t) f
      upto_edge =
          let some = next.0 in
          rw next.1 (record {
            low = within c m w s.word s.masked x.0 f s.walk some;
            kept = met c m w s.word s.masked x.0 f s.walk some;
            new = rank-met c m w s.word s.masked x.0 f s.walk some;
            here = (omega arith, omega (arith, in_word c m w s.word s.masked x.0 f s.walk some));
          })

      pub upto_met : Skips P → P (64 * w + t)
      upto_met skips =
          let some = next.0 in
          let e = upto_edge in
          skip_to P (cut m w s.walk.upto) (64 * w + t) (omega (arith, from c m w s.word s.masked x.0 f s.walk some, next.1))
          (λ k u v. skips k (omega (arith, e.low)) (omega (arith, e.low, e.here.1))
          (between c m w s.word s.masked x.0 f s.walk some k u (omega (arith, next.1)))) s.does

      -- once it is done
      pub upto_more : (Q : ℕ → Type 0) → Q (suc (64 * w + t)) → Upto Q y.0 (f + 1)
      unfolding walk_more
      upto_more Q q =
          rw next.2 (record {
            few = s.few;
            word = s.word;
            masked = s.masked;
            walk = walk_more c m w s.word s.masked x.0 f s.walk next.0;
            does = subst Q (ap (λ (i : ℕ). suc (64 * w + i)) next.1 ∙ sym (cut-next c m w s.word s.masked x.0 f s.walk next.0)) q;
          })

-- the places of an edge that is met, of at most 190, before and after
module _ (c : Edges) (m w : ℕ) (P : ℕ → Type 0) (x f : ℕ) where
  pub place_fits : (t : ℕ) → Upto c m w P x f → x ≢ 0 → t ≡ count_trailing_zeros 64 x → 64 * w + t < max_edges
  place_fits t s some e = omega (arith, e, s.few, within c m w s.word s.masked x f s.walk some)

  pub count_fits : Upto c m w P x f → x ≢ 0 → f < max_edges
  count_fits s some =
      omega (
        arith,
        s.few,
        within c m w s.word s.masked x f s.walk some,
        rank-met c m w s.word s.masked x f s.walk some,
        rank_most c (64 * w + count_trailing_zeros 64 x),
      )
