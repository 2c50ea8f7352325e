-- Laws that no proof cites today: of the record's check by its parts, of a stack's places one after the other, of a graph that is cleared past
-- its edges place by place. Assumes nothing.
use Rattle.std.specs.Prelude.{◌≡◌, refl, ◌≢◌, Bool, true, false, cond, ◌⊎◌, List, [], ◌∷◌, ℕ, ◌-◌, suc, ◌+◌, ◌*◌, ◌%◌, ◌^◌, ◌≤◌, ◌<◌, min, leb, eqb, length, get_or, set, ℤ, pos, zero, ◌/◌}
use Rattle.std.proofs.Common.{sym, ap, ◌∙◌, subst, inl, inr, arith, below_more, length-set, get_or-set_same, get_or-set_other, ext_get_or, to_z, of_z, mod-eq_of_lt, pow_mono, pow_pos, le-ltb, add-one}
use Rattle.std.proofs.Math.Nat.{pow-succ'}
use Rattle.std.proofs.Math.Decide.{dec_le, ℕ_discrete}
use Rattle.std.specs.Int.Signed.{mag}
use Rattle.std.specs.Int.{w32, w64}
use Rattle.lists.specs.Bools.{Says, says_both}
use Rattle.lists.specs.Fill.{fit, fit_cut, fill}
use Rattle.lists.specs.Rows.{row, row-size, row_at}
use Rattle.integers.specs.Words.{back32, back64}
use Rattle.graph.specs.Limits.{max_vertices, max_edges, max_sweeps, max_step, max_count}
use Rattle.graph.specs.declared.Graph.{Graph}
use Rattle.graph.specs.Network.{place, Mark, free, required, excluded, mark_of}
use Rattle.graph.specs.Places.{place_at, place_past}
use Rattle.tree_theory.specs.Inputs.{ceiling_fits, multipliers_fit, denominator_fault}
use Rattle.machine.specs.declared.Settings.{Settings}
use Rattle.machine.specs.Machine.{Opening, trimmed, Node, Progress, open_top, ran, opening_of}
use Rattle.machine.specs.Runs.{ran-opens, ran_empty, ran_full}
use Rattle.machine.specs.Kept.{active_size}
use Rattle.machine.specs.Active.{active_most}
use Rattle.mark_rows.specs.MarkRows.{rows_of, row_words, node_words, required_in}
use Rattle.machine.specs.Calls.{fault}
use Rattle.search.specs.Record.{max_nodes, rows_at, carried_size, no_settings, multipliers_at, has_tour, opening_in, active_in}
use Rattle.search.specs.Canonical.{Zeros, GraphTidy, used_in, StackTidy, CarriedTidy, Tidy, Idle, StackFits, touching_in, StackStruck, CarriedFits, Bits, Fits}
use Rattle.search.specs.Checks.Loops.{says-le, says_eq}
use Rattle.search.specs.Checks.Parts as parts
use Rattle.std.specs.Int.Count.{ones}
use Rattle.lists.specs.Weights.{weight}
use Rattle.bits.specs.Rows.{row_ones}
use Rattle.mark_rows.specs.SixWords.{rows_size, rows_small, with_edge}
use Rattle.mark_rows.specs.Building.{partly}
use Rattle.mark_rows.proofs.Building.{partly_free, partly_required, partly_excluded}
use Rattle.search.specs.Begun.{begun_trimmed}
use Rattle.search.specs.Words.Pushing.{Put, rows_top, carried_top}
use Rattle.search.specs.Accepted.{range_fits, range_denominator}
use Rattle.search.specs.Runs.TopNode.{Holds, Top, place as place_of_top, holds_upper, holds_depth, holds_count, holds_settings, top-high, waits, old-words, old-carried}
use Rattle.search.specs.declared.Search.{Search}

-- ---- words that are zero

pub zero32 : (z : ℤ) → mag z < 2147483648 → of_z w32 z ≡ 0 → z ≡ pos 0
zero32 z h e = sym (back32 z h) ∙ ap (to_z w32) e

pub zero64 : (z : ℤ) → mag z < 9223372036854775808 → of_z w64 z ≡ 0 → z ≡ pos 0
zero64 z h e = sym (back64 z h) ∙ ap (to_z w64) e

-- one bit of a word, as code makes it
pub one_bit : (j : ℕ) → j < 64 → 1 * 2 ^ j % 18446744073709551616 ≡ 2 ^ j
one_bit j h =
    ap (λ (x : ℕ). x % 18446744073709551616) (omega arith)
    ∙ mod-eq_of_lt (omega (arith, pow-succ' 2 j, pow_pos j, pow_mono {i = suc j} {j = 64} h))

-- ---- the greatest of the numbers f from place `from` up to i, in a stretch that ends at n

pub record Greatest (f : ℕ → ℕ) (from n i most : ℕ) : Type 0 where
  pub above : (k : ℕ) → k < i → from ≤ k → f k ≤ most
  pub least : (b : ℕ) → ((k : ℕ) → k < n → from ≤ k → f k ≤ b) → most ≤ b

module _ (f : ℕ → ℕ) (from n : ℕ) where
  pub greatest_none : Greatest f from n from 0
  greatest_none = record { above = λ k h l. absurd (omega arith); least = λ b h. omega arith }

  -- a place more, above the greatest so far or not
  pub greatest-raised : (i most next : ℕ) → Greatest f from n i most → from ≤ i → i < n → most < f i → next ≡ f i
      → Greatest f from n (i + 1) next
  greatest-raised i most next g l h up e = record {
    above = below_more (λ k. from ≤ k → f k ≤ next) i (λ k b w. omega (arith, g.above k b w)) (λ w. omega arith);
    least = λ b w. omega (arith, w i h l);
  }

  pub greatest-kept : (i most next : ℕ) → Greatest f from n i most → f i ≤ most → next ≡ most → Greatest f from n (i + 1) next
  greatest-kept i most next g down e = record {
    above = below_more (λ k. from ≤ k → f k ≤ next) i (λ k b w. omega (arith, g.above k b w)) (λ w. omega arith);
    least = λ b w. omega (arith, g.least b w);
  }

  -- what one look at it says of the whole stretch
  pub says_most : (i most b : ℕ) → Greatest f from n i most → n ≤ i → Says (leb most b) ((k : ℕ) → k < n → from ≤ k → f k ≤ b)
  says_most i most b g h =
      says-le most b ((k : ℕ) → k < n → from ≤ k → f k ≤ b) (λ e k l w. omega (arith, g.above k (omega arith) w)) (g.least b)

  pub says_zero : (i most : ℕ) → Greatest f from n i most → n ≤ i → Says (eqb most 0) ((k : ℕ) → k < n → from ≤ k → f k ≡ 0)
  says_zero i most g h =
      says_eq most 0 ((k : ℕ) → k < n → from ≤ k → f k ≡ 0) (λ e k l w. omega (arith, g.above k (omega arith) w))
      (λ e. omega (arith, g.least 0 (λ k l w. omega (arith, e k l w))))

-- ---- what the nodes carry: the nodes in use past n, and all that is past them

-- how many nodes are in use
pub record InUse (depth used : ℕ) : Type 0 where
  pub few : used ≤ max_nodes
  pub deep : used ≤ depth
  pub all : (used ≡ depth) ⊎ (used ≡ max_nodes)

in_use : (depth used : ℕ) → InUse depth used → used ≡ min depth max_nodes
in_use depth used u = go u.all
  where
    go : (used ≡ depth) ⊎ (used ≡ max_nodes) → used ≡ min depth max_nodes
    go (inl e) = omega (arith, u.few)
    go (inr e) = omega (arith, u.deep)

module _ (n depth used : ℕ) (e : List ℤ) (u : InUse depth used) where
  past : (p : ℕ) → p < max_nodes → used ≤ p → used_in n depth p ≡ 0
  past p h b = rw (le-ltb p depth (omega (arith, in_use depth used u))) refl

  pub carried_nodes : CarriedTidy n depth e → (p : ℕ) → p < used → Zeros (pos 0) max_vertices n (multipliers_at max_vertices e p)
  carried_nodes = parts.carried_nodes n depth used e (in_use depth used u)

  pub carried_past : CarriedTidy n depth e → Zeros (pos 0) carried_size (max_vertices * used) e
  carried_past = parts.carried_past n depth used e (in_use depth used u)

  pub carried_whole : Zeros (pos 0) carried_size (max_vertices * used) e
      → ((p : ℕ) → p < used → Zeros (pos 0) max_vertices n (multipliers_at max_vertices e p)) → CarriedTidy n depth e
  carried_whole = parts.carried_whole n depth used e (in_use depth used u)

-- ---- all but the stack, part by part

-- the opening that these parts of a record hold
abbrev pub opening_with : Graph → List ℤ → List ℕ → Settings → Opening
opening_with g d l t = opening_of g (fit g.n (pos 0) d) (fit g.n 0 l) t

-- of `Tidy`
pub record FieldsTidy (g : Graph) (d : List ℤ) (l : List ℕ) (h : Bool) (w : List ℕ) : Type 0 where
  pub graph : GraphTidy g
  pub multipliers : Zeros (pos 0) max_vertices g.n d
  pub ashore : Zeros 0 max_vertices g.n l
  pub best : Zeros 0 max_edges (cond h g.m 0) w

-- of `Fits`
pub record FieldsFit (o : Opening) (z : ℤ) (p : ℕ) (w : List ℕ) (k : ℕ) : Type 0 where
  pub opening : fault o ≡ 0
  pub lifting : o.settings.lifting ≤ 1
  pub upper : ceiling_fits z ≡ true
  pub depth : p ≤ active_size o + 2
  pub best : Bits w
  pub count : k ≤ max_count

abbrev pub Fitting : Search → Type 0
Fitting s =
    FieldsFit (opening_with s.graph s.multipliers s.ashore s.settings) s.upper s.depth s.best s.count

-- of `Idle`
pub record FieldsIdle (a b : ℕ) (t : Settings) (z : ℤ) (p : ℕ) (h : Bool) (k : ℕ) : Type 0 where
  pub n : a ≡ 0
  pub m : b ≡ 0
  pub settings : t ≡ no_settings
  pub upper : z ≡ pos 0
  pub depth : p ≡ 0
  pub best : h ≡ false
  pub count : k ≡ 0

-- the last test of the zeros
pub says_fields_tidy : (g : Graph) (d : List ℤ) (l : List ℕ) (h : Bool) (w : List ℕ) (b : Bool) (k : ℕ) → GraphTidy g
    → Zeros (pos 0) max_vertices g.n d → Zeros 0 max_vertices g.n l → cond h g.m 0 ≡ k → Says b (Zeros 0 max_edges k w)
    → Says b (FieldsTidy g d l h w)
says_fields_tidy g d l h w b k t z a e =
    says_both b {Q = FieldsTidy g d l h w}
    (λ y. record { graph = t; multipliers = z; ashore = a; best = subst (λ (j : ℕ). Zeros 0 max_edges j w) (sym e) y })
    (λ y. subst (λ (j : ℕ). Zeros 0 max_edges j w) e y.best)

module _ (s : Search) where
  pub tidy_fields : Tidy s → FieldsTidy s.graph s.multipliers s.ashore (has_tour s) s.best
  tidy_fields t = record { graph = t.graph; multipliers = t.multipliers; ashore = t.ashore; best = t.best }

  pub tidy_whole : FieldsTidy s.graph s.multipliers s.ashore (has_tour s) s.best
      → StackTidy s.depth s.stack → CarriedTidy (active_in s) s.depth s.carried → Tidy s
  tidy_whole t l e = record { graph = t.graph; multipliers = t.multipliers; stack = l; carried = e; ashore = t.ashore; best = t.best }

  pub fits_fields : Fits s → Fitting s
  unfolding opening_in
  fits_fields t = record { opening = t.opening; lifting = t.lifting; upper = t.upper; depth = t.depth; best = t.best; count = t.count }

  -- the last test of an open record
  pub says_fits : (b : Bool) → Fitting s → CarriedFits (active_in s) s.depth s.carried → StackStruck s.graph.m (touching_in s) s.depth s.stack
      → Says b (StackFits s.graph.m s.depth s.stack) → Says b (Fits s)
  unfolding opening_in
  says_fits b t e k =
      says_both b {Q = Fits s}
      (λ l. record {
        opening = t.opening;
        lifting = t.lifting;
        upper = t.upper;
        depth = t.depth;
        stack = l;
        struck = k;
        carried = e;
        best = t.best;
        count = t.count;
      })
      (λ f. f.stack)

  -- and of one where none is open
  pub says_idle : (b : Bool)
      → Says b (FieldsIdle s.graph.n s.graph.m s.settings s.upper s.depth (has_tour s) s.count)
      → Says b (Idle s)
  says_idle b =
      says_both b {Q = Idle s}
      (λ t. record {
        n = t.n;
        m = t.m;
        settings = t.settings;
        upper = t.upper;
        depth = t.depth;
        best = t.best;
        count = t.count;
      })
      (λ t. record {
        n = t.n;
        m = t.m;
        settings = t.settings;
        upper = t.upper;
        depth = t.depth;
        best = t.best;
        count = t.count;
      })

-- ---- the places of one node, one after the other

module _ {A : Type 0} (z : A) (at : ℕ) (x l : List A) where
  pub put_none : Put z at 0 x l l
  put_none = record { size = refl; new = λ j h. absurd (omega arith); old = λ i h. refl }

  pub put-more : (k : ℕ) (l' : List A) (y : A) → y ≡ get_or x k z → at + k < length l' → Put z at k x l l' → Put z at (k + 1) x l (set l' (at + k) y)
  put-more k l' y e b h = record {
    size = length-set l' (at + k) y ∙ h.size;
    new = λ j i. new j i (ℕ_discrete j k);
    old = λ i d. get_or-set_other l' (at + k) i y z (off i d) ∙ h.old i (less i d);
  }
    where
      new : (j : ℕ) → j < k + 1 → Dec (j ≡ k) → get_or (set l' (at + k) y) (at + j) z ≡ get_or x j z
      new j i (yes q) = rw q (get_or-set_same l' (at + k) y z b ∙ e)
      new j i (no q) = get_or-set_other l' (at + k) (at + j) y z (λ d. q (omega arith)) ∙ h.new j (omega arith)

      off : (i : ℕ) → (i < at) ⊎ (at + (k + 1) ≤ i) → i ≢ at + k
      off i (inl d) q = omega arith
      off i (inr d) q = omega arith

      less : (i : ℕ) → (i < at) ⊎ (at + (k + 1) ≤ i) → (i < at) ⊎ (at + k ≤ i)
      less i (inl d) = inl d
      less i (inr d) = inr (omega arith)

  pub put_to : (k m : ℕ) (l' : List A) → k ≡ m → Put z at k x l l' → Put z at m x l l'
  put_to k m l' e h = subst (λ (i : ℕ). Put z at i x l l') e h

-- ---- one array: places m to k − 1 of l are cleared, those below m are l₀'s

pub record Clearing {A : Type 0} (z : A) (m k : ℕ) (l₀ l : List A) : Type 0 where
  pub size : length l ≡ max_edges
  pub kept : (j : ℕ) → j < m → get_or l j z ≡ get_or l₀ j z
  pub gone : (j : ℕ) → m ≤ j → j < k → get_or l j z ≡ z

module _ {A : Type 0} (z : A) (m : ℕ) (l₀ : List A) where
  clearing_none : length l₀ ≡ max_edges → Clearing z m m l₀ l₀
  clearing_none e = record { size = e; kept = λ j h. refl; gone = λ j h i. absurd (omega arith) }

  clearing_more : (k : ℕ) (l : List A) → m ≤ k → k < max_edges → Clearing z m k l₀ l → Clearing z m (k + 1) l₀ (set l k z)
  clearing_more k l b h c = record {
    size = length-set l k z ∙ c.size;
    kept = λ j i. get_or-set_other l k j z z (omega arith) ∙ c.kept j i;
    gone = λ j i u. gone j i u (ℕ_discrete j k);
  }
    where
      gone : (j : ℕ) → m ≤ j → j < k + 1 → Dec (j ≡ k) → get_or (set l k z) j z ≡ z
      gone j i u (yes e) = rw e (get_or-set_same l k z z (omega (arith, c.size)))
      gone j i u (no e) = get_or-set_other l k j z z e ∙ c.gone j i (omega arith)

  clearing_is : (l : List A) → Clearing z m max_edges l₀ l → l ≡ row max_edges (place z m l₀)
  clearing_is l c =
      ext_get_or z l (row max_edges (place z m l₀)) (c.size ∙ sym (row-size max_edges (place z m l₀)))
      (λ j h. at j (omega (arith, c.size)) (dec_le (suc j) m))
    where
      at : (j : ℕ) → j < max_edges → Dec (j < m) → get_or l j z ≡ get_or (row max_edges (place z m l₀)) j z
      at j h (yes i) = c.kept j i ∙ sym (row_at max_edges (place z m l₀) j z h ∙ place_at z m l₀ j i)
      at j h (no i) = c.gone j (omega arith) h ∙ sym (row_at max_edges (place z m l₀) j z h ∙ place_past z m l₀ j (omega arith))

-- ---- a graph

pub record Trimming (g : Graph) (k : ℕ) (t : Graph) : Type 0 where
  pub n : t.n ≡ g.n
  pub m : t.m ≡ g.m
  pub a : Clearing 0 g.m k g.a t.a
  pub b : Clearing 0 g.m k g.b t.b
  pub cost : Clearing (pos 0) g.m k g.cost t.cost
  pub mark : Clearing 0 g.m k g.mark t.mark

module _ (g : Graph) where
  pub trimming_none : length g.a ≡ max_edges → length g.b ≡ max_edges → length g.cost ≡ max_edges → length g.mark ≡ max_edges
      → Trimming g g.m g
  trimming_none a b c d = record {
    n = refl;
    m = refl;
    a = clearing_none 0 g.m g.a a;
    b = clearing_none 0 g.m g.b b;
    cost = clearing_none (pos 0) g.m g.cost c;
    mark = clearing_none 0 g.m g.mark d;
  }

  pub trimming_more : (k : ℕ) (t : Graph) → g.m ≤ k → k < max_edges → Trimming g k t
      → Trimming g (k + 1) (record {
        n = t.n;
        m = t.m;
        a = set t.a k 0;
        b = set t.b k 0;
        cost = set t.cost k (pos 0);
        mark = set t.mark k 0;
      })
  trimming_more k t b h c = record {
    n = c.n;
    m = c.m;
    a = clearing_more 0 g.m g.a k t.a b h c.a;
    b = clearing_more 0 g.m g.b k t.b b h c.b;
    cost = clearing_more (pos 0) g.m g.cost k t.cost b h c.cost;
    mark = clearing_more 0 g.m g.mark k t.mark b h c.mark;
  }

  pub trimming_is : (t : Graph) → Trimming g max_edges t → t ≡ trimmed g
  unfolding trimmed
  trimming_is t c = λ i. record {
    n = c.n i;
    m = c.m i;
    a = clearing_is 0 g.m g.a t.a c.a i;
    b = clearing_is 0 g.m g.b t.b c.b i;
    cost = clearing_is (pos 0) g.m g.cost t.cost c.cost i;
    mark = clearing_is 0 g.m g.mark t.mark c.mark i;
  }

-- ---- the run: what the record r tells of the search s that it holds

module _ (r : Search) (s : Progress) (h : Holds r s) where
  pub runs_ceiling : ceiling_fits r.upper ≡ true
  runs_ceiling = ap ceiling_fits (holds_upper r s h) ∙ range_fits s.upper h.kept.upper

  pub runs_step : r.settings.step ≤ max_step
  runs_step = subst (λ (t : Settings). t.step ≤ max_step) (sym (holds_settings r s h)) h.kept.opening.step

  pub runs_sweeps : r.settings.sweeps ≤ max_sweeps
  runs_sweeps = subst (λ (t : Settings). t.sweeps ≤ max_sweeps) (sym (holds_settings r s h)) h.kept.opening.sweeps

  pub runs_denominator : denominator_fault r.settings.denominator ≡ 0
  runs_denominator =
      subst (λ (t : Settings). denominator_fault t.denominator ≡ 0) (sym (holds_settings r s h))
      (range_denominator s.opening.settings.denominator h.kept.opening.denominator)

  module _ (t : Top s) where
    -- the words of the top node, and the multipliers that it carries
    top_rows : rows_at r.stack (r.depth - 1) ≡ rows_of t.node.marks
    top_rows = rows_top t.node t.rest r.stack (r.depth - 1) (old-words r s h t) (place_of_top r s h t) (top-high r s h t)

    pub top_fits : multipliers_fit (fit (active_size s.opening) (pos 0) (multipliers_at max_vertices r.carried (r.depth - 1))) ≡ true
    top_fits =
        ap multipliers_fit
        (ap (fit (active_size s.opening) (pos 0))
        (carried_top t.node t.rest r.carried (r.depth - 1) (old-carried r s h t) (place_of_top r s h t) (top-high r s h t))
        ∙ fit_cut max_vertices (active_size s.opening) (pos 0) t.node.multipliers
        (omega (arith, active_most s.opening, h.kept.opening.valid.high)) (waits r s h t).multipliers.long)
        ∙ (waits r s h t).multipliers.fits

    -- a turn of the run
    pub ran-next : (budget : ℕ) → ran (suc budget) s ≡ ran budget (open_top s s.stack)
    ran-next budget =
        ran-opens budget s t.node t.rest t.stack t.room
        ∙ ap (λ (st : List Node). ran budget (open_top s st)) (sym t.stack)

  -- the run stops
  pub ran_stops : (budget : ℕ) → (r.depth ≡ 0) ⊎ (max_count ≤ r.count) → ran budget s ≡ s
  ran_stops budget (inl z) = go s.stack refl
    where
      go : (st : List Node) → s.stack ≡ st → ran budget s ≡ s
      go [] q = ran_empty budget s q
      go (x ∷ rest) q = absurd (omega (arith, z, holds_depth r s h, ap {A = List Node} length q))
  ran_stops budget (inr b) = ran_full budget s (omega (arith, holds_count r s h))

-- ---- the words of a graph's marks, edge by edge

-- l has the words of the first k of m edges, whose marks are f
pub record Reaches (m : ℕ) (f : ℕ → Mark) (k : ℕ) (l : List ℕ) : Type 0 where
  pub few : m ≤ max_edges
  pub low : k < m
  pub is : l ≡ rows_of (partly m f k)

module _ (m : ℕ) (f : ℕ → Mark) (k : ℕ) (l : List ℕ) (h : Reaches m f k l) where
  pub reaches_size : length l ≡ node_words
  reaches_size = ap length h.is ∙ rows_size (partly m f k)

  -- what an edge more leaves has 64 bits
  pub sets-room : (i : ℕ) → i < node_words → set l i (get_or l i 0 + 2 ^ (k % 64)) ≡ rows_of (partly m f (k + 1)) → get_or l i 0 + 2 ^ (k % 64) < 2 ^ 64
  sets-room i b e =
      subst (λ (x : ℕ). x < 2 ^ 64)
      (ap (λ (w : List ℕ). get_or w i 0) (sym e) ∙ get_or-set_same l i (get_or l i 0 + 2 ^ (k % 64)) 0 (omega (arith, reaches_size)))
      (rows_small (partly m f (k + 1)) i b)

  -- the edge at place k sets no bit, or one in its row
  pub sets_none : f k ≡ free → l ≡ rows_of (partly m f (k + 1))
  sets_none e = h.is ∙ sym (partly_free m f h.few k h.low e)

  pub sets_required : f k ≡ required → set l (k / 64) (get_or l (k / 64) 0 + 2 ^ (k % 64)) ≡ rows_of (partly m f (k + 1))
  sets_required e =
      let z : k / 64 ≡ 0 + k / 64 = omega arith in
      ap (λ (i : ℕ). set l i (get_or l i 0 + 2 ^ (k % 64))) z
      ∙ ap (λ (w : List ℕ). with_edge 0 w k) h.is
      ∙ sym (partly_required m f h.few k h.low e)

  pub sets_excluded : f k ≡ excluded
      → set l (row_words + k / 64) (get_or l (row_words + k / 64) 0 + 2 ^ (k % 64)) ≡ rows_of (partly m f (k + 1))
  sets_excluded e =
      ap (λ (w : List ℕ). with_edge row_words w k) h.is ∙ sym (partly_excluded m f h.few k h.low e)

-- a mark by its byte
pub byte_free : (x : ℕ) → x ≡ 0 → mark_of x ≡ free
unfolding mark_of
byte_free x e = ap mark_of e

pub byte_required : (x : ℕ) → x ≡ 1 → mark_of x ≡ required
unfolding mark_of
byte_required x e = ap mark_of e

pub byte_excluded : (x : ℕ) → (x ≡ 0 → ⊥) → (x ≡ 1 → ⊥) → mark_of x ≡ excluded
unfolding mark_of
byte_excluded zero a b = absurd (a refl)
byte_excluded (suc zero) a b = absurd (b refl)
byte_excluded (suc (suc x)) a b = refl

module _ (o : Opening) (h : fault o ≡ 0) where
  pub begun_few : (trimmed o.graph).m ≤ max_edges
  begun_few = (begun_trimmed o h).few

-- ---- the set bits of the first i words

unfoldable pub ones_to : List ℕ → ℕ → ℕ
ones_to l zero = 0
ones_to l (suc i) = ones_to l i + ones (get_or l i 0)

pub ones_none : (l : List ℕ) → ones_to l 0 ≡ 0
unfolding ones_to
ones_none l = refl

pub ones_more : (l : List ℕ) (i : ℕ) → ones_to l (i + 1) ≡ ones_to l i + ones (get_or l i 0)
unfolding ones_to
ones_more l i = ap (ones_to l) (add-one i)

pub ones_row : (l : List ℕ) → ones_to l row_words ≡ row_ones (required_in l)
unfolding ones_to required_in fit fill row weight
ones_row l = omega arith
