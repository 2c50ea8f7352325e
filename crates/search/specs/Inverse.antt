-- THE RECORD IS CANONICAL: a state that a record can hold gives a record that passes the check, and is given back by it (encode_canonical,
-- decode-encode); a record that passes is the record of its state, to the byte (encode-decode, decode-kept). Assumes nothing.
use Rattle.std.specs.Prelude.{◌≡◌, refl, Bool, true, false, cond, List, ℕ, suc, ◌+◌, ◌*◌, ◌≤◌, ◌<◌, length, replicate, ℤ}
use Rattle.std.proofs.Math.Path.{sym, ap, subst}
use Rattle.std.proofs.Common.{◌∙◌, arith, lt-ltb, le-ltb, eqb-true}
use Rattle.std.proofs.Math.Decide.{dec_le}
use Rattle.std.proofs.Math.ListN.{get_or, get_or-eq_default}
use Rattle.std.proofs.Math.IntN.{pos}
use Rattle.std.specs.Int.{w64}
use mir.Val as words
use Rattle.lists.specs.Bools.{bit, bit_most, bit_back}
use Rattle.lists.specs.Fill.{fit, fit_at, fit-fill, fit_cut, replicate-at, replicate_is}
use Rattle.graph.specs.Limits.{max_vertices, max_edges}
use Rattle.graph.specs.declared.Graph.{Graph}
use Rattle.graph.specs.Edgeless.{edgeless}
use Rattle.graph.specs.Network.{network}
use Rattle.thinning.specs.Ranks.{rank}
use Rattle.afloat.specs.Over.{active, ashore, touched}
use Rattle.machine.specs.Machine.{Marks, Node, Progress, State, no_search, searching}
use Rattle.tree_theory.specs.OneTree.{Edges}
use Rattle.tree_theory.specs.Inputs.{multipliers_fit}
use Rattle.machine.specs.Requireds.{requireds}
use Rattle.machine.specs.Calls.{fault}
use Rattle.machine.specs.Trimmed.{Trim}
use Rattle.machine.specs.Kept.{active_size, Off, touching, Kept, KeptState, depth_most}
use Rattle.machine.specs.Active.{active_most}
use Rattle.mark_rows.specs.MarkRows.{node_words, rows_of, SixWords, RowsFit}
use Rattle.mark_rows.proofs.SixWords.{rows_fit, rows_again}
use Rattle.search.specs.Record.{max_nodes, stack_size, carried_size, fresh, node_at, cell, rows_at, marks_at, multipliers_at, nodes, word_at, multiplier_at, stack_words, carried_of, best_of, has_incumbent, best_bytes, is_open, has_tour, opening_in, active_in, progress_of, decode, record_of, encode}
use Rattle.search.specs.Words.Cells.{rows_places, carried_places, cells_at, cells_is, each-place, rows_at-size, rows_at_lem, multipliers_at_lem, multipliers_size, nodes-size, nodes-at, nodes_back, nodes_of, nodes_off, node_off, node_waits, node_narrow, rows_there, marks_back, multipliers_back, no_word, carried_past, cell_none}
use Rattle.search.specs.Canonical.{Zeros, StackTidy, CarriedTidy, used_in, touching_in, Tidy, Idle, Fits, Flags, Stands, Canonical}
use Rattle.search.specs.Accepted.{fits_range, range_fits, accepted_fault, fault_accepted}
use Rattle.search.specs.Words.Incumbents.{byte_back, flag_off, best_back, best-bits, best_zeros, best_sized, has_back, bytes_back}
use Rattle.search.specs.declared.Search.{Search}

-- ---- from a state

module _ (s : Progress) (h : Kept s) where
  few : s.opening.graph.m ≤ max_edges
  few = h.opening.valid.few

  opening_multipliers : fit s.opening.graph.n (pos 0) (fit max_vertices (pos 0) s.opening.multipliers) ≡ s.opening.multipliers
  opening_multipliers =
      fit_cut max_vertices s.opening.graph.n (pos 0) s.opening.multipliers h.opening.valid.high h.opening.long

  opening_ashore : fit s.opening.graph.n 0 (fit max_vertices 0 s.opening.ashore) ≡ s.opening.ashore
  opening_ashore = fit_cut max_vertices s.opening.graph.n 0 s.opening.ashore h.opening.valid.high h.opening.ashore_long

  opening_back : opening_in (record_of s) ≡ s.opening
  unfolding opening_in record_of
  opening_back = λ i.
      record { graph = s.opening.graph; multipliers = opening_multipliers i; ashore = opening_ashore i; settings = s.opening.settings }

  active_back : active_in (record_of s) ≡ active_size s.opening
  unfolding record_of
  active_back = ap (λ (l : List ℕ). rank (active (ashore l)) s.opening.graph.n) opening_ashore

  touching_back : touching_in (record_of s) ≡ touching s.opening
  unfolding record_of
  touching_back = ap (λ (l : List ℕ). touched (ashore l) (network s.opening.graph)) opening_ashore

  narrow : active_size s.opening ≤ max_vertices
  narrow = omega (arith, active_most s.opening, h.opening.valid.high)

  word : (p : ℕ) → p < length s.stack → (j : ℕ) → j < node_words
      → get_or (stack_words s.stack) (node_words * p + j) 0 ≡ cell word_at s.stack p j
  word p b j c = cells_at node_words stack_size rows_places word_at 0 s.stack p j (omega (arith, depth_most s h)) c

  number : (p : ℕ) → p < length s.stack → (j : ℕ) → j < active_size s.opening
      → get_or (carried_of s.stack) (max_vertices * p + j) (pos 0) ≡ cell multiplier_at s.stack p j
  number p b j c =
      cells_at max_vertices carried_size carried_places multiplier_at (pos 0) s.stack p j (omega (arith, depth_most s h))
      (omega (arith, narrow))

  progress_back : progress_of (record_of s) ≡ s
  unfolding progress_of record_of
  progress_back = λ i. record {
    opening = opening_back i;
    upper = s.upper;
    stack =
        (ap (λ (k : ℕ). nodes k s.opening.graph.m (stack_words s.stack) (carried_of s.stack) (length s.stack)) active_back
        ∙ nodes_back (active_size s.opening) s.opening.graph.m (stack_words s.stack) (carried_of s.stack) s.stack few h.nodes word number) i;
    incumbent =
        (ap (λ (b : Bool). best_of s.opening.graph.m b (best_bytes s.incumbent)) (bit_back (has_incumbent s.incumbent))
        ∙ best_back s.opening.graph.m s.incumbent few h.sized) i;
    count = s.count;
  }

  stack_tidy : StackTidy (length s.stack) (stack_words s.stack)
  stack_tidy =
      each-place node_words stack_size rows_places (λ i. node_words * length s.stack ≤ i → get_or (stack_words s.stack) i 0 ≡ 0)
      (λ p b j c u. cells_at node_words stack_size rows_places word_at 0 s.stack p j b c ∙ no_word s.stack p j (omega arith))

  carried_tidy : CarriedTidy (active_size s.opening) (length s.stack) (carried_of s.stack)
  carried_tidy p b j d c =
      multipliers_at_lem max_vertices (carried_of s.stack) p j d
      ∙ cells_at max_vertices carried_size carried_places multiplier_at (pos 0) s.stack p j b d
      ∙ go (dec_le (suc p) (length s.stack)) c
    where
      go : Dec (p < length s.stack) → used_in (active_size s.opening) (length s.stack) p ≤ j → cell multiplier_at s.stack p j ≡ pos 0
      go (yes l) u =
          let v : active_size s.opening ≤ j = (rw (lt-ltb p (length s.stack) l) at u) in
          carried_past s.stack p j (omega (arith, (node_narrow (active_size s.opening) s.opening.graph.m s.stack h.nodes p).1))
      go (no l) u = cell_none multiplier_at s.stack p j (omega arith)

  record_tidy : Tidy (record_of s)
  unfolding record_of
  record_tidy = record {
    graph = record {
      a = λ i b c. h.opening.trim.clear.a i c;
      b = λ i b c. h.opening.trim.clear.b i c;
      cost = λ i b c. h.opening.trim.clear.cost i c;
      mark = λ i b c. h.opening.trim.clear.mark i c;
    };
    multipliers =
        λ i b c. fit_at max_vertices (pos 0) s.opening.multipliers i b
        ∙ get_or-eq_default s.opening.multipliers (pos 0) (omega (arith, h.opening.long));
    stack = stack_tidy;
    carried = subst (λ (k : ℕ). CarriedTidy k (length s.stack) (carried_of s.stack)) (sym active_back) carried_tidy;
    ashore = λ i b c. fit_at max_vertices 0 s.opening.ashore i b ∙ get_or-eq_default s.opening.ashore 0 (omega (arith, h.opening.ashore_long));
    best =
        subst (λ (b : Bool). Zeros 0 max_edges (cond b s.opening.graph.m 0) (best_bytes s.incumbent))
        (sym (bit_back (has_incumbent s.incumbent))) (best_zeros s.opening.graph.m s.incumbent h.sized);
  }

  record_fits : Fits (record_of s)
  unfolding record_of
  record_fits = record {
    opening = ap fault opening_back ∙ accepted_fault s.opening h.opening;
    lifting = h.opening.lifting;
    upper = range_fits s.upper h.upper;
    depth = omega (arith, h.depth, active_back);
    stack = λ p b. let f = node_waits (active_size s.opening) s.opening.graph.m s.stack h.nodes p b in (
      subst (RowsFit s.opening.graph.m) (sym (rows_there (stack_words s.stack) s.stack p (word p b)))
          (rows_fit s.opening.graph.m (node_at s.stack p).marks few f.long),
      subst (λ (x : Marks). p ≤ requireds x)
          (sym (marks_back s.opening.graph.m (stack_words s.stack) s.stack p few f.long (word p b))) f.required,
    );
    struck = λ p b. let f = node_waits (active_size s.opening) s.opening.graph.m s.stack h.nodes p b in
        subst (λ (c : Edges). Off s.opening.graph.m c (marks_at s.opening.graph.m (stack_words s.stack) p)) (sym touching_back)
        (subst (Off s.opening.graph.m (touching s.opening))
        (sym (marks_back s.opening.graph.m (stack_words s.stack) s.stack p few f.long (word p b)))
        (node_off s.opening.graph.m (touching s.opening) s.stack h.struck p b));
    carried = λ p b. let f = node_waits (active_size s.opening) s.opening.graph.m s.stack h.nodes p b in
        ap (λ (k : ℕ). multipliers_fit (multipliers_at k (carried_of s.stack) p)) active_back
        ∙ ap multipliers_fit
        (multipliers_back (active_size s.opening) (carried_of s.stack) s.stack p f.multipliers.long (number p b))
        ∙ f.multipliers.fits;
    best = best-bits s.incumbent;
    count = h.count;
  }

fresh_canonical : Canonical fresh
unfolding fresh edgeless
fresh_canonical = record {
  flags = record { «open» = omega arith; best = omega arith };
  tidy = record {
    graph = record {
      a = λ i b c. replicate-at {A = ℕ} max_edges 0 i;
      b = λ i b c. replicate-at {A = ℕ} max_edges 0 i;
      cost = λ i b c. replicate-at {A = ℤ} max_edges (pos 0) i;
      mark = λ i b c. replicate-at {A = ℕ} max_edges 0 i;
    };
    multipliers = λ i b c. replicate-at {A = ℤ} max_vertices (pos 0) i;
    stack = λ i b c. replicate-at {A = ℕ} stack_size 0 i;
    carried = λ p b j d c.
        multipliers_at_lem max_vertices (replicate carried_size (pos 0)) p j d ∙ replicate-at {A = ℤ} carried_size (pos 0) (max_vertices * p + j);
    ashore = λ i b c. replicate-at {A = ℕ} max_vertices 0 i;
    best = λ i b c. replicate-at {A = ℕ} max_edges 0 i;
  };
  stands = record {
    n = refl;
    m = refl;
    settings = refl;
    upper = refl;
    depth = refl;
    best = refl;
    count = refl;
  };
}

-- a state's record passes the check
pub encode_canonical : (s : State) → KeptState s → Canonical (encode s)
unfolding encode record_of
encode_canonical no_search h = fresh_canonical
encode_canonical (searching s) h = record {
  flags = record { «open» = omega arith; best = bit_most (has_incumbent s.incumbent) };
  tidy = record_tidy s h;
  stands = record_fits s h;
}

-- and gives the state back
pub decode-encode : (s : State) → KeptState s → decode (encode s) ≡ s
unfolding encode decode record_of fresh
decode-encode no_search h = refl
decode-encode (searching s) h = ap searching (progress_back s h)

-- ---- from a record

-- a graph's arrays have the lengths of their types
pub record GraphSized (g : Graph) : Type 0 where
  pub a : length g.a ≡ max_edges
  pub b : length g.b ≡ max_edges
  pub cost : length g.cost ≡ max_edges
  pub mark : length g.mark ≡ max_edges

-- and so have a record's
pub record Sized (r : Search) : Type 0 where
  pub graph : GraphSized r.graph
  pub multipliers : length r.multipliers ≡ max_vertices
  pub carried : length r.carried ≡ carried_size
  pub stack : length r.stack ≡ stack_size
  pub best : length r.best ≡ max_edges
  pub ashore : length r.ashore ≡ max_vertices

-- a stack's words have 64 bits
abbrev pub Words : List ℕ → Type 0
Words l = (i : ℕ) → words.Fits w64 (get_or l i 0)

-- the lengths of a record's arrays, and that the stack's words have 64 bits, which its type gives
pub record Typed (r : Search) : Type 0 where
  pub a : length r.graph.a ≡ max_edges
  pub b : length r.graph.b ≡ max_edges
  pub cost : length r.graph.cost ≡ max_edges
  pub mark : length r.graph.mark ≡ max_edges
  pub multipliers : length r.multipliers ≡ max_vertices
  pub carried : length r.carried ≡ carried_size
  pub stack : length r.stack ≡ stack_size
  pub words : (i : ℕ) → words.Fits w64 (get_or r.stack i 0)
  pub best : length r.best ≡ max_edges
  pub ashore : length r.ashore ≡ max_vertices

-- zero up to the end is zero for good
zeros_past : {A : Type 0} (z : A) (n from : ℕ) (l : List A) → length l ≡ n → Zeros z n from l → (i : ℕ) → from ≤ i → get_or l i z ≡ z
zeros_past z n from l e h i b = go (dec_le (suc i) n)
  where
    go : Dec (i < n) → get_or l i z ≡ z
    go (yes c) = h i c b
    go (no c) = get_or-eq_default l z (omega (arith, e))

pub typed_of : (r : Search) → Sized r → Words r.stack → Typed r
typed_of r z w = record {
  a = z.graph.a;
  b = z.graph.b;
  cost = z.graph.cost;
  mark = z.graph.mark;
  multipliers = z.multipliers;
  carried = z.carried;
  stack = z.stack;
  words = w;
  best = z.best;
  ashore = z.ashore;
}

-- where no search is open, the words are zero
pub typed_idle : (r : Search) → Sized r → r.depth ≡ 0 → StackTidy r.depth r.stack → Typed r
typed_idle r z e t =
    typed_of r z (λ i. record { fits = omega (arith, zeros_past 0 stack_size (node_words * r.depth) r.stack z.stack t i (omega (arith, e))) })

module _ (r : Search) (t : Typed r) (f : Flags r) (u : Tidy r) where
  idle_back : is_open r ≡ false → Idle r → fresh ≡ r
  unfolding fresh edgeless
  idle_back o d = λ i. record {
    «open» = sym (flag_off r.«open» f.«open» o) i;
    graph = record {
      n = sym d.n i;
      m = sym d.m i;
      a = replicate_is max_edges 0 r.graph.a t.a (λ k b. u.graph.a k b (omega (arith, d.m))) i;
      b = replicate_is max_edges 0 r.graph.b t.b (λ k b. u.graph.b k b (omega (arith, d.m))) i;
      cost = replicate_is max_edges (pos 0) r.graph.cost t.cost (λ k b. u.graph.cost k b (omega (arith, d.m))) i;
      mark = replicate_is max_edges 0 r.graph.mark t.mark (λ k b. u.graph.mark k b (omega (arith, d.m))) i;
    };
    multipliers =
        replicate_is max_vertices (pos 0) r.multipliers t.multipliers (λ k b. u.multipliers k b (omega (arith, d.n))) i;
    settings = sym d.settings i;
    upper = sym d.upper i;
    depth = sym d.depth i;
    carried = replicate_is carried_size (pos 0) r.carried t.carried
        (each-place max_vertices carried_size carried_places (λ k. get_or r.carried k (pos 0) ≡ pos 0) nothing) i;
    stack = replicate_is stack_size 0 r.stack t.stack (λ k b. u.stack k b (omega (arith, d.depth))) i;
    has_best = sym (flag_off r.has_best f.best d.best) i;
    best = replicate_is max_edges 0 r.best t.best (λ k b. u.best k b (rw d.best (omega arith))) i;
    ashore = replicate_is max_vertices 0 r.ashore t.ashore (λ k b. u.ashore k b (omega (arith, d.n))) i;
    count = sym d.count i;
  }
    where
      nothing : (p : ℕ) → p < max_nodes → (j : ℕ) → j < max_vertices → get_or r.carried (max_vertices * p + j) (pos 0) ≡ pos 0
      nothing p b j c =
          sym (multipliers_at_lem max_vertices r.carried p j c)
          ∙ u.carried p b j c (rw (le-ltb p r.depth (omega (arith, d.depth))) (omega arith))

  module _ (w : Fits r) where
    trim : Trim r.graph
    trim = record {
      a = t.a;
      b = t.b;
      cost = t.cost;
      mark = t.mark;
      clear = record {
        a = zeros_past 0 max_edges r.graph.m r.graph.a t.a u.graph.a;
        b = zeros_past 0 max_edges r.graph.m r.graph.b t.b u.graph.b;
        cost = zeros_past (pos 0) max_edges r.graph.m r.graph.cost t.cost u.graph.cost;
        mark = zeros_past 0 max_edges r.graph.m r.graph.mark t.mark u.graph.mark;
      };
    }

    -- node p's words, whose marks have them back
    six : (p : ℕ) → SixWords (rows_at r.stack p)
    six p = record {
      size = rows_at-size r.stack p;
      small = λ j h. rw (rows_at_lem r.stack p j h) (t.words (node_words * p + j)).fits;
    }

    valid_few : r.graph.m ≤ max_edges
    unfolding opening_in
    valid_few = (fault_accepted (opening_in r) (unfold opening_in in trim) (unfold opening_in in w.lifting) w.opening).valid.few

    cell_back : (p : ℕ) → p < max_nodes → (j : ℕ) → j < node_words
        → cell word_at (nodes (active_in r) r.graph.m r.stack r.carried r.depth) p j ≡ get_or r.stack (node_words * p + j) 0
    unfolding cell marks_at
    cell_back p b j c = go (dec_le (suc p) r.depth)
      where
        here : p < r.depth → rows_of (node_at (nodes (active_in r) r.graph.m r.stack r.carried r.depth) p).marks ≡ rows_at r.stack p
        here d =
            ap (λ (x : Node). rows_of x.marks) (nodes-at (active_in r) r.graph.m r.stack r.carried r.depth p d)
            ∙ rows_again r.graph.m (rows_at r.stack p) valid_few (six p) (w.stack p d).0

        go : Dec (p < r.depth)
            → word_at (node_at (nodes (active_in r) r.graph.m r.stack r.carried r.depth) p) j ≡ get_or r.stack (node_words * p + j) 0
        go (yes d) = ap (λ (l : List ℕ). get_or l j 0) (here d) ∙ rows_at_lem r.stack p j c
        go (no d) =
            no_word (nodes (active_in r) r.graph.m r.stack r.carried r.depth) p j
            (omega (arith, nodes-size (active_in r) r.graph.m r.stack r.carried r.depth))
            ∙ sym (u.stack (node_words * p + j) (omega arith) (omega arith))

    carried_back : (p : ℕ) → p < max_nodes → (j : ℕ) → j < max_vertices
        → cell multiplier_at (nodes (active_in r) r.graph.m r.stack r.carried r.depth) p j ≡ get_or r.carried (max_vertices * p + j) (pos 0)
    unfolding cell
    carried_back p b j c = go (dec_le (suc p) r.depth) (dec_le (suc j) (active_in r))
      where
        here : p < r.depth → multiplier_at (node_at (nodes (active_in r) r.graph.m r.stack r.carried r.depth) p) j
            ≡ get_or (multipliers_at (active_in r) r.carried p) j (pos 0)
        here d = ap (λ (x : Node). multiplier_at x j) (nodes-at (active_in r) r.graph.m r.stack r.carried r.depth p d)

        zero_there : used_in (active_in r) r.depth p ≤ j → get_or r.carried (max_vertices * p + j) (pos 0) ≡ pos 0
        zero_there k = sym (multipliers_at_lem max_vertices r.carried p j c) ∙ u.carried p b j c k

        go : Dec (p < r.depth) → Dec (j < active_in r)
            → multiplier_at (node_at (nodes (active_in r) r.graph.m r.stack r.carried r.depth) p) j
            ≡ get_or r.carried (max_vertices * p + j) (pos 0)
        go (yes d) (yes e) = here d ∙ multipliers_at_lem (active_in r) r.carried p j e
        go (yes d) (no e) =
            here d
            ∙ get_or-eq_default (multipliers_at (active_in r) r.carried p) (pos 0) (omega (arith, multipliers_size (active_in r) r.carried p))
            ∙ sym (zero_there (rw (lt-ltb p r.depth d) (omega arith)))
        go (no d) e =
            cell_none multiplier_at (nodes (active_in r) r.graph.m r.stack r.carried r.depth) p j
            (omega (arith, nodes-size (active_in r) r.graph.m r.stack r.carried r.depth))
            ∙ sym (zero_there (rw (le-ltb p r.depth (omega arith)) (omega arith)))

    open_back : is_open r ≡ true → record_of (progress_of r) ≡ r
    unfolding record_of progress_of opening_in
    open_back o = λ i. record {
      «open» = sym (eqb-true r.«open» 1 o) i;
      graph = r.graph;
      multipliers =
          fit-fill max_vertices r.graph.n (pos 0) r.multipliers t.multipliers
          (zeros_past (pos 0) max_vertices r.graph.n r.multipliers t.multipliers u.multipliers) i;
      settings = r.settings;
      upper = r.upper;
      depth = nodes-size (active_in r) r.graph.m r.stack r.carried r.depth i;
      carried =
          cells_is max_vertices carried_size carried_places multiplier_at (pos 0)
          (nodes (active_in r) r.graph.m r.stack r.carried r.depth) r.carried t.carried carried_back i;
      stack =
          cells_is node_words stack_size rows_places word_at 0 (nodes (active_in r) r.graph.m r.stack r.carried r.depth) r.stack
          t.stack cell_back i;
      has_best = (ap bit (has_back r.graph.m (has_tour r) r.best) ∙ byte_back r.has_best f.best) i;
      best = bytes_back r.graph.m (has_tour r) r.best t.best w.best u.best i;
      ashore = fit-fill max_vertices r.graph.n 0 r.ashore t.ashore (zeros_past 0 max_vertices r.graph.n r.ashore t.ashore u.ashore) i;
      count = r.count;
    }

    open_kept : Kept (progress_of r)
    unfolding progress_of
    open_kept = record {
      opening = fault_accepted (opening_in r) (unfold opening_in in trim) (unfold opening_in in w.lifting) w.opening;
      upper = fits_range r.upper w.upper;
      depth = unfold opening_in in rw (nodes-size (active_in r) r.graph.m r.stack r.carried r.depth) w.depth;
      nodes =
          unfold opening_in in nodes_of (active_in r) r.graph.m r.stack r.carried r.depth (λ p b. (w.stack p b).1) (λ p b. w.carried p b);
      struck = unfold opening_in in nodes_off (active_in r) r.graph.m r.stack r.carried (touching_in r) r.depth (λ p b. w.struck p b);
      sized = unfold opening_in in best_sized r.graph.m (has_tour r) r.best;
      count = w.count;
    }

-- a record that passes is the record of its state
pub encode-decode : (r : Search) → Typed r → Canonical r → encode (decode r) ≡ r
unfolding encode decode
encode-decode r t h = go (is_open r) refl h.stands
  where
    go : (b : Bool) → is_open r ≡ b → Stands b r → encode (cond b (searching (progress_of r)) no_search) ≡ r
    go true e d = open_back r t h.flags h.tidy d e
    go false e d = idle_back r t h.flags h.tidy e d

-- and that state is one that a record can hold
pub decode-kept : (r : Search) → Typed r → Canonical r → KeptState (decode r)
unfolding decode
decode-kept r t h = go (is_open r) h.stands
  where
    go : (b : Bool) → Stands b r → KeptState (cond b (searching (progress_of r)) no_search)
    go true d = open_kept r t h.flags h.tidy d
    go false d = tt
