-- Laws of the stack's cells, the words of its nodes' rows and the multipliers that they carry: a stack is read back from its cells, and cells
-- from their stack. The machine's `Nodes` says which stacks have room there. Assumes nothing.
use Rattle.std.specs.Prelude.{◌≡◌, ◌≢◌, ◌⊎◌, true, List, [], ◌∷◌, length, replicate, ℤ, pos}
use Rattle.std.proofs.Math.Path.{refl, ap}
use Rattle.std.proofs.Common.{sym, ◌∙◌, subst, inl, inr, arith, mod-lt, eq-eqb, ne_eqb}
use Prim.Native.Nat.{ℕ, zero, suc, ◌+◌, ◌*◌, ◌/◌, ◌%◌, ◌≤◌, ◌<◌}
use Rattle.std.proofs.Math.Nat.{div-add-mod}
use Rattle.std.proofs.Math.Decide.{dec_le}
use Rattle.std.proofs.Math.ListN.{get_or, get_or-eq_default}
use Rattle.std.proofs.lemmas.List.{length-replicate}
use Rattle.lists.specs.Fill.{fit, fill-size, fill-at, fill_is, replicate-at}
use Rattle.graph.specs.Limits.{max_vertices, max_edges}
use Rattle.tree_theory.specs.Inputs.{multipliers_fit}
use Rattle.tree_theory.specs.OneTree.{Edges}
use Rattle.machine.specs.Machine.{Node, node_of}
use Rattle.machine.specs.Requireds.{requireds}
use Rattle.machine.specs.Kept.{Waits, Nodes, Off, AllOff}
use Rattle.mark_rows.specs.MarkRows.{node_words, rows_of, marks_in_rows}
use Rattle.mark_rows.specs.SixWords.{rows_size, marks-length}
use Rattle.mark_rows.proofs.SixWords.{rows_back}
use Rattle.mark_rows.proofs.Building.{no_bits}
use Rattle.search.specs.Record.{max_nodes, stack_size, carried_size, rows_at, marks_at, multipliers_at, nodes, no_node, node_at, cell, cells, word_at, multiplier_at}

-- ---- node p of a stack

pub top_node : (x : Node) (rest : List Node) → node_at (x ∷ rest) (length rest) ≡ x
unfolding node_at
top_node x rest = rw (eq-eqb (length rest) (length rest) refl)

pub lower_node : (x : Node) (rest : List Node) (p : ℕ) → (p ≡ length rest → ⊥) → node_at (x ∷ rest) p ≡ node_at rest p
unfolding node_at
lower_node x rest p h = rw (ne_eqb p (length rest) h)

pub no_node_lem : (st : List Node) (p : ℕ) → length st ≤ p → node_at st p ≡ no_node
unfolding node_at
no_node_lem [] p h = refl
no_node_lem (x ∷ rest) p h = rw (ne_eqb p (length rest) (omega arith)) (no_node_lem rest p (omega arith))

-- ---- what a node has

module _ {A : Type 0} (v : Node → ℕ → A) where
  pub cell-top : (x : Node) (rest : List Node) (p j : ℕ) → length rest ≡ p → cell v (x ∷ rest) p j ≡ v x j
  unfolding cell
  cell-top x rest p j e = ap (λ (y : Node). v y j) (subst (λ (q : ℕ). node_at (x ∷ rest) q ≡ x) e (top_node x rest))

  pub cell_lower : (x : Node) (rest : List Node) (q j : ℕ) → (q ≡ length rest → ⊥) → cell v (x ∷ rest) q j ≡ cell v rest q j
  unfolding cell
  cell_lower x rest q j h = ap (λ (y : Node). v y j) (lower_node x rest q h)

  pub cell_none : (st : List Node) (p j : ℕ) → length st ≤ p → cell v st p j ≡ v no_node j
  unfolding cell
  cell_none st p j h = ap (λ (y : Node). v y j) (no_node_lem st p h)

-- no node has no bits
pub no_word : (st : List Node) (p j : ℕ) → length st ≤ p → cell word_at st p j ≡ 0
no_word st p j h = cell_none word_at st p j h ∙ no_bits j

-- past a node's multipliers
pub carried_past : (st : List Node) (p j : ℕ) → length (node_at st p).multipliers ≤ j → cell multiplier_at st p j ≡ pos 0
unfolding cell
carried_past st p j h = get_or-eq_default (node_at st p).multipliers (pos 0) h

-- ---- places: w for each node, `size` in all

pub record Layout (w size : ℕ) : Type 0 where
  pub low : (p j : ℕ) → p < max_nodes → j < w → w * p + j < size
  -- place w · p + j, in parts, and each place in parts
  pub parts : (p j : ℕ) → j < w → ((w * p + j) / w ≡ p) × ((w * p + j) % w ≡ j)
  pub split : (i : ℕ) → i < size → (p : ℕ) × (j : ℕ) × (p < max_nodes) × (j < w) × (w * p + j ≡ i)
  -- the places of two nodes are apart
  pub apart : (p q j : ℕ) → q ≢ p → j < w → (w * q + j < w * p) ⊎ (w * p + w ≤ w * q + j)

pub rows_places : Layout node_words stack_size
rows_places = record {
  low = λ p j b c. omega arith;
  parts = λ p j h.
      let e : node_words * ((node_words * p + j) / node_words) + (node_words * p + j) % node_words ≡ node_words * p + j
      = div-add-mod (node_words * p + j) node_words in
      let l : (node_words * p + j) % node_words < node_words = mod-lt (node_words * p + j) {m = node_words} (omega arith) in
      (omega arith, omega arith);
  split = λ i b.
      let e : node_words * (i / node_words) + i % node_words ≡ i = div-add-mod i node_words in
      let l : i % node_words < node_words = mod-lt i {m = node_words} (omega arith) in
      (i / node_words, i % node_words, omega arith, l, e);
  apart = λ p q j d h. go p q j d h (dec_le (suc q) p);
}
  where
    go : (p q j : ℕ) → q ≢ p → j < node_words → Dec (q < p) → (node_words * q + j < node_words * p) ⊎ (node_words * p + node_words ≤ node_words * q + j)
    go p q j d h (yes i) = inl (omega arith)
    go p q j d h (no i) = inr (omega arith)

pub carried_places : Layout max_vertices carried_size
carried_places = record {
  low = λ p j b c. omega arith;
  parts = λ p j h.
      let e : max_vertices * ((max_vertices * p + j) / max_vertices) + (max_vertices * p + j) % max_vertices ≡ max_vertices * p + j
      = div-add-mod (max_vertices * p + j) max_vertices in
      let l : (max_vertices * p + j) % max_vertices < max_vertices = mod-lt (max_vertices * p + j) {m = max_vertices} (omega arith) in
      (omega arith, omega arith);
  split = λ i b.
      let e : max_vertices * (i / max_vertices) + i % max_vertices ≡ i = div-add-mod i max_vertices in
      let l : i % max_vertices < max_vertices = mod-lt i {m = max_vertices} (omega arith) in
      (i / max_vertices, i % max_vertices, omega arith, l, e);
  apart = λ p q j d h. go p q j d h (dec_le (suc q) p);
}
  where
    go : (p q j : ℕ) → q ≢ p → j < max_vertices → Dec (q < p)
        → (max_vertices * q + j < max_vertices * p) ⊎ (max_vertices * p + max_vertices ≤ max_vertices * q + j)
    go p q j d h (yes i) = inl (omega arith)
    go p q j d h (no i) = inr (omega arith)

module _ (w size : ℕ) (lay : Layout w size) where
  -- what holds of every place w · p + j holds of every place
  pub each-place : (P : ℕ → Type 0) → ((p : ℕ) → p < max_nodes → (j : ℕ) → j < w → P (w * p + j)) → (i : ℕ) → i < size → P i
  each-place P h i b = let s = lay.split i b in subst P s.4 (h s.0 s.2 s.1 s.3)

  module _ {A : Type 0} (v : Node → ℕ → A) where
    pub cells-size : (st : List Node) → length (cells w size v st) ≡ size
    unfolding cells
    cells-size st = fill-size size (λ i. cell v st (i / w) (i % w))

    pub cells_at : (z : A) (st : List Node) (p j : ℕ) → p < max_nodes → j < w → get_or (cells w size v st) (w * p + j) z ≡ cell v st p j
    unfolding cells
    cells_at z st p j h l =
        fill-at size (λ i. cell v st (i / w) (i % w)) (w * p + j) z (lay.low p j h l)
        ∙ (λ k. cell v st ((lay.parts p j l).0 k) ((lay.parts p j l).1 k))

    -- a list is the stack's, where each place is
    pub cells_is : (z : A) (st : List Node) (l : List A) → length l ≡ size
        → ((p : ℕ) → p < max_nodes → (j : ℕ) → j < w → cell v st p j ≡ get_or l (w * p + j) z)
        → cells w size v st ≡ l
    unfolding cells
    cells_is z st l e h =
        fill_is size (λ i. cell v st (i / w) (i % w)) l z e
        (each-place (λ i. cell v st (i / w) (i % w) ≡ get_or l i z)
        (λ p b j c. (λ k. cell v st ((lay.parts p j c).0 k) ((lay.parts p j c).1 k)) ∙ h p b j c))

    pub cells_empty : (z : A) → ((j : ℕ) → v no_node j ≡ z) → replicate size z ≡ cells w size v []
    cells_empty z blank =
        sym (cells_is z [] (replicate size z) (length-replicate {A = A} size z)
        (λ p b j d. cell_none v [] p j (omega arith) ∙ blank j ∙ sym (replicate-at {A = A} size z (w * p + j))))

-- ---- the nodes of two lists of cells

pub rows_at-size : (l : List ℕ) (p : ℕ) → length (rows_at l p) ≡ node_words
unfolding rows_at
rows_at-size l p = fill-size node_words (λ j. get_or l (node_words * p + j) 0)

pub rows_at_lem : (l : List ℕ) (p j : ℕ) → j < node_words → get_or (rows_at l p) j 0 ≡ get_or l (node_words * p + j) 0
unfolding rows_at
rows_at_lem l p j h = fill-at node_words (λ i. get_or l (node_words * p + i) 0) j 0 h

pub marks-size : (m : ℕ) (l : List ℕ) (p : ℕ) → length (marks_at m l p) ≡ m
unfolding marks_at
marks-size m l p = marks-length m (rows_at l p)

pub multipliers_size : (n : ℕ) (e : List ℤ) (p : ℕ) → length (multipliers_at n e p) ≡ n
unfolding multipliers_at
multipliers_size n e p = fill-size n (λ j. get_or e (max_vertices * p + j) (pos 0))

pub multipliers_at_lem : (n : ℕ) (e : List ℤ) (p j : ℕ) → j < n → get_or (multipliers_at n e p) j (pos 0) ≡ get_or e (max_vertices * p + j) (pos 0)
unfolding multipliers_at
multipliers_at_lem n e p j h = fill-at n (λ i. get_or e (max_vertices * p + i) (pos 0)) j (pos 0) h

-- the first n of all places
pub multipliers_cut : (n : ℕ) (e : List ℤ) (p : ℕ) → n ≤ max_vertices → fit n (pos 0) (multipliers_at max_vertices e p) ≡ multipliers_at n e p
unfolding fit
multipliers_cut n e p h =
    fill_is n (λ i. get_or (multipliers_at max_vertices e p) i (pos 0)) (multipliers_at n e p) (pos 0) (multipliers_size n e p)
    (λ i b. multipliers_at_lem max_vertices e p i (omega arith) ∙ sym (multipliers_at_lem n e p i b))

module _ (n m : ℕ) (l : List ℕ) (e : List ℤ) where
  pub nodes-size : (d : ℕ) → length (nodes n m l e d) ≡ d
  unfolding nodes
  nodes-size zero = refl
  nodes-size (suc p) = ap suc (nodes-size p)

  pub nodes-at : (d p : ℕ) → p < d → node_at (nodes n m l e d) p ≡ node_of (multipliers_at n e p) (marks_at m l p)
  unfolding nodes
  nodes-at zero p h = absurd (omega arith)
  nodes-at (suc d) p h = go (dec_le (suc p) d) (nodes-at d p)
    where
      here : ℕ → Node
      here q = node_of (multipliers_at n e q) (marks_at m l q)

      go : Dec (p < d) → (p < d → node_at (nodes n m l e d) p ≡ node_of (multipliers_at n e p) (marks_at m l p))
          → node_at (node_of (multipliers_at n e d) (marks_at m l d) ∷ nodes n m l e d) p ≡ node_of (multipliers_at n e p) (marks_at m l p)
      go (yes b) below = lower_node (here d) (nodes n m l e d) p (omega (arith, nodes-size d)) ∙ below b
      go (no b) below =
          let q : p ≡ length (nodes n m l e d) = omega (arith, nodes-size d) in
          subst (λ (k : ℕ). node_at (here d ∷ nodes n m l e d) k ≡ here p) (sym q)
          (top_node (here d) (nodes n m l e d) ∙ ap here (sym (q ∙ nodes-size d)))

  -- ---- stacks whose nodes wait as the machine's do

  pub nodes_of : (d : ℕ) → ((p : ℕ) → p < d → p ≤ requireds (marks_at m l p)) → ((p : ℕ) → p < d → multipliers_fit (multipliers_at n e p) ≡ true)
      → Nodes n m (nodes n m l e d)
  unfolding nodes
  nodes_of zero h k = tt
  nodes_of (suc d) h k = (
    record {
      long = marks-size m l d;
      multipliers = record { long = multipliers_size n e d; fits = k d (omega arith) };
      required = omega (arith, h d (omega arith), nodes-size d);
    },
    nodes_of d (λ p b. h p (omega arith)) (λ p b. k p (omega arith)),
  )

  -- in each node an edge in c is excluded
  pub nodes_off : (c : Edges) (d : ℕ) → ((p : ℕ) → p < d → Off m c (marks_at m l p)) → AllOff m c (nodes n m l e d)
  unfolding nodes
  nodes_off c zero h = tt
  nodes_off c (suc d) h = (h d (omega arith), nodes_off c d (λ p b. h p (omega arith)))

pub node_off : (m : ℕ) (c : Edges) (st : List Node) → AllOff m c st → (p : ℕ) → p < length st → Off m c (node_at st p).marks
node_off m c [] w p h = absurd (omega arith)
node_off m c (x ∷ rest) w p h = go (dec_le (suc p) (length rest)) (node_off m c rest w.1 p)
  where
    go : Dec (p < length rest) → (p < length rest → Off m c (node_at rest p).marks) → Off m c (node_at (x ∷ rest) p).marks
    go (yes b) below = rw (lower_node x rest p (omega arith)) (below b)
    go (no b) below = let e : p ≡ length rest = omega arith in rw (e, top_node x rest) w.0

-- node p of a stack
pub node_waits : (n m : ℕ) (st : List Node) → Nodes n m st → (p : ℕ) → p < length st → Waits n m p (node_at st p)
node_waits n m [] w p h = absurd (omega arith)
node_waits n m (x ∷ rest) w p h = go (dec_le (suc p) (length rest)) (node_waits n m rest w.1 p)
  where
    go : Dec (p < length rest) → (p < length rest → Waits n m p (node_at rest p)) → Waits n m p (node_at (x ∷ rest) p)
    go (yes b) below = rw (lower_node x rest p (omega arith)) (below b)
    go (no b) below = let e : p ≡ length rest = omega arith in rw (e, top_node x rest) w.0

-- at most m marks and n multipliers in each
pub node_narrow : (n m : ℕ) (st : List Node) → Nodes n m st → (p : ℕ)
    → (length (node_at st p).marks ≤ m) × (length (node_at st p).multipliers ≤ n)
node_narrow n m st w p = go (dec_le (suc p) (length st))
  where
    go : Dec (p < length st) → (length (node_at st p).marks ≤ m) × (length (node_at st p).multipliers ≤ n)
    go (yes h) = let k = node_waits n m st w p h in (omega (arith, k.long), omega (arith, k.multipliers.long))
    go (no h) =
        let e = no_node_lem st p (omega arith) in
        (omega (arith, ap (λ (x : Node). length x.marks) e), omega (arith, ap (λ (x : Node). length x.multipliers) e))

-- cells that hold a stack's node p give that node
pub rows_there : (l : List ℕ) (st : List Node) (p : ℕ) → ((j : ℕ) → j < node_words → get_or l (node_words * p + j) 0 ≡ cell word_at st p j)
    → rows_at l p ≡ rows_of (node_at st p).marks
unfolding rows_at cell
rows_there l st p h =
    fill_is node_words (λ j. get_or l (node_words * p + j) 0) (rows_of (node_at st p).marks) 0 (rows_size (node_at st p).marks) h

pub marks_back : (m : ℕ) (l : List ℕ) (st : List Node) (p : ℕ) → m ≤ max_edges → length (node_at st p).marks ≡ m
    → ((j : ℕ) → j < node_words → get_or l (node_words * p + j) 0 ≡ cell word_at st p j) → marks_at m l p ≡ (node_at st p).marks
unfolding marks_at
marks_back m l st p few e h = ap (marks_in_rows m) (rows_there l st p h) ∙ rows_back m (node_at st p).marks few e

pub multipliers_back : (n : ℕ) (e : List ℤ) (st : List Node) (p : ℕ) → length (node_at st p).multipliers ≡ n
    → ((j : ℕ) → j < n → get_or e (max_vertices * p + j) (pos 0) ≡ cell multiplier_at st p j) → multipliers_at n e p ≡ (node_at st p).multipliers
unfolding multipliers_at cell
multipliers_back n e st p q h =
    fill_is n (λ j. get_or e (max_vertices * p + j) (pos 0)) (node_at st p).multipliers (pos 0) q (λ j b. h j b)

-- and those of the whole stack give the stack
pub nodes_back : (n m : ℕ) (l : List ℕ) (e : List ℤ) (st : List Node) → m ≤ max_edges → Nodes n m st
    → ((p : ℕ) → p < length st → (j : ℕ) → j < node_words → get_or l (node_words * p + j) 0 ≡ cell word_at st p j)
    → ((p : ℕ) → p < length st → (j : ℕ) → j < n → get_or e (max_vertices * p + j) (pos 0) ≡ cell multiplier_at st p j)
    → nodes n m l e (length st) ≡ st
unfolding nodes
nodes_back n m l e [] few w h k = refl
nodes_back n m l e (x ∷ rest) few w h k = λ i. top i ∷ nodes_back n m l e rest few w.1 below carried i
  where
    below : (p : ℕ) → p < length rest → (j : ℕ) → j < node_words → get_or l (node_words * p + j) 0 ≡ cell word_at rest p j
    below p b j c = h p (omega arith) j c ∙ cell_lower word_at x rest p j (omega arith)

    carried : (p : ℕ) → p < length rest → (j : ℕ) → j < n → get_or e (max_vertices * p + j) (pos 0) ≡ cell multiplier_at rest p j
    carried p b j c = k p (omega arith) j c ∙ cell_lower multiplier_at x rest p j (omega arith)

    top : node_of (multipliers_at n e (length rest)) (marks_at m l (length rest)) ≡ x
    top =
        (λ i. node_of
        (multipliers_back n e (x ∷ rest) (length rest) (ap (λ (y : Node). length y.multipliers) (top_node x rest) ∙ w.0.multipliers.long)
        (k (length rest) (omega arith)) i)
        (marks_back m l (x ∷ rest) (length rest) few (ap (λ (y : Node). length y.marks) (top_node x rest) ∙ w.0.long)
        (h (length rest) (omega arith)) i))
        ∙ top_node x rest
