-- Nodes go on the stack and come off it: what storing the places of node p makes of a stack's cells, of its words and of what its nodes
-- carry. Assumes nothing.
use Rattle.std.specs.Prelude.{◌≡◌, refl, ◌≢◌, ◌⊎◌, List, ◌∷◌, ℕ, ◌+◌, ◌*◌, ◌≤◌, ◌<◌, length, get_or, replicate, ℤ, pos}
use Rattle.std.proofs.Common.{sym, ap, ◌∙◌, subst, arith}
use Rattle.std.proofs.Math.Decide.{ℕ_discrete}
use Rattle.lists.specs.Fill.{fill-same, fit, fit_at, replicate-at}
use Rattle.graph.specs.Limits.{max_vertices}
use Rattle.machine.specs.Machine.{Node}
use Rattle.mark_rows.specs.MarkRows.{node_words, rows_of}
use Rattle.mark_rows.proofs.Building.{no_bits}
use Rattle.node.specs.Opened.{places}
use Rattle.search.specs.Record.{max_nodes, stack_size, carried_size, rows_at, multipliers_at, no_node, node_at, cell, cells, word_at, multiplier_at, stack_words, carried_of}
use Rattle.search.specs.Words.Cells.{Layout, rows_places, carried_places, cell-top, cell_lower, cell_none, cells_at, cells-size, cells_is, rows_there, top_node}

-- ---- the places of one node

-- the first k of x stand from place `at` on, and at the other places what l has
pub record Put {A : Type 0} (z : A) (at k : ℕ) (x l l' : List A) : Type 0 where
  pub size : length l' ≡ length l
  pub new : (j : ℕ) → j < k → get_or l' (at + j) z ≡ get_or x j z
  pub old : (i : ℕ) → (i < at) ⊎ (at + k ≤ i) → get_or l' i z ≡ get_or l i z

-- the words of node p, and what it carries
abbrev pub PutRows : ℕ → List ℕ → List ℕ → List ℕ → Type 0
PutRows p x l l' = Put 0 (node_words * p) node_words x l l'

abbrev pub PutCarried : ℕ → List ℤ → List ℤ → List ℤ → Type 0
PutCarried p d e e' = Put (pos 0) (max_vertices * p) max_vertices d e e'

-- ---- on the stack and off it, of any cells

module _ {A : Type 0} (w size : ℕ) (lay : Layout w size) (v : Node → ℕ → A) (z : A) where
  -- l has the cells of `rest`, but perhaps at node p, the first above it
  abbrev Below : List Node → ℕ → List A → Type 0
  Below rest p l = (q : ℕ) → q < max_nodes → q ≢ p → (j : ℕ) → j < w → get_or l (w * q + j) z ≡ cell v rest q j

  below_rest : (rest : List Node) (l : List A) (p : ℕ) → l ≡ cells w size v rest → Below rest p l
  below_rest rest l p e q b d j h = ap (λ (y : List A). get_or y (w * q + j) z) e ∙ cells_at w size lay v z rest q j b h

  below_top : (x : Node) (rest : List Node) (l : List A) (p : ℕ) → l ≡ cells w size v (x ∷ rest) → length rest ≡ p → Below rest p l
  below_top x rest l p e n q b d j h =
      ap (λ (y : List A). get_or y (w * q + j) z) e
      ∙ cells_at w size lay v z (x ∷ rest) q j b h
      ∙ cell_lower v x rest q j (λ i. d (i ∙ n))

  module _ (p : ℕ) (y l l' : List A) (sized : length l ≡ size) (h : Put z (w * p) w y l l') (rest : List Node) (n : length rest ≡ p)
      (below : Below rest p l) where
    stored : (st : List Node) → ((q : ℕ) → q ≢ p → (j : ℕ) → cell v st q j ≡ cell v rest q j)
        → ((j : ℕ) → j < w → cell v st p j ≡ get_or y j z) → l' ≡ cells w size v st
    stored st others here = sym (cells_is w size lay v z st l' (h.size ∙ sized) (λ q b j d. at q b j d (ℕ_discrete q p)))
      where
        at : (q : ℕ) → q < max_nodes → (j : ℕ) → j < w → Dec (q ≡ p) → cell v st q j ≡ get_or l' (w * q + j) z
        at q b j d (yes i) = rw i (here j d ∙ sym (h.new j d))
        at q b j d (no i) = others q i j ∙ sym (below q b i j d) ∙ sym (h.old (w * q + j) (lay.apart p q j i d))

    stored_on : (x : Node) → ((j : ℕ) → j < w → get_or y j z ≡ v x j) → l' ≡ cells w size v (x ∷ rest)
    stored_on x e =
        stored (x ∷ rest) (λ q d j. cell_lower v x rest q j (λ i. d (i ∙ n))) (λ j b. cell-top v x rest p j n ∙ sym (e j b))

    stored_off : ((j : ℕ) → j < w → get_or y j z ≡ v no_node j) → l' ≡ cells w size v rest
    stored_off e = stored rest (λ q d j. refl) (λ j b. cell_none v rest p j (omega (arith, n)) ∙ sym (e j b))

  module _ (p : ℕ) (y l l' : List A) (rest : List Node) (n : length rest ≡ p) (h : Put z (w * p) w y l l') where
    -- a node goes on top
    push : (x : Node) → ((j : ℕ) → j < w → get_or y j z ≡ v x j) → l ≡ cells w size v rest → l' ≡ cells w size v (x ∷ rest)
    push x at e = stored_on p y l l' (ap length e ∙ cells-size w size lay v rest) h rest n (below_rest rest l p e) x at

    -- a node takes the place of the top one
    replace : (x u : Node) → ((j : ℕ) → j < w → get_or y j z ≡ v u j) → l ≡ cells w size v (x ∷ rest) → l' ≡ cells w size v (u ∷ rest)
    replace x u at e =
        stored_on p y l l' (ap length e ∙ cells-size w size lay v (x ∷ rest)) h rest n (below_top x rest l p e n) u at

    -- the top node is wiped off
    pop : (x : Node) → ((j : ℕ) → j < w → get_or y j z ≡ v no_node j) → l ≡ cells w size v (x ∷ rest) → l' ≡ cells w size v rest
    pop x at e = stored_off p y l l' (ap length e ∙ cells-size w size lay v (x ∷ rest)) h rest n (below_top x rest l p e n) at

-- ---- the words of the marks

-- the top node is read
pub rows_top : (x : Node) (rest : List Node) (l : List ℕ) (p : ℕ) → l ≡ stack_words (x ∷ rest) → length rest ≡ p → p < max_nodes
    → rows_at l p ≡ rows_of x.marks
rows_top x rest l p e n b =
    rows_there l (x ∷ rest) p
    (λ j h.
    ap (λ (y : List ℕ). get_or y (node_words * p + j) 0) e ∙ cells_at node_words stack_size rows_places word_at 0 (x ∷ rest) p j b h)
    ∙ ap (λ (y : Node). rows_of y.marks) (subst (λ (q : ℕ). node_at (x ∷ rest) q ≡ x) n (top_node x rest))

module _ (p : ℕ) (l l' : List ℕ) (rest : List Node) (n : length rest ≡ p) where
  pub pushed : (x : Node) → l ≡ stack_words rest → PutRows p (rows_of x.marks) l l' → l' ≡ stack_words (x ∷ rest)
  pushed x e h = push node_words stack_size rows_places word_at 0 p _ l l' rest n h x (λ j b. refl) e

  pub replaced : (x y : Node) → l ≡ stack_words (x ∷ rest) → PutRows p (rows_of y.marks) l l' → l' ≡ stack_words (y ∷ rest)
  replaced x y e h = replace node_words stack_size rows_places word_at 0 p _ l l' rest n h x y (λ j b. refl) e

  pub popped : (x : Node) → l ≡ stack_words (x ∷ rest) → PutRows p (replicate node_words 0) l l' → l' ≡ stack_words rest
  popped x e h =
      pop node_words stack_size rows_places word_at 0 p _ l l' rest n h x (λ j b. replicate-at {A = ℕ} node_words 0 j ∙ sym (no_bits j)) e

-- ---- what the nodes carry

pub carried_top : (x : Node) (rest : List Node) (e : List ℤ) (p : ℕ) → e ≡ carried_of (x ∷ rest) → length rest ≡ p → p < max_nodes
    → multipliers_at max_vertices e p ≡ places x.multipliers
unfolding multipliers_at fit
carried_top x rest e p q n b =
    fill-same max_vertices (λ j. get_or e (max_vertices * p + j) (pos 0)) (λ j. multiplier_at x j)
    (λ j h.
    ap (λ (y : List ℤ). get_or y (max_vertices * p + j) (pos 0)) q
    ∙ cells_at max_vertices carried_size carried_places multiplier_at (pos 0) (x ∷ rest) p j b h
    ∙ cell-top multiplier_at x rest p j n)

module _ (p : ℕ) (e e' : List ℤ) (rest : List Node) (n : length rest ≡ p) where
  pub carried_pushed : (x : Node) → e ≡ carried_of rest → PutCarried p (places x.multipliers) e e' → e' ≡ carried_of (x ∷ rest)
  carried_pushed x q h =
      push max_vertices carried_size carried_places multiplier_at (pos 0) p _ e e' rest n h x
      (λ j b. fit_at max_vertices (pos 0) x.multipliers j b) q

  pub carried_replaced : (x y : Node) → e ≡ carried_of (x ∷ rest) → PutCarried p (places y.multipliers) e e' → e' ≡ carried_of (y ∷ rest)
  carried_replaced x y q h =
      replace max_vertices carried_size carried_places multiplier_at (pos 0) p _ e e' rest n h x y
      (λ j b. fit_at max_vertices (pos 0) y.multipliers j b) q

  pub carried_popped : (x : Node) → e ≡ carried_of (x ∷ rest) → PutCarried p (replicate max_vertices (pos 0)) e e' → e' ≡ carried_of rest
  carried_popped x q h =
      pop max_vertices carried_size carried_places multiplier_at (pos 0) p _ e e' rest n h x
      (λ j b. replicate-at {A = ℤ} max_vertices (pos 0) j) q
