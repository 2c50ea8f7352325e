-- A stretch of the keys, lent as a slice: it has the same edges.
use Rattle.std.specs.Prelude.{◌≡◌, List, ℕ, ◌+◌, ◌-◌, ◌%◌, ◌<◌, ◌≤◌, length, get_or, take, drop}
use Rattle.std.proofs.Common.{◌∙◌, sym, ap, arith, length-drop}
use Rattle.std.proofs.lemmas.List.{get_or-take, get_or-drop, length-take-le}
use Rattle.graph.specs.declared.Graph.{Graph}
use Rattle.lists.specs.Sorting.{Shuffled}
use Rattle.greedy.specs.declared.charges.ChargedGraph.{ChargedGraph}
use Rattle.greedy.specs.Keys.{AllKeyed, KeysOfEdges, keyed_small, SamePlaces}

pub edges_shuffled : (g : Graph) (ks ls : List ℕ) → KeysOfEdges g ks → length ls ≡ length ks → Shuffled (length ks) ks ls → KeysOfEdges g ls
edges_shuffled g ks ls e long s =
    (omega (arith, long, e.0), λ i h. let t = s.back i (omega (arith, long)) in rw t.2 (e.1 t.0 t.1))

-- each key is that of an edge
pub all_keys : (x : ChargedGraph) (ks : List ℕ) → AllKeyed x.graph.now x.charges.now ks (length ks) → KeysOfEdges x.graph.now ks
all_keys x ks k =
    (omega (arith, k.few, x.valid.few), keyed_small x.graph.now x.charges.now ks (length ks) k (omega (arith, x.valid.few)))

-- from place a to before place b
abbrev pub stretch : ℕ → ℕ → List ℕ → List ℕ
stretch a b xs = take (b - a) (drop a xs)

module _ (a b : ℕ) (xs : List ℕ) (h : b ≤ length xs) where
  pub stretch-length : length (stretch a b xs) ≡ b - a
  stretch-length = length-take-le (b - a) (drop a xs) (omega (arith, length-drop a xs))

  pub stretch-at : (i : ℕ) → i < b - a → get_or (stretch a b xs) i 0 ≡ get_or xs (a + i) 0
  stretch-at i l = get_or-take (b - a) (drop a xs) i 0 l ∙ get_or-drop a xs i 0

  pub stretch-edges : (g : Graph) → KeysOfEdges g xs → KeysOfEdges g (stretch a b xs)
  stretch-edges g e = (
    omega (arith, stretch-length, e.0),
    λ i l. rw (stretch-at i (omega (arith, stretch-length))) (e.1 (a + i) (omega (arith, stretch-length))),
  )

-- and in another list that has the same keys there, to the end
pub to_end : (a b : ℕ) (xs ys : List ℕ) → b ≤ length xs → ((i : ℕ) → i < b → get_or ys i 0 ≡ get_or xs i 0) → SamePlaces (stretch a b xs) (drop a ys) (b - a)
to_end a b xs ys h same i l =
    ap (λ (x : ℕ). x % 256) (stretch-at a b xs h i l ∙ sym (same (a + i) (omega arith)) ∙ sym (get_or-drop a ys i 0))

pub from_end : (a b : ℕ) (xs ys : List ℕ) → b ≤ length xs → ((i : ℕ) → i < b → get_or ys i 0 ≡ get_or xs i 0) → SamePlaces (drop a ys) (stretch a b xs) (b - a)
from_end a b xs ys h same i l = sym (to_end a b xs ys h same i l)
