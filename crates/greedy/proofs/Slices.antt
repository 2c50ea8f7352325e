-- The keys in order are cut in two: those of the edges at vertex 1, and after them those of the others, which are raised. Each part is lent as a slice.
use Rattle.std.specs.Prelude.{◌≡◌, List, ℕ, ◌+◌, ◌-◌, ◌%◌, ◌<◌, ◌≤◌, length, get_or, take, drop}
use Rattle.std.proofs.Common.{◌∙◌, ap, arith, length-drop}
use Rattle.std.proofs.lemmas.List.{get_or-take, get_or-drop, length-take-le}
use Rattle.graph.specs.declared.Graph.{Graph}
use Rattle.lists.specs.Sorting.{Ascending}
use Rattle.greedy.specs.declared.charges.ChargedGraph.{ChargedGraph}
use Rattle.greedy.specs.Keys.{AllKeyed, KeysOfEdges, far_keys, near_at, far_at, keyed_small, SamePlaces, queued, queued-same}
use Rattle.greedy.specs.Parting.{Reached, unraised, raised_at, same-places, near_keyed, near_ascends, far_keyed, far_ascends}
use Rattle.greedy.specs.Queue.{InKeyOrder}
use Rattle.greedy.specs.Required.{Small, far-small}
use Rattle.greedy.specs.Chosen.{KeysOf}

pub keys_of : (x : ChargedGraph) (ks : List ℕ) → AllKeyed x.graph.now x.charges.now ks (length ks) → Ascending (length ks) ks
    → KeysOf x.graph.now x.charges.now ks
keys_of x ks k a = record { valid = x.valid; low = x.low; cheap = x.cheap; keyed = k; ascending = a }

-- the front of a list
pub taken-places : (n : ℕ) (xs : List ℕ) → SamePlaces (take n xs) xs n
taken-places n xs i h = ap (λ (x : ℕ). x % 256) (get_or-take n xs i 0 h)

pub taken-queued : (n : ℕ) (xs : List ℕ) → queued (take n xs) n ≡ queued xs n
taken-queued n xs = queued-same (take n xs) xs n (taken-places n xs)

pub taken-small : (n r : ℕ) (xs : List ℕ) → n ≤ length xs → Reached (take n xs) (length (take n xs)) 256 r → Small xs n r
taken-small n r xs h s =
    let size : length (take n xs) ≡ n = length-take-le n xs h in (
      omega (arith, s.0, size),
      λ i l. rw (get_or-take n xs i 0 (omega (arith, l, s.0, size))) at (s.1 i l),
      λ l. rw (get_or-take n xs r 0 l) at (s.2 (omega (arith, size))),
    )

pub taken-edges : (g : Graph) (n : ℕ) (xs : List ℕ) → n ≤ length xs → KeysOfEdges g xs → KeysOfEdges g (take n xs)
taken-edges g n xs h e =
    let size : length (take n xs) ≡ n = length-take-le n xs h in
    (omega (arith, size, h, e.0), λ i l. rw (get_or-take n xs i 0 (omega (arith, size, l))) (e.1 i (omega (arith, size, l, h))))

module _ {g : Graph} {c ks : List ℕ} (k : KeysOf g c ks) (p : ℕ) (s : Reached ks (length ks) far_keys p) where
  abbrev f : ℕ
  f = length ks

  -- the others, as they stand in the slice and as they are by themselves
  abbrev pub away : List ℕ
  away = take (length ks - p) (drop p ks)

  abbrev pub fars : List ℕ
  fars = unraised ks p

  pub away-length : length away ≡ f - p
  away-length = length-take-le (f - p) (drop p ks) (omega (arith, length-drop p ks))

  away-at : (i : ℕ) → i < length away → get_or away i 0 ≡ get_or ks (p + i) 0
  away-at i h = get_or-take (f - p) (drop p ks) i 0 (omega (arith, away-length)) ∙ get_or-drop p ks i 0

  small : g.m ≤ 256
  small = omega (arith, k.valid.few)

  raised : (i : ℕ) → p + i < f → get_or ks (p + i) 0 ≡ far_keys + get_or fars i 0
  raised = raised_at g c ks f p small k.cheap k.keyed k.ascending s

  at : (i : ℕ) → i < length away → p + i < f
  at i h = omega (arith, away-length)

  pub away-places : SamePlaces away fars (length away)
  away-places i h =
      ap (λ (x : ℕ). x % 256) (away-at i h) ∙ same-places g c ks f p small k.cheap k.keyed k.ascending s i (at i h)

  pub away-small : (r : ℕ) → Reached away (length away) (far_keys + 256) r → Small fars (length away) r
  away-small r h = far-small away fars (length away) r (λ i l. away-at i l ∙ raised i (at i l)) h

  pub near-order : InKeyOrder g (near_at g.a) c ks p
  near-order = record {
    valid = k.valid;
    low = k.low;
    keyed = near_keyed g c ks f p small k.cheap k.keyed k.ascending s;
    ascending = near_ascends g c ks f p small k.cheap k.keyed k.ascending s;
  }

  pub far-order : InKeyOrder g (far_at g.a) c fars (length away)
  far-order = rw away-length (record {
    valid = k.valid;
    low = k.low;
    keyed = far_keyed g c ks f p small k.cheap k.keyed k.ascending s;
    ascending = far_ascends g c ks f p small k.cheap k.keyed k.ascending s;
  })

  -- each is the key of an edge
  pub all_edges : KeysOfEdges g ks
  all_edges = (omega (arith, k.keyed.few, k.valid.few), keyed_small g c ks f k.keyed small)

  pub away-edges : KeysOfEdges g away
  away-edges = (omega (arith, away-length, all_edges.0), λ i h. rw (away-at i h) (all_edges.1 (p + i) (at i h)))
