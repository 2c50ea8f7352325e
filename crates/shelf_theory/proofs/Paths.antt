-- EVERY LIST OF THE SEVEN CALLS HAS A PATH: a list of plain calls that leaves the state which the list leaves, and so under every name. It is
-- the plain calls, and at an accepted back the path saved with the state. So what holds of plain lists holds of these. Assumes nothing.
use Rattle.std.specs.Prelude.{◌≡◌, ℕ}
use Rattle.std.proofs.Math.Path.{refl, sym, ap}
use Rattle.std.proofs.Common.{◌∙◌}
use mathlib.Core.List.{List, [], ◌∷◌, ◌++◌, map}
use Rattle.lent_records.specs.Machine.{Machine, Searches, after, leaves, leaves_last, noted, noted_last}
use Rattle.lent_records.specs.Places.{under, under-map}
use Rattle.shelf_theory.specs.Shelves.{Shelved, ShelfCall, plain, save, back, cleared, is_none, save_fault, back_fault, shelf_next}
use Rattle.shelf_theory.specs.Shelves.{each, shelved, beside_next, beside, besides}
use Rattle.shelf_theory.specs.Paths.{each-cleared, each-saves, each-brings, onward, paths, path, history}

module _ (m : Machine) (o : Searches m) where
  -- ---- one call

  -- a shelved of images stays one, if a plain call's note is the image of the path with that call
  step-each : {X : Type 0} (note : m.State → m.Call → X → X) (f : List m.Call → X) (d : Shelved m.State) (p : Shelved (List m.Call))
      (x : ShelfCall m.Call) → ((c : m.Call) → note d.current c (f p.current) ≡ f (p.current ++ (c ∷ [])))
      → beside_next m o note (f []) d (each f p) x ≡ each f (beside_next m o (onward m o) [] d p x)
  unfolding beside_next each
  step-each note f d p (plain c) h = λ i. record { current = h c i; saved = map f p.saved }
  step-each note f d p (save k) h = each-saves f p k (is_none (save_fault m o d k))
  step-each note f d p (back k) h = each-brings f [] p k (is_none (back_fault m o d k))

  -- the shelved's own states are kept so
  own : (d : Shelved m.State) (x : ShelfCall m.Call) → shelf_next m o d x ≡ beside_next m o (λ s c t. m.next s c) m.begin d d x
  unfolding shelf_next beside_next
  own d (plain c) = refl
  own d (save k) = refl
  own d (back k) = refl

  -- the shelved's states are those that its paths lead to
  Led : Shelved m.State → Shelved (List m.Call) → Type 0
  Led d p = d ≡ each (leaves m) p

  led_current : (d : Shelved m.State) (p : Shelved (List m.Call)) → Led d p → d.current ≡ leaves m p.current
  unfolding Led each
  led_current d p h = ap (λ (e : Shelved m.State). e.current) h

  led_next : (d : Shelved m.State) (p : Shelved (List m.Call)) (x : ShelfCall m.Call) → Led d p
      → Led (shelf_next m o d x) (beside_next m o (onward m o) [] d p x)
  unfolding Led leaves after
  led_next d p x h = own d x ∙ ap (λ (e : Shelved m.State). beside_next m o (λ s c t. m.next s c) m.begin d e x) h
      ∙ step-each (λ s c t. m.next s c) (leaves m) d p x
      (λ c. ap (λ (s : m.State). m.next s c) (led_current d p h) ∙ sym (leaves_last m p.current c))

  -- ---- lists of calls

  led : (xs : List (ShelfCall m.Call)) (d : Shelved m.State) (p : Shelved (List m.Call)) → Led d p
      → Led (after (shelved m o) d xs) (beside m o (onward m o) [] d p xs)
  unfolding after beside
  led [] d p h = h
  led (x ∷ xs) d p h = led xs (shelf_next m o d x) (beside_next m o (onward m o) [] d p x) (led_next d p x h)

  begun : Led (cleared m.begin) (cleared [])
  unfolding Led leaves after
  begun = each-cleared (leaves m) []

  -- THE STATES THAT A LIST WITH SAVES AND BACKS LEAVES, the saved ones too, are those that its paths leave
  pub shelved_is : (xs : List (ShelfCall m.Call)) → leaves (shelved m o) xs ≡ each (leaves m) (paths m o xs)
  unfolding Led leaves paths
  shelved_is xs = led xs (cleared m.begin) (cleared []) begun

  pub current_is : (xs : List (ShelfCall m.Call)) → (leaves (shelved m o) xs).current ≡ leaves m (path m o xs)
  unfolding each path
  current_is xs = ap (λ (e : Shelved m.State). e.current) (shelved_is xs)

  pub saved_is : (xs : List (ShelfCall m.Call)) (k : ℕ)
      → under m.begin (leaves (shelved m o) xs).saved k ≡ leaves m (under [] (paths m o xs).saved k)
  unfolding each leaves after
  saved_is xs k = ap (λ (e : Shelved m.State). under m.begin e.saved k) (shelved_is xs) ∙ under-map (leaves m) [] (paths m o xs).saved k

  -- ---- what is kept beside the states

  module _ {X : Type 0} (note : m.State → m.Call → X → X) (x₀ : X) where
    step-noted : (d : Shelved m.State) (p : Shelved (List m.Call)) (x : ShelfCall m.Call) → Led d p
        → beside_next m o note x₀ d (each (history m o {X = X} note x₀) p) x ≡ each (history m o {X = X} note x₀) (beside_next m o (onward m o) [] d p x)
    unfolding history noted leaves
    step-noted d p x h = step-each note (history m o {X = X} note x₀) d p x (λ c. ap (λ (s : m.State). note s c (history m o {X = X} note x₀ p.current)) (led_current d p h)
        ∙ sym (noted_last m note m.begin x₀ p.current c))

    beside_is : (xs : List (ShelfCall m.Call)) (d : Shelved m.State) (p : Shelved (List m.Call)) → Led d p
        → beside m o note x₀ d (each (history m o {X = X} note x₀) p) xs ≡ each (history m o {X = X} note x₀) (beside m o (onward m o) [] d p xs)
    unfolding beside
    beside_is [] d p h = refl
    beside_is (x ∷ xs) d p h =
        ap (λ (e : Shelved X). beside m o note x₀ (shelf_next m o d x) e xs) (step-noted d p x h)
        ∙ beside_is xs (shelf_next m o d x) (beside_next m o (onward m o) [] d p x) (led_next d p x h)

    -- THE HISTORIES THAT A LIST WITH SAVES AND BACKS LEAVES, the saved ones too, are those of its paths
    pub histories_are : (xs : List (ShelfCall m.Call)) → besides m o note x₀ xs ≡ each (history m o {X = X} note x₀) (paths m o xs)
    unfolding besides paths history noted
    histories_are xs =
        ap (λ (e : Shelved X). beside m o note x₀ (cleared m.begin) e xs) (each-cleared (history m o {X = X} note x₀) [])
        ∙ beside_is xs (cleared m.begin) (cleared []) begun

    pub history_is : (xs : List (ShelfCall m.Call)) → (besides m o note x₀ xs).current ≡ (history m o {X = X} note x₀) (path m o xs)
    unfolding each path
    history_is xs = ap (λ (e : Shelved X). e.current) (histories_are xs)
