-- AN ACCEPTED BACK RESTORES THE LATEST ACCEPTED SAVE under its name: the list before it splits at that save, none under the name is
-- accepted since, and the path and the state are those before it. Assumes nothing.
use Rattle.std.specs.Prelude.{◌≡◌, ◌⊎◌, Bool, not, cond, replicate}
use Rattle.std.proofs.Math.Path.{refl, sym, ap, subst}
use Rattle.std.proofs.Common.{◌∙◌, arith}
use Rattle.std.proofs.Math.Logic.{inl, inr}
use Rattle.std.proofs.Math.Bool.{true, false, true≢false}
use Rattle.std.proofs.lemmas.Bool.{false≢true}
use mathlib.Core.List.{List, [], ◌∷◌, ◌++◌}
use Prim.Native.Nat.{ℕ, zero, suc}
use Rattle.std.proofs.Math.Decide.{ℕ_discrete}
use Rattle.std.proofs.Math.ListN.{length}
use Rattle.lists.specs.Fill.{replicate-at}
use Rattle.lent_records.specs.Machine.{Machine, Searches, after, after-append, leaves, leaves_last}
use Rattle.lent_records.specs.Places.{is_name, name_range, under, put, put-size, put_same, put_other}
use Rattle.shelf_theory.specs.Shelves.{Shelved, ShelfCall, plain, save, back, cleared, saves, brings, is_none, save_fault, back_fault, answer_by}
use Rattle.shelf_theory.specs.Shelves.{shelf_next, shelf_answer, shelved, beside_next, beside, besides}
use Rattle.shelf_theory.specs.Paths.{onward, path, paths}
use Rattle.shelf_theory.proofs.Paths.{current_is, saved_is}
use Rattle.shelf_theory.specs.Restores.{Spares, Spare, beside-append, RestoredState}

-- ---- accepted, by the number of the fault

module _ (m : Machine) (o : Searches m) where
  accepted_is : (n : ℕ) → m.is_accepted (answer_by m o n) ≡ is_none n
  unfolding answer_by
  accepted_is zero = o.acceptance
  accepted_is (suc n) = m.refusal (suc n)

  save_accepted : (d : Shelved m.State) (k : ℕ) → m.is_accepted (shelf_answer m o d (save k)) ≡ is_none (save_fault m o d k)
  unfolding shelf_answer
  save_accepted d k = accepted_is (save_fault m o d k)

  back_accepted : (d : Shelved m.State) (k : ℕ) → m.is_accepted (shelf_answer m o d (back k)) ≡ is_none (back_fault m o d k)
  unfolding shelf_answer
  back_accepted d k = accepted_is (back_fault m o d k)

two_tests : (a b : Bool) (x y : ℕ) → is_none (cond (not a) (suc x) (cond (not b) (suc y) 0)) ≡ true → (a ≡ true) × (b ≡ true)
two_tests true true x y h = (refl, refl)
two_tests true false x y h = absurd (false≢true h)
two_tests false b x y h = absurd (false≢true h)

module _ (m : Machine) (o : Searches m) (d : Shelved m.State) (k : ℕ) where
  save_means : is_none (save_fault m o d k) ≡ true → (o.is_open d.current ≡ true) × (is_name k ≡ true)
  unfolding save_fault
  save_means h = two_tests (o.is_open d.current) (is_name k) 19 32 h

  back_means : is_none (back_fault m o d k) ≡ true → (is_name k ≡ true) × (o.is_open (under m.begin d.saved k) ≡ true)
  unfolding back_fault
  back_means h = two_tests (is_name k) (o.is_open (under m.begin d.saved k)) 32 33 h

-- ---- lists that save nothing under a name

module _ (m : Machine) (o : Searches m) where
  spare_at : (ys zs : List (ShelfCall m.Call)) (d : Shelved m.State) (k : ℕ) → (Spare m o) d k (ys ++ (save k ∷ zs))
      → m.is_accepted (shelf_answer m o (after (shelved m o) d ys) (save k)) ≡ false
  unfolding after
  spare_at [] zs d k h = save_accepted m o d k ∙ h.0 refl
  spare_at (y ∷ ys) zs d k h = spare_at ys zs (shelf_next m o d y) k h.1

-- a list split at its latest accepted save under k
record Latest (m : Machine) (o : Searches m) (d : Shelved m.State) (k : ℕ) (xs : List (ShelfCall m.Call)) : Type 0 where
  before : List (ShelfCall m.Call)
  since : List (ShelfCall m.Call)
  split : xs ≡ before ++ (save k ∷ since)
  saved : is_none (save_fault m o (after (shelved m o) d before) k) ≡ true
  spare : Spare m o (shelf_next m o (after (shelved m o) d before) (save k)) k since

module _ (m : Machine) (o : Searches m) where
  which : (d : Shelved m.State) (k : ℕ) (x : ShelfCall m.Call)
      → Spares m o d k x ⊎ ((x ≡ save k) × (is_none (save_fault m o d k) ≡ true))
  which d k (plain c) = inl tt
  which d k (back j) = inl tt
  which d k (save j) = go (ℕ_discrete j k) (is_none (save_fault m o d j)) refl
    where
      go : Dec (j ≡ k) → (b : Bool) → is_none (save_fault m o d j) ≡ b
          → (j ≡ k → is_none (save_fault m o d j) ≡ false)
          ⊎ ((◌≡◌ {A = ShelfCall m.Call} (save j) (save k)) × (is_none (save_fault m o d k) ≡ true))
      go (no n) b e = inl (λ f. absurd (n f))
      go (yes f) false e = inl (λ g. e)
      go (yes f) true e = inr (ap save f, subst (λ (i : ℕ). is_none (save_fault m o d i) ≡ true) f e)

  look : (xs : List (ShelfCall m.Call)) (d : Shelved m.State) (k : ℕ) → Spare m o d k xs ⊎ Latest m o d k xs
  unfolding after
  look [] d k = inl tt
  look (x ∷ xs) d k = go (look xs (shelf_next m o d x) k) (which d k x)
    where
      go : Spare m o (shelf_next m o d x) k xs ⊎ Latest m o (shelf_next m o d x) k xs
          → Spares m o d k x ⊎ ((x ≡ save k) × (is_none (save_fault m o d k) ≡ true))
          → (Spares m o d k x × Spare m o (shelf_next m o d x) k xs) ⊎ Latest m o d k (x ∷ xs)
      go (inr l) w = inr (record {
        before = x ∷ l.before;
        since = l.since;
        split = ap (λ (r : List (ShelfCall m.Call)). x ∷ r) l.split;
        saved = l.saved;
        spare = l.spare;
      })
      go (inl s) (inl w) = inl (w, s)
      go (inl s) (inr w) = inr (record {
        before = [];
        since = xs;
        split = ap (λ (y : ShelfCall m.Call). y ∷ xs) w.0;
        saved = w.1;
        spare = subst (λ (y : ShelfCall m.Call). Spare m o (shelf_next m o d y) k xs) w.0 s;
      })

  -- ---- what is kept beside the states, under the name

  module _ {X : Type 0} (note : m.State → m.Call → X → X) (x₀ : X) where
    size-next : (d : Shelved m.State) (e : Shelved X) (x : ShelfCall m.Call)
        → length (beside_next m o note x₀ d e x).saved ≡ length e.saved
    unfolding beside_next
    size-next d e (plain c) = refl
    size-next d e (save k) = go (is_none (save_fault m o d k))
      where
        go : (b : Bool) → length (saves e k b).saved ≡ length e.saved
        go true = put-size e.saved k e.current
        go false = refl
    size-next d e (back k) = go (is_none (back_fault m o d k))
      where
        go : (b : Bool) → length (brings x₀ e k b).saved ≡ length e.saved
        go true = refl
        go false = refl

    size : (xs : List (ShelfCall m.Call)) (d : Shelved m.State) (e : Shelved X)
        → length (beside m o note x₀ d e xs).saved ≡ length e.saved
    unfolding beside
    size [] d e = refl
    size (x ∷ xs) d e = size xs (shelf_next m o d x) (beside_next m o note x₀ d e x) ∙ size-next d e x

    spared : (d : Shelved m.State) (e : Shelved X) (k : ℕ) (x : ShelfCall m.Call) → Spares m o d k x
        → under x₀ (beside_next m o note x₀ d e x).saved k ≡ under x₀ e.saved k
    unfolding beside_next
    spared d e k (plain c) h = refl
    spared d e k (back j) h = go (is_none (back_fault m o d j))
      where
        go : (b : Bool) → under x₀ (brings x₀ e j b).saved k ≡ under x₀ e.saved k
        go true = refl
        go false = refl
    spared d e k (save j) h = go (is_none (save_fault m o d j)) refl
      where
        go : (b : Bool) → is_none (save_fault m o d j) ≡ b → under x₀ (saves e j b).saved k ≡ under x₀ e.saved k
        go true f = put_other x₀ e.saved j k e.current (λ g. true≢false (sym f ∙ h (sym g)))
        go false f = refl

    spare_keeps : (xs : List (ShelfCall m.Call)) (d : Shelved m.State) (e : Shelved X) (k : ℕ) → Spare m o d k xs
        → under x₀ (beside m o note x₀ d e xs).saved k ≡ under x₀ e.saved k
    unfolding beside
    spare_keeps [] d e k h = refl
    spare_keeps (x ∷ xs) d e k h =
        spare_keeps xs (shelf_next m o d x) (beside_next m o note x₀ d e x) k h.1 ∙ spared d e k x h.0

    -- under the name stands what was current at the latest accepted save
    latest-stands : (xs : List (ShelfCall m.Call)) (d : Shelved m.State) (e : Shelved X) (k : ℕ) (l : Latest m o d k xs)
        → length e.saved ≡ 8
        → under x₀ (beside m o note x₀ d e xs).saved k ≡ (beside m o note x₀ d e l.before).current
    unfolding beside
    latest-stands xs d e k l long =
        ap (λ (ys : List (ShelfCall m.Call)). under x₀ (beside m o note x₀ d e ys).saved k) l.split
        ∙ ap (λ (f : Shelved X). under x₀ f.saved k) (beside-append m o {X = X} note x₀ l.before (save k ∷ l.since) d e)
        ∙ spare_keeps l.since (shelf_next m o there (save k)) (beside_next m o note x₀ there here (save k)) k l.spare
        ∙ stands
      where
        there : Shelved m.State
        there = after (shelved m o) d l.before

        here : Shelved X
        here = beside m o note x₀ d e l.before

        stands : under x₀ (beside_next m o note x₀ there here (save k)).saved k ≡ here.current
        stands = unfold beside_next in subst (λ (b : Bool). under x₀ (saves here k b).saved k ≡ here.current) (sym l.saved) put_here
          where
            put_here : under x₀ (put here.saved k here.current) k ≡ here.current
            put_here =
                let r = name_range k (save_means m o there k l.saved).1 in
                put_same x₀ here.saved k here.current r.0 (omega (arith, size l.before d e, long, r.1))

under_none : {A : Type 0} (z : A) (k : ℕ) → under z (replicate 8 z) k ≡ z
unfolding under
under_none z zero = refl
under_none z (suc k) = replicate-at 8 z k

module _ (m : Machine) (o : Searches m) where
  module _ (xs : List (ShelfCall m.Call)) (k : ℕ) where
    -- with no accepted save nothing stands under the name
    spare_under : Spare m o (cleared m.begin) k xs → under m.begin (leaves (shelved m o) xs).saved k ≡ m.begin
    unfolding paths besides leaves after cleared
    spare_under s =
        saved_is m o xs k
        ∙ ap (leaves m) (spare_keeps m o (onward m o) [] xs (cleared m.begin) (cleared []) k s ∙ under_none {A = List m.Call} [] k)

    latest-under : (l : Latest m o (cleared m.begin) k xs)
        → under m.begin (leaves (shelved m o) xs).saved k ≡ (leaves (shelved m o) l.before).current
    unfolding path paths besides cleared
    latest-under l =
        saved_is m o xs k
        ∙ ap (leaves m) (latest-stands m o (onward m o) [] xs (cleared m.begin) (cleared []) k l refl)
        ∙ sym (current_is m o l.before)

    -- UNDER EVERY NAME stands none, as at the start, or a search that is open
    pub stands : (under m.begin (leaves (shelved m o) xs).saved k ≡ m.begin)
        ⊎ (o.is_open (under m.begin (leaves (shelved m o) xs).saved k) ≡ true)
    unfolding leaves
    stands = go (look m o xs (cleared m.begin) k)
      where
        go : Spare m o (cleared m.begin) k xs ⊎ Latest m o (cleared m.begin) k xs
            → (under m.begin (leaves (shelved m o) xs).saved k ≡ m.begin)
            ⊎ (o.is_open (under m.begin (leaves (shelved m o) xs).saved k) ≡ true)
        go (inl s) = inl (spare_under s)
        go (inr l) = inr (ap o.is_open (latest-under l) ∙ (save_means m o (leaves (shelved m o) l.before) k l.saved).0)

  module _ (xs : List (ShelfCall m.Call)) (k : ℕ) (h : m.is_accepted (shelf_answer m o (leaves (shelved m o) xs) (back k)) ≡ true) where
    goes : is_none (back_fault m o (leaves (shelved m o) xs) k) ≡ true
    goes = sym (back_accepted m o (leaves (shelved m o) xs) k) ∙ h

    never : Spare m o (cleared m.begin) k xs → ⊥
    never s = true≢false (sym (back_means m o (leaves (shelved m o) xs) k goes).1 ∙ ap o.is_open (spare_under xs k s) ∙ o.closed)

    path_back : (l : Latest m o (cleared m.begin) k xs) → path m o (xs ++ (back k ∷ [])) ≡ path m o l.before
    unfolding path paths besides beside beside_next leaves after cleared
    path_back l =
        ap (λ (e : Shelved (List m.Call)). e.current)
        (beside-append m o (onward m o) [] xs (back k ∷ []) (cleared m.begin) (cleared []))
        ∙ subst (λ (b : Bool). (brings [] (paths m o xs) k b).current ≡ path m o l.before) (sym goes)
        (latest-stands m o (onward m o) [] xs (cleared m.begin) (cleared []) k l refl)

    saved_back : (leaves (shelved m o) (xs ++ (back k ∷ []))).saved ≡ (leaves (shelved m o) xs).saved
    unfolding shelf_next
    saved_back =
        ap (λ (d : Shelved m.State). d.saved) (leaves_last (shelved m o) xs (back k))
        ∙ go (is_none (back_fault m o (leaves (shelved m o) xs) k))
      where
        go : (b : Bool) → (brings m.begin (leaves (shelved m o) xs) k b).saved ≡ (leaves (shelved m o) xs).saved
        go true = refl
        go false = refl

    restored_by : (l : Latest m o (cleared m.begin) k xs) → RestoredState m o xs k
    unfolding leaves
    restored_by l = record {
      before = l.before;
      since = l.since;
      split = l.split;
      accepted = save_accepted m o (leaves (shelved m o) l.before) k ∙ l.saved;
      latest = λ ys zs e. subst (λ (d : Shelved m.State). m.is_accepted (shelf_answer m o d (save k)) ≡ false)
          (sym (after-append (shelved m o) (cleared m.begin) l.before (save k ∷ ys)))
          (unfold after in spare_at m o ys zs (shelf_next m o (after (shelved m o) (cleared m.begin) l.before) (save k)) k
          (subst (λ (r : List (ShelfCall m.Call)).
          Spare m o (shelf_next m o (after (shelved m o) (cleared m.begin) l.before) (save k)) k r) e l.spare));
      path = path_back l;
      state = current_is m o (xs ++ (back k ∷ [])) ∙ ap (leaves m) (path_back l) ∙ sym (current_is m o l.before);
      saved = saved_back;
    }

    -- AN ACCEPTED BACK RESTORES what the latest accepted save under its name saved
    pub restores : RestoredState m o xs k
    restores = go (look m o xs (cleared m.begin) k)
      where
        go : Spare m o (cleared m.begin) k xs ⊎ Latest m o (cleared m.begin) k xs → RestoredState m o xs k
        go (inl s) = absurd (never s)
        go (inr l) = restored_by l
