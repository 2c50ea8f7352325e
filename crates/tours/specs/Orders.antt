-- Lists of numbers taken out of a list: tests for membership and repetition, and all lists of a given length. By these, the test for a
-- tour tries every order of the vertices. Assumes nothing.
use Rattle.std.specs.Prelude.{◌≡◌, refl, ◌⊎◌, Bool, true, false, not, ◌&&◌, List, [], ◌∷◌, ◌++◌, map, ℕ, zero, suc, eqb, length}
use Rattle.std.proofs.Common.{sym, ap, ◌∙◌, subst, inl, inr, true≢false, arith, eqb-true, eq-eqb}
use Rattle.std.proofs.lemmas.Bool.{not-true}
use Rattle.lists.specs.Bools.{and_both, by_cases}
use Rattle.lists.specs.Members.{◌∈◌, in_left, in_right, in_either, in_map, of_map}
use Rattle.lists.specs.All.{some_of, some_of_in, in_some_of}
use Rattle.lists.specs.Distinct.{Distinct}

-- ---- membership and repetition as tests

unfoldable pub elem : ℕ → List ℕ → Bool
unfolding some_of
elem k xs = some_of (eqb k) xs

unfoldable pub distinct : List ℕ → Bool
unfolding elem
distinct [] = true
distinct (x ∷ xs) = not (elem x xs) && distinct xs

pub elem_in : (k : ℕ) (xs : List ℕ) → k ∈ xs → elem k xs ≡ true
unfolding elem
elem_in k xs m = in_some_of (eqb k) xs k m (eq-eqb k k refl)

pub in_elem : (k : ℕ) (xs : List ℕ) → elem k xs ≡ true → k ∈ xs
unfolding elem
in_elem k xs h =
    let r = some_of_in (eqb k) xs h in
    subst (λ (j : ℕ). j ∈ xs) (sym (eqb-true k r.0 r.2)) r.1

pub not-elem : (k : ℕ) (xs : List ℕ) → ¬ (k ∈ xs) → elem k xs ≡ false
not-elem k xs h = by_cases (elem k xs) (λ e. absurd (h (in_elem k xs e))) (λ e. e)

pub distinct_is : (xs : List ℕ) → distinct xs ≡ true → Distinct xs
unfolding distinct
distinct_is [] h = tt
distinct_is (x ∷ xs) h =
    let p = and_both (not (elem x xs)) (distinct xs) h in
    ((λ m. true≢false (sym (elem_in x xs m) ∙ not-true (elem x xs) p.0)), distinct_is xs p.1)

pub is_distinct : (xs : List ℕ) → Distinct xs → distinct xs ≡ true
unfolding distinct
is_distinct [] h = refl
is_distinct (x ∷ xs) h = rw (not-elem x xs h.0) (is_distinct xs h.1)

-- ---- all lists of a given length

-- each of vs in front of each of ws
unfoldable pub fronts : List ℕ → List (List ℕ) → List (List ℕ)
fronts [] ws = []
fronts (v ∷ vs) ws = map (λ w. v ∷ w) ws ++ fronts vs ws

-- all lists of j members of vs
unfoldable pub words : ℕ → List ℕ → List (List ℕ)
unfolding fronts
words zero vs = [] ∷ []
words (suc j) vs = fronts vs (words j vs)

fronts_in : (v : ℕ) (w : List ℕ) (vs : List ℕ) (ws : List (List ℕ)) → v ∈ vs → w ∈ ws → (v ∷ w) ∈ fronts vs ws
unfolding fronts
fronts_in v w [] ws mv mw = absurd mv
fronts_in v w (x ∷ vs) ws (inl e) mw =
    in_left (v ∷ w) (map (λ u. x ∷ u) ws) (fronts vs ws) (rw e (in_map {B = List ℕ} (λ u. x ∷ u) w ws mw))
fronts_in v w (x ∷ vs) ws (inr m) mw = in_right (v ∷ w) (map (λ u. x ∷ u) ws) (fronts vs ws) (fronts_in v w vs ws m mw)

-- the first member and the rest of a list
record Front (vs : List ℕ) (ws : List (List ℕ)) (z : List ℕ) : Type 0 where
  head : ℕ
  tail : List ℕ
  head_in : head ∈ vs
  tail_in : tail ∈ ws
  whole : z ≡ head ∷ tail

in_fronts : (z : List ℕ) (vs : List ℕ) (ws : List (List ℕ)) → z ∈ fronts vs ws → Front vs ws z
unfolding fronts
in_fronts z [] ws m = absurd m
in_fronts z (x ∷ vs) ws m = go (in_either z (map (λ u. x ∷ u) ws) (fronts vs ws) m) (in_fronts z vs ws)
  where
    go : (z ∈ map (λ u. x ∷ u) ws) ⊎ (z ∈ fronts vs ws) → (z ∈ fronts vs ws → Front vs ws z) → Front (x ∷ vs) ws z
    go (inl i) below =
        let r = of_map {B = List ℕ} (λ u. x ∷ u) z ws i in
        record { head = x; tail = r.0; head_in = inl refl; tail_in = r.1; whole = r.2 }
    go (inr i) below =
        let r : Front vs ws z = below i in
        record { head = r.head; tail = r.tail; head_in = inr r.head_in; tail_in = r.tail_in; whole = r.whole }

pub words_in : (j : ℕ) (vs w : List ℕ) → length w ≡ j → ((v : ℕ) → v ∈ w → v ∈ vs) → w ∈ words j vs
unfolding words
words_in zero vs [] h s = inl refl
words_in zero vs (x ∷ w) h s = absurd (let z : suc (length w) ≡ 0 = h in omega arith)
words_in (suc j) vs [] h s = absurd (let z : 0 ≡ suc j = h in omega arith)
words_in (suc j) vs (x ∷ w) h s =
    fronts_in x w vs (words j vs) (s x (inl refl)) (words_in j vs w (omega arith) (λ v m. s v (inr m)))

pub in_words : (j : ℕ) (vs w : List ℕ) → w ∈ words j vs → (length w ≡ j) × ((v : ℕ) → v ∈ w → v ∈ vs)
unfolding words
in_words zero vs w (inl e) = (ap length e, λ v m. absurd (rw e at m))
in_words zero vs w (inr e) = absurd e
in_words (suc j) vs w m = go (in_fronts w vs (words j vs) m) (in_words j vs)
  where
    go : Front vs (words j vs) w → ((u : List ℕ) → u ∈ words j vs → (length u ≡ j) × ((v : ℕ) → v ∈ u → v ∈ vs))
        → (length w ≡ suc j) × ((v : ℕ) → v ∈ w → v ∈ vs)
    go r below =
        let tail : (length r.tail ≡ j) × ((v : ℕ) → v ∈ r.tail → v ∈ vs) = below r.tail r.tail_in in
        (ap length r.whole ∙ ap suc tail.0, λ v i. pick v (tail.1 v) (subst (λ (l : List ℕ). v ∈ l) r.whole i))
      where
        pick : (v : ℕ) → (v ∈ r.tail → v ∈ vs) → (v ≡ r.head) ⊎ (v ∈ r.tail) → v ∈ vs
        pick v tail (inl e) = rw e r.head_in
        pick v tail (inr i) = tail i
