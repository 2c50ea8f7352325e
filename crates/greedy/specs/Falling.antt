-- Lists that fall by a key: each member's key is below that of the one in front. So are the edges in the order of their keys, the last
-- looked at in front; and such a list is the free edges and then the required ones, each part in the order of weights. Assumes nothing.
use Rattle.std.specs.Prelude.{◌≡◌, refl, Bool, true, false, not, List, [], ◌∷◌, ◌++◌, ℕ, ◌<◌, ◌≤◌}
use Rattle.std.proofs.Common.{ap, inl, inr, arith}
use Rattle.lists.specs.Members.{◌∈◌}
use Rattle.lists.specs.Select.{keep, select, select_in, select_full}
use Rattle.lists.specs.Distinct.{Distinct}
use Rattle.spanning.specs.Choice.{Desc}
use Rattle.tree_theory.specs.OneTree.{Edges}

-- each falls below the one in front
abbrev pub Falls : (ℕ → ℕ) → List ℕ → Type 0
Falls K [] = Unit {0}
Falls K (e ∷ es) = ((x : ℕ) → x ∈ es → K x < K e) × Falls K es

pub falls-select : (K : ℕ → ℕ) (t : Edges) (es : List ℕ) → Falls K es → Falls K (select t es)
unfolding select
falls-select K t [] h = tt
falls-select K t (e ∷ es) h = go (t e) (falls-select K t es h.1)
  where
    go : (b : Bool) → Falls K (select t es) → Falls K (keep b e (select t es))
    go true r = ((λ x m. h.0 x (select_in t es x m).0), r)
    go false r = r

pub falls-distinct : (K : ℕ → ℕ) (es : List ℕ) → Falls K es → Distinct es
falls-distinct K [] h = tt
falls-distinct K (e ∷ es) h = ((λ m. let z : K e < K e = h.0 e m in omega arith), falls-distinct K es h.1)

-- a list that falls has the large ones in front
pub falls_split : (K : ℕ → ℕ) (t : Edges) (B : ℕ) (es : List ℕ) → Falls K es
    → ((x : ℕ) → x ∈ es → t x ≡ true → K x < B) → ((x : ℕ) → x ∈ es → t x ≡ false → B ≤ K x)
    → select (λ k. not (t k)) es ++ select t es ≡ es
unfolding select
falls_split K t B [] h low high = refl
falls_split K t B (e ∷ es) h low high = go (t e) refl (falls_split K t B es h.1 (λ x m. low x (inr m)) (λ x m. high x (inr m)))
  where
    go : (b : Bool) → t e ≡ b → select (λ k. not (t k)) es ++ select t es ≡ es
        → keep (not b) e (select (λ k. not (t k)) es) ++ keep b e (select t es) ≡ e ∷ es
    go false i below = ap {B = List ℕ} (λ r. e ∷ r) below
    go true i below = rw (none es (λ x m. m)) (ap {B = List ℕ} (λ r. e ∷ r) (select_full t es (λ x m. yes_at x m (t x) refl)))
      where
        yes_at : (x : ℕ) → x ∈ es → (b : Bool) → t x ≡ b → t x ≡ true
        yes_at x m true j = j
        yes_at x m false j = absurd (let z : B ≤ K x = high x (inr m) j in omega (arith, h.0 x m, low e (inl refl) i))

        none : (xs : List ℕ) → ((x : ℕ) → x ∈ xs → x ∈ es) → select (λ k. not (t k)) xs ≡ []
        none [] s = refl
        none (x ∷ xs) s = rw (yes_at x (s x (inl refl)) (t x) refl) (none xs (λ y m. s y (inr m)))

-- a weight goes with a key where a smaller key has no larger weight
abbrev pub GoesWith : (ℕ → ℕ) → (ℕ → ℕ) → List ℕ → Type 0
GoesWith K w es = (x y : ℕ) → x ∈ es → y ∈ es → K x < K y → w x ≤ w y

-- a list that falls descends by such a weight
pub falls_desc : (K w : ℕ → ℕ) (es : List ℕ) → Falls K es → GoesWith K w es → (top : ℕ) × Desc w top es
falls_desc K w [] h m = (0, tt)
falls_desc K w (e ∷ es) h m =
    (w e, (omega arith, go e es (λ x i. m x e (inr i) (inl refl) (h.0 x i)) h.1 (λ x y i j. m x y (inr i) (inr j))))
  where
    go : (e : ℕ) (es : List ℕ) → ((x : ℕ) → x ∈ es → w x ≤ w e) → Falls K es → GoesWith K w es → Desc w (w e) es
    go e [] l h m = tt
    go e (d ∷ es) l h m =
        (l d (inl refl), go d es (λ x i. m x d (inr i) (inl refl) (h.0 x i)) h.1 (λ x y i j. m x y (inr i) (inr j)))
