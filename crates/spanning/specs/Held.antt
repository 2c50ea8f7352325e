-- An array that holds the labels of the vertices below n, and the same array after an edge: what a loop over edges keeps.
-- Assumes nothing.
use Rattle.std.specs.Prelude.{◌≡◌, List, ◌∷◌, ℕ, ◌<◌, get_or}
use Rattle.std.proofs.Common.{sym, ◌∙◌}
use Rattle.spanning.specs.Walks.{relabel, label, label_idle}

abbrev pub HoldsLabels : (ℕ → ℕ) → (ℕ → ℕ) → ℕ → List ℕ → List ℕ → Type 0
HoldsLabels p q n xs es = (v : ℕ) → v < n → get_or xs v 0 ≡ label p q es v

module _ (p q : ℕ → ℕ) (n : ℕ) (xs : List ℕ) where
  -- each label is joined
  pub holds_join : (ys : List ℕ) (e : ℕ) (es : List ℕ) → p e < n → q e < n → HoldsLabels p q n xs es
      → ((v : ℕ) → v < n → get_or ys v 0 ≡ relabel (get_or xs (p e) 0) (get_or xs (q e) 0) (get_or xs v 0)) → HoldsLabels p q n ys (e ∷ es)
  unfolding label
  holds_join ys e es hp hq h step v l = step v l ∙ rw (h (p e) hp, h (q e) hq, h v l)

  -- an edge that joins nothing leaves the array as it is
  pub holds_idle : (e : ℕ) (es : List ℕ) → p e < n → q e < n → HoldsLabels p q n xs es → get_or xs (p e) 0 ≡ get_or xs (q e) 0
      → HoldsLabels p q n xs (e ∷ es)
  holds_idle e es hp hq h same v l = h v l ∙ sym (label_idle p q es e (sym (h (p e) hp) ∙ same ∙ h (q e) hq) v)
