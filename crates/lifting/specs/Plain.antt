-- C-13's words once more, of all edges and all limits, with no list and no order of looking: what a support, a replacement and the change of an end are.
-- That the values in Lifted are these, and the only such, is shown in Chosen.
use Rattle.std.specs.Prelude.{◌≡◌, ◌≢◌, ◌⊎◌, true, false, ℕ, ◌≤◌, ℤ, pos, ◌+ℤ◌, ◌-ℤ◌, ◌≤ℤ◌}
use Rattle.lists.specs.Members.{◌∈◌}
use Rattle.lists.specs.Numbers.{up_to}
use Rattle.lists.specs.Sets.{◌⊕◌, ◌⊖◌}
use Rattle.graph.specs.Limits.{max_multiplier}
use Rattle.graph.specs.Network.{Network, required, excluded}
use Rattle.tree_theory.specs.OneTree.{Edges, OneTree, charge}
use Rattle.lifting.specs.Lifted.{touches}

-- an edge of t, not required, that may give way to e: t without it and with e is a 1-tree
pub record Giver (g : Network) (t : Edges) (e s : ℕ) : Type 0 where
  pub listed : s ∈ up_to g.m
  pub inside : t s ≡ true
  pub loose : g.mark s ≢ required
  pub tree : OneTree g (t ⊖ s ⊕ e)

-- an edge outside t, not excluded, that may take the place of e
pub record Taker (g : Network) (t : Edges) (e r : ℕ) : Type 0 where
  pub listed : r ∈ up_to g.m
  pub outside : t r ≡ false
  pub allowed : g.mark r ≢ excluded
  pub tree : OneTree g (t ⊖ e ⊕ r)

-- the dearest giver; "Of several .. equally good, the lowest-numbered is taken"
pub record IsSupport (g : Network) (d : ℕ → ℤ) (t : Edges) (e s : ℕ) : Type 0 where
  pub giver : Giver g t e s
  pub dearest : (f : ℕ) → Giver g t e f → charge g d f ≤ℤ charge g d s
  pub lowest : (f : ℕ) → Giver g t e f → charge g d f ≡ charge g d s → s ≤ f

-- the cheapest taker, likewise
pub record IsReplacement (g : Network) (d : ℕ → ℤ) (t : Edges) (e r : ℕ) : Type 0 where
  pub taker : Taker g t e r
  pub cheapest : (f : ℕ) → Taker g t e f → charge g d r ≤ℤ charge g d f
  pub lowest : (f : ℕ) → Taker g t e f → charge g d f ≡ charge g d r → r ≤ f

-- v is the least of the numbers that are P
pub record IsLeast (P : ℤ → Type 0) (v : ℤ) : Type 0 where
  pub itself : P v
  pub least : (x : ℤ) → P x → v ≤ℤ x

-- the replacement cost of an edge of t at i that is not required (line I1)
pub record ByReplacement (g : Network) (d : ℕ → ℤ) (t : Edges) (i : ℕ) (x : ℤ) : Type 0 where
  pub f : ℕ
  pub listed : f ∈ up_to g.m
  pub inside : t f ≡ true
  pub loose : g.mark f ≢ required
  pub end : touches g i f ≡ true
  pub r : ℕ
  pub replacement : IsReplacement g d t f r
  pub is : x ≡ charge g d r -ℤ charge g d f

-- how far below the support s an edge at i is that may give way to e (line I2)
pub record BySupport (g : Network) (d : ℕ → ℤ) (t : Edges) (e s i : ℕ) (x : ℤ) : Type 0 where
  pub f : ℕ
  pub giver : Giver g t e f
  pub end : touches g i f ≡ true
  pub is : x ≡ charge g d s -ℤ charge g d f

-- what a rise of the end i of e is held to: by the end of its range, by line I1 and, "if j ≠ 1", by line I2
abbrev pub HoldsRise : Network → (ℕ → ℤ) → Edges → ℕ → ℕ → ℕ → ℕ → ℤ → Type 0
HoldsRise g d t e s i j x = (x ≡ pos max_multiplier -ℤ d i) ⊎ (ByReplacement g d t i x ⊎ ((j ≢ 1) × BySupport g d t e s i x))

-- the reduced cost of an edge outside t at i that is not excluded (line D1)
pub record ByReduced (g : Network) (d : ℕ → ℤ) (t : Edges) (i : ℕ) (x : ℤ) : Type 0 where
  pub h : ℕ
  pub listed : h ∈ up_to g.m
  pub outside : t h ≡ false
  pub allowed : g.mark h ≢ excluded
  pub end : touches g i h ≡ true
  pub s : ℕ
  pub support : IsSupport g d t h s
  pub is : x ≡ charge g d h -ℤ charge g d s

-- how far above the replacement r an edge at i is that may take the place of e (line D2)
pub record ByTaker (g : Network) (d : ℕ → ℤ) (t : Edges) (e r i : ℕ) (x : ℤ) : Type 0 where
  pub h : ℕ
  pub taker : Taker g t e h
  pub end : touches g i h ≡ true
  pub is : x ≡ charge g d h -ℤ charge g d r

abbrev pub HoldsFall : Network → (ℕ → ℤ) → Edges → ℕ → ℕ → ℕ → ℕ → ℤ → Type 0
HoldsFall g d t e r i j x = (x ≡ d i +ℤ pos max_multiplier) ⊎ (ByReduced g d t i x ⊎ ((j ≢ 1) × ByTaker g d t e r i x))
