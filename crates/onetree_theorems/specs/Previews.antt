-- DOCUMENT 02, C-11, OF THE CALL in plain words: when a preview is refused, that it otherwise is the tree call on the copy, and what it says of
-- rulings: "what striking or requiring one free leg would do to the bound" decides them. l says which vertices are ashore (C-20). Stated of the replies
-- and bytes that the contracts of `preview`, `tree` and `rule` cite. Statements only: PreviewLaws proves them (`preview_exactly`, `preview_touched`,
-- `preview_rules`).
use Rattle.std.specs.Prelude.{◌≡◌, ◌↔◌, ◌⊎◌, true, List, [], ◌∷◌, ℕ, ◌-◌, ◌≤◌, length, get_or, ℤ, ◌<ℤ◌}
use Rattle.integers.specs.Multiples.{◌times◌}
use Rattle.graph.specs.declared.Graph.{Graph}
use Rattle.graph.specs.Limits.{max_edges}
use Rattle.graph.specs.Network.{free, network}
use Rattle.graph.specs.Valid.{Valid}
use Rattle.afloat.specs.Over.{ashore, touched, mark_over}
use Rattle.onetree.specs.Answers.{Reply, refused, none, bounded}
use Rattle.reduction.specs.Answers.{tree_reply_over, tree_leaves_over, rule_reply_over, rule_leaves_over}
use Rattle.preview.specs.Preview.{remarked, preview_reply, preview_leaves}
use Rattle.onetree_theorems.specs.Calls.{Asked, First, Fine, LengthsFit, MultipliersFit, DenominatorFits, AshoreFits, tree_asks}
use Rattle.onetree_theorems.specs.TwoCeilings.{GaveRulings}

-- "30 when the leg is not 1 to m or the new mark not 1 or 2, and 31 when the leg is not free; they follow 15, 11 and 12 in that order."; C-17: 32 "in the
-- preview, before 30"; C-20: "35 .. follows 32 and, in the preview, comes before 30", and "the preview's 31 still goes by the mark in the chart"
abbrev pub preview_asks : Graph → List ℤ → List ℕ → ℕ → ℕ → ℕ → ℕ → List Asked
preview_asks g d l q k mark len =
    (15, Valid g)
    ∷ (11, LengthsFit g d l len)
    ∷ (12, MultipliersFit d)
    ∷ (32, DenominatorFits q)
    ∷ (35, AshoreFits l g.n)
    ∷ (30, (1 ≤ k) × (k ≤ g.m) × ((mark ≡ 1) ⊎ (mark ≡ 2)))
    ∷ (31, get_or g.mark (k - 1) 0 ≡ 0)
    ∷ []

pub record PreviewExactly (g : Graph) (d : List ℤ) (l : List ℕ) (q k mark : ℕ) (out : List ℕ) : Type 0 where
  pub refuses : (e p : ℕ) → (preview_reply g d l q k mark (length out) ≡ refused e p) ↔ (First (preview_asks g d l q k mark (length out)) e × (p ≡ 0))
  pub refusal_leaves : (e p : ℕ) → First (preview_asks g d l q k mark (length out)) e → preview_leaves g d l q k mark out ≡ out
  -- "It answers exactly as the tree call does on a copy of the chart with that mark", which is no worse a chart: the tree call does not refuse it
  pub as_tree : Fine (preview_asks g d l q k mark (length out))
      → (preview_reply g d l q k mark (length out) ≡ tree_reply_over (remarked g k mark) d l q (length out))
      × (preview_leaves g d l q k mark out ≡ tree_leaves_over (remarked g k mark) d l q out)
      × Fine (tree_asks (remarked g k mark) d l q (length out))

-- C-20: "A leg touching such a buoy counts as struck, whatever its mark": of a free edge that touches one the preview answers as the tree call does of
-- the graph itself
abbrev pub PreviewTouched : Graph → List ℤ → List ℕ → ℕ → ℕ → ℕ → List ℕ → Type 0
PreviewTouched g d l q k mark out =
    Fine (preview_asks g d l q k mark (length out)) → touched (ashore l) (network g) k ≡ true
    → (preview_reply g d l q k mark (length out) ≡ tree_reply_over g d l q (length out)) × (preview_leaves g d l q k mark out ≡ tree_leaves_over g d l q out)

-- 'no tree', or a bound above the ceiling
abbrev pub Beyond : ℤ → Reply → Type 0
Beyond ceiling (refused number place) = ⊥
Beyond ceiling none = Unit {0}
Beyond ceiling (bounded b) = ceiling <ℤ b

-- where the rule call gives rulings (it is not refused, the sea is not dead), of a free edge k of a graph value, whose arrays have 190 places; free by the
-- mark that counts
pub record PreviewRules (g : Graph) (d : List ℤ) (l : List ℕ) (ceiling : ℤ) (q : ℕ) (out : List ℕ) (k : ℕ) : Type 0 where
  -- barred exactly when requiring it leaves no tree within the ceiling
  pub bars : (get_or (rule_leaves_over g d l ceiling q out) (k - 1) 0 ≡ 2) ↔ Beyond (q times ceiling) (preview_reply g d l q k 1 (length out))
  -- forced exactly when excluding it leaves none
  pub forces : (get_or (rule_leaves_over g d l ceiling q out) (k - 1) 0 ≡ 1) ↔ Beyond (q times ceiling) (preview_reply g d l q k 2 (length out))

abbrev pub Previewed : Type 0
Previewed =
    (g : Graph) (d : List ℤ) (l : List ℕ) (ceiling : ℤ) (q : ℕ) (out : List ℕ) (k : ℕ) → length g.mark ≡ max_edges
    → GaveRulings (rule_reply_over g d l ceiling q (length out)) → 1 ≤ k → k ≤ g.m → mark_over (ashore l) (network g) k ≡ free
    → PreviewRules g d l ceiling q out k
