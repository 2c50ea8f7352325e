-- Document 02's C-13, 'Lifted dues for a stubborn leg': "the SIMPLE change of source document 000, section 4.1, complete policy". Of a pass: its network g
-- with the marks at its start, its multipliers d, its ceiling, and t, its tree. Definitions only. (Our words: multipliers for dues, edge for leg, vertex
-- for buoy, excluded for struck.)
use Rattle.std.specs.Prelude.{Bool, true, false, not, cond, ◌&&◌, ◌||◌, List, [], ◌∷◌, ◌++◌, map, ℕ, eqb, leb, ℤ, pos, neg_ℤ, ◌+ℤ◌, ◌-ℤ◌}
use Rattle.std.specs.Int.Signed.{lt_z}
use Rattle.lists.specs.Select.{select}
use Rattle.lists.specs.Numbers.{up_to}
use Rattle.lists.specs.Sets.{◌⊕◌, ◌⊖◌}
use Rattle.graph.specs.Limits.{max_multiplier}
use Rattle.graph.specs.Network.{Network}
use Rattle.tree_theory.specs.OneTree.{Edges, charge}
use Rattle.tree_theory.specs.Enumeration.{is_one_tree, Tree, no_tree, a_tree, least_tree, barred_b, forced_b}
use Rattle.tree_theory.specs.Enumeration.{Ruling, keeps, forces, bars, was_required, was_excluded, ruling}
use Rattle.tree_theory.specs.Valid.{is_required, is_excluded}
use Rattle.tours.specs.Tours.{degree}

-- vertex v is an end of edge k
abbrev pub touches : Network → ℕ → ℕ → Bool
touches g v k = eqb (g.a k) v || eqb (g.b k) v

-- ---- supports and replacements (source document 000, section 2.4)

-- s may give way to e, which is outside t: "the edge that needs to be removed from T if e is forced into the minimum 1-tree"; "a required leg is never
-- a support"
unfoldable pub is_giver : Network → Edges → ℕ → ℕ → Bool
unfolding is_one_tree ◌⊕◌ ◌⊖◌
is_giver g t e s = t s && not (is_required (g.mark s)) && is_one_tree g (t ⊖ s ⊕ e)

-- r may take the place of e, which is in t: "the edge that replaces e in the minimum 1-tree if e is removed"; "suppose that forbidden edges were removed"
unfoldable pub is_taker : Network → Edges → ℕ → ℕ → Bool
unfolding is_one_tree ◌⊕◌ ◌⊖◌
is_taker g t e r = not (t r) && not (is_excluded (g.mark r)) && is_one_tree g (t ⊖ e ⊕ r)

pub data Choice : Type 0 where
  none : Choice
  one : ℕ → Choice

-- k, or what was chosen before it, which stays unless k is better
abbrev pub or_better : (ℕ → ℕ → Bool) → ℕ → Choice → Choice
or_better better k none = one k
or_better better k (one j) = one (cond (better k j) k j)

-- the best of those listed, from the last of them to the first. Edges are listed with the highest number first: "Of several support or replacement legs
-- equally good, the lowest-numbered is taken"
unfoldable pub best : (ℕ → ℕ → Bool) → List ℕ → Choice
best better [] = none
best better (k ∷ ks) = or_better better k (best better ks)

-- "The non-mandatory edge .. with maximum weight is the support edge of e"
unfoldable pub support : Network → (ℕ → ℤ) → Edges → ℕ → Choice
unfolding best select up_to is_giver charge
support g d t e = best (λ k j. lt_z (charge g d j) (charge g d k)) (select (is_giver g t e) (up_to g.m))

-- "The replacement edge r is the one with minimum weight"
unfoldable pub replacement : Network → (ℕ → ℤ) → Edges → ℕ → Choice
unfolding best select up_to is_taker charge
replacement g d t e = best (λ k j. lt_z (charge g d k) (charge g d j)) (select (is_taker g t e) (up_to g.m))

-- a limit, or none: "or ∞ if s does not exist"
abbrev pub limit : Choice → (ℕ → ℤ) → List ℤ
limit none f = []
limit (one k) f = f k ∷ []

-- "The reduced cost of e": "w̃(e) − w̃(s)"
unfoldable pub reduced_cost : Network → (ℕ → ℤ) → Edges → ℕ → List ℤ
unfolding support charge
reduced_cost g d t e = limit (support g d t e) (λ s. charge g d e -ℤ charge g d s)

-- "The replacement cost of e": "w̃(r) − w̃(e)"
unfoldable pub replacement_cost : Network → (ℕ → ℤ) → Edges → ℕ → List ℤ
unfolding replacement charge
replacement_cost g d t e = limit (replacement g d t e) (λ r. charge g d r -ℤ charge g d e)

-- ---- how far an end moves: i is the end of e in question, j the other one

-- all limits of the listed edges
unfoldable pub gather : (ℕ → List ℤ) → List ℕ → List ℤ
gather f [] = []
gather f (k ∷ ks) = f k ++ gather f ks

abbrev pub lesser : Bool → ℤ → ℤ → ℤ
lesser true x y = x
lesser false x y = y

-- the least of z and of those listed
unfoldable pub at_most : ℤ → List ℤ → ℤ
at_most z [] = z
at_most z (x ∷ xs) = let y : ℤ = at_most z xs in lesser (lt_z x y) x y

-- of an edge e outside t with the support s. Line I1: "min{GETREPLACEMENTCOST(i,k): {i,k} ∈ T \ M} ∪ {∞}". Line I2: "if j ≠ 1 ..
-- min{w̃(s) − w̃(i,k): {i,k} ∈ C_{i,j} \ M} ∪ {∞}"
unfoldable pub rise_limits : Network → (ℕ → ℤ) → Edges → ℕ → ℕ → ℕ → ℕ → List ℤ
unfolding gather select up_to is_giver charge replacement_cost
rise_limits g d t e s i j =
    gather (replacement_cost g d t) (select (λ f. (t f && not (is_required (g.mark f))) && touches g i f) (up_to g.m))
    ++ cond (eqb j 1) []
    (map (λ f. charge g d s -ℤ charge g d f) (select (λ f. is_giver g t e f && touches g i f) (up_to g.m)))

-- of an edge e of t with the replacement r. Line D1: "min{GETREDUCEDCOST(i,k): {i,k} ∈ E \ T} ∪ {∞}". Line D2: "if j ≠ 1 ..
-- min{w̃(i,k) − w̃(r): {i,k} ∈ R_{i,j}} ∪ {∞}"
unfoldable pub fall_limits : Network → (ℕ → ℤ) → Edges → ℕ → ℕ → ℕ → ℕ → List ℤ
unfolding gather select up_to is_taker charge reduced_cost
fall_limits g d t e r i j =
    gather (reduced_cost g d t) (select (λ h. (not (t h) && not (is_excluded (g.mark h))) && touches g i h) (up_to g.m))
    ++ cond (eqb j 1) []
    (map (λ h. charge g d h -ℤ charge g d r) (select (λ h. is_taker g t e h && touches g i h) (up_to g.m)))

-- "if i ∉ {1,k,l} ∧ deg_T(i) ≥ 2", {k,l} being the support; "buoy 1's due stays 0"
unfoldable pub rises : Network → Edges → ℕ → ℕ → Bool
unfolding degree
rises g t s i = not (eqb i 1) && not (touches g i s) && leb 2 (degree g t i)

-- "if i ∉ {1,k,l} ∧ deg_T(i) ≤ 2", {k,l} being the replacement
unfoldable pub falls : Network → Edges → ℕ → ℕ → Bool
unfolding degree
falls g t r i = not (eqb i 1) && not (touches g i r) && leb (degree g t i) 2

-- "Where no leg limits a change the due goes to the end of its range, and no change passes that end"
abbrev pub rise_by : Network → (ℕ → ℤ) → Edges → ℕ → ℕ → ℕ → Choice → ℤ
rise_by g d t e i j none = pos 0
rise_by g d t e i j (one s) = cond (rises g t s i) (at_most (pos max_multiplier -ℤ d i) (rise_limits g d t e s i j)) (pos 0)

abbrev pub fall_by : Network → (ℕ → ℤ) → Edges → ℕ → ℕ → ℕ → Choice → ℤ
fall_by g d t e i j none = pos 0
fall_by g d t e i j (one r) = cond (falls g t r i) (at_most (d i +ℤ pos max_multiplier) (fall_limits g d t e r i j)) (pos 0)

unfoldable pub rise : Network → (ℕ → ℤ) → Edges → ℕ → ℕ → ℕ → ℤ
unfolding support rises rise_limits at_most
rise g d t e i j = rise_by g d t e i j (support g d t e)

unfoldable pub fall : Network → (ℕ → ℤ) → Edges → ℕ → ℕ → ℕ → ℤ
unfolding replacement falls fall_limits at_most
fall g d t e i j = fall_by g d t e i j (replacement g d t e)

-- ---- the lifted multipliers

-- x more at vertex i and y more at vertex j
unfoldable pub moved : (ℕ → ℤ) → ℕ → ℕ → ℤ → ℤ → ℕ → ℤ
moved d i j x y u = cond (eqb u i) (d u +ℤ x) (cond (eqb u j) (d u +ℤ y) (d u))

-- "end a is treated before end b, both from the reduced and replacement costs under the pass's own dues": outside t both ends rise,
unfoldable pub raised : Network → (ℕ → ℤ) → Edges → ℕ → ℕ → ℤ
unfolding moved rise
raised g d t e = moved d (g.a e) (g.b e) (rise g d t e (g.a e) (g.b e)) (rise g d t e (g.b e) (g.a e))

-- and in t both fall
unfoldable pub lowered : Network → (ℕ → ℤ) → Edges → ℕ → ℕ → ℤ
unfolding moved fall
lowered g d t e = moved d (g.a e) (g.b e) (neg_ℤ (fall g d t e (g.a e) (g.b e))) (neg_ℤ (fall g d t e (g.b e) (g.a e)))

-- ---- the rulings of a pass

-- "outside the tree it is barred, inside it forced, exactly when the definition in Rulings says so under those dues. A 'dead' under lifted dues bars or
-- forces it too."
abbrev pub tried : Network → (ℕ → ℤ) → ℤ → ℕ → Edges → Bool → Ruling
tried g d ceiling e t false = cond (barred_b g (raised g d t e) ceiling e) bars keeps
tried g d ceiling e t true = cond (forced_b g (lowered g d t e) ceiling e) forces keeps

-- "A leg that the ordinary pass keeps is tried under its lifted dues"
abbrev pub retried : Network → (ℕ → ℤ) → ℤ → ℕ → Tree → Ruling → Ruling
retried g d ceiling e no_tree r = r
retried g d ceiling e (a_tree b t) keeps = tried g d ceiling e t (t e)
retried g d ceiling e (a_tree b t) forces = forces
retried g d ceiling e (a_tree b t) bars = bars
retried g d ceiling e (a_tree b t) was_required = was_required
retried g d ceiling e (a_tree b t) was_excluded = was_excluded

-- "A yes or no at opening turns lifting on"
unfoldable pub ruling_with : Bool → Network → (ℕ → ℤ) → ℤ → ℕ → Ruling
unfolding ruling least_tree barred_b forced_b raised lowered
ruling_with false g d ceiling e = ruling g d ceiling e
ruling_with true g d ceiling e = retried g d ceiling e (least_tree g d) (ruling g d ceiling e)
