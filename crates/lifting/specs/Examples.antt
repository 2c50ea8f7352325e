-- C-13 on small seas, each fact by computation: the rulings of one pass under zero multipliers, without lifting and with it, and the multipliers
-- that an edge is tried under.
use Rattle.std.specs.Prelude.{◌≡◌, refl, Bool, true, false, List, [], ◌∷◌, ℕ, get_or, length, ℤ, pos, negsuc}
use Rattle.lists.specs.Rows.{row}
use Rattle.graph.specs.Network.{Network, Mark, free, required, excluded}
use Rattle.tree_theory.specs.OneTree.{Edges}
use Rattle.tree_theory.specs.Enumeration.{Tree, no_tree, a_tree, least_tree, barred_b, forced_b, Ruling, keeps, forces, bars, was_required, was_excluded}
use Rattle.lifting.specs.Lifted.{raised, lowered, ruling_with}

-- all legs free where no mark is given
unfoldable pub small : ℕ → List ℕ → List ℕ → List ℤ → List Mark → Network
small n a b cost mark =
    record {
      n = n;
      m = length a;
      a = λ k. get_or (0 ∷ a) k 0;
      b = λ k. get_or (0 ∷ b) k 0;
      cost = λ k. get_or (pos 0 ∷ cost) k (pos 0);
      mark = λ k. get_or (free ∷ mark) k free;
    }

abbrev zero_multipliers_lem : ℕ → ℤ
zero_multipliers_lem v = pos 0

-- the rulings of a pass, edge by edge
unfoldable pub rulings : Bool → Network → ℤ → List Ruling
unfolding row ruling_with
rulings lifting g ceiling = row g.m (ruling_with lifting g zero_multipliers_lem ceiling)

-- what edge e is tried under, vertex by vertex, where it is outside the pass's tree, and where it is inside
abbrev edges_of : Tree → Edges
edges_of no_tree = λ k. false
edges_of (a_tree b t) = t

unfoldable pub outside : Network → ℕ → ℕ → ℤ
unfolding raised least_tree
outside g e = raised g zero_multipliers_lem (edges_of (least_tree g zero_multipliers_lem)) e

unfoldable pub inside : Network → ℕ → ℕ → ℤ
unfolding lowered least_tree
inside g e = lowered g zero_multipliers_lem (edges_of (least_tree g zero_multipliers_lem)) e

-- ---- document 01's sea: 1-2:4 1-3:3 1-4:5 2-3:2 2-4:6 3-4:1

unfoldable pub four : Network
unfolding small
four = small 4 (1 ∷ 1 ∷ 1 ∷ 2 ∷ 2 ∷ 3 ∷ []) (2 ∷ 3 ∷ 4 ∷ 3 ∷ 4 ∷ 4 ∷ []) (pos 4 ∷ pos 3 ∷ pos 5 ∷ pos 2 ∷ pos 6 ∷ pos 1 ∷ []) []

pub four_ordinary : rulings false four (pos 12) ≡ keeps ∷ keeps ∷ keeps ∷ forces ∷ bars ∷ forces ∷ []
unfolding rulings four
four_ordinary = refl

-- leg 1 is forced, by d'(2) = −4
pub four_lifted : rulings true four (pos 12) ≡ forces ∷ keeps ∷ keeps ∷ forces ∷ bars ∷ forces ∷ []
unfolding rulings four
four_lifted = refl

pub four_multipliers : row 4 (inside four 1) ≡ pos 0 ∷ negsuc 3 ∷ pos 0 ∷ pos 0 ∷ []
unfolding row inside four
four_multipliers = refl

-- ---- 1-2:0 1-3:2 1-4:2 1-5:3 2-4:0 2-5:1, struck, 3-4:0 4-5:0

unfoldable pub struck : Network
unfolding small
struck =
    small 5 (1 ∷ 1 ∷ 1 ∷ 1 ∷ 2 ∷ 2 ∷ 3 ∷ 4 ∷ []) (2 ∷ 3 ∷ 4 ∷ 5 ∷ 4 ∷ 5 ∷ 4 ∷ 5 ∷ [])
    (pos 0 ∷ pos 2 ∷ pos 2 ∷ pos 3 ∷ pos 0 ∷ pos 1 ∷ pos 0 ∷ pos 0 ∷ []) (free ∷ free ∷ free ∷ free ∷ free ∷ excluded ∷ free ∷ free ∷ [])

pub struck_ordinary : rulings false struck (pos 5) ≡ keeps ∷ keeps ∷ keeps ∷ keeps ∷ forces ∷ was_excluded ∷ forces ∷ forces ∷ []
unfolding rulings struck
struck_ordinary = refl

pub struck_lifted : rulings true struck (pos 5) ≡ forces ∷ forces ∷ bars ∷ keeps ∷ forces ∷ was_excluded ∷ forces ∷ forces ∷ []
unfolding rulings struck
struck_lifted = refl

-- leg 3 by 'dead': under its multipliers no 1-tree is within the ceiling, neither one with it nor one without
pub struck_dead : (barred_b struck (outside struck 3) (pos 5) 3 ≡ true) × (forced_b struck (outside struck 3) (pos 5) 3 ≡ true)
unfolding barred_b forced_b outside struck
struck_dead = (refl, refl)

-- ---- 1-3:3 1-4:1 2-3:0 2-4:0 3-4:0: legs 3 and 4 are forced, each by a fall of vertex 2; leg 5 has no such fall of its own, and stays

unfoldable pub own : Network
unfolding small
own = small 4 (1 ∷ 1 ∷ 2 ∷ 2 ∷ 3 ∷ []) (3 ∷ 4 ∷ 3 ∷ 4 ∷ 4 ∷ []) (pos 3 ∷ pos 1 ∷ pos 0 ∷ pos 0 ∷ pos 0 ∷ []) []

pub own_lifted : rulings true own (pos 6) ≡ forces ∷ forces ∷ forces ∷ forces ∷ keeps ∷ []
unfolding rulings own
own_lifted = refl

-- ---- 1-2:3 1-3:0 1-4:0 2-3:2 2-4:0 3-4:2: one leg barred and one forced, both from the marks at the pass's start

unfoldable pub together : Network
unfolding small
together = small 4 (1 ∷ 1 ∷ 1 ∷ 2 ∷ 2 ∷ 3 ∷ []) (2 ∷ 3 ∷ 4 ∷ 3 ∷ 4 ∷ 4 ∷ []) (pos 3 ∷ pos 0 ∷ pos 0 ∷ pos 2 ∷ pos 0 ∷ pos 2 ∷ []) []

pub together_lifted : rulings true together (pos 2) ≡ bars ∷ forces ∷ forces ∷ forces ∷ forces ∷ bars ∷ []
unfolding rulings together
together_lifted = refl

-- ---- 1-2:0 1-3:0 1-4:0 2-4:0 3-4:2: no leg limits a change, and it ends at the end of the range

unfoldable pub far : Network
unfolding small
far = small 4 (1 ∷ 1 ∷ 1 ∷ 2 ∷ 3 ∷ []) (2 ∷ 3 ∷ 4 ∷ 4 ∷ 4 ∷ []) (pos 0 ∷ pos 0 ∷ pos 0 ∷ pos 0 ∷ pos 2 ∷ []) []

pub far_multipliers : row 4 (inside far 1) ≡ pos 0 ∷ negsuc 999999 ∷ pos 0 ∷ pos 0 ∷ []
unfolding row inside far
far_multipliers = refl

pub far_within : rulings true far (pos 1000001) ≡ forces ∷ forces ∷ bars ∷ forces ∷ forces ∷ []
unfolding rulings far
far_within = refl

pub far_beyond : rulings true far (pos 1000002) ≡ keeps ∷ keeps ∷ keeps ∷ forces ∷ forces ∷ []
unfolding rulings far
far_beyond = refl

-- ---- what each part of the definition is for: seas whose rulings would be others without it

-- 1-4:3 1-5:4 2-4:1 2-5:3 3-4:2 3-5:1 4-5:0: line I2 holds the rise for leg 5, which would be barred
unfoldable pub second : Network
unfolding small
second =
    small 5 (1 ∷ 1 ∷ 2 ∷ 2 ∷ 3 ∷ 3 ∷ 4 ∷ []) (4 ∷ 5 ∷ 4 ∷ 5 ∷ 4 ∷ 5 ∷ 5 ∷ [])
    (pos 3 ∷ pos 4 ∷ pos 1 ∷ pos 3 ∷ pos 2 ∷ pos 1 ∷ pos 0 ∷ []) []

pub second-limit : rulings true second (pos 12) ≡ forces ∷ forces ∷ keeps ∷ bars ∷ keeps ∷ keeps ∷ keeps ∷ []
unfolding rulings second
second-limit = refl

-- 1-3:0 1-5:0 2-3:0 2-4:0 3-4:0, required, 3-5:1 4-5:0: line I1 holds the rise for leg 6
unfoldable pub first : Network
unfolding small
first =
    small 5 (1 ∷ 1 ∷ 2 ∷ 2 ∷ 3 ∷ 3 ∷ 4 ∷ []) (3 ∷ 5 ∷ 3 ∷ 4 ∷ 4 ∷ 5 ∷ 5 ∷ [])
    (pos 0 ∷ pos 0 ∷ pos 0 ∷ pos 0 ∷ pos 0 ∷ pos 1 ∷ pos 0 ∷ []) (free ∷ free ∷ free ∷ free ∷ required ∷ free ∷ free ∷ [])

pub first-limit : rulings true first (pos 2) ≡ forces ∷ forces ∷ keeps ∷ keeps ∷ was_required ∷ keeps ∷ keeps ∷ []
unfolding rulings first
first-limit = refl

-- 1-2:0 1-4:0 2-3:0 2-4:2, required, 3-4:2: a required leg is no support, and makes no limit
unfoldable pub held : Network
unfolding small
held =
    small 4 (1 ∷ 1 ∷ 2 ∷ 2 ∷ 3 ∷ []) (2 ∷ 4 ∷ 3 ∷ 4 ∷ 4 ∷ []) (pos 0 ∷ pos 0 ∷ pos 0 ∷ pos 2 ∷ pos 2 ∷ [])
    (free ∷ free ∷ free ∷ required ∷ free ∷ [])

pub held_lifted : rulings true held (pos 4) ≡ forces ∷ forces ∷ keeps ∷ was_required ∷ bars ∷ []
unfolding rulings held
held_lifted = refl

-- 1-3:3 1-4:0 2-3:0, required, 2-4:0 3-4:1: a rise ends at the end of the range
unfoldable pub high : Network
unfolding small
high =
    small 4 (1 ∷ 1 ∷ 2 ∷ 2 ∷ 3 ∷ []) (3 ∷ 4 ∷ 3 ∷ 4 ∷ 4 ∷ []) (pos 3 ∷ pos 0 ∷ pos 0 ∷ pos 0 ∷ pos 1 ∷ [])
    (free ∷ free ∷ required ∷ free ∷ free ∷ [])

pub high_lifted : rulings true high (pos 1000004) ≡ forces ∷ forces ∷ was_required ∷ keeps ∷ keeps ∷ []
unfolding rulings high
high_lifted = refl

-- 1-2:0 1-4:0 2-3:1 2-4:1 3-4:0: both ends move, also the second
unfoldable pub both : Network
unfolding small
both = small 4 (1 ∷ 1 ∷ 2 ∷ 2 ∷ 3 ∷ []) (2 ∷ 4 ∷ 3 ∷ 4 ∷ 4 ∷ []) (pos 0 ∷ pos 0 ∷ pos 1 ∷ pos 1 ∷ pos 0 ∷ []) []

pub both_lifted : rulings true both (pos 2) ≡ forces ∷ forces ∷ forces ∷ keeps ∷ forces ∷ []
unfolding rulings both
both_lifted = refl
