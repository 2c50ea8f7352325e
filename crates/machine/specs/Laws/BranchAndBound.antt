-- Branch and bound, over any nodes, tours and bounds, and any order of the tours: what a problem is, the three laws that an opening obeys,
-- where a search is then (`Reached`), and that a budget of 2^(k+1) − 1 openings suffices, k being the node's size. (THE GENERAL THEOREM,
-- that it holds the first of the tours once its stack is empty, is proved in proofs/BranchAndBound.) Assumes nothing.
use Rattle.std.specs.Prelude.{◌≡◌, ◌⊎◌, List, [], ◌∷◌}
use Prim.Native.Nat.{ℕ, suc, ◌+◌, ◌-◌, ◌^◌, ◌≤◌, ◌<◌}
use native.Mathlib.Omega.{arith}
use Rattle.std.proofs.Math.Pow.{pow_mono}
use Rattle.machine.specs.Outcomes.{Outcome, closes, finds, splits, Incumbent, no_tour, a_tour, next_stack, next_incumbent}
use Rattle.machine.specs.Outcomes.{next_upper}

-- what is searched
pub record Problem : Type 1 where
  pub Node : Type 0
  pub Tour : Type 0
  -- a tour in the form in which a search keeps it
  pub Form : Type 0
  pub tour : Form → Tour
  -- the tours of a node
  pub In : Tour → Node → Type 0
  -- a node's size bounds the openings that it leads to
  pub size : Node → ℕ
  -- upper bounds: the tours within one, and the bound that a found tour leaves
  pub Bound : Type 0
  pub Within : Tour → Bound → Type 0
  pub lowered : Form → Bound
  pub tighter : (f : Form) (u : Bound) (t : Tour) → Within (tour f) u → Within t (lowered f) → Within t u
  -- the order: t comes before f, and is then within the bound that f leaves
  pub Before : Tour → Form → Type 0
  pub reaches : (f : Form) (t : Tour) → Before t f → Within t (lowered f)
  -- the one to keep of the incumbent b and a found tour f: what comes before it comes before both, and the bound it leaves is f's
  pub pick : Form → Form → Form
  pub picks : (b f : Form) → (pick b f ≡ b) ⊎ (pick b f ≡ f)
  pub pick_first : (b f : Form) (t : Tour) → Before t (pick b f) → Before t b × Before t f
  pub pick_level : (b f : Form) → Within (tour f) (lowered b) → lowered (pick b f) ≡ lowered f

-- ---- the three laws of an opening of the node x under the bound u

-- a found tour is one of the node's within the bound, and none of the node's comes before it
pub record Found (p : Problem) (u : p.Bound) (x : p.Node) (f : p.Form) : Type 0 where
  pub inside : p.In (p.tour f) x
  pub within : p.Within (p.tour f) u
  pub least : (t : p.Tour) → p.In t x → ¬ p.Before t f

-- a split loses no tour within the bound, brings in none, and both halves are smaller
pub record Split (p : Problem) (u : p.Bound) (x out into : p.Node) : Type 0 where
  pub loses : (t : p.Tour) → p.In t x → p.Within t u → p.In t out ⊎ p.In t into
  pub of_out : (t : p.Tour) → p.In t out → p.In t x
  pub of_into : (t : p.Tour) → p.In t into → p.In t x
  pub smaller_out : p.size out < p.size x
  pub smaller_into : p.size into < p.size x

abbrev pub Lawful : (p : Problem) → p.Bound → p.Node → Outcome p.Node p.Form → Type 0
Lawful p u x closes = (t : p.Tour) → p.In t x → ¬ p.Within t u
Lawful p u x (finds f) = Found p u x f
Lawful p u x (splits out into) = Split p u x out into

-- ---- searches

-- the upper bound, stack, incumbent and count to which lawful openings lead from the node root under a ceiling
pub data Reached (p : Problem) (root : p.Node) (ceiling : p.Bound) : p.Bound → List p.Node → Incumbent p.Form → ℕ → Type 0 where
  start : Reached p root ceiling ceiling (root ∷ []) no_tour 0
  next : {u : p.Bound} {x : p.Node} {xs : List p.Node} {best : Incumbent p.Form} {count : ℕ}
      (o : Outcome p.Node p.Form) → Lawful p u x o → Reached p root ceiling u (x ∷ xs) best count
      → Reached p root ceiling (next_upper p.lowered u o) (next_stack xs o) (next_incumbent p.pick best o) (suc count)

-- at the optimum: there is no tour of root within the ceiling, or the incumbent is one, and none of root's comes before it
abbrev pub Optimal : (p : Problem) → p.Node → p.Bound → Incumbent p.Form → Type 0
Optimal p root ceiling no_tour = (t : p.Tour) → p.In t root → ¬ p.Within t ceiling
Optimal p root ceiling (a_tour f) = Found p ceiling root f

module _ (p : Problem) where
  -- the openings that the nodes of a stack lead to at most
  unfoldable pub room : List p.Node → ℕ
  room [] = 0
  room (x ∷ xs) = (2 ^ suc (p.size x) - 1) + room xs

  module _ (root : p.Node) (ceiling : p.Bound) where
    -- ---- each opening takes one from the room at least

    room_next : (u : p.Bound) (x : p.Node) (xs : List p.Node) (o : Outcome p.Node p.Form) → Lawful p u x o
        → suc (room (next_stack xs o)) ≤ room (x ∷ xs)
    unfolding room
    room_next u x xs closes l = omega (arith, pow_mono {i = 0} {j = p.size x} (omega arith))
    room_next u x xs (finds f) l = omega (arith, pow_mono {i = 0} {j = p.size x} (omega arith))
    room_next u x xs (splits out into) l =
        omega (
          arith,
          pow_mono {i = suc (p.size out)} {j = p.size x} l.smaller_out,
          pow_mono {i = suc (p.size into)} {j = p.size x} l.smaller_into,
          pow_mono {i = 0} {j = p.size x} (omega arith),
        )

    -- THE BUDGET: openings done and room left are at most 2^(k+1) − 1, k the size of root
    pub budget : {u : p.Bound} {stack : List p.Node} {best : Incumbent p.Form} {count : ℕ}
        → Reached p root ceiling u stack best count → room stack + count ≤ 2 ^ suc (p.size root) - 1
    unfolding room
    budget start = omega arith
    budget (next {u = u} {x = x} {xs = xs} o l r) = omega (arith, budget r, room_next u x xs o l)

  -- and while a node waits there is room
  pub room_some : (x : p.Node) (xs : List p.Node) → 1 ≤ room (x ∷ xs)
  unfolding room
  room_some x xs = omega (arith, pow_mono {i = 0} {j = p.size x} (omega arith))

  -- ---- an opening may first narrow its node: to one that keeps the tours within the bound and brings in none, and is no larger
  pub narrowed : (u : p.Bound) (x y : p.Node) → ((t : p.Tour) → p.In t x → p.Within t u → p.In t y)
      → ((t : p.Tour) → p.In t y → p.In t x) → p.size y ≤ p.size x
      → (o : Outcome p.Node p.Form) → Lawful p u y o → Lawful p u x o
  narrowed u x y keeps brings small closes l = λ t i w. l t (keeps t i w) w
  narrowed u x y keeps brings small (finds f) l = record {
    inside = brings (p.tour f) l.inside;
    within = l.within;
    least = λ t i w. l.least t (keeps t i (p.tighter f u t l.within (p.reaches f t w))) w;
  }
  narrowed u x y keeps brings small (splits out into) l = record {
    loses = λ t i w. l.loses t (keeps t i w) w;
    of_out = λ t i. brings t (l.of_out t i);
    of_into = λ t i. brings t (l.of_into t i);
    smaller_out = omega (arith, l.smaller_out);
    smaller_into = omega (arith, l.smaller_into);
  }
