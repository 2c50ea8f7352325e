-- The list that a call takes, where refusal 35 does not apply: then the laws of this crate hold of its vertices. And the list of zeros, "none
-- ashore".
use Rattle.std.specs.Prelude.{◌≡◌, refl, true, false, not, ◌&&◌, ◌||◌, List, eqb, leb, replicate}
use Rattle.std.proofs.Common.{sym, ap, ap₂, ◌∙◌, true≢false, arith, leb-true, le-leb}
use Prim.Native.Nat.{ℕ, zero, suc, ◌≤◌}
use Rattle.std.proofs.Math.Decide.{dec_le}
use Rattle.std.proofs.lemmas.Bool.{not-true, not-false}
use Rattle.lists.specs.Bools.{and_both, cond_zero}
use Rattle.lists.specs.All.{every_of}
use Rattle.lists.specs.Fill.{replicate-at}
use Rattle.lists.specs.Members.{◌∈◌}
use Rattle.lists.specs.Numbers.{up_to, up_to_in}
use Rattle.graph.specs.declared.Graph.{Graph}
use Rattle.graph.specs.Network.{Network, network}
use Rattle.graph.specs.Places.{place_zero, place_past}
use Rattle.graph.specs.Valid as value
use Rattle.tree_theory.specs.Arrays.{network-valid}
use Rattle.afloat.specs.Over.{Ashore, ashore, active_count, ashore_fits, ashore_fault, touched}
use Rattle.afloat.specs.Reduced.{Fit}
use Rattle.afloat.specs.NoneAshore.{count_none}

-- ---- where 35 does not apply

pub fault_fits : (l : List ℕ) (n : ℕ) → ashore_fault l n ≡ 0 → ashore_fits l n ≡ true
unfolding ashore_fault
fault_fits l n e = not-false (ashore_fits l n) (cond_zero (not (ashore_fits l n)) 35 0 (omega arith) e).0

pub fits_fault : (l : List ℕ) (n : ℕ) → ashore_fits l n ≡ true → ashore_fault l n ≡ 0
unfolding ashore_fault
fits_fault l n e = rw e

-- THE LAWS HOLD
pub fit_of : (g : Graph) → value.Valid g → (l : List ℕ) → ashore_fits l g.n ≡ true → Fit (ashore l) (network g)
unfolding ashore_fits network
fit_of g v l e =
    let x = and_both (every_of (λ b. leb b 1) l) (not (ashore l 1) && leb 3 (active_count (ashore l) g.n)) e in
    let y = and_both (not (ashore l 1)) (leb 3 (active_count (ashore l) g.n)) x.1 in
    record { valid = network-valid g v; one = not-true (ashore l 1) y.0; three = leb-true 3 (active_count (ashore l) g.n) y.1 }

-- vertex 0, which is none, is not inactive
pub ashore_zero : (l : List ℕ) → ashore l 0 ≡ false
unfolding ashore
ashore_zero l = refl

-- a touched edge is one of the graph's
abbrev pub Inner : Ashore → Network → Type 0
Inner s g = (k : ℕ) → touched s g k ≡ true → k ∈ up_to g.m

module _ (g : Graph) (l : List ℕ) where
  nowhere : (k : ℕ) → (network g).a k ≡ 0 → (network g).b k ≡ 0 → touched (ashore l) (network g) k ≡ false
  nowhere k p q = ap₂ ◌||◌ (ap (ashore l) p ∙ ashore_zero l) (ap (ashore l) q ∙ ashore_zero l)

  pub inner_of : Inner (ashore l) (network g)
  inner_of zero e =
      absurd (true≢false (sym e ∙ nowhere zero (unfold network in place_zero 0 g.m g.a) (unfold network in place_zero 0 g.m g.b)))
  inner_of (suc k) e = go (dec_le (suc k) g.m)
    where
      go : Dec (suc k ≤ g.m) → suc k ∈ up_to (network g).m
      go (yes h) = unfold network in up_to_in g.m (suc k) (omega arith) h
      go (no h) =
          absurd (true≢false (sym e
          ∙ nowhere (suc k) (unfold network in place_past 0 g.m g.a k (omega arith))
          (unfold network in place_past 0 g.m g.b k (omega arith))))

-- ---- "the programs have none ashore"

pub none_ashore : (n v : ℕ) → ashore (replicate n 0) v ≡ false
unfolding ashore
none_ashore n zero = refl
none_ashore n (suc v) = ap (λ (b : ℕ). eqb b 1) (replicate-at n 0 v)

each_low : (n : ℕ) → every_of (λ b. leb b 1) (replicate n 0) ≡ true
unfolding every_of
each_low zero = refl
each_low (suc n) = each_low n

-- and 35 does not apply to it
pub none_fault : (n : ℕ) → 3 ≤ n → ashore_fault (replicate n 0) n ≡ 0
unfolding ashore_fits
none_fault n h =
    fits_fault (replicate n 0) n
    (rw (each_low n, none_ashore n 1, count_none (ashore (replicate n 0)) (none_ashore n) n, le-leb 3 n h))
