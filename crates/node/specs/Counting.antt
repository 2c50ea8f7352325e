-- The test of a tree's degrees, which crate tours' Counted counts: 2 at each vertex. Assumes nothing.
use Rattle.std.specs.Prelude.{◌≡◌, List, ℕ, zero, suc, ◌+◌, ◌-◌, ◌≤◌, ◌<◌, length, get_or, All, slice_range, take, drop}
use Rattle.std.proofs.Common.{refl, sym, ap, ◌∙◌, arith, length-take, length-drop, get_or-take}
use Rattle.std.proofs.lemmas.Grind.{get_or_after_one}
use Rattle.std.proofs.lemmas.List.Elements.{All-get_or, All-from_get_or}
use Rattle.lists.specs.Members.{◌∈◌}
use Rattle.lists.specs.Numbers.{up_to, in_up_to}

-- the degrees of vertices 1 to n are 2
abbrev pub AllTwo : List ℕ → ℕ → Type 0
AllTwo degrees n = All (λ (d : ℕ). d ≡ 2) (slice_range degrees 1 (n + 1))

module _ (degrees : List ℕ) (n : ℕ) (room : n < length degrees) where
  part-is : slice_range degrees 1 (n + 1) ≡ take n (drop 1 degrees)
  part-is = let e : (n + 1) - 1 ≡ n = omega arith in rw e refl

  part-at : (i : ℕ) → i < n → get_or (slice_range degrees 1 (n + 1)) i 0 ≡ get_or degrees (suc i) 0
  part-at i h =
      ap (λ (l : List ℕ). get_or l i 0) part-is
      ∙ get_or-take n (drop 1 degrees) i 0 h ∙ get_or_after_one degrees i 0 ∙ ap (λ (k : ℕ). get_or degrees k 0) (omega arith)

  part-size : length (slice_range degrees 1 (n + 1)) ≡ n
  part-size = omega (arith, ap {A = List ℕ} length part-is, length-take n (drop 1 degrees), length-drop 1 degrees)

  pub two-each : AllTwo degrees n → (v : ℕ) → v ∈ up_to n → get_or degrees v 0 ≡ 2
  two-each h zero m = absurd (let z : 1 ≤ 0 = (in_up_to n zero m).0 in omega arith)
  two-each h (suc i) m =
      let b : i < n = (in_up_to n (suc i) m).1 in
      sym (part-at i b) ∙ All-get_or (λ d. d ≡ 2) (slice_range degrees 1 (n + 1)) i 0 (omega (arith, part-size)) h

  pub all_two : ((v : ℕ) → 1 ≤ v → v ≤ n → get_or degrees v 0 ≡ 2) → AllTwo degrees n
  all_two h =
      All-from_get_or (λ d. d ≡ 2) (slice_range degrees 1 (n + 1)) 0
      (λ i b. let c : i < n = omega (arith, part-size) in part-at i c ∙ h (suc i) (omega arith) c)
