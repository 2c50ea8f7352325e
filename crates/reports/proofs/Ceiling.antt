-- The first eight bytes as std reads them: two halves, and two's complement.
use Rattle.std.proofs.Common.{◌≡◌, ℕ, suc, Bool, cond, pos, negsuc, ◌-◌, ◌<◌, List, ltb, get_or, take, arith, sym, ap, ◌∙◌, ltb-true, ltb-false, get_or-take, to_z}
use Rattle.std.proofs.Math.Facts.{to_z_pos, to_z-neg}
use Rattle.std.specs.Int.{w64, from_le_bytes}
use Rattle.lists.specs.Bools.{by_cases}
use Rattle.charts.specs.Chart.{u32_at}
use Rattle.reports.specs.Input.{u64_at, signed64, ceiling_of}

bits_are : (n : ℕ) → n < 18446744073709551616 → to_z w64 n ≡ signed64 n
unfolding signed64
bits_are n h =
    let choice = λ (b : Bool). cond b (pos n) (negsuc (18446744073709551615 - n)) in
    by_cases (ltb n 9223372036854775808)
    (λ t. to_z_pos w64 {n = n} (ltb-true n 9223372036854775808 t) ∙ sym (ap choice t))
    (λ t.
    let k : ℕ = 18446744073709551615 - n in
    let e : n ≡ 18446744073709551616 - suc k = omega (arith, ltb-false n 9223372036854775808 t) in
    ap (to_z w64) e ∙ to_z-neg w64 k (omega (arith, ltb-false n 9223372036854775808 t)) ∙ sym (ap choice t))

module _ (s : List ℕ) (bytes : (i : ℕ) → get_or s i 0 < 256) where
  first : (i : ℕ) → i < 8 → get_or (take 8 s) i 0 ≡ get_or s i 0
  first i h = get_or-take 8 s i 0 h

  eight_bytes : from_le_bytes w64 (take 8 s) ≡ u64_at s 0
  unfolding u64_at u32_at
  eight_bytes =
      omega (arith, first 0 (omega arith), first 1 (omega arith), first 2 (omega arith), first 3 (omega arith), first 4 (omega arith), first 5 (omega arith), first 6 (omega arith), first 7 (omega arith))

  u64_fits : u64_at s 0 < 18446744073709551616
  unfolding u64_at u32_at
  u64_fits = omega (arith, bytes 0, bytes 1, bytes 2, bytes 3, bytes 4, bytes 5, bytes 6, bytes 7)

  pub ceiling_is : to_z w64 (from_le_bytes w64 (take 8 s)) ≡ ceiling_of s
  unfolding ceiling_of
  ceiling_is = ap (to_z w64) eight_bytes ∙ bits_are (u64_at s 0) u64_fits
