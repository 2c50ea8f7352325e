-- How long numbers, words and lines are as printed. Assumes nothing.
use Rattle.std.specs.Prelude.{ℕ, zero, suc, ◌+◌, ◌-◌, ◌*◌, ◌/◌, ◌%◌, ◌^◌, ◌<◌, ◌≤◌, ◌≡◌, refl, true, false, ltb, length, get_or, ℤ, pos, negsuc, nat_abs}
use Rattle.std.proofs.Common.{◌∙◌, ap, true≢false, arith, pow-suc, length-append, ltb-true, ltb-false}
use Rattle.std.specs.Int.Signed.{lt_z, mag}
use Rattle.lists.specs.Bools.{by_cases}
use Rattle.integers.specs.Parts.{dn}
use Rattle.graph.specs.declared.Graph.{Graph}
use Rattle.graph.specs.Valid.{Valid}
use Rattle.reports.specs.Decimal.{digit, decimal, signed_decimal, decimal_digit, decimal-more}
use Rattle.reports.specs.Text.{ascii, ruling_word, edge_line}

-- ---- numbers

tenth : (n p : ℕ) → n < p * 10 → n / 10 < p
tenth n p h = omega arith

pub length-digit : (n : ℕ) → n < 10 → length (decimal n) ≡ 1
length-digit n h = ap length (decimal_digit n h)

pub length_more : (n : ℕ) → 10 ≤ n → length (decimal n) ≡ length (decimal (n / 10)) + 1
length_more n h = ap length (decimal-more n h) ∙ length-append (decimal (n / 10)) (digit (n % 10))

-- a number below 10^(k+1) has at most k + 1 digits
pub decimal-length : (k n : ℕ) → n < 10 ^ suc k → length (decimal n) ≤ suc k
decimal-length zero n b = omega (arith, length-digit n b)
decimal-length (suc k) n b =
    by_cases (ltb n 10)
    (λ t. omega (arith, length-digit n (ltb-true n 10 t)))
    (λ t. omega (
      arith,
      length_more n (ltb-false n 10 t),
      decimal-length k (n / 10) (tenth n (10 ^ suc k) (rw pow-suc at b)),
    ))

pub length_positive : (z : ℤ) → lt_z z (pos 0) ≡ false → length (signed_decimal z) ≡ length (decimal (nat_abs z))
unfolding signed_decimal
length_positive (pos n) h = refl
length_positive (negsuc n) h = absurd (true≢false h)

pub length_negative : (z : ℤ) → lt_z z (pos 0) ≡ true → length (signed_decimal z) ≡ 1 + length (decimal (nat_abs z))
unfolding signed_decimal
length_negative (pos n) h = absurd (let b : n < 0 = ltb-true n 0 h in omega arith)
length_negative (negsuc n) h = omega arith

-- a signed number of 64 bits has at most 20 characters
pub signed_length : (z : ℤ) → mag z < 9223372036854775808 → length (signed_decimal z) ≤ 20
unfolding signed_decimal
signed_length (pos n) h = omega (arith, decimal-length 18 n (omega arith))
signed_length (negsuc n) h = omega (arith, decimal-length 18 (suc n) (omega arith))

-- a negative number's magnitude, in 64 bits
pub abs_negative : (z : ℤ) → lt_z z (pos 0) ≡ true → mag z < 9223372036854775808
    → (1 + (dn z - 1) ≡ nat_abs z) × (dn z - 1 < 9223372036854775808)
abs_negative (pos n) h m = absurd (let q : n < 0 = ltb-true n 0 h in omega arith)
abs_negative (negsuc n) h m = (omega arith, omega arith)

pub abs_fits : (z : ℤ) → mag z < 9223372036854775808 → nat_abs z ≤ 9223372036854775808
abs_fits (pos n) h = omega arith
abs_fits (negsuc n) h = omega arith

-- ---- words

pub word-length : (ruling : ℕ) → length (ruling_word ruling) ≤ 8
unfolding ruling_word
word-length zero = omega arith
word-length (suc zero) = omega arith
word-length (suc (suc zero)) = omega arith
word-length (suc (suc (suc zero))) = omega arith
word-length (suc (suc (suc (suc k)))) = omega arith

-- a ruling that is none of the others
pub last_word : (ruling : ℕ) → (ruling ≡ 0 → ⊥) → (ruling ≡ 1 → ⊥) → (ruling ≡ 2 → ⊥) → (ruling ≡ 3 → ⊥)
    → ruling_word ruling ≡ ascii "struck"
unfolding ruling_word
last_word zero keep force bar required = absurd (keep refl)
last_word (suc zero) keep force bar required = absurd (force refl)
last_word (suc (suc zero)) keep force bar required = absurd (bar refl)
last_word (suc (suc (suc zero))) keep force bar required = absurd (required refl)
last_word (suc (suc (suc (suc k)))) keep force bar required = refl

-- ---- lines

-- an edge's line: its numbers, a word of at most 8 bytes, and four bytes between and after them
abbrev pub edge_size : ℕ → ℕ → ℕ → ℕ
edge_size k a b = length (decimal k) + length (decimal a) + length (decimal b) + 12

-- it is at most 21 bytes
pub edge_size_lem : (k a b : ℕ) → k < 1000 → a < 1000 → b < 1000 → edge_size k a b ≤ 21
edge_size_lem k a b hk ha hb = omega (arith, decimal-length 2 k hk, decimal-length 2 a ha, decimal-length 2 b hb)

pub edge_length : (k a b ruling : ℕ) → length (edge_line k a b ruling) ≤ edge_size k a b
unfolding edge_line
edge_length k a b ruling = simp length-append (omega (arith, word-length ruling))

module _ (g : Graph) (v : Valid g) (k : ℕ) (h : k < g.m) where
  -- the room that the line of edge k + 1 asks
  pub line_room : edge_size (k + 1) (get_or g.a k 0) (get_or g.b k 0) ≤ 21
  line_room =
      let e = v.each k h in
      edge_size_lem (k + 1) (get_or g.a k 0) (get_or g.b k 0) (omega (arith, v.few)) (omega (arith, e.less, e.to, v.high))
      (omega (arith, e.to, v.high))

  -- and where it ends
  pub line_ends : {i : ℕ} (w : ℕ) → i ≤ 56 + 21 * k
      → i + length (edge_line (k + 1) (get_or g.a k 0) (get_or g.b k 0) w) ≤ 56 + 21 * (k + 1)
  line_ends w b = omega (arith, line_room, edge_length (k + 1) (get_or g.a k 0) (get_or g.b k 0) w)

-- a refusal's number and place, of 32 and 64 bits
pub refused-room : (number place : ℕ) → number < 4294967296 → place < 18446744073709551616
    → length (decimal number) + length (decimal place) ≤ 40
refused-room number place h k =
    omega (arith, decimal-length 9 number (omega arith), decimal-length 19 place (omega arith))

-- a bound and a ceiling, of 64 bits each
pub bound-room : (bound ceiling : ℤ) → mag bound < 9223372036854775808 → mag ceiling < 9223372036854775808
    → length (signed_decimal bound) + length (signed_decimal ceiling) ≤ 40
bound-room bound ceiling h k = omega (arith, signed_length bound h, signed_length ceiling k)
