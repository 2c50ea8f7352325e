-- std prints the numbers of 64 bits as `decimal` says. Assumes nothing.
use Rattle.std.specs.Prelude.{ℕ, ◌<◌, ◌≡◌, ◌^◌, ◌%◌, suc, ℤ, pos, negsuc, ◌++◌, ◌∷◌}
use Rattle.std.proofs.Common.{arith, sym, ap, ◌∙◌}
use Rattle.std.specs.Int.Signed.{mag}
use Rattle.std.specs.Fmt as std
use Rattle.std.proofs.lemmas.Fmt.{decimal_by_steps}
use Rattle.reports.specs.Decimal.{decimal, signed_decimal, digit, decimal_digit, decimal-more}

pub decimal_is : (n : ℕ) → n < 2 ^ 64 → std.decimal n ≡ decimal n
decimal_is =
    decimal_by_steps (λ n ds. ds ≡ decimal n) (λ n h. sym (decimal_digit n h))
    (λ n ds h e. ap (λ l. l ++ digit (n % 10)) e ∙ sym (decimal-more n h))

pub signed_decimal_is : (z : ℤ) → mag z < 2 ^ 63 → std.signed_decimal z ≡ signed_decimal z
unfolding signed_decimal
signed_decimal_is (pos n) h = decimal_is n (omega arith)
signed_decimal_is (negsuc n) h = ap (λ l. 45 ∷ l) (decimal_is (suc n) (omega arith))
