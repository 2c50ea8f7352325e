-- What was read is all that the reader has, or has as many of its first bytes as tell a program all.
use Rattle.std.proofs.Common.{◌≡◌, ℕ, ℤ, ◌<◌, ◌≤◌, List, ◌++◌, Option, None, Some, IfSome, length, take, ltb, sym, ap, ◌∙◌, arith, append-nil, ltb-true, ltb-false, length-take-le}
use Rattle.std.specs.Io.KnownBytes.{Consumes, IsAtEnd}
use Rattle.lists.specs.Bools.{by_cases}
use lib.Seq.{take-append-le}
use Rattle.graph.specs.declared.Graph.{Graph}
use Rattle.reports.specs.Input.{printed}
use Rattle.reports.specs.Longest.{enough, first-bytes}

module _ (text : ℤ → Graph → List ℕ) where
  -- two inputs with the same first bytes
  same_first : (s rest : List ℕ) → enough ≤ length s → printed text s ≡ printed text (s ++ rest)
  same_first s rest h =
      sym (first-bytes text s) ∙ ap (printed text) (sym (take-append-le enough s rest h)) ∙ first-bytes text (s ++ rest)

  pub whole_input : (a b : Option (List ℕ)) (buf : List ℕ) (n : ℕ) → n ≤ length buf → enough ≤ length buf
      → Consumes a b (take n buf) → (n < length buf → IsAtEnd b)
      → IfSome a (λ all. printed text (take n buf) ≡ printed text all)
  whole_input None b buf n fits room read end = tt
  whole_input (Some all) None buf n fits room read end = absurd read
  whole_input (Some all) (Some rest) buf n fits room read end =
      by_cases (ltb n (length buf))
      (λ t. ap (printed text)
      (sym (append-nil (take n buf)) ∙ ap (λ l. take n buf ++ l) (sym (end (ltb-true n (length buf) t))) ∙ sym read))
      (λ t. same_first (take n buf) rest (omega (arith, length-take-le n buf fits, ltb-false n (length buf) t)) ∙ ap (printed text) (sym read))
