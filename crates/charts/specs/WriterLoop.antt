-- The writer's loop: after k records the list starts with the header and these. Assumes nothing.
use Rattle.std.specs.Prelude.{ℕ, ◌+◌, ◌≡◌, refl, List, ◌++◌, take}
use Rattle.std.proofs.Common.{sym, ◌∙◌, ap, append_assoc, add-one}
use Rattle.graph.specs.declared.Graph.{Graph}
use Rattle.charts.specs.Chart.{header_bytes, record_bytes, records_bytes}

pub write_start : (n m : ℕ) (g : Graph) (rest : List ℕ) → take 8 (header_bytes n m ++ rest) ≡ header_bytes n m ++ records_bytes g 0
unfolding header_bytes records_bytes
write_start n m g rest = refl

-- a record after those before it
pub write_step : (h : List ℕ) (g : Graph) (k : ℕ) → (h ++ records_bytes g k) ++ record_bytes g k ≡ h ++ records_bytes g (k + 1)
unfolding records_bytes
write_step h g k =
    append_assoc h (records_bytes g k) (record_bytes g k) ∙ ap (λ (i : ℕ). h ++ records_bytes g i) (sym (add-one k))
