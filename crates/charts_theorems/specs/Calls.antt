-- The theorems of RoundTrip.antt and WritersForm.antt in words of the calls: of what `write` leaves in the list lent to it, and of what
-- `read` gives. Assumes nothing.
use Rattle.std.specs.Prelude.{ℕ, ◌≡◌, List, ◌↔◌, length, eqb}
use Rattle.std.proofs.Common.{arith, eqb-true, eq-eqb}
use Rattle.lists.specs.Bools.{by_cases}
use Rattle.graph.specs.declared.Graph.{Graph}
use Rattle.graph.specs.Valid.{Valid}
use Rattle.charts.specs.Answers.{accepted, refused}
use Rattle.charts.specs.Chart.{size_of, reading, file_bytes, write_fault, write_outcome, write_leaves}
use Rattle.graph.specs.Meaning.{true_valid}
use Rattle.charts.specs.NoFault.{write_ok}
use Rattle.charts_theorems.specs.RoundTrip.{ReadBack, read_written}
use Rattle.charts_theorems.specs.WhatIsRead.{read_valid}
use Rattle.charts_theorems.specs.WritersForm.{WritersForm, Bytes, exactly}

accepted_fault : (g : Graph) (len : ℕ) → write_outcome g len ≡ accepted → write_fault g len ≡ 0
unfolding write_outcome
accepted_fault g len h =
    by_cases (eqb (write_fault g len) 0) (λ t. eqb-true (write_fault g len) 0 t)
    (λ t. let q : refused (write_fault g len) 0 ≡ accepted = (rw t at h) in
    absurd (let z : ◌≡◌ {A = ℕ} 0 1 = cc in omega arith))

leaves : (g : Graph) (out : List ℕ) → Valid g → length out ≡ size_of g.m → write_leaves g out ≡ file_bytes g
unfolding write_leaves write_fault
leaves g out v e = rw (true_valid g v, eq-eqb (length out) (size_of g.m) e)

-- "A chart written and read back is the same chart": whenever `write` accepts.
pub write_then_read : (g : Graph) (out : List ℕ) → write_outcome g (length out) ≡ accepted → ReadBack g (write_leaves g out)
write_then_read g out h =
    let o = write_ok g (length out) (accepted_fault g (length out) h) in
    rw (leaves g out o.0 o.1) (read_written g o.0)

-- "Reading then writing gives the same bytes exactly when the file has the writer's form."
pub read_then_write : (s out : List ℕ) → Bytes s → (reading s).outcome ≡ accepted → length out ≡ size_of (reading s).graph.m
    → (write_leaves (reading s).graph out ≡ s) ↔ WritersForm s
read_then_write s out y e l = rw (leaves (reading s).graph out (read_valid s e) l) (exactly s y e)
