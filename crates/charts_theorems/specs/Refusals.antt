-- Reading refuses with the first fault that applies, at its place, and reads only where there is none: each file has a verdict, and it
-- is what reading answers. So a file with two faults gets the earlier one, and the count in the definition of the chain never runs out.
-- Assumes nothing.
use Prim.Native.Nat.{ℕ, zero, suc, ◌+◌, ◌-◌}
use Rattle.std.specs.Prelude.{◌≡◌, Bool, true, false, List, set, replicate, eqb}
use Rattle.std.proofs.Common.{◌∙◌, arith}
use Rattle.std.proofs.Math.Path.{ap}
use Rattle.std.proofs.Math.Numerals.{add-one}
use borrow.Author.Tests.{eqb-true, eqb-false}
use Rattle.lists.specs.Bools.{by_cases}
use Rattle.graph.specs.declared.Graph.{Graph}
use Rattle.graph.specs.Limits.{max_edges, max_records}
use Rattle.charts.specs.Answers.{accepted, refused}
use Rattle.charts.specs.Chart.{vertices, chain_head, start_of, next_of, header_fault, record_fault, with_record, ReadResult, accept, refuse, chain_from, chain, reading}
use Rattle.graph.specs.Edgeless.{edgeless}
use Rattle.charts.specs.NoFault.{HeaderOk, header_ok, record_ok}
use Rattle.charts_theorems.specs.Along.{above, link, link-first, link-next}
use Rattle.charts_theorems.specs.WritersForm.{taken-size, start_size}
use Rattle.charts_theorems.specs.FirstFault.{Refusal, in_header, in_record, Faultless}
use Rattle.charts_theorems.specs.HeaderRefusals.{header_fine, header_refusal}
use Rattle.charts_theorems.specs.RecordRefusals.{Track, track_start, record_refusal, track_more}

-- what a result says of its file
pub data Verdict (s : List ℕ) : ReadResult → Type 0 where
  read : (g : Graph) → Faultless s → Verdict s (accept g)
  refuses : (e p : ℕ) → Refusal s e p → Verdict s (refuse e p)

module _ (s : List ℕ) (h : HeaderOk s) where
  walk : (f : ℕ) (met : List Bool) (g : Graph) → f + g.m ≡ suc max_edges → Track s met g → Verdict s (chain_from f s met g (link s g.m))
  unfolding chain_from
  walk zero met g e t = absurd (omega (arith, t.sound.valid.few))
  walk (suc f) met g e t =
      let k = link s g.m in
      by_cases (eqb k 0)
      (λ c. rw c (read g (record { header = header_fine s h; size = g.m; records = t.fine; ends = eqb-true k 0 c })))
      (λ c. let n = eqb-false k 0 c in
      let o = above k n in
      by_cases (eqb (record_fault s met g k) 0)
      (λ d. let fine = record_ok s met g k (eqb-true (record_fault s met g k) 0 d) in
      let g' = with_record s g (start_of k) in
      let q : link s g'.m ≡ next_of s k = ap (link s) (taken-size s g (start_of k) ∙ add-one g.m) ∙ link-next s g.m n in
      rw (c, d, ← q) (walk f (set met (k - 1) true) g' (omega (arith, taken-size s g (start_of k))) (track_more s met g t o h fine)))
      (λ d. rw (c, d)
      (refuses (record_fault s met g k) k
      (in_record g.m (record_fault s met g k) (header_fine s h) t.fine o
      (record_refusal s met g t o (eqb-false (record_fault s met g k) 0 d))))))

-- Each file has a verdict.
pub verdict : (s : List ℕ) → Verdict s (reading s)
unfolding reading chain
verdict s =
    by_cases (eqb (header_fault s) 0)
    (λ t. let h = header_ok s (eqb-true (header_fault s) 0 t) in
    let n = vertices s in
    let q : link s (edgeless n).m ≡ chain_head s = ap (link s) (start_size n) ∙ link-first s in
    rw (t, ← q) (walk s h (suc max_edges) (replicate max_records false) (edgeless n) (omega (arith, start_size n)) (track_start s h)))
    (λ t. rw t (refuses (header_fault s) 0 (in_header (header_fault s) (header_refusal s (eqb-false (header_fault s) 0 t)))))

-- ---- in words of the outcome

refusal_of : (s : List ℕ) (r : ReadResult) (e p : ℕ) → Verdict s r → r.outcome ≡ refused e p → Refusal s e p
unfolding accept refuse
refusal_of s r e p (read g f) q = absurd (let z : ◌≡◌ {A = ℕ} 0 1 = cc in omega arith)
refusal_of s r e p (refuses e' p' x) q =
    let u : e' ≡ e = cc in
    let v : p' ≡ p = cc in
    rw (← u, ← v) x

fine_of : (s : List ℕ) (r : ReadResult) → Verdict s r → r.outcome ≡ accepted → Faultless s
unfolding accept refuse
fine_of s r (read g f) q = f
fine_of s r (refuses e p x) q = absurd (let z : ◌≡◌ {A = ℕ} 0 1 = cc in omega arith)

-- A number and place given are those of the first fault.
pub refused-first : (s : List ℕ) (e p : ℕ) → (reading s).outcome ≡ refused e p → Refusal s e p
refused-first s e p q = refusal_of s (reading s) e p (verdict s) q

-- What is read has no fault.
pub accepted_faultless : (s : List ℕ) → (reading s).outcome ≡ accepted → Faultless s
accepted_faultless s q = fine_of s (reading s) (verdict s) q
