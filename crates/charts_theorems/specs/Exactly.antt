-- Reading is what FirstFault.antt says, and no more is to be known of it: a number and place are given exactly where they are those of the
-- first fault, and a file is read exactly where it has none. Assumes nothing.
use Rattle.std.specs.Prelude.{ℕ, zero, suc, ◌+◌, ◌-◌, ◌<◌, ◌≡◌, Bool, true, false, List, ◌↔◌, set, replicate}
use Rattle.std.proofs.Common.{sym, ◌∙◌, arith, add-one, ne_eqb}
use Rattle.std.proofs.Math.Path.{ap}
use Rattle.graph.specs.declared.Graph.{Graph}
use Rattle.graph.specs.Limits.{max_edges, max_records}
use Rattle.charts.specs.Answers.{Outcome, accepted, refused}
use Rattle.charts.specs.Chart.{vertices, chain_head, start_of, next_of, with_record, accept, refuse, chain_from, chain, reading}
use Rattle.graph.specs.Edgeless.{edgeless}
use Rattle.charts.specs.NoFault.{HeaderOk}
use Rattle.charts.specs.ChainSteps.{chain_end, chain-fault, chain-step}
use Rattle.charts_theorems.specs.FromFacts.{header_none, record_none}
use Rattle.charts_theorems.specs.Along.{link, link-first, link-next}
use Rattle.charts_theorems.specs.WritersForm.{taken-size, start_size}
use Rattle.charts_theorems.specs.FirstFault.{
  HeaderRefusal,
  one,
  two,
  three,
  four,
  RecordRefusal,
  five,
  six,
  seven,
  eight,
  nine,
  ten,
  RecordFine,
  Refusal,
  in_header,
  in_record,
  Faultless,
}
use Rattle.charts_theorems.specs.HeaderRefusals.{fine_header, header_given}
use Rattle.charts_theorems.specs.RecordRefusals.{Track, track_start, track_more, record_given, fine_record}
use Rattle.charts_theorems.specs.Refusals.{refused-first, accepted_faultless}

positive : (k : ℕ) → 0 < k → k ≡ 0 → ⊥
positive k l e = omega arith

-- the chain goes through the records that are fine, and ends as `last` says
module _ (s : List ℕ) (h : HeaderOk s) (j : ℕ) (o : Outcome) (fine : (i : ℕ) → i < j → RecordFine s i)
    (last : (f : ℕ) (met : List Bool) (g : Graph) → g.m ≡ j → Track s met g
    → (chain_from (suc f) s met g (link s g.m)).outcome ≡ o) where
  walk : (f d : ℕ) (met : List Bool) (g : Graph) → d + g.m ≡ j → f + g.m ≡ suc max_edges → Track s met g
      → (chain_from f s met g (link s g.m)).outcome ≡ o
  walk zero d met g q e t = absurd (omega (arith, t.sound.valid.few))
  walk (suc f) zero met g q e t = last f met g (omega arith) t
  walk (suc f) (suc d) met g q e t =
      let k = link s g.m in
      let x = fine g.m (omega arith) in
      let r = fine_record s met g t x.on x in
      let n = positive k x.on in
      let g' = with_record s g (start_of k) in
      let next : link s g'.m ≡ next_of s k = ap (link s) (taken-size s g (start_of k) ∙ add-one g.m) ∙ link-next s g.m n in
      rw (chain-step s met g k f n (record_none s met g k r), ← next)
      (walk f d (set met (k - 1) true) g' (omega (arith, taken-size s g (start_of k))) (omega (arith, taken-size s g (start_of k)))
      (track_more s met g t x.on h r))

  whole : (reading s).outcome ≡ o
  unfolding reading chain
  whole =
      let n = vertices s in
      let start : link s (edgeless n).m ≡ chain_head s = ap (link s) (start_size n) ∙ link-first s in
      rw (header_none s h, ← start)
      (walk (suc max_edges) j (replicate max_records false) (edgeless n) (omega (arith, start_size n)) (omega (arith, start_size n))
      (track_start s h))

above_zero : (s : List ℕ) (e : ℕ) → HeaderRefusal s e → e ≡ 0 → ⊥
above_zero s e (one l) q = omega arith
above_zero s e (two l n) q = omega arith
above_zero s e (three l v n) q = omega arith
above_zero s e (four l v z n) q = omega arith

above_none : (s : List ℕ) (j e : ℕ) → RecordRefusal s j e → e ≡ 0 → ⊥
above_none s j e (five a) q = omega arith
above_none s j e (six u m) q = omega arith
above_none s j e (seven u f n) q = omega arith
above_none s j e (eight u f x n) q = omega arith
above_none s j e (nine u f x y n) q = omega arith
above_none s j e (ten u f x y z r) q = omega arith

first-refused : (s : List ℕ) (e p : ℕ) → Refusal s e p → (reading s).outcome ≡ refused e p
unfolding reading refuse
first-refused s e p (in_header e' x) = rw (header_given s e' x, ne_eqb e' 0 (above_zero s e' x))
first-refused s e p (in_record j e' h fine l x) =
    whole s (fine_header s h) j (refused e' (link s j)) fine
    (λ f met g q t.
    let y : RecordRefusal s g.m e' = rw q x in
    let o : 0 < link s g.m = rw q l in
    let v = record_given s met g t o e' y in
    rw (chain-fault s met g (link s g.m) f (positive (link s g.m) o) (λ z. above_none s g.m e' y (sym v ∙ z)), v, q))

faultless_accepted : (s : List ℕ) → Faultless s → (reading s).outcome ≡ accepted
unfolding accept
faultless_accepted s w =
    whole s (fine_header s w.header) w.size accepted w.records
    (λ f met g q t. let z : link s g.m ≡ 0 = rw q w.ends in rw (chain_end s met g (link s g.m) f z))

-- A file is refused with a number and a place exactly where these are those of its first fault.
pub refused_exactly : (s : List ℕ) (e p : ℕ) → ((reading s).outcome ≡ refused e p) ↔ Refusal s e p
refused_exactly s e p = (refused-first s e p, first-refused s e p)

-- A file is read exactly where it has no fault.
pub accepted_exactly : (s : List ℕ) → ((reading s).outcome ≡ accepted) ↔ Faultless s
accepted_exactly s = (accepted_faultless s, faultless_accepted s)
