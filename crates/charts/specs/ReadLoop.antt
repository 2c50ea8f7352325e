-- The loop of the reader: what it knows when it stands at record k, that it stays so, and what each of its answers then says.
-- Assumes nothing.
use Rattle.std.specs.Prelude.{ℕ, suc, ◌+◌, ◌-◌, ◌<◌, ◌≤◌, ◌≡◌, refl, Bool, false, List, length, set, replicate}
use Rattle.std.proofs.Common.{◌∙◌}
use Rattle.std.proofs.Math.Bool.{true}
use Rattle.std.proofs.Math.ListN.{length-set}
use Rattle.graph.specs.declared.Graph.{Graph}
use Rattle.graph.specs.Limits.{max_edges, max_records}
use Rattle.charts.specs.Chart.{vertices, chain_head, start_of, next_of, header_fault, record_fault, appended, with_record, accept, refuse, chain_from, chain}
use Rattle.graph.specs.Edgeless.{edgeless}
use Rattle.graph.specs.Refusals.{positive}
use Rattle.charts.specs.NoFault.{HeaderOk, header_ok, RecordOk, record_ok}
use Rattle.charts.specs.Appending.{Sound, sound-edgeless, record_room, sound_record}
use Rattle.charts.specs.ChainSteps.{at_end, at-fault, at-step}

pub record Reached (s : List ℕ) (met : List Bool) (g : Graph) (k : ℕ) : Type 0 where
  pub header : HeaderOk s
  pub small : k < 65536
  pub size : length met ≡ max_records
  pub sound : Sound g
  pub rest : chain s ≡ chain_from (suc max_edges - g.m) s met g k

pub reached_start : (s : List ℕ) (g : Graph) (k : ℕ) → header_fault s ≡ 0 → g ≡ edgeless (vertices s) → k ≡ chain_head s → k < 65536
    → Reached s (replicate max_records false) g k
unfolding chain edgeless
reached_start s g k h e q l =
    let o = header_ok s h in
    rw (e, q)
    (record {
      header = o;
      small = rw q at l;
      size = refl;
      sound = sound-edgeless (vertices s) o.low o.high;
      rest = refl;
    })

module _ (s : List ℕ) (met : List Bool) (g : Graph) (k : ℕ) (r : Reached s met g k) where
  few : g.m ≤ max_edges
  few = r.sound.valid.few

  pub reached_end : k ≡ 0 → chain s ≡ accept g
  reached_end e = r.rest ∙ at_end s met g k few e

  pub reached_fault : (k ≡ 0 → ⊥) → (record_fault s met g k ≡ 0 → ⊥) → chain s ≡ refuse (record_fault s met g k) k
  reached_fault n e = r.rest ∙ at-fault s met g k few n e

  -- where the record has no fault, its edge is taken
  pub record_fine : record_fault s met g k ≡ 0 → RecordOk s met g k
  record_fine e = record_ok s met g k e

  pub record_place : record_fault s met g k ≡ 0 → g.m < max_edges
  record_place e = record_room s met g k r.sound (record_fine e)

  pub taken_size : (g' : Graph) → g' ≡ with_record s g (start_of k) → g'.m ≡ g.m + 1
  unfolding with_record appended
  taken_size g' q = rw q

  pub reached_step : (g' : Graph) (k' : ℕ) → (k ≡ 0 → ⊥) → record_fault s met g k ≡ 0 → g' ≡ with_record s g (start_of k) → k' ≡ next_of s k
      → k' < 65536 → Reached s (set met (k - 1) true) g' k'
  unfolding with_record appended
  reached_step g' k' n e q t l =
      rw (q, t)
      (record {
        header = r.header;
        small = rw t at l;
        size = length-set met (k - 1) true ∙ r.size;
        sound = sound_record s met g k r.sound (record_fine e);
        rest = r.rest ∙ at-step s met g k few n e;
      })

-- for the code: where the loop stands, and what it then returns or takes
pub ruleset turns = (header_ok, positive, reached_start, reached_end, reached_fault, record_fine, record_place)
