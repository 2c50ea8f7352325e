-- An accepted reading, taken apart: the header has no fault, each turn of the chain took the edge of a record without one. So what is read
-- is valid, and zero past its edges. Assumes nothing.
use Rattle.std.specs.Prelude.{ℕ, zero, suc, ◌+◌, ◌-◌, ◌≤◌, ◌≡◌, refl, Bool, true, false, List, ◌⊎◌, get_or, set, replicate, eqb, pos}
use Rattle.std.proofs.Common.{◌∙◌, ap, inl, inr, ⊎_elim, arith, get_or-set_other, eqb-true}
use Rattle.std.proofs.lemmas.Bool.{eqb-false}
use Rattle.lists.specs.Bools.{by_cases}
use Rattle.graph.specs.declared.Graph.{Graph}
use Rattle.graph.specs.Limits.{min_vertices, max_vertices, max_edges, max_records}
use Rattle.graph.specs.Valid.{Valid}
use Rattle.graph.specs.Same.{Clear}
use Rattle.charts.specs.Answers.{accepted, refused}
use Rattle.charts.specs.Chart.{vertices, chain_head, start_of, cost_at, next_of, header_fault, record_fault, appended, with_record, ReadResult, accept, refuse, chain_from, chain, reading}
use Rattle.graph.specs.Edgeless.{edgeless}
use Rattle.charts.specs.NoFault.{header_ok, record_ok}
use Rattle.charts.specs.Appending.{Sound, sound-edgeless, sound_record}
use Rattle.lists.specs.Fill.{replicate-at}

-- ---- one turn

pub accepted_is : (r : ReadResult) → r.outcome ≡ accepted → r ≡ accept r.graph
unfolding accept
accepted_is r e = λ i. record { graph = r.graph; outcome = e i }

pub clash : (e p : ℕ) (g : Graph) → refuse e p ≡ accept g → ⊥
unfolding refuse accept
clash e p g h =
    let q : refused e p ≡ accepted = ap (λ (r : ReadResult). r.outcome) h in
    let z : ◌≡◌ {A = ℕ} 0 1 = cc in
    omega arith

inside : (g h : Graph) → accept g ≡ accept h → g ≡ h
unfolding accept
inside g h e = ap (λ (r : ReadResult). r.graph) e

pub read_split : (s : List ℕ) (g : Graph) → reading s ≡ accept g → (header_fault s ≡ 0) × (chain s ≡ accept g)
unfolding reading
read_split s g h =
    by_cases (eqb (header_fault s) 0) (λ t. (eqb-true (header_fault s) 0 t, (rw t at h)))
    (λ t. absurd (clash (header_fault s) 0 g (rw t at h)))

-- the chain has ended, or record k had no fault and its edge was taken
pub record OneRecord (f : ℕ) (s : List ℕ) (met : List Bool) (h : Graph) (k : ℕ) (g : Graph) : Type 0 where
  pub on : k ≡ 0 → ⊥
  pub none : record_fault s met h k ≡ 0
  pub rest : chain_from f s (set met (k - 1) true) (with_record s h (start_of k)) (next_of s k) ≡ accept g

pub chain_split : (f : ℕ) (s : List ℕ) (met : List Bool) (h : Graph) (k : ℕ) (g : Graph) → chain_from (suc f) s met h k ≡ accept g
    → ((k ≡ 0) × (h ≡ g)) ⊎ OneRecord f s met h k g
unfolding chain_from
chain_split f s met h k g e =
    by_cases (eqb k 0) (λ t. inl (eqb-true k 0 t, inside h g (rw t at e)))
    (λ t. by_cases (eqb (record_fault s met h k) 0)
    (λ u. inr (record { on = eqb-false k 0 t; none = eqb-true (record_fault s met h k) 0 u; rest = rw (t, u) at e }))
    (λ u. absurd (clash (record_fault s met h k) k g (rw (t, u) at e))))

pub no_fuel : (s : List ℕ) (met : List Bool) (h : Graph) (k : ℕ) (g : Graph) → chain_from 0 s met h k ≡ accept g → ⊥
unfolding chain_from
no_fuel s met h k g e = clash 0 0 g e

-- ---- what holds all along the chain

pub record Good (n : ℕ) (g : Graph) : Type 0 where
  pub sound : Sound g
  pub clear : Clear g
  pub size : g.n ≡ n

clear_edgeless : (n : ℕ) → Clear (edgeless n)
unfolding edgeless
clear_edgeless n =
    record {
      a = λ k l. replicate-at max_edges 0 k;
      b = λ k l. replicate-at max_edges 0 k;
      cost = λ k l. replicate-at max_edges (pos 0) k;
      mark = λ k l. replicate-at max_edges 0 k;
    }

clear_record : (s : List ℕ) (h : Graph) (p : ℕ) → Clear h → Clear (with_record s h p)
unfolding with_record appended
clear_record s h p c =
    record {
      a = λ k l. get_or-set_other h.a h.m k (get_or s p 0) 0 (λ e. omega arith) ∙ c.a k (omega arith);
      b = λ k l. get_or-set_other h.b h.m k (get_or s (p + 1) 0) 0 (λ e. omega arith) ∙ c.b k (omega arith);
      cost = λ k l. get_or-set_other h.cost h.m k (cost_at s p) (pos 0) (λ e. omega arith) ∙ c.cost k (omega arith);
      mark = λ k l. get_or-set_other h.mark h.m k (get_or s (p + 2) 0) 0 (λ e. omega arith) ∙ c.mark k (omega arith);
    }

good_start : (n : ℕ) → min_vertices ≤ n → n ≤ max_vertices → Good n (edgeless n)
unfolding edgeless
good_start n low high = record { sound = sound-edgeless n low high; clear = clear_edgeless n; size = refl }

good_record : (s : List ℕ) (met : List Bool) (h : Graph) (n k : ℕ) → Good n h → record_fault s met h k ≡ 0
    → Good n (with_record s h (start_of k))
unfolding with_record appended
good_record s met h n k o e =
    record {
      sound = sound_record s met h k o.sound (record_ok s met h k e);
      clear = clear_record s h (start_of k) o.clear;
      size = o.size;
    }

good_chain : (f : ℕ) (s : List ℕ) (met : List Bool) (h : Graph) (k : ℕ) (g : Graph) (n : ℕ) → Good n h → chain_from f s met h k ≡ accept g
    → Good n g
good_chain zero s met h k g n o e = absurd (no_fuel s met h k g e)
good_chain (suc f) s met h k g n o e =
    ⊎_elim (λ w. rw w.1 at o)
    (λ w. good_chain f s (set met (k - 1) true) (with_record s h (start_of k)) (next_of s k) g n (good_record s met h n k o w.none)
    w.rest)
    (chain_split f s met h k g e)

pub read_good : (s : List ℕ) (g : Graph) → reading s ≡ accept g → Good (vertices s) g
unfolding chain
read_good s g h =
    let p = read_split s g h in
    let o = header_ok s p.0 in
    good_chain (suc max_edges) s (replicate max_records false) (edgeless (vertices s)) (chain_head s) g (vertices s)
    (good_start (vertices s) o.low o.high) p.1

-- What is read is valid.
pub read_valid : (s : List ℕ) → (reading s).outcome ≡ accepted → Valid (reading s).graph
read_valid s e = (read_good s (reading s).graph (accepted_is (reading s) e)).sound.valid

-- Nothing is left past its edges.
pub read_clear : (s : List ℕ) → (reading s).outcome ≡ accepted → Clear (reading s).graph
read_clear s e = (read_good s (reading s).graph (accepted_is (reading s) e)).clear
