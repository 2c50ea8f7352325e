-- "Reading then writing gives the same bytes exactly when the file has the writer's form." One way: the writer's bytes have the form. The
-- other: the chain of a file in that form goes through records 1, 2, … in turn, so that each edge is that of the record with its number,
-- and every byte is one that the writer writes. Assumes nothing.
use Prim.Native.Nat.{ℕ, zero, suc, ◌+◌, ◌-◌, ◌/◌, ◌%◌, ◌<◌, ◌≤◌}
use Rattle.std.specs.Prelude.{◌≡◌, refl, Bool, true, false, List, ◌∷◌, ◌++◌, ◌↔◌, length, get_or, set, replicate, take, drop, pos}
use Rattle.std.proofs.Math.Path.{sym, ap}
use Rattle.std.proofs.Common.{◌∙◌, subst, append_assoc, append-nil, ⊎_elim, add-one, drop-cons, below_more}
use native.Mathlib.Omega.{arith}
use Rattle.std.proofs.Math.Seq.{get_or-set_same, get_or-set_other, take-add, take_all}
use Rattle.graph.specs.declared.Graph.{Graph}
use Rattle.graph.specs.Limits.{max_edges, max_records}
use Rattle.graph.specs.Valid.{Valid}
use Rattle.charts.specs.Answers.{accepted}
use Rattle.charts.specs.Chart.{u16_at, u32_at, bits_of, vertices, chain_head, record_count, size_of, start_of, cost_at, next_of, record_fault, appended, with_record, accept, chain_from, chain, reading, after, header_bytes, record_bytes, records_bytes, file_bytes}
use Rattle.graph.specs.Edgeless.{edgeless}
use Rattle.charts.specs.NoFault.{HeaderOk, header_ok, BodyOk, RecordOk, record_ok}
use Rattle.charts.specs.Appending.{Sound, sound-edgeless, record_room, sound_record}
use Rattle.charts_theorems.specs.Digits.{split2, split4, bits_signed}
use Rattle.charts_theorems.specs.Written.{after_low, after-top, start_suc, head_written, count_written, next_written}
use Rattle.charts_theorems.specs.WhatIsRead.{accepted_is, read_split, chain_split, no_fuel, read_good}

-- "The writer puts leg k in record k, r = m; head is 1 (0 where m = 0), each next is k + 1, the last 0": head and each next are as the
-- writer puts them. The chain then goes through all r records, so that r = m, and edge k stands in record k.
pub record WritersForm (s : List ℕ) : Type 0 where
  pub head : chain_head s ≡ after 0 (record_count s)
  pub next : (k : ℕ) → k < record_count s → next_of s (suc k) ≡ after (suc k) (record_count s)

-- the bytes of a slice are bytes
unfoldable pub Bytes : List ℕ → Type 0
Bytes s = (i : ℕ) → get_or s i 0 < 256

-- ---- what is written has the form

form_written : (g : Graph) → Valid g → WritersForm (file_bytes g)
form_written g v =
    record {
      head = rw (count_written g v) (head_written g v);
      next = λ k h. let l : k < g.m = (rw (count_written g v) at h) in rw (count_written g v) (next_written g v k l);
    }

form_of : (s : List ℕ) (g : Graph) → reading s ≡ accept g → file_bytes g ≡ s → WritersForm s
form_of s g h e = rw e at (form_written g (read_good s g h).sound.valid)

-- ---- edge k of a file in the form is that of record k

record FromRecord (s : List ℕ) (h : Graph) (i : ℕ) : Type 0 where
  pub a : get_or h.a i 0 ≡ get_or s (start_of (suc i)) 0
  pub b : get_or h.b i 0 ≡ get_or s (start_of (suc i) + 1) 0
  pub mark : get_or h.mark i 0 ≡ get_or s (start_of (suc i) + 2) 0
  pub cost : get_or h.cost i (pos 0) ≡ cost_at s (start_of (suc i))
  pub body : BodyOk s h.n (start_of (suc i))

unfoldable Taken : List ℕ → Graph → Type 0
Taken s h = (i : ℕ) → i < h.m → FromRecord s h i

module _ (s : List ℕ) (met : List Bool) (h : Graph) (o : Sound h) (e : record_fault s met h (suc h.m) ≡ 0) where
  fine : RecordOk s met h (suc h.m)
  fine = record_ok s met h (suc h.m) e

  room : h.m < max_edges
  room = record_room s met h (suc h.m) o fine

  ne : (i : ℕ) → i < h.m → i ≡ h.m → ⊥
  ne i l q = omega arith

  old : (i : ℕ) → i < h.m → FromRecord s h i → FromRecord s (with_record s h (start_of (suc h.m))) i
  unfolding with_record appended
  old i l t =
      let p = start_of (suc h.m) in
      record {
        a = get_or-set_other h.a h.m i (get_or s p 0) 0 (ne i l) ∙ t.a;
        b = get_or-set_other h.b h.m i (get_or s (p + 1) 0) 0 (ne i l) ∙ t.b;
        mark = get_or-set_other h.mark h.m i (get_or s (p + 2) 0) 0 (ne i l) ∙ t.mark;
        cost = get_or-set_other h.cost h.m i (cost_at s p) (pos 0) (ne i l) ∙ t.cost;
        body = t.body;
      }

  last : FromRecord s (with_record s h (start_of (suc h.m))) h.m
  unfolding with_record appended
  last =
      let p = start_of (suc h.m) in
      record {
        a = get_or-set_same h.a h.m (get_or s p 0) 0 (omega (arith, room, o.shape.a));
        b = get_or-set_same h.b h.m (get_or s (p + 1) 0) 0 (omega (arith, room, o.shape.b));
        mark = get_or-set_same h.mark h.m (get_or s (p + 2) 0) 0 (omega (arith, room, o.shape.mark));
        cost = get_or-set_same h.cost h.m (cost_at s p) (pos 0) (omega (arith, room, o.shape.cost));
        body = fine.body;
      }

pub taken-size : (s : List ℕ) (h : Graph) (p : ℕ) → (with_record s h p).m ≡ h.m + 1
unfolding with_record appended
taken-size s h p = refl

taken_more : (s : List ℕ) (met : List Bool) (h : Graph) → Sound h → record_fault s met h (suc h.m) ≡ 0 → Taken s h
    → Taken s (with_record s h (start_of (suc h.m)))
unfolding Taken
taken_more s met h o e t =
    λ i l. below_more (λ (j : ℕ). FromRecord s (with_record s h (start_of (suc h.m))) j) h.m (λ j k. old s met h o e j k (t j k))
    (last s met h o e) i (omega (arith, taken-size s h (start_of (suc h.m))))

record Whole (s : List ℕ) (n : ℕ) (g : Graph) : Type 0 where
  pub size : g.m ≡ record_count s
  pub vertices : g.n ≡ n
  pub taken : Taken s g

next_is : (f r : ℕ) (s : List ℕ) (met : List Bool) (h g : Graph) (p x : ℕ) → x ≡ after (suc h.m) r
    → chain_from f s met (with_record s h p) x ≡ accept g
    → chain_from f s met (with_record s h p) (after (with_record s h p).m r) ≡ accept g
next_is f r s met h g p x q e =
    subst (λ (i : ℕ). chain_from f s met (with_record s h p) i ≡ accept g)
    (q ∙ ap (λ (i : ℕ). after i r) (sym (taken-size s h p ∙ add-one h.m))) e

form-walk : (f j : ℕ) (s : List ℕ) (met : List Bool) (h g : Graph) → WritersForm s → j + h.m ≡ record_count s → Sound h → Taken s h
    → chain_from f s met h (after h.m (record_count s)) ≡ accept g → Whole s h.n g
unfolding with_record appended
form-walk zero j s met h g w q o t e = absurd (no_fuel s met h (after h.m (record_count s)) g e)
form-walk (suc f) zero s met h g w q o t e =
    let r : h.m ≡ record_count s = omega arith in
    ⊎_elim (λ d. subst (λ (x : Graph). Whole s h.n x) d.1 (record { size = r; vertices = refl; taken = t }))
    (λ d. absurd (d.on (after-top h.m (record_count s) (omega arith))))
    (chain_split f s met h (after h.m (record_count s)) g e)
form-walk (suc f) (suc j) s met h g w q o t e =
    let l : h.m < record_count s = omega arith in
    let k = suc h.m in
    ⊎_elim (λ d. absurd (let z : k ≡ 0 = d.0 in omega arith))
    (λ d. form-walk f j s (set met (k - 1) true) (with_record s h (start_of k)) g w (omega (arith, taken-size s h (start_of k)))
    (sound_record s met h k o (record_ok s met h k d.none)) (taken_more s met h o d.none t)
    (next_is f (record_count s) s (set met (k - 1) true) h g (start_of k) (next_of s k) (w.next h.m l) d.rest))
    (chain_split f s met h k g (rw (after_low h.m (record_count s) l) at e))

pub start_size : (n : ℕ) → (edgeless n).m ≡ 0
unfolding edgeless
start_size n = refl

start_n : (n : ℕ) → (edgeless n).n ≡ n
unfolding edgeless
start_n n = refl

start_taken : (s : List ℕ) (n : ℕ) → Taken s (edgeless n)
unfolding Taken
start_taken s n = λ i l. absurd (omega (arith, start_size n))

form_whole : (s : List ℕ) (g : Graph) → reading s ≡ accept g → WritersForm s → Whole s (vertices s) g
unfolding chain
form_whole s g h w =
    let p = read_split s g h in
    let o = header_ok s p.0 in
    let n = vertices s in
    let v = replicate max_records false in
    let walk : chain_from (suc max_edges) s v (edgeless n) (after (edgeless n).m (record_count s)) ≡ accept g
    = subst (λ (i : ℕ). chain_from (suc max_edges) s v (edgeless n) i ≡ accept g)
    (w.head ∙ ap (λ (i : ℕ). after i (record_count s)) (sym (start_size n))) p.1 in
    subst (λ (i : ℕ). Whole s i g) (start_n n)
    (form-walk (suc max_edges) (record_count s) s v (edgeless n) g w (omega (arith, start_size n)) (sound-edgeless n o.low o.high)
    (start_taken s n) walk)

-- ---- so every byte is the writer's

peel : (s t : List ℕ) (p i x n : ℕ) → p + i < length s → get_or s (p + i) 0 ≡ x → take n (drop (p + (i + 1)) s) ≡ t
    → take (suc n) (drop (p + i) s) ≡ x ∷ t
peel s t p i x n h e r =
    let q : p + (i + 1) ≡ suc (p + i) = omega arith in
    rw (drop-cons s (p + i) 0 h, e) (ap (λ (l : List ℕ). x ∷ l) (rw q at r))

module _ (s : List ℕ) (g : Graph) (y : Bytes s) (o : HeaderOk s) (w : WritersForm s) (h : Whole s (vertices s) g) where
  two : (i x : ℕ) → u16_at s i ≡ x → (get_or s i 0 ≡ x % 256) × (get_or s (i + 1) 0 ≡ x / 256 % 256)
  unfolding u16_at Bytes
  two i x e =
      let t = split2 (get_or s i 0) (get_or s (i + 1) 0) (y i) (y (i + 1)) in
      (sym (rw e at t.0), sym (rw e at t.1))

  word_small : (i : ℕ) → u32_at s i < 4294967296
  unfolding u32_at Bytes
  word_small i = omega (arith, y i, y (i + 1), y (i + 2), y (i + 3))

  four : (i x : ℕ) → u32_at s i ≡ x
      → (get_or s i 0 ≡ x % 256) × (get_or s (i + 1) 0 ≡ x / 256 % 256) × (get_or s (i + 2) 0 ≡ x / 65536 % 256)
      × (get_or s (i + 3) 0 ≡ x / 16777216 % 256)
  unfolding u32_at Bytes
  four i x e =
      let t = split4 (get_or s i 0) (get_or s (i + 1) 0) (get_or s (i + 2) 0) (get_or s (i + 3) 0) (y i) (y (i + 1)) (y (i + 2)) (y (i + 3)) in
      (sym (rw e at t.0), sym (rw e at t.1), sym (rw e at t.2), sym (rw e at t.3))

  header_back : take 8 s ≡ header_bytes g.n g.m
  unfolding header_bytes
  header_back =
      let m : record_count s ≡ g.m = sym h.size in
      let c = two 4 g.m m in
      let f = two 2 (after 0 g.m) (w.head ∙ ap (λ (i : ℕ). after 0 i) m) in
      peel s _ 0 0 g.n 7 (omega (arith, o.long)) (sym h.vertices)
      (peel s _ 0 1 0 6 (omega (arith, o.long)) o.zero1
      (peel s _ 0 2 _ 5 (omega (arith, o.long)) f.0
      (peel s _ 0 3 _ 4 (omega (arith, o.long)) f.1
      (peel s _ 0 4 _ 3 (omega (arith, o.long)) c.0
      (peel s _ 0 5 _ 2 (omega (arith, o.long)) c.1
      (peel s _ 0 6 0 1 (omega (arith, o.long)) o.zero6
      (peel s _ 0 7 0 0 (omega (arith, o.long)) o.zero7 refl)))))))

  module _ (k : ℕ) (l : k < g.m) where
    from : FromRecord s g k
    unfolding Taken
    from = h.taken k l

    in_file : (i : ℕ) → i < 12 → start_of (suc k) + i < length s
    in_file i j = omega (arith, start_suc k, o.size, h.size)

    word_back : u32_at s (start_of (suc k) + 4) ≡ bits_of (get_or g.cost k (pos 0))
    unfolding cost_at
    word_back = sym (ap bits_of from.cost ∙ bits_signed (u32_at s (start_of (suc k) + 4)) (word_small (start_of (suc k) + 4)))

    next_back : u16_at s (start_of (suc k) + 8) ≡ after (k + 1) g.m
    unfolding next_of
    next_back =
        let m : record_count s ≡ g.m = sym h.size in
        w.next k (omega (arith, m)) ∙ ap (λ (i : ℕ). after (suc k) i) m ∙ ap (λ (i : ℕ). after i g.m) (sym (add-one k))

    record_back : take 12 (drop (start_of (suc k) + 0) s) ≡ record_bytes g k
    unfolding record_bytes
    record_back =
        let p = start_of (suc k) in
        let z = from.body in
        let c = four (p + 4) (bits_of (get_or g.cost k (pos 0))) word_back in
        let x = two (p + 8) (after (k + 1) g.m) next_back in
        let e0 : p + 0 ≡ p = omega arith in
        let e5 : p + 4 + 1 ≡ p + 5 = omega arith in
        let e6 : p + 4 + 2 ≡ p + 6 = omega arith in
        let e7 : p + 4 + 3 ≡ p + 7 = omega arith in
        let e9 : p + 8 + 1 ≡ p + 9 = omega arith in
        peel s _ p 0 _ 11 (in_file 0 (omega arith)) (rw e0 (sym from.a))
        (peel s _ p 1 _ 10 (in_file 1 (omega arith)) (sym from.b)
        (peel s _ p 2 _ 9 (in_file 2 (omega arith)) (sym from.mark)
        (peel s _ p 3 _ 8 (in_file 3 (omega arith)) z.zero3
        (peel s _ p 4 _ 7 (in_file 4 (omega arith)) c.0
        (peel s _ p 5 _ 6 (in_file 5 (omega arith)) (rw e5 at c.1)
        (peel s _ p 6 _ 5 (in_file 6 (omega arith)) (rw e6 at c.2)
        (peel s _ p 7 _ 4 (in_file 7 (omega arith)) (rw e7 at c.3)
        (peel s _ p 8 _ 3 (in_file 8 (omega arith)) x.0
        (peel s _ p 9 _ 2 (in_file 9 (omega arith)) (rw e9 at x.1)
        (peel s _ p 10 _ 1 (in_file 10 (omega arith)) z.zero10
        (peel s _ p 11 _ 0 (in_file 11 (omega arith)) z.zero11 refl)))))))))))

  grow : (k : ℕ) → k ≤ g.m → take (size_of k) s ≡ header_bytes g.n g.m ++ records_bytes g k
  unfolding records_bytes
  grow zero l = header_back ∙ sym (append-nil (header_bytes g.n g.m))
  grow (suc k) l =
      let e : size_of (suc k) ≡ size_of k + 12 = omega arith in
      let q : start_of (suc k) + 0 ≡ size_of k = omega (arith, start_suc k) in
      rw (e, take-add (size_of k) 12 s, grow k (omega arith), (rw q at (record_back k l)))
      (append_assoc (header_bytes g.n g.m) (records_bytes g k) (record_bytes g k))

  back : file_bytes g ≡ s
  unfolding file_bytes
  back = sym (grow g.m (omega arith)) ∙ take_all (size_of g.m) s (omega (arith, o.size, h.size))

-- The bytes of the graph read are those of the file exactly when the file has the writer's form.
pub exactly : (s : List ℕ) → Bytes s → (reading s).outcome ≡ accepted → (file_bytes (reading s).graph ≡ s) ↔ WritersForm s
exactly s y e =
    let g = (reading s).graph in
    let h : reading s ≡ accept g = accepted_is (reading s) e in
    (form_of s g h, λ w. back s g y (header_ok s (read_split s g h).0) w (form_whole s g h w))
