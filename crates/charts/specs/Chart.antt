-- Document 01's 'The chart as bytes', and of 'What the caller can send wrong' the numbers 1 to 11 and 15, in its order. A fault is its
-- number, 0 where there is none. Definitions only.
use Rattle.std.specs.Prelude.{ℕ, zero, suc, ◌+◌, ◌-◌, ◌*◌, ◌/◌, ◌%◌, Bool, true, false, not, cond, ◌&&◌, Result, Ok, Err, List, [], ◌∷◌, ◌++◌, length, get_or, set, replicate, ltb, leb, eqb, ℤ, pos, negsuc}
use Rattle.std.specs.Option.{unwrap_or}
use Rattle.integers.specs.Range.{within}
use Rattle.graph.specs.declared.Graph.{Graph}
use Rattle.graph.specs.declared.refusals.Refused.{Refused}
use Rattle.graph.specs.Limits.{min_vertices, max_vertices, max_edges, max_cost, max_mark, max_records}
use Rattle.graph.specs.Edgeless.{edgeless}
use Rattle.graph.specs.Valid.{ends_ok, pair_met, valid}
use Rattle.graph.specs.Refusals.{number}
use Rattle.charts.specs.Answers.{Outcome, accepted, refused}

-- ---- numbers in bytes: "Little-endian, costs in two's complement."

unfoldable pub u16_at : List ℕ → ℕ → ℕ
u16_at s i = get_or s i 0 + 256 * get_or s (i + 1) 0

unfoldable pub u32_at : List ℕ → ℕ → ℕ
u32_at s i = get_or s i 0 + 256 * get_or s (i + 1) 0 + 65536 * get_or s (i + 2) 0 + 16777216 * get_or s (i + 3) 0

unfoldable pub signed_of : ℕ → ℤ
signed_of w = cond (ltb w 2147483648) (pos w) (negsuc (4294967295 - w))

unfoldable pub bits_of : ℤ → ℕ
bits_of (pos n) = n
bits_of (negsuc n) = 4294967295 - n

-- ---- where things stand

-- "Header, 8 bytes: n, a zero byte, head (u16), record count r (u16, at most 1,000), two zero bytes."
abbrev pub header_size : ℕ
header_size = 8

abbrev pub vertices : List ℕ → ℕ
vertices s = get_or s 0 0

abbrev pub chain_head : List ℕ → ℕ
chain_head s = u16_at s 2

abbrev pub record_count : List ℕ → ℕ
record_count s = u16_at s 4

-- "Then r records of 12 bytes, numbered from 1: a, b, mark, zero byte, cost (i32), next (u16), two zero bytes."
abbrev pub record_size : ℕ
record_size = 12

-- where record k starts
unfoldable pub start_of : ℕ → ℕ
start_of k = header_size + record_size * (k - 1)

-- the cost in the record that starts at p
unfoldable pub cost_at : List ℕ → ℕ → ℤ
cost_at s p = signed_of (u32_at s (p + 4))

unfoldable pub next_of : List ℕ → ℕ → ℕ
next_of s k = u16_at s (start_of k + 8)

-- the length of a file of r records
abbrev pub size_of : ℕ → ℕ
size_of r = header_size + record_size * r

-- ---- what reading refuses

-- "1 under 8 bytes; 2 n not 3 to 20; 3 a header zero byte not zero; 4 r over 1,000, or length not 8 + 12 × r"
unfoldable pub header_fault : List ℕ → ℕ
header_fault s =
    cond (ltb (length s) header_size) 1
    (cond (not (leb min_vertices (vertices s) && leb (vertices s) max_vertices)) 2
    (cond (not (eqb (get_or s 1 0) 0 && (eqb (get_or s 6 0) 0 && eqb (get_or s 7 0) 0))) 3
    (cond (not (leb (record_count s) max_records && eqb (length s) (size_of (record_count s)))) 4 0)))

-- "7 not 1 ≤ a < b ≤ n; 8 mark above 2 or a zero byte not zero; 9 cost out of range", of the record that starts at p
unfoldable pub body_fault : List ℕ → ℕ → ℕ → ℕ
body_fault s n p =
    cond (not (ends_ok n (get_or s p 0) (get_or s (p + 1) 0))) 7
    (cond
    (not
    (leb (get_or s (p + 2) 0) max_mark
    && (eqb (get_or s (p + 3) 0) 0 && (eqb (get_or s (p + 10) 0) 0 && eqb (get_or s (p + 11) 0) 0))))
    8
    (cond (not (within max_cost (cost_at s p))) 9 0))

-- "5 head or next above r; 6 record met before; 7 …; 10 pair met before": of record k, the records met being `met` and the edges so far g's
unfoldable pub record_fault : List ℕ → List Bool → Graph → ℕ → ℕ
record_fault s met g k =
    cond (ltb (record_count s) k) 5
    (cond (get_or met (k - 1) false) 6
    (cond (not (eqb (body_fault s g.n (start_of k)) 0)) (body_fault s g.n (start_of k))
    (cond (pair_met g.a g.b g.m (get_or s (start_of k) 0) (get_or s (start_of k + 1) 0)) 10 0)))

-- ---- reading

-- one edge more: "Leg numbers are places along the chain."
unfoldable pub appended : Graph → ℕ → ℕ → ℤ → ℕ → Graph
appended g x y z w =
    record {
      n = g.n;
      m = g.m + 1;
      a = set g.a g.m x;
      b = set g.b g.m y;
      cost = set g.cost g.m z;
      mark = set g.mark g.m w;
    }

-- the edge of the record that starts at p
unfoldable pub with_record : List ℕ → Graph → ℕ → Graph
with_record s g p = appended g (get_or s p 0) (get_or s (p + 1) 0) (cost_at s p) (get_or s (p + 2) 0)

-- a graph and what is answered; beside a refusal stands the empty graph
pub record ReadResult : Type 0 where
  pub graph : Graph
  pub outcome : Outcome

unfoldable pub accept : Graph → ReadResult
accept g = record { graph = g; outcome = accepted }

unfoldable pub refuse : ℕ → ℕ → ReadResult
refuse number place = record { graph = edgeless 0; outcome = refused number place }

-- what a reading's answer says; "otherwise 0" is the place
unfoldable pub read_meaning : Result Graph Refused → ReadResult
read_meaning (Ok g) = accept g
read_meaning (Err r) = refuse (number r.refusal) (unwrap_or r.place 0)

-- "The chain starts at head and goes on by next; zero ends it." A refusal's place: "for 5 the head or next that is too large, for 6 to 10
-- the record's number". "A record's next is judged after its own 7 to 10": it is the k of the next turn. The number f only makes the
-- recursion end. It starts at one more than the edges that a graph can have, and crate charts_theorems shows that it never runs out.
unfoldable pub chain_from : ℕ → List ℕ → List Bool → Graph → ℕ → ReadResult
chain_from zero s met g k = refuse 0 0
chain_from (suc f) s met g k =
    cond (eqb k 0) (accept g)
    (cond (eqb (record_fault s met g k) 0)
    (chain_from f s (set met (k - 1) true) (with_record s g (start_of k)) (next_of s k))
    (refuse (record_fault s met g k) k))

-- "Reading keeps one yes-or-no for each of the 1,000 possible records."
unfoldable pub chain : List ℕ → ReadResult
chain s = chain_from (suc max_edges) s (replicate max_records false) (edgeless (vertices s)) (chain_head s)

-- "Reading, in this order, 5 to 10 record by record"; a header's fault has the place 0
unfoldable pub reading : List ℕ → ReadResult
reading s = cond (eqb (header_fault s) 0) (chain s) (refuse (header_fault s) 0)

-- ---- writing

-- "head is 1 (0 where m = 0), each next is k + 1, the last 0": what follows k of m, the head following 0
unfoldable pub after : ℕ → ℕ → ℕ
after k m = cond (ltb k m) (k + 1) 0

unfoldable pub header_bytes : ℕ → ℕ → List ℕ
header_bytes n m = n ∷ 0 ∷ after 0 m % 256 ∷ after 0 m / 256 % 256 ∷ m % 256 ∷ m / 256 % 256 ∷ 0 ∷ 0 ∷ []

-- "The writer puts leg k in record k": edge and record k + 1
unfoldable pub record_bytes : Graph → ℕ → List ℕ
record_bytes g k =
    get_or g.a k 0 ∷ get_or g.b k 0 ∷ get_or g.mark k 0 ∷ 0
    ∷ bits_of (get_or g.cost k (pos 0)) % 256
    ∷ bits_of (get_or g.cost k (pos 0)) / 256 % 256
    ∷ bits_of (get_or g.cost k (pos 0)) / 65536 % 256
    ∷ bits_of (get_or g.cost k (pos 0)) / 16777216 % 256
    ∷ after (k + 1) g.m % 256 ∷ after (k + 1) g.m / 256 % 256 ∷ 0 ∷ 0 ∷ []

unfoldable pub records_bytes : Graph → ℕ → List ℕ
records_bytes g zero = []
records_bytes g (suc k) = records_bytes g k ++ record_bytes g k

-- "r = m"
unfoldable pub file_bytes : Graph → List ℕ
file_bytes g = header_bytes g.n g.m ++ records_bytes g g.m

-- "those that apply, in this order: 15 a chart value that breaks 'Legs and marks'; 11 a list of wrong length (… bytes to write 8 + 12 × m)"
unfoldable pub write_fault : Graph → ℕ → ℕ
write_fault g len = cond (not (valid g)) 15 (cond (not (eqb len (size_of g.m))) 11 0)

-- what is answered where the list lent has this length: "otherwise 0" is the place
unfoldable pub write_outcome : Graph → ℕ → Outcome
write_outcome g len = cond (eqb (write_fault g len) 0) accepted (refused (write_fault g len) 0)

-- and what that list then holds: "a refusal leaves each lent list … unchanged"
unfoldable pub write_leaves : Graph → List ℕ → List ℕ
write_leaves g out = cond (eqb (write_fault g (length out)) 0) (file_bytes g) out
