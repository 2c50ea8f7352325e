-- What each refusal of reading means, as plain statements: of 1 to 10 in document 01's order, the one given applies and none before it
-- does. Definitions only; Refusals.antt shows that reading gives these and no others.
use Rattle.std.specs.Prelude.{ℕ, ◌+◌, ◌<◌, ◌≤◌, ◌≡◌, List, length, get_or}
use Rattle.integers.specs.Range.{InRange}
use Rattle.graph.specs.Limits.{min_vertices, max_vertices, max_cost, max_mark, max_records}
use Rattle.charts.specs.Chart.{header_size, vertices, record_count, size_of, start_of, cost_at}
use Rattle.charts_theorems.specs.Along.{link}

-- ---- the header, 1 to 4: "1 under 8 bytes; 2 n not 3 to 20; 3 a header zero byte not zero; 4 r over 1,000, or length not 8 + 12 × r"

pub record VerticesOk (s : List ℕ) : Type 0 where
  pub low : min_vertices ≤ vertices s
  pub high : vertices s ≤ max_vertices

pub record HeaderZeros (s : List ℕ) : Type 0 where
  pub byte1 : get_or s 1 0 ≡ 0
  pub byte6 : get_or s 6 0 ≡ 0
  pub byte7 : get_or s 7 0 ≡ 0

pub record LengthOk (s : List ℕ) : Type 0 where
  pub few : record_count s ≤ max_records
  pub size : length s ≡ size_of (record_count s)

pub data HeaderRefusal (s : List ℕ) : ℕ → Type 0 where
  one : length s < header_size → HeaderRefusal s 1
  two : header_size ≤ length s → (VerticesOk s → ⊥) → HeaderRefusal s 2
  three : header_size ≤ length s → VerticesOk s → (HeaderZeros s → ⊥) → HeaderRefusal s 3
  four : header_size ≤ length s → VerticesOk s → HeaderZeros s → (LengthOk s → ⊥) → HeaderRefusal s 4

-- ---- the j-th record along the chain, 5 to 10

-- where it starts
abbrev pub start_at : List ℕ → ℕ → ℕ
start_at s j = start_of (link s j)

-- "6 record met before"
pub record MetBefore (s : List ℕ) (j : ℕ) : Type 0 where
  pub at : ℕ
  pub before : at < j
  pub same : link s at ≡ link s j

-- "7 not 1 ≤ a < b ≤ n"
pub record EndsOk (s : List ℕ) (j : ℕ) : Type 0 where
  pub from : 1 ≤ get_or s (start_at s j) 0
  pub less : get_or s (start_at s j) 0 < get_or s (start_at s j + 1) 0
  pub to : get_or s (start_at s j + 1) 0 ≤ vertices s

-- "8 mark above 2 or a zero byte not zero"
pub record MarkOk (s : List ℕ) (j : ℕ) : Type 0 where
  pub known : get_or s (start_at s j + 2) 0 ≤ max_mark
  pub byte3 : get_or s (start_at s j + 3) 0 ≡ 0
  pub byte10 : get_or s (start_at s j + 10) 0 ≡ 0
  pub byte11 : get_or s (start_at s j + 11) 0 ≡ 0

-- "9 cost out of range"
abbrev pub CostOk : List ℕ → ℕ → Type 0
CostOk s j = InRange max_cost (cost_at s (start_at s j))

-- "10 pair met before"
pub record PairBefore (s : List ℕ) (j : ℕ) : Type 0 where
  pub at : ℕ
  pub before : at < j
  pub a : get_or s (start_at s at) 0 ≡ get_or s (start_at s j) 0
  pub b : get_or s (start_at s at + 1) 0 ≡ get_or s (start_at s j + 1) 0

pub data RecordRefusal (s : List ℕ) (j : ℕ) : ℕ → Type 0 where
  five : record_count s < link s j → RecordRefusal s j 5
  six : link s j ≤ record_count s → MetBefore s j → RecordRefusal s j 6
  seven : link s j ≤ record_count s → (MetBefore s j → ⊥) → (EndsOk s j → ⊥) → RecordRefusal s j 7
  eight : link s j ≤ record_count s → (MetBefore s j → ⊥) → EndsOk s j → (MarkOk s j → ⊥) → RecordRefusal s j 8
  nine : link s j ≤ record_count s → (MetBefore s j → ⊥) → EndsOk s j → MarkOk s j → (CostOk s j → ⊥) → RecordRefusal s j 9
  ten : link s j ≤ record_count s → (MetBefore s j → ⊥) → EndsOk s j → MarkOk s j → CostOk s j → PairBefore s j → RecordRefusal s j 10

-- a record of the chain with none of these
pub record RecordFine (s : List ℕ) (j : ℕ) : Type 0 where
  pub on : 0 < link s j
  pub under : link s j ≤ record_count s
  pub first : MetBefore s j → ⊥
  pub ends : EndsOk s j
  pub mark : MarkOk s j
  pub cost : CostOk s j
  pub new : PairBefore s j → ⊥

pub record HeaderFine (s : List ℕ) : Type 0 where
  pub long : header_size ≤ length s
  pub size : VerticesOk s
  pub zeros : HeaderZeros s
  pub whole : LengthOk s

-- ---- a file

-- number and place: the header's, or those of the first record along the chain that has a fault, "for 5 the head or next that is too
-- large, for 6 to 10 the record's number, otherwise 0"
pub data Refusal (s : List ℕ) : ℕ → ℕ → Type 0 where
  in_header : (e : ℕ) → HeaderRefusal s e → Refusal s e 0
  in_record : (j e : ℕ) → HeaderFine s → ((i : ℕ) → i < j → RecordFine s i) → 0 < link s j → RecordRefusal s j e
      → Refusal s e (link s j)

-- the header is fine, and so is each record of the chain, up to its end
pub record Faultless (s : List ℕ) : Type 0 where
  pub header : HeaderFine s
  pub size : ℕ
  pub records : (i : ℕ) → i < size → RecordFine s i
  pub ends : link s size ≡ 0
