-- The record that the code makes of twelve bytes, and its faults. Assumes nothing.
use Rattle.std.specs.Prelude.{ℕ, ◌+◌, ◌≡◌, not, cond, ◌&&◌, List, [], ◌∷◌, get_or, leb, eqb}
use Rattle.integers.specs.Range.{within}
use Rattle.graph.specs.Limits.{max_cost, max_mark}
use Rattle.graph.specs.Valid.{ends_ok}
use Rattle.charts.specs.declared.reader.Record.{Record}
use Rattle.graph.specs.declared.Graph.{Graph}
use Rattle.charts.specs.Chart.{u16_at, cost_at, start_of, next_of, body_fault, appended, with_record}

-- that which starts at p
unfoldable pub record_at : List ℕ → ℕ → Record
record_at s p =
    record {
      a = get_or s p 0;
      b = get_or s (p + 1) 0;
      mark = get_or s (p + 2) 0;
      cost = cost_at s p;
      next = u16_at s (p + 8);
      padding = get_or s (p + 3) 0 ∷ get_or s (p + 10) 0 ∷ get_or s (p + 11) 0 ∷ [];
    }

unfoldable pub body_of : Record → ℕ → ℕ
body_of r n =
    cond (not (ends_ok n r.a r.b)) 7
    (cond
    (not (leb r.mark max_mark && (eqb (get_or r.padding 0 0) 0 && (eqb (get_or r.padding 1 0) 0 && eqb (get_or r.padding 2 0) 0))))
    8
    (cond (not (within max_cost r.cost)) 9 0))

pub body_is : (s : List ℕ) (n p : ℕ) (r : Record) → r ≡ record_at s p → body_of r n ≡ body_fault s n p
unfolding record_at body_of body_fault
body_is s n p r e = rw e

-- one edge more, that record's
pub appended_is : (s : List ℕ) (g : Graph) (p : ℕ) (r : Record) → r ≡ record_at s p → appended g r.a r.b r.cost r.mark ≡ with_record s g p
unfolding record_at with_record
appended_is s g p r e = rw e

-- and the record after it
pub next_is : (s : List ℕ) (k : ℕ) (r : Record) → r ≡ record_at s (start_of k) → r.next ≡ next_of s k
unfolding record_at next_of
next_is s k r e = rw e
