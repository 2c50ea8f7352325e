-- What a program of document 01 reads: "a ceiling … and then a chart from standard input"; document 02, C-14: "Program input has an i64
-- little-endian ceiling from now on". Both programs read and refuse the same; what each prints of a ceiling and a graph is its own. Definitions
-- only.
use Rattle.std.specs.Prelude.{ℕ, ◌+◌, ◌-◌, ◌*◌, cond, List, ltb, ℤ, pos, negsuc, length, drop}
use Rattle.graph.specs.declared.Graph.{Graph}
use Rattle.charts.specs.Answers.{Outcome, accepted, refused}
use Rattle.charts.specs.Chart.{u32_at, reading}
use Rattle.reports.specs.Text.{refused_line}

-- the bytes of the ceiling
abbrev pub ceiling_size : ℕ
ceiling_size = 8

-- little-endian: four bytes, and what the four after them count for
abbrev pub half : ℕ
half = 4294967296

unfoldable pub u64_at : List ℕ → ℕ → ℕ
u64_at s i = u32_at s i + half * u32_at s (i + 4)

-- two's complement, as costs are
unfoldable pub signed64 : ℕ → ℤ
signed64 w = cond (ltb w 9223372036854775808) (pos w) (negsuc (18446744073709551615 - w))

unfoldable pub ceiling_of : List ℕ → ℤ
ceiling_of input = signed64 (u64_at input 0)

unfoldable pub chart_of : List ℕ → List ℕ
chart_of input = drop ceiling_size input

-- "Otherwise one line: … 'refused N at P'"
abbrev pub unless_refused : Outcome → List ℕ → List ℕ
unless_refused accepted text = text
unless_refused (refused number place) text = refused_line number place

-- C-14: "an input under 8 bytes is refused 1 at 0"; "The chart's faults, 1 to 10, come before 13": before all that `text` can say
unfoldable pub printed : (ℤ → Graph → List ℕ) → List ℕ → List ℕ
printed text input =
    cond (ltb (length input) ceiling_size) (refused_line 1 0)
    (unless_refused (reading (chart_of input)).outcome (text (ceiling_of input) (reading (chart_of input)).graph))
