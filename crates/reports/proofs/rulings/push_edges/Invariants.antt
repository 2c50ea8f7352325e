-- After k turns the lines of k edges stand, each of at most 21 bytes.
use Rattle.std.proofs.Common.{◌≡◌, ◌++◌, ◌+◌, ◌*◌, ◌≤◌, length}
use Rattle.reports.specs.Rulings.{edge_lines}
use Rattle.reports.proofs.rulings.push_edges.Given as goal

abbrev pub invariant-loop-k : goal.invariant-loop-k
invariant-loop-k l =
    (length l.text.bytes ≤ 56 + 21 * l.k) × (l.text.bytes ≡ l.initial.text.bytes ++ edge_lines l.input.graph l.rulings l.k)
