-- After k turns the lines of k edges stand, each of at most 21 bytes.
use Rattle.std.proofs.Common.{◌≡◌, ℕ, ◌+◌, List, ◌++◌, get_or, arith, sym, append-nil, append_assoc, add-one}
use Rattle.graph.specs.declared.Graph.{Graph}
use Rattle.reports.specs.Text.{edge_line, ruling_word}
use Rattle.reports.specs.Rulings.{edge_lines}
use Rattle.reports.proofs.rulings.push_edges.Goals as goal

one_more : (g : Graph) (rulings : List ℕ) (k : ℕ)
    → edge_lines g rulings (k + 1) ≡ edge_lines g rulings k ++ edge_line (k + 1) (get_or g.a k 0) (get_or g.b k 0) (get_or rulings k 0)
unfolding edge_lines
one_more g rulings k = rw add-one

-- what a line says of a ruling is its word
same_word : (k a b r q : ℕ) → ruling_word r ≡ ruling_word q → edge_line k a b r ≡ edge_line k a b q
unfolding edge_line
same_word k a b r q e = rw e

pub loop-k-init : goal.loop-k-init
unfolding edge_lines
loop-k-init c = (c.requires.0, sym (append-nil c.args.text.now.bytes))

pub loop-k-preserved : goal.loop-k-preserved
loop-k-preserved c =
    let k = c.loop-k.k in
    let g = c.args.input.now.graph in
    let rulings = c.args.rulings.now in (
      omega arith,
      rw (one_more g rulings k, c.push_str.ensures.bytes, c.as_str.ensures.value, c.edge.ensures, same_word _ _ _ _ _ c.ruling_of.ensures, c.loop-k.invariant.1, c.from-at.ensures)
          (append_assoc c.args.text.now.bytes (edge_lines g rulings k) (edge_line (k + 1) (get_or g.a k 0) (get_or g.b k 0) (get_or rulings k 0))),
    )
