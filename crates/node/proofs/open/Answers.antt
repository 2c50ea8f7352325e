-- What the passes come to on the edges that are left is spread out by their ending.
use Rattle.std.proofs.Common.{◌≡◌, ℕ, ◌≤◌, List, ℤ, ap, ◌∙◌, subst, arith, Result, Ok, Err}
use Rattle.graph.specs.declared.Graph.{Graph}
use Rattle.graph.specs.declared.refusals.Refusal.{Refusal}
use Rattle.graph.specs.Refusals.{not-zero}
use Rattle.graph.specs.Network.{free, excluded}
use Rattle.machine.specs.declared.Settings.{Settings}
use Rattle.machine.specs.Machine.{Marks}
use Rattle.mark_rows.specs.MarkRows.{row_words, rows_of, marks_in_rows}
use Rattle.compaction.specs.Spread.{spread_marks, spread-size}
use Rattle.node.specs.declared.Fate.TheVariants as fate
use Rattle.node.specs.declared.passes.Ending.{Ending}
use Rattle.node.specs.declared.passes.Ending.TheVariants as ending
use Rattle.node.specs.Marks.{bytes_of}
use Rattle.node.specs.Opened.{opened, marked, taken}
use Rattle.node.specs.Refusing.{EndsAs}
use Rattle.node.specs.Expanding.{ExpandedTo, expanded_at, expanded_mark, expanded_tour}
use Rattle.node.specs.CompactGraph.{left-padded}
use Rattle.node.specs.Words.{kept_in, new_byte, Packed, packed_rows}
use Rattle.node.specs.Opens.{opens_15, left-refused, left_shut, left_found, left_unclosed, canonical}
use Rattle.node.proofs.open.Goals as goal

-- what the passes come to on a graph
ended : (g h : Graph) (d : List ℤ) (settings : Settings) (v : Result Ending Refusal) (w : List ℕ) (was last : List ℤ) → g ≡ h
    → EndsAs (taken g d settings) v w was last → EndsAs (taken h d settings) v w was last
ended g h d settings v w was last e r = subst (λ (x : Graph). EndsAs (taken x d settings) v w was last) e r

-- the words of the new marks of all edges
packed_is : (m : ℕ) (rows : List ℕ) → m ≤ 190 → (y : Marks) (w l : List ℕ) → w ≡ bytes_of y → Packed m (new_byte m rows w) row_words l
    → l ≡ rows_of (spread_marks (kept_in m rows) m y)
packed_is m rows few y w l e packed =
    packed_rows m _ _ _ (spread-size (kept_in m rows) m excluded free y)
    (λ i h. ap (λ (x : List ℕ). expanded_at (bytes_of (marks_in_rows m rows)) x 2 i) e ∙ expanded_mark (bytes_of (marks_in_rows m rows)) m few y i h)
    packed

pub returns-then-m-gt-MAX_EDGES-clause-opened : goal.returns-then-m-gt-MAX_EDGES-clause-opened
returns-then-m-gt-MAX_EDGES-clause-opened c = let a = c.args in
    opens_15 (taken (marked a.g.now a.node.now.rows) a.multipliers.now a.settings) _
    (λ b v. omega (arith, c.if-m-gt-MAX_EDGES.true, c.from-m.ensures, b))

pub open_left-requires : goal.open_left-requires
open_left-requires c =
    rw c.without_excluded.ensures (left-padded (marked c.args.g.now c.args.node.now.rows))

pub returns-in-Err-clause-opened : goal.returns-in-Err-clause-opened
returns-in-Err-clause-opened c = let a = c.args in
    let few : a.g.now.m ≤ 190 = omega (arith, c.from-m.ensures) in
    let r = c.in-Err.refusal in
    let v =
    ended _ _ a.multipliers.now a.settings (Err r) c.open_left.new.g.mark a.node.now.last c.open_left.new.last
    c.without_excluded.ensures c.in-Err.ensures.ending
    in
    (λ i. opened (Err r) (record { rows = a.node.now.rows; top = a.node.now.top; tour = a.node.now.tour; last = v.1 i }))
    ∙ left-refused (taken (marked a.g.now a.node.now.rows) a.multipliers.now a.settings) _ few _ v.0 (not-zero r)

pub returns-in-Ok-Shut-clause-opened : goal.returns-in-Ok-Shut-clause-opened
returns-in-Ok-Shut-clause-opened c = let a = c.args in
    let few : a.g.now.m ≤ 190 = omega (arith, c.from-m.ensures) in
    let v =
    ended _ _ a.multipliers.now a.settings (Ok ending.Shut) c.open_left.new.g.mark a.node.now.last c.open_left.new.last
    c.without_excluded.ensures (rw c.in-Ok-Shut.field-0-is at c.in-Ok-Shut.ensures.ending)
    in
    c.close.ensures ∙ left_shut (taken (marked a.g.now a.node.now.rows) a.multipliers.now a.settings) _ few v.0 v.1

pub returns-in-Ok-Found-clause-opened : goal.returns-in-Ok-Found-clause-opened
returns-in-Ok-Found-clause-opened c = let a = c.args in
    let few : a.g.now.m ≤ 190 = omega (arith, c.from-m.ensures) in
    let bytes : List ℕ = bytes_of (marks_in_rows a.g.now.m a.node.now.rows) in
    let v =
    ended _ _ a.multipliers.now a.settings (Ok ending.Found) c.open_left.new.g.mark a.node.now.last c.open_left.new.last
    c.without_excluded.ensures (rw c.in-Ok-Found.field-0-is at c.in-Ok-Found.ensures.ending)
    in
    let tour =
    expanded_tour bytes a.g.now.m few v.1.tour _
    (subst (λ (w : List ℕ). ExpandedTo bytes w a.g.now.m c.expand-tour.result) v.1.bytes (rw c.from-m.ensures at c.expand-tour.ensures)) in
    (λ i. let blank = c.blank.ensures i in
    opened (Ok fate.Finds) (record { rows = blank.rows; top = blank.top; tour = c.expand-tour.result; last = blank.last }))
    ∙ left_found (taken (marked a.g.now a.node.now.rows) a.multipliers.now a.settings) _ few v.0 _ _ v.1 tour

pub split-requires-clause-of_marks : goal.split-requires-clause-of_marks
split-requires-clause-of_marks c = let a = c.args in
    let few : a.g.now.m ≤ 190 = omega (arith, c.from-m.ensures) in
    let v =
    ended _ _ a.multipliers.now a.settings (Ok ending.Unclosed) c.open_left.new.g.mark a.node.now.last c.open_left.new.last
    c.without_excluded.ensures (rw c.in-Ok-Unclosed.field-0-is at c.in-Ok-Unclosed.ensures.ending)
    in
    let packed = packed_is a.g.now.m a.node.now.rows few v.1.marks _ _ v.1.bytes (rw c.from-m.ensures at c.pack-node.ensures) in
    rw c.from-m.ensures
    (canonical a.g.now.m _ _ few (spread-size (kept_in a.g.now.m a.node.now.rows) a.g.now.m excluded free v.1.marks) packed)

pub returns-in-Ok-Unclosed-clause-opened : goal.returns-in-Ok-Unclosed-clause-opened
returns-in-Ok-Unclosed-clause-opened c = let a = c.args in
    let few : a.g.now.m ≤ 190 = omega (arith, c.from-m.ensures) in
    let v =
    ended _ _ a.multipliers.now a.settings (Ok ending.Unclosed) c.open_left.new.g.mark a.node.now.last c.open_left.new.last
    c.without_excluded.ensures (rw c.in-Ok-Unclosed.field-0-is at c.in-Ok-Unclosed.ensures.ending)
    in
    let packed = packed_is a.g.now.m a.node.now.rows few v.1.marks _ _ v.1.bytes (rw c.from-m.ensures at c.pack-node.ensures) in
    (rw c.from-m.ensures at c.split.ensures) v.1.multipliers v.1.told
    ∙ left_unclosed (taken (marked a.g.now a.node.now.rows) a.multipliers.now a.settings) _ few v.0 _ _ v.1 _ packed
