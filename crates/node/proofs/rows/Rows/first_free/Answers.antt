-- Word by word: the bits are those of the edges that neither row has.
use Rattle.std.proofs.Common.{◌≡◌, refl, sym, subst, ℕ, ◌+◌, ◌-◌, ◌≤◌, List, get_or}
use Rattle.std.specs.Int.Bits.{bit_and, bit_or}
use Rattle.mark_rows.specs.MarkRows.{row_words}
use Rattle.node.specs.Walking.{Masked, within, walk_first}
use Rattle.node.specs.Words.{full_of, free_in, free_masked, none_more, first_in}
use Rattle.node.proofs.rows.Rows.first_free.Goals as goal

masked : (m : ℕ) (rows : List ℕ) (w x : ℕ) → m ≤ 190 → x ≡ full_of m w - bit_and (bit_or (get_or rows w 0) (get_or rows (row_words + w) 0)) (full_of m w)
    → Masked (free_in m rows) m w x
masked m rows w x few e = subst (λ (y : ℕ). Masked (free_in m rows) m w y) (sym e) (free_masked m rows few w)

pub returns-then-x-ne0-clause-first : goal.returns-then-x-ne0-clause-first
returns-then-x-ne0-clause-first c =
    let x = c.complement-x in
    first_in _ _ c.loop-w.w x.result (masked _ _ _ _ c.args.self.now.few x.ensures) c.if-x-ne0.true c.loop-w.invariant

pub returns-then-x-ne0-clause-within : goal.returns-then-x-ne0-clause-within
returns-then-x-ne0-clause-within c =
    let x = c.complement-x in
    let h = masked _ _ _ _ c.args.self.now.few x.ensures in
    within _ _ c.loop-w.w _ h x.result _ (walk_first _ _ _ _ h _ refl) c.if-x-ne0.true

pub loop-w-preserved : goal.loop-w-preserved
loop-w-preserved c =
    let x = c.complement-x in
    none_more _ _ c.loop-w.w x.result (masked _ _ _ _ c.args.self.now.few x.ensures) c.if-x-ne0.false c.loop-w.invariant
