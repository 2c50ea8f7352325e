-- By what the tree part found.
use Rattle.std.proofs.Common.{sym, ◌∙◌, true≢false}
use Rattle.node.specs.Faults.{fault-fit}
use Rattle.node.specs.OnePass.{tree_found, tree-ruled}
use Rattle.node.proofs.passes.judge.Goals as goal

pub invariant_of-count_degrees : goal.invariant_of-count_degrees
invariant_of-count_degrees c =
    let least = rw c.in-Some.is at c.in_ok-found.ensures.tree in
    record { valid = (fault-fit _ least.none).valid }

pub returns-then-two_each-clause-verdict : goal.returns-then-two_each-clause-verdict
returns-then-two_each-clause-verdict c =
    let least = rw c.in-Some.is at c.in_ok-found.ensures.tree in
    let w = least.within in
    let two = rw c.from.ensures at (c.two_each.ensures.0 c.if-two_each.true) in (
      least.none,
      tree_found _ _ _ (fault-fit _ least.none).valid _ _ _ w.tree w.least w.low _ _ least.bytes c.count_degrees-degrees.ensures two,
    )

pub returns-clause-verdict : goal.returns-clause-verdict
returns-clause-verdict c =
    let least = rw c.in-Some.is at c.in_ok-found.ensures.tree in
    let w = least.within in
    let made = c.apply.ensures.marks in (
      least.none,
      tree-ruled _ _ _ (fault-fit _ least.none).valid _ _ _ w.tree w.least w.low _ _ least.bytes c.count_degrees-degrees.ensures _ _ least.ruled
          made (λ two. true≢false (sym ((rw c.from.ensures at c.two_each.ensures.1) two) ∙ c.if-two_each.false)),
      least.few,
    )
