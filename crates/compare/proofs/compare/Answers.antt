-- Each pair's count, behind the fault.
use Rattle.std.proofs.Common.{◌≡◌, Err, sym, ap, ◌∙◌, rules}
use Rattle.search.specs.Replies.{means}
use Rattle.compare.specs.Faults.{no_fault, reply-refused, refused-leaves, reply_accepted, counted-leaves}
use Rattle.compare.proofs.compare.Goals as goal

pub returns-in_err-fault : goal.returns-in_err-fault
returns-in_err-fault c =
    let refusal = c.in_err-fault.field-0.0 in
    let is : c.from_residual.result ≡ Err refusal = search rules in
    (ap means is ∙ reply-refused _ _ _ _ _ _ _ refusal c.in_err-fault.ensures, refused-leaves _ _ _ _ _ _ _ refusal c.in_err-fault.ensures)

pub count_all-requires : goal.count_all-requires
count_all-requires c =
    let f = no_fault _ _ _ _ _ _ _ (sym c.in_ok-fault.ensures) in (f.steps_size, f.report_size)

pub returns : goal.returns
returns c =
    let none = sym c.in_ok-fault.ensures in
    (sym (reply_accepted _ _ _ _ _ _ _ none), c.count_all.ensures ∙ sym (counted-leaves _ _ _ _ _ _ _ none))
