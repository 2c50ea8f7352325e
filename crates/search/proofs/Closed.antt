-- What the calls' answers have in common: the parts of a reply; and what is refused before all input, where a search has to be open, which leaves
-- the record and the lent list. Assumes nothing.
use Rattle.std.specs.Prelude.{◌≡◌, true}
use Rattle.std.proofs.Math.Path.{refl}
use Rattle.std.proofs.Common.{sym, ap, ◌∙◌}
use Rattle.lists.specs.Bools.{by_cases}
use Rattle.graph.specs.declared.refusals.Refusal.{Refusal}
use Rattle.graph.specs.Refusals.{number, not-zero}
use Rattle.machine.specs.Calls.{Call, lent_by}
use Rattle.search.specs.Record.{is_open}
use Rattle.search.specs.Check.{check}
use Rattle.search.specs.Inverse.{Typed}
use Rattle.search.specs.Replies.{Outcome, refuses, closed_fault, reply, lent}
use Rattle.search.specs.ReplyCases.{NeedsOpen, reply_24, lent_24, reply_20, lent_20}
use Rattle.search.specs.declared.Search.{Search}

-- the answer, and the record q that is left, where the reply is known
pub parts : (s q : Search) (c : Call) (o : Outcome) → reply s c ≡ o → q ≡ o.search
    → record { answer : o.answer ≡ (reply s c).answer; left : q ≡ (reply s c).search }
parts s q c o e l = record { answer = ap (λ (x : Outcome). x.answer) (sym e); left = l ∙ ap (λ (x : Outcome). x.search) (sym e) }

pub closed-refused : (s : Search) → (check s ≡ true → Typed s) → (c : Call) → NeedsOpen c → (r : Refusal) → number r ≡ closed_fault s
    → (reply s c ≡ refuses s (number r)) × (lent s c ≡ lent_by c)
closed-refused s t c n r e = by_cases (check s)
    (λ h. by_cases (is_open s)
    (λ o. absurd (not-zero r (e ∙ rw (h, o) refl)))
    (λ o. let z : number r ≡ 20 = e ∙ rw (h, o) refl in rw z (reply_20 s (t h) h o c n, lent_20 s (t h) h o c n)))
    (λ h. let z : number r ≡ 24 = e ∙ rw h refl in rw z (reply_24 s c h, lent_24 s c h))

pub closed-parts : (s : Search) → (check s ≡ true → Typed s) → (c : Call) → NeedsOpen c → (r : Refusal) → number r ≡ closed_fault s
    → record { answer : (refuses s (number r)).answer ≡ (reply s c).answer; left : s ≡ (reply s c).search }
closed-parts s t c n r e = parts s s c _ (closed-refused s t c n r e).0 refl
