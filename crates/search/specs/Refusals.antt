-- WHAT A CALL LEAVES of any record, whoever wrote it: a refusal leaves the record and the lent list as they were (refused-same), tell and
-- show leave the record in any case (tell_same, show_same), and every record that an accepted call leaves passes the check
-- (accepted_passes), as a fresh one does (fresh-passes). `Typed` says only that the record's arrays have the lengths of their types.
-- Assumes nothing.
use Rattle.std.specs.Prelude.{◌≡◌, refl, true, false, List, ℕ}
use Rattle.std.proofs.Common.{sym, ap, ◌∙◌}
use Rattle.std.proofs.lemmas.Bool.{false≢true}
use Rattle.lists.specs.Bools.{by_cases}
use Rattle.machine.specs.Machine.{no_search}
use Rattle.machine.specs.Calls.{Call, tell, show, lent_by, refused, is_accepted, step}
use Rattle.machine.specs.Preserved.{tell_leaves, show_leaves}
use Rattle.machine.proofs.Preserved.{step_kept}
use Rattle.machine.specs.Refusals.{refused-leaves}
use Rattle.search.specs.Record.{fresh, decode, encode}
use Rattle.search.specs.Check.{check, check_yes, check_is}
use Rattle.search.specs.Inverse.{Typed, encode_canonical, encode-decode, decode-kept}
use Rattle.search.specs.Replies.{reply, lent}
use Rattle.search.specs.ReplyCases.{lent_24, lent_same}
use Rattle.search.specs.declared.Search.{Search}

-- 'What the record can be unfit for': "24 the record fails its own check, which docs/ states and which a fresh record and every record left
-- by an accepted call pass". A fresh record passes:
pub fresh-passes : check fresh ≡ true
unfolding encode
fresh-passes = check_yes fresh (encode_canonical no_search tt)

module _ (s : Search) (t : Typed s) where
  -- where the check is passed, the call is the machine's

  search_is : (c : Call) → check s ≡ true → (reply s c).search ≡ encode (step (decode s) c).state
  unfolding reply
  search_is c e = rw e

  answer_is : (c : Call) → check s ≡ true → (reply s c).answer ≡ (step (decode s) c).answer
  unfolding reply
  answer_is c e = rw e

  -- DEMAND 1: "a refusal leaves each lent list and the hunt record unchanged", whatever its number, 24 included
  pub refused-same : (c : Call) (number place : ℕ) → (reply s c).answer ≡ refused number place
      → ((reply s c).search ≡ s) × (lent s c ≡ lent_by c)
  refused-same c number place h = by_cases (check s)
      (λ e. let r = refused-leaves (decode s) c number place (sym (answer_is c e) ∙ h) in (
        search_is c e ∙ ap encode r.state ∙ encode-decode s t (check_is s e),
        lent_same s t e c (decode s) (lent_by c) refl r.lent,
      ))
      (λ e. (unfold reply in rw e, lent_24 s c e))

  -- a call that leaves the machine's state leaves the record, where a refusal 24 does
  same_by : (c : Call) → (step (decode s) c).state ≡ decode s → (check s ≡ false → (reply s c).search ≡ s) → (reply s c).search ≡ s
  same_by c h k = by_cases (check s) (λ e. search_is c e ∙ ap encode h ∙ encode-decode s t (check_is s e)) k

  -- a call that leaves the machine's state leaves the record
  state-same : (c : Call) → (step (decode s) c).state ≡ decode s → (reply s c).search ≡ s
  state-same c h = same_by c h (λ e. unfold reply in rw e)

  -- "Tell and show leave the state as it is": and every record
  pub tell_same : (reply s tell).search ≡ s
  tell_same = same_by tell (tell_leaves (decode s)) (λ e. unfold reply in rw e)

  pub show_same : (l : List ℕ) → (reply s (show l)).search ≡ s
  show_same l = same_by (show l) (show_leaves (decode s) l) (λ e. unfold reply in rw e)

  -- a call on a record that passes, accepted or refused, leaves one that passes
  pub reply-passes : (c : Call) → check s ≡ true → check (reply s c).search ≡ true
  reply-passes c e =
      ap check (search_is c e)
      ∙ check_yes (encode (step (decode s) c).state)
      (encode_canonical (step (decode s) c).state (step_kept (decode s) c (decode-kept s t (check_is s e))))

  -- and every record left by an accepted call passes: the call has itself tested the record that it got
  pub accepted_passes : (c : Call) → is_accepted ((reply s c).answer) ≡ true → check (reply s c).search ≡ true
  accepted_passes c h = by_cases (check s) (reply-passes c) (λ e. absurd (false≢true (sym (refuses_24 e) ∙ h)))
    where
      refuses_24 : check s ≡ false → is_accepted ((reply s c).answer) ≡ false
      refuses_24 e = unfold reply in rw e
