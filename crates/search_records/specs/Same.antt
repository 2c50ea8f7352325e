-- Lists of calls, and histories, of `search_machine` are the machine's own; and the five calls follow it. Assumes nothing.
use Rattle.std.specs.Prelude.{◌≡◌, refl, List, [], ◌∷◌}
use Rattle.std.proofs.Math.Path.{ap}
use Rattle.machine.specs.Machine.{State, no_search}
use Rattle.machine.specs.Calls.{Call, Answer, step, state_after, History, no_opening, history_after}
use Rattle.machine.specs.Calls as calls
use Rattle.machine.specs.Kept.{KeptState}
use Rattle.machine.proofs.Preserved.{step_kept}
use Rattle.search.specs.Record.{encode}
use Rattle.search.specs.Inverse.{decode-encode}
use Rattle.search.specs.Replies.{Outcome}
use Rattle.search.specs.Theorem.{encode-passes, reply_is, lent_is}
use Rattle.lent_records.specs.Machine.{after, leaves, noted}
use Rattle.lent_records.specs.Following.{Follows}
use Rattle.search_records.specs.Searching.{search_machine, note}
use Rattle.search_records.specs.Calls.{search_calls}

same_after : (cs : List Call) (s : State) → state_after s cs ≡ after search_machine s cs
unfolding state_after after
same_after [] s = refl
same_after (c ∷ cs) s = same_after cs (step s c).state

pub same-leaves : (cs : List Call) → calls.leaves cs ≡ leaves search_machine cs
unfolding calls.leaves leaves
same-leaves cs = same_after cs no_search

same_noted : (cs : List Call) (s : State) (h : History) → history_after s h cs ≡ noted search_machine note s h cs
unfolding history_after noted
same_noted [] s h = refl
same_noted (c ∷ cs) s h = same_noted cs (step s c).state (note s c h)

pub same-history : (cs : List Call) → calls.history cs ≡ noted search_machine note no_search no_opening cs
unfolding calls.history
same-history cs = same_noted cs no_search no_opening

pub calls-follow : {A : Type 0} (f : Answer → A) → Follows (search_calls f)
calls-follow f = record {
  Kept = KeptState;
  begun = tt;
  goes_on = step_kept;
  starts = unfold encode in refl;
  next = λ s h c. ap (λ (o : Outcome). o.search) (reply_is s h c);
  answer = λ s h c. ap (λ (o : Outcome). f o.answer) (reply_is s h c);
  list = lent_is;
  back = decode-encode;
  sound = encode-passes;
}
