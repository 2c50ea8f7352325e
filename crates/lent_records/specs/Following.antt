-- AN INTERFACE THAT FOLLOWS THE MACHINE IS AS THE MACHINE (`as_the_machine`): where one call, on the records of a state that they can hold,
-- leaves the records of the machine's next state and says what the machine says, whole lists do. Replies by a codec follow it
-- (`replies_follow`). Assumes nothing.
use Rattle.std.specs.Prelude.{◌≡◌, refl, true}
use Rattle.std.proofs.Common.{ap, ◌∙◌}
use mathlib.Core.List.{List, [], ◌∷◌}
use Rattle.lent_records.specs.Machine.{Machine, after, leaves}
use Rattle.lent_records.specs.Records.{Interface, record_after, record_of, AsTheMachine, Codec, Outcome, reply, lent_on, replies}

pub record Follows {m : Machine} (i : Interface m) : Type 1 where
  pub Kept : m.State → Type 0
  pub begun : Kept m.begin
  pub goes_on : (s : m.State) (c : m.Call) → Kept s → Kept (m.next s c)
  pub starts : i.fresh ≡ i.made m.begin
  -- one call on the records of a state
  pub next : (s : m.State) → Kept s → (c : m.Call) → i.next (i.made s) c ≡ i.made (m.next s c)
  pub answer : (s : m.State) → Kept s → (c : m.Call) → i.answer (i.made s) c ≡ i.said (m.answer s c)
  pub list : (s : m.State) → Kept s → (c : m.Call) → i.list (i.made s) c ≡ m.lent s c
  -- these hold the state, and pass their check
  pub back : (s : m.State) → Kept s → i.holds (i.made s) ≡ s
  pub sound : (s : m.State) → Kept s → i.sound (i.made s) ≡ true

module _ {m : Machine} (i : Interface m) (f : Follows i) where
  after_is : (cs : List m.Call) (s : m.State) → f.Kept s
      → (record_after i (i.made s) cs ≡ i.made (after m s cs)) × f.Kept (after m s cs)
  unfolding record_after after
  after_is [] s h = (refl, h)
  after_is (c ∷ cs) s h =
      let r = after_is cs (m.next s c) (f.goes_on s c h) in
      (ap (λ (t : i.Lent). record_after i t cs) (f.next s h c) ∙ r.0, r.1)

  module _ (cs : List m.Call) where
    left : (record_of i cs ≡ i.made (leaves m cs)) × f.Kept (leaves m cs)
    unfolding record_of leaves
    left =
        let r = after_is cs m.begin f.begun in
        (ap (λ (t : i.Lent). record_after i t cs) f.starts ∙ r.0, r.1)

    -- THE CALLS ARE THE MACHINE'S
    pub as_the_machine : AsTheMachine i cs
    as_the_machine = record {
      answered = λ c. ap (λ (t : i.Lent). i.answer t c) left.0 ∙ f.answer (leaves m cs) left.1 c;
      listed = λ c. ap (λ (t : i.Lent). i.list t c) left.0 ∙ f.list (leaves m cs) left.1 c;
      holds = ap i.holds left.0 ∙ f.back (leaves m cs) left.1;
      bytes = left.0;
      passes = ap i.sound left.0 ∙ f.sound (leaves m cs) left.1;
    }

module _ {m : Machine} (k : Codec m) where
  module _ (s : m.State) (h : k.Kept s) (c : m.Call) where
    pub reply_is : reply k (k.encode s) c ≡ record { left = k.encode (m.next s c); answer = k.said (m.answer s c) }
    unfolding reply
    reply_is = rw (k.passes s h, k.returns s h)

    pub lent_is : lent_on k (k.encode s) c ≡ m.lent s c
    unfolding lent_on
    lent_is = rw (k.passes s h, k.returns s h)

  abbrev pub replies_follow : Follows (replies k)
  replies_follow = record {
    Kept = k.Kept;
    begun = k.begun;
    goes_on = k.goes_on;
    starts = refl;
    next = λ s h c. ap (λ (x : Outcome k.Record k.Reply). x.left) (reply_is s h c);
    answer = λ s h c. ap (λ (x : Outcome k.Record k.Reply). x.answer) (reply_is s h c);
    list = lent_is;
    back = k.returns;
    sound = k.passes;
  }
