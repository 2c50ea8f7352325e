-- A MACHINE'S CALLS ON RECORDS that the caller lends: a way in which they can be made (`Interface`), that whole lists of them are the
-- machine's to the byte (`AsTheMachine`), and the usual way, from how a record holds a state (`Codec`): 24, or the machine's call on the
-- state that the record holds (`reply`, `lent_on`). Definitions only; Following has what is proved.
--     Interface m       fresh records, what a call on them leaves and answers, which state they hold
--     record_of i cs     the records that a list of calls leaves from fresh ones
--     AsTheMachine i cs every answer, every list, every byte after the list, and that 24 never comes up
--     Codec m           encode, decode, the record's check, and their laws
--     reply k r c       the record and the answer of one call
use Rattle.std.specs.Prelude.{◌≡◌, Bool, true, cond, List, [], ◌∷◌, ℕ}
use Rattle.lent_records.specs.Machine.{Machine, leaves}

-- ---- a way in which a machine's calls can be made

pub record Interface (m : Machine) : Type 1 where
  -- what the caller lends, and what a call answers
  pub Lent : Type 0
  pub Reply : Type 0
  pub fresh : Lent
  -- a call: what it leaves of the lent records, its answer, and the lent list as it leaves it
  pub next : Lent → m.Call → Lent
  pub answer : Lent → m.Call → Reply
  pub list : Lent → m.Call → List ℕ
  -- how an answer of the machine's is said
  pub said : m.Answer → Reply
  -- the state that the records hold, the records of a state, and their own check
  pub holds : Lent → m.State
  pub made : m.State → Lent
  pub sound : Lent → Bool

-- "Each call has arguments of its own and gets the record as the call before left it, refused or not"
unfoldable pub record_after : {m : Machine} (i : Interface m) → i.Lent → List m.Call → i.Lent
record_after i r [] = r
record_after i r (c ∷ cs) = record_after i (i.next r c) cs

-- what a list leaves of fresh records
unfoldable pub record_of : {m : Machine} (i : Interface m) → List m.Call → i.Lent
unfolding record_after
record_of i cs = record_after i i.fresh cs

-- "each call answers as document 01's machine does, and after the list the record holds that machine's state": cs are the calls before, c is
-- whatever call comes next
pub record AsTheMachine {m : Machine} (i : Interface m) (cs : List m.Call) : Type 0 where
  -- "each call's answer (accepted, 'going on' or 'finished', verdict, cost, count, or a refusal's number and place)"
  pub answered : (c : m.Call) → i.answer (record_of i cs) c ≡ i.said (m.answer (leaves m cs) c)
  -- "and every byte of show's list"
  pub listed : (c : m.Call) → i.list (record_of i cs) c ≡ m.lent (leaves m cs) c
  -- the state that is compared
  pub holds : i.holds (record_of i cs) ≡ leaves m cs
  -- no other byte is left open
  pub bytes : record_of i cs ≡ i.made (leaves m cs)
  -- "24 never comes up"
  pub passes : i.sound (record_of i cs) ≡ true

-- ---- how a record holds a state, with the laws

pub record Codec (m : Machine) : Type 1 where
  pub Record : Type 0
  pub encode : m.State → Record
  pub decode : Record → m.State
  -- what 24 tests
  pub check : Record → Bool
  -- an answer as the code gives it
  pub Reply : Type 0
  pub said : m.Answer → Reply
  -- the states that a record can hold: the first one, and with a state the next
  pub Kept : m.State → Type 0
  pub begun : Kept m.begin
  pub goes_on : (s : m.State) (c : m.Call) → Kept s → Kept (m.next s c)
  -- the record of one passes the check, and gives it back
  pub passes : (s : m.State) → Kept s → check (encode s) ≡ true
  pub returns : (s : m.State) → Kept s → decode (encode s) ≡ s

pub record Outcome (R A : Type 0) : Type 0 where
  pub left : R
  pub answer : A

module _ {m : Machine} (k : Codec m) where
  -- 24, tested before all else; or the machine's call on the state that the record holds
  unfoldable pub reply : k.Record → m.Call → Outcome k.Record k.Reply
  reply r c =
      cond (k.check r)
      (record { left = k.encode (m.next (k.decode r) c); answer = k.said (m.answer (k.decode r) c) })
      (record { left = r; answer = k.said (m.refused 24) })

  unfoldable pub lent_on : k.Record → m.Call → List ℕ
  lent_on r c = cond (k.check r) (m.lent (k.decode r) c) (m.given c)

  -- the calls so made
  abbrev pub replies : Interface m
  replies = record {
    Lent = k.Record;
    Reply = k.Reply;
    fresh = k.encode m.begin;
    next = λ r c. (reply r c).left;
    answer = λ r c. (reply r c).answer;
    list = lent_on;
    said = k.said;
    holds = k.decode;
    made = k.encode;
    sound = k.check;
  }
