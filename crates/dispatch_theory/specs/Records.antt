-- THE DISPATCHER IN A LENT RECORD: eight records of the machine's states and the number last served, all of which 24 tests (`dispatch_codec`).
-- Every list of calls on it is the dispatcher's to the byte (lent_records' `as_the_machine`), and the record at a place is a fresh record
-- run alone with the calls at that place (`alone-bytes`). Assumes nothing.
use Rattle.std.specs.Prelude.{◌≡◌, Bool, true, ◌&&◌, ℕ, ◌≤◌}
use Rattle.std.proofs.Math.Path.{sym, ap}
use Rattle.std.proofs.Common.{◌∙◌, le-leb}
use mathlib.Core.List.{List, map}
use native.Mathlib.Omega.{arith}
use Rattle.std.proofs.Math.Dec.{leb}
use Rattle.std.specs.List.{AllByRecursion, list_all}
use Rattle.lent_records.specs.Machine.{Machine, Searches, leaves}
use Rattle.lent_records.specs.Places.{under, under-map}
use Rattle.lent_records.specs.Every.{every_replicate, every_put, every_under, every_back, every_passes}
use Rattle.lent_records.specs.Records.{Codec, replies, record_of}
use Rattle.lent_records.specs.Following.{replies_follow, as_the_machine}
use Rattle.dispatch_theory.specs.Dispatcher.{Calls, Dispatcher, DispatchCall, Response, Route, nowhere, to}
use Rattle.dispatch_theory.specs.Dispatcher.{fresh, state_at, routed, places_by, dispatch_next, dispatcher, own}
use Rattle.dispatch_theory.specs.Alone.{alone, last_range}

-- how a record of the type Record has eight records and the number last served, and how an answer is said
pub record Form {m : Machine} (k : Codec m) : Type 1 where
  pub Record : Type 0
  pub make : List k.Record → ℕ → Record
  pub places : Record → List k.Record
  pub last : Record → ℕ
  pub places-made : (l : List k.Record) (n : ℕ) → places (make l n) ≡ l
  pub last_made : (l : List k.Record) (n : ℕ) → last (make l n) ≡ n
  pub Reply : Type 0
  pub said : Response m.Answer → Reply

module _ {m : Machine} (o : Searches m) (h : Calls m) (k : Codec m) (f : Form k) where
  unfoldable pub encode_all : Dispatcher m.State → f.Record
  encode_all d = f.make (map k.encode d.places) d.last

  unfoldable pub decode_all : f.Record → Dispatcher m.State
  decode_all r = record { places = map k.decode (f.places r); last = f.last r }

  -- every place passes its own check, and the number last served is a place, or 0
  unfoldable pub check_all : f.Record → Bool
  check_all r = leb (f.last r) 8 && list_all k.check (f.places r)

  abbrev pub KeptAll : Dispatcher m.State → Type 0
  KeptAll d = (d.last ≤ 8) × AllByRecursion k.Kept d.places

  pub all_begun : KeptAll (fresh m o h)
  unfolding fresh
  all_begun = (omega arith, every_replicate k.Kept 8 m.begin k.begun)

  pub all_next : (d : Dispatcher m.State) (x : DispatchCall h.Opening) → KeptAll d → KeptAll (dispatch_next m o h d x)
  all_next d x q = (last_range m o h d x q.0, unfold dispatch_next in go (routed m o h d x))
    where
      go : (r : Route m.Call) → AllByRecursion k.Kept (places_by m o h d r)
      go nowhere = unfold places_by in q.1
      go (to i c) = unfold places_by state_at in every_put k.Kept d.places i (m.next (under m.begin d.places i) c) q.1
          (k.goes_on (under m.begin d.places i) c (every_under k.Kept m.begin d.places i q.1 k.begun))

  pub all_passes : (d : Dispatcher m.State) → KeptAll d → check_all (encode_all d) ≡ true
  unfolding check_all encode_all
  all_passes d q =
      rw (f.places-made (map k.encode d.places) d.last, f.last_made (map k.encode d.places) d.last)
      (ap (λ (b : Bool). b && list_all k.check (map k.encode d.places)) (le-leb d.last 8 q.0)
      ∙ every_passes k.Kept k.encode k.check k.passes d.places q.1)

  pub all_returns : (d : Dispatcher m.State) → KeptAll d → decode_all (encode_all d) ≡ d
  unfolding decode_all encode_all
  all_returns d q = λ i. record {
    places = (ap (map k.decode) (f.places-made (map k.encode d.places) d.last)
        ∙ every_back k.Kept k.encode k.decode k.returns d.places q.1) i;
    last = f.last_made (map k.encode d.places) d.last i;
  }

  abbrev pub dispatch_codec : Codec (dispatcher m o h)
  dispatch_codec = record {
    Record = f.Record;
    encode = encode_all;
    decode = decode_all;
    check = check_all;
    Reply = f.Reply;
    said = f.said;
    Kept = KeptAll;
    begun = all_begun;
    goes_on = all_next;
    passes = all_passes;
    returns = all_returns;
  }

  -- EACH SEARCH, TO THE BYTE, is a record run alone with its own calls
  pub alone-bytes : (xs : List (DispatchCall h.Opening)) (i : ℕ)
      → under (k.encode m.begin) (f.places (record_of (replies dispatch_codec) xs)) i ≡ record_of (replies k) (own m o h i xs)
  unfolding encode_all state_at
  alone-bytes xs i =
      ap (λ (r : f.Record). under (k.encode m.begin) (f.places r) i)
      (as_the_machine (replies dispatch_codec) (replies_follow dispatch_codec) xs).bytes
      ∙ ap (λ (l : List k.Record). under (k.encode m.begin) l i)
      (f.places-made (map k.encode (leaves (dispatcher m o h) xs).places) (leaves (dispatcher m o h) xs).last)
      ∙ under-map k.encode m.begin (leaves (dispatcher m o h) xs).places i
      ∙ ap k.encode (alone m o h xs i)
      ∙ sym (as_the_machine (replies k) (replies_follow k) (own m o h i xs)).bytes
