-- The numbers of the refusals, as the documents give them. Each call's own definition says, in numbers, what it refuses and in which order; 0 is
-- no fault.
--   number     a refusal's number
--   fault_of   the number that a test's answer stands for
use Rattle.std.specs.Prelude.{◌≡◌, refl, cond, eqb, ℕ, ◌≤◌, Result, Ok, Err}
use Rattle.std.proofs.Common.{sym, ap, ◌∙◌, arith}
use Rattle.graph.specs.declared.refusals.Refusal.{Refusal}
use Rattle.graph.specs.declared.refusals.Refusal.TheVariants as refusal

-- "1 under 8 bytes; 2 n not 3 to 20; .." and so on, in documents 01 and 02
abbrev pub number : Refusal → ℕ
number refusal.TooShort = 1
number refusal.VertexCount = 2
number refusal.HeaderPadding = 3
number refusal.RecordCount = 4
number refusal.NoSuchRecord = 5
number refusal.RecordAgain = 6
number refusal.Ends = 7
number refusal.MarkOrPadding = 8
number refusal.Cost = 9
number refusal.PairAgain = 10
number refusal.Length = 11
number refusal.Multiplier = 12
number refusal.Ceiling = 13
number refusal.Settings = 14
number refusal.Graph = 15
number refusal.NotOpen = 20
number refusal.AlreadyOpen = 21
number refusal.NodesWait = 22
number refusal.NoTour = 23
number refusal.Record = 24
number refusal.NoSuchEdge = 30
number refusal.NotFree = 31
number refusal.Denominator = 32
number refusal.Name = 33
number refusal.NothingSaved = 34
number refusal.Ashore = 35
number refusal.Tour = 36
number refusal.StudentOrSpread = 37
number refusal.Window = 38
number refusal.LogEntry = 39
number refusal.NoNodes = 40
number refusal.Full = 41
number refusal.Place = 42

abbrev pub fault_of : {T : Type 0} → Result T Refusal → ℕ
fault_of (Ok x) = 0
fault_of (Err r) = number r

-- no refusal has the number 0
pub positive : (r : Refusal) → 1 ≤ number r
positive refusal.TooShort = omega arith
positive refusal.VertexCount = omega arith
positive refusal.HeaderPadding = omega arith
positive refusal.RecordCount = omega arith
positive refusal.NoSuchRecord = omega arith
positive refusal.RecordAgain = omega arith
positive refusal.Ends = omega arith
positive refusal.MarkOrPadding = omega arith
positive refusal.Cost = omega arith
positive refusal.PairAgain = omega arith
positive refusal.Length = omega arith
positive refusal.Multiplier = omega arith
positive refusal.Ceiling = omega arith
positive refusal.Settings = omega arith
positive refusal.Graph = omega arith
positive refusal.NotOpen = omega arith
positive refusal.AlreadyOpen = omega arith
positive refusal.NodesWait = omega arith
positive refusal.NoTour = omega arith
positive refusal.Record = omega arith
positive refusal.NoSuchEdge = omega arith
positive refusal.NotFree = omega arith
positive refusal.Denominator = omega arith
positive refusal.Name = omega arith
positive refusal.NothingSaved = omega arith
positive refusal.Ashore = omega arith
positive refusal.Tour = omega arith
positive refusal.StudentOrSpread = omega arith
positive refusal.Window = omega arith
positive refusal.LogEntry = omega arith
positive refusal.NoNodes = omega arith
positive refusal.Full = omega arith
positive refusal.Place = omega arith

-- so what `?` hands on is a fault
pub not-zero : (r : Refusal) → number r ≡ 0 → ⊥
not-zero r z = omega (arith, positive r, z)

-- and no two have one number: the refusal of a number
refusal_of : ℕ → Refusal
refusal_of n =
    cond (eqb n 1) refusal.TooShort (
    cond (eqb n 2) refusal.VertexCount (
    cond (eqb n 3) refusal.HeaderPadding (
    cond (eqb n 4) refusal.RecordCount (
    cond (eqb n 5) refusal.NoSuchRecord (
    cond (eqb n 6) refusal.RecordAgain (
    cond (eqb n 7) refusal.Ends (
    cond (eqb n 8) refusal.MarkOrPadding (
    cond (eqb n 9) refusal.Cost (
    cond (eqb n 10) refusal.PairAgain (
    cond (eqb n 11) refusal.Length (
    cond (eqb n 12) refusal.Multiplier (
    cond (eqb n 13) refusal.Ceiling (
    cond (eqb n 14) refusal.Settings (
    cond (eqb n 15) refusal.Graph (
    cond (eqb n 20) refusal.NotOpen (
    cond (eqb n 21) refusal.AlreadyOpen (
    cond (eqb n 22) refusal.NodesWait (
    cond (eqb n 23) refusal.NoTour (
    cond (eqb n 24) refusal.Record (
    cond (eqb n 30) refusal.NoSuchEdge (
    cond (eqb n 31) refusal.NotFree (
    cond (eqb n 32) refusal.Denominator (
    cond (eqb n 33) refusal.Name (
    cond (eqb n 34) refusal.NothingSaved (
    cond (eqb n 35) refusal.Ashore (
    cond (eqb n 36) refusal.Tour (
    cond (eqb n 37) refusal.StudentOrSpread (
    cond (eqb n 38) refusal.Window (
    cond (eqb n 39) refusal.LogEntry (
    cond (eqb n 40) refusal.NoNodes (
    cond (eqb n 41) refusal.Full (
    refusal.Place))))))))))))))))))))))))))))))))

again : (r : Refusal) → refusal_of (number r) ≡ r
unfolding refusal_of
again refusal.TooShort = refl
again refusal.VertexCount = refl
again refusal.HeaderPadding = refl
again refusal.RecordCount = refl
again refusal.NoSuchRecord = refl
again refusal.RecordAgain = refl
again refusal.Ends = refl
again refusal.MarkOrPadding = refl
again refusal.Cost = refl
again refusal.PairAgain = refl
again refusal.Length = refl
again refusal.Multiplier = refl
again refusal.Ceiling = refl
again refusal.Settings = refl
again refusal.Graph = refl
again refusal.NotOpen = refl
again refusal.AlreadyOpen = refl
again refusal.NodesWait = refl
again refusal.NoTour = refl
again refusal.Record = refl
again refusal.NoSuchEdge = refl
again refusal.NotFree = refl
again refusal.Denominator = refl
again refusal.Name = refl
again refusal.NothingSaved = refl
again refusal.Ashore = refl
again refusal.Tour = refl
again refusal.StudentOrSpread = refl
again refusal.Window = refl
again refusal.LogEntry = refl
again refusal.NoNodes = refl
again refusal.Full = refl
again refusal.Place = refl

pub number-injective : (r s : Refusal) → number r ≡ number s → r ≡ s
number-injective r s e = sym (again r) ∙ (ap refusal_of e ∙ again s)
