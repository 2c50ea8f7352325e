-- What the walks of thin functions share. A thin function works on a record of plain data that the caller lends by `&mut`, above a
-- function that takes the record by value and returns it in a struct beside the answer:
--     pub fn f(s: &mut S, ..) -> B { let out = core(*s, ..); *s = out.s; out.b }
-- Arg is what is known of the type of a further parameter; Lent, Ans and Pair are the record's type, the answer's, and that of the struct
-- of the two; passed is what is had at exit of a further parameter, which core has used up. Assumes `Logic`.
use Rattle.std.specs.Prelude.{◌≡◌, refl, ℕ, [], ◌∷◌, List, T}
use Rattle.std.proofs.Common.{subst}
use seplogic.Ra.Ura.{Ura}
use mir.Syntax.{named, mut, Sym, Ty, ty_ref, ty_struct, tnil, tcons, ty_int, w64}
use mir.Val.{Val, vstruct, vnil, vcons, WT, has_ty}
use types.Logic.{Logic}
use Rattle.std.specs.Borrow.{RattleType, u64}
use denote.Laws.{Is, Tells, Makes, Typed}
use denote.Memory.{pointee}
use denote.Plain.{uint_Lawful, uint_Makes}
use denote.Signature.{Slot}
use denote.Struct.Field.{Field, u64-field}
use denote.Struct.Struct.{Plains, layout}
use denote.Struct.Declared.{Declared, row, shape, fields}
use denote.Struct.Laws as LL
use denote.Triple.Walked.{Stay, Goes}
use denote.Exit.{Kept, left}

-- a further parameter's type
pub record Arg : Type 2 where
  pub row : RattleType
  pub val : row.Denot → Val
  pub ty : Ty
  pub tells : Tells row (Is row) (λ x. val x ∷ [])
  pub typed : {M : Type 1} {𝓤 : Ura M} (𝓛 : Logic 𝓤) (x : row.Denot) (v : Val) → Is row x (v ∷ []) → T
      (has_ty ty v) × WT v

-- a built-in type or an array, from its field's laws; a declared struct, from its own; a declared enum
abbrev pub arg_of : (F : Field) → LL.FLaws F → (τ : Ty) → F.row.mir ≡ τ ∷ [] → Arg
arg_of F L τ e = record {
  row = F.row;
  val = L.val;
  ty = τ;
  tells = L.tells;
  typed = λ 𝓛 x v p. (subst
      (λ (τs : List Ty). Typed τs (v ∷ [])) e ((L.lawful 𝓛).typed x (v ∷ []) p)).0;
}

abbrev pub u64_arg : Arg
u64_arg = arg_of u64-field LL.u64-laws (ty_int w64) refl

abbrev pub struct_arg : (D : Declared) → LL.Laws D → Arg
struct_arg D L = record {
  row = row D;
  val = LL.val D L;
  ty = layout (shape D);
  tells = LL.tells D L;
  typed = λ 𝓛 x v p. ((LL.lawful
      D L 𝓛).typed x _ p).0;
}

-- the type of the lent record
pub record Lent : Type 2 where
  pub S : Declared
  pub S-laws : LL.Laws S
  pub S-plain : Plains (fields S)
  pub S-copy : LL.Copyables S.parts

-- the answer's
pub record Ans : Type 2 where
  pub B : RattleType
  pub B-ty : Ty
  pub B-typed : {M : Type 1} {𝓤 : Ura M} (𝓛 : Logic 𝓤) (x : B.Denot) (v : Val) → Is B x (v ∷ []) → T
      (has_ty B-ty v) × WT v
  pub B-makes : {M : Type 1} {𝓤 : Ura M} (𝓛 : Logic 𝓤) → Makes 𝓛 B (Is B)

abbrev pub u64_ans : Ans
u64_ans = record {
  B = u64;
  B-ty = ty_int w64;
  B-typed = λ 𝓛 x v p. ((uint_Lawful 𝓛 w64).typed x _ p).0;
  B-makes = λ 𝓛.
      uint_Makes 𝓛 w64;
}

-- and that of the struct of the two, in this order, that core returns
pub record Pair (Θ : Lent) (Φ : Ans) : Type 2 where
  pub R : RattleType
  pub R-name : Sym
  pub R-typed : {M : Type 1} {𝓤 : Ura M} (𝓛 : Logic 𝓤) (r : R.Denot) (v : Val) → Is R r (v ∷ []) → T
      (has_ty (ty_struct R-name (tcons (layout (shape Θ.S)) (tcons Φ.B-ty tnil))) v) × WT v
  pub the_s : R.Denot → Θ.S.D
  pub the_b : R.Denot → Φ.B.Denot
  pub b_val : R.Denot → Val
  pub R-tells : Tells R (Is R) (λ r. vstruct (vcons (LL.val Θ.S Θ.S-laws (the_s r)) (vcons (b_val r) vnil)) ∷ [])
  pub S-is : (r : R.Denot) (vs : List Val) → Is R r vs → Is (row Θ.S) (the_s r) (LL.vals Θ.S Θ.S-laws (the_s r))
  pub B-is : (r : R.Denot) (vs : List Val) → Is R r vs → Is Φ.B (the_b r) (b_val r ∷ [])

module _ (Θ : Lent) where
  abbrev pub S_ty : Ty
  S_ty = layout (shape Θ.S)

  abbrev pub lent_ty : Ty
  lent_ty = ty_ref (named 0) mut (pointee (row Θ.S).written)

  abbrev pub S_row : RattleType
  S_row = row Θ.S

  abbrev pub S_vals : Θ.S.D → List Val
  S_vals = LL.vals Θ.S Θ.S-laws

  pub S-has : {M : Type 1} {𝓤 : Ura M} (𝓛 : Logic 𝓤) → Makes 𝓛 S_row (Is S_row)
  S-has 𝓛 = LL.makes Θ.S Θ.S-plain 𝓛

abbrev pub R_ty : (Θ : Lent) (Φ : Ans) → Pair Θ Φ → Ty
R_ty Θ Φ Π = ty_struct Π.R-name (tcons (S_ty Θ) (tcons Φ.B-ty tnil))

-- a further parameter is passed on to core for good: what is had of it at exit is what core's contract says of it, whatever its type is
abbrev pub passed : {n : ℕ} (s : Slot n) (k : Kept) → Stay s k
passed s k = record { fit = λ κs x f. Unit {0}; has = λ κs x f vs. left ((s.row κs).exit k) x f }

pub goes_passed : {M : Type 1} {𝓤 : Ura M} (𝓛 : Logic 𝓤) (n : ℕ) (s : Slot n) (k : Kept) → Goes 𝓛 n
    s k (passed s k)
goes_passed 𝓛 n s k κs x f vs _ = 𝓛.laws.⇛_intro _
