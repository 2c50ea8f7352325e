-- The walk of a thin function whose further parameters are: plain data, a `&[i32]`, and plain data.
--     pub fn f(s: &mut S, ..) -> B { let out = core(*s, ..); *s = out.s; out.b }
-- It opens the borrow, copies the record, calls core by its theorem, stores the record that core gives, by way of a local as the code is
-- lowered, and closes the borrow. Nothing here is of the calls themselves. Assumes `Logic`.
use Rattle.std.specs.Prelude.{◌≡◌, refl, ℕ, [], ◌∷◌, List, length, ℤ}
use Rattle.std.proofs.Common.{ap}
use seplogic.Ra.Ura.{Ura}
use base.Fraction.{full_share}
use mir.Syntax.{named, imm, Callee, ty_ref, ty_int, w32, Fn, local, value_local, place, deref, field, copy, rv_opd, seq, assign, call, return}
use mir.Val.{Val, vptr}
use base.Logic.{SProp, ent, sep, emp, id⊢}
use base.Fml.{GName, Lft, Share, ftrue, flft, fobs, fbor, fat}
use prog.Model.{Model}
use prog.Routine.{Routine, Env}
use prog.Wp.{Calls, Loops, WpFn, Tables, Closed}
use contract.Running.{Running, tables, tables_of}
use denote.Triple.Table.{entered, cited}
use types.Logic.{Logic}
use contract.Monad.{fact}
use types.Kit.{‵, raw, ◌⊛◌, ⋆, some, later, ◌$◌, ◌∵◌, !, qed, by, move, keep, drop, use1, use3, split, join, pick, rewrite, fsplit, fsplit3, fjoin, fjoin3, feq_i, suffices, frame, await, done}
use types.Run.{look, look_raw, init, store_raw, forget, stop, hop, fld, from, load, of_opd, and_then, no_more, assigns, land, returns, enter, alloc1, alloc0, params1, pass1, pass0, free1, free0}
use types.Part.{whole, sub, look_in}
use types.SemTy.{Body}
use sound.WpLaws.{FmC, fm_of, WpFn-mono}
use denote.RattleType.{owns}
use denote.Laws.{Is, shows}
use denote.Memory.{mem}
use Rattle.std.specs.Borrow.{i32}
use denote.Ref.{Bor, MutBor, MutRef, mut_vals, mut_Tells}
use denote.Slice.{slice_val, shr_slice_vals, slice_ty, ShrSlice, Room, shr_slice_Tells}
use denote.Signature.{plain, mut_ref_to, shr_slice_of}
use denote.Steps.{only, opens, closes, owned, peeks, heard}
use denote.Struct.Steps.{spelt}
use denote.Struct.Laws as LL
use denote.Triple.Statement.{Contract, Triple}
use denote.Triple.Call.{calls_at}
use denote.Triple.Clauses.{Ended, Clauses, Lasts, ensured, lasts, closing}
use denote.Triple.End.{lasts_of}
use denote.Triple.Entry.{on_entry}
use denote.Triple.Spec.{Meets, triple_of}
use denote.Triple.Walked.{says, Stays, stay_ref, walk_of, Goes-ref, ends_at, walked, walk_Meets}
use denote.Exit.{yes}
use Rattle.thin.specs.Parts.{Lent, Ans, Pair, Arg, S_ty, R_ty, lent_ty, S_row, S_vals, S-has, passed, goes_passed}

module _ (Θ : Lent) (Φ : Ans) (Π : Pair Θ Φ) (P0 : Arg) (P2 : Arg) where
  abbrev Core : Ended
  Core = record { signature = record { lifetimes = 1; outlives = []; params = plain (λ _. S_row Θ) ∷ plain (λ _. P0.row) ∷ shr_slice_of (0 ∷ []) tt (plain (λ _. i32)) ∷ plain (λ _. P2.row) ∷ []; result = plain (λ _. Π.R) }; kept = (yes, (yes, (yes, (yes, tt)))) }

  abbrev Thin : Ended
  Thin = record { signature = record { lifetimes = 2; outlives = []; params = mut_ref_to (0 ∷ []) tt (plain (λ _. S_row Θ)) ∷ plain (λ _. P0.row) ∷ shr_slice_of (1 ∷ []) tt (plain (λ _. i32)) ∷ plain (λ _. P2.row) ∷ []; result = plain (λ _. Φ.B) }; kept = (yes, (yes, (yes, (yes, tt)))) }

  abbrev fn : Callee → Fn
  fn f = record {
    lifetimes = 2;
    outlives = [];
    ty_params = [];
    givens = 0;
    params = 4;
    locals = local Φ.B-ty value_local ∷ local (lent_ty Θ) value_local ∷ local P0.ty value_local ∷ local (slice_ty (ty_ref (named 1) imm (ty_int w32))) value_local ∷ local P2.ty value_local ∷ local (R_ty Θ Φ Π) value_local ∷ local (S_ty Θ) value_local ∷ local (S_ty Θ) value_local ∷ [];
    body = seq (assign (place 6 []) (rv_opd (copy (place 1 (deref (S_ty Θ) ∷ [])))))
        (seq (call f (copy (place 6 []) ∷ copy (place 2 []) ∷ copy (place 3 []) ∷ copy (place 4 []) ∷ []) (place 5 []))
        (seq (assign (place 7 []) (rv_opd (copy (place 5 (field 0 ∷ [])))))
        (seq (assign (place 1 (deref (S_ty Θ) ∷ [])) (rv_opd (copy (place 7 []))))
        (seq (assign (place 0 []) (rv_opd (copy (place 5 (field 1 ∷ []))))) return))));
  }

  abbrev stayed : Stays Thin.signature.params Thin.kept
  stayed = (stay_ref (0 ∷ []) tt (plain (λ _. S_row Θ)), (passed (plain (λ _. P0.row)) yes, (passed (shr_slice_of (1 ∷ []) tt (plain (λ _. i32))) yes, (passed (plain (λ _. P2.row)) yes, tt))))

  module _ {M : Type 1} {𝓤 : Ura M} (𝓛 : Logic 𝓤) (req : Θ.S.D → P0.row.Denot → List ℤ → P2.row.Denot → SProp 𝓤) (ens : Θ.S.D → P0.row.Denot → List ℤ → P2.row.Denot → Π.R.Denot → Type 0) (told : Θ.S.D → P0.row.Denot → List ℤ → P2.row.Denot → Φ.B.Denot → Θ.S.D → Type 0)
      (so : (h : Θ.S.D) (n0 : P0.row.Denot) (n1 : List ℤ) (n2 : P2.row.Denot) (r : Π.R.Denot) → ens h n0 n1 n2 r → told h n0 n1 n2 (Π.the_b r) (Π.the_s r)) where
    open 𝓛 use {H}

    abbrev core : Clauses 𝓤 Core
    core κs a = record { ghost = Unit {0}; requires = λ _. req a.0 a.1.0 a.1.1.0.now a.1.1.1.0; ensures = λ _ r e. fact 𝓤 (ens a.0 a.1.0 a.1.1.0.now a.1.1.1.0 r) }

    abbrev thin : Clauses 𝓤 Thin
    thin κs a = record { ghost = Unit {0}; requires = λ _. req a.0.now a.1.0 a.1.1.0.now a.1.1.1.0; ensures = λ _ r e. fact 𝓤 (told a.0.now a.1.0 a.1.1.0.now a.1.1.1.0 r e.0.now) }

    abbrev Core_at : Contract 𝓤
    Core_at = triple_of 𝓛 Core.signature (closing 𝓛 Core core)

    module _ (κ : Lft) (q : Share) (b o : ℕ) (γ : GName) (h : Θ.S.D) (n0 : P0.row.Denot) (is0 : Is P0.row n0 (P0.val n0 ∷ [])) (κ1 : Lft) (q1 : Share) (b1 o1 : ℕ) (n1 : List ℤ) (room1 : Room i32 (length n1)) (n2 : P2.row.Denot) (is2 : Is P2.row n2 (P2.val n2 ∷ [])) where
      abbrev x : MutBor Θ.S.D × (P0.row.Denot × (Bor (List ℤ) × (P2.row.Denot × (Unit {0}))))
      x = (record { ref_ptr = (b, o); ghost_name = γ; now = h }, (n0, (record { ref_ptr = (b1, o1); now = n1 }, (n2, tt))))

      abbrev at : List Val × (List Val × (List Val × (List Val × (Unit {0}))))
      at = (vptr b o ∷ [], (P0.val n0 ∷ [], (slice_val (b1, o1) (length n1) ∷ [], (P2.val n2 ∷ [], tt))))

      -- what core is passed beside the record
      abbrev cx : P0.row.Denot × (Bor (List ℤ) × (P2.row.Denot × (Unit {0})))
      cx = (n0, (record { ref_ptr = (b1, o1); now = n1 }, (n2, tt)))

      abbrev cat : List Val × (List Val × (List Val × (Unit {0})))
      cat = (P0.val n0 ∷ [], (slice_val (b1, o1) (length n1) ∷ [], (P2.val n2 ∷ [], tt)))

      abbrev Post : Val → SProp 𝓤
      Post = (walk_of 𝓛 Thin stayed thin).post (((κ, (κ1, tt)), (q, (q1, tt)), tt, x, at), tt)

      exits : (r : Π.R.Denot) (ws : Lasts Core (κ1, tt) (h, cx)) → ens h n0 n1 n2 r → Is Φ.B (Π.the_b r) (Π.b_val r ∷ [])
          → ent 𝓤 (⋆ 𝓛 (‵ (fobs γ ((S_row Θ).coded.code (Π.the_s r))) ∷ ‵ (fbor κ (Body (mem (S_row Θ)) b o γ)) ∷ ‵ (flft κ q) ∷ (‵ (flft κ1 q1) ⊛ ‵ ftrue) ∷ ‵ (lasts_of {n = 1} (κ1, tt) (plain (λ _. P0.row) ∷ shr_slice_of (0 ∷ []) tt (plain (λ _. i32)) ∷ plain (λ _. P2.row) ∷ []) (yes, (yes, (yes, tt))) (cx) ws.1) ∷ [])) (Post (Π.b_val r))
      exits r ws e is =
          qed 𝓛 (‵ (fobs γ ((S_row Θ).coded.code (Π.the_s r))) ∷ ‵ (fbor κ (Body (mem (S_row Θ)) b o γ)) ∷ ‵ (flft κ q) ∷ (‵ (flft κ1 q1) ⊛ ‵ ftrue) ∷ ‵ (lasts_of {n = 1} (κ1, tt) (plain (λ _. P0.row) ∷ shr_slice_of (0 ∷ []) tt (plain (λ _. i32)) ∷ plain (λ _. P2.row) ∷ []) (yes, (yes, (yes, tt))) (cx) ws.1) ∷ []) ∵
          suffices ! _ (ends_at 𝓛 Thin stayed thin (((κ, (κ1, tt)), (q, (q1, tt)), tt, x, at), tt) (Π.b_val r) (Π.the_b r) (Π.the_s r, ws.1) (tt, (tt, (tt, (tt, tt))))) $
          says ! (so h n0 n1 n2 r e) $ move ! (2 ∷ 3 ∷ []) $ join ! $ frame ! $ feq_i ! (List Val) (vptr b o ∷ []) (vptr b o ∷ []) refl $ fjoin3 ! $ fjoin ! $ frame ! $
          owned ! Φ.B (Is Φ.B) (Φ.B-makes 𝓛) (Π.the_b r) _ is $ done !

      abbrev to_core : Core_at.Ghost
      to_core = (((κ1, tt), (q1, tt), tt, (h, cx), (S_vals Θ h, cat)), tt)

      goes_core : Is (S_row Θ) h (S_vals Θ h) → ent 𝓤 (⋆ 𝓛 (raw (req h n0 n1 n2) ∷ ‵ (owns (P0.row ∷ ShrSlice (named 1) κ1 i32 ∷ P2.row ∷ []) (cx) (cat)) ∷ (‵ (flft κ1 q1) ⊛ ‵ ftrue) ∷ [])) (Core_at.pre to_core)
      goes_core is = qed 𝓛 (raw (req h n0 n1 n2) ∷ ‵ (owns (P0.row ∷ ShrSlice (named 1) κ1 i32 ∷ P2.row ∷ []) (cx) (cat)) ∷ (‵ (flft κ1 q1) ⊛ ‵ ftrue) ∷ []) ∵ move ! (1 ∷ []) $ owned ! (S_row Θ) (Is (S_row Θ)) (S-has Θ 𝓛) h _ is $ fjoin ! $ move ! (2 ∷ 0 ∷ []) $ join ! $ join ! $ done !

      module _ (C : Calls 𝓤 H) (Λ : Loops 𝓤 H) (fm : FmC 𝓤 H 𝓛.laws C) (f : Callee) (known : Triple 𝓤 (C f) Core_at) where
        walk : ent 𝓤 (sep 𝓤 (on_entry 𝓛 Thin.signature (κ, (κ1, tt)) (q, (q1, tt)) x at) (req h n0 n1 n2)) (WpFn 𝓤 H C Λ (fn f) (vptr b o ∷ P0.val n0 ∷ slice_val (b1, o1) (length n1) ∷ P2.val n2 ∷ []) Post)
        walk =
            qed 𝓛 (((‵ (flft κ q) ⊛ ‵ (flft κ1 q1) ⊛ ‵ ftrue) ⊛ ‵ (owns (MutRef (named 0) κ (S_row Θ) ∷ P0.row ∷ ShrSlice (named 1) κ1 i32 ∷ P2.row ∷ []) x at)) ∷ raw (req h n0 n1 n2) ∷ []) ∵ split ! $ enter ! C Λ (fn f) (vptr b o ∷ P0.val n0 ∷ slice_val (b1, o1) (length n1) ∷ P2.val n2 ∷ []) _ $
            alloc1 ! (λ l0. alloc1 ! (λ l1. alloc1 ! (λ l2. alloc1 ! (λ l3. alloc1 ! (λ l4. alloc1 ! (λ l5. alloc1 ! (λ l6. alloc1 ! (λ l7. alloc0 ! $ params1 ! $ pass1 ! (init ! 12 refl (tt, tt)) $ pass1 ! (init ! 10 refl (P0.typed 𝓛 n0 _ is0)) $ pass1 ! (init ! 8 refl (tt, (tt, (record { fits = room1.0 }, tt)))) $ pass1 ! (init ! 6 refl (P2.typed 𝓛 n2 _ is2)) $ pass0 ! $
            move ! (17 ∷ []) $ fsplit ! $ fsplit3 ! $ drop ! $ move ! (19 ∷ []) $ split ! $ move ! (2 ∷ 3 ∷ 0 ∷ []) $
            opens ! tt (S_row Θ) {h = h} b o (λ vs. spelt ! (S_row Θ) (Is (S_row Θ)) (shows 𝓛 (S_row Θ)) (S_vals Θ) (LL.tells Θ.S Θ.S-laws) full_share h vs b o $
            move ! (1 ∷ []) $ peeks ! (S_row Θ) (Is (S_row Θ)) (shows 𝓛 (S_row Θ)) h (S_vals Θ h) (λ was. move ! (1 ∷ 0 ∷ []) $
            -- [the record's cell; what it owns; the open borrow; obs; auth; the tokens; what the further parameters own; the last local; …; room for _0; …; the requires]
            assigns ! (of_opd ! (load ! (from ! (hop ! (look ! 19 refl) (stop !))) (look_raw ! 0 refl))) (from ! (stop !)) (init ! 9 refl ((LL.lawful Θ.S Θ.S-laws 𝓛).typed h _ was).0) $
            move ! (23 ∷ 6 ∷ 5 ∷ []) $ use3 𝓛 (raw (Core_at.pre to_core)) (goes_core was) $
            calls_at ! fm Core_at known to_core (and_then ! (load ! (from ! (stop !)) (look ! 8 refl)) (and_then ! (load ! (from ! (stop !)) (look ! 16 refl)) (and_then ! (load ! (from ! (stop !)) (look ! 14 refl)) (and_then ! (load ! (from ! (stop !)) (look ! 12 refl)) (no_more !))))) (λ v.
            use1 𝓛 (later (some (λ (r : Π.R.Denot). ((‵ (flft κ1 q1) ⊛ ‵ ftrue) ⊛ ‵ (Π.R.own_val r (v ∷ []))) ⊛ raw (ensured 𝓛 Core core (κ1, tt) (h, cx) tt r)))) (id⊢ 𝓤 _) $ await ! tt $ pick ! (λ r.
            split ! $ move ! (1 ∷ []) $ use1 𝓛 (some (λ (ws : Lasts Core (κ1, tt) (h, cx)). ‵ (lasts Core (κ1, tt) (h, cx) ws) ⊛ raw (fact 𝓤 (ens h n0 n1 n2 r)))) (id⊢ 𝓤 _) $ pick ! (λ ws.
            split ! $ move ! (1 ∷ []) $ heard ! (ens h n0 n1 n2 r) (λ e. fsplit ! $ drop ! $ move ! (1 ∷ []) $ split ! $ move ! (1 ∷ []) $
            peeks ! Π.R (Is Π.R) (shows 𝓛 Π.R) r (v ∷ []) (λ is. drop ! $
            -- [the tokens; what is said at exit; the record's cell; what it owns; the open borrow; obs; auth; the last local; …]
            land ! (from ! (stop !)) (init ! 11 refl (Π.R-typed 𝓛 r _ is)) $ rewrite ! 11 (λ (u : Val). ‵ (fat full_share (R_ty Θ Φ Π) l5 0 u)) (ap only (Π.R-tells r _ is)) refl $
            assigns ! (of_opd ! (load ! (from ! (fld ! refl (stop !))) (look_in ! 11 (sub ! 0 refl (whole !))))) (from ! (stop !))
            (init ! 7 refl ((LL.lawful Θ.S Θ.S-laws 𝓛).typed (Π.the_s r) _ (Π.S-is r _ is)).0) $
            assigns ! (of_opd ! (load ! (from ! (stop !)) (look ! 7 refl))) (from ! (hop ! (look ! 19 refl) (stop !)))
            (store_raw ! 2 refl ((LL.lawful Θ.S Θ.S-laws 𝓛).typed (Π.the_s r) _ (Π.S-is r _ is)).0) $
            assigns ! (of_opd ! (load ! (from ! (fld ! refl (stop !))) (look_in ! 11 (sub ! 1 refl (whole !))))) (from ! (stop !)) (init ! 21 refl (Φ.B-typed 𝓛 (Π.the_b r) _ (Π.B-is r _ is))) $
            move ! (3 ∷ []) $ drop ! $ owned ! (S_row Θ) (Is (S_row Θ)) (S-has Θ 𝓛) (Π.the_s r) _ (Π.S-is r _ is) $ move ! (3 ∷ 0 ∷ 4 ∷ 5 ∷ 6 ∷ []) $ closes ! tt (S_row Θ) (Π.the_s r) (S_vals Θ (Π.the_s r)) b o $
            returns ! (look ! 19 refl) $ forget ! 5 refl $ forget ! 7 refl $ forget ! 9 refl $ forget ! 11 refl $ forget ! 13 refl $ forget ! 15 refl $ forget ! 17 refl $ forget ! 19 refl $
            move ! (19 ∷ 20 ∷ []) $ free1 ! $ move ! (17 ∷ 18 ∷ []) $ free1 ! $ move ! (15 ∷ 16 ∷ []) $ free1 ! $ move ! (13 ∷ 14 ∷ []) $ free1 ! $ move ! (11 ∷ 12 ∷ []) $ free1 ! $ move ! (9 ∷ 10 ∷ []) $ free1 ! $ move ! (7 ∷ 8 ∷ []) $ free1 ! $ move ! (5 ∷ 6 ∷ []) $ free1 ! $ free0 ! $
            keep ! (0 ∷ 1 ∷ 2 ∷ 3 ∷ 4 ∷ []) $ by ! (exits r ws e (Π.B-is r _ is)))))))))))))))))

    pub meets : (𝓣 : Tables 𝓤 H) (f : Callee) → Triple 𝓤 (𝓣.C f) Core_at → Meets 𝓛 Thin.signature (WpFn 𝓤 H 𝓣.C 𝓣.Λ (fn f)) (closing 𝓛 Thin thin)
    meets 𝓣 f known =
        walk_Meets 𝓛 Thin stayed (Goes-ref 𝓛 2 0 tt (plain (λ _. S_row Θ)), (goes_passed 𝓛 2 (plain (λ _. P0.row)) yes, (goes_passed 𝓛 2 (shr_slice_of (1 ∷ []) tt (plain (λ _. i32))) yes, (goes_passed 𝓛 2 (plain (λ _. P2.row)) yes, tt)))) thin (WpFn 𝓤 H 𝓣.C 𝓣.Λ (fn f)) (WpFn-mono 𝓤 H 𝓛.laws 𝓣 (fn f))
        (walked 𝓛 Thin stayed thin (WpFn 𝓤 H 𝓣.C 𝓣.Λ (fn f)) (λ κs. (mut_vals, ((λ y. P0.val y ∷ []), (shr_slice_vals, ((λ y. P2.val y ∷ []), tt))))) (λ κs. (mut_Tells (named 0) κs.0 (S_row Θ), (P0.tells, (shr_slice_Tells (named 1) κs.1.0 i32, (P2.tells, tt)))))
        (λ κs qs bounds a _ are. walk κs.0 qs.0 a.0.ref_ptr.0 a.0.ref_ptr.1 a.0.ghost_name a.0.now a.1.0 are.1.0 κs.1.0 qs.1.0 a.1.1.0.ref_ptr.0 a.1.1.0.ref_ptr.1 a.1.1.0.now are.1.1.0.0.1 a.1.1.1.0 are.1.1.1.0 𝓣.C 𝓣.Λ (fm_of 𝓤 H 𝓛.laws 𝓣) f known))

  -- the function itself, from core's theorem
  module _ {M : Type 1} {𝓤 : Ura M} (𝓛 : Logic 𝓤) (𝓜 : Model 𝓤 𝓛.H) (𝓡 : Running 𝓤 𝓛.H 𝓜) (env : Env) (key f : Callee) (routine : Routine) (unfolded : Closed 𝓤 𝓛.H (tables 𝓤 𝓛.H 𝓜 𝓡 env).C (tables 𝓤 𝓛.H 𝓜 𝓡 env).Λ key (fn f)) (calls : env f ≡ routine) where
    open 𝓛 use {H}

    pub spec : (req : Θ.S.D → P0.row.Denot → List ℤ → P2.row.Denot → SProp 𝓤) (ens : Θ.S.D → P0.row.Denot → List ℤ → P2.row.Denot → Π.R.Denot → Type 0) (told : Θ.S.D → P0.row.Denot → List ℤ → P2.row.Denot → Φ.B.Denot → Θ.S.D → Type 0)
        (so : (h : Θ.S.D) (n0 : P0.row.Denot) (n1 : List ℤ) (n2 : P2.row.Denot) (r : Π.R.Denot) → ens h n0 n1 n2 r → told h n0 n1 n2 (Π.the_b r) (Π.the_s r)) → Meets 𝓛 Core.signature (𝓡.run routine) (closing 𝓛 Core (core 𝓛 req ens told so))
        → Meets 𝓛 Thin.signature (𝓡.run (env key)) (closing 𝓛 Thin (thin 𝓛 req ens told so))
    unfolding tables_of
    spec req ens told so met =
        entered 𝓤 H (triple_of 𝓛 Thin.signature (closing 𝓛 Thin (thin 𝓛 req ens told so))) (tables 𝓤 H 𝓜 𝓡 env).C (tables 𝓤 H 𝓜 𝓡 env).Λ key (fn f) unfolded
        (meets 𝓛 req ens told so (tables_of 𝓤 H 𝓜 (tables 𝓤 H 𝓜 𝓡 env)) f (cited 𝓤 H (Core_at 𝓛 req ens told so) 𝓜 𝓡 env f routine calls met))

    -- where core's `ensures` is equations, and nothing is required
    abbrev pub Is_eq : (F : Θ.S.D → P0.row.Denot → List ℤ → P2.row.Denot → Π.R.Denot) → Θ.S.D → P0.row.Denot → List ℤ → P2.row.Denot → Π.R.Denot → Type 0
    Is_eq F h n0 n1 n2 r = r ≡ F h n0 n1 n2

    abbrev pub Told_eq : (F : Θ.S.D → P0.row.Denot → List ℤ → P2.row.Denot → Π.R.Denot) → Θ.S.D → P0.row.Denot → List ℤ → P2.row.Denot → Φ.B.Denot → Θ.S.D → Type 0
    Told_eq F h n0 n1 n2 a e = (a ≡ Π.the_b (F h n0 n1 n2)) × (e ≡ Π.the_s (F h n0 n1 n2))

    pub so_eq : (F : Θ.S.D → P0.row.Denot → List ℤ → P2.row.Denot → Π.R.Denot) (h : Θ.S.D) (n0 : P0.row.Denot) (n1 : List ℤ) (n2 : P2.row.Denot) (r : Π.R.Denot) → Is_eq F h n0 n1 n2 r → Told_eq F h n0 n1 n2 (Π.the_b r) (Π.the_s r)
    so_eq F h n0 n1 n2 r e = (ap (λ (z : Π.R.Denot). Π.the_b z) (e), ap (λ (z : Π.R.Denot). Π.the_s z) (e))

    pub spec_eq : (F : Θ.S.D → P0.row.Denot → List ℤ → P2.row.Denot → Π.R.Denot) → Meets 𝓛 Core.signature (𝓡.run routine) (closing 𝓛 Core (core 𝓛 (λ h n0 n1 n2. emp 𝓤) (Is_eq F) (Told_eq F) (so_eq F)))
        → Meets 𝓛 Thin.signature (𝓡.run (env key)) (closing 𝓛 Thin (thin 𝓛 (λ h n0 n1 n2. emp 𝓤) (Is_eq F) (Told_eq F) (so_eq F)))
    spec_eq F = spec (λ h n0 n1 n2. emp 𝓤) (Is_eq F) (Told_eq F) (so_eq F)
