-- two-more is a turn; past the second the others are left (two_spare).
use Rattle.std.proofs.Common.{◌≡◌, ◌∙◌, ap, subst, ℕ, ◌+◌, ◌<◌, ◌≤◌, ◌%◌, length, get_or, set, sym, min, arith, length-set}
use Rattle.std.proofs.Math.Decide.{dec_le}
use Rattle.std.proofs.lemmas.List.{get_or-take, get_or_default, length-take, length_push}
use Rattle.std.proofs.lemmas.Iterator.{YieldsList-from_slice, YieldsList-from_take}
use Rattle.std.proofs.lemmas.Iterator.Consumers.{YieldsList-turn, YieldsList-end}
use Rattle.greedy.specs.ChoiceSoFar.{TwoTaken, two_none, two-more, two_spare}
use Rattle.greedy.proofs.charges.ChargedGraph.take_two.Goals as goal

pub loop-key-init : goal.loop-key-init
loop-key-init c = record { long = omega arith; light = omega arith; taken = two_none _ _ _ _ }

pub loop-key-preserved : goal.loop-key-preserved
loop-key-preserved c =
    let l = c.loop-key in
    let cs = c.args.self.now.charges.now in
    let ks = c.args.keys.now in
    let i : ℕ = length l.yielded in
    let k = c.place-k.result in
    let t = YieldsList-turn (YieldsList-from_take 2 (YieldsList-from_slice ks cc) cc) l.yielded _ l.yielded_by _ _ c.in-Some.key c.in-Some.is c.next.ensures.steps in
    let turn : (i < 2) × (i < length ks) = (omega (arith, t.0, length-take 2 ks), omega (arith, t.0, length-take 2 ks)) in
    let is : k ≡ get_or ks i 0 % 256 = c.place-k.ensures ∙ ap (λ (x : ℕ). x % 256) (t.1 ∙ get_or-take 2 ks i c.in-Some.key.now turn.0 ∙ get_or_default ks i c.in-Some.key.now 0 turn.1) in
    let me = c.args.self.now in
    let edge : k < me.graph.now.m = rw is (c.requires.0.1 i turn.1) in
    let more = length_push l.yielded c.in-Some.key in
    record {
      long = length-set l.tree k 1 ∙ l.invariant.long;
      light = omega (arith, me.cheap k edge, l.invariant.light, more);
      taken = subst (λ (j : ℕ). TwoTaken cs ks j c.args.tree.now c.args.sum (set l.tree k 1) (l.all + get_or cs k 0)) (sym more)
          (two-more cs ks i c.args.tree.now c.args.sum l.tree l.all l.invariant.taken k is (omega (arith, l.invariant.long, edge, me.valid.few)) turn.0);
    }

pub returns : goal.returns
returns c =
    let l = c.loop-key in
    let ks = c.args.keys.now in
    let i : ℕ = length l.yielded in
    let size : i ≡ min 2 (length ks) = (YieldsList-end (YieldsList-from_take 2 (YieldsList-from_slice ks cc) cc) l.yielded _ l.yielded_by _ _ c.in-None.is c.next.ensures.steps).1 ∙ length-take 2 ks in
    let all : (length ks ≤ 2 → i ≡ length ks) × (¬ (length ks ≤ 2) → 2 ≤ i) = (λ h. omega (arith, size), λ h. omega (arith, size)) in
    let go : Dec (length ks ≤ 2) → TwoTaken c.args.self.now.charges.now ks (length ks) c.args.tree.now c.args.sum l.tree l.all = λ d. elim d [
      | yes h ↦ subst (λ (j : ℕ). TwoTaken c.args.self.now.charges.now ks j c.args.tree.now c.args.sum l.tree l.all) (all.0 h) l.invariant.taken
      | no h ↦ two_spare c.args.self.now.charges.now ks i c.args.tree.now c.args.sum l.tree l.all l.invariant.taken (length ks)
          (omega (arith, size)) (all.1 h)
    ] in
    (go (dec_le (length ks) 2), omega (arith, l.invariant.light, size))
