-- What the two calls of `grow` and `take_two` leave is the choice of Kruskal.antt: the loop may end early (stopped), at the edge that document 02 says
-- (looks_as_said).
use Rattle.std.proofs.Common.{◌≡◌, refl, ◌∙◌, sym, ap, subst, Bool, true, false, List, [], ℕ, suc, ◌+◌, ◌*◌, ◌-◌, ◌%◌, ◌<◌, ◌≤◌, length, get_or, take, drop, arith}
use Rattle.std.proofs.Math.Decide.{dec_le}
use Rattle.std.proofs.lemmas.List.{length-take-le, get_or-drop}
use Rattle.std.specs.Bool.{then_some}
use Rattle.lists.specs.Bools.{Says, says_yes, says_no}
use Rattle.lists.specs.Fill.{replicate-at}
use Rattle.graph.specs.declared.Graph.{Graph}
use Rattle.graph.specs.Limits.{max_edges}
use Rattle.graph.specs.Network.{Network, network}
use Rattle.tree_theory.specs.Inputs.{multiplier}
use Rattle.tree_theory.specs.Scaled.{scaled_by}
use Rattle.tree_theory.specs.Looked.{Looked}
use Rattle.greedy.specs.Keys.{AllKeyed, keyed_shuffled, SamePlaces, queued, queued-same}
use Rattle.greedy.specs.Fronts.{Completes, completion}
use Rattle.greedy.proofs.Stretches.{all_keys, edges_shuffled, stretch, stretch-edges, to_end}
use Rattle.greedy.proofs.Completed.{completed, reached_in, reached_full, all_reached_in, all_reached, small_full}
use Rattle.greedy.specs.Growth.{TakenGreedily}
use Rattle.greedy.specs.ChoiceSoFar.{ChoiceSoFar, choice_none, choice-same, lacking-same}
use Rattle.greedy.specs.Required.{Small, merges}
use Rattle.greedy.specs.Charged.{max_charge}
use Rattle.greedy.specs.Chosen.{SumOf}
use Rattle.greedy.specs.Kruskal.{Choice, Whole}
use Rattle.greedy.specs.Stopping.{stopped, looks_as_said}
use Rattle.greedy.proofs.Slices.{away, fars, away-length, away-places, away-small, near-order, far-order, taken-places, taken-small, taken-edges}
use Rattle.greedy.proofs.charges.ChargedGraph.choose.Goals as goal

-- a number that is at most another and not below it
all_of : (n r : ℕ) → n ≤ r → (n < r → ⊥) → n ≡ r
all_of n r le stop = at (dec_le (suc n) r)
  where
    at : Dec (n < r) → n ≡ r
    at (no h) = omega arith
    at (yes h) = absurd (stop h)

-- the keys of the front, and those of edges away from vertex 1 and of required ones among them
abbrev required_keys : (n r : ℕ) → List ℕ → List ℕ
required_keys n r ks = take r (stretch n (length ks) ks)

required-places : (n r : ℕ) (ks ls : List ℕ) → n + r ≤ length ks → ((i : ℕ) → i < n + r → get_or ls i 0 ≡ get_or ks i 0)
    → SamePlaces (required_keys n r ks) (drop n ls) r
required-places n r ks ls h same i l =
    taken-places r (stretch n (length ks) ks) i l
    ∙ to_end n (length ks) ks ks (omega arith) (λ i m. refl) i (omega arith)
    ∙ ap (λ (x : ℕ). x % 256) (get_or-drop n ks i 0 ∙ sym (same (n + i) (omega arith)) ∙ sym (get_or-drop n ls i 0))

pub grow-requires : goal.grow-requires
grow-requires c =
    let g = c.args.self.now.graph.now in
    let ks = c.args.keys.now in
    let near = c.reached-near in
    let others = stretch near.result (length ks) ks in
    let r = c.reached-required in
    let none = c.none-grown.ensures in (
      taken-edges g r.result others r.ensures.0 (stretch-edges near.result (length ks) ks (omega arith) g (all_keys c.args.self.now ks c.requires.0)),
      omega (arith, none.0),
      rw (none.0, none.1, none.2)
          (choice_none _ _ _ _ _ none.3 none.4 (ap length c.requires.2) (rw c.requires.2 (replicate-at 190 0))),
    )

pub grow_on-requires : goal.grow_on-requires
grow_on-requires c =
    let x = c.args.self.now in
    let ks = c.args.keys.now in
    let near = c.reached-near in
    let r = c.reached-required in
    let full = completion c.args.front ks c.requires.1 in
    let n-in : near.result ≤ c.args.front = all_reached_in c.args.front ks full.0 c.requires.1 full.1 70368744177664 near.result (omega arith) near.ensures in
    let r-in : near.result + r.result ≤ c.args.front =
    reached_in c.args.front ks full.0 c.requires.1 full.1 near.result 70368744177920 r.result (omega arith) near.ensures.0 r.ensures n-in in
    let size : length (required_keys near.result r.result ks) ≡ r.result = length-take-le r.result (stretch near.result (length ks) ks) r.ensures.0 in
    let one = c.grow.ensures in
    let s = c.grow.new.self in (
      all_keys x ks c.requires.0,
      c.requires.1,
      omega (arith, size, one.3, r-in),
      choice-same _ _ (required_keys near.result r.result ks) (drop near.result ks) r.result
          (required-places near.result r.result ks ks (omega (arith, r-in, c.requires.1.parted.within)) (λ i h. refl))
          s.next s.labels c.grow.new.tree s.far s.sum (omega (arith, size, one.3)) one.0,
    )

pub take_two-sum-requires : goal.take_two-sum-requires
take_two-sum-requires c =
    let x = c.args.self.now in
    let ks = c.args.keys.now in
    let ls = c.grow_on.new.keys in
    let near = c.reached-near in
    let on = c.grow_on.ensures in
    let long : length ls ≡ length ks = c.grow_on.auto.keys in
    let edges = edges_shuffled x.graph.now ks ls (all_keys x ks c.requires.0) long on.0 in (
      taken-edges x.graph.now near.result ls (omega (arith, near.ensures.0, long)) edges,
      omega (arith, on.2.2.light, on.2.5, on.2.1.long, edges.0, long),
    )

sum_of : (g : Graph) (made : Choice g) (b : Bool) (sum : ℕ) → Says b (Whole g made) → made.sum ≡ sum → sum ≤ max_charge * max_edges
    → SumOf g made (then_some b sum)
sum_of g made true sum whole is light = (says_yes true whole refl, is, light)
sum_of g made false sum whole is light = says_no false whole refl

pub returns : goal.returns
returns c =
    let x = c.args.self.now in
    let g = x.graph.now in
    let cs = x.charges.now in
    let ks = c.args.keys.now in
    let p = c.args.front in
    let y = c.requires.1 in
    let on = c.grow_on.ensures in
    -- as if all were in order
    let ls : List ℕ = on.2.0 in
    let full : Completes p ks ls = on.2.1 in
    let k = completed p ks ls y full x c.requires.0 in
    let n = c.reached-near.result in
    let n-in : n ≤ p = all_reached_in p ks ls y full 70368744177664 n (omega arith) c.reached-near.ensures in
    let cut = all_reached p ks ls y full 70368744177664 n (omega arith) c.reached-near.ensures in
    let G : Network = network g in
    let others : List ℕ = away k n cut in
    let keys : List ℕ = fars k n cut in
    let f : ℕ = length others in
    let size : f ≡ length ls - n = away-length k n cut in
    let fit : length ls ≤ 190 = omega (arith, k.keyed.few, k.valid.few) in
    let r = c.reached-required.result in
    let r-in : n + r ≤ p = reached_in p ks ls y full n 70368744177920 r (omega arith) c.reached-near.ensures.0 c.reached-required.ensures n-in in
    let small : Small keys f r =
    away-small k n cut r (reached_full p ks ls y full n 70368744177920 r (omega arith) c.reached-near.ensures.0 c.reached-required.ensures n-in) in
    let front : length (required_keys n r ks) ≡ r = length-take-le r (stretch n (length ks) ks) c.reached-required.ensures.0 in
    let order = far-order k n cut in
    let places : SamePlaces (drop n ls) keys f = λ i h.
    sym (to_end n (length ls) ls ls (omega arith) (λ i m. refl) i (omega (arith, size))) ∙ away-places k n cut i h in
    -- the required edges
    let s = c.grow.new.self in
    let one = c.grow.ensures in
    let all_required : s.next ≡ r = all_of s.next r (omega (arith, front, one.3)) (λ h. omega (arith, front, one.4 (omega (arith, front)), one.0.less, small.0, size)) in
    let first : ChoiceSoFar G cs keys r s.labels c.grow.new.tree s.far s.sum =
    subst (λ (i : ℕ). ChoiceSoFar G cs keys i s.labels c.grow.new.tree s.far s.sum) all_required
    (choice-same G cs (drop n ls) keys f places s.next s.labels c.grow.new.tree s.far s.sum (omega (arith, all_required, small.0))
    (choice-same G cs (required_keys n r ks) (drop n ls) r
    (required-places n r ks ls (omega (arith, r-in, y.parted.within)) (λ i h. full.same i (omega (arith, r-in))))
    s.next s.labels c.grow.new.tree s.far s.sum (omega (arith, all_required)) one.0)) in
    -- and the others
    let t = c.grow_on.new.self in
    let to : t.next ≤ f = omega (arith, on.2.5, size) in
    let last : ChoiceSoFar G cs keys t.next t.labels c.grow_on.new.tree t.far t.sum =
    choice-same G cs (drop n ls) keys f places t.next t.labels c.grow_on.new.tree t.far t.sum to on.2.2 in
    let full-at : t.next < f → c.from-n.result - 2 ≤ t.far = λ h. on.2.6 (omega (arith, size)) in
    let enough : t.next < f → g.n ≤ t.far + 2 = λ h. omega (arith, full-at h, c.from-n.ensures) in
    let news : List ℕ = c.grow_on.new.keys in
    let long : length news ≡ length ks = c.grow_on.auto.keys in
    let near : length (take n news) ≡ n = length-take-le n news (omega (arith, c.reached-near.ensures.0, long)) in
    let near-same : queued (take n news) n ≡ queued ls n =
    queued-same (take n news) ls n
    (λ i h. taken-places n news i h ∙ ap (λ (z : ℕ). z % 256) (on.1 i h ∙ sym (full.same i (omega (arith, n-in))))) in
    let w = c.take_two-sum.new.tree in
    let sum = c.take_two-sum.result in
    let taken : TakenGreedily G cs (queued ls n) (queued keys f) w t.far sum =
    rw (near, near-same) at
    (c.take_two-sum.ensures.0 G (queued keys f) t.far
    (stopped g cs keys f order t.next to [] c.grow_on.new.tree t.far t.sum enough last.grew)) in
    let made : Choice g = record {
      charges = cs;
      keys = keys;
      count = f;
      order = order;
      near_keys = ls;
      near_count = n;
      near_order = near-order k n cut;
      tree = w;
      far = t.far;
      sum = sum;
      all = taken;
      required = r;
      small = small;
      joined = s.far;
      first = first.grew.joined;
      must = c.reached-must.result;
      near_small = small_full p ks ls y full n c.reached-must.result n-in (taken-small n c.reached-must.result ks c.reached-near.ensures.0 c.reached-must.ensures);
    } in (
      record {
        made = made;
        charges_are = refl;
        tree_is = refl;
        sum = rw c.then_some.ensures
            (sum_of g made c.whole.result sum (rw c.from-n.ensures at c.whole.ensures) refl
            (omega (arith, c.take_two-sum.ensures.1, near, last.light, to, size, fit, cut.0)));
        long = omega arith;
        merges = merges g cs keys f order r small s.labels first.long first.holds;
        looked = λ den d charged.
            subst (λ (x : ℕ). Looked (scaled_by den G) (multiplier d) (t.next - x)) all_required
            (looks_as_said g cs keys f (c.from-n.result - 2) s.next t.next t.labels c.grow_on.new.tree t.far t.sum on.2.4 to last
            (lacking-same G cs (drop n ls) keys f places (c.from-n.result - 2) s.next t.next to on.2.3) full-at
            den d order (subst (λ (x : ℕ). Small keys f x) (sym all_required) small) charged (omega (arith, c.from-n.ensures, k.valid.low)));
      },
      subst (λ (i : ℕ). AllKeyed g cs news i) (sym long) (keyed_shuffled g cs ks news (length ks) c.requires.0 on.0),
    )
