-- A visit more.
use Rattle.std.proofs.Common.{◌≡◌, ◌∙◌, ℕ, List, ap, sym, ◌≤◌, ◌<◌, refl, get_or, ltb-true, arith}
use Rattle.std.proofs.lemmas.List.{get_or_default}
use Rattle.swaps.specs.Grid.{cell}
use Rattle.swaps.specs.Visiting.{Among, leads_more, Hung, hung_root, lined_root, closed_more}
use Rattle.onetree.specs.HungTree.{rooting_of, queue_of, count_of}
use Rattle.onetree.proofs.rooted.Rooting.walk.Goals.{After-from-x}
use Rattle.onetree.proofs.rooted.Rooting.walk.Goals as goal

-- the label is the queue's at this place, and hangs; so it is a vertex
inside : (c : After-from-x) → c.loop-x.i < count_of c.loop-x.self
inside c = rw c.as_slice.ensures.value at (ltb-true _ _ (sym c.in-Some.ensures.lookup.0))

queued : (c : After-from-x) → c.from-x.result ≡ get_or (queue_of c.loop-x.self) c.loop-x.i 0
queued c = c.from-x.ensures ∙ c.in-Some.ensures.lookup.1 ∙ ap (λ (l : List ℕ). get_or l c.loop-x.i c.in-Some.x.now) c.as_slice.ensures.value
    ∙ get_or_default _ _ _ _ (inside c)

hung : (c : After-from-x) → Hung c.args.ends.now.from c.args.ends.now.to c.args.listed.now.rows c.requires.0.0 (rooting_of c.loop-x.self)
hung c = let p = c.requires.0 in c.loop-x.invariant.2 p.0 p.1 p.3

hangs : (c : After-from-x) → 1 ≤ get_or c.loop-x.self.depth c.from-x.result 0
hangs c = rw (queued c) (c.loop-x.invariant.1.hangs c.loop-x.i (inside c))

among : (c : After-from-x) → Among c.requires.0.0 c.from-x.result
among c = (hung c).inside c.from-x.result (hangs c)

pub loop-x-init : goal.loop-x-init
loop-x-init c = let u = c.requires.1 in
    rw (u.parent, u.depth, u.edge, c.push.ensures.items, u.queue) (omega arith, lined_root, λ n l d. hung_root _ _ _ n l, λ p j h. absurd (omega arith))

pub visit-requires : goal.visit-requires
unfolding cell
visit-requires c =
    let p = c.requires.0 in
    let a = (goal.at.visit-requires c).After-from-x in
    let v = among a in
    let low : 1 ≤ c.from-x.result = omega (arith, v.0) in
    record {
      long = (hung a).long;
      lined = c.loop-x.invariant.1;
      low = low;
      small = omega (arith, v.1, p.2);
      hangs = hangs a;
      leading = λ i f. leads_more _ _ _ 20 c.from-x.result _ p.2 (p.3.leading c.from-x.result low i f);
      stops = p.3.stops c.from-x.result low;
    }

pub loop-x-preserved : goal.loop-x-preserved
loop-x-preserved c =
    let t = c.loop-x in
    let x = c.from-x.result in
    let a = (goal.at.loop-x-preserved c).After-from-x in
    let v = among a in
    let w = c.visit.ensures.2 in (
      omega (arith, w.more, inside a),
      w.lined,
      λ n l d. w.kept _ n refl (d.leading x (omega (arith, v.0))) (t.invariant.2 n l d),
      closed_more _ _ _ x (rooting_of t.self) (queue_of t.self) (count_of t.self) _ _ _ t.i (inside a) (queued a) t.invariant.3 c.visit.ensures,
    )
