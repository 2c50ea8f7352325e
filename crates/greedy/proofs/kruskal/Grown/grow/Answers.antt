-- The loop's two ways through are choice_join and choice_idle.
use Rattle.std.proofs.Common.{◌≡◌, ◌∙◌, sym, suc, ◌+◌, ◌<◌, arith}
use Rattle.graph.specs.Network.{Network, network}
use Rattle.graph.specs.Places.{network_a, network_b}
use Rattle.greedy.specs.ChoiceSoFar.{ChoiceSoFar, lacking_more, choice_join, choice_idle}
use Rattle.greedy.proofs.kruskal.Grown.grow.Goals as goal
use Rattle.greedy.proofs.kruskal.Grown.grow.Goals.{then-x-y, else-x-y}

pub loop-next-preserved : goal.loop-next-preserved
loop-next-preserved c =
    let l = c.loop-next in
    let labels = l.self.labels in
    let me = c.args.charged.now in
    let g = me.graph.now in
    let cs = me.charges.now in
    let ks = c.args.keys.now in
    let G : Network = network g in
    let k = c.place-k.result in
    let a = c.from.result in
    let b = c.from-in-loop-next.result in
    let t = l.invariant.choice in
    let edge : k < g.m = rw c.place-k.ensures (c.requires.0.1 l.next (omega arith)) in
    let ends = me.valid.each k edge in
    let ea : G.a (suc k) ≡ a = network_a g k edge ∙ sym c.from.ensures in
    let eb : G.b (suc k) ≡ b = network_b g k edge ∙ sym c.from-in-loop-next.ensures in
    let ha : a < 21 = omega (arith, c.from.ensures, ends.less, ends.to, me.valid.high) in
    let hb : b < 21 = omega (arith, c.from-in-loop-next.ensures, ends.to, me.valid.high) in
    let small : k < 190 = omega (arith, edge, me.valid.few) in
    let turn : let x = c.if-x-y in ChoiceSoFar G cs ks (l.next + 1) x.self.labels x.tree x.far x.sum =
    elim c.if-x-y.branch [
      | then-x-y w ↦
          rw (w.self-is, w.tree-is, w.far-is, w.sum-is)
          (choice_join G cs ks l.next labels l.tree l.far l.sum k a b t small (me.cheap k edge) c.place-k.ensures ea eb ha hb
          w.join.new.labels (omega arith) w.if-x-y.true w.join.ensures)
      | else-x-y w ↦
          rw (w.self-is, w.tree-is, w.far-is, w.sum-is)
          (choice_idle G cs ks l.next labels l.tree l.far l.sum k a b t small (me.cheap k edge) c.place-k.ensures ea eb ha hb w.if-x-y.false)
    ] in
    record {
      from = omega (arith, l.invariant.from);
      to = omega arith;
      choice = turn;
      lacking = lacking_more G cs ks l.next labels l.tree l.far l.sum c.args.enough c.args.self.now.next t (omega arith) l.invariant.lacking;
    }
