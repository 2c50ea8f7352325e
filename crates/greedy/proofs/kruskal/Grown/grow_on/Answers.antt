-- Where the front is enough the others could be in any order (completion); else they are put in order.
use Rattle.std.proofs.Common.{refl, List, ℕ, ◌+◌, ◌-◌, ◌<◌, ◌≤◌, length, drop, arith}
use Rattle.std.proofs.Math.Decide.{dec_le}
use Rattle.graph.specs.Network.{Network, network}
use Rattle.spanning.specs.Components.{rank}
use Rattle.lists.specs.Sorting.{shuffled_refl}
use Rattle.greedy.specs.Keys.{queued}
use Rattle.greedy.specs.ChoiceSoFar.{Lacking, choice-same, lacking-same}
use Rattle.greedy.specs.Fronts.{completion}
use Rattle.greedy.proofs.Stretches.{edges_shuffled, stretch, stretch-length, stretch-edges, to_end, from_end}
use Rattle.greedy.proofs.kruskal.Grown.grow_on.Goals as goal

pub grow-requires : goal.grow-requires
grow-requires c =
    let ks = c.args.keys.now in
    let me = c.args.charged.now in
    let s = c.args.self.now in
    let within = c.requires.1.parted.within in (
      stretch-edges c.args.near c.args.front ks within me.graph.now c.requires.0,
      omega (arith, stretch-length c.args.near c.args.front ks within, c.requires.2),
      choice-same (network me.graph.now) me.charges.now (drop c.args.near ks) (stretch c.args.near c.args.front ks) (c.args.front - c.args.near)
          (from_end c.args.near c.args.front ks ks within (λ i h. refl))
          s.next s.labels c.args.tree.now s.far s.sum (omega (arith, c.requires.2)) c.requires.3,
    )

pub grow-requires-then-self-enough : goal.grow-requires-then-self-enough
grow-requires-then-self-enough c =
    let ks = c.args.keys.now in
    let ls = c.complete.new.keys in
    let near = c.args.near in
    let front = c.args.front in
    let me = c.args.charged.now in
    let s = c.grow.new.self in
    let one = c.grow.ensures in
    let full = c.complete.ensures in
    let within = c.requires.1.parted.within in
    let size = stretch-length near front ks within in
    let end : length ls ≤ length ls = omega arith in
    let size-2 = stretch-length near (length ls) ls end in (
      stretch-edges near (length ls) ls end me.graph.now (edges_shuffled me.graph.now ks ls c.requires.0 full.long full.shuffled),
      omega (arith, size, size-2, one.3, within, full.long),
      choice-same (network me.graph.now) me.charges.now (drop near ls) (stretch near (length ls) ls) (length ls - near)
          (from_end near (length ls) ls ls end (λ i h. refl))
          s.next s.labels c.grow.new.tree s.far s.sum (omega (arith, size, one.3, within, full.long))
          (choice-same (network me.graph.now) me.charges.now (stretch near front ks) (drop near ls) (front - near)
          (to_end near front ks ls within full.same) s.next s.labels c.grow.new.tree s.far s.sum (omega (arith, size, one.3)) one.0),
    )

pub returns-then-self-enough : goal.returns-then-self-enough
returns-then-self-enough c =
    let ks = c.args.keys.now in
    let ls = c.complete.new.keys in
    let near = c.args.near in
    let front = c.args.front in
    let me = c.args.charged.now in
    let G : Network = network me.graph.now in
    let cs = me.charges.now in
    let s = c.grow.new.self in
    let t = c.grow-then-self-enough.new.self in
    let one = c.grow.ensures in
    let two = c.grow-then-self-enough.ensures in
    let full = c.complete.ensures in
    let within = c.requires.1.parted.within in
    let size = stretch-length near front ks within in
    let end : length ls ≤ length ls = omega arith in
    let size-2 = stretch-length near (length ls) ls end in
    let early : Lacking G (drop near ls) c.args.enough c.args.self.now.next s.next =
    lacking-same G cs (stretch near front ks) (drop near ls) (front - near) (to_end near front ks ls within full.same)
    c.args.enough c.args.self.now.next s.next (omega (arith, size, one.3)) one.1 in
    let late : Lacking G (drop near ls) c.args.enough s.next t.next =
    lacking-same G cs (stretch near (length ls) ls) (drop near ls) (length ls - near) (to_end near (length ls) ls ls end (λ i h. refl))
    c.args.enough s.next t.next (omega (arith, size-2, two.3)) two.1 in
    let room : near + t.next ≤ length ls = omega (arith, size-2, two.3, within, full.long, c.requires.2) in (
      full.shuffled,
      λ i h. full.same i (omega (arith, c.requires.2)),
      (
        ls,
        full,
        choice-same G cs (stretch near (length ls) ls) (drop near ls) (length ls - near) (to_end near (length ls) ls ls end (λ i h. refl))
            t.next t.labels c.grow-then-self-enough.new.tree t.far t.sum (omega (arith, size-2, two.3)) two.0,
        both G (drop near ls) c.args.enough c.args.self.now.next s.next t.next early late,
        omega (arith, one.2, two.2),
        room,
        λ h. two.4 (omega (arith, size-2)),
      ),
    )
  where
    both : (G : Network) (xs : List ℕ) (enough from to i : ℕ) → Lacking G xs enough from to → Lacking G xs enough to i → Lacking G xs enough from i
    both G xs enough from to i early late q a b = go (dec_le to q)
      where
        go : Dec (to ≤ q) → rank G.a G.b (queued xs q) < enough
        go (yes h) = late q h b
        go (no h) = early q a (omega arith)

pub returns-else-self-enough : goal.returns-else-self-enough
returns-else-self-enough c =
    let ks = c.args.keys.now in
    let near = c.args.near in
    let front = c.args.front in
    let me = c.args.charged.now in
    let G : Network = network me.graph.now in
    let cs = me.charges.now in
    let s = c.grow.new.self in
    let one = c.grow.ensures in
    let within = c.requires.1.parted.within in
    let size = stretch-length near front ks within in
    let full = completion front ks c.requires.1 in
    let ls : List ℕ = full.0 in
    let same = to_end near front ks ls within full.1.same in (
      shuffled_refl (length ks) ks,
      λ i h. refl,
      (
        ls,
        full.1,
        choice-same G cs (stretch near front ks) (drop near ls) (front - near) same s.next s.labels c.grow.new.tree s.far s.sum (omega (arith, size, one.3)) one.0,
        lacking-same G cs (stretch near front ks) (drop near ls) (front - near) same c.args.enough c.args.self.now.next s.next (omega (arith, size, one.3)) one.1,
        one.2,
        omega (arith, size, one.3, within, full.1.long, c.requires.2),
        λ h. c.if-self-enough.false,
      ),
    )
