-- What the loops leave is what specs/Retried.antt rests on.
use Rattle.std.proofs.Common.{◌≡◌, Bool, suc, refl, ◌<◌, ◌≤◌, ℕ, List, get_or, replicate, arith}
use Rattle.std.proofs.Math.Decide.{dec_le}
use Rattle.std.proofs.Math.ListN.{get_or-eq_default}
use Rattle.std.proofs.lemmas.List.{get_or-replicate, length-replicate}
use Rattle.graph.specs.Limits.{max_edges}
use Rattle.lifting.specs.Loops.{PlacesTo}
use Rattle.onetree.specs.declared.picks.Pick.{Pick}
use Rattle.onetree.specs.Picks.{no_pick, Early, picks_small}
use Rattle.onetree.specs.Masks.{circled, placed, short}
use Rattle.onetree.specs.Retried.{lifted_by}
use Rattle.onetree.proofs.rulings.Judging.lift.Goals as goal

-- places of edges are places of the arrays
early : {test : ℕ → Bool} (list : List ℕ) (m : ℕ) → m ≤ max_edges → PlacesTo test list m → Early max_edges list
early list m few p i h = omega (arith, (p.each i h).0, few)

-- no edge has a best yet
none_picked : (p : Pick) → p ≡ no_pick → (n k : ℕ) → (get_or (replicate n p) k no_pick).place < max_edges
none_picked p e n k = rw e (go (dec_le (suc k) n))
  where
    go : Dec (k < n) → (get_or (replicate n no_pick) k no_pick).place < max_edges
    go (yes h) = rw (get_or-replicate n k no_pick no_pick h) (omega arith)
    go (no h) = rw (get_or-eq_default (replicate n no_pick) no_pick {n = k} (omega (arith, length-replicate {A = Pick} n no_pick))) (omega arith)

pub fill-requires : goal.fill-requires
fill-requires c =
    let r = c.requires.ready in
    let l = c.list_sides.ensures in (
      placed _ _ r.labelled c.requires.lists.merges (λ k h. omega (arith, c.requires.lists.cheap k h)),
      rw c.as_slice.ensures.value (λ i h. (l.inner.each i h).0),
      rw c.as_slice.ensures.value (short _ _ _ _ _ r.ready.tree r.ready.valid l),
      (r.ready.rooted.hangs, r.below.low),
      c.blank-sides.ensures,
    )

pub pick_outside-requires : goal.pick_outside-requires
pick_outside-requires c =
    let r = c.requires.ready in
    let l = c.list_sides.ensures in (
      circled _ _ _ _ (placed _ _ r.labelled c.requires.lists.merges (λ k h. omega (arith, c.requires.lists.cheap k h)))
          c.as_slice-2.ensures.value c.as_slice.ensures.value l.inner (short _ _ _ _ _ r.ready.tree r.ready.valid l) c.fill.ensures,
      rw c.as_slice-3.ensures.value (λ i h. (c.list_sides.ensures.outer.each i h).0),
      rw c.none-bests.ensures refl,
      refl,
    )

pub pick_inside-requires : goal.pick_inside-requires
pick_inside-requires c =
    let r = c.requires.ready in
    let l = c.list_sides.ensures in (
      circled _ _ _ _ (placed _ _ r.labelled c.requires.lists.merges (λ k h. omega (arith, c.requires.lists.cheap k h)))
          c.as_slice-2.ensures.value c.as_slice.ensures.value l.inner (short _ _ _ _ _ r.ready.tree r.ready.valid l) c.fill.ensures,
      refl,
    )

pub try_each-requires : goal.try_each-requires
try_each-requires c =
    let few = c.args.self.now.tree.valid.few in
    let outs = rw (c.as_slice-2.ensures.value, c.as_slice-3.ensures.value) at c.pick_outside.ensures.0 in
    let ins = rw (c.as_slice-2.ensures.value, c.as_slice-3.ensures.value) at (c.pick_inside.ensures _ c.pick_outside.ensures.1) in
    record {
      charges = λ k h. omega (arith, c.requires.lists.cheap k h);
      places = picks_small _ _ _ _ _ _ _ _ ins (early _ _ few c.list_sides.ensures.outer)
          (picks_small _ _ _ _ _ _ _ _ outs (early _ _ few c.list_sides.ensures.inner) (none_picked _ c.none-picks.ensures max_edges));
      near = c.requires.lists.near;
      ranged = c.requires.lists.ranged;
      size = c.requires.lists.size;
    }

pub returns : goal.returns
returns c =
    let r = c.requires in
    lifted_by _ _ _ _ _ _ (record {
      same = refl;
      dearest = c.args.self.now.near.dearest;
      cheapest = c.args.self.now.near.cheapest;
      ready = r.ready.ready;
      labelled = r.ready.labelled;
      inner = c.list_sides.ensures.inner;
      outer = c.list_sides.ensures.outer;
      none = _;
      half = c.pick_outside.new.picks;
      picks_out = rw (c.as_slice-2.ensures.value, c.as_slice-3.ensures.value) at c.pick_outside.ensures.0;
      picks_in = rw (c.as_slice-2.ensures.value, c.as_slice-3.ensures.value) at (c.pick_inside.ensures _ c.pick_outside.ensures.1);
      degrees = c.count_degrees-degrees.ensures;
      fits = r.lists;
      ruled = r.ruled;
    }) c.try_each.ensures
