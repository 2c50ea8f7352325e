-- Edge by edge: one that is in counts at both its ends. What the loop meets are the three arrays' first m places, zipped.
use Rattle.std.proofs.Common.{◌≡◌, ℕ, List, Option, Some, None, Iter, Bor, length, take, get_or, ◌<◌, ◌≤◌, sym, ap, ◌∙◌, arith}
use Rattle.std.specs.List.{zip}
use Rattle.std.specs.Iterator.{Yields}
use Rattle.std.specs.Iterator.Adapters.{zip_first, zip_second}
use Rattle.std.specs.Slice.Iter.{iter_rest}
use Rattle.std.specs.declared.iter.Zip.{Zip}
use Rattle.std.proofs.Math.Decide.{dec_le}
use Rattle.std.proofs.Math.ListN.{get_or-eq_default}
use Rattle.std.proofs.iter.Yields.{fronts}
use Rattle.std.proofs.lemmas.List.{get_or_default, get_or-take, length-take, length_push}
use Rattle.std.proofs.lemmas.Slice.Zip.{length-zip, get_or-zip}
use Rattle.std.proofs.lemmas.Iterator.{YieldsList, YieldsList-from_slice, YieldsList-from_zip, zips}
use Rattle.std.proofs.lemmas.Iterator.Consumers.{YieldsList-turn, YieldsList-end}
use Rattle.graph.specs.declared.Graph.{Graph}
use Rattle.graph.specs.Valid.{Valid}
use Rattle.tours.specs.Counted.{Ends, degrees_none, degrees_skip, degrees_more, ends_of}
use Rattle.onetree.proofs.degrees.count_degrees.Goals as goal
use Rattle.onetree.proofs.degrees.count_degrees.Goals.{In-Some}

abbrev Triples : Type 0
Triples = Zip (Zip (Iter ℕ) (Iter ℕ)) (Iter ℕ)

abbrev steps : Triples → Option ((Bor ℕ × Bor ℕ) × Bor ℕ) → Triples → Type 0
steps = zips (zips fronts fronts) fronts

-- edge n, met in a turn
record Met (g : Graph) (w : List ℕ) (n : ℕ) (p : (Bor ℕ × Bor ℕ) × Bor ℕ) : Type 0 where
  pub inside : n < g.m
  pub ends : Ends g n
  pub a : get_or g.a n 0 ≡ p.0.0.now
  pub b : get_or g.b n 0 ≡ p.0.1.now
  pub byte : get_or w n 0 ≡ p.1.now

abbrev edges : Graph → ℕ → List ℕ → List ((ℕ × ℕ) × ℕ)
edges g m w = zip (zip (take m g.a) (take m g.b)) (take m w)

abbrev Over : Graph → ℕ → List ℕ → Triples → Type 0
Over g m w s =
    (iter_rest (zip_first (zip_first s)) ≡ take m g.a)
    × (iter_rest (zip_second (zip_first s)) ≡ take m g.b)
    × (iter_rest (zip_second s) ≡ take m w)

listed : (g : Graph) (m : ℕ) (w : List ℕ) (s : Triples) → Over g m w s → YieldsList steps (λ p. ((p.0.0.now, p.0.1.now), p.1.now)) s (edges g m w)
listed g m w s o =
    YieldsList-from_zip (YieldsList-from_zip (YieldsList-from_slice (take m g.a) o.0) (YieldsList-from_slice (take m g.b) o.1))
    (YieldsList-from_slice (take m w) o.2)

met : {g : Graph} {m : ℕ} {r : Option ((Bor ℕ × Bor ℕ) × Bor ℕ)} {p : (Bor ℕ × Bor ℕ) × Bor ℕ} (s t u : Triples) (xs : List ((Bor ℕ × Bor ℕ) × Bor ℕ))
    → Valid g → (w : List ℕ) → m ≡ g.m → Yields steps s xs t → r ≡ Some p → steps t r u → Over g m w s → Met g w (length xs) p
met {g} {m} {r} {p} s t u xs valid w is y q z o =
    let n : ℕ = length xs in
    let pairs : List (ℕ × ℕ) = zip (take m g.a) (take m g.b) in
    let h = YieldsList-turn (listed g m w s o) xs t y r u p q z in
    let size = length-zip pairs (take m w) in
    let both = length-zip (take m g.a) (take m g.b) in
    let a = length-take m g.a in
    let b = length-take m g.b in
    let bytes = length-take m w in
    let item =
    h.1 ∙ get_or-zip pairs (take m w) n ((p.0.0.now, p.0.1.now), p.1.now) (omega (arith, h.0, size)) (omega (arith, h.0, size))
    ∙ ap (λ (i : ℕ × ℕ). (i, get_or (take m w) n p.1.now))
    (get_or-zip (take m g.a) (take m g.b) n (p.0.0.now, p.0.1.now) (omega (arith, h.0, size, both)) (omega (arith, h.0, size, both))) in
    record {
      inside = omega (arith, is, h.0, size, bytes);
      ends = ends_of g valid n (omega (arith, is, h.0, size, bytes));
      a =
          sym (ap (λ (i : (ℕ × ℕ) × ℕ). i.0.0) item
          ∙ get_or-take m g.a n _ (omega (arith, h.0, size, bytes)) ∙ get_or_default g.a n _ 0 (omega (arith, h.0, size, both, a)));
      b =
          sym (ap (λ (i : (ℕ × ℕ) × ℕ). i.0.1) item
          ∙ get_or-take m g.b n _ (omega (arith, h.0, size, bytes)) ∙ get_or_default g.b n _ 0 (omega (arith, h.0, size, both, b)));
      byte =
          sym (ap (λ (i : (ℕ × ℕ) × ℕ). i.1) item
          ∙ get_or-take m w n _ (omega (arith, h.0, size, bytes)) ∙ get_or_default w n _ 0 (omega (arith, h.0, size, bytes)));
    }

-- no place past a list's end has an end of an edge
room : (m : ℕ) (l : List ℕ) → ((k : ℕ) → k < m → 1 ≤ get_or l k 0) → m ≤ length l
room m l some = go (dec_le m (length l))
  where
    go : Dec (m ≤ length l) → m ≤ length l
    go (yes h) = h
    go (no h) = let e : get_or l (length l) 0 ≡ 0 = get_or-eq_default l 0 (omega arith) in absurd (omega (arith, e, some (length l) (omega arith)))

all_met : {m : ℕ} {r : Option ((Bor ℕ × Bor ℕ) × Bor ℕ)} (g : Graph) (s t u : Triples) (xs : List ((Bor ℕ × Bor ℕ) × Bor ℕ)) (w : List ℕ)
    → m ≡ g.m → Valid g → g.m ≤ length w → Yields steps s xs t → r ≡ None → steps t r u → Over g m w s
    → length xs ≡ g.m
all_met {m} {r} g s t u xs w is valid long y q z o =
    let e = (YieldsList-end (listed g m w s o) xs t y r u q z).1 in
    omega (
      arith,
      e,
      is,
      long,
      room g.m g.a (λ k h. (valid.each k h).from),
      room g.m g.b (λ k h. omega (arith, (valid.each k h).from, (valid.each k h).less)),
      length-zip (zip (take m g.a) (take m g.b)) (take m w),
      length-zip (take m g.a) (take m g.b),
      length-take m g.a,
      length-take m g.b,
      length-take m w,
    )

-- the edge that a turn meets
turn : (c : In-Some) → Met c.args.valid.now.graph.now c.args.tree.now (length c.loop-a.yielded) ((c.in-Some.field-0-0-0, c.in-Some.field-0-0-1), c.in-Some.field-0-1)
turn c = let a = c.args in let l = c.loop-a in
    met c.into_iter-a-iterator.result l.a-iterator c.next.new.self _ a.valid.now.valid a.tree.now c.from-m.ensures l.yielded_by c.in-Some.is
    c.next.ensures.steps (cc, cc, cc)

pub loop-a-init : goal.loop-a-init
loop-a-init c = degrees_none _ _

pub bounds-degrees-from : goal.bounds-degrees-from
bounds-degrees-from c = let a = c.args in let l = c.loop-a in
    let t = turn (goal.at.bounds-degrees-from c).In-Some in
    omega (arith, t.ends.less, t.ends.high, t.a, t.b)

pub bounds-degrees-from-then-w-eq1 : goal.bounds-degrees-from-then-w-eq1
bounds-degrees-from-then-w-eq1 c = let a = c.args in let l = c.loop-a in
    let t = turn (goal.at.bounds-degrees-from-then-w-eq1 c).In-Some in
    omega (arith, t.ends.less, t.ends.high, t.a, t.b)

pub bounds-degrees-from-then-w-eq1-2 : goal.bounds-degrees-from-then-w-eq1-2
bounds-degrees-from-then-w-eq1-2 c = let a = c.args in let l = c.loop-a in
    let t = turn (goal.at.bounds-degrees-from-then-w-eq1-2 c).In-Some in
    omega (arith, t.ends.less, t.ends.high, t.a, t.b)

pub bounds-degrees-from-then-w-eq1-3 : goal.bounds-degrees-from-then-w-eq1-3
bounds-degrees-from-then-w-eq1-3 c = let a = c.args in let l = c.loop-a in
    let t = turn (goal.at.bounds-degrees-from-then-w-eq1-3 c).In-Some in
    omega (arith, t.ends.less, t.ends.high, t.a, t.b)

pub loop-a-preserved : goal.loop-a-preserved
loop-a-preserved c = let a = c.args in let l = c.loop-a in
    let t = turn (goal.at.loop-a-preserved c).In-Some in
    rw length_push (degrees_skip (length l.yielded) _ _ l.degrees t.inside l.invariant (λ e. c.if-w-eq1.false (sym t.byte ∙ e)))

pub loop-a-preserved-then-w-eq1 : goal.loop-a-preserved-then-w-eq1
loop-a-preserved-then-w-eq1 c = let a = c.args in let l = c.loop-a in
    let t = turn (goal.at.loop-a-preserved-then-w-eq1 c).In-Some in
    rw (length_push, c.from.ensures, c.from-then-w-eq1.ensures, ← t.a, ← t.b)
    (degrees_more (length l.yielded) _ _ l.degrees t.inside l.invariant t.ends (t.byte ∙ c.if-w-eq1.true))
