-- The vertices ashore as code reads them: that none is; how many are active, of a record's list; the marks that an opening begins with; a graph without
-- marks. Assumes nothing.
use Rattle.std.specs.Prelude.{◌≡◌, Bool, true, false, not, cond, List, [], ◌∷◌, ℕ, zero, suc, ◌≤◌, ◌<◌, eqb, length, get_or, ℤ, pos}
use Rattle.std.proofs.Math.Path.{refl}
use Rattle.std.proofs.Common.{sym, ap, ◌∙◌, arith}
use Rattle.std.proofs.Math.Decide.{dec_le}
use Rattle.std.proofs.Math.ListN.{get_or-eq_default}
use Rattle.std.specs.List.{list_any}
use Rattle.lists.specs.Bools.{or_none}
use Rattle.lists.specs.Fill.{fit, fit-size, fit_at}
use Rattle.lists.specs.Numbers.{up_to, in_up_to}
use Rattle.lists.specs.Rows.{row, row-size, row_at}
use Rattle.lists.specs.Select.{select_cong}
use Rattle.graph.specs.declared.Graph.{Graph}
use Rattle.graph.specs.Limits.{max_vertices}
use Rattle.graph.specs.Network.{Network, Mark, free, excluded, mark_of, network}
use Rattle.graph.specs.Places.{network_mark}
use Rattle.graph.specs.Valid.{Valid}
use Rattle.tree_theory.specs.Valid.{is_excluded}
use Rattle.thinning.specs.Ranks.{rank}
use Rattle.afloat.specs.Over.{ashore, active, active_count, touched, mark_over, marks_over}
use Rattle.afloat.specs.Lists.{reduced_list}
use Rattle.afloat.specs.Reduced.{reduced, count_is}
use Rattle.afloat.specs.NoneAshore.{rank_all, reduced_none, mark_none, list_none}
use Rattle.machine.specs.Machine.{marks_of}
use Rattle.node.specs.Marks.{with_bytes, marks_in}
use Rattle.search.specs.Begun.{graph-marks}
use Rattle.search.specs.Canonical.{Zeros}

-- ---- none is ashore

none_met : (l : List ℕ) → list_any (λ (b : ℕ). eqb b 1) l ≡ false → (j : ℕ) → eqb (get_or l j 0) 1 ≡ false
none_met [] e j = refl
none_met (x ∷ l) e zero = (or_none (eqb x 1) (list_any (λ (b : ℕ). eqb b 1) l) e).0
none_met (x ∷ l) e (suc j) = none_met l (or_none (eqb x 1) (list_any (λ (b : ℕ). eqb b 1) l) e).1 j

module _ (l : List ℕ) (none : list_any (λ (b : ℕ). eqb b 1) l ≡ false) where
  -- where no byte is 1
  pub none_listed : (v : ℕ) → ashore l v ≡ false
  unfolding ashore
  none_listed zero = refl
  none_listed (suc j) = none_met l none j

  -- nor among the first n
  pub none_first : (n v : ℕ) → ashore (fit n 0 l) v ≡ false
  unfolding ashore
  none_first n zero = refl
  none_first n (suc j) = go (dec_le (suc j) n)
    where
      go : Dec (j < n) → eqb (get_or (fit n 0 l) j 0) 1 ≡ false
      go (yes b) = ap (λ (x : ℕ). eqb x 1) (fit_at n 0 l j b) ∙ none_met l none j
      go (no b) = ap (λ (x : ℕ). eqb x 1) (get_or-eq_default (fit n 0 l) 0 (omega (arith, fit-size n 0 l)))

  pub none_touching : (n : ℕ) (g : Network) (k : ℕ) → touched (ashore (fit n 0 l)) g k ≡ false
  none_touching n g k = rw (none_first n (g.a k), none_first n (g.b k))

  pub network_none : (n : ℕ) (g : Graph) → network g ≡ reduced (ashore (fit n 0 l)) (network g)
  network_none n g = sym (reduced_none (ashore (fit n 0 l)) (none_first n) (network g))

  -- all multipliers are those of active vertices
  pub multipliers_none : (n : ℕ) (d : List ℤ) → length d ≡ n → fit max_vertices (pos 0) d ≡ fit max_vertices (pos 0) (reduced_list (ashore l) n d)
  multipliers_none n d e = ap (fit max_vertices (pos 0)) (sym (list_none (ashore l) none_listed n d e))

  pub marks_none : (g : Graph) → marks_in g.m g.mark ≡ marks_over (ashore l) (network g)
  unfolding marks_of marks_over network
  marks_none g = graph-marks g ∙ (λ i. row g.m (λ k. sym (mark_none (ashore l) none_listed (network g) k) i))

-- nor where all bytes are zero
none_of : (l : List ℕ) → ((j : ℕ) → j < length l → get_or l j 0 ≡ 0) → list_any (λ (b : ℕ). eqb b 1) l ≡ false
none_of [] h = refl
none_of (x ∷ l) h = rw (h 0 (omega arith), none_of l (λ j b. h (suc j) (omega arith)))

pub zeros_none : (l : List ℕ) → length l ≡ max_vertices → Zeros 0 max_vertices 0 l → list_any (λ (b : ℕ). eqb b 1) l ≡ false
zeros_none l e z = none_of l (λ j b. z j (omega (arith, e)) (omega arith))

-- of a list in an array's places
pub listed_none : (l : List ℕ) → length l ≤ max_vertices → Zeros 0 max_vertices 0 (fit max_vertices 0 l) → list_any (λ (b : ℕ). eqb b 1) l ≡ false
listed_none l e z = none_of l (λ j b. sym (fit_at max_vertices 0 l j (omega (arith, e, b))) ∙ z j (omega (arith, e, b)) (omega arith))

-- ---- how many are active

-- all are
pub active_all : (l : List ℕ) (n : ℕ) → list_any (λ (b : ℕ). eqb b 1) l ≡ false → n ≡ rank (active (ashore (fit n 0 l))) n
active_all l n none = sym (rank_all (ashore (fit n 0 l)) (none_first l none n) n)

-- the first n bytes say of n vertices what all do
pub active_first : (l : List ℕ) (n : ℕ) → active_count (ashore l) n ≡ rank (active (ashore (fit n 0 l))) n
unfolding active_count
active_first l n =
    ap length (select_cong (active (ashore l)) (active (ashore (fit n 0 l))) (up_to n) (λ v i. same v (in_up_to n v i).1))
    ∙ count_is (ashore (fit n 0 l)) n
  where
    same : (v : ℕ) → v ≤ n → active (ashore l) v ≡ active (ashore (fit n 0 l)) v
    same zero h = unfold ashore in refl
    same (suc j) h = unfold ashore in ap (λ (x : ℕ). not (eqb x 1)) (sym (fit_at n 0 l j h))

-- ---- marks

-- the marks of a graph that has the network of the active vertices
pub marks_moved : (s : ℕ → Bool) (g q : Graph) → network q ≡ reduced s (network g) → marks_in g.m q.mark ≡ marks_over s (network g)
unfolding marks_of marks_over
marks_moved s g q is =
    let same : q.m ≡ g.m = (unfold network in ap (λ (h : Network). h.m) is) in
    ap (λ (m : ℕ). marks_in m q.mark) (sym same) ∙ graph-marks q ∙ ap marks_of is

no_mark : mark_of 0 ≡ free
unfolding mark_of
no_mark = refl

-- of a graph without marks an opening excludes just what touches a vertex ashore
module _ (s : ℕ → Bool) (g : Graph) (x : List ℕ) (zeros : (k : ℕ) → get_or x k 0 ≡ 0) where
  pub unmarked-valid : Valid g → Valid (with_bytes g x)
  unmarked-valid v = record {
    low = v.low;
    high = v.high;
    few = v.few;
    each = λ k h. record {
      from = (v.each k h).from;
      less = (v.each k h).less;
      to = (v.each k h).to;
      range = (v.each k h).range;
      known = omega (arith, zeros k);
    };
    once = λ j k b h p. v.once j k b h (record { a = p.a; b = p.b });
  }

  pub unmarked-size : length (marks_over s (network (with_bytes g x))) ≡ g.m
  unfolding marks_over network
  unmarked-size = row-size g.m (mark_over s (network (with_bytes g x)))

  pub unmarked_is : (k : ℕ) → k < g.m → is_excluded (get_or (marks_over s (network (with_bytes g x))) k free) ≡ touched s (network g) (suc k)
  unfolding marks_over network
  unmarked_is k h =
      ap is_excluded (row_at g.m (mark_over s (network (with_bytes g x))) k free h)
      ∙ ap (λ (z : Mark). is_excluded (cond (touched s (network g) (suc k)) excluded z)) (network_mark (with_bytes g x) k h ∙ ap mark_of (zeros k) ∙ no_mark)
      ∙ told (touched s (network g) (suc k))
    where
      told : (b : Bool) → is_excluded (cond b excluded free) ≡ b
      told true = refl
      told false = refl
