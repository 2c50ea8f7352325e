-- The record's check as a test: `check s` is true exactly where `Canonical s` holds (check_yes, check_no, check_is). Nothing else is known
-- or needed of it. Assumes nothing.
use Rattle.std.specs.Prelude.{◌≡◌, refl, Bool, true, false, cond, ◌&&◌, List, ℕ, zero, suc, ◌+◌, ◌*◌, ◌≤◌, ◌<◌, length, ℤ, pos}
use Rattle.std.proofs.Common.{sym, ap, subst, true≢false, arith}
use Rattle.std.proofs.lemmas.Bool.{false≢true}
use Rattle.std.proofs.Math.Decide.{dec_le, ℕ_discrete, map_dec}
use Rattle.std.proofs.Math.ListN.{get_or}
use Rattle.std.proofs.Math.IntN.{ℤ_discrete}
use Rattle.graph.specs.Limits.{max_vertices, max_edges, max_count}
use Rattle.graph.specs.declared.Graph.{Graph}
use Rattle.graph.specs.Network.{Mark, free, required, excluded}
use Rattle.tree_theory.specs.OneTree.{Edges}
use Rattle.tree_theory.specs.Inputs.{multipliers_fit, ceiling_fits}
use Rattle.machine.specs.declared.Settings.{Settings}
use Rattle.machine.specs.Machine.{Marks}
use Rattle.machine.specs.Requireds.{requireds}
use Rattle.machine.specs.Kept.{Off}
use Rattle.machine.specs.Calls.{fault}
use Rattle.lists.specs.Bools.{and_no_left}
use Rattle.lists.specs.Fill.{fill-size, fit-size}
use Rattle.bits.specs.Rows.{digit, digit_past}
use Rattle.bits.specs.Pairs.{Clear, Apart}
use Rattle.mark_rows.specs.MarkRows.{row_words, node_words, required_in, excluded_in, RowsFit}
use Rattle.search.specs.Record.{max_nodes, stack_size, no_settings, rows_at, marks_at, multipliers_at, is_open, has_tour, opening_in, active_in}
use Rattle.search.specs.Canonical.{Zeros, GraphTidy, used_in, StackTidy, CarriedTidy, Tidy, Idle, NodeFits, StackFits, touching_in, StackStruck, CarriedFits, Bits, Fits, Flags, Stands, Canonical}
use Rattle.search.specs.declared.Search.{Search}

-- ---- what decides

both : {P Q : Type 0} → Dec P → Dec Q → Dec (P × Q)
both (yes p) (yes q) = yes (p, q)
both (no p) d = no (λ h. p h.0)
both (yes p) (no q) = no (λ h. q h.1)

implies : {P Q : Type 0} → Dec P → Dec Q → Dec (P → Q)
implies (no p) d = yes (λ h. absurd (p h))
implies (yes p) (yes q) = yes (λ h. q)
implies (yes p) (no q) = no (λ h. q (h p))

bool : (x y : Bool) → Dec (x ≡ y)
bool true true = yes refl
bool false false = yes refl
bool true false = no true≢false
bool false true = no false≢true

below : (n : ℕ) (P : ℕ → Type 0) → ((i : ℕ) → Dec (P i)) → Dec ((i : ℕ) → i < n → P i)
below zero P d = yes (λ i h. absurd (omega arith))
below (suc n) P d = go (below n P d) (d n)
  where
    last : ((i : ℕ) → i < n → P i) → P n → (i : ℕ) → i < suc n → P i
    last f p i h = pick (ℕ_discrete i n)
      where
        pick : Dec (i ≡ n) → P i
        pick (yes e) = subst P (sym e) p
        pick (no e) = f i (omega arith)

    go : Dec ((i : ℕ) → i < n → P i) → Dec (P n) → Dec ((i : ℕ) → i < suc n → P i)
    go (yes f) (yes p) = yes (last f p)
    go (no f) e = no (λ h. f (λ i l. h i (omega arith)))
    go (yes f) (no p) = no (λ h. p (h n (omega arith)))

zeros : (n from : ℕ) (l : List ℕ) → Dec (Zeros 0 n from l)
zeros n from l = below n (λ i. from ≤ i → get_or l i 0 ≡ 0) (λ i. implies (dec_le from i) (ℕ_discrete (get_or l i 0) 0))

zeros_z : (n from : ℕ) (l : List ℤ) → Dec (Zeros (pos 0) n from l)
zeros_z n from l =
    below n (λ i. from ≤ i → get_or l i (pos 0) ≡ pos 0) (λ i. implies (dec_le from i) (ℤ_discrete (get_or l i (pos 0)) (pos 0)))

graph_tidy : (g : Graph) → Dec (GraphTidy g)
graph_tidy g =
    map_dec
    {A = Zeros 0 max_edges g.m g.a × (Zeros 0 max_edges g.m g.b
    × (Zeros (pos 0) max_edges g.m g.cost × Zeros 0 max_edges g.m g.mark))}
    (λ t. record { a = t.0; b = t.1.0; cost = t.1.1.0; mark = t.1.1.1 }) (λ t. (t.a, (t.b, (t.cost, t.mark))))
    (both (zeros max_edges g.m g.a) (both (zeros max_edges g.m g.b)
    (both (zeros_z max_edges g.m g.cost) (zeros max_edges g.m g.mark))))

-- rows of three words: past edge 192 every bit is clear
edges : ℕ
edges = 64 * row_words

clear : (m : ℕ) (r : List ℕ) → length r ≡ row_words → Dec (Clear m r)
unfolding edges
clear m r e =
    map_dec {A = (k : ℕ) → k < suc edges → m < k → digit r k ≡ false} (λ f k. go f k (dec_le (suc k) (suc edges))) (λ f k h. f k)
    (below (suc edges) (λ k. m < k → digit r k ≡ false) (λ k. implies (dec_le (suc m) k) (bool (digit r k) false)))
  where
    go : ((k : ℕ) → k < suc edges → m < k → digit r k ≡ false) → (k : ℕ) → Dec (k < suc edges) → m < k → digit r k ≡ false
    go f k (yes h) = f k h
    go f k (no h) = λ b. digit_past r k (omega (arith, e))

apart : (r s : List ℕ) → length r ≡ row_words → Dec (Apart r s)
unfolding edges
apart r s e =
    map_dec {A = (k : ℕ) → k < suc edges → digit r k && digit s k ≡ false} (λ f k. go f k (dec_le (suc k) (suc edges))) (λ f k h. f k)
    (below (suc edges) (λ k. digit r k && digit s k ≡ false) (λ k. bool (digit r k && digit s k) false))
  where
    go : ((k : ℕ) → k < suc edges → digit r k && digit s k ≡ false) → (k : ℕ) → Dec (k < suc edges) → digit r k && digit s k ≡ false
    go f k (yes h) = f k h
    go f k (no h) = and_no_left (digit r k) (digit s k) (digit_past r k (omega (arith, e)))

rows_fit : (m : ℕ) (l : List ℕ) → Dec (RowsFit m l)
rows_fit m l =
    map_dec {A = Apart (required_in l) (excluded_in l) × (Clear m (required_in l) × Clear m (excluded_in l))}
    (λ t. record { apart = t.0; clear_required = t.1.0; clear_excluded = t.1.1 })
    (λ t. (t.apart, (t.clear_required, t.clear_excluded)))
    (both (apart (required_in l) (excluded_in l) three) (both (clear m (required_in l) three) (clear m (excluded_in l) three₂)))
  where
    three : length (required_in l) ≡ row_words
    three = unfold required_in in fit-size row_words 0 l

    three₂ : length (excluded_in l) ≡ row_words
    three₂ = unfold excluded_in in fill-size row_words (λ i. get_or l (row_words + i) 0)

carried_tidy : (n depth : ℕ) (e : List ℤ) → Dec (CarriedTidy n depth e)
carried_tidy n depth e =
    below max_nodes (λ p. Zeros (pos 0) max_vertices (used_in n depth p) (multipliers_at max_vertices e p))
    (λ p. zeros_z max_vertices (used_in n depth p) (multipliers_at max_vertices e p))

no_settings_lem : (t : Settings) → Dec (t ≡ no_settings)
no_settings_lem t =
    map_dec
    {A = (t.ceiling ≡ pos 0) × ((t.sweeps ≡ 0) × ((t.step ≡ 0) × ((t.denominator ≡ 0) × (t.lifting ≡ 0))))}
    (λ e i. record { ceiling = e.0 i; sweeps = e.1.0 i; step = e.1.1.0 i; denominator = e.1.1.1.0 i; lifting = e.1.1.1.1 i })
    (λ e. (
      ap (λ (x : Settings). x.ceiling) e,
      (
        ap (λ (x : Settings). x.sweeps) e,
        (ap (λ (x : Settings). x.step) e, (ap (λ (x : Settings). x.denominator) e, ap (λ (x : Settings). x.lifting) e)),
      ),
    ))
    (both (ℤ_discrete _ _) (both (ℕ_discrete _ _) (both (ℕ_discrete _ _) (both (ℕ_discrete _ _) (ℕ_discrete _ _)))))

-- a mark that excludes
is_struck : (x : Mark) → Dec (x ≡ excluded)
is_struck free = no (λ e. let z : free ≡ excluded = e in cc)
is_struck required = no (λ e. let z : required ≡ excluded = e in cc)
is_struck excluded = yes refl

off : (m : ℕ) (c : Edges) (x : Marks) → Dec (Off m c x)
off m c x =
    below m (λ k. c (suc k) ≡ true → get_or x k free ≡ excluded) (λ k. implies (bool (c (suc k)) true) (is_struck (get_or x k free)))

module _ (s : Search) where
  tidy : Dec (Tidy s)
  tidy =
      map_dec
      {A = GraphTidy s.graph × (Zeros (pos 0) max_vertices s.graph.n s.multipliers
      × (StackTidy s.depth s.stack × (CarriedTidy (active_in s) s.depth s.carried
      × (Zeros 0 max_vertices s.graph.n s.ashore × Zeros 0 max_edges (cond (has_tour s) s.graph.m 0) s.best))))}
      (λ t. record { graph = t.0; multipliers = t.1.0; stack = t.1.1.0; carried = t.1.1.1.0; ashore = t.1.1.1.1.0; best = t.1.1.1.1.1 })
      (λ t. (t.graph, (t.multipliers, (t.stack, (t.carried, (t.ashore, t.best))))))
      (both (graph_tidy s.graph) (both (zeros_z max_vertices s.graph.n s.multipliers)
      (both (zeros stack_size (node_words * s.depth) s.stack) (both (carried_tidy (active_in s) s.depth s.carried)
      (both (zeros max_vertices s.graph.n s.ashore) (zeros max_edges (cond (has_tour s) s.graph.m 0) s.best))))))

  idle : Dec (Idle s)
  idle =
      map_dec
      {A = (s.graph.n ≡ 0) × ((s.graph.m ≡ 0) × ((s.settings ≡ no_settings)
      × ((s.upper ≡ pos 0) × ((s.depth ≡ 0) × ((has_tour s ≡ false) × (s.count ≡ 0))))))}
      (λ t. record {
        n = t.0;
        m = t.1.0;
        settings = t.1.1.0;
        upper = t.1.1.1.0;
        depth = t.1.1.1.1.0;
        best = t.1.1.1.1.1.0;
        count = t.1.1.1.1.1.1;
      })
      (λ t. (t.n, (t.m, (t.settings, (t.upper, (t.depth, (t.best, t.count)))))))
      (both (ℕ_discrete _ _) (both (ℕ_discrete _ _) (both (no_settings_lem _)
      (both (ℤ_discrete _ _) (both (ℕ_discrete _ _) (both (bool _ _) (ℕ_discrete _ _)))))))

  node_fits : (p : ℕ) → Dec (NodeFits s.graph.m s.stack p)
  node_fits p =
      both (rows_fit s.graph.m (rows_at s.stack p)) (dec_le p (requireds (marks_at s.graph.m s.stack p)))

  fits : Dec (Fits s)
  fits =
      map_dec
      {A = (fault (opening_in s) ≡ 0) × ((s.settings.lifting ≤ 1) × ((ceiling_fits s.upper ≡ true) × ((s.depth ≤ active_in s + 2)
      × (StackFits s.graph.m s.depth s.stack × (StackStruck s.graph.m (touching_in s) s.depth s.stack
      × (CarriedFits (active_in s) s.depth s.carried × (Bits s.best × (s.count ≤ max_count))))))))}
      (λ t. record {
        opening = t.0;
        lifting = t.1.0;
        upper = t.1.1.0;
        depth = t.1.1.1.0;
        stack = t.1.1.1.1.0;
        struck = t.1.1.1.1.1.0;
        carried = t.1.1.1.1.1.1.0;
        best = t.1.1.1.1.1.1.1.0;
        count = t.1.1.1.1.1.1.1.1;
      })
      (λ t. (t.opening, (t.lifting, (t.upper, (t.depth, (t.stack, (t.struck, (t.carried, (t.best, t.count)))))))))
      (both (ℕ_discrete _ _) (both (dec_le _ _) (both (bool _ _) (both (dec_le _ _)
      (both (below s.depth (λ p. NodeFits s.graph.m s.stack p) node_fits)
      (both (below s.depth (λ p. Off s.graph.m (touching_in s) (marks_at s.graph.m s.stack p))
      (λ p. off s.graph.m (touching_in s) (marks_at s.graph.m s.stack p)))
      (both (below s.depth (λ p. multipliers_fit (multipliers_at (active_in s) s.carried p) ≡ true) (λ p. bool _ _))
      (both (below max_edges (λ i. get_or s.best i 0 ≤ 1) (λ i. dec_le _ _)) (dec_le _ _)))))))))

  stands : (b : Bool) → Dec (Stands b s)
  stands true = fits
  stands false = idle

  flags : Dec (Flags s)
  flags =
      map_dec {A = (s.«open» ≤ 1) × (s.has_best ≤ 1)} (λ t. record { «open» = t.0; best = t.1 }) (λ t. (t.«open», t.best))
      (both (dec_le _ _) (dec_le _ _))

  canonical : Dec (Canonical s)
  canonical =
      map_dec {A = Flags s × (Tidy s × Stands (is_open s) s)} (λ t. record { flags = t.0; tidy = t.1.0; stands = t.1.1 })
      (λ t. (t.flags, (t.tidy, t.stands)))
      (both flags (both tidy (stands (is_open s))))

holds : {P : Type 0} → Dec P → Bool
holds (yes p) = true
holds (no p) = false

-- the test
pub check : Search → Bool
check s = holds (canonical s)

pub check_yes : (s : Search) → Canonical s → check s ≡ true
unfolding holds check
check_yes s h = go (canonical s)
  where
    go : (d : Dec (Canonical s)) → holds d ≡ true
    go (yes p) = refl
    go (no p) = absurd (p h)

pub check_no : (s : Search) → ¬ Canonical s → check s ≡ false
unfolding holds check
check_no s h = go (canonical s)
  where
    go : (d : Dec (Canonical s)) → holds d ≡ false
    go (yes p) = absurd (h p)
    go (no p) = refl

pub check_is : (s : Search) → check s ≡ true → Canonical s
unfolding holds check
check_is s h = go (canonical s) h
  where
    go : (d : Dec (Canonical s)) → holds d ≡ true → Canonical s
    go (yes p) e = p
    go (no p) e = absurd (false≢true e)
