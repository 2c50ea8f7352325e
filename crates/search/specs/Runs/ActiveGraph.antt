-- The graph on which the nodes of a search are opened: one whose network is that of the active vertices (`GraphIs`). Where some are inactive it has edges
-- between vertices 1 and 2 for those that touch one, so it need not be valid; but what is left of it without the edges that a node excludes is
-- (`left_is_valid`). Assumes nothing.
use Rattle.std.specs.Prelude.{◌≡◌, Bool, true, false, cond, List, ℕ, suc, ◌≤◌, ◌<◌, eqb, get_or, pos, Option, unwrap_or}
use Rattle.std.proofs.Math.Path.{refl}
use Rattle.std.proofs.Common.{sym, ap, ◌∙◌, subst, true≢false, arith, eqb-true, eq-eqb}
use Rattle.std.proofs.lemmas.Bool.{not-true, not-false}
use Rattle.lists.specs.Bools.{by_cases}
use Rattle.graph.specs.declared.Graph.{Graph}
use Rattle.graph.specs.Limits.{max_edges}
use Rattle.graph.specs.Network.{Network, free, excluded, mark_of, place, network}
use Rattle.graph.specs.Places.{place_at, network_a, network_b, network-cost, network_mark}
use Rattle.graph.specs.Valid.{Valid}
use Rattle.tree_theory.specs.OneTree.{Edges}
use Rattle.tree_theory.specs.Arrays.{entry, edge_of}
use Rattle.thinning.specs.Ranks.{rank, nth, rank_yes, rank_most, nth-rank}
use Rattle.afloat.specs.Over.{ashore, active, touched, mark_over}
use Rattle.afloat.specs.Inputs.{fit_of, ashore_zero}
use Rattle.afloat.specs.Compact.{Keeping}
use Rattle.afloat.specs.Graphs.{Renumbered, renumbered_valid}
use Rattle.machine.specs.Machine.{Marks, Opening, active_network}
use Rattle.machine.specs.Kept.{active_size, Accepted, Off, touching}
use Rattle.mark_rows.specs.MarkRows.{marks_in_rows}
use Rattle.node.specs.Marks.{byte_of, with_bytes, bytes_of, bytes-at}
use Rattle.node.specs.Opened.{kept, left_of, left, marked}
use Rattle.node.specs.Compacting.{left-place}
use Rattle.node.specs.Passes.{valid-bytes}

-- the graph that a run made, or the opening's own where it made none
abbrev pub GraphIs : Opening → Option Graph → Type 0
GraphIs o afloat = network (unwrap_or afloat o.graph) ≡ active_network o

module _ (o : Opening) (a : Accepted o) (q : Graph) (is : network q ≡ active_network o) where
  pub graph_n : q.n ≡ active_size o
  graph_n = unfold network in ap (λ (h : Network). h.n) is

  pub graph_m : q.m ≡ o.graph.m
  graph_m = unfold network in ap (λ (h : Network). h.m) is

  pub graph_few : q.m ≤ max_edges
  graph_few = omega (arith, graph_m, a.valid.few)

  -- the marks y exclude what touches an inactive vertex
  module _ (y : Marks) (off : Off o.graph.m (touching o) y) where
    g : Graph
    g = with_bytes o.graph (bytes_of y)

    p : Graph
    p = with_bytes q (bytes_of y)

    c : Edges
    c = kept (bytes_of y)

    byte : (i : ℕ) → i < o.graph.m → entry (bytes_of y) (suc i) ≡ byte_of (get_or y i free)
    byte i b = bytes-at y i (omega (arith, a.valid.few))

    untouched : (i : ℕ) → i < o.graph.m → c (suc i) ≡ true → touching o (suc i) ≡ false
    unfolding c
    untouched i b k = by_cases (touching o (suc i))
        (λ t.
        let e : entry (bytes_of y) (suc i) ≡ 2 = byte i b ∙ ap byte_of (off i b t) in
        absurd (true≢false (sym (eq-eqb (entry (bytes_of y) (suc i)) 2 e) ∙ not-true (eqb (entry (bytes_of y) (suc i)) 2) k)))
        (λ t. t)

    lost : (i : ℕ) → i < o.graph.m → c (suc i) ≡ false → mark_over (ashore o.ashore) (network g) (suc i) ≡ excluded
    unfolding c g
    lost i b k = by_cases (touched (ashore o.ashore) (network g) (suc i))
        (λ t. ap (λ (x : Bool). cond x excluded ((network g).mark (suc i))) t)
        (λ t.
        let e : entry (bytes_of y) (suc i) ≡ 2 = eqb-true (entry (bytes_of y) (suc i)) 2 (not-false _ k) in
        ap (λ (x : Bool). cond x excluded ((network g).mark (suc i))) t
        ∙ network_mark g i b ∙ ap mark_of e ∙ unfold mark_of in refl)

    keeping : Keeping (ashore o.ashore) (network g) c
    unfolding g network
    keeping = record { free = λ k i e. inside k (edge_of o.graph.m k i) e; rest = λ k i e. outside k (edge_of o.graph.m k i) e }
      where
        inside : (k : ℕ) → (j : ℕ) × (j < o.graph.m) × (k ≡ suc j) → c k ≡ true → touched (ashore o.ashore) (network g) k ≡ false
        inside k r e =
            subst (λ (z : ℕ). touched (ashore o.ashore) (network g) z ≡ false) (sym r.2)
            (untouched r.0 r.1 (subst (λ (z : ℕ). c z ≡ true) r.2 e))

        outside : (k : ℕ) → (j : ℕ) × (j < o.graph.m) × (k ≡ suc j) → c k ≡ false → mark_over (ashore o.ashore) (network g) k ≡ excluded
        outside k r e =
            subst (λ (z : ℕ). mark_over (ashore o.ashore) (network g) z ≡ excluded) (sym r.2)
            (lost r.0 r.1 (subst (λ (z : ℕ). c z ≡ false) r.2 e))

    -- what stands at the new place of an edge that is left
    moved_lem : {A : Type 0} (z : A) (was : List A) (i : ℕ) → i < o.graph.m → c (suc i) ≡ true
        → get_or (left_of z (bytes_of y) q.m was) (rank c i) z ≡ get_or was i z
    unfolding c
    moved_lem z was i b e =
        let b' : i < q.m = omega (arith, graph_m) in
        left-place z (bytes_of y) q.m was (rank c i) (omega (arith, rank_most c i, graph_few))
        ∙ ap (place z q.m was) (ap (nth c q.m) (sym (rank_yes c i e)) ∙ nth-rank c q.m i b' e)
        ∙ place_at z q.m was i b'

    there_a : (i : ℕ) → i < o.graph.m → touching o (suc i) ≡ false → get_or q.a i 0 ≡ rank (active (ashore o.ashore)) (get_or o.graph.a i 0)
    there_a i b t =
        sym (network_a q i (omega (arith, graph_m)))
        ∙ ap (λ (h : Network). h.a (suc i)) is
        ∙ ap (λ (x : Bool). cond x 1 (rank (active (ashore o.ashore)) ((network o.graph).a (suc i)))) t
        ∙ ap (rank (active (ashore o.ashore))) (network_a o.graph i b)

    there_b : (i : ℕ) → i < o.graph.m → touching o (suc i) ≡ false → get_or q.b i 0 ≡ rank (active (ashore o.ashore)) (get_or o.graph.b i 0)
    there_b i b t =
        sym (network_b q i (omega (arith, graph_m)))
        ∙ ap (λ (h : Network). h.b (suc i)) is
        ∙ ap (λ (x : Bool). cond x 2 (rank (active (ashore o.ashore)) ((network o.graph).b (suc i)))) t
        ∙ ap (rank (active (ashore o.ashore))) (network_b o.graph i b)

    there-cost : (i : ℕ) → i < o.graph.m → get_or q.cost i (pos 0) ≡ get_or o.graph.cost i (pos 0)
    there-cost i b =
        sym (network-cost q i (omega (arith, graph_m))) ∙ ap (λ (h : Network). h.cost (suc i)) is ∙ network-cost o.graph i b

    renumbered : Renumbered (ashore o.ashore) c g (left p)
    unfolding g p c
    renumbered = record {
      n = graph_n;
      m = ap (rank c) graph_m;
      a = λ i b e. moved_lem 0 q.a i b e ∙ there_a i b (untouched i b e);
      b = λ i b e. moved_lem 0 q.b i b e ∙ there_b i b (untouched i b e);
      cost = λ i b e. moved_lem (pos 0) q.cost i b e ∙ there-cost i b;
      mark = λ i b e. moved_lem 0 (bytes_of y) i b e;
    }

    bytes-valid : Valid (left (with_bytes q (bytes_of y)))
    unfolding p g c
    bytes-valid =
        renumbered_valid (ashore o.ashore) (ashore_zero o.ashore) c g (left p) (valid-bytes o.graph y a.valid)
        (fit_of g (valid-bytes o.graph y a.valid) o.ashore a.ashore_fit) keeping renumbered

  -- WHAT IS LEFT IS VALID
  pub left_is_valid : (x : List ℕ) → Off o.graph.m (touching o) (marks_in_rows o.graph.m x) → Valid (left (marked q x))
  left_is_valid x off =
      subst (λ (m : ℕ). Valid (left (with_bytes q (bytes_of (marks_in_rows m x))))) (sym graph_m) (bytes-valid (marks_in_rows o.graph.m x) off)
