-- The greedy choice edge by edge: what each edge looked at does to the set taken, to the counts and to the labels. Assumes nothing.
use Rattle.std.specs.Prelude.{◌≡◌, refl, ◌≢◌, ◌⊎◌, List, [], ◌∷◌, ◌++◌, ℕ, suc, ◌+◌, ◌<◌, ◌≤◌, length, get_or, set}
use Rattle.std.proofs.Common.{◌∙◌, ap, inl, inr, arith, get_or-set_same, get_or-set_other}
use Rattle.std.proofs.Math.Path.{sym}
use Rattle.std.proofs.Math.Bool.{true, false}
use Rattle.std.proofs.Math.Decide.{ℕ_discrete}
use Rattle.std.proofs.Math.Dec.{eqb, ltb}
use borrow.Author.Tests.{eq-eqb, ne_eqb, lt-ltb, le-ltb}
use Rattle.lists.specs.Members.{◌∈◌}
use Rattle.lists.specs.Weights.{weight}
use Rattle.graph.specs.Network.{Network}
use Rattle.spanning.specs.Walks.{label}
use Rattle.spanning.specs.Components.{joins, rank, Inside}
use Rattle.spanning.specs.Choice.{choose}
use Rattle.spanning.specs.FirstTwo.{fewer}
use Rattle.spanning.specs.Forests.{greedy, greedy-length, greedy_idle}
use Rattle.spanning.specs.Held.{HoldsLabels}
use Rattle.tree_theory.specs.Arrays.{entry}

-- w has a 1 at each edge of xs and of ys, and 0 elsewhere
pub record OnesAt (w xs ys : List ℕ) : Type 0 where
  pub on : (k : ℕ) → (suc k ∈ xs) ⊎ (suc k ∈ ys) → get_or w k 0 ≡ 1
  pub off : (k : ℕ) → (get_or w k 0 ≡ 0) ⊎ ((suc k ∈ xs) ⊎ (suc k ∈ ys))

took_first : (w xs ys : List ℕ) (k : ℕ) → k < length w → OnesAt w xs ys → OnesAt (set w k 1) (suc k ∷ xs) ys
took_first w xs ys k h t = record { on = λ j m. on j m (ℕ_discrete j k); off = λ j. off j (ℕ_discrete j k) }
  where
    old : (j : ℕ) → j ≢ k → (suc j ∈ (suc k ∷ xs)) ⊎ (suc j ∈ ys) → (suc j ∈ xs) ⊎ (suc j ∈ ys)
    old j n (inl (inl e)) = absurd (n (omega arith))
    old j n (inl (inr m)) = inl m
    old j n (inr m) = inr m

    on : (j : ℕ) → (suc j ∈ (suc k ∷ xs)) ⊎ (suc j ∈ ys) → Dec (j ≡ k) → get_or (set w k 1) j 0 ≡ 1
    on j m (yes e) = rw e (get_or-set_same w k 1 0 h)
    on j m (no e) = get_or-set_other w k j 1 0 e ∙ t.on j (old j e m)

    new : (j : ℕ) → (get_or w j 0 ≡ 0) ⊎ ((suc j ∈ xs) ⊎ (suc j ∈ ys)) → (get_or w j 0 ≡ 0) ⊎ ((suc j ∈ (suc k ∷ xs)) ⊎ (suc j ∈ ys))
    new j (inl e) = inl e
    new j (inr (inl m)) = inr (inl (inr m))
    new j (inr (inr m)) = inr (inr m)

    off : (j : ℕ) → Dec (j ≡ k) → (get_or (set w k 1) j 0 ≡ 0) ⊎ ((suc j ∈ (suc k ∷ xs)) ⊎ (suc j ∈ ys))
    off j (yes e) = inr (inl (inl (rw e)))
    off j (no e) = rw (get_or-set_other w k j 1 0 e) (new j (t.off j))

flip : {w xs ys : List ℕ} → OnesAt w xs ys → OnesAt w ys xs
flip {w} {xs} {ys} t = record { on = λ k m. t.on k (turn m); off = λ k. back k (t.off k) }
  where
    turn : {A B : Type 0} → A ⊎ B → B ⊎ A
    turn (inl a) = inr a
    turn (inr b) = inl b

    back : (k : ℕ) → (get_or w k 0 ≡ 0) ⊎ ((suc k ∈ xs) ⊎ (suc k ∈ ys)) → (get_or w k 0 ≡ 0) ⊎ ((suc k ∈ ys) ⊎ (suc k ∈ xs))
    back k (inl e) = inl e
    back k (inr m) = inr (turn m)

-- what the greedy choice takes: of edges at vertex 1, and of others
abbrev pub near_taken : List ℕ → List ℕ
near_taken xs = choose fewer xs

abbrev pub far_taken : Network → List ℕ → List ℕ
far_taken G es = greedy G.a G.b es

-- what was chosen of the edges xs at vertex 1 and the others es: the set w; far counts the others taken; sum adds up the charges c of all taken
pub record TakenGreedily (G : Network) (c xs es w : List ℕ) (far sum : ℕ) : Type 0 where
  pub joined : far ≡ rank G.a G.b es
  pub took : OnesAt w (near_taken xs) (far_taken G es)
  pub weighed : sum ≡ weight (entry c) (near_taken xs) + weight (entry c) (far_taken G es)

pub grew_none : (G : Network) (c w : List ℕ) → ((k : ℕ) → get_or w k 0 ≡ 0) → TakenGreedily G c [] [] w 0 0
unfolding rank choose greedy weight
grew_none G c w h = record { joined = refl; took = record { on = λ k m. no k m; off = λ k. inl (h k) }; weighed = refl }
  where
    no : (k : ℕ) → (suc k ∈ near_taken []) ⊎ (suc k ∈ far_taken G []) → get_or w k 0 ≡ 1
    no k (inl m) = absurd m
    no k (inr m) = absurd m

module _ (G : Network) (c xs es w : List ℕ) (far sum : ℕ) (s : TakenGreedily G c xs es w far sum) where
  -- edges within the components of those that were looked at
  pub grow_none : (ys : List ℕ) → Inside G.a G.b ys es → TakenGreedily G c xs (ys ++ es) w far sum
  grow_none ys h =
      let e = greedy_idle G.a G.b ys es h in
      record {
        joined = omega (arith, s.joined, ap length e, greedy-length G.a G.b (ys ++ es), greedy-length G.a G.b es);
        took = rw e s.took;
        weighed = rw e s.weighed;
      }

  -- a third at vertex 1
  pub grow_spare : (e : ℕ) → 2 ≤ length xs → TakenGreedily G c (e ∷ xs) es w far sum
  unfolding choose fewer
  grow_spare e o =
      let b : ltb (length xs) 2 ≡ false = le-ltb (length xs) 2 o in
      record { joined = s.joined; took = rw b s.took; weighed = rw b s.weighed }

  module _ (k : ℕ) (room : k < length w) where
    -- one of the first two at vertex 1
    pub grow_near : length xs < 2 → TakenGreedily G c (suc k ∷ xs) es (set w k 1) far (sum + get_or c k 0)
    unfolding choose fewer weight
    grow_near o =
        let b : ltb (length xs) 2 ≡ true = lt-ltb (length xs) 2 o in
        record {
          joined = s.joined;
          took = rw b (took_first w (near_taken xs) (far_taken G es) k room s.took);
          weighed = rw b (omega (arith, s.weighed));
        }

    -- one that is not at vertex 1, by the labels l of the components
    module _ (l : List ℕ) (n : ℕ) (hp : G.a (suc k) < n) (hq : G.b (suc k) < n) (holds : HoldsLabels G.a G.b n l es) where
      -- the label of a vertex
      abbrev at : ℕ → ℕ
      at v = label G.a G.b es v

      -- it joins two components
      pub grow_join : get_or l (G.a (suc k)) 0 ≢ get_or l (G.b (suc k)) 0
          → TakenGreedily G c xs (suc k ∷ es) (set w k 1) (far + 1) (sum + get_or c k 0)
      unfolding rank greedy choose joins weight
      grow_join ne =
          let b : eqb (at (G.a (suc k))) (at (G.b (suc k))) ≡ false =
          ne_eqb _ _ (λ f. ne (holds (G.a (suc k)) hp ∙ f ∙ sym (holds (G.b (suc k)) hq))) in
          record {
            joined = rw b (omega (arith, s.joined));
            took = rw b (flip (took_first w (far_taken G es) (near_taken xs) k room (flip s.took)));
            weighed = rw b (omega (arith, s.weighed));
          }

      -- it closes a circle
      pub grow_idle : get_or l (G.a (suc k)) 0 ≡ get_or l (G.b (suc k)) 0 → TakenGreedily G c xs (suc k ∷ es) w far sum
      unfolding rank greedy choose joins
      grow_idle eq =
          let b : eqb (at (G.a (suc k))) (at (G.b (suc k))) ≡ true =
          eq-eqb _ _ (sym (holds (G.a (suc k)) hp) ∙ eq ∙ holds (G.b (suc k)) hq) in
          record { joined = rw b (omega (arith, s.joined)); took = rw b s.took; weighed = rw b s.weighed }
