-- What the calls of onetree say on the small graph is what is said over the vertices that are afloat, and the bytes that they leave, made bytes for all
-- edges, are those of the calls with the list.
use Rattle.std.specs.Prelude.{◌≡◌, refl, Bool, true, false, cond, ◌&&◌, List, ◌++◌, ℕ, suc, ◌<◌, ◌≤◌, length, get_or, take, ℤ, pos}
use Rattle.std.proofs.Common.{◌∙◌, sym, ap, subst, arith, eq-eqb}
use Rattle.std.proofs.Math.ListN.{get_or-append}
use Rattle.std.proofs.lemmas.List.{get_or-take, length-take-le}
use Rattle.std.specs.Int.Signed.{lt_z}
use Rattle.lists.specs.Bools.{bit, by_cases}
use Rattle.lists.specs.Fill.{fit, fit-size, fit_at}
use Rattle.lists.specs.Members.{◌∈◌}
use Rattle.lists.specs.Numbers.{up_to}
use Rattle.lists.specs.Rows.{row, row_same, row_is, row_at, row-size}
use Rattle.integers.specs.Multiples.{◌times◌}
use Rattle.graph.specs.declared.Graph.{Graph}
use Rattle.graph.specs.Limits.{max_vertices, max_edges}
use Rattle.graph.specs.Network.{network}
use Rattle.graph.specs.Valid as value
use Rattle.graph.specs.Meaning.{true_valid}
use Rattle.tree_theory.specs.OneTree.{Edges}
use Rattle.tree_theory.specs.Agree.{Agree}
use Rattle.tree_theory.specs.Arrays.{entry, edge_of, in_edge, network_n, network_m}
use Rattle.tree_theory.specs.Inputs.{multiplier, multipliers_fit, ceiling_fits, denominator_fault, input_fault}
use Rattle.tree_theory.specs.Enumeration.{Tree, no_tree, a_tree, least_tree, Ruling, was_excluded, ruling}
use Rattle.tree_theory.specs.Scaled.{scaled_by}
use Rattle.thinning.specs.Ranks.{rank, nth, rank_in, nth_of, rank_most}
use Rattle.thinning.specs.Thinned.{spread, Spread}
use Rattle.afloat.specs.Over.{Ashore, ashore, active}
use Rattle.afloat.specs.Compact.{Keeping}
use Rattle.afloat.specs.Graphs.{Renumbered}
use Rattle.afloat.specs.Inputs.{fit_of}
use Rattle.afloat.specs.Lists.{reduced_list, reduced-size}
use Rattle.afloat.specs.ListsFit.{reduced_fits}
use Rattle.afloat.specs.Computed.{small-valid}
use Rattle.afloat.proofs.Computed.{small-tree, small-ruling, small_rest}
use Rattle.onetree.specs.Answers.{refused, none, bounded, tree_fault, tree_says, tree_writes, tree_reply, tree_leaves}
use Rattle.onetree.specs.Answers.{rule_fault, rule_says, rule_writes, rule_reply, rule_leaves, ruling_byte}
use Rattle.reduction.specs.Answers.{tree_of, rulings_of}
use Rattle.reduction.specs.declared.left.Small.{Small}
use Rattle.reduction.specs.Made.{Made}
use Rattle.reduction.specs.Left.{kept, expanded}
use Rattle.reduction.specs.Small.{struck_own, keeping, renumbered}

-- ---- what a reply says of the tree, against a ceiling or none

says_none : (x : Tree) → none ≡ tree_says x → x ≡ no_tree
says_none no_tree h = refl
says_none (a_tree b r) h = absurd cc

pub never_refused : (n p : ℕ) (x : Tree) → refused n p ≡ tree_says x → ⊥
never_refused n p no_tree h = cc
never_refused n p (a_tree b r) h = cc

clash_over : (b : Bool) (z : ℤ) (n p : ℕ) → refused n p ≡ cond b none (bounded z) → ⊥
clash_over true z n p h = cc
clash_over false z n p h = cc

pub never_refused_over : (n p : ℕ) (u : ℤ) (x : Tree) → refused n p ≡ rule_says u x → ⊥
never_refused_over n p u no_tree h = cc
never_refused_over n p u (a_tree b r) h = clash_over (lt_z u b) b n p h

-- 'no tree' and 'dead' leave the list as it was
pub none_writes : (m : ℕ) (out : List ℕ) (x : Tree) → none ≡ tree_says x → out ≡ tree_writes m out x
none_writes m out no_tree h = refl
none_writes m out (a_tree b r) h = absurd cc

pub none_writes_over : (m : ℕ) (u : ℤ) (out : List ℕ) (f : ℕ → Ruling) (x : Tree) → none ≡ rule_says u x → out ≡ rule_writes m u out f x
none_writes_over m u out f no_tree h = refl
none_writes_over m u out f (a_tree b r) h = go (lt_z u b) h
  where
    go : (c : Bool) → none ≡ cond c none (bounded b) → out ≡ cond c out (row m (λ k. ruling_byte (f k)))
    go true e = refl
    go false e = absurd cc

-- a bound is that of a tree, and of one within the ceiling
some_over : (b : ℤ) (u : ℤ) (x : Tree) → bounded b ≡ rule_says u x
    → (m : ℕ) (out : List ℕ) (f : ℕ → Ruling) → rule_writes m u out f x ≡ row m (λ k. ruling_byte (f k))
some_over b u no_tree h m out f = absurd cc
some_over b u (a_tree c r) h m out f = go (lt_z u c) h
  where
    go : (e : Bool) → bounded b ≡ cond e none (bounded c) → cond e out (row m (λ k. ruling_byte (f k))) ≡ row m (λ k. ruling_byte (f k))
    go true i = absurd cc
    go false i = refl

-- trees of which one is the other spread out say the same
spread_says : (c : Edges) (m : ℕ) (x y : Tree) → Spread c m x y → tree_says y ≡ tree_says x
spread_says c m no_tree y h = ap tree_says h
spread_says c m (a_tree b r) y h = ap tree_says h.1

spread_over : (c : Edges) (m : ℕ) (u : ℤ) (x y : Tree) → Spread c m x y → rule_says u y ≡ rule_says u x
spread_over c m u no_tree y h = ap (rule_says u) h
spread_over c m u (a_tree b r) y h = ap (rule_says u) h.1

-- a list that is cut from an array's places
cut_row : (n m : ℕ) (f : ℕ → ℤ) → m ≤ n → take m (fit n (pos 0) (row m f)) ≡ row m f
cut_row n m f few =
    row_is (take m whole) (pos 0) f (λ j h.
    let b : j < m = omega (arith, h, long) in
    get_or-take m whole j (pos 0) b ∙ fit_at n (pos 0) (row m f) j (omega arith) ∙ row_at m f j (pos 0) b)
    ∙ ap (λ (k : ℕ). row k f) long
  where
    whole : List ℤ
    whole = fit n (pos 0) (row m f)

    long : length (take m whole) ≡ m
    long = length-take-le m whole (omega (arith, fit-size n (pos 0) (row m f)))

-- bytes at the front of longer ones
front_at : (m : ℕ) (after rest : List ℕ) (i : ℕ) → length after ≡ m → i < m → get_or (after ++ rest) i 0 ≡ get_or after i 0
front_at m after rest i long h = get_or-append after rest 0 i (omega (arith, long))

module _ (l : List ℕ) (g : Graph) (d : List ℤ) (q : ℕ) (t : Small) (ask : Made l g d t) where
  abbrev all : Graph
  all = t.all

  abbrev left : Graph
  left = t.left

  abbrev s : Ashore
  s = ashore l

  abbrev c : Edges
  c = kept all.mark

  abbrev pub small : List ℤ
  small = reduced_list (ashore l) g.n d

  abbrev pub least : Tree
  least = least_tree (scaled_by q (network left)) (multiplier small)

  keep : Keeping s (network g) c
  keep = keeping s g all left all.mark ask.moved.ends (struck_own s g all ask.moved) ask.those

  renum : Renumbered s c g left
  renum = renumbered s g all left all.mark ask.moved.ends (struck_own s g all ask.moved) ask.those

  pub left_valid : value.Valid left
  left_valid = small-valid l c g left ask.valid ask.fits keep renum q

  small_long : length small ≡ left.n
  small_long = reduced-size s g.n d ∙ sym renum.n

  small_fit : multipliers_fit small ≡ true
  small_fit = unfold network in reduced_fits s (network g) (fit_of g ask.valid l ask.fits) d ask.multipliers.long ask.multipliers.fit

  -- the network has as many vertices
  small_is : reduced_list (ashore l) (network g).n d ≡ small
  small_is = ap (λ (n : ℕ). reduced_list (ashore l) n d) (network_n g)

  -- THE TREE
  the_tree : Spread c (network g).m least (tree_of g d l q)
  the_tree = unfold network in small-tree l c g left ask.valid ask.fits keep renum q d

  pub same_says : tree_says (tree_of g d l q) ≡ tree_says least
  same_says = spread_says c (network g).m least (tree_of g d l q) the_tree

  pub same_over : (u : ℤ) → rule_says u (tree_of g d l q) ≡ rule_says u least
  same_over u = spread_over c (network g).m u least (tree_of g d l q) the_tree

  -- the places that are lent
  pub few_multipliers : (n : ℕ) → n ≡ left.n → n ≤ length t.multipliers
  few_multipliers n en = omega (arith, en, ap (length {A = ℤ}) ask.own, fit-size max_vertices (pos 0) small, left_valid.high)

  pub few_vertices : (n : ℕ) → n ≡ left.n → n ≤ max_vertices
  few_vertices n en = omega (arith, en, left_valid.high)

  pub few_bytes : (m : ℕ) → m ≡ left.m → m ≤ max_edges
  few_bytes m em = omega (arith, em, left_valid.few)

  -- ---- what the calls are asked: the multipliers from an array, and a list of their own

  module _ (n m : ℕ) (bytes : List ℕ) (en : n ≡ left.n) (em : m ≡ left.m) (room : left.m ≤ length bytes) (den : denominator_fault q ≡ 0) where
    asked : take n t.multipliers ≡ small
    unfolding reduced_list
    asked =
        ap (λ (k : ℕ). take k t.multipliers) (en ∙ renum.n)
        ∙ ap (take (rank (active s) g.n)) ask.own
        ∙ cut_row max_vertices (rank (active s) g.n) (λ j. multiplier d (nth (active s) g.n j))
        (omega (arith, rank_most (active s) g.n, ask.valid.high))

    pub lent : length (take m bytes) ≡ left.m
    lent = ap (λ (k : ℕ). length (take k bytes)) em ∙ length-take-le left.m bytes room

    no_tree_fault : tree_fault left small q left.m ≡ 0
    unfolding tree_fault input_fault
    no_tree_fault = rw (true_valid left left_valid, eq-eqb (length small) left.n small_long, eq-eqb left.m left.m refl, small_fit) den

    pub tree_asked : tree_reply left (take n t.multipliers) q (length (take m bytes)) ≡ tree_says least
    unfolding tree_reply
    tree_asked = rw (asked, lent, no_tree_fault) refl

    pub tree_lent : tree_leaves left (take n t.multipliers) q (take m bytes) ≡ tree_writes left.m (take m bytes) least
    unfolding tree_leaves
    tree_lent = rw (asked, lent, no_tree_fault) refl

    module _ (ceiling : ℤ) (cf : ceiling_fits ceiling ≡ true) where
      no_rule_fault : rule_fault left small ceiling q left.m ≡ 0
      unfolding rule_fault input_fault
      no_rule_fault = rw (true_valid left left_valid, eq-eqb (length small) left.n small_long, eq-eqb left.m left.m refl, small_fit, cf) den

      pub rule_asked : rule_reply left (take n t.multipliers) ceiling q (length (take m bytes)) ≡ rule_says (q times ceiling) least
      unfolding rule_reply
      rule_asked = rw (asked, lent, no_rule_fault) refl

      pub rule_lent : rule_leaves left (take n t.multipliers) ceiling q (take m bytes)
          ≡ rule_writes left.m (q times ceiling) (take m bytes) (ruling (scaled_by q (network left)) (multiplier small) (q times ceiling)) least
      unfolding rule_leaves
      rule_lent = rw (asked, lent, no_rule_fault) refl

  -- ---- the bytes for all edges, from those that are left

  module _ (bytes : List ℕ) (f : ℕ → ℕ) (at : (i : ℕ) → i < left.m → get_or bytes i 0 ≡ f (suc i)) where
    own_at : (k : ℕ) → k ∈ up_to (network g).m → c k ≡ true → (rank c k ∈ up_to (rank c (network g).m)) × (entry bytes (rank c k) ≡ f (rank c k))
    own_at k i e = (r, subst (λ (j : ℕ). entry bytes j ≡ f j) (sym p.2) (at p.0 (omega (arith, p.1, size))))
      where
        size : left.m ≡ rank c (network g).m
        size = renum.m ∙ ap (rank c) (sym (network_m g))

        r : rank c k ∈ up_to (rank c (network g).m)
        r = rank_in c (network g).m k i e

        p : (j : ℕ) × (j < rank c (network g).m) × (rank c k ≡ suc j)
        p = edge_of (rank c (network g).m) (rank c k) r

    spread_row : (rest : ℕ) (h : ℕ → ℕ)
        → ((k : ℕ) → k ∈ up_to (network g).m → c k ≡ true → rank c k ∈ up_to (rank c (network g).m) → f (rank c k) ≡ h k)
        → ((k : ℕ) → k ∈ up_to (network g).m → c k ≡ false → rest ≡ h k)
        → row all.m (expanded all bytes rest) ≡ row g.m h
    unfolding expanded
    spread_row rest h own other =
        ap (λ (k : ℕ). row k (expanded all bytes rest)) ask.moved.ends.m
        ∙ row_same g.m (expanded all bytes rest) h (λ j b.
        let i = in_edge g j b in
        by_cases (c (suc j))
        (λ e.
        let r = own_at (suc j) i e in
        ap (λ (x : Bool). cond x (entry bytes (rank c (suc j))) rest) e ∙ r.1 ∙ own (suc j) i e r.0)
        (λ e. ap (λ (x : Bool). cond x (entry bytes (rank c (suc j))) rest) e ∙ other (suc j) i e))

  module _ (before after rest : List ℕ) where
    -- of the tree call
    pub tree_written : (b : ℤ) → bounded b ≡ tree_says least → after ≡ tree_writes left.m before least → (out : List ℕ)
        → row all.m (expanded all (after ++ rest) 0) ≡ tree_writes g.m out (tree_of g d l q)
    tree_written b h w out = go least h w the_tree
      where
        done : (r t : Edges) → after ≡ row left.m (λ k. bit (r k)) → Agree (network g).m t (spread c r)
            → row all.m (expanded all (after ++ rest) 0) ≡ row g.m (λ k. bit (t k))
        done r t e a =
            spread_row (after ++ rest) (λ k. bit (r k)) own_byte 0 (λ k. bit (t k))
            (λ k i p m. sym (ap bit (a k i ∙ ap (λ (x : Bool). x && r (rank c k)) p)))
            (λ k i p. sym (ap bit (a k i ∙ ap (λ (x : Bool). x && r (rank c k)) p)))
          where
            own_byte : (i : ℕ) → i < left.m → get_or (after ++ rest) i 0 ≡ bit (r (suc i))
            own_byte i b =
                front_at left.m after rest i (ap length e ∙ row-size left.m (λ k. bit (r k))) b
                ∙ ap (λ (w : List ℕ). get_or w i 0) e
                ∙ row_at left.m (λ k. bit (r k)) i 0 b

        go : (x : Tree) → bounded b ≡ tree_says x → after ≡ tree_writes left.m before x → Spread c (network g).m x (tree_of g d l q)
            → row all.m (expanded all (after ++ rest) 0) ≡ tree_writes g.m out (tree_of g d l q)
        go no_tree h w z = absurd cc
        go (a_tree e r) h w z = done r z.0 w z.2 ∙ sym (ap (tree_writes g.m out) z.1)

    -- of the rule call
    module _ (ceiling : ℤ) where
      abbrev u : ℤ
      u = q times ceiling

      abbrev pub ours : ℕ → Ruling
      ours = ruling (scaled_by q (network left)) (multiplier small) (q times ceiling)

      own_ruling : (k : ℕ) → k ∈ up_to (network g).m → c k ≡ true → rank c k ∈ up_to (rank c (network g).m)
          → ours (rank c k) ≡ rulings_of g d l ceiling q k
      own_ruling k i e m =
          ap (λ (e : List ℤ). ruling (scaled_by q (network left)) (multiplier e) u (rank c k)) (sym small_is)
          ∙ sym (ap (rulings_of g d l ceiling q) (sym (nth_of c (network g).m k i e))
          ∙ small-ruling l c g left ask.valid ask.fits keep renum q d u (rank c k) m)

      other_ruling : (k : ℕ) → k ∈ up_to (network g).m → c k ≡ false → rulings_of g d l ceiling q k ≡ was_excluded
      other_ruling k i e = small_rest l c g left ask.valid ask.fits keep renum q d u k i e

      pub rule_written : (b : ℤ) → bounded b ≡ rule_says u least → after ≡ rule_writes left.m u before ours least → (out : List ℕ)
          → row all.m (expanded all (after ++ rest) 4) ≡ rule_writes g.m u out (rulings_of g d l ceiling q) (tree_of g d l q)
      rule_written b h w out =
          spread_row (after ++ rest) (λ k. ruling_byte (ours k)) own_byte 4 (λ k. ruling_byte (rulings_of g d l ceiling q k))
          (λ k i p m. ap ruling_byte (own_ruling k i p m))
          (λ k i p. sym (ap ruling_byte (other_ruling k i p)))
          ∙ sym (some_over b u (tree_of g d l q) (h ∙ sym (same_over u)) g.m out (rulings_of g d l ceiling q))
        where
          ruled : after ≡ row left.m (λ k. ruling_byte (ours k))
          ruled = w ∙ some_over b u least h left.m before ours

          own_byte : (i : ℕ) → i < left.m → get_or (after ++ rest) i 0 ≡ ruling_byte (ours (suc i))
          own_byte i b =
              front_at left.m after rest i (ap length ruled ∙ row-size left.m (λ k. ruling_byte (ours k))) b
              ∙ ap (λ (w : List ℕ). get_or w i 0) ruled
              ∙ row_at left.m (λ k. ruling_byte (ours k)) i 0 b
