-- The replies, case by case, as the code of the calls goes: where the check fails, where no search is open, and where one is. Assumes
-- nothing.
use Rattle.std.specs.Prelude.{◌≡◌, Bool, true, List, [], ◌∷◌, map, ℕ, zero, suc, ◌≤◌, ◌<◌, length, get_or}
use Rattle.std.proofs.Math.Path.{refl}
use Rattle.std.proofs.Common.{sym, ap, ◌∙◌, subst, arith, ext_get_or, true≢false}
use Rattle.std.proofs.Math.Bool.{false}
use Rattle.std.proofs.Math.Dec.{eqb}
use Rattle.std.proofs.lemmas.List.{length-map}
use borrow.Author.Tests.{eq-eqb, ne_eqb}
use Rattle.lists.specs.Bools.{bit}
use Rattle.lists.specs.Fill.{fit, fit-size, fit_at}
use Rattle.graph.specs.Limits.{max_edges}
use Rattle.graph.specs.Valid.{Valid}
use Rattle.graph.specs.Network.{network}
use Rattle.tree_theory.specs.Arrays as onetree
use Rattle.tours.specs.Tours.{cost}
use Rattle.machine.specs.Outcomes.{no_tour, a_tour}
use Rattle.machine.specs.Machine.{Opening, active_network, State, no_search, searching, held, begin, cost_of, finished}
use Rattle.machine.specs.Calls.{Call, lent_by, accepts, opens, run, tell, show, close, Verdict, going_on, none, best, refused, accepted, tells, fault, opened_by, verdict, tour_bytes, shown_by, step}
use Rattle.machine.specs.Calls as machine
use Rattle.machine.specs.Kept.{Kept, KeptState}
use Rattle.search.specs.Record.{fresh, nodes, bits, best_of, is_open, has_tour, opening_in, progress_of, decode, record_of, encode}
use Rattle.search.specs.Canonical.{Fits, Stands, Canonical}
use Rattle.search.specs.Check.{check, check_is}
use Rattle.search.specs.Words.Incumbents.{byte_back, bits-size, bits_at}
use Rattle.search.specs.Runs.Costs.{cost-bits}
use Rattle.search.specs.Inverse.{Typed, encode-decode, decode-kept}
use Rattle.search.specs.Replies.{Outcome, refuses, reply, lent}
use Rattle.search.specs.Seen.{state_in, Again}
use Rattle.search.specs.declared.Search.{Search}
use Rattle.search.specs.declared.State.TheVariants.{Broken, Empty, Waiting, Finished}

-- the bytes of a kept tour are those that the record has for it
tour_bytes_lem : (m : ℕ) (w : List ℕ) → ((i : ℕ) → i < m → get_or w i 0 ≤ 1) → fit m 0 w ≡ tour_bytes (bits m w)
unfolding tour_bytes
tour_bytes_lem m w small =
    ext_get_or 0 (fit m 0 w) (map bit (bits m w)) (fit-size m 0 w ∙ sym (length-map (bits m w) bit ∙ bits-size m w))
    (λ i b. let c : i < m = omega (arith, fit-size m 0 w) in
    fit_at m 0 w i c ∙ sym (at (bits m w) i ∙ ap bit (bits_at m w i c) ∙ byte_back (get_or w i 0) (small i c)))
  where
    at : (r : List Bool) (i : ℕ) → get_or (map bit r) i 0 ≡ bit (get_or r i false)
    at [] i = refl
    at (y ∷ r) zero = refl
    at (y ∷ r) (suc i) = at r i

-- "run, tell, show, close"
abbrev pub NeedsOpen : Call → Type 0
NeedsOpen (opens a) = ⊥
NeedsOpen (run budget) = Unit {0}
NeedsOpen tell = Unit {0}
NeedsOpen (show l) = Unit {0}
NeedsOpen close = Unit {0}

-- a record that passes its check, with a search open
pub record IsOpen (s : Search) : Type 0 where
  pub typed : Typed s
  pub passes : check s ≡ true
  pub opened : is_open s ≡ true

module _ (s : Search) where
  -- the record as it was, with an answer
  abbrev pub same : machine.Answer → Outcome
  same a = record { search = s; answer = a }

  pub reply_24 : (c : Call) → check s ≡ false → reply s c ≡ refuses s 24
  unfolding reply
  reply_24 c e = rw e

  pub lent_24 : (c : Call) → check s ≡ false → lent s c ≡ lent_by c
  unfolding lent
  lent_24 c e = rw e

  pub seen_24 : check s ≡ false → (Broken ≡ state_in s) × Again s
  unfolding state_in
  seen_24 e = (rw e, λ p. absurd (true≢false (sym p ∙ e)))

  module _ (t : Typed s) (e : check s ≡ true) where
    canonical : Canonical s
    canonical = check_is s e

    pub again : Again s
    again p = encode-decode s t canonical

    -- a call that leaves the state
    pub reply-same : (c : Call) (st : State) (a : machine.Answer) → decode s ≡ st → (step st c).state ≡ st → (step st c).answer ≡ a
        → reply s c ≡ same a
    unfolding reply
    reply-same c st a d p q = rw (e, d, p, q) (ap (λ (r : Search). with_answer r a) (ap encode (sym d) ∙ encode-decode s t canonical))
      where
        with_answer : Search → machine.Answer → Outcome
        with_answer r b = record { search = r; answer = b }

    pub lent_same : (c : Call) (st : State) (l : List ℕ) → decode s ≡ st → (step st c).lent ≡ l → lent s c ≡ l
    unfolding lent
    lent_same c st l d p = rw (e, d, p)

    -- ---- no search is open

    module _ (o : is_open s ≡ false) where
      pub shut : decode s ≡ no_search
      unfolding decode
      shut = rw o

      pub seen_20 : Empty ≡ state_in s
      unfolding state_in
      seen_20 = rw (e, shut)

      pub run_20 : (budget : ℕ) → reply s (run budget) ≡ refuses s 20
      run_20 budget = reply-same (run budget) no_search (refused 20 0) shut (unfold step in refl) (unfold step in refl)

      pub tell_20 : reply s tell ≡ refuses s 20
      tell_20 = reply-same tell no_search (refused 20 0) shut (unfold step in refl) (unfold step in refl)

      pub close_20 : reply s close ≡ refuses s 20
      close_20 = reply-same close no_search (refused 20 0) shut (unfold step in refl) (unfold step in refl)

      pub show_20 : (l : List ℕ) → (reply s (show l) ≡ refuses s 20) × (lent s (show l) ≡ l)
      show_20 l = (
        reply-same (show l) no_search (refused 20 0) shut (unfold step in refl) (unfold step in refl),
        lent_same (show l) no_search l shut (unfold step in refl),
      )

      -- but opening
      pub reply_20 : (c : Call) → NeedsOpen c → reply s c ≡ refuses s 20
      reply_20 (opens a) n = absurd n
      reply_20 (run budget) n = run_20 budget
      reply_20 tell n = tell_20
      reply_20 (show l) n = (show_20 l).0
      reply_20 close n = close_20

      pub lent_20 : (c : Call) → NeedsOpen c → lent s c ≡ lent_by c
      lent_20 (opens a) n = absurd n
      lent_20 (run budget) n = lent_same (run budget) no_search [] shut (unfold step in refl)
      lent_20 tell n = lent_same tell no_search [] shut (unfold step in refl)
      lent_20 (show l) n = (show_20 l).1
      lent_20 close n = lent_same close no_search [] shut (unfold step in refl)

      pub open_fault : (a : Opening) (k : ℕ) → fault a ≡ k → (k ≡ 0 → ⊥) → reply s (opens a) ≡ refuses s k
      open_fault a zero f h = absurd (h refl)
      open_fault a (suc k) f h =
          reply-same (opens a) no_search (refused (suc k) 0) shut (unfold step opened_by in rw f) (unfold step opened_by in rw f)

      pub open_done : (a : Opening) → fault a ≡ 0 → reply s (opens a) ≡ record { search = record_of (begin (held a)); answer = accepted }
      unfolding reply encode
      open_done a f = rw (e, shut, begins)
        where
          begins : step no_search (opens a) ≡ accepts (searching (begin (held a))) accepted
          begins = unfold step opened_by in rw f

    -- ---- a search is open

    module _ (o : is_open s ≡ true) where
      pub opened : decode s ≡ searching (progress_of s)
      unfolding decode
      opened = rw o

      pub fitting : Fits s
      fitting = subst (λ (b : Bool). Stands b s) o canonical.stands

      pub kept : Kept (progress_of s)
      kept = subst KeptState opened (decode-kept s t canonical)

      pub open_21 : (a : Opening) → reply s (opens a) ≡ refuses s 21
      open_21 a = reply-same (opens a) (searching (progress_of s)) (refused 21 0) opened (unfold step in refl) (unfold step in refl)

      pub close_done : reply s close ≡ record { search = fresh; answer = accepted }
      unfolding reply encode
      close_done = rw (e, opened, closes)
        where
          closes : step (searching (progress_of s)) close ≡ accepts no_search accepted
          closes = unfold step in refl

      -- the stack and the incumbent

      empty : s.depth ≡ 0 → finished (progress_of s) ≡ true
      unfolding progress_of nodes
      empty h = rw h

      waiting : (s.depth ≡ 0 → ⊥) → finished (progress_of s) ≡ false
      waiting h = go s.depth refl
        where
          at : (d : ℕ) → s.depth ≡ suc d → finished (progress_of s) ≡ false
          at d i = unfold progress_of nodes in rw i

          go : (d : ℕ) → s.depth ≡ d → finished (progress_of s) ≡ false
          go zero i = absurd (h i)
          go (suc d) i = at d i

      pub seen_finished : s.depth ≡ 0 → Finished ≡ state_in s
      unfolding state_in
      seen_finished h = rw (e, opened, empty h)

      pub seen_waiting : (s.depth ≡ 0 → ⊥) → Waiting ≡ state_in s
      unfolding state_in
      seen_waiting h = rw (e, opened, waiting h)

      none_is : has_tour s ≡ false → (progress_of s).incumbent ≡ no_tour
      unfolding progress_of best_of
      none_is h = rw h

      best_is : has_tour s ≡ true → (progress_of s).incumbent ≡ a_tour (bits s.graph.m s.best)
      unfolding progress_of best_of
      best_is h = rw h

      count_is : (progress_of s).count ≡ s.count
      unfolding progress_of
      count_is = refl

      -- tell

      told : (v : Verdict) → verdict (progress_of s) ≡ v → reply s tell ≡ same (tells v s.count)
      told v h = reply-same tell (searching (progress_of s)) (tells v s.count) opened (unfold step in refl) answer
        where
          stepped : (step (searching (progress_of s)) tell).answer ≡ tells (verdict (progress_of s)) (progress_of s).count
          stepped = unfold step in refl

          answer : (step (searching (progress_of s)) tell).answer ≡ tells v s.count
          answer = stepped ∙ ap (λ (w : Verdict). tells w (progress_of s).count) h ∙ ap (tells v) count_is

      pub tell_going : (s.depth ≡ 0 → ⊥) → reply s tell ≡ same (tells going_on s.count)
      tell_going h = told going_on (unfold verdict in rw (waiting h))

      pub tell_none : s.depth ≡ 0 → has_tour s ≡ false → reply s tell ≡ same (tells none s.count)
      tell_none h k = told none (unfold verdict in rw (empty h, none_is k))

      pub tell_best : s.depth ≡ 0 → has_tour s ≡ true
          → reply s tell ≡ same (tells (best (cost (network s.graph) (onetree.bytes s.best))) s.count)
      tell_best h k = told (best (cost (network s.graph) (onetree.bytes s.best))) (finds ∙ ap best paid)
        where
          finds : verdict (progress_of s) ≡ best (cost_of (active_network (progress_of s).opening) (bits s.graph.m s.best))
          finds = unfold verdict in rw (empty h, best_is k)

          -- an edge costs what it costs in the graph
          paid : cost_of (active_network (progress_of s).opening) (bits s.graph.m s.best)
              ≡ cost (network s.graph) (onetree.bytes s.best)
          paid = unfold cost_of cost progress_of opening_in in (unfold cost in cost-bits s.graph s.best)

      -- show

      shows : (l x : List ℕ) (a : machine.Answer) → shown_by (progress_of s) l (finished (progress_of s)) (progress_of s).incumbent
          ≡ record { state = searching (progress_of s); answer = a; lent = x } → (reply s (show l) ≡ same a) × (lent s (show l) ≡ x)
      shows l x a h = (
        reply-same (show l) (searching (progress_of s)) a opened (ap (λ (r : machine.Reply). r.state) stepped)
            (ap (λ (r : machine.Reply). r.answer) stepped),
        lent_same (show l) (searching (progress_of s)) x opened (ap (λ (r : machine.Reply). r.lent) stepped),
      )
        where
          stepped : step (searching (progress_of s)) (show l) ≡ record { state = searching (progress_of s); answer = a; lent = x }
          stepped =
              let e : step (searching (progress_of s)) (show l) ≡ shown_by (progress_of s) l (finished (progress_of s)) (progress_of s).incumbent
              = (unfold step in refl) in e ∙ h

      pub show_22 : (l : List ℕ) → (s.depth ≡ 0 → ⊥) → (reply s (show l) ≡ refuses s 22) × (lent s (show l) ≡ l)
      show_22 l h = shows l l (refused 22 0) (unfold shown_by in rw (waiting h))

      pub show_23 : (l : List ℕ) → s.depth ≡ 0 → has_tour s ≡ false → (reply s (show l) ≡ refuses s 23) × (lent s (show l) ≡ l)
      show_23 l h k = shows l l (refused 23 0) (unfold shown_by in rw (empty h, none_is k))

      m_is : (progress_of s).opening.graph.m ≡ s.graph.m
      unfolding progress_of opening_in
      m_is = refl

      pub show_11 : (l : List ℕ) → s.depth ≡ 0 → has_tour s ≡ true → (length l ≡ s.graph.m → ⊥)
          → (reply s (show l) ≡ refuses s 11) × (lent s (show l) ≡ l)
      show_11 l h k n = shows l l (refused 11 0) (unfold shown_by in rw (empty h, best_is k, off))
        where
          off : eqb (length l) (progress_of s).opening.graph.m ≡ false
          off = ne_eqb (length l) (progress_of s).opening.graph.m (λ i. n (i ∙ m_is))

      few : s.graph.m ≤ max_edges
      unfolding progress_of opening_in
      few = kept.opening.valid.few

      pub show_done : (l : List ℕ) → s.depth ≡ 0 → has_tour s ≡ true → length l ≡ s.graph.m
          → (reply s (show l) ≡ same accepted) × (lent s (show l) ≡ fit s.graph.m 0 s.best)
      show_done l h k n = let r = shows l (tour_bytes (bits s.graph.m s.best)) accepted accepts_it in (r.0, r.1 ∙ sym written)
        where
          on : eqb (length l) (progress_of s).opening.graph.m ≡ true
          on = eq-eqb (length l) (progress_of s).opening.graph.m (n ∙ sym m_is)

          accepts_it : shown_by (progress_of s) l (finished (progress_of s)) (progress_of s).incumbent
              ≡ record { state = searching (progress_of s); answer = accepted; lent = tour_bytes (bits s.graph.m s.best) }
          accepts_it = unfold shown_by in rw (empty h, best_is k, on)

          written : fit s.graph.m 0 s.best ≡ tour_bytes (bits s.graph.m s.best)
          written = tour_bytes_lem s.graph.m s.best (λ i b. fitting.best i (omega (arith, few)))

      -- the arguments of an open record are such as an opening accepts
      pub opening_fits : fault (opening_in s) ≡ 0
      opening_fits = fitting.opening

      -- the graph of an open record keeps to 'Legs and marks'
      pub graph-valid : Valid s.graph
      unfolding progress_of opening_in
      graph-valid = kept.opening.valid
