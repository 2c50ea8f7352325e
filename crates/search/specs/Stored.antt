-- WHAT THE RECORD'S CHECK ACCEPTS, told by the machine's states: exactly the records of the states that fit a record (check_stored,
-- stored_check), and `decode` gives such a state back (decode-stored). Canonical says the same byte by byte. Assumes nothing.
use Rattle.std.specs.Prelude.{◌≡◌, true, ℕ, ◌+◌, ◌≤◌, length}
use Rattle.std.proofs.Common.{sym, ap, subst}
use Rattle.lists.specs.Bools.{bit_most}
use Rattle.graph.specs.Limits.{max_count}
use Rattle.tree_theory.specs.Inputs.{ceiling_fits}
use Rattle.machine.specs.Machine.{Opening, lifts, tidy, Progress, State, no_search, searching, held}
use Rattle.machine.specs.Calls.{fault}
use Rattle.machine.specs.Trimmed.{Trim, trimmed_trim}
use Rattle.machine.specs.Kept.{active_size, Nodes, AllOff, touching, Sized, KeptState}
use Rattle.search.specs.Record.{decode, encode}
use Rattle.search.specs.Canonical.{Canonical}
use Rattle.search.specs.Check.{check, check_yes, check_is}
use Rattle.search.specs.Accepted.{fits_range, range_fits, accepted_fault, held_same, fault_accepted}
use Rattle.search.specs.Inverse.{Typed, encode_canonical, decode-encode, encode-decode, decode-kept}
use Rattle.search.specs.declared.Search.{Search}

-- a search that fits a record
pub record Fitting (s : Progress) : Type 0 where
  -- the arguments are such as an opening accepts, and as the state holds them
  pub accepted : fault s.opening ≡ 0
  pub trim : held s.opening ≡ s.opening
  pub upper : ceiling_fits s.upper ≡ true
  pub depth : length s.stack ≤ active_size s.opening + 2
  pub nodes : Nodes (active_size s.opening) s.opening.graph.m s.stack
  -- each node excludes what touches a vertex ashore
  pub struck : AllOff s.opening.graph.m (touching s.opening) s.stack
  pub sized : Sized s.opening.graph.m s.incumbent
  pub count : s.count ≤ max_count

abbrev pub FittingState : State → Type 0
FittingState no_search = Unit {0}
FittingState (searching s) = Fitting s

-- a record of such a state
pub record Stored (r : Search) : Type 0 where
  pub state : State
  pub fits : FittingState state
  pub bytes : r ≡ encode state

kept_fitting : (s : State) → KeptState s → FittingState s
kept_fitting no_search h = tt
kept_fitting (searching s) h = record {
  accepted = accepted_fault s.opening h.opening;
  trim = held_same s.opening h.opening.trim h.opening.lifting;
  upper = range_fits s.upper h.upper;
  depth = h.depth;
  nodes = h.nodes;
  struck = h.struck;
  sized = h.sized;
  count = h.count;
}

held_trim : (o : Opening) → held o ≡ o → Trim o.graph
unfolding held
held_trim o e = subst Trim (ap (λ (p : Opening). p.graph) e) (trimmed_trim o.graph)

held_lifting : (o : Opening) → held o ≡ o → o.settings.lifting ≤ 1
unfolding held tidy
held_lifting o e = subst (λ (k : ℕ). k ≤ 1) (ap (λ (p : Opening). p.settings.lifting) e) (bit_most (lifts o.settings))

fitting_kept : (s : State) → FittingState s → KeptState s
fitting_kept no_search h = tt
fitting_kept (searching s) h = record {
  opening = fault_accepted s.opening (held_trim s.opening h.trim) (held_lifting s.opening h.trim) h.accepted;
  upper = fits_range s.upper h.upper;
  depth = h.depth;
  nodes = h.nodes;
  struck = h.struck;
  sized = h.sized;
  count = h.count;
}

pub check_stored : (r : Search) → Typed r → check r ≡ true → Stored r
check_stored r t e = record {
  state = decode r;
  fits = kept_fitting (decode r) (decode-kept r t (check_is r e));
  bytes = sym (encode-decode r t (check_is r e));
}

pub stored_check : (r : Search) → Stored r → check r ≡ true
stored_check r s =
    check_yes r (subst Canonical (sym s.bytes) (encode_canonical s.state (fitting_kept s.state s.fits)))

pub decode-stored : (s : State) → FittingState s → decode (encode s) ≡ s
decode-stored s h = decode-encode s (fitting_kept s h)
