-- What the loop keeps of the log so far: for each edge a ring of 32 places, of which the first w are used, the place of the oldest of w, how many
-- times it holds, and the cost. An entry takes the place of the oldest of w. Nothing here grows with the log.
-- Definitions only.
use Rattle.std.specs.Prelude.{◌≡◌, List, [], ◌∷◌, ℕ, zero, suc, ◌+◌, ◌-◌, ◌<◌, ◌≤◌, cond, ltb, min, get_or, set, take, replicate, Option, Some, None, ℤ, pos}
use Rattle.graph.specs.Limits.{max_edges}
use Rattle.recent.specs.Costs.{Entry, greatest_or, recent_costs}
use Rattle.recent.specs.Answers.{max_window, Reply, entry_ok, bad_from, unless_bad}
use Rattle.recent.specs.declared.Ring.{Ring}

-- what is kept of the log so far: of each edge the ring, and the cost
pub record Window : Type 0 where
  pub rings : List Ring
  pub costs : List ℤ

abbrev pub window_of : List Ring → List ℤ → Window
window_of rings costs = record { rings = rings; costs = costs }

abbrev pub entry_of : ℕ → ℤ → Entry
entry_of edge time = record { edge = edge; time = time }

-- the place of the edge that an entry names; none where it is refused
unfoldable pub entry_place : ℕ → Entry → Option ℕ
unfolding entry_ok
entry_place m e = cond (entry_ok m e) (Some (e.edge - 1)) None

-- one edge's ring: nothing entered; one time more; and the last w times that it holds
unfoldable pub no_times : Ring
no_times = record { times = replicate max_window (pos 0); next = 0; held = 0 }

unfoldable pub stored : ℕ → Ring → ℤ → Ring
stored w r t = record { times = set r.times r.next t; next = cond (ltb (r.next + 1) w) (r.next + 1) 0; held = min (r.held + 1) w }

unfoldable pub held : Ring → List ℤ
held r = take r.held r.times

-- nothing entered, and the graph's costs
unfoldable pub unused : List ℤ → Window
unfolding no_times
unused cost = record { rings = replicate max_edges no_times; costs = cost }

-- the ring of the edge at place k
abbrev pub ring_of : List Ring → ℕ → Ring
ring_of rings k = get_or rings k (record { times = []; next = 0; held = 0 })

-- one entry, of the edge at place k
unfoldable pub entered_at : ℕ → Window → ℕ → ℤ → Window
unfolding stored held greatest_or
entered_at w x k t =
    record {
      rings = set x.rings k (stored w (ring_of x.rings k) t);
      costs = set x.costs k (greatest_or (pos 0) (held (stored w (ring_of x.rings k) t)));
    }

abbrev pub entered : ℕ → Window → Entry → Window
entered w x e = entered_at w x (e.edge - 1) e.time

-- what one entry asks: an edge's place, whose ring goes through w places
pub record CanEnter (w k : ℕ) (x : Window) : Type 0 where
  pub edge : k < max_edges
  pub next : (ring_of x.rings k).next < w
  pub held : (ring_of x.rings k).held ≤ w

-- the entries of a log, one after the other
unfoldable pub entered_all : ℕ → Window → List Entry → Window
unfolding entered_at
entered_all w x [] = x
entered_all w x (e ∷ log) = entered_all w (entered w x e) log

-- ---- what the loop promises: it stops at the first entry that is refused, or at the log's end

-- the log before place p, places counted from 1; all of it where p is 0
abbrev pub until : ℕ → List Entry → List Entry
until zero log = log
until (suc p) log = take p log

pub record Replayed (w m : ℕ) (cost : List ℤ) (log : List Entry) (reply : Reply) (costs : List ℤ) : Type 0 where
  pub stops : reply ≡ unless_bad (bad_from m 1 log)
  -- it made the entries one after the other
  pub folded : costs ≡ (entered_all w (unused cost) (until (bad_from m 1 log) log)).costs
  -- "the costs equal those worked out afresh from the log so far"
  pub afresh : costs ≡ recent_costs w cost (until (bad_from m 1 log) log)
