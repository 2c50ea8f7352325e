-- How large numbers get that are made of costs and ceilings alone. These follow from the limits by computation; code whose numbers must
-- fit cites them (charges, bounds and slack: specs/Fits of crate greedy). Assumes nothing.
use Rattle.std.specs.Prelude.{◌+◌, ◌*◌, ◌<◌, ◌≤◌}
use Rattle.std.proofs.Common.{arith}
use Rattle.graph.specs.Limits.{max_vertices, max_edges, max_cost, max_ceiling}

-- a cost is a signed number of 32 bits
pub cost_fits : max_cost < 2147483648
cost_fits = omega arith

-- a ceiling one of 64
pub ceiling_fits_lem : max_ceiling < 9223372036854775808
ceiling_fits_lem = omega arith

-- and so is the sum of any edges' costs, with one to spare
pub total_fits : max_cost * max_edges + 1 < 9223372036854775808
total_fits = omega arith

-- document 02, C-23: "On finding a round the ceiling becomes its cost": that of a tour is in a ceiling's range, with one to spare
pub tour_in_range : max_cost * max_vertices + 1 ≤ max_ceiling
tour_in_range = omega arith
