-- the passes of a node as in the reduced network, and on the small graph
pub mod Gaining
pub mod Passes
pub mod PassesComputed
-- THE MACHINE IN PLAIN WORDS IS THE MACHINE
pub mod MachineOver
-- passes and machine with no vertex inactive
pub mod PassesNone
