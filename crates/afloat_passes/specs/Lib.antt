-- A node's passes over the active vertices (document 02's C-20). What a reader must believe: a pass and the passes of a node
pub mod Passing
-- and the machine that goes by these passes: nothing in it is numbered anew
pub mod MachineOver
-- What a node of the reduced network is in the network's numbers. (That passes and machine are those of the reduced network: proofs.)
pub mod Passes
