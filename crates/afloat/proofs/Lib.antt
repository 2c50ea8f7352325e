-- over the active vertices as in the reduced network, and in the compact one
pub mod Trees
pub mod Decided
pub mod Compact
pub mod Computed
-- the rulings with lifted multipliers (document 02's C-13), as in the reduced network
pub mod LiftedOver
-- what the values say, in document 02's words alone; with lifting
pub mod Meaning
pub mod LiftedMeaning
-- with no vertex inactive; with lifting
pub mod NoneAshore
pub mod LiftedNone
