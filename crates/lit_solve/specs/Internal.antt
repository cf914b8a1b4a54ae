-- Notions of the contracts inside this crate: frames, and pruning them; filling reads; what domains say of outcomes; the cut of a
-- range into boxes.
pub mod Frames
pub mod Pruning
pub mod Filling
pub mod Fixpoint
pub mod Leaves
pub mod ConditionValues
pub mod Searching
pub mod Descending
pub mod Cut
pub mod SoundRange
pub mod Observation
pub mod Independent
pub mod Numbering
pub mod ReadValues
pub mod Product
