-- Notions of the contracts inside this crate: what is found in boxes, and in several sets of choices.
pub mod Merged
pub mod Shown
pub mod Risen
pub mod Gained
pub mod Boxed
pub mod Packed
pub mod Ranks
