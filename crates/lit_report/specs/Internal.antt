-- Notions of the contracts of private functions.
pub mod Pages
pub mod FirstEntry
pub mod Judging
