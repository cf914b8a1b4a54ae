-- Notions of the contracts of private functions.
pub mod Command
