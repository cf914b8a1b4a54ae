-- Notions of the contracts inside this crate: how far an agent has come.
pub mod Runners
