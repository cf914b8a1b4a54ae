pub mod Interleaving
pub mod Sequential
pub mod InTurn
pub mod Internal
