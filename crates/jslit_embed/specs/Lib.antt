pub mod Handed
pub mod Why
