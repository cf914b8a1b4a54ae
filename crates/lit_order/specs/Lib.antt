pub mod MemoryOrder
pub mod Forcing
pub mod Forced
pub mod Internal
