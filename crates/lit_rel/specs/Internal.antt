-- Notions of private contracts: given bytes, prefix states, false guards, and the steps that no source decides.
pub mod Given
pub mod PrefixStates
pub mod FalseGuards
pub mod Steps
