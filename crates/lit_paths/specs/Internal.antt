-- Notions of private contracts: how walks, paths, combinations and totals are computed.
pub mod PathSteps
pub mod Makers
pub mod Walks
pub mod CandidateLists
pub mod Combining
pub mod AllPaths
pub mod Totals
pub mod Planned
pub mod Entered
