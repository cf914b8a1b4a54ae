-- Notions of the contracts of private functions, and of how a fault of a lower crate becomes one of a run.
pub mod Faults
pub mod Reading
pub mod Searching
pub mod Answering
pub mod Saying
pub mod Scheduling
