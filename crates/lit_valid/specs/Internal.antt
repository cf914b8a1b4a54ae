-- A notion of the contracts inside this crate: runs on the paths of a combination.
pub mod GivenRuns
