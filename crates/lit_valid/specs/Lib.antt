pub mod ValidExecution
pub mod Completion
pub mod Gives
pub mod Entry
pub mod Class
pub mod PartOutcome
pub mod Laws
pub mod Internal
