pub mod ObservedLemmas
pub mod Takings
pub mod RunLemmas
pub mod CompletionLemmas
pub mod OneOutcome
