pub mod AnswerText
pub mod Example
pub mod OtherCondition
pub mod Explained
pub mod Faults
pub mod Internal
