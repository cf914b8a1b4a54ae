pub mod Words
pub mod Answered
pub mod Internal
