-- Notions of the contracts inside this crate: the words of a desk, the rule that all steps of threads preserve, and these steps.
pub mod Gathered
pub mod Words
pub mod Rule
pub mod Steps
pub mod Place
pub mod Opened
