pub mod ExampleLemmas
pub mod LineLemmas
pub mod SubjectLemmas
pub mod TextLemmas
