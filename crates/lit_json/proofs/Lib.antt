pub mod AgentLemmas
pub mod ConditionLemmas
pub mod FaultLemmas
pub mod RegisterLemmas
pub mod StatementLemmas
pub mod ToldLemmas
