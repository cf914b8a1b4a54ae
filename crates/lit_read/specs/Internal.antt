-- Notions of private contracts: the reader's state while it reads. The modules beside this one have the definitions.
pub mod FirstToken
pub mod FormOfTokens
pub mod Marks
pub mod Built
pub mod State
pub mod Views
pub mod LineSteps
