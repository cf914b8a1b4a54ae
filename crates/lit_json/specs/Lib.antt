pub mod StatementData
pub mod Told
pub mod Line
