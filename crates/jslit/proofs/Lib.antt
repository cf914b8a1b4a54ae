mod Statuses
pub mod Refusals
pub mod Completeness
pub mod TestAnswers
pub mod InputText
pub mod QuickAnswers
pub mod OneAnswer
pub mod Schedules
pub mod Running
pub mod Finishing
pub mod Answered
