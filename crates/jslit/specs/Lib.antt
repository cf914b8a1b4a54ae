pub mod Devices
pub mod QuickAnswer
pub mod Answer
pub mod Schedule
pub mod InterleavingAnswer
pub mod RunAnswer
pub mod ProgramAnswer
pub mod Internal
