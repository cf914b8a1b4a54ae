pub mod Accounts
pub mod Desk
pub mod Internal
