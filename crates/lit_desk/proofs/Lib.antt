pub mod Equivalent
pub mod Lists
pub mod LeastTold
pub mod Fair
pub mod Moves
pub mod Places
pub mod Gathering
