pub mod Cutting
pub mod Rising
pub mod Places
pub mod Drawing
pub mod Ending
pub mod Staffed
pub mod Firsts
