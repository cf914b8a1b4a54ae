pub mod Pieces
pub mod Drawn
pub mod Hunted
pub mod Quick
pub mod Internal
