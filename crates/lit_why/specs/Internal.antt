-- Notions of the contracts inside this crate: steps of derivations, and which of their lines are used; chains of so many steps; races
-- from one event on; what refuses a part; the domains that a search begins with, what they say of
-- attempts, and how lists of attempts and of cases grow; the relations of what is given in a box.
pub mod Added
pub mod Cutting
pub mod Deriving
pub mod Domains
pub mod UsedLines
pub mod Racing
pub mod Reaching
pub mod Refusing
pub mod Relations
pub mod Trials
pub mod Unmixing
