-- Notions of the contracts inside this crate: workers before and after their calls.
pub mod Workers
