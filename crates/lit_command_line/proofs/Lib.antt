pub mod NumberFlags
pub mod AskedLines
