pub mod Order
pub mod Places
pub mod Merge
