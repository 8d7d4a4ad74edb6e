pub mod Order
pub mod Search
pub mod BothAscending
pub mod Stretches
pub mod Looks
pub mod Examples
