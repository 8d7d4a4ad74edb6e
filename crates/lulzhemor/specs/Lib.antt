pub mod Answer
pub mod Calls
