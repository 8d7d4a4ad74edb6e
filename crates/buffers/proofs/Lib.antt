pub mod Choice
pub mod Appending
pub mod Equal
pub mod Skipping
pub mod Parts
pub mod Putting
