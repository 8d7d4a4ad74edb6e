pub mod Shape
pub mod Entry
pub mod Read
pub mod Post
pub mod Found
pub mod Walk
pub mod Parts
