pub mod Json
pub mod Parse
pub mod Number
pub mod Text
pub mod Syntax
pub mod Post
pub mod Matching
pub mod Walk
