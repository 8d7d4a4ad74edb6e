pub mod Utf8
pub mod Scalars
pub mod White
pub mod Post
pub mod Checked
