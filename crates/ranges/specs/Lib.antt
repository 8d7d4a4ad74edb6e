pub mod Ranges
pub mod EscapedAnywhere
pub mod FirstOnly
pub mod Common
pub mod Hidden
pub mod Look
