pub mod Examples
pub mod Sizes
pub mod MergeSizes
