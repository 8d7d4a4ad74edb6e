pub mod OrderLaws
pub mod EachLaws
pub mod Sorted
pub mod KeyedLaws
pub mod MergeLaws
mod LoopLaws
mod PartLaws
mod Examples
