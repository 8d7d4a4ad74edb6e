pub mod Wrote
pub mod Joining
pub mod Sink
pub mod Same
pub mod Ascii
