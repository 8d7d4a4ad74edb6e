pub mod Scans
pub mod GrammarLaws
pub mod TwosLaws
pub mod IntegerLaws
pub mod Dotless
pub mod ExponentLaws
pub mod DecimalLaws
mod Examples
