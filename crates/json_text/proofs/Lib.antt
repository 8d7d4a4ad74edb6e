pub mod Lengths
pub mod White
pub mod Numbers
pub mod HexDigits
pub mod Escaping
pub mod PlainRuns
pub mod Strings
pub mod Matching
pub mod Scalars
pub mod Rules
mod Walking
mod Examples
