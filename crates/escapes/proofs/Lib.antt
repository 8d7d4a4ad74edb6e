pub mod Digits
pub mod Encoding
pub mod Braces
pub mod Escapes
pub mod Unescaping
pub mod Entry
pub mod Cedar
pub mod Examples
