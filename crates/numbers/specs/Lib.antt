pub mod Grammar
pub mod Digits
pub mod Twos
pub mod Integer
pub mod Decimal
