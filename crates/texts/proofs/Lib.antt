-- The laws of digits.
pub mod Decimal
