-- Texts, decimals and lines as lists of bytes.
pub mod Texts
