-- RFC 4180's rules as they are printed.
pub mod Abnf
