-- RFC 4180's grammar, and what the code that reads its fields answers, in reading order.
pub mod Grammar
pub mod Values
pub mod Reading
