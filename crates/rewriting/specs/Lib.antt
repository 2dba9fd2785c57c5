-- What the functions say that rewrite a file, in reading order.
pub mod Written
pub mod Moved
