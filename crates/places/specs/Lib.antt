-- What a place of the code is in the order.
pub mod Places
