-- The theorems on a text that is read again.
pub mod Places
pub mod Items
pub mod Lines
pub mod First
pub mod Read
