-- Bytes of an assignment under the words of locks.
pub mod Held
