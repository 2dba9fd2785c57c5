-- A plan squeezed after locking, and what is claimed of it.
pub mod Squeezed
pub mod Claims
