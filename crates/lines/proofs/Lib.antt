-- The laws of items and lines.
pub mod Signs
pub mod Writing
pub mod Items
pub mod Printed
