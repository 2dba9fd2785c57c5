-- Laws of a pick among listed variables.
pub mod Picking
