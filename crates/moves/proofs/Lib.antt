-- The laws behind one step of the walk.
pub mod Moving
